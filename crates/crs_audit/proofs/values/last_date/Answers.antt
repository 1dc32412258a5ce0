use Rattle.std.proofs.Common.{map, sym, subst, arith, Some}
use Rattle.crs_base.specs.declared.entry.Entry.{Entry as CodeEntry}
use Rattle.crs_base.specs.Seen.{entry_of}
use Rattle.crs_model.specs.SeenModels.{term_of}
use Rattle.crs_model.specs.Bindings.{look_of}
use Rattle.crs_audit.specs.Runs.{entries_of}
use Rattle.crs_audit.specs.Changes.{IsTurn, IsLastDate}
use Rattle.crs_audit.proofs.Turning.{none_such, one_less, last_there}
use Rattle.crs_audit.proofs.values.last_date.Goals as goal

pub returns-then-is_turn : goal.returns-then-is_turn
returns-then-is_turn c =
    let P = IsTurn (look_of c.args.wanted.now.binding.now) c.args.wanted.now.name (map term_of c.args.wanted.now.terms.now) c.args.accepted in
    let r = c.index-entries-n.result in
    let p : P (entry_of r.value) = subst (λ (x : CodeEntry). P (entry_of x)) c.deref-entry.ensures (c.is_turn.ensures.0 c.if-is_turn.true) in
    subst (λ (x : CodeEntry). IsLastDate P (entries_of c.args.entries.now) (Some x.date)) (sym c.deref-entry.ensures)
    (last_there P c.args.entries.now c.loop-n.n r c.loop-n-test.true c.loop-n.invariant.within c.index-entries-n.is p c.requires c.loop-n.invariant.none)

pub loop-n-preserved : goal.loop-n-preserved
loop-n-preserved c =
    let P = IsTurn (look_of c.args.wanted.now.binding.now) c.args.wanted.now.name (map term_of c.args.wanted.now.terms.now) c.args.accepted in
    let r = c.index-entries-n.result in
    record {
      within = omega arith;
      none = one_less P c.args.entries.now c.loop-n.n r c.loop-n-test.true c.loop-n.invariant.within c.index-entries-n.is
          (λ p. let t = c.is_turn.ensures.1 (subst (λ (x : CodeEntry). P (entry_of x)) (sym c.deref-entry.ensures) p) in let f = c.if-is_turn.false in cc) c.loop-n.invariant.none;
    }

pub returns : goal.returns
returns c =
    let P = IsTurn (look_of c.args.wanted.now.binding.now) c.args.wanted.now.name (map term_of c.args.wanted.now.terms.now) c.args.accepted in
    none_such P c.args.entries.now c.loop-n.n c.loop-n-test.false c.loop-n.invariant.none
