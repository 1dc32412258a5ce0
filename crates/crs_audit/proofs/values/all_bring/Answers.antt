use Rattle.std.proofs.Common.{rules, map, sym, subst}
use Rattle.crs_base.specs.declared.entry.Entry.{Entry as CodeEntry}
use Rattle.crs_base.specs.declared.symbols.Sym.{Sym}
use Rattle.crs_base.specs.Entry.{Entry}
use Rattle.crs_base.specs.Seen.{entry_of}
use Rattle.crs_model.specs.SeenModels.{term_of}
use Rattle.crs_model.specs.Bindings.{look_of}
use Rattle.crs_audit.specs.Changes.{IsTurn, Brings}
use Rattle.crs_audit.proofs.Turning.{seen, holds_there, holds_on, holds_of_all}
use Rattle.crs_audit.proofs.values.all_bring.Goals as goal

pub returns-then-not-is_kept : goal.returns-then-not-is_kept
returns-then-not-is_kept c =
    let look = look_of c.args.wanted.now.binding.now in
    let R = λ (e : Entry Sym). IsTurn look c.args.wanted.now.name (map term_of c.args.wanted.now.terms.now) c.args.accepted e → Brings look (term_of c.args.wanted.now.value) e in (
      λ t. absurd (cc),
      λ h.
          let p = holds_there seen R c.args.entries.now c.loop-entry.entry-index c.entry-item.result c.loop-entry-test.true c.entry-item.is h in
          let t = c.is_kept.ensures.1 (subst (λ (x : CodeEntry). R (entry_of x)) (sym c.deref.ensures) p) in
          let f = c.if-not-is_kept.true in
          cc,
    )

pub loop-entry-preserved : goal.loop-entry-preserved
loop-entry-preserved c =
    let look = look_of c.args.wanted.now.binding.now in
    let R = λ (e : Entry Sym). IsTurn look c.args.wanted.now.name (map term_of c.args.wanted.now.terms.now) c.args.accepted e → Brings look (term_of c.args.wanted.now.value) e in
    let p : R (entry_of c.entry-item.result.value) = subst (λ (x : CodeEntry). R (entry_of x)) c.deref.ensures (c.is_kept.ensures.0 c.if-not-is_kept.false) in
    holds_on seen R c.args.entries.now c.loop-entry.entry-index c.entry-item.result c.loop-entry-test.true c.entry-item.is p c.loop-entry.invariant

pub returns : goal.returns
returns c =
    let look = look_of c.args.wanted.now.binding.now in
    let R = λ (e : Entry Sym). IsTurn look c.args.wanted.now.name (map term_of c.args.wanted.now.terms.now) c.args.accepted e → Brings look (term_of c.args.wanted.now.value) e in
    let all = holds_of_all seen R c.args.entries.now c.loop-entry.entry-index c.loop-entry-test.false c.loop-entry.invariant in
    (λ t. all, λ h. search rules)
