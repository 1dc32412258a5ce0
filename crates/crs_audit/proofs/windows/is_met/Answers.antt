use Rattle.std.proofs.Common.{rules, map, subst, Some, List}
use Rattle.std.specs.Prelude.{IsTrue, ◌↔◌, ℤ, pos, ◌≤ℤ◌}
use Rattle.std.proofs.lemmas.Int.{to_z-of_z}
use mir.Syntax.{w64}
use mir.Val.{to_z, of_z}
use Rattle.crs_base.specs.declared.symbols.Sym.{Sym}
use Rattle.crs_base.specs.Entry.{Entry}
use Rattle.crs_base.specs.Seen.{entry_of}
use Rattle.crs_model.specs.Bindings.{look_of}
use Rattle.crs_model.specs.SeenModels.{window_of}
use Rattle.crs_model.specs.Partial.{Partial, at}
use Rattle.crs_model.specs.Verdicts.{IsSo}
use Rattle.crs_audit.specs.Runs.{entries_of}
use Rattle.crs_audit.specs.ClaimWindows.{settled_in}
use Rattle.crs_audit.proofs.Stretches.{below_date, above_date, one_anchor}
use Rattle.crs_audit.proofs.windows.is_met.Goals as goal

pub returns-then-at-to_date : goal.returns-then-at-to_date
returns-then-at-to_date c =
    let a : Partial Sym = map Some (map (λ e. entry_of e.value) c.args.entries.now) in
    let w = window_of c.args.window.now in
    let high = to_z-of_z w64 c.date_of-to.result (search rules) in
    let e = rw high at c.to_date.ensures in (
      λ t. absurd (cc),
      λ m.
          let same = one_anchor (at a w.to.event) m.to c.date_of-to.result w.to.offset m.stretch.ends c.date_of-to.ensures.at in
          absurd (above_date c.date_of-to.result c.to_date.result c.args.at.horizon e c.if-at-to_date.true (subst (λ (z : ℤ). z ≤ℤ pos c.args.at.horizon) same m.settled)),
    )

pub is_so-requires-clause-settled : goal.is_so-requires-clause-settled
is_so-requires-clause-settled c =
    below_date (to_z w64 (of_z w64 c.date_of-to.result)) c.to_date.result c.args.at.horizon c.to_date.ensures c.if-at-to_date.false

pub returns : goal.returns
returns c =
    let look = look_of c.args.binding.now in
    let es : List (Entry Sym) = entries_of c.args.by_key.now in
    let a : Partial Sym = map Some (map (λ e. entry_of e.value) c.args.entries.now) in
    let w = window_of c.args.window.now in
    let from = c.date_of-from.result in
    let to = c.date_of-to.result in
    let low = to_z-of_z w64 from (search rules) in
    let high = to_z-of_z w64 to (search rules) in
    let k : IsTrue c.is_so.result ↔ IsSo (settled_in c.args.at es) look w.body from to = rw (low, high) at c.is_so.ensures in
    let e = rw high at c.to_date.ensures in (
      λ t. record {
        from = from;
        to = to;
        stretch = record { starts = c.date_of-from.ensures.at; ends = c.date_of-to.ensures.at };
        bound = c.requires.able.bound;
        settled = below_date to c.to_date.result c.args.at.horizon e c.if-at-to_date.false;
        so = k.0 t;
      },
      λ m.
          let first = one_anchor (at a w.from.event) m.from from w.from.offset m.stretch.starts c.date_of-from.ensures.at in
          let last = one_anchor (at a w.to.event) m.to to w.to.offset m.stretch.ends c.date_of-to.ensures.at in
          k.1 (subst (λ (y : ℤ). IsSo (settled_in c.args.at es) look w.body from y) last (subst (λ (x : ℤ). IsSo (settled_in c.args.at es) look w.body x m.to) first m.so)),
    )
