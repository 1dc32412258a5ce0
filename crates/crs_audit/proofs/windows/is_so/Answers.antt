use Rattle.std.proofs.Common.{rules, ◌≡◌, ◌≤◌, ℕ, false, map, sym, ap, subst, List}
use Rattle.std.specs.Prelude.{IsTrue, ◌↔◌, ℤ, ◌<ℤ◌, IfSome, ◌==◌}
use Rattle.std.proofs.lemmas.Int.{to_z-of_z, by_lt_z}
use mir.Syntax.{w64}
use mir.Val.{to_z, of_z}
use lib.Signed.{le_z}
use lib.Dec.{T}
use Rattle.crs_base.specs.declared.symbols.Sym.{Sym}
use Rattle.crs_base.specs.Entry.{Entry}
use Rattle.crs_model.specs.declared.chronicle.Body.{Body as CodeBody}
use Rattle.crs_model.specs.declared.chronicle.Body.TheVariants.{Hold as CodeHold}
use Rattle.crs_model.specs.Bindings.{look_of}
use Rattle.crs_model.specs.SeenModels.{body_of, pattern_of, term_of}
use Rattle.crs_model.specs.Verdicts.{BodyIsBound, IsSo, IsCount}
use Rattle.crs_model.specs.Ready.{HoldsOne}
use Rattle.crs_audit.specs.Runs.{entries_of}
use Rattle.crs_audit.specs.CitedDates.{dated_in}
use Rattle.crs_audit.specs.ClaimWindows.{settled_in}
use Rattle.crs_audit.specs.Counted.{AreCounted}
use Rattle.crs_audit.specs.Changes.{IsTurn, Brings, IsKept}
use Rattle.crs_audit.proofs.Stretches.{counted, counted_once, all_kept, kept_all}
use Rattle.crs_audit.proofs.windows.is_so.Goals as goal

not_le : (t u : ℤ) → le_z t u ≡ false → u <ℤ t
not_le t u f = by_lt_z u t (λ l. l) (λ g. absurd (subst T f g.le))

none_is : (n : ℕ) → IsTrue (n == 0) → n ≡ 0
none_is n t = search (rules, t)

is_none : (n : ℕ) → n ≡ 0 → IsTrue (n == 0)
is_none n e = search (rules, e)

pub returns-in-NoEvent : goal.returns-in-NoEvent
returns-in-NoEvent c =
    let look = look_of c.args.binding.now in
    let es : List (Entry Sym) = entries_of c.args.by_key.now in
    let low = to_z-of_z w64 c.args.from (search rules) in
    let high = to_z-of_z w64 c.args.to (search rules) in
    let n = c.count_in.result in
    let p = pattern_of c.in-NoEvent.pattern in
    let k : AreCounted look p c.args.at.accepted (dated_in c.args.from c.args.to es) n = rw (low, high) at c.count_in.ensures in
    let told : IsTrue (n == 0) ↔ IsCount (settled_in c.args.at es) look p c.args.from c.args.to 0 = (
      λ t. subst (IsCount (settled_in c.args.at es) look p c.args.from c.args.to) (none_is n t) (counted c.args.at es c.args.from c.args.to c.requires.settled look p n k),
      λ z. is_none n (sym (counted_once c.args.at es c.args.from c.args.to c.requires.settled look p n 0 k z)),
    ) in
    subst (λ (b : CodeBody). IsTrue (n == 0) ↔ IsSo (settled_in c.args.at es) look (body_of b) c.args.from c.args.to) (sym c.in-NoEvent.is) told

pub returns-in-Occurs : goal.returns-in-Occurs
returns-in-Occurs c =
    let look = look_of c.args.binding.now in
    let es : List (Entry Sym) = entries_of c.args.by_key.now in
    let low = to_z-of_z w64 c.args.from (search rules) in
    let high = to_z-of_z w64 c.args.to (search rules) in
    let n = c.count_in-n.result in
    let p = pattern_of c.in-Occurs.pattern in
    let k : AreCounted look p c.args.at.accepted (dated_in c.args.from c.args.to es) n = rw (low, high) at c.count_in-n.ensures in
    let told : IsTrue c.is_enough.result ↔ ((m : ℕ) × IsCount (settled_in c.args.at es) look p c.args.from c.args.to m × (c.in-Occurs.least ≤ m) × IfSome c.in-Occurs.most (λ o. m ≤ o)) = (
      λ t. let r = c.is_enough.ensures.0 t in (n, counted c.args.at es c.args.from c.args.to c.requires.settled look p n k, r.0, r.1),
      λ s.
          let same = counted_once c.args.at es c.args.from c.args.to c.requires.settled look p n s.0 k s.1 in
          c.is_enough.ensures.1 (subst (λ (m : ℕ). (c.in-Occurs.least ≤ m) × IfSome c.in-Occurs.most (λ o. m ≤ o)) same (s.2, s.3)),
    ) in
    subst (λ (b : CodeBody). IsTrue c.is_enough.result ↔ IsSo (settled_in c.args.at es) look (body_of b) c.args.from c.args.to) (sym c.in-Occurs.is) told

pub returns-else-to-from : goal.returns-else-to-from
returns-else-to-from c =
    let look = look_of c.args.binding.now in
    let es : List (Entry Sym) = entries_of c.args.by_key.now in
    let low = to_z-of_z w64 c.args.from (search rules) in
    let high = to_z-of_z w64 c.args.to (search rules) in
    let some : c.args.from <ℤ c.args.to = not_le c.args.to c.args.from (rw (low, high) at c.if-to-from.false) in
    let name = c.in-Hold.name in
    let value = term_of c.in-Hold.value in
    let P = IsTurn look name (map term_of c.as_slice.result.now) c.args.at.accepted in
    let k : IsTrue c.holds.result ↔ IsKept P (Brings look value) es (to_z w64 (of_z w64 c.args.from)) (to_z w64 (of_z w64 c.args.to)) = c.holds.ensures in
    let terms : map term_of c.as_slice.result.now ≡ map term_of c.in-Hold.terms = ap (map term_of) c.as_slice.ensures in
    let l : IsTrue c.holds.result ↔ IsKept (IsTurn look name (map term_of c.in-Hold.terms) c.args.at.accepted) (Brings look value) es c.args.from c.args.to = rw (low, high, terms) at k in
    let bound : BodyIsBound look (body_of (CodeHold name c.in-Hold.terms c.in-Hold.value)) = subst (λ (b : CodeBody). BodyIsBound look (body_of b)) c.in-Hold.is c.requires.bound in
    let plain : HoldsOne (body_of (CodeHold name c.in-Hold.terms c.in-Hold.value)) = subst (λ (b : CodeBody). HoldsOne (body_of b)) c.in-Hold.is c.requires.plain in
    let told : IsTrue c.holds.result ↔ IsSo (settled_in c.args.at es) look (body_of (CodeHold name c.in-Hold.terms c.in-Hold.value)) c.args.from c.args.to = (
      λ t. all_kept c.args.at es c.args.from c.args.to c.requires.settled look name (map term_of c.in-Hold.terms) value (plain.1, plain.0) some (l.0 t),
      λ s. l.1 (kept_all c.args.at es c.args.from c.args.to c.requires.settled look name (map term_of c.in-Hold.terms) value (plain.1, plain.0) some bound s),
    ) in
    subst (λ (b : CodeBody). IsTrue c.holds.result ↔ IsSo (settled_in c.args.at es) look (body_of b) c.args.from c.args.to) (sym c.in-Hold.is) told
