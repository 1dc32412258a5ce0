use Rattle.std.proofs.Common.{◌≡◌, ℕ, ◌≤◌, ◌<◌, ◌+◌, ◌-◌, ◌^◌, ◌++◌, [], true, false, nat_le, List, length, sym, ap, subst, ◌∙◌, arith}
use Rattle.std.proofs.lemmas.List.{map-append, length-append}
use Rattle.std.proofs.lemmas.Bool.Decides.{nat_tests}
use Rattle.crs_base.specs.declared.symbols.Sym.{Sym}
use Rattle.crs_base.specs.Entry.{Entry}
use Rattle.crs_base.specs.Seen.{entry_of}
use Rattle.crs_base.specs.Words.{IsIn}
use Rattle.crs_base.specs.Values.{NewIs}
use Rattle.crs_history.specs.declared.track.Change.{Change}
use Rattle.crs_history.specs.Looking.{AllBring}
use Rattle.crs_history.specs.Runs.{changes_of}
use Rattle.crs_history.proofs.Runs.{Brings, last_yes, last_brings, last_repeats}
use Rattle.crs_history.proofs.stretch.Stretch.all_bring.Goals as goal

told : (m n : ℕ) → nat_le m n ≡ true → m ≤ n
told m n h = grind (arith, nat_tests)

not_told : (m n : ℕ) → nat_le m n ≡ false → m ≤ n → ⊥
not_told m n h k = grind (arith, nat_tests)

others : (front back : List Change) → length front + length back - 1 ≡ length (front ++ back) - 1
others front back = ap (λ k. k - 1) (sym (length-append front back))

seen : (front back : List Change) (es : List (Entry Sym)) → changes_of front ++ changes_of back ≡ es → changes_of (front ++ back) ≡ es
seen front back es e = map-append (λ c. entry_of c.entry.value) front back ∙ e

pub returns-in-None-clause-yes : goal.returns-in-None-clause-yes
returns-in-None-clause-yes c = λ _ e i.
    let front = c.self.inside.front.now in
    let back = c.self.inside.back.now in
    let none : c.args.self.now ≡ [] = sym (seen front back c.args.self.now c.self.view_is) ∙ ap changes_of (c.last_of.ensures.none c.in-None.is) in
    absurd (subst (IsIn e) none i)

pub returns-then-brings-clause-yes : goal.returns-then-brings-clause-yes
returns-then-brings-clause-yes c = λ h.
    let front = c.self.inside.front.now in
    let back = c.self.inside.back.now in
    let l = c.in-Some.last.now in
    let new : Brings c.args.value l = subst (λ w. NewIs c.args.value (entry_of w)) c.deref.ensures (c.brings.ensures.yes c.if-brings.true) in
    subst (AllBring c.args.value) (seen front back c.args.self.now c.self.view_is)
    (last_yes c.args.value (front ++ back) l c.in-Some.ensures.some (length front + length back - 1) (others front back) c.self.invariant (told _ _ h) new)

pub returns-then-brings-clause-no : goal.returns-then-brings-clause-no
returns-then-brings-clause-no c = λ h all.
    let front = c.self.inside.front.now in
    let back = c.self.inside.back.now in
    let l = c.in-Some.last.now in
    let small : length front + length back - 1 < 2 ^ 64 = omega arith in
    not_told _ _ h (last_repeats c.args.value (front ++ back) l c.in-Some.ensures.some (length front + length back - 1) (others front back) c.self.invariant small
    (subst (AllBring c.args.value) (sym (seen front back c.args.self.now c.self.view_is)) all))

pub returns-else-brings-clause-no : goal.returns-else-brings-clause-no
returns-else-brings-clause-no c = λ f all.
    let front = c.self.inside.front.now in
    let back = c.self.inside.back.now in
    let l = c.in-Some.last.now in
    let new : Brings c.args.value l = last_brings c.args.value (front ++ back) l c.in-Some.ensures.some (length front + length back - 1) (others front back) c.self.invariant
    (subst (AllBring c.args.value) (sym (seen front back c.args.self.now c.self.view_is)) all) in
    c.brings.ensures.no f (subst (λ w. NewIs c.args.value (entry_of w)) (sym c.deref.ensures) new)
