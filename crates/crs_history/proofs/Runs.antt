-- Changes that are each told how many right before them bring their value: parts of a track, and what its last change tells.
use Rattle.std.proofs.Common.{◌≡◌, ℕ, ◌≤◌, ◌<◌, ◌+◌, ◌-◌, ◌^◌, Bool, true, false, cond, nat_lt, nat_le, List, [], ◌∷◌, ◌++◌, length, filter, take, map, get_or, refl, sym, ap, subst, zero, suc, inl, inr, arith}
use Rattle.std.specs.Prelude.{min}
use Rattle.std.proofs.lemmas.Bool.Decides.{nat_tests}
use Rattle.std.specs.List.{AllByRecursion}
use Rattle.std.proofs.lemmas.List.{length-append}
use Rattle.crs_base.specs.declared.symbols.Sym.{Sym}
use Rattle.crs_base.specs.Seen.{entry_of}
use Rattle.crs_base.specs.Values.{NewIs}
use Rattle.crs_base.proofs.Words.{each_from_in, in_from_each}
use Rattle.crs_history.specs.declared.track.Change.{Change}
use Rattle.crs_history.specs.Dates.{IsByDate}
use Rattle.crs_history.specs.Looking.{AllBring}
use Rattle.crs_history.specs.Runs.{told_of, changes_of, Told, Follows, IsFollowedBy, AreRuns, EndsIn, is_early, is_late}

late_on : (a b date : ℕ) → a ≤ b → nat_le date a ≡ true → nat_le date b ≡ true
late_on a b date h k = grind (arith, nat_tests)

not_early_on : (a b date : ℕ) → a ≤ b → nat_lt a date ≡ false → nat_lt b date ≡ false
not_early_on a b date h k = grind (arith, nat_tests)

-- behind one that is late all are
all_late : (date d : ℕ) (cs : List Change) → AllByRecursion (λ e. d ≤ e.date) (changes_of cs) → nat_le date d ≡ true → filter (is_late date) cs ≡ cs
all_late date d [] h k = refl
all_late date d (c ∷ cs) h k = simp (late_on d c.entry.value.date date h.0 k) (ap (λ w. c ∷ w) (all_late date d cs h.1 k))

-- behind one that isn't early none is
none_early : (date d : ℕ) (cs : List Change) → AllByRecursion (λ e. d ≤ e.date) (changes_of cs) → nat_lt d date ≡ false → filter (is_early date) cs ≡ []
none_early date d [] h k = refl
none_early date d (c ∷ cs) h k = simp (not_early_on d c.entry.value.date date h.0 k) (none_early date d cs h.1 k)

pub runs_late : (date : ℕ) (cs : List Change) → IsByDate (changes_of cs) → AreRuns cs → AreRuns (filter (is_late date) cs)
runs_late date [] s h = tt
runs_late date (c ∷ cs) s h = by (is_late date c) refl (runs_late date cs s.1 h.1)
  where
    by : (b : Bool) → is_late date c ≡ b → AreRuns (filter (is_late date) cs) → AreRuns (cond b (c ∷ filter (is_late date) cs) (filter (is_late date) cs))
    by true e rest = subst (λ (w : List Change). AreRuns (c ∷ w)) (sym (all_late date c.entry.value.date cs s.0 e)) h
    by false e rest = rest

followed_early : (date : ℕ) (b : Change) (cs : List Change) → IsByDate (changes_of cs) → IsFollowedBy (told_of b) (map told_of cs) → IsFollowedBy (told_of b) (map told_of (filter (is_early date) cs))
followed_early date b [] s h = tt
followed_early date b (c ∷ cs) s h = by (is_early date c) refl
  where
    by : (q : Bool) → is_early date c ≡ q → IsFollowedBy (told_of b) (map told_of (cond q (c ∷ filter (is_early date) cs) (filter (is_early date) cs)))
    by true e = h
    by false e = subst (λ (w : List Change). IsFollowedBy (told_of b) (map told_of w)) (sym (none_early date c.entry.value.date cs s.0 e)) tt

pub runs_early : (date : ℕ) (cs : List Change) → IsByDate (changes_of cs) → AreRuns cs → AreRuns (filter (is_early date) cs)
runs_early date [] s h = tt
runs_early date (c ∷ cs) s h = by (is_early date c) refl (runs_early date cs s.1 h.1)
  where
    by : (q : Bool) → is_early date c ≡ q → AreRuns (filter (is_early date) cs) → AreRuns (cond q (c ∷ filter (is_early date) cs) (filter (is_early date) cs))
    by true e rest = (followed_early date c cs s.1 h.0, rest)
    by false e rest = subst AreRuns (sym (none_early date c.entry.value.date cs s.0 e)) tt

pub runs_take : (n : ℕ) (cs : List Change) → AreRuns cs → AreRuns (take n cs)
runs_take zero cs h = tt
runs_take (suc n) [] h = tt
runs_take (suc n) (c ∷ cs) h = (followed n cs h.0, runs_take n cs h.1)
  where
    followed : (m : ℕ) (ds : List Change) → IsFollowedBy (told_of c) (map told_of ds) → IsFollowedBy (told_of c) (map told_of (take m ds))
    followed zero ds k = tt
    followed (suc m) [] k = tt
    followed (suc m) (d ∷ ds) k = k

-- a change is added behind the last, or to none
pub runs_push : (cs : List Change) (l n : Change) (k : ℕ) → AreRuns cs → k + 1 ≡ length cs → l ≡ get_or cs k l → Follows (told_of l) (told_of n) → AreRuns (cs ++ n ∷ [])
runs_push [] l n k h long is f = absurd (omega arith)
runs_push (c ∷ []) l n zero h long is f = (subst (λ (w : Change). Follows (told_of w) (told_of n)) is f, (tt, tt))
runs_push (c ∷ []) l n (suc k) h long is f = absurd (omega arith)
runs_push (c ∷ d ∷ cs) l n zero h long is f = absurd (omega arith)
runs_push (c ∷ d ∷ cs) l n (suc k) h long is f = (h.0, runs_push (d ∷ cs) l n k h.1 (omega arith) is f)

pub runs_begin : (cs : List Change) (n : Change) → (0 < length cs → ⊥) → AreRuns (cs ++ n ∷ [])
runs_begin [] n none = (tt, tt)
runs_begin (c ∷ cs) n none = absurd (none (omega arith))

follows_up : (c d : Told) → Follows c d → d.repeats ≤ c.repeats + 1
follows_up c d (inl p) = omega (arith, p.1)
follows_up c d (inr p) = omega (arith, p.1)

up : (cs : List Change) (c l : Change) → AreRuns (c ∷ (cs ++ l ∷ [])) → l.repeats ≤ c.repeats + length cs + 1
up [] c l h = omega (arith, follows_up (told_of c) (told_of l) h.0)
up (d ∷ cs) c l h = omega (arith, follows_up (told_of c) (told_of d) h.0, up cs d l h.1)

abbrev pub Brings : Sym → Change → Type 0
Brings v c = NewIs v (entry_of c.entry.value)

-- where the last one's repeats go back to the first, all bring what the last brings
pub all_repeated : (v : Sym) (cs : List Change) (l : Change) → AreRuns (cs ++ l ∷ []) → length cs ≤ l.repeats → Brings v l → AllByRecursion (Brings v) (cs ++ l ∷ [])
all_repeated v [] l h long new = (new, tt)
all_repeated v (c ∷ []) l h long new = elim h.0 [
  | inl p ↦ (p.0.back v new, (new, tt))
  | inr p ↦ absurd (let none : l.repeats ≡ 0 = p.1 in omega arith)
]
all_repeated v (c ∷ d ∷ cs) l h long new =
    let rest = all_repeated v (d ∷ cs) l h.1 (omega arith) new in
    elim h.0 [
      | inl p ↦ (p.0.back v rest.0, rest)
      | inr p ↦ absurd (let none : d.repeats ≡ 0 = p.1 in let k : l.repeats ≤ d.repeats + length cs + 1 = up cs d l h.1 in omega arith)
    ]

grown : (v : Sym) (cs : List Change) (c l : Change) → AreRuns (c ∷ (cs ++ l ∷ [])) → AllByRecursion (Brings v) (c ∷ (cs ++ l ∷ [])) → min (c.repeats + length cs + 1) (2 ^ 64 - 1) ≤ l.repeats
grown v [] c l h all = elim h.0 [
  | inl p ↦ omega (arith, p.1)
  | inr p ↦ absurd (p.0 v all.0 all.1.0)
]
grown v (d ∷ cs) c l h all = elim h.0 [
  | inl p ↦ omega (arith, p.1, grown v cs d l h.1 all.1)
  | inr p ↦ absurd (p.0 v all.0 all.1.0)
]

-- where all bring one value, the last one's repeats go back to the first
pub repeated_all : (v : Sym) (cs : List Change) (l : Change) → AreRuns (cs ++ l ∷ []) → AllByRecursion (Brings v) (cs ++ l ∷ []) → length cs ≤ 2 ^ 64 - 1 → length cs ≤ l.repeats
repeated_all v [] l h all small = omega arith
repeated_all v (c ∷ cs) l h all small = omega (arith, grown v cs c l h all)

all_seen : (v : Sym) (cs : List Change) → AllByRecursion (Brings v) cs → AllByRecursion (NewIs v) (changes_of cs)
all_seen v [] h = tt
all_seen v (c ∷ cs) h = (h.0, all_seen v cs h.1)

all_unseen : (v : Sym) (cs : List Change) → AllByRecursion (NewIs v) (changes_of cs) → AllByRecursion (Brings v) cs
all_unseen v [] h = tt
all_unseen v (c ∷ cs) h = (h.0, all_unseen v cs h.1)

all_last : (v : Sym) (cs : List Change) (l : Change) → AllByRecursion (Brings v) (cs ++ l ∷ []) → Brings v l
all_last v [] l h = h.0
all_last v (c ∷ cs) l h = all_last v cs l h.1

-- what the last change of a stretch tells of all its changes
module _ (v : Sym) (cs : List Change) (l : Change) (ends : EndsIn l cs) (n : ℕ) (others : n ≡ length cs - 1) (runs : AreRuns cs) where
  long : n ≡ length ends.0
  long = omega (arith, ap length ends.1, length-append ends.0 (l ∷ []))

  ordered : AreRuns (ends.0 ++ l ∷ [])
  ordered = subst AreRuns ends.1 runs

  all_of : AllBring v (changes_of cs) → AllByRecursion (Brings v) (ends.0 ++ l ∷ [])
  all_of h = subst (AllByRecursion (Brings v)) ends.1 (all_unseen v cs (each_from_in (NewIs v) (changes_of cs) h))

  pub last_yes : n ≤ l.repeats → Brings v l → AllBring v (changes_of cs)
  last_yes h new = in_from_each (NewIs v) (changes_of cs) (all_seen v cs (subst (AllByRecursion (Brings v)) (sym ends.1)
      (all_repeated v ends.0 l ordered (subst (λ k. k ≤ l.repeats) long h) new)))

  pub last_brings : AllBring v (changes_of cs) → Brings v l
  last_brings h = all_last v ends.0 l (all_of h)

  pub last_repeats : n < 2 ^ 64 → AllBring v (changes_of cs) → n ≤ l.repeats
  last_repeats small h = (let k : n ≡ length ends.0 = long in subst (λ k. k ≤ l.repeats) (sym long) (repeated_all v ends.0 l ordered (all_of h) (omega arith)))
