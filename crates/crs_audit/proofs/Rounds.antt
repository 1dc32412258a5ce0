-- As many rounds as there are points without a given date find the dates that bounds ask for, where whole dates meet the bounds.
--
-- A point is open where its date is below the dates t. Where a round closes no open point though some date rises, the dates t of all open
-- points can be one less and still meet the bounds; so after some such steps a point is closed. Each round so closes one, for some such dates.
use Rattle.std.proofs.Common.{◌≡◌, ◌∙◌, ◌<◌, ◌≤◌, ℕ, zero, suc, Bool, true, false, cond, List, [], ◌∷◌, refl, sym, ap, subst, arith, ◌⊎◌, inl, inr}
use Rattle.std.specs.Prelude.{ℤ, pos, negsuc, ◌+ℤ◌, ◌-ℤ◌, ◌≤ℤ◌, ◌<ℤ◌, int_lt, Option, Some, None, IfSome, IsSomeAnd, All}
use Rattle.std.proofs.lemmas.Int.{ints}
use Rattle.std.proofs.lemmas.List.Elements.{All-cons, All-head, All-tail, All-nil}
use Rattle.crs_stn.specs.declared.bound.Bound.{Bound}
use Rattle.crs_stn.specs.Bound.{Keeps, Meets, IsBoundBelow, IsWithin}
use Rattle.crs_audit.specs.Rounds.{IsAsked, AreUnder, IsRound, HasRisen}

-- the date is below t, or there is none
abbrev pub is_open : Option ℤ → ℤ → Bool
is_open None t = true
is_open (Some d) t = int_lt d t

-- how many of the points below n are open
unfoldable pub open_count : (ℕ → Option ℤ) → (ℕ → ℤ) → ℕ → ℕ
open_count x t zero = 0
open_count x t (suc n) = cond (is_open (x n) (t n)) (suc (open_count x t n)) (open_count x t n)

one_by : (b c : Bool) (k m : ℕ) → (b ≡ false → c ≡ false) → m ≤ k → cond c (suc m) m ≤ cond b (suc k) k
one_by true true k m h le = omega (arith, le)
one_by true false k m h le = omega (arith, le)
one_by false true k m h le = absurd (let e : true ≡ false = h refl in cc)
one_by false false k m h le = le

-- where no point is opened there are no more open ones, and fewer where one is closed
pub no_more_open : (x y : ℕ → Option ℤ) (t s : ℕ → ℤ) (n : ℕ) → ((p : ℕ) → p < n → is_open (x p) (t p) ≡ false → is_open (y p) (s p) ≡ false)
    → open_count y s n ≤ open_count x t n
unfolding open_count
no_more_open x y t s zero h = omega arith
no_more_open x y t s (suc n) h =
    one_by (is_open (x n) (t n)) (is_open (y n) (s n)) (open_count x t n) (open_count y s n) (h n (omega arith)) (no_more_open x y t s n (λ p l. h p (omega (arith, l))))

closed_by : (b c : Bool) (k m : ℕ) → b ≡ true → c ≡ false → m ≤ k → cond c (suc m) m < cond b (suc k) k
closed_by true true k m e f le = absurd cc
closed_by true false k m e f le = omega (arith, le)
closed_by false c k m e f le = absurd cc

one_less : (b c : Bool) (k m : ℕ) → (b ≡ false → c ≡ false) → m < k → cond c (suc m) m < cond b (suc k) k
one_less true true k m h le = omega (arith, le)
one_less true false k m h le = omega (arith, le)
one_less false true k m h le = absurd (let e : true ≡ false = h refl in cc)
one_less false false k m h le = le

last_or : (q n : ℕ) → q < suc n → (q ≡ n) ⊎ (q < n)
last_or zero zero l = inl refl
last_or zero (suc n) l = inr (omega arith)
last_or (suc q) zero l = absurd (omega (arith, l))
last_or (suc q) (suc n) l = elim (last_or q n (omega (arith, l))) [ inl e ↦ inl (ap suc e) | inr k ↦ inr (omega (arith, k)) ]

pub fewer_open : (x y : ℕ → Option ℤ) (t s : ℕ → ℤ) (n q : ℕ) → ((p : ℕ) → p < n → is_open (x p) (t p) ≡ false → is_open (y p) (s p) ≡ false)
    → q < n → is_open (x q) (t q) ≡ true → is_open (y q) (s q) ≡ false → open_count y s n < open_count x t n
unfolding open_count
fewer_open x y t s zero q h l a b = absurd (omega (arith, l))
fewer_open x y t s (suc n) q h l a b = elim (last_or q n l) [
  | inl e ↦ closed_by (is_open (x n) (t n)) (is_open (y n) (s n)) (open_count x t n) (open_count y s n)
      (subst (λ (p : ℕ). is_open (x p) (t p) ≡ true) e a) (subst (λ (p : ℕ). is_open (y p) (s p) ≡ false) e b)
      (no_more_open x y t s n (λ p k. h p (omega (arith, k))))
  | inr k ↦ one_less (is_open (x n) (t n)) (is_open (y n) (s n)) (open_count x t n) (open_count y s n) (h n (omega arith))
      (fewer_open x y t s n q (λ p j. h p (omega (arith, j))) k a b)
]

-- a point that a round closes, or none below n
abbrev Closed : (ℕ → Option ℤ) → (ℕ → Option ℤ) → (ℕ → ℤ) → ℕ → Type 0
Closed x y t p = (is_open (x p) (t p) ≡ true) × (is_open (y p) (t p) ≡ false)

abbrev AreStuck : (ℕ → Option ℤ) → (ℕ → Option ℤ) → (ℕ → ℤ) → ℕ → Type 0
AreStuck x y t n = (p : ℕ) → p < n → is_open (x p) (t p) ≡ true → is_open (y p) (t p) ≡ true

stuck_more : (x y : ℕ → Option ℤ) (t : ℕ → ℤ) (n : ℕ) → AreStuck x y t n → (is_open (x n) (t n) ≡ true → is_open (y n) (t n) ≡ true) → AreStuck x y t (suc n)
stuck_more x y t n h k p l a = elim (last_or p n l) [
  | inl e ↦ subst (λ (q : ℕ). is_open (y q) (t q) ≡ true) (sym e) (k (subst (λ (q : ℕ). is_open (x q) (t q) ≡ true) e a))
  | inr j ↦ h p j a
]

some_closed : (x y : ℕ → Option ℤ) (t : ℕ → ℤ) (n : ℕ) → ((p : ℕ) × (p < n) × Closed x y t p) ⊎ AreStuck x y t n
some_closed x y t zero = inr (λ p l a. absurd (omega (arith, l)))
some_closed x y t (suc n) = by (is_open (x n) (t n)) (is_open (y n) (t n)) refl refl (some_closed x y t n)
  where
    by : (b c : Bool) → is_open (x n) (t n) ≡ b → is_open (y n) (t n) ≡ c → ((p : ℕ) × (p < n) × Closed x y t p) ⊎ AreStuck x y t n
        → ((p : ℕ) × (p < suc n) × Closed x y t p) ⊎ AreStuck x y t (suc n)
    by b c e f (inl k) = inl (k.0, (let l = k.1 in omega (arith, l)), k.2)
    by true false e f (inr h) = inl (n, omega arith, (e, f))
    by true true e f (inr h) = inr (stuck_more x y t n h (λ a. f))
    by false c e f (inr h) = inr (stuck_more x y t n h (λ a. absurd (let k : true ≡ false = sym a ∙ e in cc)))

-- the dates t, one less where a point is open
abbrev less : Bool → ℤ → ℤ
less b t = cond b (t -ℤ pos 1) t

abbrev lowered : (ℕ → Option ℤ) → (ℕ → ℤ) → ℕ → ℤ
lowered x t p = less (is_open (x p) (t p)) (t p)

open_some : (o : Option ℤ) (t : ℤ) → is_open o t ≡ false → IsSomeAnd o (λ d. t ≤ℤ d)
open_some None t e = absurd cc
open_some (Some d) t e = omega (arith, ints, e)

under_open : (o : Option ℤ) (t : ℤ) → is_open o t ≡ true → IfSome o (λ d. d <ℤ t)
under_open None t e = tt
under_open (Some d) t e = omega (arith, ints, e)

-- a bound is kept by the lowered dates
kept_by : (b c : Bool) (m : ℤ) (u v : Option ℤ) (from to : ℤ) → to ≤ℤ (from +ℤ m)
    → (c ≡ false → IsSomeAnd u (λ d. to ≤ℤ d)) → (b ≡ true → IfSome v (λ d. d <ℤ from)) → IfSome u (λ a. IsSomeAnd v (λ d. a ≤ℤ (d +ℤ m)))
    → less c to ≤ℤ (less b from +ℤ m)
kept_by false true m u v from to k closed opened asked = omega (arith, ints, k)
kept_by false false m u v from to k closed opened asked = omega (arith, ints, k)
kept_by true true m u v from to k closed opened asked = omega (arith, ints, k)
kept_by true false m None v from to k closed opened asked = absurd (closed refl)
kept_by true false m (Some a) None from to k closed opened asked = absurd asked
kept_by true false m (Some a) (Some d) from to k closed opened asked =
    let above = closed refl in
    let below = opened refl in
    omega (arith, ints, above, below, asked)

module _ (n : ℕ) (x y : ℕ → Option ℤ) (t : ℕ → ℤ) (stuck : AreStuck x y t n) where
  keeps_one : (b : Bound) → IsBoundBelow n b → Keeps t b → IsAsked x y b → Keeps (lowered x t) b
  keeps_one b w k asked = by b.most k asked
    where
      by : (o : Option ℤ) → IfSome o (λ m. t b.to ≤ℤ (t b.from +ℤ m)) → IfSome o (λ m. IfSome (x b.to) (λ u. IsSomeAnd (y b.from) (λ v. u ≤ℤ (v +ℤ m))))
          → IfSome o (λ m. lowered x t b.to ≤ℤ (lowered x t b.from +ℤ m))
      by None k a = tt
      by (Some m) k a = kept_by (is_open (x b.from) (t b.from)) (is_open (x b.to) (t b.to)) m (x b.to) (y b.from) (t b.from) (t b.to) k
          (open_some (x b.to) (t b.to))
          (λ e. under_open (y b.from) (t b.from) (stuck b.from w.from_below e))
          a

  meets_lowered : (bounds : List Bound) → IsWithin n bounds → Meets bounds t → All (IsAsked x y) bounds → Meets bounds (lowered x t)
  meets_lowered [] w m a = All-nil _
  meets_lowered (b ∷ bs) w m a =
      All-cons (Keeps (lowered x t)) b bs
      (keeps_one b (All-head (IsBoundBelow n) b bs w) (All-head (Keeps t) b bs m) (All-head (IsAsked x y) b bs a))
      (meets_lowered bs (All-tail (IsBoundBelow n) b bs w) (All-tail (Keeps t) b bs m) (All-tail (IsAsked x y) b bs a))

  under_by : (b : Bool) (o : Option ℤ) (d : ℤ) → (b ≡ true → IfSome o (λ v. v <ℤ d)) → IfSome o (λ v. v ≤ℤ d) → IfSome o (λ v. v ≤ℤ less b d)
  under_by b None d h k = tt
  under_by true (Some v) d h k = let l = h refl in omega (arith, ints, l)
  under_by false (Some v) d h k = k

  under_lowered : AreUnder n y t → AreUnder n y (lowered x t)
  under_lowered u p l = under_by (is_open (x p) (t p)) (y p) (t p) (λ e. under_open (y p) (t p) (stuck p l e)) (u p l)

same_less : (b : Bool) (d : ℤ) → b ≡ false → less b d ≡ d
same_less true d e = absurd cc
same_less false d e = refl

one_down : (b : Bool) (d : ℤ) → b ≡ true → less b d ≡ d -ℤ pos 1
one_down true d e = refl
one_down false d e = absurd cc

closed_on : (u v : Option ℤ) (d : ℤ) → IfSome u (λ a. IsSomeAnd v (λ c. a ≤ℤ c)) → is_open u d ≡ false → is_open v d ≡ false
closed_on None v d r e = absurd cc
closed_on (Some a) None d r e = absurd r
closed_on (Some a) (Some c) d r e = closed_at c d (let l : d ≤ℤ a = omega (arith, ints, e) in omega (arith, ints, l, r))
  where
    closed_at : (c d : ℤ) → d ≤ℤ c → int_lt c d ≡ false
    closed_at c d l = by (int_lt c d) refl
      where
        by : (b : Bool) → int_lt c d ≡ b → b ≡ false
        by true e = absurd (omega (arith, ints, e, l))
        by false e = refl

-- dates that meet the bounds for which fewer points are open behind the round, and the same where a point wasn't open
pub record Fewer (n : ℕ) (bounds : List Bound) (x y : ℕ → Option ℤ) (t : ℕ → ℤ) : Type 0 where
  pub dates : ℕ → ℤ
  pub meets : Meets bounds dates
  pub under : AreUnder n y dates
  pub fewer : open_count y dates n < open_count x t n
  pub keeps : (p : ℕ) → is_open (x p) (t p) ≡ false → dates p ≡ t p

risen_open : (u : Option ℤ) (c d : ℤ) → IfSome u (λ a. a <ℤ c) → c ≤ℤ d → is_open u d ≡ true
risen_open None c d r l = refl
risen_open (Some a) c d r l = by (int_lt a d) refl
  where
    by : (b : Bool) → int_lt a d ≡ b → b ≡ true
    by true e = refl
    by false e = absurd (omega (arith, ints, e, r, l))

module _ (n : ℕ) (bounds : List Bound) (within : IsWithin n bounds) (x y : ℕ → Option ℤ) (round : IsRound n bounds x y)
    (q : ℕ) (below : q < n) (c : ℤ) (at : y q ≡ Some c) (risen : IfSome (x q) (λ u. u <ℤ c)) where
  stays_closed : (t : ℕ → ℤ) (p : ℕ) → p < n → is_open (x p) (t p) ≡ false → is_open (y p) (t p) ≡ false
  stays_closed t p l e = closed_on (x p) (y p) (t p) (round.rises p l) e

  open_before : (t : ℕ → ℤ) (d : ℕ) → t q ≡ c +ℤ pos d → is_open (x q) (t q) ≡ true
  open_before t d e = risen_open (x q) c (t q) risen (let k : c ≤ℤ (c +ℤ pos d) = omega (arith, ints) in subst (λ (z : ℤ). c ≤ℤ z) (sym e) k)

  -- the round closes a point
  here : (t : ℕ → ℤ) → Meets bounds t → AreUnder n y t → (p : ℕ) → p < n → is_open (x p) (t p) ≡ true → is_open (y p) (t p) ≡ false → Fewer n bounds x y t
  here t m u p l a b = record {
    dates = t;
    meets = m;
    under = u;
    fewer = fewer_open x y t t n p (λ p l. stays_closed t p l) l a b;
    keeps = λ p o. refl;
  }

  -- it closes one for the lowered dates, and so for these
  from_lowered : (t : ℕ → ℤ) → Fewer n bounds x y (lowered x t) → Fewer n bounds x y t
  from_lowered t f =
      let s : ℕ → ℤ = lowered x t in
      let same : (p : ℕ) → is_open (x p) (t p) ≡ false → s p ≡ t p = (λ p o. same_less (is_open (x p) (t p)) (t p) o) in
      let closed : (p : ℕ) → is_open (x p) (t p) ≡ false → is_open (x p) (s p) ≡ false = (λ p o. ap (is_open (x p)) (same p o) ∙ o) in
      record {
        dates = f.dates;
        meets = f.meets;
        under = f.under;
        fewer = (let a = f.fewer in let b : open_count x s n ≤ open_count x t n = no_more_open x x t s n (λ p l. closed p) in omega (arith, a, b));
        keeps = λ p o. f.keeps p (closed p o) ∙ same p o;
      }

  -- the date that rose is d below that of t
  falls : (d : ℕ) (t : ℕ → ℤ) → Meets bounds t → AreUnder n y t → t q ≡ c +ℤ pos d → Fewer n bounds x y t
  falls zero t m u e = elim (some_closed x y t n) [
    | inl k ↦ here t m u k.0 k.1 k.2.0 k.2.1
    | inr stuck ↦ (
        let k : is_open (y q) (t q) ≡ true = stuck q below (open_before t 0 e) in
        let l : IfSome (Some c) (λ d. d <ℤ t q) = subst (λ (o : Option ℤ). IfSome o (λ d. d <ℤ t q)) at (under_open (y q) (t q) k) in
        absurd (let s : t q ≡ c +ℤ pos 0 = e in omega (arith, ints, l, s))
        )
  ]
  falls (suc d) t m u e = elim (some_closed x y t n) [
    | inl k ↦ here t m u k.0 k.1 k.2.0 k.2.1
    | inr stuck ↦ (
        let down : lowered x t q ≡ t q -ℤ pos 1 = one_down (is_open (x q) (t q)) (t q) (open_before t (suc d) e) in
        from_lowered t (falls d (lowered x t) (meets_lowered n x y t stuck bounds within m round.asked) (under_lowered n x y t stuck u)
        (let g : t q ≡ c +ℤ pos (suc d) = e in omega (arith, ints, down, g)))
        )
  ]

nat_between : (c t : ℤ) → c ≤ℤ t → (d : ℕ) × (t ≡ c +ℤ pos d)
nat_between c t l = by (t -ℤ c) refl
  where
    by : (z : ℤ) → t -ℤ c ≡ z → (d : ℕ) × (t ≡ c +ℤ pos d)
    by (pos d) e = (d, omega (arith, ints, e))
    by (negsuc d) e = absurd (omega (arith, ints, e, l))

-- a round in which a date rises closes a point, for some dates that meet the bounds
pub closes_one : (n : ℕ) (bounds : List Bound) → IsWithin n bounds → (x y : ℕ → Option ℤ) → IsRound n bounds x y → HasRisen n x y
    → (t : ℕ → ℤ) → Meets bounds t → AreUnder n x t → Fewer n bounds x y t
closes_one n bounds within x y round (q, below, risen) t m u = by (y q) refl risen
  where
    under : AreUnder n y t
    under = round.under t m u

    by : (o : Option ℤ) → y q ≡ o → IsSomeAnd o (λ v. IfSome (x q) (λ u. u <ℤ v)) → Fewer n bounds x y t
    by None at r = absurd r
    by (Some c) at r =
        let l : IfSome (Some c) (λ d. d ≤ℤ t q) = subst (λ (o : Option ℤ). IfSome o (λ d. d ≤ℤ t q)) at (under q below) in
        let d = nat_between c (t q) l in
        falls n bounds within x y round q below c at r d.0 t m under d.1
