-- Rounds of raising decide whether whole dates for free points exist.
use Rattle.std.proofs.Common.{◌≡◌, ◌∙◌, ◌<◌, ◌≤◌, ℕ, ◌+◌, zero, suc, Bool, true, false, cond, List, [], ◌∷◌, refl, sym, ap, subst, arith}
use Rattle.std.specs.Prelude.{ℤ, pos, ◌+ℤ◌, ◌-ℤ◌, ◌≤ℤ◌, int_lt, Option, Some, None, IfSome, IsSomeAnd, All}
use Rattle.std.specs.Option.{unwrap_or}
use Rattle.std.proofs.lemmas.Int.{ints}
use Rattle.std.proofs.lemmas.List.Elements.{All-cons, All-head, All-tail, All-nil}
use Rattle.crs_stn.specs.declared.bound.Bound.{Bound}
use Rattle.crs_stn.specs.Bound.{Meets, Agrees, MeetsInPart, IsConsistent, IsWithin}
use Rattle.crs_stn.specs.Lower.{Held}
use Rattle.crs_stn.proofs.Extend.{filled, extend_early}
use Rattle.crs_audit.specs.declared.bounds.Raising.TheVariants.{Kept, Raised, Failed}
use Rattle.crs_audit.specs.Rounds.{IsAsked, AreUnder, IsRaisingAll}
use Rattle.crs_audit.proofs.Rounds.{is_open, open_count, closes_one}

-- The dates x after so many rounds: the given ones are there, and for all dates that meet the bounds and agree with these there are such that
-- aren't below x, with at most as many open points as there are rounds less than points.
pub record IsAfter (bounds : List Bound) (events : ℕ) (given : ℕ → Option ℤ) (rounds : ℕ) (x : ℕ → Option ℤ) : Type 0 where
  pub there : (p : ℕ) → p < events → x p ≡ given p
  pub found : (t : ℕ → ℤ) → Agrees given t → Meets bounds t
      → (s : ℕ → ℤ) × Agrees given s × Meets bounds s × AreUnder 24 x s × (open_count x s 24 + rounds ≤ 24)

few_open : (x : ℕ → Option ℤ) (t : ℕ → ℤ) (n : ℕ) → open_count x t n ≤ n
unfolding open_count
few_open x t zero = omega arith
few_open x t (suc n) = by (is_open (x n) (t n)) (few_open x t n)
  where
    by : (b : Bool) → open_count x t n ≤ n → cond b (suc (open_count x t n)) (open_count x t n) ≤ suc n
    by true le = omega (arith, le)
    by false le = omega (arith, le)

agreed_under : (o u : Option ℤ) (t : ℤ) → u ≡ o → IfSome o (λ d. t ≡ d) → IfSome u (λ d. d ≤ℤ t)
agreed_under None u t e h = subst (λ (o : Option ℤ). IfSome o (λ d. d ≤ℤ t)) (sym e) tt
agreed_under (Some d) u t e h = subst (λ (o : Option ℤ). IfSome o (λ d. d ≤ℤ t)) (sym e) (let k : t ≡ d = h in omega (arith, ints, k))

-- before the first round the given dates are known, and no others
pub at_first : (bounds : List Bound) (events : ℕ) (given x : ℕ → Option ℤ) → ((p : ℕ) → x p ≡ given p) → IsAfter bounds events given 0 x
at_first bounds events given x same = record {
  there = λ p l. same p;
  found = λ t a m. (
    t,
    a,
    m,
    (λ p l. agreed_under (given p) (x p) (t p) (same p) (a p)),
    (let k : open_count x t 24 ≤ 24 = few_open x t 24 in omega (arith, k)),
  );
}

closed_at : (o : Option ℤ) (g : Option ℤ) (t : ℤ) → o ≡ g → IfSome g (λ d. t ≡ d) → IsSomeAnd g (λ d. Unit {0}) → is_open o t ≡ false
closed_at o None t e h k = absurd k
closed_at o (Some d) t e h k = ap (λ (o : Option ℤ). is_open o t) e ∙ by (int_lt d t) refl
  where
    by : (b : Bool) → int_lt d t ≡ b → b ≡ false
    by true q = absurd (let r : t ≡ d = h in omega (arith, ints, q, r))
    by false q = refl

module _ (bounds : List Bound) (within : IsWithin 24 bounds) (events : ℕ) (given : ℕ → Option ℤ)
    (of_events : (p : ℕ) → p < events → IsSomeAnd (given p) (λ d. Unit {0})) (of_others : (p : ℕ) → events ≤ p → given p ≡ None) where
  agrees_by : (p : ℕ) (s t : ℕ → ℤ) (x : ℕ → Option ℤ) → ((q : ℕ) → q < events → x q ≡ given q) → ((q : ℕ) → is_open (x q) (s q) ≡ false → t q ≡ s q) → Agrees given s → IfSome (given p) (λ d. t p ≡ d)
  agrees_by p s t x there keeps a = by (given p) refl
    where
      by : (o : Option ℤ) → given p ≡ o → IfSome o (λ d. t p ≡ d)
      by None e = tt
      by (Some d) e =
          let l : p < events = below p d e in
          let one : s p ≡ d = subst (λ (o : Option ℤ). IfSome o (λ d. s p ≡ d)) e (a p) in
          keeps p (closed_at (x p) (given p) (s p) (there p l) (a p) (of_events p l)) ∙ one
        where
          below : (p : ℕ) (d : ℤ) → given p ≡ Some d → p < events
          below p d e = lt_or p events (λ l. l) (λ l. absurd (let n : given p ≡ None = of_others p l in cc))
            where
              lt_or : {P : Type 0} (p n : ℕ) → (p < n → P) → (n ≤ p → P) → P
              lt_or p zero f g = g (omega arith)
              lt_or zero (suc n) f g = f (omega arith)
              lt_or (suc p) (suc n) f g = lt_or p n (λ l. f (omega (arith, l))) (λ l. g (omega (arith, l)))

  -- one round more
  pub one_round : (rounds : ℕ) (x y : ℕ → Option ℤ) → IsAfter bounds events given rounds x → IsRaisingAll bounds events x y Raised → IsAfter bounds events given (rounds + 1) y
  one_round rounds x y h r = record {
    there = λ p l. r.1 p l ∙ h.there p l;
    found = λ t a m.
        let s = h.found t a m in
        let f = closes_one 24 bounds within x y r.0 r.2 s.0 s.2 s.3 in (
          f.dates,
          (λ p. agrees_by p s.0 f.dates x h.there f.keeps s.1),
          f.meets,
          f.under,
          (let k = s.4 in let l = f.fewer in omega (arith, k, l)),
        );
  }

  -- after more rounds than there are points, no dates meet the bounds
  pub too_many : (x : ℕ → Option ℤ) → IsAfter bounds events given 25 x → MeetsInPart bounds given → ⊥
  too_many x h m = let s = h.found m.0 m.1 m.2 in let k = s.4 in absurd (omega (arith, k))

  at_event : (o g : Option ℤ) (t : ℤ) → o ≡ g → IfSome g (λ d. t ≡ d) → IsSomeAnd g (λ d. Unit {0}) → o ≡ Some t
  at_event o None t e h k = absurd k
  at_event o (Some d) t e h k = e ∙ ap Some (sym h)

  -- where an event's date would rise, none do
  pub broken_off : (rounds : ℕ) (x y : ℕ → Option ℤ) → IsAfter bounds events given rounds x → IsRaisingAll bounds events x y Failed → MeetsInPart bounds given → ⊥
  broken_off rounds x y h r m =
      let s = h.found m.0 m.1 m.2 in
      r s.0 s.2 s.3 (λ p l. at_event (x p) (given p) (s.0 p) (h.there p l) (s.1 p) (of_events p l))

  held_of : (x y : ℕ → Option ℤ) (bs : List Bound) → ((p : ℕ) → y p ≡ x p) → All (IsAsked x y) bs → All (Held x) bs
  held_of x y [] e a = All-nil _
  held_of x y (b ∷ bs) e a =
      let first : IsAsked x y b = All-head (IsAsked x y) b bs a in
      All-cons (Held x) b bs
      (subst (λ (o : Option ℤ). IfSome b.most (λ m. IfSome (x b.to) (λ u. IsSomeAnd o (λ v. u ≤ℤ (v +ℤ m))))) (e b.from) first)
      (held_of x y bs e (All-tail (IsAsked x y) b bs a))

  filled_agrees : (o g : Option ℤ) (d : ℤ) → (IsSomeAnd g (λ d. Unit {0}) → o ≡ g) → IfSome g (λ e. unwrap_or o d ≡ e)
  filled_agrees o None d h = tt
  filled_agrees o (Some e) d h = ap (λ (o : Option ℤ). unwrap_or o d) (h tt)

  -- where no date rises, the other points have dates low enough
  pub all_kept : (rounds : ℕ) (x y : ℕ → Option ℤ) → IsConsistent bounds → IsAfter bounds events given rounds x → IsRaisingAll bounds events x y Kept → MeetsInPart bounds given
  all_kept rounds x y c h r =
      let e = extend_early x c.0 bounds c.1 (held_of x y bounds r.0 r.1) in (
        filled x c.0 e.0,
        (λ p. filled_agrees (x p) (given p) (c.0 p -ℤ pos e.0) (λ k. at_given p k)),
        e.1 e.0 (omega arith),
      )
    where
      at_given : (p : ℕ) → IsSomeAnd (given p) (λ d. Unit {0}) → x p ≡ given p
      at_given p k = lt_or p events (λ l. h.there p l) (λ l. absurd (subst (λ (o : Option ℤ). IsSomeAnd o (λ d. Unit {0})) (of_others p l) k))
        where
          lt_or : {P : Type 0} (p n : ℕ) → (p < n → P) → (n ≤ p → P) → P
          lt_or p zero f g = g (omega arith)
          lt_or zero (suc n) f g = f (omega arith)
          lt_or (suc p) (suc n) f g = lt_or p n (λ l. f (omega (arith, l))) (λ l. g (omega (arith, l)))
