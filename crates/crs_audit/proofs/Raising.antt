-- What one bound does to dates, and what all do, one after the other.
use Rattle.std.proofs.Common.{◌≡◌, ◌≢◌, ◌∙◌, ◌<◌, ◌≤◌, ℕ, zero, suc, List, [], ◌∷◌, ◌++◌, refl, sym, ap, subst, arith, ◌⊎◌, inl, inr}
use Rattle.std.specs.Prelude.{ℤ, ◌+ℤ◌, ◌-ℤ◌, ◌≤ℤ◌, ◌<ℤ◌, Option, Some, None, IfSome, IsSomeAnd, All}
use Rattle.std.proofs.lemmas.Int.{ints, by_lt_z}
use Rattle.std.proofs.lemmas.List.Elements.{All-cons, All-head, All-tail, All-nil}
use Rattle.crs_stn.specs.declared.bound.Bound.{Bound}
use Rattle.crs_stn.specs.Bound.{Keeps, Meets}
use Rattle.crs_audit.specs.declared.bounds.Raising.{Raising}
use Rattle.crs_audit.specs.declared.bounds.Raising.TheVariants.{Kept, Raised, Failed}
use Rattle.crs_audit.specs.Rounds.{IsAsked, AreUnder, HasRisen, IsStep, IsBroken, IsRaising, IsRaisingAll, both}

-- the second date isn't below the first
abbrev pub IsUp : Option ℤ → Option ℤ → Type 0
IsUp u v = IfSome u (λ a. IsSomeAnd v (λ c. a ≤ℤ c))

pub up_itself : (o : Option ℤ) → IsUp o o
up_itself None = tt
up_itself (Some a) = omega (arith, ints)

pub up_twice : (u v w : Option ℤ) → IsUp u v → IsUp v w → IsUp u w
up_twice None v w h k = tt
up_twice (Some a) None w h k = absurd h
up_twice (Some a) (Some b) None h k = absurd k
up_twice (Some a) (Some b) (Some c) h k = omega (arith, ints, h, k)

asked_by : (o p q : Option ℤ) (m u : ℤ) → o ≡ Some m → p ≡ Some u → IsSomeAnd q (λ v. u ≤ℤ (v +ℤ m)) → IfSome o (λ m. IfSome p (λ u. IsSomeAnd q (λ v. u ≤ℤ (v +ℤ m))))
asked_by o p q m u e f h =
    subst (λ (o : Option ℤ). IfSome o (λ m. IfSome p (λ u. IsSomeAnd q (λ v. u ≤ℤ (v +ℤ m))))) (sym e)
    (subst (λ (p : Option ℤ). IfSome p (λ u. IsSomeAnd q (λ v. u ≤ℤ (v +ℤ m)))) (sym f) h)

asked_more : (o p q r : Option ℤ) → IsUp q r → IfSome o (λ m. IfSome p (λ u. IsSomeAnd q (λ v. u ≤ℤ (v +ℤ m)))) → IfSome o (λ m. IfSome p (λ u. IsSomeAnd r (λ v. u ≤ℤ (v +ℤ m))))
asked_more None p q r h k = tt
asked_more (Some m) None q r h k = tt
asked_more (Some m) (Some u) None r h k = absurd k
asked_more (Some m) (Some u) (Some v) None h k = absurd h
asked_more (Some m) (Some u) (Some v) (Some w) h k = omega (arith, ints, h, k)

since_asks : (q : Option ℤ) (m u : ℤ) → IsSomeAnd q (λ v. (u -ℤ m) ≤ℤ v) → IsSomeAnd q (λ v. u ≤ℤ (v +ℤ m))
since_asks None m u h = absurd h
since_asks (Some v) m u h = omega (arith, ints, h)

none_asked : (b : Bound) (x y : ℕ → Option ℤ) → b.most ≡ None → IsAsked x y b
none_asked b x y e = subst (λ (o : Option ℤ). IfSome o (λ m. IfSome (x b.to) (λ u. IsSomeAnd (y b.from) (λ v. u ≤ℤ (v +ℤ m))))) (sym e) tt

undated_asked : (o p q : Option ℤ) → p ≡ None → IfSome o (λ m. IfSome p (λ u. IsSomeAnd q (λ v. u ≤ℤ (v +ℤ m))))
undated_asked None p q e = tt
undated_asked (Some m) p q e = subst (λ (p : Option ℤ). IfSome p (λ u. IsSomeAnd q (λ v. u ≤ℤ (v +ℤ m)))) (sym e) tt

-- a bound that asks for nothing new
stays : (b : Bound) (events : ℕ) (x y : ℕ → Option ℤ) → IsAsked x y b → IsRaising b events x y y Kept
stays b events x y a = ((λ p. refl), record { rises = λ p. up_itself (y p); asked = a; under = λ n l t k u w. w })

pub no_size : (b : Bound) (events : ℕ) (x y : ℕ → Option ℤ) → b.most ≡ None → IsRaising b events x y y Kept
no_size b events x y e = stays b events x y (none_asked b x y e)

pub no_date : (b : Bound) (events : ℕ) (x y : ℕ → Option ℤ) → x b.to ≡ None → IsRaising b events x y y Kept
no_date b events x y e = stays b events x y (undated_asked b.most (x b.to) (y b.from) e)

-- what dates that keep the bound have where it counts from
least_is : (b : Bound) (x : ℕ → Option ℤ) (m u : ℤ) → b.most ≡ Some m → x b.to ≡ Some u → (n : ℕ) → b.to < n → (t : ℕ → ℤ) → Keeps t b → AreUnder n x t → (u -ℤ m) ≤ℤ t b.from
least_is b x m u e f n l t k w =
    let kept : t b.to ≤ℤ (t b.from +ℤ m) = subst (λ (o : Option ℤ). IfSome o (λ m. t b.to ≤ℤ (t b.from +ℤ m))) e k in
    let under : u ≤ℤ t b.to = subst (λ (o : Option ℤ). IfSome o (λ d. d ≤ℤ t b.to)) f (w b.to l) in
    omega (arith, ints, kept, under)

under_one : (o : Option ℤ) (d t : ℤ) → o ≡ Some d → d ≤ℤ t → IfSome o (λ d. d ≤ℤ t)
under_one o d t e l = subst (λ (o : Option ℤ). IfSome o (λ d. d ≤ℤ t)) (sym e) l

below_least : (o : Option ℤ) (d : ℤ) → (IsSomeAnd o (λ v. d ≤ℤ v) → ⊥) → IfSome o (λ v. v <ℤ d)
below_least None d h = tt
below_least (Some v) d h = by_lt_z v d (λ l. l) (λ l. absurd (h l))

up_from : (o : Option ℤ) (d : ℤ) → IfSome o (λ v. v <ℤ d) → IsUp o (Some d)
up_from None d h = tt
up_from (Some v) d h = omega (arith, ints, h)

module _ (b : Bound) (events : ℕ) (x y : ℕ → Option ℤ) (m u : ℤ) (most : b.most ≡ Some m) (at : x b.to ≡ Some u) where
  pub since_kept : IsSomeAnd (y b.from) (λ d. (u -ℤ m) ≤ℤ d) → IsRaising b events x y y Kept
  since_kept h = stays b events x y (asked_by b.most (x b.to) (y b.from) m u most at (since_asks (y b.from) m u h))

  pub broken : (IsSomeAnd (y b.from) (λ d. (u -ℤ m) ≤ℤ d) → ⊥) → b.from < events → IsBroken b events x y
  broken h l = (
    l,
    λ n i t k w e. h (subst (λ (o : Option ℤ). IsSomeAnd o (λ d. (u -ℤ m) ≤ℤ d)) (sym e) (least_is b x m u most at n i t k w)),
  )

  pub risen : (z : ℕ → Option ℤ) → (IsSomeAnd (y b.from) (λ d. (u -ℤ m) ≤ℤ d) → ⊥) → events ≤ b.from → b.from < 24
      → z b.from ≡ Some (u -ℤ m) → ((p : ℕ) → p ≢ b.from → z p ≡ y p) → IsRaising b events x y z Raised
  risen z h le few here there =
      let low : IfSome (y b.from) (λ v. v <ℤ (u -ℤ m)) = below_least (y b.from) (u -ℤ m) h in
      let asks : u ≤ℤ ((u -ℤ m) +ℤ m) = omega (arith, ints) in (
        record {
          rises = λ p. rises_at p (decided p b.from);
          asked = asked_by b.most (x b.to) (z b.from) m u most at (subst (λ (o : Option ℤ). IsSomeAnd o (λ v. u ≤ℤ (v +ℤ m))) (sym here) asks);
          under = λ n l t k w v p i. under_at n l t k w v p i (decided p b.from);
        },
        (λ p l. there p (λ e. absurd (omega (arith, l, le, e)))),
        (b.from, few, subst (λ (o : Option ℤ). IsSomeAnd o (λ v. IfSome (y b.from) (λ u. u <ℤ v))) (sym here) low),
      )
    where
      decided : (p q : ℕ) → (p ≡ q) ⊎ (p ≢ q)
      decided zero zero = inl refl
      decided zero (suc q) = inr (λ e. absurd cc)
      decided (suc p) zero = inr (λ e. absurd cc)
      decided (suc p) (suc q) = elim (decided p q) [ inl e ↦ inl (ap suc e) | inr n ↦ inr (λ e. n (let k : p ≡ q = cc in k)) ]

      rises_at : (p : ℕ) → (p ≡ b.from) ⊎ (p ≢ b.from) → IsUp (y p) (z p)
      rises_at p (inl e) = subst (λ (q : ℕ). IsUp (y q) (z q)) (sym e)
          (subst (IsUp (y b.from)) (sym here) (up_from (y b.from) (u -ℤ m) (below_least (y b.from) (u -ℤ m) h)))
      rises_at p (inr n) = subst (IsUp (y p)) (sym (there p n)) (up_itself (y p))

      under_at : (n : ℕ) → b.to < n → (t : ℕ → ℤ) → Keeps t b → AreUnder n x t → AreUnder n y t → (p : ℕ) → p < n → (p ≡ b.from) ⊎ (p ≢ b.from) → IfSome (z p) (λ d. d ≤ℤ t p)
      under_at n l t k w v p i (inl e) = subst (λ (q : ℕ). IfSome (z q) (λ d. d ≤ℤ t q)) (sym e)
          (under_one (z b.from) (u -ℤ m) (t b.from) here (least_is b x m u most at n l t k w))
      under_at n l t k w v p i (inr n') = subst (λ (o : Option ℤ). IfSome o (λ d. d ≤ℤ t p)) (sym (there p n')) (v p i)

-- ---- bound after bound

abbrev pub IsState : Raising → (x y : ℕ → Option ℤ) → Type 0
IsState Kept x y = (p : ℕ) → y p ≡ x p
IsState Raised x y = HasRisen 24 x y
IsState Failed x y = ⊥

-- what some of the bounds did
pub record IsSoFar (bounds done : List Bound) (events : ℕ) (x y : ℕ → Option ℤ) (all : Raising) : Type 0 where
  pub rises : (p : ℕ) → IsUp (x p) (y p)
  pub asked : All (IsAsked x y) done
  pub under : (t : ℕ → ℤ) → Meets bounds t → AreUnder 24 x t → AreUnder 24 y t
  pub events_stay : (p : ℕ) → p < events → y p ≡ x p
  pub state : IsState all x y

pub none_done : (bounds : List Bound) (events : ℕ) (x : ℕ → Option ℤ) → IsSoFar bounds [] events x x Kept
none_done bounds events x = record { rises = λ p. up_itself (x p); asked = All-nil _; under = λ t m u. u; events_stay = λ p l. refl; state = λ p. refl }

all_more : (x y z : ℕ → Option ℤ) (bs : List Bound) → ((p : ℕ) → IsUp (y p) (z p)) → All (IsAsked x y) bs → All (IsAsked x z) bs
all_more x y z [] up a = All-nil _
all_more x y z (b ∷ bs) up a = All-cons (IsAsked x z) b bs (asked_more b.most (x b.to) (y b.from) (z b.from) (up b.from) (All-head (IsAsked x y) b bs a)) (all_more x y z bs up (All-tail (IsAsked x y) b bs a))

all_put : (P : Bound → Type 0) (bs : List Bound) (b : Bound) → All P bs → P b → All P (bs ++ b ∷ [])
all_put P [] b a h = All-cons P b [] h (All-nil P)
all_put P (c ∷ bs) b a h = All-cons P c (bs ++ b ∷ []) (All-head P c bs a) (all_put P bs b (All-tail P c bs a) h)

below_then : (u v : Option ℤ) (d : ℤ) → IsUp u v → IfSome v (λ c. c <ℤ d) → IfSome u (λ a. a <ℤ d)
below_then None v d h k = tt
below_then (Some a) None d h k = absurd h
below_then (Some a) (Some c) d h k = omega (arith, ints, h, k)

above_then : (u v w : Option ℤ) → IsUp v w → IsSomeAnd v (λ c. IfSome u (λ a. a <ℤ c)) → IsSomeAnd w (λ c. IfSome u (λ a. a <ℤ c))
above_then u None w h k = absurd k
above_then u (Some c) None h k = absurd h
above_then None (Some c) (Some d) h k = tt
above_then (Some a) (Some c) (Some d) h k = omega (arith, ints, h, k)

first_then : (u v w : Option ℤ) → IsUp u v → IsSomeAnd w (λ c. IfSome v (λ a. a <ℤ c)) → IsSomeAnd w (λ c. IfSome u (λ a. a <ℤ c))
first_then u v None h k = absurd k
first_then u v (Some c) h k = below_then u v c h k

module _ (bounds done : List Bound) (events : ℕ) (x y z : ℕ → Option ℤ) (all : Raising) (b : Bound) (below : b.to < 24) (in_all : (t : ℕ → ℤ) → Meets bounds t → Keeps t b)
    (h : IsSoFar bounds done events x y all) where
  kept_then : ((p : ℕ) → z p ≡ y p) → IsStep b x y z → IsSoFar bounds (done ++ b ∷ []) events x z all
  kept_then same s = record {
    rises = λ p. up_twice (x p) (y p) (z p) (h.rises p) (s.rises p);
    asked = all_put (IsAsked x z) done b (all_more x y z done s.rises h.asked) s.asked;
    under = λ t m u. s.under 24 below t (in_all t m) u (h.under t m u);
    events_stay = λ p l. same p ∙ h.events_stay p l;
    state = by all h.state;
  }
    where
      by : (r : Raising) → IsState r x y → IsState r x z
      by Kept k = λ p. same p ∙ k p
      by Raised k = (k.0, k.1, above_then (x k.0) (y k.0) (z k.0) (s.rises k.0) k.2)
      by Failed k = k

  raised_then : IsStep b x y z → ((p : ℕ) → p < events → z p ≡ y p) → HasRisen 24 y z → IsSoFar bounds (done ++ b ∷ []) events x z Raised
  raised_then s same r = record {
    rises = λ p. up_twice (x p) (y p) (z p) (h.rises p) (s.rises p);
    asked = all_put (IsAsked x z) done b (all_more x y z done s.rises h.asked) s.asked;
    under = λ t m u. s.under 24 below t (in_all t m) u (h.under t m u);
    events_stay = λ p l. same p l ∙ h.events_stay p l;
    state = (r.0, r.1, first_then (x r.0) (y r.0) (z r.0) (h.rises r.0) r.2);
  }

  pub one_more : (r : Raising) → IsRaising b events x y z r → (both all r ≡ Failed → ⊥) → IsSoFar bounds (done ++ b ∷ []) events x z (both all r)
  one_more Kept s n = kept_then s.0 s.1
  one_more Raised s n = raised_then s.0 s.1 s.2
  one_more Failed s n = absurd (n refl)

  not_failed : (r : Raising) → IsState r x y → r ≡ Failed → ⊥
  not_failed Kept k e = cc
  not_failed Raised k e = cc
  not_failed Failed k e = k

  pub fails : (r : Raising) → IsRaising b events x y z r → both all r ≡ Failed → (w : ℕ → Option ℤ) → IsRaisingAll bounds events x w Failed
  fails Kept s e w = absurd (not_failed all h.state e)
  fails Raised s e w = absurd cc
  fails Failed s e w = λ t m u at. s.1 24 below t (in_all t m) u (h.events_stay b.from s.0 ∙ at b.from s.0)

pub all_done : (bounds : List Bound) (events : ℕ) (x y : ℕ → Option ℤ) (all : Raising) → IsSoFar bounds bounds events x y all → IsRaisingAll bounds events x y all
all_done bounds events x y Kept h = (h.state, h.asked)
all_done bounds events x y Raised h = (record { rises = λ p l. h.rises p; asked = h.asked; under = h.under }, h.events_stay, h.state)
all_done bounds events x y Failed h = absurd h.state
