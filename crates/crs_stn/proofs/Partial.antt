-- Dates of some points, and when they can be continued to all.
use Rattle.std.proofs.Common.{◌≡◌, ℕ, get_or, zero, suc, ◌+◌, ◌<◌, ◌≤◌, ◌⊎◌, inl, inr, List, [], ◌∷◌, refl, subst, arith}
use Rattle.std.specs.Prelude.{ℤ, pos, ◌+ℤ◌, ◌-ℤ◌, ◌≤ℤ◌, Option, Some, None, IfSome, IsSomeAnd, All, unwrap_or, unsigned_abs}
use Rattle.std.proofs.lemmas.Int.{ints, clamps, by_lt_z}
use Rattle.std.specs.Int.{int_min, int_max}
use Rattle.std.proofs.lemmas.Bool.{cases_lt}
use Rattle.std.proofs.lemmas.List.Elements.{All-cons, All-nil}
use Rattle.crs_stn.specs.declared.bound.Bound.{Bound}
use Rattle.crs_stn.specs.Bound.{Meets, Agrees, MeetsInPart, IsConsistent, IsWithin}
use Rattle.crs_stn.specs.Network.{IsMost, IsMinimal, IsPairwiseWithin, LeastBoundsDecide}
use Rattle.crs_stn.specs.Cycle.{lesser}
use Rattle.crs_stn.specs.DateWindow.{least_of, after, latest}
use Rattle.crs_stn.proofs.Extend.{below_size}
use Rattle.crs_stn.proofs.Most.{IsMost-self_option}
use Rattle.crs_stn.proofs.Earliest.{upper_option, step_of}
use Rattle.crs_stn.proofs.LowerLemmas.{of_option}

-- the upper dates L hold at a bound
abbrev pub HeldLate : (ℕ → Option ℤ) → Bound → Type 0
HeldLate L b = IfSome b.most (λ m. IfSome (L b.from) (λ v. IsSomeAnd (L b.to) (λ u. u ≤ℤ (v +ℤ m))))

abbrev pub filled_late : (ℕ → Option ℤ) → (ℕ → ℤ) → ℕ → ℕ → ℤ
filled_late L t g p = unwrap_or (L p) (t p +ℤ pos g)

abbrev IsFarLate : (ℕ → Option ℤ) → (ℕ → ℤ) → ℕ → Bound → Type 0
IsFarLate L t g b = IfSome b.most (λ m. IfSome (L b.to) (λ u. u ≤ℤ (t b.from +ℤ m +ℤ pos g)))

far_for_option : (m : Option ℤ) (l : Option ℤ) (d : ℤ) → (n : ℕ) × ((g : ℕ) → n ≤ g → IfSome m (λ m'. IfSome l (λ u. u ≤ℤ (d +ℤ m' +ℤ pos g))))
far_for_option None l d = (0, λ g h. tt)
far_for_option (Some m) None d = (0, λ g h. tt)
far_for_option (Some m) (Some u) d =
    let s = below_size (u -ℤ d -ℤ m) in (unsigned_abs (u -ℤ d -ℤ m), λ g h. omega (arith, ints, s))

far_for_all : (L : ℕ → Option ℤ) (t : ℕ → ℤ) (bounds : List Bound) → (n : ℕ) × ((g : ℕ) → n ≤ g → All (IsFarLate L t g) bounds)
far_for_all L t [] = (0, λ g h. All-nil _)
far_for_all L t (b ∷ bs) =
    let one = far_for_option b.most (L b.to) (t b.from) in
    let rest = far_for_all L t bs in
    (one.0 + rest.0, λ g h. All-cons (IsFarLate L t g) b bs (one.1 g (omega arith)) (rest.1 g (omega arith)))

filled_keeps_options : (m u v : Option ℤ) (d e : ℤ) (g : ℕ) → IfSome m (λ m'. IfSome v (λ v'. IsSomeAnd u (λ u'. u' ≤ℤ (v' +ℤ m')))) → IfSome m (λ m'. IfSome u (λ u'. u' ≤ℤ (e +ℤ m' +ℤ pos g))) → IfSome m (λ m'. d ≤ℤ (e +ℤ m')) → IfSome m (λ m'. unwrap_or u (d +ℤ pos g) ≤ℤ (unwrap_or v (e +ℤ pos g) +ℤ m'))
filled_keeps_options None u v d e g h f k = tt
filled_keeps_options (Some m) (Some u) (Some v) d e g h f k = omega (arith, ints)
filled_keeps_options (Some m) None (Some v) d e g h f k = absurd h
filled_keeps_options (Some m) (Some u) None d e g h f k = omega (arith, ints)
filled_keeps_options (Some m) None None d e g h f k = omega (arith, ints)

-- upper dates that hold at every bound are continued to all points, by dates as late as one likes
pub extend_late : (L : ℕ → Option ℤ) (t : ℕ → ℤ) (bounds : List Bound) → Meets bounds t → All (HeldLate L) bounds → (n : ℕ) × ((g : ℕ) → n ≤ g → Meets bounds (filled_late L t g))
extend_late L t bounds met held =
    let far = far_for_all L t bounds in
    (far.0, λ g h k d l. filled_keeps_options _ _ _ _ _ g (held k d l) (far.1 g h k d l) (met k d l))

-- ---- the least of some numbers

lesser_left : (a b : Option ℤ) → IfSome a (λ x. IsSomeAnd (lesser a b) (λ v. v ≤ℤ x))
lesser_left None b = tt
lesser_left (Some x) None = omega (arith, ints)
lesser_left (Some x) (Some y) = omega (arith, ints, clamps)

lesser_right : (a b : Option ℤ) (x : ℤ) → IsSomeAnd b (λ v. v ≤ℤ x) → IsSomeAnd (lesser a b) (λ v. v ≤ℤ x)
lesser_right None b x h = h
lesser_right (Some y) None x h = absurd h
lesser_right (Some y) (Some z) x h = omega (arith, ints, clamps)

lesser_cases : (a b : Option ℤ) (v : ℤ) → lesser a b ≡ Some v → (a ≡ Some v) ⊎ (b ≡ Some v)
lesser_cases None b v e = inr e
lesser_cases (Some x) None v e = inl e
lesser_cases (Some x) (Some y) v e = elim (min_cases x y) [ inl a ↦ inl (cc) | inr a ↦ inr (cc) ]
  where
    min_cases : (x y : ℤ) → (int_min x y ≡ x) ⊎ (int_min x y ≡ y)
    min_cases x y = by_lt_z x y (λ l. inl (omega (arith, ints, clamps))) (λ l. inr (omega (arith, ints, clamps)))

under_option : (o : Option ℤ) (a : Option ℤ) (P : ℤ → ℤ → Type 0) → ((x : ℤ) → o ≡ Some x → IsSomeAnd a (P x)) → IfSome o (λ x. IsSomeAnd a (P x))
under_option None a P h = tt
under_option (Some x) a P h = h x refl

pub least_of_is_below : (f : ℕ → Option ℤ) (n p : ℕ) → p < n → IfSome (f p) (λ x. IsSomeAnd (least_of f n) (λ v. v ≤ℤ x))
least_of_is_below f zero p l = absurd (omega arith)
least_of_is_below f (suc n) p l = elim (cases_lt p n) [
  | inl below ↦ under_option (f p) _ (λ x v. v ≤ℤ x) (λ x e. lesser_right (f n) (least_of f n) x (of_option (f p) x _ e (least_of_is_below f n p below)))
  | inr same ↦ let e : p ≡ n = omega arith in rw e (lesser_left (f n) (least_of f n))
]

pub least_of_is_reached : (f : ℕ → Option ℤ) (n : ℕ) (v : ℤ) → least_of f n ≡ Some v → (p : ℕ) × (p < n) × (f p ≡ Some v)
least_of_is_reached f zero v e = absurd cc
least_of_is_reached f (suc n) v e = elim (lesser_cases (f n) (least_of f n) v e) [
  | inl here ↦ (n, omega arith, here)
  | inr before ↦ let r = least_of_is_reached f n v before in (r.0, omega arith, r.2)
]

-- ---- the latest dates, where some are given

after_parts : (o a : Option ℤ) (v : ℤ) → after o a ≡ Some v → (x b : ℤ) × (o ≡ Some x) × (a ≡ Some b) × (v ≡ x +ℤ b)
after_parts None a v e = absurd cc
after_parts (Some x) None v e = absurd cc
after_parts (Some x) (Some b) v e = (x, b, refl, refl, cc)

-- the least bound from p to j is at most that to i and a step on
triangle_end_option : (bounds : List Bound) (p i j : ℕ) (m : ℤ) → ((t : ℕ → ℤ) → Meets bounds t → t j ≤ℤ (t i +ℤ m)) → (a b : Option ℤ) → IsMost bounds p i a → IsMost bounds p j b → IfSome a (λ x. IsSomeAnd b (λ y. y ≤ℤ (x +ℤ m)))
triangle_end_option bounds p i j m step None b ha hb = tt
triangle_end_option bounds p i j m step (Some x) None ha hb =
    let w = hb (m +ℤ x) in
    let one = step w.0 w.1 in
    let two = ha.0 w.0 w.1 in
    absurd (omega (arith, ints, w.2, one, two))
triangle_end_option bounds p i j m step (Some x) (Some y) ha hb =
    let one = step hb.1 hb.2 in
    let two = ha.0 hb.1 hb.2 in
    let e = hb.3 in omega (arith, ints, e, one, two)

pub and_then : (o : Option ℤ) (P : ℤ → Type 0) → IsSomeAnd o P → (v : ℤ) × (o ≡ Some v) × P v
and_then None P h = absurd h
and_then (Some v) P h = (v, refl, h)

pub some_and : (o : Option ℤ) (P : ℤ → Type 0) (v : ℤ) → o ≡ Some v → P v → IsSomeAnd o P
some_and None P v e h = absurd cc
some_and (Some x) P v e h = let e' : v ≡ x = cc in subst P e' h

pub if_some : (o : Option ℤ) (P : ℤ → Type 0) → ((v : ℤ) → o ≡ Some v → P v) → IfSome o P
if_some None P h = tt
if_some (Some v) P h = h v refl

module _ (bounds : List Bound) (n : ℕ) (most : ℕ → ℕ → Option ℤ) (given : ℕ → Option ℤ) (within : IsWithin n bounds) (consistent : IsConsistent bounds) (min : IsMinimal bounds n most) (below : (p : ℕ) → IfSome (given p) (λ _. p < n)) where
  -- a date that a given one and a least bound allow is not before the latest
  pub latest_below : (p r : ℕ) (x b : ℤ) → given p ≡ Some x → most p r ≡ Some b → IsSomeAnd (latest n most given r) (λ v. v ≤ℤ (x +ℤ b))
  latest_below p r x b is_given is_most =
      let l = of_option (given p) x (λ _. p < n) is_given (below p) in
      let e : after (given p) (most p r) ≡ Some (x +ℤ b) = rw (is_given, is_most) refl in
      of_option _ (x +ℤ b) (λ z. IsSomeAnd (latest n most given r) (λ v. v ≤ℤ z)) e (least_of_is_below (λ p. after (given p) (most p r)) n p l)

  pub latest_holds : (i j : ℕ) → i < n → j < n → (m : ℤ) → ((t : ℕ → ℤ) → Meets bounds t → t j ≤ℤ (t i +ℤ m)) → IfSome (latest n most given i) (λ v. IsSomeAnd (latest n most given j) (λ u. u ≤ℤ (v +ℤ m)))
  latest_holds i j hi hj m step = if_some _ _ (λ v e.
      let r = least_of_is_reached (λ p. after (given p) (most p i)) n v e in
      let parts = after_parts _ _ v r.2 in
      let p = r.0 in
      let tri = of_option (most p i) parts.1 _ parts.3 (triangle_end_option bounds p i j m step (most p i) (most p j) (min p i r.1 hi) (min p j r.1 hj)) in
      let to_j = and_then (most p j) (λ y. y ≤ℤ (parts.1 +ℤ m)) tri in
      let bv = and_then (latest n most given j) (λ u. u ≤ℤ (parts.0 +ℤ to_j.0)) (latest_below p j parts.0 to_j.0 parts.2 to_j.1) in
      some_and _ _ bv.0 bv.1 (omega (arith, ints, bv.2, to_j.2, parts.4)))

  pub latest_all : All (HeldLate (latest n most given)) bounds
  latest_all k d l =
      let b = within k d l in
      let bound = get_or bounds k d in
      if_some bound.most _ (λ m is. latest_holds bound.from bound.to b.from_below b.to_below m (λ t met. step_of _ _ _ m is (met k d l)))

  pub latest_agrees : IsPairwiseWithin most given → (p : ℕ) (x : ℤ) → given p ≡ Some x → latest n most given p ≡ Some x
  latest_agrees pairwise p x is_given =
      let l = of_option (given p) x (λ _. p < n) is_given (below p) in
      let self = IsMost-self_option bounds p (most p p) consistent (min p p l l) in
      let low = and_then (latest n most given p) (λ v. v ≤ℤ (x +ℤ pos 0)) (latest_below p p x (pos 0) is_given self) in
      let r = least_of_is_reached (λ q. after (given q) (most q p)) n low.0 low.1 in
      let parts = after_parts _ _ low.0 r.2 in
      let one = of_option (given r.0) parts.0 _ parts.2 (pairwise r.0 p) in
      let two = of_option (given p) x _ is_given one in
      let three = of_option (most r.0 p) parts.1 _ parts.3 two in
      let e : low.0 ≡ x = omega (arith, ints, low.2, three, parts.4) in
      rw (← e) low.1

  -- no choice of dates is later
  pub latest_reached : (r : ℕ) → r < n → (d : ℤ) → latest n most given r ≡ Some d → (t : ℕ → ℤ) → Agrees given t → Meets bounds t → t r ≤ℤ d
  latest_reached r l d e t agrees met =
      let at = least_of_is_reached (λ p. after (given p) (most p r)) n d e in
      let parts = after_parts _ _ d at.2 in
      let up = of_option (most at.0 r) parts.1 _ parts.3 (upper_option bounds at.0 r (most at.0 r) (min at.0 r at.1 l) t met) in
      let own = of_option (given at.0) parts.0 (λ d. t at.0 ≡ d) parts.2 (agrees at.0) in
      omega (arith, ints, up, own, parts.4)

  pub met_from_pairwise : IsPairwiseWithin most given → MeetsInPart bounds given
  met_from_pairwise pairwise =
      let ext = extend_late (latest n most given) consistent.0 bounds consistent.1 latest_all in
      (filled_late (latest n most given) consistent.0 ext.0, λ p. if_some (given p) _ (λ x e. rw (latest_agrees pairwise p x e) refl), ext.1 ext.0 (omega arith))

  pub pairwise_from_met : MeetsInPart bounds given → IsPairwiseWithin most given
  pairwise_from_met met p q = if_some (given p) _ (λ x ex. if_some (given q) _ (λ y ey. if_some (most p q) _ (λ b eb.
      let lp = of_option (given p) x (λ _. p < n) ex (below p) in
      let lq = of_option (given q) y (λ _. q < n) ey (below q) in
      let up = of_option (most p q) b _ eb (upper_option bounds p q (most p q) (min p q lp lq) met.0 met.2) in
      let tx = of_option (given p) x _ ex (met.1 p) in
      let ty = of_option (given q) y _ ey (met.1 q) in
      omega (arith, ints, up, tx, ty))))

pub least_bounds_decide : LeastBoundsDecide
least_bounds_decide bounds n most given within consistent min below =
    (pairwise_from_met bounds n most given within consistent min below, met_from_pairwise bounds n most given within consistent min below)

-- the later dates of two choices that meet the bounds meet them too
pub Meets-later : (bounds : List Bound) (s t : ℕ → ℤ) → Meets bounds s → Meets bounds t → Meets bounds (λ p. int_max (s p) (t p))
Meets-later bounds s t hs ht k d l = let b = get_or bounds k d in later_keeps b.most (s b.from) (s b.to) (t b.from) (t b.to) (hs k d l) (ht k d l)
  where
    later_keeps : (o : Option ℤ) (a b c e : ℤ) → IfSome o (λ m. b ≤ℤ (a +ℤ m)) → IfSome o (λ m. e ≤ℤ (c +ℤ m)) → IfSome o (λ m. int_max b e ≤ℤ (int_max a c +ℤ m))
    later_keeps None a b c e h k = tt
    later_keeps (Some m) a b c e h k = omega (arith, ints, clamps)
