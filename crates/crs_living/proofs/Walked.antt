-- Places one after another, and the lists of what stands in all of them.
use Rattle.std.proofs.Common.{◌≡◌, ◌≢◌, ◌⊎◌, ℕ, suc, List, [], ◌∷◌, length, refl, sym, subst, ◌∙◌, inl, inr, arith}
use Rattle.std.specs.Prelude.{Option, Some, None}
use Rattle.std.specs.List.{AllZip}
use Rattle.std.specs.List.Sorted.{IsStrictlySortedBy}
use Rattle.std.specs.Ordering.{nat_cmp}
use Rattle.std.specs.declared.cmp.Ordering.TheVariants.{Less}
use Rattle.std.proofs.lemmas.Bool.{cases_eq}
use Rattle.std.proofs.lemmas.Cmp.{ranked}
use Rattle.std.proofs.lemmas.Map.Keys.{sorted_head, sorted_tail}
use Rattle.crs_base.specs.Sifted.{Sifts}
use Rattle.crs_base.specs.Words.{IsIn}
use Rattle.crs_base.proofs.Words.{in_from_each}
use Rattle.crs_instance.specs.Instances.{InstanceState}
use Rattle.crs_living.specs.Slots.{SlotsState, members, slot_at, handle_at, Becomes, Changes}
use Rattle.crs_living.specs.PlaceWalks.{Walks}
use Rattle.crs_living.proofs.Members.{At}

-- ---- the numbers of a list

pub in_or_not : (p : ℕ) (xs : List ℕ) → IsIn p xs ⊎ (IsIn p xs → ⊥)
in_or_not p [] = inr (λ i. i)
in_or_not p (x ∷ xs) = elim (cases_eq p x) [
  | inl e ↦ inl (inl e)
  | inr n ↦ elim (in_or_not p xs) [
    | inl i ↦ inl (inr i)
    | inr m ↦ inr (λ i. elim i [ inl e ↦ n e | inr j ↦ m j ])
  ]
]

-- the first of a list in order comes no more
pub first_apart : (x : ℕ) (xs : List ℕ) → IsStrictlySortedBy nat_cmp (x ∷ xs) → (p : ℕ) → IsIn p xs → p ≢ x
first_apart x xs s p i e =
    let l = ranked x p Less (sym (in_from_each (λ y. nat_cmp x y ≡ Less) xs (sorted_head nat_cmp x xs s) p i)) in
    omega arith

-- ---- something is so of each of them but those that are left

abbrev pub IsEachBut : (ℕ → Type 0) → List ℕ → List ℕ → Type 0
IsEachBut Q keys rest = (p : ℕ) → IsIn p keys → IsIn p rest ⊎ Q p

module _ (Q : ℕ → Type 0) (keys rest : List ℕ) where
  pub each_next : (More : ℕ → Type 0) (x : ℕ) (left : List ℕ) → rest ≡ x ∷ left → IsEachBut Q keys rest → ((p : ℕ) → Q p → More p) → More x → IsEachBut More keys left
  each_next More x left e so still here p i = elim (so p i) [
    | inl j ↦ (elim (subst (IsIn p) e j) [ inl s ↦ inr (subst More (sym s) here) | inr k ↦ inl k ])
    | inr q ↦ inr (still p q)
  ]

  pub each_last : rest ≡ [] → IsEachBut Q keys rest → (p : ℕ) → IsIn p keys → Q p
  each_last e so p i = elim (so p i) [ inl j ↦ (let never : IsIn p [] = subst (IsIn p) e j in absurd never) | inr q ↦ q ]

-- ---- the places that are walked, but for those that are left

module _ (R : InstanceState → InstanceState → Type 0) (Able : InstanceState → Type 0) (keys : List ℕ) (old : SlotsState) where
  pub record IsWalkedBut (rest : List ℕ) (new : SlotsState) : Type 0 where
    pub at : IsEachBut (λ p. Becomes R Able (slot_at old p) (slot_at new p)) keys rest
    pub left : (p : ℕ) → IsIn p rest → IsIn p keys × (slot_at new p ≡ slot_at old p)
    pub others : (p : ℕ) → (IsIn p keys → ⊥) → slot_at new p ≡ slot_at old p
    pub handles : (p : ℕ) (j : InstanceState) → slot_at new p ≡ Some j → handle_at new p ≡ handle_at old p
    pub places : length new.slots ≡ length old.slots
    pub ordered : IsStrictlySortedBy nat_cmp rest

  module _ (now new : SlotsState) (x : ℕ) (left : List ℕ) (w : IsWalkedBut (x ∷ left) now) (c : Changes R Able now new x) where
    at_other : (p : ℕ) → p ≢ x → Becomes R Able (slot_at old p) (slot_at now p) → Becomes R Able (slot_at old p) (slot_at new p)
    at_other p n b = subst (Becomes R Able (slot_at old p)) (sym (c.others p n)) b

    at_here : Becomes R Able (slot_at old x) (slot_at new x)
    at_here = subst (λ (o : Option InstanceState). Becomes R Able o (slot_at new x)) ((w.left x (inl refl)).1) c.here

    walked_at : (p : ℕ) → (p ≡ x) ⊎ (p ≢ x) → IsIn p (x ∷ left) ⊎ Becomes R Able (slot_at old p) (slot_at now p) → IsIn p left ⊎ Becomes R Able (slot_at old p) (slot_at new p)
    walked_at p (inl e) b = inr (subst (λ (q : ℕ). Becomes R Able (slot_at old q) (slot_at new q)) (sym e) at_here)
    walked_at p (inr n) (inl (inl e)) = absurd (n e)
    walked_at p (inr n) (inl (inr i)) = inl i
    walked_at p (inr n) (inr b) = inr (at_other p n b)

    handles_at : (p : ℕ) (j : InstanceState) → slot_at new p ≡ Some j → (p ≡ x) ⊎ (p ≢ x) → handle_at now p ≡ handle_at old p
    handles_at p j f (inr n) = w.handles p j (sym (c.others p n) ∙ f)
    handles_at p j f (inl e) = from (slot_at now x) refl (slot_at new x) refl c.here
      where
        from : (o : Option InstanceState) → slot_at now x ≡ o → (m : Option InstanceState) → slot_at new x ≡ m → Becomes R Able o m → handle_at now p ≡ handle_at old p
        from None a None b h = let g = subst (λ (q : ℕ). slot_at new q ≡ Some j) e f in absurd cc
        from None a (Some k) b h = absurd h
        from (Some i) a m b h = w.handles p i (subst (λ (q : ℕ). slot_at now q ≡ Some i) (sym e) a)

    pub walked_next : IsWalkedBut left new
    walked_next = record {
      at = λ p i. walked_at p (cases_eq p x) (w.at p i);
      left = λ p i. (let a = w.left p (inr i) in (a.0, c.others p (first_apart x left w.ordered p i) ∙ a.1));
      others = λ p n. c.others p (λ e. n (subst (λ (q : ℕ). IsIn q keys) (sym e) ((w.left x (inl refl)).0))) ∙ w.others p n;
      handles = λ p j f. c.handles p j f ∙ handles_at p j f (cases_eq p x);
      places = c.places ∙ w.places;
      ordered = sorted_tail nat_cmp x left w.ordered;
    }

  pub walked_more : (now new : SlotsState) (x : ℕ) (rest left : List ℕ) → rest ≡ x ∷ left → IsWalkedBut rest now → Changes R Able now new x → IsWalkedBut left new
  walked_more now new x rest left e w c = walked_next now new x left (subst (λ (t : List ℕ). IsWalkedBut t now) e w) c

-- ---- the lists of what stands in all places

module _ (R : InstanceState → InstanceState → Type 0) (Able : InstanceState → Type 0) where
  lists_of : (xs ys : List (Option InstanceState)) → length ys ≡ length xs → ((p : ℕ) → Becomes R Able (At xs p) (At ys p)) → (mid : List InstanceState) × AllZip R (members xs) mid × Sifts Able mid (members ys)
  lists_of [] [] l b = ([], tt, refl)
  lists_of [] (y ∷ ys) l b = absurd (omega arith)
  lists_of (x ∷ xs) [] l b = absurd (omega arith)
  lists_of (None ∷ xs) (None ∷ ys) l b = lists_of xs ys (omega arith) (λ p. b (suc p))
  lists_of (None ∷ xs) (Some j ∷ ys) l b = absurd (b 0)
  lists_of (Some i ∷ xs) (None ∷ ys) l b = let r = lists_of xs ys (omega arith) (λ p. b (suc p)) in let h = b 0 in (h.0 ∷ r.0, (h.1, r.1), inr (h.2, r.2))
  lists_of (Some i ∷ xs) (Some j ∷ ys) l b = let r = lists_of xs ys (omega arith) (λ p. b (suc p)) in let h = b 0 in (j ∷ r.0, (h.0, r.1), inl (h.1, members ys, refl, r.2))

  becomes_same : (o : Option InstanceState) → ((i : InstanceState) → o ≡ Some i → R i i × Able i) → Becomes R Able o o
  becomes_same None h = tt
  becomes_same (Some i) h = h i refl

  -- each instance comes to stand in R, and exactly the able ones are left, where those of the other places are in R to themselves and able
  pub walk_lists : (keys : List ℕ) (old new : SlotsState) → Walks R Able keys old new → ((p : ℕ) (i : InstanceState) → (IsIn p keys → ⊥) → slot_at old p ≡ Some i → R i i × Able i)
      → (mid : List InstanceState) × AllZip R (members old.slots) mid × Sifts Able mid (members new.slots)
  walk_lists keys old new w outside = lists_of old.slots new.slots w.places (λ p. by p (in_or_not p keys))
    where
      by : (p : ℕ) → IsIn p keys ⊎ (IsIn p keys → ⊥) → Becomes R Able (slot_at old p) (slot_at new p)
      by p (inl i) = w.at p i
      by p (inr n) = subst (Becomes R Able (slot_at old p)) (sym (w.others p n)) (becomes_same (slot_at old p) (λ i e. outside p i n e))
