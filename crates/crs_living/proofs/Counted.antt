-- How many instances are in their places.
use Rattle.std.proofs.Common.{◌≡◌, ℕ, zero, suc, ◌<◌, ◌≤◌, ◌+◌, ◌-◌, List, [], ◌∷◌, ◌++◌, length, refl, sym, ap, subst, ◌∙◌, arith, Bool, true, false, length-set}
use Rattle.std.specs.Prelude.{Option, Some, None, slice_set, slice_index_or}
use Rattle.crs_instance.specs.Instances.{InstanceState}
use Rattle.crs_living.specs.Slots.{SlotsState, IsSlots, WentOrStayed, members, slot_at, Opens, Puts}
use Rattle.crs_living.proofs.Members.{At, goes, stays, set_none, comes, set_same, set_other, at_within, members_few}

-- what an index gives is what stands in the place
pub at_index : {A : Type 0} (xs : List (Option A)) (p : ℕ) (d : Option A) → d ≡ slice_index_or xs p d → p < length xs → At xs p ≡ d
at_index [] p d e l = absurd (omega arith)
at_index (x ∷ xs) zero d e l = sym e
at_index (x ∷ xs) (suc p) d e l = at_index xs p d e (omega arith)

module _ (xs : List (Option InstanceState)) (p : ℕ) (serials new : List ℕ) where
  went : (count : ℕ) (old o : Option InstanceState) → old ≡ slice_index_or xs p old → p < length xs → WentOrStayed old o true → IsSlots (record { slots = xs; serials = serials }) count → length new ≡ length serials → IsSlots (record { slots = slice_set xs p o; serials = new }) (count - 1) × (1 ≤ count)
  went count None o e l h s m = let t = h.0 in absurd cc
  went count (Some x) o e l h s m =
      let g = goes xs p x (at_index xs p (Some x) e l) in
      let k = s.counted in
      let n : length (members (slice_set xs p None)) ≡ length (members (slice_set xs p o)) = ap (λ (t : Option InstanceState). length (members (slice_set xs p t))) (sym h.1) in
      (record { serials = m ∙ s.serials ∙ sym (length-set xs p o); counted = omega arith }, omega arith)

  stayed : (count : ℕ) (old o : Option InstanceState) → old ≡ slice_index_or xs p old → p < length xs → WentOrStayed old o false → IsSlots (record { slots = xs; serials = serials }) count → IsSlots (record { slots = slice_set xs p o; serials = serials }) count
  stayed count None None e l h s = record { serials = s.serials ∙ sym (length-set xs p None); counted = s.counted ∙ ap length (sym (set_none xs p (at_index xs p None e l))) }
  stayed count None (Some y) e l h s = absurd cc
  stayed count (Some x) None e l h s = absurd cc
  stayed count (Some x) (Some y) e l h s = record { serials = s.serials ∙ sym (length-set xs p (Some y)); counted = s.counted ∙ sym (stays xs p x y (at_index xs p (Some x) e l)) }

pub went_one : (xs : List (Option InstanceState)) (p : ℕ) (serials new : List ℕ) (count : ℕ) (old o : Option InstanceState) (b : Bool) → b ≡ true → old ≡ slice_index_or xs p old → p < length xs → WentOrStayed old o b → IsSlots (record { slots = xs; serials = serials }) count → length new ≡ length serials → IsSlots (record { slots = slice_set xs p o; serials = new }) (count - 1)
went_one xs p serials new count old o b t e l h s m = (went xs p serials new count old o e l (subst (WentOrStayed old o) t h) s m).0

pub went_some : (xs : List (Option InstanceState)) (p : ℕ) (serials : List ℕ) (count : ℕ) (old o : Option InstanceState) (b : Bool) → b ≡ true → old ≡ slice_index_or xs p old → p < length xs → WentOrStayed old o b → IsSlots (record { slots = xs; serials = serials }) count → 1 ≤ count
went_some xs p serials count old o b t e l h s = (went xs p serials serials count old o e l (subst (WentOrStayed old o) t h) s refl).1

pub stayed_one : (xs : List (Option InstanceState)) (p : ℕ) (serials : List ℕ) (count : ℕ) (old o : Option InstanceState) (b : Bool) → b ≡ false → old ≡ slice_index_or xs p old → p < length xs → WentOrStayed old o b → IsSlots (record { slots = xs; serials = serials }) count → IsSlots (record { slots = slice_set xs p o; serials = serials }) count
stayed_one xs p serials count old o b f e l h s = stayed xs p serials serials count old o e l (subst (WentOrStayed old o) f h) s

-- one place more
pub opened : (xs : List (Option InstanceState)) (serials : List ℕ) (new : List (Option InstanceState)) (new_serials : List ℕ) → new ≡ xs ++ None ∷ [] → new_serials ≡ serials ++ 0 ∷ [] → length serials ≡ length xs → Opens (record { slots = xs; serials = serials }) (record { slots = new; serials = new_serials }) (length xs)
opened xs serials new new_serials e f l = subst (λ (t : List (Option InstanceState)). Opens (record { slots = xs; serials = serials }) (record { slots = t; serials = new_serials }) (length xs)) (sym e) (subst (λ (t : List ℕ). Opens (record { slots = xs; serials = serials }) (record { slots = xs ++ None ∷ []; serials = t }) (length xs)) (sym f) (record {
  within = within xs;
  empty = last xs;
  same = same xs;
  handles = λ q k. ap (λ (s : ℕ). record { place = q; serial = s }) (kept serials q (subst (λ (n : ℕ). q < n) (sym l) k));
  members = none xs;
}))
  where
    within : (ys : List (Option InstanceState)) → length ys < length (ys ++ None ∷ [])
    within [] = omega arith
    within (y ∷ ys) = let h = within ys in omega arith

    last : (ys : List (Option InstanceState)) → At (ys ++ None ∷ []) (length ys) ≡ None
    last [] = refl
    last (y ∷ ys) = last ys

    same : (ys : List (Option InstanceState)) (q : ℕ) → At (ys ++ None ∷ []) q ≡ At ys q
    same [] zero = refl
    same [] (suc q) = refl
    same (y ∷ ys) zero = refl
    same (y ∷ ys) (suc q) = same ys q

    kept : (ys : List ℕ) (q : ℕ) → q < length ys → slice_index_or (ys ++ 0 ∷ []) q 0 ≡ slice_index_or ys q 0
    kept [] q k = absurd (omega arith)
    kept (y ∷ ys) zero k = refl
    kept (y ∷ ys) (suc q) k = kept ys q (omega arith)

    none : (ys : List (Option InstanceState)) → members (ys ++ None ∷ []) ≡ members ys
    none [] = refl
    none (None ∷ ys) = none ys
    none (Some y ∷ ys) = ap (λ (t : List InstanceState). y ∷ t) (none ys)

pub opened_count : (old new : SlotsState) (count p : ℕ) → Opens old new p → length new.serials ≡ length new.slots → IsSlots old count → IsSlots new count
opened_count old new count p o l s = record { serials = l; counted = s.counted ∙ ap length (sym o.members) }

-- one more that comes
pub put_in : (mid : SlotsState) (p : ℕ) (i : InstanceState) (count : ℕ) → p < length mid.slots → slot_at mid p ≡ None → IsSlots mid count → IsSlots (record { slots = slice_set mid.slots p (Some i); serials = mid.serials }) (count + 1)
put_in mid p i count l e s =
    let r = comes mid.slots p i l e in
    let k = s.counted ∙ ap length r.2 in
    let n = ap length r.3 in
    let m = more r.0 i r.1 in
    record { serials = s.serials ∙ sym (length-set mid.slots p (Some i)); counted = omega arith }
  where
    more : (us : List InstanceState) (x : InstanceState) (vs : List InstanceState) → length (us ++ x ∷ vs) ≡ suc (length (us ++ vs))
    more [] x vs = refl
    more (u ∷ us) x vs = ap suc (more us x vs)

pub puts : (old mid : SlotsState) (p : ℕ) (i : InstanceState) → Opens old mid p → Puts old (record { slots = slice_set mid.slots p (Some i); serials = mid.serials }) p i
puts old mid p i o =
    let r = comes mid.slots p i o.within o.empty in
    record {
      empty = sym (o.same p) ∙ o.empty;
      here = set_same mid.slots p (Some i) o.within;
      others = λ q n. set_other mid.slots p q (Some i) n ∙ o.same q;
      handles = λ q j e. o.handles q (at_within old.slots q j e);
      front = r.0;
      back = r.1;
      was = sym o.members ∙ r.2;
      is = r.3;
    }

pub length_more : {A : Type 0} (xs : List A) (x : A) → length (xs ++ x ∷ []) ≡ suc (length xs)
length_more [] x = refl
length_more (y ∷ xs) x = ap suc (length_more xs x)

pub counted_few : (s : SlotsState) (count : ℕ) → IsSlots s count → count ≤ length s.slots
counted_few s count k = let a = k.counted in let b = members_few s.slots in omega arith
