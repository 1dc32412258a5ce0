-- Lists of assignments over entries that say the same under other arrival numbers: where two predicates go along pairs, the lists of all of which they hold are paired.
use Rattle.std.proofs.Common.{◌≡◌, List, [], ◌∷◌, sym, subst, ◌∙◌, Less, inl, inr}
use Rattle.std.specs.List.{AllZip, AllByRecursion}
use Rattle.std.specs.Cmp.{IsTotalOrder}
use Rattle.std.proofs.lemmas.Cmp.{on_total, lists_total}
use Rattle.crs_base.specs.Words.{IsIn, Ordered}
use Rattle.crs_base.specs.Entry.{Entry}
use Rattle.crs_base.proofs.KeyOrder.{entry_total}
use Rattle.crs_base.proofs.Words.{in_from_each}
use Rattle.crs_model.specs.Matching.{Assignment}
use Rattle.crs_model.specs.Order.{Lists, assignment_cmp}
use Rattle.crs_base.proofs.Unique.{same_members}
use Rattle.crs_model.proofs.Twins.{Twins, flip, zip_turned, one_row, rows_cmp}

module _ {S : Type 0} where
  -- the same values, for entries that are twins
  pub record Paired (T : Entry S → Entry S → Type 0) (a b : Assignment S) : Type 0 where
    pub entries : AllZip T a.entries b.entries
    pub values : a.values ≡ b.values

  pub paired_turned : (T : Entry S → Entry S → Type 0) (a b : Assignment S) → Paired T a b → Paired (flip T) b a
  paired_turned T a b p = record { entries = zip_turned T a.entries b.entries p.entries; values = sym p.values }

  assignments_total : IsTotalOrder (assignment_cmp {S = S})
  assignments_total = on_total (λ a. a.entries) (lists_total entry_total)

  -- what holds of an assignment holds of the one that it is paired with, and each of which it holds is paired with one
  pub record GoAlong (T : Entry S → Entry S → Type 0) (P Q : Assignment S → Type 0) : Type 0 where
    pub on : (a b : Assignment S) → Paired T a b → P a → Q b
    pub other : (a : Assignment S) → P a → (b : Assignment S) × Paired T a b
    pub back : (b : Assignment S) → Q b → (a : Assignment S) × P a × Paired T a b

  module _ (T : Entry S → Entry S → Type 0) (t : Twins T) (P Q : Assignment S → Type 0) (go : GoAlong T P Q) where
    others : (xs : List (Assignment S)) → AllByRecursion P xs → (ys : List (Assignment S)) × AllZip (Paired T) xs ys
    others [] r = ([], tt)
    others (x ∷ xs) r =
        let first = go.other x r.0 in
        let rest = others xs r.1 in
        (first.0 ∷ rest.0, (first.1, rest.1))

    each_on : (xs ys : List (Assignment S)) → AllZip (Paired T) xs ys → AllByRecursion P xs → AllByRecursion Q ys
    each_on [] [] p r = tt
    each_on [] (b ∷ ys) p r = absurd p
    each_on (a ∷ xs) [] p r = absurd p
    each_on (a ∷ xs) (b ∷ ys) p r = (go.on a b p.0 r.0, each_on xs ys p.1 r.1)

    above : (a b : Assignment S) (xs ys : List (Assignment S)) → Paired T a b → AllZip (Paired T) xs ys
        → AllByRecursion (λ x. assignment_cmp a x ≡ Less) xs → AllByRecursion (λ x. assignment_cmp b x ≡ Less) ys
    above a b [] [] p q k = tt
    above a b [] (d ∷ ys) p q k = absurd q
    above a b (x ∷ xs) [] p q k = absurd q
    above a b (x ∷ xs) (d ∷ ys) p q k =
        (sym (rows_cmp T t a.entries b.entries x.entries d.entries p.entries q.0.entries) ∙ k.0, above a b xs ys p q.1 k.1)

    ascends : (xs ys : List (Assignment S)) → AllZip (Paired T) xs ys → Ordered (λ a b. assignment_cmp a b ≡ Less) xs
        → Ordered (λ a b. assignment_cmp a b ≡ Less) ys
    ascends [] [] p k = tt
    ascends [] (b ∷ ys) p k = absurd p
    ascends (a ∷ xs) [] p k = absurd p
    ascends (a ∷ xs) (b ∷ ys) p k = (above a b xs ys p.0 p.1 k.0, ascends xs ys p.1 k.1)

    one_pair : (a b d : Assignment S) → Paired T a b → Paired T a d → b ≡ d
    one_pair a b d p q =
        let e : b.entries ≡ d.entries = one_row T t a.entries b.entries d.entries p.entries q.entries in
        let v : b.values ≡ d.values = sym p.values ∙ q.values in
        λ i. record { entries = e i; values = v i }

    pair_in : (xs ys : List (Assignment S)) → AllZip (Paired T) xs ys → (a b : Assignment S) → IsIn a xs → Paired T a b → IsIn b ys
    pair_in [] ys p a b i q = absurd i
    pair_in (x ∷ xs) [] p a b i q = absurd p
    pair_in (x ∷ xs) (d ∷ ys) p a b (inl e) q = inl (one_pair a b d q (subst (λ (w : Assignment S). Paired T w d) (sym e) p.0))
    pair_in (x ∷ xs) (d ∷ ys) p a b (inr i) q = inr (pair_in xs ys p.1 a b i q)

    -- the lists of all of which they hold are paired
    pub lists_paired : (xs ys : List (Assignment S)) → Lists assignment_cmp P xs → Lists assignment_cmp Q ys → AllZip (Paired T) xs ys
    lists_paired xs ys l m =
        let o = others xs l.each in
        let each = each_on xs o.0 o.1 l.each in
        let up = ascends xs o.0 o.1 l.ascending in
        let same : o.0 ≡ ys = same_members assignments_total o.0 ys up m.ascending
        (λ b i. m.all b (in_from_each Q o.0 each b i))
        (λ b i.
        let k = go.back b (in_from_each Q ys m.each b i) in
        pair_in xs o.0 o.1 k.0 b (l.all k.0 k.1) k.2) in
        subst (λ (zs : List (Assignment S)). AllZip (Paired T) xs zs) same o.1
