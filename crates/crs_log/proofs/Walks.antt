-- Walks one behind the other, and that there is one walk where each line has one effect.
use Rattle.std.proofs.Common.{◌≡◌, ◌∙◌, List, [], ◌∷◌, ◌++◌, refl, sym, subst}
use Rattle.crs_log.specs.Walks.{Walks}

module _ {S L E : Type 0} (Step : S → L → E → S → Type 0) where
  pub walk_one : (s : S) (l : L) (e : E) (next : S) → Step s l e next → Walks Step s (l ∷ []) (e ∷ []) next
  walk_one s l e next h = (next, h, refl)

  pub walk_append : (s mid last : S) (xs ys : List L) (es ds : List E) → Walks Step s xs es mid → Walks Step mid ys ds last
      → Walks Step s (xs ++ ys) (es ++ ds) last
  walk_append s mid last [] ys [] ds h k = subst (λ z. Walks Step z ys ds last) (sym h) k
  walk_append s mid last [] ys (e ∷ es) ds h k = absurd h
  walk_append s mid last (x ∷ xs) ys [] ds h k = absurd h
  walk_append s mid last (x ∷ xs) ys (e ∷ es) ds h k = (h.0, h.1, walk_append h.0 mid last xs ys es ds h.2 k)

  module _ (one : (s : S) (l : L) (e d : E) (m n : S) → Step s l e m → Step s l d n → (e ≡ d) × (m ≡ n)) where
    pub one_walk : (s : S) (ls : List L) (es ds : List E) (m n : S) → Walks Step s ls es m → Walks Step s ls ds n → (es ≡ ds) × (m ≡ n)
    one_walk s [] [] [] m n h k = (refl, sym h ∙ k)
    one_walk s [] [] (d ∷ ds) m n h k = absurd k
    one_walk s [] (e ∷ es) ds m n h k = absurd h
    one_walk s (l ∷ ls) [] ds m n h k = absurd h
    one_walk s (l ∷ ls) (e ∷ es) [] m n h k = absurd k
    one_walk s (l ∷ ls) (e ∷ es) (d ∷ ds) m n h k =
        let o = one s l e d h.0 k.0 h.1 k.1 in
        let r = one_walk h.0 ls es ds m n h.2 (subst (λ z. Walks Step z ls ds n) (sym o.1) k.2) in
        ((λ i. o.0 i ∷ r.0 i), r.1)
