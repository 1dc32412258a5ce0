-- What a store stands for where its pool stays, and what was recognised before.
use Rattle.std.proofs.Common.{◌≡◌, ℕ, zero, suc, ◌≤◌, ◌<◌, List, [], ◌∷◌, ◌++◌, length, map, refl, sym, ap, subst, ◌∙◌, inl, inr, arith, nat_lt}
use Rattle.std.proofs.lemmas.List.{append-nil, length-map}
use Rattle.std.proofs.lemmas.List.Elements.{filter-append}
use Rattle.crs_base.proofs.Words.{in_from_each}
use Rattle.std.proofs.lemmas.Bool.{le-ltb}
use Rattle.std.specs.Prelude.{Some, None}
use Rattle.crs_base.specs.Words.{IsIn}
use Rattle.crs_base.specs.Entry.{Entry}
use Rattle.crs_model.specs.Models.{Chronicle}
use Rattle.crs_model.specs.Partial.{Partial, at}
use Rattle.crs_model.specs.Open.{IsOpen, IsRecognisedWhole, before}
use Rattle.crs_model.proofs.Options.{of_some}
use Rattle.crs_model.proofs.Parts.{open_back}

-- later entries aren't dated before g
filter_none : {S : Type 0} (g : ℕ) (more : List (Entry S)) → ((e : Entry S) → IsIn e more → g ≤ e.date) → before g more ≡ []
filter_none g [] late = refl
filter_none g (x ∷ more) late = rw (le-ltb x.date g (late x (inl refl))) (filter_none g more (λ e i. late e (inr i)))

pub before_more : {S : Type 0} (g : ℕ) (entries more : List (Entry S)) → ((e : Entry S) → IsIn e more → g ≤ e.date) → before g (entries ++ more) ≡ before g entries
before_more g entries more late = filter-append (λ e. nat_lt e.date g) entries more ∙ ap (λ t. before g entries ++ t) (filter_none g more late) ∙ append-nil (before g entries)

pub at_whole : {S : Type 0} (es : List (Entry S)) (e : ℕ) → e < length es → at (map Some es) e ≡ None → ⊥
at_whole [] e l h = absurd (omega arith)
at_whole (x ∷ es) zero l h = absurd cc
at_whole (x ∷ es) (suc e) l h = at_whole es e (omega arith) h

pub in_whole : {S : Type 0} (es : List (Entry S)) (e : ℕ) (x : Entry S) → at (map Some es) e ≡ Some x → IsIn x es
in_whole [] e x h = absurd cc
in_whole (y ∷ es) zero x h = inl (cc)
in_whole (y ∷ es) (suc e) x h = inr (in_whole es e x h)

pub recognised_full : {S : Type 0} (c : Chronicle S) (was entries : List (Entry S)) (g : ℕ) (a : Partial S) (e : ℕ) → IsRecognisedWhole c was entries g a → e < length a → at a e ≡ None → ⊥
recognised_full c was entries g a e r l n =
    at_whole (r.0).entries e (subst (λ (k : ℕ). e < k) (ap length r.1 ∙ length-map (r.0).entries Some) l) (sym (ap (λ (t : Partial _). at t e) r.1) ∙ n)

pub recognised_given : {S : Type 0} (c : Chronicle S) (was entries : List (Entry S)) (g : ℕ) (a : Partial S) (e : ℕ) (x : Entry S) → IsRecognisedWhole c was entries g a → at a e ≡ Some x → IsIn x was
recognised_given c was entries g a e x r i =
    in_from_each (λ y. IsIn y was) (r.0).entries (r.2).assignment.given x (in_whole (r.0).entries e x (sym (ap (λ (t : Partial _). at t e) r.1) ∙ i))

-- ---- what is fine, with a later horizon and further entries, over the same pool

module _ {S : Type 0} (c : Chronicle S) (pool entries more was : List (Entry S)) (d n g : ℕ) (later : d ≤ n) (late : (e : Entry S) → IsIn e more → d ≤ e.date) where
  pub same_pool : (level : ℕ → ℕ) (a : Partial S) → IsOpen c level pool (entries ++ more) n a → IsOpen c level pool entries d a
  same_pool level a k = open_back c level d n later a a (λ e x i. i) refl
      (λ f x w i. let u = w.unbound in absurd (cc))
      pool pool entries more late (λ e x i. of_some (at a e) x _ i (k.partial.given e)) k.closed k
