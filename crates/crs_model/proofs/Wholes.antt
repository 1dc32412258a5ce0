-- A whole partial assignment all of whose windows are met is recognised.
use Rattle.std.proofs.Common.{◌≡◌, ◌≢◌, ℕ, suc, List, [], ◌∷◌, length, map, sym, ap, subst, ◌∙◌, inl, inr, arith}
use Rattle.std.specs.Prelude.{Some, IfSome, slice_get}
use Rattle.std.specs.List.{AllZip}
use Rattle.std.proofs.lemmas.List.{length-map}
use Rattle.crs_base.specs.Words.{IsIn, Ordered}
use Rattle.crs_base.proofs.Words.{each_from_in}
use Rattle.crs_stn.specs.Bound.{MeetsInPart}
use Rattle.crs_base.specs.Entry.{Entry}
use Rattle.crs_model.specs.Models.{Chronicle, Window}
use Rattle.crs_model.specs.Matching.{Binding, Assignment, IsAllowed, PatternIs, IsAssignment}
use Rattle.crs_model.specs.Partial.{at, IsPartial, GivesNoneTwice, dates_of}
use Rattle.crs_model.specs.Verdicts.{IsMet}
use Rattle.crs_model.specs.Open.{IsRecognised, whole}
use Rattle.crs_model.proofs.Options.{of_some}

module _ {S : Type 0} where
  zip_from : {V : Type 0} (R : V → Entry S → Type 0) (vs : List V) (es : List (Entry S)) → length es ≡ length vs → ((e : ℕ) → IfSome (slice_get vs e) (λ v. IfSome (at (map Some es) e) (λ x. R v x))) → AllZip R vs es
  zip_from R [] [] l h = tt
  zip_from R [] (x ∷ es) l h = absurd (omega arith)
  zip_from R (v ∷ vs) [] l h = absurd (omega arith)
  zip_from R (v ∷ vs) (x ∷ es) l h = (h 0, zip_from R vs es (omega arith) (λ e. h (suc e)))

  place : (es : List (Entry S)) (x : Entry S) → IsIn x es → (e : ℕ) × (at (map Some es) e ≡ Some x)
  place [] x i = absurd i
  place (y ∷ es) x (inl s) = (0, ap Some (sym s))
  place (y ∷ es) x (inr i) = let r = place es x i in (suc r.0, r.1)

  ordered_from : (es : List (Entry S)) → GivesNoneTwice (map Some es) → Ordered (λ d e. d.arrival ≢ e.arrival) es
  ordered_from [] h = tt
  ordered_from (x ∷ es) h = (
    each_from_in (λ (y : Entry S). x.arrival ≢ y.arrival) es (λ y i. let r = place es y i in of_some (at (map Some es) r.0) y (λ z. x.arrival ≢ z.arrival) r.1 (h 0 (suc r.0) (λ q. absurd (omega arith)))),
    ordered_from es (λ e f n. h (suc e) (suc f) (λ q. n (omega arith))),
  )

  pub whole_assignment : (c : Chronicle S) (pool : List (Entry S)) (b : Assignment S) (look : Binding S) → IsPartial c pool (whole b) look → slice_get b.values ≡ look → length b.values ≡ length c.variables → IsAssignment c pool b
  whole_assignment c pool b look p same len = record {
    given = each_from_in (λ (x : Entry S). IsIn x pool) b.entries (λ x i. let r = place b.entries x i in of_some (at (whole b) r.0) x (λ z. IsIn z pool) r.1 (p.given r.0));
    distinct = ordered_from b.entries p.distinct;
    bound = len;
    equal = subst (λ (l : Binding S). AllZip (λ v e. PatternIs l v.pattern e) c.events b.entries) (sym same) (zip_from (λ v e. PatternIs look v.pattern e) c.events b.entries (sym (length-map b.entries Some) ∙ p.len) p.binding.equal);
    allowed = subst (λ (l : Binding S). IsAllowed c l) (sym same) p.allowed;
  }

  pub whole_recognised : (c : Chronicle S) (pool entries : List (Entry S)) (h : ℕ) (b : Assignment S) (look : Binding S) → IsPartial c pool (whole b) look → slice_get b.values ≡ look → length b.values ≡ length c.variables → MeetsInPart c.bounds (dates_of (whole b)) → ((w : Window S) → IsIn w c.windows → IsMet look (whole b) entries h w) → IsRecognised c pool entries h b
  whole_recognised c pool entries h b look p same len bounds met = record {
    assignment = whole_assignment c pool b look p same len;
    bounds = bounds;
    windows = λ w i. subst (λ (l : Binding S). IsMet l (whole b) entries h w) (sym same) (met w i);
  }
