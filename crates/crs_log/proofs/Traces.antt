-- What becomes of each line, as a trace tells it.
use Rattle.std.proofs.Common.{◌≡◌, ◌∙◌, ℕ, List, [], ◌∷◌, map, refl, ap}
use Rattle.crs_model.specs.Models.{Chronicle}
use Rattle.crs_log.specs.Reading.{Given}
use Rattle.crs_log.specs.Run.{Setting, State, outcomes}
use Rattle.crs_log.specs.Trace.{Effect, IsTrace}

module _ (c : Setting) (cs : List (Chronicle (List ℕ))) where
  -- what becomes of each line
  pub trace_outcomes : (s : State) (gs : List Given) (es : List Effect) (last : State) → IsTrace c cs s gs es last
      → outcomes c s gs ≡ map (λ e. e.outcome) es
  trace_outcomes s [] [] last h = refl
  trace_outcomes s [] (e ∷ es) last h = absurd h
  trace_outcomes s (g ∷ gs) [] last h = absurd h
  trace_outcomes s (g ∷ gs) (e ∷ es) last h =
      (λ i. (h.1.becomes i).1 ∷ outcomes c (h.1.becomes i).0 gs) ∙ ap (λ os. e.outcome ∷ os) (trace_outcomes h.0 gs es last h.2)
