-- What recognition reads of the strata of a run: of each stratum a view of its own.
use Rattle.std.specs.Prelude.{ℕ, zero, suc, List, [], ◌∷◌}
use Rattle.crs_model.specs.Order.{arrived, in_key_order, dated_before}
use Rattle.crs_log.specs.Recognitions.{View}
use Rattle.crs_layers.specs.Strata.{Stratum}

-- of a stratum whose horizon is h
abbrev pub view_in : Stratum (List ℕ) → ℕ → View
view_in s h = record { settled = dated_before h s.accepted; arrived = in_key_order (arrived s.marked s.accepted); horizon = h }

-- of each stratum from j on, with its horizon
abbrev pub views_from : (ℕ → ℕ) → ℕ → List (Stratum (List ℕ)) → List View
views_from h j [] = []
views_from h j (s ∷ ss) = view_in s (h j) ∷ views_from h (suc j) ss

-- of stratum j; of one that isn't there nothing is read
abbrev pub view_at : List View → ℕ → View
view_at [] j = record { settled = []; arrived = []; horizon = 0 }
view_at (v ∷ vs) zero = v
view_at (v ∷ vs) (suc j) = view_at vs j
