-- What a mark is answered by over strata.
use Rattle.std.specs.Prelude.{◌≡◌, ℕ, suc, List, [], ◌∷◌, ◌++◌, map}
use Rattle.crs_model.specs.Matching.{Assignment}
use Rattle.crs_model.specs.Scopes.{ListsNew}
use Rattle.crs_log.specs.Recognitions.{View, scope_in}
use Rattle.crs_log.specs.Run.{Outcome, Passed, Refused, Accepted, Marked}
use Rattle.crs_log.specs.Trace.{Answer, answer_of}
use Rattle.crs_layers.specs.Strata.{Placed}
use Rattle.crs_layers.specs.StrataViews.{view_at}

-- chronicle by chronicle in file order, the first of which has the number k: exactly the assignments that are new in its stratum, each once, in key order
abbrev pub AreNew : ℕ → List (Placed (List ℕ)) → List View → List View → List Answer → Type 0
AreNew k [] was now answers = answers ≡ []
AreNew k (p ∷ ps) was now answers =
    (new : List (Assignment (List ℕ))) × (rest : List Answer)
    × ListsNew p.chronicle (scope_in p.chronicle (view_at was p.stratum)) (scope_in p.chronicle (view_at now p.stratum)) new
    × AreNew (suc k) ps was now rest × (answers ≡ map (answer_of k p.chronicle) new ++ rest)

-- a mark is answered by what is new, where recognition read `was` before it and reads `now` behind it; no other line is answered
abbrev pub AreAnswers : List (Placed (List ℕ)) → List View → List View → Outcome → List Answer → Type 0
AreAnswers ps was now Passed answers = answers ≡ []
AreAnswers ps was now (Refused fault) answers = answers ≡ []
AreAnswers ps was now (Accepted entry) answers = answers ≡ []
AreAnswers ps was now (Marked mark) answers = AreNew 0 ps was now answers
