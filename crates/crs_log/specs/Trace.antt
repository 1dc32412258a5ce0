-- What a log brings: the trace of its lines, of which its text, what listeners are told and the numbers of a run are read.
use Rattle.std.specs.Prelude.{◌≡◌, ℕ, suc, List, [], ◌∷◌, ◌++◌, map, flat_map}
use Rattle.crs_model.specs.Models.{Chronicle}
use Rattle.crs_model.specs.Matching.{Assignment}
use Rattle.crs_model.specs.Scopes.{ListsNew}
use Rattle.crs_log.specs.Reading.{Given, number_of}
use Rattle.crs_log.specs.Recognitions.{View, view_of, scope_in}
use Rattle.crs_log.specs.Run.{Setting, State, Outcome, Passed, Refused, Accepted, Marked, after_line}
use Rattle.crs_log.specs.Walks.{Walks}

-- an assignment that is new at a mark, with its chronicle and that chronicle's number in file order, from 0
pub record Answer : Type 0 where
  pub number : ℕ
  pub chronicle : Chronicle (List ℕ)
  pub assignment : Assignment (List ℕ)

abbrev pub answer_of : ℕ → Chronicle (List ℕ) → Assignment (List ℕ) → Answer
answer_of k c a = record { number = k; chronicle = c; assignment = a }

-- chronicle by chronicle in file order, the first of which has the number k: exactly the new assignments, each once, in key order
abbrev pub AreNew : ℕ → List (Chronicle (List ℕ)) → View → View → List Answer → Type 0
AreNew k [] was now answers = answers ≡ []
AreNew k (c ∷ cs) was now answers =
    (new : List (Assignment (List ℕ))) × (rest : List Answer) × ListsNew c (scope_in c was) (scope_in c now) new × AreNew (suc k) cs was now rest
    × (answers ≡ map (answer_of k c) new ++ rest)

-- a mark is answered by what is new, where recognition read `was` before it and reads `now` behind it; no other line is answered
abbrev pub AreAnswers : List (Chronicle (List ℕ)) → View → View → Outcome → List Answer → Type 0
AreAnswers cs was now Passed answers = answers ≡ []
AreAnswers cs was now (Refused fault) answers = answers ≡ []
AreAnswers cs was now (Accepted entry) answers = answers ≡ []
AreAnswers cs was now (Marked mark) answers = AreNew 0 cs was now answers

-- what a line brings: its number, what became of it, what recognition read before it and reads behind it, and its answers
pub record Effect : Type 0 where
  pub number : ℕ
  pub outcome : Outcome
  pub was : View
  pub now : View
  pub answers : List Answer

-- the line g, met in the state s, brings the effect and leaves the state `next`
pub record IsEffect (c : Setting) (cs : List (Chronicle (List ℕ))) (s : State) (g : Given) (e : Effect) (next : State) : Type 0 where
  pub number : e.number ≡ number_of g
  pub becomes : after_line c s g ≡ (next, e.outcome)
  pub was : e.was ≡ view_of s
  pub now : e.now ≡ view_of next
  pub answers : AreAnswers cs e.was e.now e.outcome e.answers

-- what these lines bring, of which the first is met in the state s, and the state behind them
abbrev pub IsTrace : Setting → List (Chronicle (List ℕ)) → State → List Given → List Effect → State → Type 0
IsTrace c cs s lines effects last = Walks (IsEffect c cs) s lines effects last

-- all that is new at the marks, in order
abbrev pub answers_in : List Effect → List Answer
answers_in effects = flat_map (λ e. e.answers) effects
