-- What an engine answers at a mark, and what it stands for then.
use Rattle.std.specs.Prelude.{◌≡◌, ℕ, suc, List, [], ◌∷◌, ◌++◌}
use Rattle.crs_base.specs.declared.symbols.Sym.{Sym}
use Rattle.crs_base.specs.Entry.{Entry}
use Rattle.crs_model.specs.declared.plan.Plan.{Plan}
use Rattle.crs_model.specs.declared.recognition.Mark.{Mark}
use Rattle.crs_model.specs.declared.recognition.Recognition.{Recognition}
use Rattle.crs_model.specs.Open.{before}
use Rattle.crs_model.specs.Plans.{chronicle}
use Rattle.crs_model.specs.Scopes.{Scope}
use Rattle.crs_store.specs.Answers.{IsAnswer}
use Rattle.crs_engine.specs.Engines.{EngineState, StandsFor, plans_of, scope_at, since}

-- what is new: one chronicle after another in file order, the first of which has the number n; `was` and `now` are what recognition of each reads
abbrev pub ListsAllNew : List Plan → ℕ → Mark → (Plan → Scope Sym) → (Plan → Scope Sym) → List Recognition → Type 0
ListsAllNew [] n mark was now answer = answer ≡ []
ListsAllNew (p ∷ ps) n mark was now answer =
    (first : List Recognition) × (rest : List Recognition) × (answer ≡ first ++ rest)
    × IsAnswer (chronicle p) n mark (was p) (now p) first × ListsAllNew ps (suc n) mark was now rest

-- after a mark: the engine stands for the two lists parted at its new horizon, and the answer has what is new
pub record AfterMark (old new : EngineState) (mark : Mark) (settled waiting : List (Entry Sym)) (answer : List Recognition) : Type 0 where
  pub stands : StandsFor new (settled ++ before new.horizon waiting) (since new.horizon waiting)
  pub answers : ListsAllNew (plans_of old.plans) 0 mark (scope_at old.marked settled waiting old.horizon)
      (scope_at new.marked (settled ++ before new.horizon waiting) (since new.horizon waiting) new.horizon) answer
