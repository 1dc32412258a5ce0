-- What strata answered at a mark, as one list over the chronicles of all.
use Rattle.std.specs.Prelude.{◌≡◌, ◌⊎◌, ℕ, zero, suc, List, [], ◌∷◌, ◌++◌, length, map, slice_index}
use Rattle.crs_base.specs.declared.symbols.Sym.{Sym}
use Rattle.crs_model.specs.declared.plan.Plan.{Plan}
use Rattle.crs_model.specs.declared.recognition.Mark.{Mark}
use Rattle.crs_model.specs.declared.recognition.Recognition.{Recognition}
use Rattle.crs_model.specs.Models.{Chronicle}
use Rattle.crs_model.specs.Plans.{chronicle}
use Rattle.crs_model.specs.Scopes.{Scope, scope_of}
use Rattle.crs_store.specs.Answers.{IsAnswer}
use Rattle.crs_layers.specs.Strata.{Stratum, scope_in}
use Rattle.crs_layers.specs.LayerPlans.{AreLayersOf}
use Rattle.crs_layers.specs.Passing.{AnswerFrom}
use Rattle.crs_layers.specs.declared.layer.Layer.{Layer}
use Rattle.std.specs.Prelude.{Bool}

-- each with the number that stands at its own in the list
abbrev pub renumbered : List ℕ → List Recognition → List Recognition
renumbered numbers answer = map (λ (r : Recognition). record r { chronicle = slice_index numbers r.chronicle }) answer

-- what the strata answered, one after another, with the numbers of the chronicles among all
abbrev pub renumbered_all : List Layer → List (List Recognition) → List Recognition
renumbered_all [] answers = []
renumbered_all (l ∷ ls) [] = []
renumbered_all (l ∷ ls) (answer ∷ answers) = renumbered l.numbers answer ++ renumbered_all ls answers

-- the last of the answers, where there is one
abbrev pub IsLastOf : List (List Recognition) → List Recognition → Type 0
IsLastOf answers answer = (length answers ≡ 0) ⊎ ((left : List (List Recognition)) × (answers ≡ left ++ answer ∷ []))

-- what recognition of a chronicle reads of the stratum at a place, where the first of the strata has the number j; of one that isn't there nothing is read
abbrev pub scope_from : {S : Type 0} → (ℕ → ℕ) → ℕ → List (Stratum S) → ℕ → Chronicle S → Scope S
scope_from h j [] k c = scope_of c [] [] 0
scope_from h j (s ∷ ss) zero c = scope_in s (h j) c
scope_from h j (s ∷ ss) (suc k) c = scope_from h (suc j) ss k c

-- what is new: one chronicle after another in file order, the first of which has the number n; `was` and `now` are what recognition of each reads of its stratum
abbrev pub ListsNewOver : List Plan → List ℕ → ℕ → Mark → (ℕ → Chronicle Sym → Scope Sym) → (ℕ → Chronicle Sym → Scope Sym) → List Recognition → Type 0
ListsNewOver [] ks n mark was now answer = answer ≡ []
ListsNewOver (p ∷ ps) [] n mark was now answer = answer ≡ []
ListsNewOver (p ∷ ps) (k ∷ ks) n mark was now answer =
    (first : List Recognition) × (rest : List Recognition) × (answer ≡ first ++ rest)
    × IsAnswer (chronicle p) n mark (was k (chronicle p)) (now k (chronicle p)) first × ListsNewOver ps ks (suc n) mark was now rest

-- where the strata of these layers answered what is new in each, the list has what is new over all
abbrev pub GathersAll : List Layer → List (List Recognition) → List Recognition → Type 0
GathersAll ls answers list =
    (plans : List Plan) (numbers : List ℕ) (focus : Bool) (limit : ℕ) (mark : Mark) (g h : ℕ → ℕ) (olds news : List (Stratum Sym))
    → AreLayersOf plans numbers focus limit 0 ls → length olds ≡ length ls → AnswerFrom plans numbers mark g h 0 olds news answers
    → ListsNewOver plans numbers 0 mark (scope_from g 0 olds) (scope_from h 0 news) list
