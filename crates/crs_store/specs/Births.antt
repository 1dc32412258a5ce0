-- What comes of the instances by an entry: instances, and the recognitions of those that are done.
use Rattle.std.specs.Prelude.{◌≡◌, ◌⊎◌, ℕ, List, [], ◌∷◌, ◌++◌, Bool, Some, false}
use Rattle.std.specs.List.{AllByRecursion}
use Rattle.crs_base.specs.declared.symbols.Sym.{Sym}
use Rattle.crs_base.specs.Entry.{Entry}
use Rattle.crs_instance.specs.Instances.{InstanceState, IsForked, CanBe}
use Rattle.crs_model.specs.declared.plan.Plan.{Plan}
use Rattle.crs_model.specs.declared.recognition.Recognition.{Recognition}
use Rattle.crs_model.specs.Partial.{put}
use Rattle.crs_store.specs.Found.{FindsOne, founds}
use Rattle.crs_living.specs.Parts.{AllOf}
use Rattle.crs_living.specs.Windows.{IsAble}

-- the third list has what the other two have, and of each in its order
abbrev pub IsMixOf : {A : Type 0} → List A → List A → List A → Type 0
IsMixOf xs ys [] = (xs ≡ []) × (ys ≡ [])
IsMixOf {A} xs ys (z ∷ zs) = ((rest : List A) × (xs ≡ z ∷ rest) × IsMixOf rest ys zs) ⊎ ((rest : List A) × (ys ≡ z ∷ rest) × IsMixOf xs rest zs)

-- what came is there as an instance or, where recognitions are made, as the recognition that stands for it
pub record IsBorn (plan : Plan) (finds : Bool) (was now : List InstanceState) (old new : List Recognition) (more : List InstanceState) : Type 0 where
  pub stay : List InstanceState
  pub done : List Recognition
  pub grown : now ≡ was ++ stay
  pub found : new ≡ old ++ done
  pub mixed : IsMixOf stay (founds plan done) more
  pub none : finds ≡ false → done ≡ []

-- both lists grew by what is told, which are instances of the plan that are able at n
pub record Brings (plan : Plan) (focus finds : Bool) (n : ℕ) (Are : List InstanceState → Type 0) (was now : List InstanceState) (old new : List Recognition) : Type 0 where
  pub more : List InstanceState
  pub born : IsBorn plan finds was now old new more
  pub of : AllOf plan more
  pub able : AllByRecursion (IsAble plan focus n) more
  pub are : Are more

-- the recognition of what has x at e too comes to the others, where there is such an instance
abbrev pub FindsFork : Plan → InstanceState → ℕ → Entry Sym → List Recognition → List Recognition → Type 0
FindsFork plan i e x old new = ((new ≡ old) × (CanBe plan (put i.partial e x) → ⊥)) ⊎ ((next : InstanceState) × IsForked plan i e x (Some next) × FindsOne next old new)
