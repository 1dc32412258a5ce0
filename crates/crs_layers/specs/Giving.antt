-- What becomes of strata as they are given entries at a mark.
use Rattle.std.specs.Prelude.{◌≡◌, ◌<◌, ◌≤◌, ◌+◌, ◌^◌, false, nat_lt, Bool, ℕ, min, List, length, map, Some, option_map, slice_get}
use Rattle.std.specs.List.{AllByRecursion, AllZip, list_any, flat_map}
use Rattle.std.specs.Option.{option_to_list}
use Rattle.crs_base.specs.declared.symbols.Sym.{Sym}
use Rattle.crs_base.specs.Entry.{Entry}
use Rattle.crs_model.specs.declared.plan.Plan.{Plan}
use Rattle.crs_model.specs.declared.recognition.Recognition.{Recognition}
use Rattle.crs_model.specs.Plans.{chronicle}
use Rattle.crs_model.specs.Models.{Emit}
use Rattle.crs_model.specs.Renaming.{AreKnown}
use Rattle.crs_model.specs.SeenModels.{assignment_of, given}
use Rattle.crs_layers.specs.Strata.{Stratum, given_by, with_given}
use Rattle.crs_layers.specs.declared.layer.Layer.{Layer}
use Rattle.crs_layers.specs.Accepting.{IsSameLayer}
use Rattle.crs_layers.specs.Standing.{IsLayerAt}

-- the stratum goes on
pub record IsGoing (l : Layer) : Type 0 where
  pub running : l.engine.stopped ≡ false
  pub few : l.engine.accepted ≤ l.engine.limit

-- there isn't room for so many more entries
abbrev pub is_flooded_by : ℕ → Layer → Bool
is_flooded_by n l = nat_lt l.engine.limit (l.engine.accepted + n)

-- none of the entries is late for one of the strata
abbrev pub AreDue : List Layer → List (Entry Sym) → Type 0
AreDue ls ys = AllByRecursion (λ y. AllByRecursion (λ l. l.engine.horizon ≤ y.date) ls × (y.date < 2 ^ 40)) ys

-- the stratum was given these entries, and accepted as many of them as there was room for
pub record HasTaken (ys : List (Entry Sym)) (old new : Layer) : Type 0 where
  pub same : IsSameLayer old new
  pub same_plans : new.engine.plans ≡ old.engine.plans
  pub same_focus : new.engine.focus ≡ old.engine.focus
  pub same_limit : new.engine.limit ≡ old.engine.limit
  pub same_horizon : new.engine.horizon ≡ old.engine.horizon
  pub running : new.engine.stopped ≡ false
  pub count : new.engine.accepted ≡ min old.engine.limit (old.engine.accepted + length ys)
  pub at : (h last delay : ℕ) (s : Stratum Sym) → IsLayerAt h last delay s old → IsLayerAt h last delay (record s { accepted = with_given old.engine.limit s.accepted ys }) new

-- each stratum was given these entries, and whether there wasn't room for all of them in one
pub record HaveTaken (ys : List (Entry Sym)) (olds news : List Layer) (flood : Bool) : Type 0 where
  pub taken : AllZip (HasTaken ys) olds news
  pub flood_is : flood ≡ list_any (is_flooded_by (length ys)) olds

-- the emits of the plan with this number
abbrev pub emits_at : List Plan → ℕ → List (Emit Sym)
emits_at ps n = flat_map (λ c. c.emits) (option_to_list (option_map chronicle (slice_get ps n)))

-- what a recognition of one of the plans gives
abbrev pub given_of : (Sym → List ℕ) → List Plan → Recognition → List (Entry Sym)
given_of text_of ps r = flat_map (given_by text_of (assignment_of r)) (emits_at ps r.chronicle)

-- the recognition has a symbol for each variable, and all are numbers of the texts
pub record IsWhole (texts : List (List ℕ)) (r : Recognition) : Type 0 where
  pub bound : r.binding ≡ map Some (given r.binding)
  pub known : AreKnown texts (given r.binding)
