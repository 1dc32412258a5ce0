-- What a session over several feeds stands for, and what a line of one of them does to it.
use Rattle.std.specs.Prelude.{◌≡◌, ◌≤◌, ◌||◌, ℕ, false, List, [], ◌∷◌, ◌++◌, length, flat_map, Option, Some, None}
use Rattle.crs_model.specs.declared.plan.Plans.{Plans}
use Rattle.crs_log.specs.Items.{Item}
use Rattle.crs_log.specs.Reading.{Given, number_of}
use Rattle.crs_feeds.specs.Merged.{Merged, Pair, after_pair}
use Rattle.crs_feeds.specs.Standing.{StandBehind, run_behind, IsItemOf}
use Rattle.crs_feeds.specs.declared.rising.Rise.{Rise}
use Rattle.crs_rounds.specs.declared.merged.MergedSession.{MergedSession}
use Rattle.crs_rounds.specs.declared.merged.Origin.{Origin}
use Rattle.crs_rounds.specs.PairTexts.{IsPairText}
use Rattle.crs_frames.specs.TableTexts.{HasModels, ArePrintable, line_in}
use Rattle.crs_frames.specs.Frames.{Frame, log_setting, is_refused}

-- how many feeds there are
abbrev pub feeds_of : MergedSession → ℕ
feeds_of x = length x.feeds.feeds

-- the merged run behind these pairs
abbrev pub run_at : Frame → MergedSession → List Pair → Merged
run_at f x ps = run_behind (log_setting f) f.texts (feeds_of x) ps

-- the session stands behind these pairs
pub record StandsBehind (f : Frame) (x : MergedSession) (ps : List Pair) : Type 0 where
  pub models : HasModels f x.feeds.engine.plans x.symbols
  pub stand : StandBehind (log_setting f) f.texts ps x.feeds
  pub texts : (run_at f x ps).texts ≡ x.symbols.texts
  pub few : length (run_at f x ps).accepted ≤ f.entries
  pub most_here : x.entries ≡ f.entries

-- the session stands behind some pairs of some logs
abbrev pub IsReadyMerged : MergedSession → Type 0
IsReadyMerged x = (f : Frame) × (ps : List Pair) × StandsBehind f x ps

-- one more pair takes the session on: its text is added, and whether it was refused is noted
pub record BringsPair (f : Frame) (old new : MergedSession) (ps : List Pair) (p : Pair) (out more : List ℕ) : Type 0 where
  pub state : StandsBehind f new (ps ++ p ∷ [])
  pub count : feeds_of new ≡ feeds_of old
  pub text : List ℕ
  pub is_text : IsPairText f.models.chronicles p (run_at f old ps) (after_pair (log_setting f) (run_at f old ps) p) text
  pub written : more ≡ out ++ text
  pub refused : new.refused ≡ (old.refused || is_refused (after_pair (log_setting f) (run_at f old ps) p).1)

-- whatever pairs the session stands behind, a line of feed n takes it on so
abbrev pub BringsLine : MergedSession → MergedSession → (n : ℕ) → Given → (out more : List ℕ) → Type 0
BringsLine old new n g out more =
    (f : Frame) (ps : List Pair) → StandsBehind f old ps → BringsPair f old new ps (record { feed = n; line = g }) out more

-- so does each line with this place that is the item
abbrev pub BringsItem : MergedSession → MergedSession → Origin → Item → (out more : List ℕ) → Type 0
BringsItem old new origin item out more =
    (g : Given) → number_of g ≡ origin.number → IsItemOf item g → BringsLine old new origin.feed g out more

-- the lines of a rise, by the texts of the table, and nothing where there is none
abbrev pub rise_lines : Plans → List (List ℕ) → Option Rise → List ℕ
rise_lines plans texts None = []
rise_lines plans texts (Some rise) = flat_map (line_in false plans texts) rise.list

abbrev pub IsPrintableRise : Plans → List (List ℕ) → Option Rise → Type 0
IsPrintableRise plans texts None = Unit {0}
IsPrintableRise plans texts (Some rise) = ArePrintable plans texts rise.list
