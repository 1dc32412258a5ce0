-- Several logs that are opened together.
use Rattle.std.specs.Prelude.{◌≡◌, ◌⊎◌, ℕ, ◌<◌, ◌++◌, List, [], map, length, Result, Ok, Err, Vec}
use Rattle.std.specs.declared.alloc.Global.{Global}
use Rattle.crs_desk.specs.Desk.{Told}
use Rattle.crs_rounds.specs.declared.source.Source.{Source}
use Rattle.crs_outcomes.specs.declared.status.Status.{Status}
use Rattle.crs_outcomes.specs.declared.status.Status.TheVariants.{ReadFault, Memory}
use Rattle.crs_outcomes.specs.Inputs.{bytes_of, after, Opened}

-- nothing was taken yet of any of these logs
abbrev pub none_taken : List (List ℕ) → List ℕ
none_taken logs = map (λ log. 0) logs

-- the logs of these names were opened, and nothing was taken of them
pub record HaveOpened (old : Told) (names : List (List ℕ)) (new : Told) : Type 0 where
  pub files : new.files ≡ old.files
  pub opened : new.opened ≡ old.opened ++ names
  pub left : new.left ≡ old.left ++ map (λ name. after (bytes_of old name) 0) names
  pub written : new.written ≡ old.written
  pub turns : new.turns ≡ old.turns

-- not all of them were, for a read fault, or memory was wanting
pub record FailToOpen (base now : ℕ) (old : Told) (names : List (List ℕ)) (n i : ℕ) (status : Status) (new : Told) : Type 0 where
  pub did : Opened base now old names (map (λ name. after (bytes_of old name) 0) names) n i [] new
  pub failed : i < n → status ≡ ReadFault
  pub cause : (status ≡ ReadFault × (i < length names)) ⊎ (status ≡ Memory)
  pub written : new.written ≡ old.written

abbrev pub OpensAll : ℕ → ℕ → Told → List (List ℕ) → Result (Vec Source Global) Status → Told → Type 0
OpensAll base now old names (Ok sources) new = HaveOpened old names new
OpensAll base now old names (Err status) new = (n : ℕ) × (i : ℕ) × FailToOpen base now old names n i status new
