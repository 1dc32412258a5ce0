-- A log or an output that was read whole, or not.
use Rattle.std.proofs.Common.{ℕ, List, Err}
use Rattle.crs_desk.specs.Desk.{Told}
use Rattle.crs_desk.specs.declared.whole.ReadAllError.TheVariants as refusals
use Rattle.crs_outcomes.specs.declared.status.Status.TheVariants.{ReadFault, Memory, TooLong}
use Rattle.crs_commands.specs.AuditOutcomes.{most_checked, LoadsChecked}
use Rattle.crs_outcomes.specs.Loads.{ReadsWhole}

-- a log or an output that was read whole, or not
pub checked_failed : (base now : ℕ) (old new : Told) (name : List ℕ) → ReadsWhole base now most_checked old name (Err refusals.Failed) new → LoadsChecked base now old name (Err ReadFault) new
checked_failed base now old new name h = h

pub checked_wanting : (base now : ℕ) (old new : Told) (name : List ℕ) → ReadsWhole base now most_checked old name (Err refusals.Memory) new → LoadsChecked base now old name (Err Memory) new
checked_wanting base now old new name h = h

pub checked_long : (base now : ℕ) (old new : Told) (name : List ℕ) → ReadsWhole base now most_checked old name (Err refusals.Long) new → LoadsChecked base now old name (Err TooLong) new
checked_long base now old new name h = h
