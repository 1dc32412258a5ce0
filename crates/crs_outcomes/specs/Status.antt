-- The status of a call, and what causes it.
use Rattle.std.specs.Prelude.{◌≡◌, ◌⊎◌, ℕ, ◌≤◌, Bool, true, false}
use Rattle.crs_desk.specs.Desk.{Rose}
use Rattle.crs_outcomes.specs.declared.status.Status.{Status}
use Rattle.crs_outcomes.specs.declared.status.Status.TheVariants.{Done, Refusals, Words, Rejected, ReadFault, WriteFault, Memory, TooLong}

abbrev pub code_of : Status → ℕ
code_of Done = 0
code_of Refusals = 1
code_of Words = 2
code_of Rejected = 3
code_of ReadFault = 4
code_of WriteFault = 5
code_of Memory = 6
code_of TooLong = 7

-- The counts of faults of reading and of writing never fall, and each of the two faults is answered only where its count rose.
pub record HasCauses (reads reads_now writes writes_now : ℕ) (status : Status) : Type 0 where
  pub reading : reads ≤ reads_now
  pub writing : writes ≤ writes_now
  pub read_fault : status ≡ ReadFault → Rose reads reads_now
  pub write_fault : status ≡ WriteFault → Rose writes writes_now

-- the status that was to be, or else a write fault, where their count rose, or want of memory
abbrev pub IsWritten : ℕ → ℕ → Status → Status → Type 0
IsWritten writes writes_now done status = (status ≡ done) ⊎ ((status ≡ WriteFault) × Rose writes writes_now) ⊎ (status ≡ Memory)

-- the status of a log that was read to its end
abbrev pub ended_as : Bool → Status
ended_as true = Refusals
ended_as false = Done
