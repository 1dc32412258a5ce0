-- What a reader of a table has left.
use Rattle.std.specs.Prelude.{◌≡◌, ◌≢◌, ◌+◌, Bool, true, false, ℕ, List, [], ◌∷◌, length, Option, Some, None, IsSomeAnd, IfSome}
use Rattle.csv.specs.Reading.{records_from, source_of, Ready, default_config}
use Rattle.csv.specs.declared.reader.Reader.{Reader}
use Rattle.csv.specs.declared.reader.Trim.TheVariants as trim
use Rattle.csv.specs.declared.parser.State.{State}

-- the records of bytes, from a state
abbrev pub rows_from : State → Option (List ℕ) → List (List (List ℕ))
rows_from s None = []
rows_from s (Some bytes) = records_from default_config (length bytes + 1) s bytes

-- the records that the reader has yet to give
abbrev pub rows_left : {R : Type 0} → (R → Option (List ℕ)) → Reader R → List (List (List ℕ))
rows_left rem reader = rows_from reader.state (source_of rem reader)

-- the reader gives records as they stand in known bytes, with no header and of equal lengths
pub record IsReading {R : Type 0} (rem : R → Option (List ℕ)) (reader : Reader R) : Type 0 where
  pub untrimmed : reader.trim ≡ trim.None
  pub ready : Ready reader
  pub flexible : reader.flexible ≡ false
  pub config : reader.config ≡ default_config
  pub bytes : List ℕ
  pub known : source_of rem reader ≡ Some bytes

-- a record was found, and it was the first of those left
pub record Found {R : Type 0} (rem : R → Option (List ℕ)) (old new : Reader R) (fields : List (List ℕ)) : Type 0 where
  pub rows : rows_left rem old ≡ fields ∷ rows_left rem new
  pub reading : IsReading rem new
  pub size : new.expected ≡ Some (length fields)
  pub same : IfSome old.expected (λ n. length fields ≡ n)

-- none was left where none was found
abbrev pub Took : {R : Type 0} → (R → Option (List ℕ)) → Reader R → Reader R → Bool → List (List ℕ) → Type 0
Took rem old new true fields = Found rem old new fields
Took rem old new false fields = rows_left rem old ≡ []

-- the first of the records left has another length than those before
pub record Differs {R : Type 0} (rem : R → Option (List ℕ)) (old : Reader R) : Type 0 where
  pub first : List (List ℕ)
  pub rest : List (List (List ℕ))
  pub rows : rows_left rem old ≡ first ∷ rest
  pub differs : IsSomeAnd old.expected (λ n. length first ≢ n)
