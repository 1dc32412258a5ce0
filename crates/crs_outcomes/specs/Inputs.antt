-- What a call reads of the inputs that it opens.
use Rattle.std.specs.Prelude.{◌≡◌, ℕ, ◌+◌, ◌≤◌, List, [], ◌++◌, length, take, drop}
use Rattle.std.specs.List.{AllByRecursion}
use Rattle.std.specs.Option.{unwrap_or}
use Rattle.crs_desk.specs.Desk.{Told, Stream, file_of, Rises, HasRoom}
use Rattle.crs_desk.specs.declared.turn.Turn.{Turn}

-- the bytes of a name, or none where no file has it
abbrev pub bytes_of : Told → List ℕ → List ℕ
bytes_of t name = unwrap_or (file_of t.files name) []

-- an input of these bytes, of which k were taken
abbrev pub after : List ℕ → ℕ → Stream
after bytes k = record { taken = k; rest = drop k bytes }

-- The first n of these names were handed to open, and the first i of these inputs were opened and are left so.
-- More are the turns; the count of inputs was base and is now.
pub record Opened (base now : ℕ) (old : Told) (names : List (List ℕ)) (inputs : List Stream) (n i : ℕ) (more : List Turn)
    (new : Told) : Type 0 where
  pub files : new.files ≡ old.files
  pub few : n ≤ length names
  pub opened : new.opened ≡ old.opened ++ take n names
  pub least : i ≤ n
  pub most : n ≤ i + 1
  pub counted : now ≡ base + i
  pub left : new.left ≡ old.left ++ take i inputs
  pub turns : new.turns ≡ old.turns ++ more

-- k bytes of an input were taken, at most up to the limit, in turns that rise and have the room that is left to it; and none where it
-- wasn't opened
pub record IsRead (input limit : ℕ) (unopened : Type 0) (bytes : List ℕ) (k : ℕ) (more : List Turn) : Type 0 where
  pub unread : unopened → (k ≡ 0) × (more ≡ [])
  pub within : k ≤ length bytes
  pub most : k ≤ limit
  pub rises : Rises input 0 (k + 1) more
  pub rooms : AllByRecursion (HasRoom limit) more
