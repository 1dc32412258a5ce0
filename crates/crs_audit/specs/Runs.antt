-- What a log that was read in part stands for.
use Rattle.std.specs.Prelude.{◌≡◌, ℕ, ◌+◌, ◌<◌, ◌≤◌, ◌^◌, List, [], ◌∷◌, ◌++◌, length, map, take, Option, Some, None, ◌==◌, if◌then◌else◌}
use Rattle.std.specs.Option.{option_or}
use Rattle.std.specs.List.{AllByRecursion}
use Rattle.std.specs.declared.rc.Rc.{Rc}
use Rattle.std.specs.declared.alloc.Global.{Global}
use Rattle.crs_base.specs.declared.entry.Entry.{Entry as CodeEntry}
use Rattle.crs_base.specs.Entry.{Entry, entry_cmp, IsInKeyOrder}
use Rattle.std.specs.Ordering.{is_lt}
use Rattle.std.specs.List.Sorted.{IsPermutation, IsSortedBy}
use Rattle.crs_base.specs.Seen.{entry_of}
use Rattle.crs_base.specs.declared.symbols.Sym.{Sym}
use Rattle.crs_base.specs.Lines.{Line}
use Rattle.crs_base.specs.Words.{Ordered}
use Rattle.crs_base.specs.Symbols.{Table, AreDistinct}
use Rattle.crs_model.specs.declared.models.Name.{Name as CodeName}
use Rattle.crs_model.specs.Order.{HaveSameMembers, arrived, dated_before, in_key_order}
use Rattle.crs_model.specs.Renaming.{text_in, renamed_entry, IsEntryOf}
use Rattle.crs_base.specs.Lines.{line_limit}
use Rattle.crs_log.specs.Reading.{given_lines, numbered}
use Rattle.crs_log.specs.Run.{Setting, State, Outcome, at_start, after_lines, end_date}
use Rattle.crs_log.specs.Recognitions.{View}
use Rattle.crs_log.specs.SeenNames.{name_seen, AreNamesIn}
use Rattle.crs_audit.specs.declared.run.Run.{Run}
use Rattle.crs_audit.specs.declared.run.Log.{Log}
use Rattle.crs_audit.specs.declared.run.Stand.{Stand}
use Rattle.crs_audit.specs.Notes.{Note, note_of, notes_of}

abbrev pub entries_of : List (Rc CodeEntry Global) → List (Entry Sym)
entries_of es = map (λ r. entry_of r.value) es

-- entries with the texts of their symbols
abbrev pub entries_seen : List (List ℕ) → List (Rc CodeEntry Global) → List (Entry (List ℕ))
entries_seen texts es = map (renamed_entry (text_in texts)) (entries_of es)

-- the arrival numbers of the entries count on from n
abbrev pub ArePlaced : {S : Type 0} → ℕ → List (Entry S) → Type 0
ArePlaced n [] = Unit {0}
ArePlaced n (e ∷ es) = (e.arrival ≡ n) × ArePlaced (n + 1) es

-- how many entries were accepted by the last of these marks, where n were by the one before them
abbrev pub marked_by : ℕ → List Stand → ℕ
marked_by n [] = n
marked_by n (s ∷ ss) = marked_by s.accepted ss

-- the state of a run, by the texts of the table
abbrev pub state_seen : List (List ℕ) → Run → State
state_seen texts x = record {
  texts = texts;
  delay = x.delay;
  last = x.last;
  horizon = x.horizon;
  accepted = entries_seen texts x.entries;
  marked = marked_by 0 x.marks;
  ended = x.ended;
}

-- what recognition reads at a horizon, of entries of which so many arrived by the mark
abbrev pub view_with : ℕ → ℕ → List (Entry (List ℕ)) → View
view_with h n accepted = record { settled = dated_before h accepted; arrived = in_key_order (arrived n accepted); horizon = h }

-- a mark that is kept, by the entries that were accepted by now
abbrev pub stand_seen : List (Entry (List ℕ)) → Stand → Note
stand_seen accepted s = (s.number, view_with s.horizon s.accepted (take s.accepted accepted))

abbrev pub stands_seen : List (List ℕ) → Run → List Note
stands_seen texts x = map (stand_seen (entries_seen texts x.entries)) x.marks

-- the names are those of the setting, which fits the table
pub record IsSettingOf (c : Setting) (names : List CodeName) (entries : ℕ) (t : Table) : Type 0 where
  pub names_are : c.names ≡ map (name_seen t.texts) names
  pub names_in : AreNamesIn t.texts names
  pub few : length names ≤ 256
  pub arities : AllByRecursion (λ n. n.arity ≤ 8) names
  pub distinct : AreDistinct t.texts
  pub symbols : t.limit ≡ c.symbols
  pub limit : entries ≡ c.entries

-- what is known of a run: its entries have texts, their places for arrival numbers, and dates below 2^40, no more were accepted than may be, each mark stands behind some of them, and the marks'
-- numbers never fall, up to the last clock
pub record IsSound (texts : List (List ℕ)) (limit : ℕ) (x : Run) : Type 0 where
  pub known : AllByRecursion (IsEntryOf (λ s. s.0 < length texts)) (entries_of x.entries)
  pub placed : ArePlaced 0 (entries_of x.entries)
  pub dated : AllByRecursion (λ e. e.date < 2 ^ 40) (entries_of x.entries)
  pub few : length x.entries ≤ limit
  pub marked : AllByRecursion (λ s. s.accepted ≤ length x.entries) x.marks
  pub ascending : Ordered (λ r s. r.number ≤ s.number) x.marks
  pub latest : AllByRecursion (λ s. s.number ≤ x.last) x.marks
  pub clock : x.last ≤ end_date

-- a line takes the run to what is behind it, and its mark is kept
pub record Takes (c : Setting) (names : List CodeName) (entries : ℕ) (old new : Table) (x y : Run) (after : State × Outcome) : Type 0 where
  pub setting : IsSettingOf c names entries new
  pub sound : IsSound new.texts entries y
  pub state : state_seen new.texts y ≡ after.0
  pub marks : stands_seen new.texts y ≡ stands_seen old.texts x ++ note_of after.0 after.1
  pub more : List (List ℕ)
  pub grown : new.texts ≡ old.texts ++ more

-- so it does from whatever state of a run of whatever setting
abbrev pub TakesAll : List CodeName → ℕ → Table → Table → Run → Run → (Setting → State → State × Outcome) → Type 0
TakesAll names entries old new x y after =
    (c : Setting) → IsSettingOf c names entries old → IsSound old.texts entries x → Takes c names entries old new x y (after c (state_seen old.texts x))

-- some setting has these names
pub record IsReady (names : List CodeName) (entries : ℕ) (t : Table) (x : Run) : Type 0 where
  pub setting : Setting
  pub fits : IsSettingOf setting names entries t
  pub sound : IsSound t.texts entries x

-- Of a log of whose lines so many were read and the others are left, in the state that the run stands for: the state behind all of it and its marks are told.
pub record ReadsOn (c : Setting) (names : List CodeName) (entries : ℕ) (old now : Table) (x : Run) (all left : List Line) : Type 0 where
  pub setting : IsSettingOf c names entries now
  pub sound : IsSound now.texts entries x
  pub read : ℕ
  pub state : after_lines c (state_seen now.texts x) (given_lines line_limit read left) ≡ after_lines c (at_start old.texts) (numbered all)
  pub marks : stands_seen now.texts x ++ notes_of c (state_seen now.texts x) (given_lines line_limit read left) ≡ notes_of c (at_start old.texts) (numbered all)
  pub more : List (List ℕ)
  pub grown : now.texts ≡ old.texts ++ more

abbrev pub ReadsAllOn : List CodeName → ℕ → Table → Table → Run → List Line → List Line → Type 0
ReadsAllOn names entries old now x all left = (c : Setting) → IsSettingOf c names entries old → ReadsOn c names entries old now x all left

-- the same entries, which were sorted by their keys
abbrev pub IsKeyed : List (Rc CodeEntry Global) → List (Rc CodeEntry Global) → Type 0
IsKeyed entries by_key =
    (copies : List (Rc CodeEntry Global)) × (entries_of copies ≡ entries_of entries) × IsPermutation copies by_key
    × IsSortedBy (λ r s. is_lt (entry_cmp (entry_of r.value) (entry_of s.value))) by_key

-- what the log's entries and marks are; the same entries stand in key order too
pub record IsLogOf (c : Setting) (names : List CodeName) (entries : ℕ) (old now : Table) (all : List Line) (x : Log) : Type 0 where
  pub setting : IsSettingOf c names entries now
  pub known : AllByRecursion (IsEntryOf (λ s. s.0 < length now.texts)) (entries_of x.entries)
  pub placed : ArePlaced 0 (entries_of x.entries)
  pub dated : AllByRecursion (λ e. e.date < 2 ^ 40) (entries_of x.entries)
  pub accepted : entries_seen now.texts x.entries ≡ (after_lines c (at_start old.texts) (numbered all)).accepted
  pub marks : map (stand_seen (entries_seen now.texts x.entries)) x.marks ≡ notes_of c (at_start old.texts) (numbered all)
  pub marked : AllByRecursion (λ s. s.accepted ≤ length x.entries) x.marks
  pub ascending : Ordered (λ r s. r.number ≤ s.number) x.marks
  pub few : length x.by_key.items ≤ entries
  pub in_order : IsInKeyOrder (entries_of x.by_key.items)
  pub same : HaveSameMembers (entries_of x.by_key.items) (entries_of x.entries)
  pub more : List (List ℕ)
  pub grown : now.texts ≡ old.texts ++ more

abbrev pub IsLogOfAll : List CodeName → ℕ → Table → Table → List Line → Log → Type 0
IsLogOfAll names entries old now all x = (c : Setting) → IsSettingOf c names entries old → IsLogOf c names entries old now all x

-- some setting has these names
pub record HasSetting (names : List CodeName) (entries : ℕ) (t : Table) : Type 0 where
  pub setting : Setting
  pub fits : IsSettingOf setting names entries t

-- the last of these marks that has the number
abbrev pub last_numbered : List Stand → ℕ → Option Stand
last_numbered [] n = None
last_numbered (s ∷ ss) n = option_or (last_numbered ss n) (if s.number == n then Some s else None)
