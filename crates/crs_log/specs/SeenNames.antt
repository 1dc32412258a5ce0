-- What the program's names and entries are, with the texts of a table in place of its numbers.
use Rattle.std.specs.Prelude.{◌≡◌, ◌<◌, ℕ, List, map, option_map, Option, Some, None, IfSome, length, Result, Ok, Err, ◌+◌, take, bytes_eq, ◌==◌, false}
use Rattle.std.specs.List.{AllByRecursion}
use Rattle.crs_base.specs.declared.symbols.Sym.{Sym}
use Rattle.crs_base.specs.declared.entry.Entry.{Entry as CodeEntry}
use Rattle.crs_model.specs.declared.models.Name.{Name as CodeName}
use Rattle.crs_model.specs.declared.models.Kind.{Kind as CodeKind}
use Rattle.crs_log.specs.declared.entries.Known.{Known}
use Rattle.crs_log.specs.declared.entries.Known.TheVariants.{Other as CodeOther, Name as CodePlace}
use Rattle.crs_log.specs.declared.items.Span.{Span}
use Rattle.crs_log.specs.declared.entries.EntryRefused.{EntryRefused}
use Rattle.crs_log.specs.declared.entries.EntryRefused.TheVariants.{Values, Memory}
use Rattle.crs_log.specs.declared.naming.NameRefused.{NameRefused}
use Rattle.crs_log.specs.declared.naming.NameRefused.TheVariants.{Arity, Value}
use Rattle.crs_base.specs.Entry.{Entry}
use Rattle.crs_base.specs.Seen.{entry_of}
use Rattle.crs_base.specs.Symbols.{Table, with_texts}
use Rattle.crs_model.specs.Models.{Kind, Name}
use Rattle.crs_model.specs.SeenModels.{kind_of, name_of}
use Rattle.crs_log.specs.Items.{Change}
use Rattle.crs_log.specs.Known.{Verdict, Other, Named, BadArity, BadValue, new_texts}
use Rattle.crs_model.specs.Renaming.{text_in, renamed_kind, renamed_name, renamed_entry, IsKindOf, IsNameOf, IsEntryOf}

abbrev pub kind_seen : List (List ℕ) → CodeKind → Kind (List ℕ)
kind_seen texts k = renamed_kind (text_in texts) (kind_of k)

abbrev pub name_seen : List (List ℕ) → CodeName → Name (List ℕ)
name_seen texts n = renamed_name (text_in texts) (name_of n)

-- a text's number is that of each symbol of this text, and of no other
abbrev pub IsNumberOf : List (List ℕ) → List ℕ → Option Sym → Type 0
IsNumberOf texts text None = (s : Sym) → s.0 < length texts → bytes_eq text (text_in texts s) ≡ false
IsNumberOf texts text (Some n) = (s : Sym) → s.0 < length texts → bytes_eq text (text_in texts s) ≡ (s.0 == n.0)

-- each symbol of a declared name has a text
abbrev pub IsKindIn : List (List ℕ) → CodeKind → Type 0
IsKindIn texts k = IsKindOf (λ s. s.0 < length texts) (kind_of k)

abbrev pub IsNameIn : List (List ℕ) → CodeName → Type 0
IsNameIn texts n = IsNameOf (λ s. s.0 < length texts) (name_of n)

abbrev pub AreNamesIn : List (List ℕ) → List CodeName → Type 0
AreNamesIn texts ns = AllByRecursion (IsNameOf (λ s. s.0 < length texts)) (map name_of ns)

-- an answer says what is known
abbrev pub Says : Result Known NameRefused → Verdict → Type 0
Says (Ok CodeOther) v = v ≡ Other
Says (Ok (CodePlace i s)) v = v ≡ Named i
Says (Err Arity) v = v ≡ BadArity
Says (Err Value) v = v ≡ BadValue

abbrev pub change_seen : List (List ℕ) → Option (Sym × Sym) → Option Change
change_seen texts change = option_map (λ c. (text_in texts c.0, text_in texts c.1)) change

abbrev pub entry_seen : List (List ℕ) → CodeEntry → Entry (List ℕ)
entry_seen texts e = renamed_entry (text_in texts) (entry_of e)

-- a refusal, for the table as it was and is, and the texts that are new
abbrev pub IsEntryRefusal : Table → Table → List (List ℕ) → EntryRefused → Type 0
IsEntryRefusal old new texts (Values limit) = (limit ≡ old.limit) × (new ≡ old) × (old.limit < length old.texts + length (new_texts old.texts texts))
IsEntryRefusal old new texts Memory = (k : ℕ) × (new.texts ≡ with_texts old.texts (take k texts))

-- each symbol of an entry has a text
abbrev pub IsPairIn : List (List ℕ) → Option (Sym × Sym) → Type 0
IsPairIn texts change = IfSome change (λ c. (c.0.0 < length texts) × (c.1.0 < length texts))

abbrev pub IsEntryIn : List (List ℕ) → CodeEntry → Type 0
IsEntryIn texts e = IsEntryOf (λ s. s.0 < length texts) (entry_of e)

-- how many values a change has
abbrev pub change_count : Option (Span × Span) → ℕ
change_count None = 0
change_count (Some c) = 2

-- the number is the text's
abbrev pub IsTextAt : List (List ℕ) → List ℕ → Sym → Type 0
IsTextAt texts text s = (s.0 < length texts) × (text_in texts s ≡ text)

-- a declared name is told with this number
abbrev pub HasNumber : Sym → Known → Type 0
HasNumber number CodeOther = Unit {0}
HasNumber number (CodePlace i s) = s ≡ number

-- a declared name is told with the number of its text
abbrev pub IsTold : List (List ℕ) → List ℕ → Known → Type 0
IsTold texts text CodeOther = Unit {0}
IsTold texts text (CodePlace i s) = IsTextAt texts text s
