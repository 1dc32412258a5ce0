-- What a reader of the program answers.
use Rattle.std.specs.Prelude.{◌≡◌, Option, Some, None, Result, Ok, Err}
use Rattle.crs_grammar.specs.declared.statements.Unread.{Unread}
use Rattle.crs_grammar.specs.declared.statements.Unread.TheVariants as errors

abbrev pub Fails : {Y : Type 0} → Unread → Option Y → Type 0
Fails errors.Memory read = Unit {0}
Fails errors.Form read = read ≡ None

-- what reading gives, unless memory ran out
abbrev pub Gives : {X Y : Type 0} → (X → Y) → Result X Unread → Option Y → Type 0
Gives view (Ok x) read = read ≡ Some (view x)
Gives view (Err e) read = Fails e read
