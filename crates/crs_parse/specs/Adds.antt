-- What adding a statement answers.
use Rattle.std.specs.Prelude.{◌≡◌, Option, Some, None, Result, Ok, Err}
use Rattle.crs_model.specs.declared.models.ModelWord.{ModelWord}
use Rattle.crs_parse.specs.declared.builder.Refused.{Refused}
use Rattle.crs_parse.specs.declared.builder.Refused.TheVariants as refused

abbrev pub Refuses : Refused → Option ModelWord → Type 0
Refuses refused.Memory fault = Unit {0}
Refuses (refused.Word word) fault = fault ≡ Some word

-- no fault, and what was to be is; or the fault; or want of memory
abbrev pub Adds : {X Y : Type 0} → Result X Refused → Option ModelWord → Y → Y → Type 0
Adds (Ok x) fault new wanted = (fault ≡ None) × (new ≡ wanted)
Adds (Err e) fault new wanted = Refuses e fault
