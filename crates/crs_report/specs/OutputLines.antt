-- The lines that a run writes. Each ends with a line feed, and numbers are decimal.
use Rattle.std.specs.Prelude.{ℕ, Bool, false, true, List, [], ◌∷◌, ◌++◌, codes, decimal, flat_map, zip}
use Rattle.crs_base.specs.Entry.{Entry}
use Rattle.crs_model.specs.declared.models.ModelWord.{ModelWord}
use Rattle.crs_model.specs.declared.models.ModelWord.TheVariants.{Form as FormWord, Twice as TwiceWord, Name as NameWord, Arity as ArityWord, Value as ValueWord, Variable as VariableWord, Point as PointWord, Bound as BoundWord, Window as WindowWord, Limit as LimitWord, Emit as EmitWord, Events as EventsWord, Unbound as UnboundWord, Inconsistent as InconsistentWord, Lag as LagWord, Hierarchy as HierarchyWord, Size as SizeWord}
use Rattle.crs_model.specs.declared.recognition.Mark.{Mark}
use Rattle.crs_model.specs.declared.recognition.Mark.TheVariants.{Clock, Finish}
use Rattle.crs_model.specs.Models.{EventDef, Chronicle}
use Rattle.crs_model.specs.Matching.{Assignment}
use Rattle.crs_report.specs.declared.refusals.Fault.{Fault}
use Rattle.crs_report.specs.declared.refusals.Fault.TheVariants.{Long, Form, Order, Back, Late, Arity, Value, Full, Values, Flood}

-- a clock mark's number, or `end`
abbrev pub mark_text : Mark → List ℕ
mark_text (Clock t) = decimal t
mark_text Finish = codes "end"

-- ` POINT=DATE`
abbrev pub point_text : EventDef (List ℕ) × Entry (List ℕ) → List ℕ
point_text p = codes " " ++ p.0.point ++ codes "=" ++ decimal p.1.date

-- ` ?VARIABLE=VALUE`
abbrev pub value_text : List ℕ × List ℕ → List ℕ
value_text p = codes " ?" ++ p.0 ++ codes "=" ++ p.1

-- ` NUMBER`: an entry's arrival number
abbrev pub number_text : Entry (List ℕ) → List ℕ
number_text e = codes " " ++ decimal e.arrival

-- ` cites` and the arrival number of each event's entry in event order, where entries are cited
abbrev pub cites_text : Bool → List (Entry (List ℕ)) → List ℕ
cites_text false entries = []
cites_text true entries = codes " cites" ++ flat_map number_text entries

-- the chronicle's name and the mark, each event's point and date in event order, each variable and its value in order, and with `cite` the
-- entries' numbers
abbrev pub recognition_line : (cite : Bool) → Chronicle (List ℕ) → Mark → Assignment (List ℕ) → List ℕ
recognition_line cite c mark a =
    c.name ++ codes " at " ++ mark_text mark ++ flat_map point_text (zip c.events a.entries) ++ flat_map value_text (zip c.variables a.values)
    ++ cites_text cite a.entries ++ 10 ∷ []

-- why a line was refused
abbrev pub fault_text : Fault → List ℕ
fault_text Long = codes "long"
fault_text Form = codes "form"
fault_text Order = codes "order"
fault_text (Back t last) = codes "back " ++ decimal t ++ codes " " ++ decimal last
fault_text (Late date horizon) = codes "late " ++ decimal date ++ codes " " ++ decimal horizon
fault_text Arity = codes "arity"
fault_text Value = codes "value"
fault_text (Full limit) = codes "full " ++ decimal limit
fault_text (Values limit) = codes "values " ++ decimal limit
fault_text (Flood limit) = codes "flood " ++ decimal limit

-- the refusal of the log's line of that number
abbrev pub refusal_line : ℕ → Fault → List ℕ
refusal_line number fault = codes "line " ++ decimal number ++ codes " " ++ fault_text fault ++ 10 ∷ []

-- what is wrong with a line of a models text
abbrev pub word_text : ModelWord → List ℕ
word_text FormWord = codes "form"
word_text TwiceWord = codes "twice"
word_text NameWord = codes "name"
word_text ArityWord = codes "arity"
word_text ValueWord = codes "value"
word_text VariableWord = codes "variable"
word_text PointWord = codes "point"
word_text BoundWord = codes "bound"
word_text WindowWord = codes "window"
word_text LimitWord = codes "limit"
word_text EmitWord = codes "emit"
word_text EventsWord = codes "events"
word_text UnboundWord = codes "unbound"
word_text InconsistentWord = codes "inconsistent"
word_text LagWord = codes "lag"
word_text HierarchyWord = codes "hierarchy"
word_text SizeWord = codes "size"

-- the refusal of a models text at the line of that number
abbrev pub model_line : ℕ → ModelWord → List ℕ
model_line number word = codes "model line " ++ decimal number ++ codes " " ++ word_text word ++ 10 ∷ []
