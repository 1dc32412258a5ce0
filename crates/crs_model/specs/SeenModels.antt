-- What the program's models are as those of the definitions, with the numbers of symbols.
use Rattle.std.specs.Prelude.{List, [], ◌∷◌, map, option_map, Option, Some, None}
use Rattle.crs_base.specs.declared.symbols.Sym.{Sym}
use Rattle.crs_model.specs.declared.pattern.Term.{Term as CodeTerm}
use Rattle.crs_model.specs.declared.pattern.Term.TheVariants.{Value as CodeValue, Var as CodeVar, Any as CodeAny}
use Rattle.crs_model.specs.declared.pattern.Pattern.{Pattern as CodePattern}
use Rattle.crs_model.specs.declared.chronicle.EventDef.{EventDef as CodeEvent}
use Rattle.crs_model.specs.declared.chronicle.VarSet.{VarSet as CodeSet}
use Rattle.crs_model.specs.declared.chronicle.Anchor.{Anchor as CodeAnchor}
use Rattle.crs_model.specs.declared.chronicle.Body.{Body as CodeBody}
use Rattle.crs_model.specs.declared.chronicle.Body.TheVariants.{NoEvent as CodeNoEvent, Occurs as CodeOccurs, Hold as CodeHold}
use Rattle.crs_model.specs.declared.chronicle.Window.{Window as CodeWindow}
use Rattle.crs_model.specs.declared.chronicle.Emit.{Emit as CodeEmit}
use Rattle.crs_model.specs.declared.chronicle.Chronicle.{Chronicle as CodeChronicle}
use Rattle.crs_model.specs.declared.models.Kind.{Kind as CodeKind}
use Rattle.crs_model.specs.declared.models.Kind.TheVariants.{Message as CodeMessage, Attribute as CodeAttribute}
use Rattle.crs_model.specs.declared.models.Name.{Name as CodeName}
use Rattle.crs_model.specs.declared.models.Models.{Models as CodeModels}
use Rattle.crs_base.specs.Seen.{entry_of}
use Rattle.crs_model.specs.declared.recognition.Recognition.{Recognition as CodeRecognition}
use Rattle.crs_model.specs.Matching.{Assignment}
use Rattle.crs_model.specs.Models.{Term, Value, Var, Any, Pattern, EventDef, VarSet, Anchor, Body, NoEvent, Occurs, Hold, Window, Emit, Chronicle, Kind, Message, Attribute, Name, Models}

abbrev pub term_of : CodeTerm → Term Sym
term_of (CodeValue s) = Value s
term_of (CodeVar v) = Var v
term_of CodeAny = Any

abbrev pub pattern_of : CodePattern → Pattern Sym
pattern_of p = record { name = p.name; terms = map term_of p.terms; change = option_map (λ c. (term_of c.0, term_of c.1)) p.change }

abbrev pub event_of : CodeEvent → EventDef Sym
event_of v = record { pattern = pattern_of v.pattern; point = v.point; level = v.level }

abbrev pub set_of : CodeSet → VarSet Sym
set_of s = record { variable = s.variable; values = s.values }

abbrev pub anchor_of : CodeAnchor → Anchor
anchor_of a = record { event = a.event; offset = a.offset }

abbrev pub body_of : CodeBody → Body Sym
body_of (CodeNoEvent p) = NoEvent (pattern_of p)
body_of (CodeOccurs least most p) = Occurs least most (pattern_of p)
body_of (CodeHold name terms value) = Hold name (map term_of terms) (term_of value)

abbrev pub window_of : CodeWindow → Window Sym
window_of w = record { body = body_of w.body; from = anchor_of w.from; to = anchor_of w.to }

abbrev pub emit_of : CodeEmit → Emit Sym
emit_of e = record { pattern = pattern_of e.pattern; event = e.event }

abbrev pub chronicle_of : CodeChronicle → Chronicle Sym
chronicle_of c = record { name = c.name; prompt = c.prompt; line = c.line; events = map event_of c.events; free = c.free; bounds = c.bounds; variables = c.variables; sets = map set_of c.sets; differs = c.differs; windows = map window_of c.windows; emits = map emit_of c.emits }

abbrev pub kind_of : CodeKind → Kind Sym
kind_of CodeMessage = Message
kind_of (CodeAttribute values) = Attribute values

abbrev pub name_of : CodeName → Name Sym
name_of n = record { name = n.name; arity = n.arity; kind = kind_of n.kind }

abbrev pub models_of : CodeModels → Models Sym
models_of m = record { names = map name_of m.names; derived = map name_of m.derived; chronicles = map chronicle_of m.chronicles }

-- those that are there
abbrev pub given : {S : Type 0} → List (Option S) → List S
given [] = []
given (None ∷ xs) = given xs
given (Some x ∷ xs) = x ∷ given xs

-- the assignment that was recognised
abbrev pub assignment_of : CodeRecognition → Assignment Sym
assignment_of r = record { entries = map (λ e. entry_of e.value) r.entries; values = given r.binding }
