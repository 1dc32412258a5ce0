-- What the program's statements are.
use Rattle.std.specs.Prelude.{map, Option, option_map}
use Rattle.crs_grammar.specs.declared.statements.Term.{Term as CodeTerm}
use Rattle.crs_grammar.specs.declared.statements.Term.TheVariants as terms
use Rattle.crs_grammar.specs.declared.statements.Pattern.{Pattern as CodePattern}
use Rattle.crs_grammar.specs.declared.statements.Event.{Event as CodeEvent}
use Rattle.crs_grammar.specs.declared.statements.Shift.{Shift as CodeShift}
use Rattle.crs_grammar.specs.declared.statements.Shift.TheVariants as shifts
use Rattle.crs_grammar.specs.declared.statements.Anchor.{Anchor as CodeAnchor}
use Rattle.crs_grammar.specs.declared.statements.Body.{Body as CodeBody}
use Rattle.crs_grammar.specs.declared.statements.Body.TheVariants as bodies
use Rattle.crs_grammar.specs.declared.statements.Window.{Window as CodeWindow}
use Rattle.crs_grammar.specs.declared.statements.Distance.{Distance as CodeDistance}
use Rattle.crs_grammar.specs.declared.statements.Emission.{Emission as CodeEmission}
use Rattle.crs_grammar.specs.declared.statements.Statement.{Statement as CodeStatement}
use Rattle.crs_grammar.specs.declared.statements.Statement.TheVariants as statements
use Rattle.crs_grammar.specs.declared.statements.Heading.{Heading as CodeHeading}
use Rattle.crs_grammar.specs.declared.statements.Declaration.{Declaration as CodeDeclaration}
use Rattle.crs_grammar.specs.declared.statements.Declaration.TheVariants as declarations
use Rattle.crs_grammar.specs.Statements.{Term, Value, Variable, Any, Pattern, Event, Shift, Here, Later, Earlier, Anchor, Body, NoEvent, Occurs, Hold, Window, Distance, Heading, Emission, Statement, Message, Attribute, Derived, Begin, Happens, Point, Between, Among, Differ, Over, Emits, Close}

abbrev pub term_of : CodeTerm → Term
term_of (terms.Value s) = Value s.now
term_of (terms.Variable x) = Variable x.now
term_of terms.Any = Any

abbrev pub change_of : Option (CodeTerm × CodeTerm) → Option (Term × Term)
change_of c = option_map (λ c. (term_of c.0, term_of c.1)) c

abbrev pub pattern_of : CodePattern → Pattern
pattern_of p = record { name = p.name.now; terms = map term_of p.terms.items; change = change_of p.change }

abbrev pub event_of : CodeEvent → Event
event_of e = record { pattern = pattern_of e.pattern; point = e.point.now; level = e.level }

abbrev pub shift_of : CodeShift → Shift
shift_of shifts.Here = Here
shift_of (shifts.Later n) = Later n
shift_of (shifts.Earlier n) = Earlier n

abbrev pub anchor_of : CodeAnchor → Anchor
anchor_of a = record { point = a.point.now; shift = shift_of a.shift }

abbrev pub body_of : CodeBody → Body
body_of (bodies.NoEvent p) = NoEvent (pattern_of p)
body_of (bodies.Occurs least most p) = Occurs least most (pattern_of p)
body_of (bodies.Hold name terms value) = Hold name.now (map term_of terms.items) (term_of value)

abbrev pub window_of : CodeWindow → Window
window_of w = record { body = body_of w.body; from = anchor_of w.from; to = anchor_of w.to }

abbrev pub distance_of : CodeDistance → Distance
distance_of d = record { to = d.to.now; from = d.from.now; low = d.low; high = d.high }

abbrev pub emission_of : CodeEmission → Emission
emission_of e = record { pattern = pattern_of e.pattern; point = e.point.now }

abbrev pub statement_of : CodeStatement → Statement
statement_of (statements.Happens e) = Happens (event_of e)
statement_of (statements.Point name) = Point name.now
statement_of (statements.Between d) = Between (distance_of d)
statement_of (statements.Among x vs) = Among x.now (map (λ v. v.now) vs.items)
statement_of (statements.Differ x y) = Differ x.now y.now
statement_of (statements.Over w) = Over (window_of w)
statement_of (statements.Emits e) = Emits (emission_of e)
statement_of statements.Close = Close

abbrev pub heading_of : CodeHeading → Heading
heading_of h = record { prompt = h.prompt; name = h.name.now }

abbrev pub declaration_of : CodeDeclaration → Statement
declaration_of (declarations.Message name arity) = Message name.now arity
declaration_of (declarations.Attribute name arity values) = Attribute name.now arity (option_map (λ vs. map (λ v. v.now) vs.items) values)
declaration_of (declarations.Derived name arity) = Derived name.now arity
declaration_of (declarations.Begin heading) = Begin (heading_of heading)
