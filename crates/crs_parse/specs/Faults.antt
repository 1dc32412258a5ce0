-- The state of a reading, and the faults of its lines.
use Rattle.std.specs.Prelude.{ℕ, ℤ, pos, neg_ℤ, int_lt, ◌+◌, ◌==◌, nat_le, nat_lt, Bool, true, false, not, ◌&&◌, ◌||◌, cond, List, [], ◌∷◌, ◌++◌, length, map, Option, Some, None, Result, Ok, Err, bytes_eq, find, option_map, is_some}
use Rattle.std.specs.List.{list_any, flat_map}
use Rattle.crs_base.specs.Symbols.{with_texts}
use Rattle.crs_model.specs.declared.models.ModelWord.{ModelWord}
use Rattle.crs_model.specs.declared.models.ModelWord.TheVariants.{Form as FormWord, Twice, Name as NameWord, Arity as ArityWord, Value as ValueWord, Variable as VariableWord, Point as PointWord, Bound as BoundWord, Window as WindowWord, Limit as LimitWord, Emit as EmitWord, Events as EventsWord, Unbound as UnboundWord, Size as SizeWord}
use Rattle.crs_model.specs.declared.limits.TheConstants.{SIZE_LIMIT, NAME_LIMIT, ARITY_LIMIT, VALUE_LIMIT, CHRONICLE_LIMIT, EVENT_LIMIT, POINT_LIMIT, DISTANCE_LIMIT, VARIABLE_LIMIT, DIFFERENCE_LIMIT, WINDOW_LIMIT, EMIT_LIMIT, LEVEL_LIMIT, COUNT_LIMIT, TICK_LIMIT}
use Rattle.crs_base.specs.Lines.{Line, lines_of, bytes_of, is_long, is_passed_over}
use Rattle.crs_base.specs.Tokens.{tokens_of, is_model_mark}
use Rattle.crs_grammar.specs.Statements.{Term, Value, Variable, Any, Pattern, Event, Emission, Shift, Here, Later, Earlier, Body, NoEvent, Occurs, Hold, Window, Distance, Heading, Statement, Message, Attribute, Derived, Begin, Happens, Point, Between, Among, Differ, Over, Emits, Close}
use Rattle.crs_grammar.specs.TokenReading.{statement_of, ◌>>=◌}

pub data Kind : Type 0 where
  OfMessage : Kind
  OfAttribute : Option (List (List ℕ)) → Kind
  OfDerived : Kind

-- a declared message, attribute or derived name
pub record Name : Type 0 where
  pub name : List ℕ
  pub arity : ℕ
  pub kind : Kind

-- A chronicle as it is written, so far or whole. The variables are those of its events' patterns, by first occurrence.
pub record Written : Type 0 where
  pub name : List ℕ
  pub prompt : Bool
  pub events : List Event
  pub variables : List (List ℕ)
  pub free : List (List ℕ)
  pub bounds : List Distance
  pub sets : List (List ℕ × List (List ℕ))
  pub differs : List (List ℕ × List ℕ)
  pub windows : List Window
  pub emits : List Emission

-- what the lines so far declare: names, whole chronicles with their closing lines, the open chronicle, and the symbols that were met
pub record Reading : Type 0 where
  pub names : List Name
  pub done : List (ℕ × Written)
  pub current : Option Written
  pub texts : List (List ℕ)

abbrev pub is_of : List (List ℕ) → List ℕ → Bool
is_of texts text = list_any (bytes_eq text) texts

abbrev pub term_symbols : Term → List (List ℕ)
term_symbols (Value s) = s ∷ []
term_symbols (Variable x) = x ∷ []
term_symbols Any = []

abbrev pub terms_symbols : List Term → List (List ℕ)
terms_symbols ts = flat_map term_symbols ts

abbrev pub change_symbols : Option (Term × Term) → List (List ℕ)
change_symbols None = []
change_symbols (Some c) = term_symbols c.0 ++ term_symbols c.1

abbrev pub pattern_symbols : Pattern → List (List ℕ)
pattern_symbols p = p.name ∷ terms_symbols p.terms ++ change_symbols p.change

abbrev pub body_symbols : Body → List (List ℕ)
body_symbols (NoEvent p) = pattern_symbols p
body_symbols (Occurs least most p) = pattern_symbols p
body_symbols (Hold name terms value) = name ∷ terms_symbols terms ++ term_symbols value

abbrev pub values_symbols : Option (List (List ℕ)) → List (List ℕ)
values_symbols None = []
values_symbols (Some vs) = vs

-- the symbols of a statement, in the order in which they stand there
abbrev pub symbols_of : Statement → List (List ℕ)
symbols_of (Message name arity) = name ∷ []
symbols_of (Attribute name arity values) = name ∷ values_symbols values
symbols_of (Derived name arity) = name ∷ []
symbols_of (Begin heading) = heading.name ∷ []
symbols_of (Happens e) = pattern_symbols e.pattern ++ e.point ∷ []
symbols_of (Point name) = name ∷ []
symbols_of (Between d) = d.to ∷ d.from ∷ []
symbols_of (Among x values) = x ∷ values
symbols_of (Differ x y) = x ∷ y ∷ []
symbols_of (Over w) = body_symbols w.body ++ w.from.point ∷ w.to.point ∷ []
symbols_of (Emits e) = pattern_symbols e.pattern ++ e.point ∷ []
symbols_of Close = []

abbrev pub variable_in : Term → List (List ℕ)
variable_in (Variable x) = x ∷ []
variable_in _ = []

abbrev pub change_terms : Option (Term × Term) → List Term
change_terms None = []
change_terms (Some c) = c.0 ∷ c.1 ∷ []

abbrev pub variables_in : List Term → List (List ℕ)
variables_in ts = flat_map variable_in ts

abbrev pub variables_of : Pattern → List (List ℕ)
variables_of p = variables_in p.terms ++ variables_in (change_terms p.change)

abbrev pub event_points : Written → List (List ℕ)
event_points c = map (λ e. e.point) c.events

-- a point of an event, or a free one
abbrev pub is_point : Written → List ℕ → Bool
is_point c text = is_of (event_points c) text || is_of c.free text

abbrev pub name_of : List Name → List ℕ → Option Name
name_of names text = find (λ n. bytes_eq text n.name) names

-- a size above 2^40
abbrev pub is_far : Option ℤ → Bool
is_far None = false
is_far (Some z) = int_lt (pos TICK_LIMIT) z || int_lt z (neg_ℤ (pos TICK_LIMIT))

abbrev pub are_crossed : Option ℤ → Option ℤ → Bool
are_crossed (Some l) (Some h) = int_lt h l
are_crossed _ _ = false

abbrev pub shift_size : Shift → ℕ
shift_size Here = 0
shift_size (Later n) = n
shift_size (Earlier n) = n

abbrev pub is_any : Term → Bool
is_any Any = true
is_any _ = false

-- a symbol outside the declared list
abbrev pub is_outside : Kind → Term → Bool
is_outside (OfAttribute (Some values)) (Value s) = not (is_of values s)
is_outside _ _ = false

-- the change of a pattern suits the kind of its name
abbrev pub suits : Kind → Option (Term × Term) → Bool
suits OfMessage None = true
suits OfDerived None = true
suits (OfAttribute values) (Some c) = true
suits _ _ = false

abbrev pub is_attribute : Kind → Bool
is_attribute OfMessage = false
is_attribute (OfAttribute values) = true
is_attribute OfDerived = false

abbrev pub is_derived : Kind → Bool
is_derived OfMessage = false
is_derived (OfAttribute values) = false
is_derived OfDerived = true

-- the pattern's name isn't declared
abbrev pub is_unnamed : Option Name → Bool
is_unnamed None = true
is_unnamed (Some n) = false

-- no derived name of it is declared
abbrev pub is_not_derived : Option Name → Bool
is_not_derived None = true
is_not_derived (Some n) = not (is_derived n.kind)

-- the count of terms or the change doesn't agree with the declaration
abbrev pub is_misfit : Option Name → Pattern → Bool
is_misfit None p = false
is_misfit (Some n) p = not (length p.terms == n.arity) || not (suits n.kind p.change)

-- the new value is a symbol outside the declared list
abbrev pub is_beyond : Option Name → Option (Term × Term) → Bool
is_beyond (Some n) (Some c) = is_outside n.kind c.1
is_beyond _ _ = false

abbrev pub is_no_attribute : Option Name → Bool
is_no_attribute None = true
is_no_attribute (Some n) = not (is_attribute n.kind)

abbrev pub has_other_arity : Option Name → List Term → Bool
has_other_arity None ts = false
has_other_arity (Some n) ts = not (length ts == n.arity)

abbrev pub holds_beyond : Option Name → Term → Bool
holds_beyond None t = false
holds_beyond (Some n) t = is_outside n.kind t

abbrev pub is_above : ℕ → Option ℕ → Bool
is_above n None = false
is_above n (Some m) = nat_lt n m

abbrev pub is_below : Option ℕ → ℕ → Bool
is_below None n = false
is_below (Some m) n = nat_lt m n

abbrev pub body_has_no_name : List Name → Body → Bool
body_has_no_name names (NoEvent p) = is_unnamed (name_of names p.name)
body_has_no_name names (Occurs least most p) = is_unnamed (name_of names p.name)
body_has_no_name names (Hold name terms value) = is_no_attribute (name_of names name)

abbrev pub body_has_wrong_arity : List Name → Body → Bool
body_has_wrong_arity names (NoEvent p) = is_misfit (name_of names p.name) p
body_has_wrong_arity names (Occurs least most p) = is_misfit (name_of names p.name) p
body_has_wrong_arity names (Hold name terms value) = has_other_arity (name_of names name) terms

abbrev pub body_has_wrong_value : List Name → Body → Bool
body_has_wrong_value names (NoEvent p) = is_beyond (name_of names p.name) p.change
body_has_wrong_value names (Occurs least most p) = is_beyond (name_of names p.name) p.change
body_has_wrong_value names (Hold name terms value) = holds_beyond (name_of names name) value

abbrev pub has_wrong_counts : Body → Bool
has_wrong_counts (Occurs least most p) = nat_lt COUNT_LIMIT least || is_above COUNT_LIMIT most || is_below most least
has_wrong_counts _ = false

abbrev pub body_has_any : Body → Bool
body_has_any (Hold name terms value) = list_any is_any terms || is_any value
body_has_any _ = false

-- Each word's condition, by the statement. The chronicle is the open one.

-- a declared name, a chronicle or a point that is there already; a second `in` for one variable
abbrev pub is_twice : List Name → List (ℕ × Written) → Written → Statement → Bool
is_twice names done c (Message name arity) = is_some (name_of names name)
is_twice names done c (Attribute name arity values) = is_some (name_of names name)
is_twice names done c (Derived name arity) = is_some (name_of names name)
is_twice names done c (Begin heading) = is_of (map (λ d. d.1.name) done) heading.name
is_twice names done c (Happens e) = is_point c e.point
is_twice names done c (Point name) = is_point c name
is_twice names done c (Among x values) = is_of (map (λ s. s.0) c.sets) x
is_twice names done c _ = false

-- a pattern's name isn't declared above, a `hold`'s name isn't a declared attribute, or an `emit`'s no declared derived name
abbrev pub has_no_name : List Name → Statement → Bool
has_no_name names (Happens e) = is_unnamed (name_of names e.pattern.name)
has_no_name names (Over w) = body_has_no_name names w.body
has_no_name names (Emits e) = is_not_derived (name_of names e.pattern.name)
has_no_name names _ = false

-- the count of terms isn't the declared arity; a change at a message or a derived name; in a pattern, no change at an attribute
abbrev pub has_wrong_arity : List Name → Statement → Bool
has_wrong_arity names (Happens e) = is_misfit (name_of names e.pattern.name) e.pattern
has_wrong_arity names (Over w) = body_has_wrong_arity names w.body
has_wrong_arity names (Emits e) = is_misfit (name_of names e.pattern.name) e.pattern
has_wrong_arity names _ = false

-- the new value of a pattern, or the value of a `hold`, is a symbol outside the declared list
abbrev pub has_wrong_value : List Name → Statement → Bool
has_wrong_value names (Happens e) = is_beyond (name_of names e.pattern.name) e.pattern.change
has_wrong_value names (Over w) = body_has_wrong_value names w.body
has_wrong_value names _ = false

-- an `in` or `!=` statement names a variable that stands in no event pattern above it
abbrev pub has_no_variable : Written → Statement → Bool
has_no_variable c (Among x values) = not (is_of c.variables x)
has_no_variable c (Differ x y) = not (is_of c.variables x && is_of c.variables y)
has_no_variable c _ = false

-- a bound names a point that isn't declared above; an anchor or an `emit` names no event's point declared above
abbrev pub has_no_point : Written → Statement → Bool
has_no_point c (Between d) = not (is_point c d.to && is_point c d.from)
has_no_point c (Over w) = not (is_of (event_points c) w.from.point && is_of (event_points c) w.to.point)
has_no_point c (Emits e) = not (is_of (event_points c) e.point)
has_no_point c _ = false

-- a LOW, HIGH or offset of size above 2^40; LOW above HIGH; an `occurs` number above 2^32 - 1; the first number above the second
abbrev pub is_out_of_bounds : Statement → Bool
is_out_of_bounds (Between d) = is_far d.low || is_far d.high || are_crossed d.low d.high
is_out_of_bounds (Over w) =
    nat_lt TICK_LIMIT (shift_size w.from.shift) || nat_lt TICK_LIMIT (shift_size w.to.shift) || has_wrong_counts w.body
is_out_of_bounds _ = false

-- a `*` in a `hold`, or among the terms of an `emit`
abbrev pub has_any : Statement → Bool
has_any (Over w) = body_has_any w.body
has_any (Emits e) = list_any is_any e.pattern.terms
has_any _ = false

-- with its variables there, an event of this level would pass a limit
abbrev pub is_full : Written → Option ℕ → Bool
is_full c level =
    nat_le EVENT_LIMIT (length c.events) || nat_le POINT_LIMIT (length c.events + length c.free)
    || is_above LEVEL_LIMIT level || nat_lt VARIABLE_LIMIT (length c.variables)

-- a counted quantity would pass its limit
abbrev pub passes_count : List Name → List (ℕ × Written) → Written → Statement → Bool
passes_count names done c (Message name arity) = nat_le NAME_LIMIT (length names) || nat_lt ARITY_LIMIT arity
passes_count names done c (Attribute name arity values) =
    nat_le NAME_LIMIT (length names) || nat_lt ARITY_LIMIT arity || is_above VALUE_LIMIT (option_map length values)
passes_count names done c (Derived name arity) = nat_le NAME_LIMIT (length names) || nat_lt ARITY_LIMIT arity
passes_count names done c (Begin heading) = nat_le CHRONICLE_LIMIT (length done)
passes_count names done c (Happens e) = is_full (record c { variables = with_texts c.variables (variables_of e.pattern) }) e.level
passes_count names done c (Point name) = nat_le POINT_LIMIT (length c.events + length c.free)
passes_count names done c (Between d) = nat_le DISTANCE_LIMIT (length c.bounds)
passes_count names done c (Among x values) = nat_lt VALUE_LIMIT (length values)
passes_count names done c (Differ x y) = nat_le DIFFERENCE_LIMIT (length c.differs)
passes_count names done c (Over w) = nat_le WINDOW_LIMIT (length c.windows)
passes_count names done c (Emits e) = nat_le EMIT_LIMIT (length c.emits)
passes_count names done c Close = false

-- more distinct symbols than the table may hold
abbrev pub passes_symbols : ℕ → List (List ℕ) → Statement → Bool
passes_symbols limit texts s = nat_lt limit (length (with_texts texts (symbols_of s)))

-- the names that the pattern of a window names
abbrev pub body_names : Body → List (List ℕ)
body_names (NoEvent p) = p.name ∷ []
body_names (Occurs least most p) = p.name ∷ []
body_names (Hold name terms value) = []

-- a pattern of the chronicle's events or windows names it
abbrev pub uses : Written → List ℕ → Bool
uses c name = is_of (map (λ e. e.pattern.name) c.events) name || list_any (λ w. is_of (body_names w.body) name) c.windows

abbrev pub emits : Written → List ℕ → Bool
emits c name = is_of (map (λ e. e.pattern.name) c.emits) name

-- behind this statement a name is emitted by a chronicle and used by it or an earlier one
abbrev pub is_looped : List (ℕ × Written) → Written → Statement → Bool
is_looped done c (Happens e) = emits c e.pattern.name
is_looped done c (Over w) = list_any (emits c) (body_names w.body)
is_looped done c (Emits e) = uses c e.pattern.name || list_any (λ d. uses d.1 e.pattern.name) done
is_looped done c _ = false

-- at `}`: the chronicle has no event
abbrev pub lacks_events : Written → Statement → Bool
lacks_events c Close = length c.events == 0
lacks_events c _ = false

-- a variable that isn't there
abbrev pub lacks : List (List ℕ) → Term → Bool
lacks variables (Variable x) = not (is_of variables x)
lacks variables _ = false

abbrev pub change_lacks : List (List ℕ) → Option (Term × Term) → Bool
change_lacks variables None = false
change_lacks variables (Some c) = lacks variables c.0 || lacks variables c.1

abbrev pub pattern_lacks : List (List ℕ) → Pattern → Bool
pattern_lacks variables p = list_any (lacks variables) p.terms || change_lacks variables p.change

abbrev pub body_lacks : List (List ℕ) → Body → Bool
body_lacks variables (NoEvent p) = pattern_lacks variables p
body_lacks variables (Occurs least most p) = pattern_lacks variables p
body_lacks variables (Hold name terms value) = list_any (lacks variables) terms || lacks variables value

-- at `}`: a variable of a window or of an `emit` stands in no event pattern
abbrev pub is_unbound : Written → Statement → Bool
is_unbound c Close = list_any (λ w. body_lacks c.variables w.body) c.windows || list_any (λ e. pattern_lacks c.variables e.pattern) c.emits
is_unbound c _ = false

-- the words for a statement, each with whether it applies, in their order; full says whether its symbols pass the limit of the table,
-- and looped whether behind it a chronicle emits what it or an earlier one uses
abbrev pub faults_of : Bool → Bool → List Name → List (ℕ × Written) → Written → Statement → List (ModelWord × Bool)
faults_of full looped names done c s =
    (Twice, is_twice names done c s) ∷ (NameWord, has_no_name names s) ∷ (ArityWord, has_wrong_arity names s) ∷ (ValueWord, has_wrong_value names s)
    ∷ (VariableWord, has_no_variable c s) ∷ (PointWord, has_no_point c s) ∷ (BoundWord, is_out_of_bounds s) ∷ (WindowWord, has_any s)
    ∷ (LimitWord, passes_count names done c s || full) ∷ (EmitWord, looped) ∷ (EventsWord, lacks_events c s) ∷ (UnboundWord, is_unbound c s) ∷ []

-- the first that applies
abbrev pub first_of : List (ModelWord × Bool) → Option ModelWord
first_of [] = None
first_of ((word, applies) ∷ fs) = cond applies (Some word) (first_of fs)

-- the same for the parts that name something declared
abbrev pub pattern_fault : List Name → Pattern → Option ModelWord
pattern_fault names p = first_of ((NameWord, is_unnamed (name_of names p.name)) ∷ (ArityWord, is_misfit (name_of names p.name) p) ∷ (ValueWord, is_beyond (name_of names p.name) p.change) ∷ [])

abbrev pub hold_fault : List Name → List ℕ → List Term → Term → Option ModelWord
hold_fault names name terms value = first_of ((NameWord, is_no_attribute (name_of names name)) ∷ (ArityWord, has_other_arity (name_of names name) terms) ∷ (ValueWord, holds_beyond (name_of names name) value) ∷ [])

abbrev pub body_fault : List Name → Body → Option ModelWord
body_fault names body = first_of ((NameWord, body_has_no_name names body) ∷ (ArityWord, body_has_wrong_arity names body) ∷ (ValueWord, body_has_wrong_value names body) ∷ [])

-- the same from the points of a window on
abbrev pub range_fault : Written → Window → Option ModelWord
range_fault c w = first_of (
    (PointWord, has_no_point c (Over w)) ∷ (BoundWord, is_out_of_bounds (Over w))
    ∷ (WindowWord, body_has_any w.body) ∷ (LimitWord, nat_le WINDOW_LIMIT (length c.windows)) ∷ [])

-- the same for what an `emit` names, and from its point on
abbrev pub emit_name_fault : List Name → Pattern → Option ModelWord
emit_name_fault names p = first_of ((NameWord, is_not_derived (name_of names p.name)) ∷ (ArityWord, is_misfit (name_of names p.name) p) ∷ [])

abbrev pub emit_fault : Written → Emission → Option ModelWord
emit_fault c e = first_of ((PointWord, has_no_point c (Emits e)) ∷ (WindowWord, has_any (Emits e)) ∷ (LimitWord, nat_le EMIT_LIMIT (length c.emits)) ∷ [])

-- the first word that applies, where neither the table of symbols nor what is emitted is looked at
abbrev pub own_fault : List Name → List (ℕ × Written) → Written → Statement → Option ModelWord
own_fault names done c s = first_of (faults_of false false names done c s)

abbrev pub message_named : List ℕ → ℕ → Name
message_named name arity = record { name = name; arity = arity; kind = OfMessage }

abbrev pub attribute_named : List ℕ → ℕ → Option (List (List ℕ)) → Name
attribute_named name arity values = record { name = name; arity = arity; kind = OfAttribute values }

-- no heading yet
abbrev pub nameless : Heading
nameless = record { prompt = false; name = [] }

abbrev pub derived_named : List ℕ → ℕ → Name
derived_named name arity = record { name = name; arity = arity; kind = OfDerived }

-- a chronicle without statements
abbrev pub begun : Heading → Written
begun heading = record { name = heading.name; prompt = heading.prompt; events = []; variables = []; free = []; bounds = []; sets = []; differs = []; windows = []; emits = [] }

-- the open chronicle, or one without a name
abbrev pub opened : Option Written → Written
opened None = begun nameless
opened (Some c) = c

-- the open chronicle with one more statement
abbrev pub with_statement : Written → Statement → Written
with_statement c (Happens e) = record c { events = c.events ++ e ∷ []; variables = with_texts c.variables (variables_of e.pattern) }
with_statement c (Point name) = record c { free = c.free ++ name ∷ [] }
with_statement c (Between d) = record c { bounds = c.bounds ++ d ∷ [] }
with_statement c (Among x values) = record c { sets = c.sets ++ (x, values) ∷ [] }
with_statement c (Differ x y) = record c { differs = c.differs ++ (x, y) ∷ [] }
with_statement c (Over w) = record c { windows = c.windows ++ w ∷ [] }
with_statement c (Emits e) = record c { emits = c.emits ++ e ∷ [] }
with_statement c _ = c

-- the reading behind a line with this statement
abbrev pub after : ℕ → Reading → Statement → Reading
after line r (Message name arity) = record { names = r.names ++ message_named name arity ∷ []; done = r.done; current = r.current; texts = with_texts r.texts (symbols_of (Message name arity)) }
after line r (Attribute name arity values) = record { names = r.names ++ attribute_named name arity values ∷ []; done = r.done; current = r.current; texts = with_texts r.texts (symbols_of (Attribute name arity values)) }
after line r (Derived name arity) = record { names = r.names ++ derived_named name arity ∷ []; done = r.done; current = r.current; texts = with_texts r.texts (symbols_of (Derived name arity)) }
after line r (Begin heading) = record { names = r.names; done = r.done; current = Some (begun heading); texts = with_texts r.texts (symbols_of (Begin heading)) }
after line r Close = record { names = r.names; done = r.done ++ (line, opened r.current) ∷ []; current = None; texts = r.texts }
after line r s = record { names = r.names; done = r.done; current = Some (with_statement (opened r.current) s); texts = with_texts r.texts (symbols_of s) }

-- a line and a word
abbrev pub Fault : Type 0
Fault = ℕ × ModelWord

-- the next reading, or the fault of the line
abbrev pub answered : ℕ → Reading → Option ModelWord → Result Reading Fault
answered line next None = Ok next
answered line next (Some word) = Err (line, word)

-- the reading behind a line that means this statement, or its fault
abbrev pub after_statement : ℕ → ℕ → Reading → Option Statement → Result Reading Fault
after_statement limit line r None = Err (line, FormWord)
after_statement limit line r (Some s) = answered line (after line r s) (first_of (faults_of (passes_symbols limit r.texts s) (is_looped r.done (opened r.current) s) r.names r.done (opened r.current) s))

abbrev pub after_line : ℕ → ℕ → Reading → Line → Result Reading Fault
after_line limit line r l =
    cond (is_long l) (Err (line, LimitWord))
    (cond (is_passed_over (bytes_of l)) (Ok r)
    (after_statement limit line r (tokens_of is_model_mark (bytes_of l) >>= statement_of (is_some r.current))))

abbrev pub unless_refused : Result Reading Fault → (Reading → Result Reading Fault) → Result Reading Fault
unless_refused (Ok r) f = f r
unless_refused (Err fault) f = Err fault

-- the reading behind all lines, or the first fault; inside a chronicle the end is one
abbrev pub after_lines : ℕ → ℕ → Reading → List Line → Result Reading Fault
after_lines limit line r [] = cond (is_some r.current) (Err (line, FormWord)) (Ok r)
after_lines limit line r (l ∷ ls) = unless_refused (after_line limit line r l) (λ next. after_lines limit (line + 1) next ls)

abbrev pub nothing_read : List (List ℕ) → Reading
nothing_read texts = record { names = []; done = []; current = None; texts = texts }

-- what a text declares, behind a table with these texts and this limit, or its first fault
abbrev pub reading_of : List (List ℕ) → ℕ → List ℕ → Result Reading Fault
reading_of texts limit text = cond (nat_lt SIZE_LIMIT (length text)) (Err (0, SizeWord))
    (after_lines limit 1 (nothing_read texts) (lines_of text))
