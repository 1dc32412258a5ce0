-- Reading tokens from left to right.
use Rattle.std.specs.Prelude.{ℕ, ℤ, Bool, true, false, cond, ◌==◌, ◌&&◌, List, [], ◌∷◌, ◌++◌, length, zero, suc, Option, Some, None, option_map, codes, bytes_eq}
use Rattle.crs_base.specs.Symbols.{is_symbol}
use Rattle.crs_base.specs.Tokens.{Token, Word, Mark}
use Rattle.crs_base.specs.Numbers.{number_of, integer_of}
use Rattle.crs_grammar.specs.Statements.{Term, Value, Variable, Any, Pattern, Shift, Here, Later, Earlier, Anchor, Body, NoEvent, Occurs, Hold, Statement, Message, Attribute, Derived, Begin, Happens, Point, Between, Among, Differ, Over, Emits, Close}

infixl 10 ◌>>=◌
abbrev pub ◌>>=◌ : {A B : Type 0} → Option A → (A → Option B) → Option B
(Some x) >>= f = f x
None >>= f = None

-- A reader gives a value and the tokens behind it, where the front of the tokens is of its form.
abbrev pub symbol_at : List Token → Option (List ℕ × List Token)
symbol_at (Word w ∷ ts) = cond (is_symbol w) (Some (w, ts)) None
symbol_at _ = None

abbrev pub number_at : List Token → Option (ℕ × List Token)
number_at (Word w ∷ ts) = option_map (λ n. (n, ts)) (number_of w)
number_at _ = None

abbrev pub mark_at : ℕ → List Token → Option (List Token)
mark_at m (Mark n ∷ ts) = cond (n == m) (Some ts) None
mark_at m _ = None

-- nothing is left
abbrev pub whole : {A : Type 0} → A → List Token → Option A
whole x [] = Some x
whole x (t ∷ ts) = None

unfoldable pub term_at : List Token → Option (Term × List Token)
term_at [] = None
term_at (Word w ∷ ts) = cond (is_symbol w) (Some (Value w, ts)) None
term_at (Mark m ∷ ts) = cond (m == 42) (Some (Any, ts)) (cond (m == 63) (symbol_at ts >>= λ x. Some (Variable x.0, x.1)) None)

-- whether a list is closed by this bracket, or else goes on
abbrev pub closed_at : ℕ → List Token → Option (Bool × List Token)
closed_at bracket (Mark m ∷ ts) = cond (m == bracket) (Some (true, ts)) (cond (m == 44) (Some (false, ts)) None)
closed_at bracket _ = None

-- TERM , .. and then ], behind the terms that were read before, where at most n are read
unfoldable pub terms_on : ℕ → List Term → List Token → Option (List Term × List Token)
terms_on zero out ts = None
terms_on (suc n) out ts = do
  term ← term_at ts
  closed ← closed_at 93 term.1
  cond closed.0 (Some (out ++ term.0 ∷ [], closed.1)) (terms_on n (out ++ term.0 ∷ []) closed.1)

-- SYMBOL , .. and then ), likewise
unfoldable pub values_on : ℕ → List (List ℕ) → List Token → Option (List (List ℕ) × List Token)
values_on zero out ts = None
values_on (suc n) out ts = do
  value ← symbol_at ts
  closed ← closed_at 41 value.1
  cond closed.0 (Some (out ++ value.0 ∷ [], closed.1)) (values_on n (out ++ value.0 ∷ []) closed.1)

-- nothing, or [ TERM , .. ]
unfoldable pub arguments_at : List Token → Option (List Term × List Token)
arguments_at [] = Some ([], [])
arguments_at (Word w ∷ ts) = Some ([], Word w ∷ ts)
arguments_at (Mark m ∷ ts) = cond (m == 91) (terms_on (length ts) [] ts) (Some ([], Mark m ∷ ts))

-- TERM , TERM )
unfoldable pub pair_at : List Token → Option ((Term × Term) × List Token)
pair_at ts = do
  old ← term_at ts
  behind ← mark_at 44 old.1
  new ← term_at behind
  rest ← mark_at 41 new.1
  Some ((old.0, new.0), rest)

-- nothing, or : ( TERM , TERM )
unfoldable pub change_at : List Token → Option (Option (Term × Term) × List Token)
change_at [] = Some (None, [])
change_at (Word w ∷ ts) = Some (None, Word w ∷ ts)
change_at (Mark m ∷ ts) = cond (m == 58) (do
  behind ← mark_at 40 ts
  pair ← pair_at behind
  Some (Some pair.0, pair.1)) (Some (None, Mark m ∷ ts))

unfoldable pub pattern_at : List Token → Option (Pattern × List Token)
pattern_at ts = do
  name ← symbol_at ts
  terms ← arguments_at name.1
  change ← change_at terms.1
  Some (record { name = name.0; terms = terms.0; change = change.0 }, change.1)

-- nothing, + NUM or - NUM
unfoldable pub shift_at : List Token → Option (Shift × List Token)
shift_at [] = Some (Here, [])
shift_at (Mark m ∷ ts) = cond (m == 43) (number_at ts >>= λ n. Some (Later n.0, n.1)) (Some (Here, Mark m ∷ ts))
shift_at (Word w ∷ ts) = cond (bytes_eq w (codes "-")) (number_at ts >>= λ n. Some (Earlier n.0, n.1)) (Some (Here, Word w ∷ ts))

unfoldable pub anchor_at : List Token → Option (Anchor × List Token)
anchor_at ts = do
  point ← symbol_at ts
  shift ← shift_at point.1
  Some (record { point = point.0; shift = shift.0 }, shift.1)

-- , ( ANCHOR , ANCHOR ) ) and no more
unfoldable pub span_of : Body → List Token → Option Statement
span_of body ts = do
  opened ← mark_at 44 ts
  inner ← mark_at 40 opened
  from ← anchor_at inner
  second ← mark_at 44 from.1
  to ← anchor_at second
  closed ← mark_at 41 to.1
  rest ← mark_at 41 closed
  whole (Over (record { body = body; from = from.0; to = to.0 })) rest

-- nothing, or level NUM
unfoldable pub level_of : List Token → Option (Option ℕ)
level_of [] = Some None
level_of (Word w ∷ Word n ∷ []) = cond (bytes_eq w (codes "level")) (option_map Some (number_of n)) None
level_of _ = None

-- the rest of each statement behind its first words and marks
unfoldable pub event_of : List Token → Option Statement
event_of ts = do
  pattern ← pattern_at ts
  second ← mark_at 44 pattern.1
  point ← symbol_at second
  closed ← mark_at 41 point.1
  level ← level_of closed
  Some (Happens (record { pattern = pattern.0; point = point.0; level = level }))

unfoldable pub emit_of : List Token → Option Statement
emit_of ts = do
  pattern ← pattern_at ts
  second ← mark_at 44 pattern.1
  point ← symbol_at second
  rest ← mark_at 41 point.1
  whole (Emits (record { pattern = pattern.0; point = point.0 })) rest

unfoldable pub noevent_of : List Token → Option Statement
noevent_of ts = do
  pattern ← pattern_at ts
  span_of (NoEvent pattern.0) pattern.1

-- NUM or inf
unfoldable pub most_at : List Token → Option (Option ℕ × List Token)
most_at [] = None
most_at (Mark m ∷ ts) = None
most_at (Word w ∷ ts) = cond (bytes_eq w (codes "inf")) (Some (None, ts)) (number_at (Word w ∷ ts) >>= λ n. Some (Some n.0, n.1))

unfoldable pub occurs_of : List Token → Option Statement
occurs_of ts = do
  opened ← mark_at 40 ts
  least ← number_at opened
  second ← mark_at 44 least.1
  most ← most_at second
  closed ← mark_at 41 most.1
  third ← mark_at 44 closed
  pattern ← pattern_at third
  span_of (Occurs least.0 most.0 pattern.0) pattern.1

unfoldable pub hold_of : List Token → Option Statement
hold_of ts = do
  name ← symbol_at ts
  terms ← arguments_at name.1
  behind ← mark_at 58 terms.1
  value ← term_at behind
  span_of (Hold name.0 terms.0 value.0) value.1

abbrev pub keyword_at : List ℕ → List Token → Option (List Token)
keyword_at k (Word w ∷ ts) = cond (bytes_eq w k) (Some ts) None
keyword_at k _ = None

-- INT, or the word for an infinite end
unfoldable pub end_at : List ℕ → List Token → Option (Option ℤ × List Token)
end_at infinite (Word w ∷ ts) = cond (bytes_eq w infinite) (Some (None, ts)) (option_map (λ z. (Some z, ts)) (integer_of w))
end_at infinite _ = None

unfoldable pub distance_of : List ℕ → List Token → Option Statement
distance_of to ts = cond (is_symbol to) (do
  second ← keyword_at (codes "-") ts
  from ← symbol_at second
  third ← keyword_at (codes "in") from.1
  opened ← mark_at 91 third
  low ← end_at (codes "-inf") opened
  fourth ← mark_at 44 low.1
  high ← end_at (codes "inf") fourth
  rest ← mark_at 93 high.1
  whole (Between (record { to = to; from = from.0; low = low.0; high = high.0 })) rest) None

-- in ( SYMBOL , .. ) and no more
unfoldable pub values_of : List Token → Option (List (List ℕ))
values_of ts = do
  opened ← keyword_at (codes "in") ts
  inner ← mark_at 40 opened
  values ← values_on (length inner) [] inner
  whole values.0 values.1

-- != ? SYMBOL
unfoldable pub differ_of : List ℕ → List Token → Option Statement
differ_of name ts = do
  second ← mark_at 63 ts
  other ← symbol_at second
  whole (Differ name other.0) other.1

unfoldable pub of_variable : List ℕ → List Token → Option Statement
of_variable name [] = None
of_variable name (Mark m ∷ ts) = cond (m == 33) (differ_of name ts) None
of_variable name (Word w ∷ ts) = values_of (Word w ∷ ts) >>= λ vs. Some (Among name vs)

unfoldable pub variable_of : List Token → Option Statement
variable_of ts = do
  name ← symbol_at ts
  of_variable name.0 name.1

unfoldable pub called_of : List ℕ → List Token → Option Statement
called_of k ts =
    cond (bytes_eq k (codes "event")) (event_of ts)
    (cond (bytes_eq k (codes "noevent")) (noevent_of ts)
    (cond (bytes_eq k (codes "occurs")) (occurs_of ts)
    (cond (bytes_eq k (codes "hold")) (hold_of ts)
    (cond (bytes_eq k (codes "emit")) (emit_of ts) None))))

unfoldable pub point_of : List ℕ → List ℕ → Option Statement
point_of k name = cond (bytes_eq k (codes "point") && is_symbol name) (Some (Point name)) None

unfoldable pub worded_of : List ℕ → List Token → Option Statement
worded_of k [] = None
worded_of k (Mark m ∷ ts) = cond (m == 40) (called_of k ts) (distance_of k (Mark m ∷ ts))
worded_of k (Word a ∷ []) = point_of k a
worded_of k (Word a ∷ t ∷ ts) = distance_of k (Word a ∷ t ∷ ts)

unfoldable pub inside_of : List Token → Option Statement
inside_of [] = None
inside_of (Word k ∷ ts) = worded_of k ts
inside_of (Mark m ∷ ts) = cond (m == 125) (whole Close ts) (cond (m == 63) (variable_of ts) None)

unfoldable pub attribute_of : List ℕ → ℕ → List Token → Option Statement
attribute_of name arity [] = Some (Attribute name arity None)
attribute_of name arity (t ∷ ts) = values_of (t ∷ ts) >>= λ vs. Some (Attribute name arity (Some vs))

-- chronicle SYMBOL { and no more, behind the first word of a prompt chronicle
unfoldable pub prompt_of : List ℕ → List Token → Option Statement
prompt_of word ts = cond (bytes_eq word (codes "chronicle")) (do
  name ← symbol_at ts
  rest ← mark_at 123 name.1
  whole (Begin (record { prompt = true; name = name.0 })) rest) None

unfoldable pub named_of : List ℕ → List ℕ → List Token → Option Statement
named_of k name ts =
    cond (bytes_eq k (codes "chronicle")) (do
      rest ← mark_at 123 ts
      whole (Begin (record { prompt = false; name = name })) rest)
    (cond (bytes_eq k (codes "message")) (do
      arity ← number_at ts
      whole (Message name arity.0) arity.1)
    (cond (bytes_eq k (codes "attribute")) (do
      arity ← number_at ts
      attribute_of name arity.0 arity.1)
    (cond (bytes_eq k (codes "prompt")) (prompt_of name ts)
    (cond (bytes_eq k (codes "derived")) (do
      arity ← number_at ts
      whole (Derived name arity.0) arity.1) None))))

unfoldable pub outside_of : List Token → Option Statement
outside_of [] = None
outside_of (Mark m ∷ ts) = None
outside_of (Word k ∷ ts) = do
  name ← symbol_at ts
  named_of k name.0 name.1

-- the statement that the tokens mean
abbrev pub statement_of : Bool → List Token → Option Statement
statement_of inside ts = cond inside (inside_of ts) (outside_of ts)
