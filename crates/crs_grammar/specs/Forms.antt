-- How statements are written, and what a line means.
use Rattle.std.specs.Prelude.{◌≡◌, ℕ, ℤ, Bool, true, false, List, [], ◌∷◌, ◌++◌, Option, Some, None, codes}
use Rattle.crs_base.specs.Symbols.{is_symbol}
use Rattle.crs_base.specs.Tokens.{Token, Word, Mark}
use Rattle.crs_base.specs.Numbers.{number_of, integer_of}
use Rattle.crs_grammar.specs.Statements.{Term, Value, Variable, Any, Pattern, Shift, Here, Later, Earlier, Anchor, Body, NoEvent, Occurs, Hold, Statement, Message, Attribute, Derived, Begin, Happens, Point, Between, Among, Differ, Over, Emits, Close, is_inside}

-- A part of a statement. A gap is a blank of the canonical text, and missing is what no token writes.
pub data Part : Type 0 where
  Keyword : List ℕ → Part
  Sign : ℕ → Part
  Symbol : List ℕ → Part
  Number : ℕ → Part
  Integer : ℤ → Part
  Gap : Part
  Missing : Part

abbrev pub Writes : Part → Token → Type 0
Writes (Keyword k) (Word w) = w ≡ k
Writes (Sign m) (Mark n) = n ≡ m
Writes (Symbol s) (Word w) = (w ≡ s) × (is_symbol w ≡ true)
Writes (Number n) (Word w) = number_of w ≡ Some n
Writes (Integer z) (Word w) = integer_of w ≡ Some z
Writes _ _ = ⊥

-- the tokens write the parts one by one, apart from the gaps
abbrev pub AreWritten : List Part → List Token → Type 0
AreWritten [] [] = Unit {0}
AreWritten (Gap ∷ ps) ts = AreWritten ps ts
AreWritten (p ∷ ps) (t ∷ ts) = Writes p t × AreWritten ps ts
AreWritten _ _ = ⊥

-- one or more, parted by commas
abbrev pub listed : {A : Type 0} → (A → List Part) → List A → List Part
listed f [] = Missing ∷ []
listed f (x ∷ []) = f x
listed f (x ∷ y ∷ ys) = f x ++ Sign 44 ∷ Gap ∷ listed f (y ∷ ys)

abbrev pub symbol_form : List ℕ → List Part
symbol_form s = Symbol s ∷ []

-- ( SYMBOL , .. )
abbrev pub values_form : List (List ℕ) → List Part
values_form vs = Sign 40 ∷ listed symbol_form vs ++ Sign 41 ∷ []

-- SYMBOL, ? SYMBOL or *
abbrev pub term_form : Term → List Part
term_form (Value s) = Symbol s ∷ []
term_form (Variable x) = Sign 63 ∷ Symbol x ∷ []
term_form Any = Sign 42 ∷ []

-- nothing, or [ TERM , .. ]
abbrev pub terms_form : List Term → List Part
terms_form [] = []
terms_form (t ∷ ts) = Sign 91 ∷ listed term_form (t ∷ ts) ++ Sign 93 ∷ []

-- nothing, or : ( TERM , TERM )
abbrev pub change_form : Option (Term × Term) → List Part
change_form None = []
change_form (Some c) = Sign 58 ∷ Gap ∷ Sign 40 ∷ term_form c.0 ++ Sign 44 ∷ Gap ∷ term_form c.1 ++ Sign 41 ∷ []

abbrev pub pattern_form : Pattern → List Part
pattern_form p = Symbol p.name ∷ terms_form p.terms ++ change_form p.change

abbrev pub shift_form : Shift → List Part
shift_form Here = []
shift_form (Later n) = Gap ∷ Sign 43 ∷ Gap ∷ Number n ∷ []
shift_form (Earlier n) = Gap ∷ Keyword (codes "-") ∷ Gap ∷ Number n ∷ []

abbrev pub anchor_form : Anchor → List Part
anchor_form a = Symbol a.point ∷ shift_form a.shift

abbrev pub level_form : Option ℕ → List Part
level_form None = []
level_form (Some n) = Gap ∷ Keyword (codes "level") ∷ Gap ∷ Number n ∷ []

abbrev pub values_in_form : Option (List (List ℕ)) → List Part
values_in_form None = []
values_in_form (Some vs) = Gap ∷ Keyword (codes "in") ∷ Gap ∷ values_form vs

abbrev pub low_part : Option ℤ → Part
low_part None = Keyword (codes "-inf")
low_part (Some z) = Integer z

abbrev pub high_part : Option ℤ → Part
high_part None = Keyword (codes "inf")
high_part (Some z) = Integer z

abbrev pub most_part : Option ℕ → Part
most_part None = Keyword (codes "inf")
most_part (Some n) = Number n

abbrev pub body_form : Body → List Part
body_form (NoEvent p) = Keyword (codes "noevent") ∷ Sign 40 ∷ pattern_form p
body_form (Occurs least most p) = Keyword (codes "occurs") ∷ Sign 40 ∷ Sign 40 ∷ Number least ∷ Sign 44 ∷ Gap ∷ most_part most ∷ Sign 41 ∷ Sign 44 ∷ Gap ∷ pattern_form p
body_form (Hold name terms value) = Keyword (codes "hold") ∷ Sign 40 ∷ Symbol name ∷ terms_form terms ++ Sign 58 ∷ Gap ∷ term_form value

-- , ( ANCHOR , ANCHOR ) )
abbrev pub span_form : Anchor → Anchor → List Part
span_form from to = Sign 44 ∷ Gap ∷ Sign 40 ∷ anchor_form from ++ Sign 44 ∷ Gap ∷ anchor_form to ++ Sign 41 ∷ Sign 41 ∷ []

-- chronicle SYMBOL {, and prompt in front of it where it is prompt
abbrev pub begin_form : Bool → List ℕ → List Part
begin_form false name = Keyword (codes "chronicle") ∷ Gap ∷ Symbol name ∷ Gap ∷ Sign 123 ∷ []
begin_form true name = Keyword (codes "prompt") ∷ Gap ∷ Keyword (codes "chronicle") ∷ Gap ∷ Symbol name ∷ Gap ∷ Sign 123 ∷ []

-- one case for each form of statement
abbrev pub form_of : Statement → List Part
form_of (Message name arity) = Keyword (codes "message") ∷ Gap ∷ Symbol name ∷ Gap ∷ Number arity ∷ []
form_of (Attribute name arity values) = Keyword (codes "attribute") ∷ Gap ∷ Symbol name ∷ Gap ∷ Number arity ∷ values_in_form values
form_of (Derived name arity) = Keyword (codes "derived") ∷ Gap ∷ Symbol name ∷ Gap ∷ Number arity ∷ []
form_of (Begin heading) = begin_form heading.prompt heading.name
form_of (Happens e) = Keyword (codes "event") ∷ Sign 40 ∷ pattern_form e.pattern ++ Sign 44 ∷ Gap ∷ Symbol e.point ∷ Sign 41 ∷ level_form e.level
form_of (Point name) = Keyword (codes "point") ∷ Gap ∷ Symbol name ∷ []
form_of (Between d) = Symbol d.to ∷ Gap ∷ Keyword (codes "-") ∷ Gap ∷ Symbol d.from ∷ Gap ∷ Keyword (codes "in") ∷ Gap ∷ Sign 91 ∷ low_part d.low ∷ Sign 44 ∷ Gap ∷ high_part d.high ∷ Sign 93 ∷ []
form_of (Among variable values) = Sign 63 ∷ Symbol variable ∷ Gap ∷ Keyword (codes "in") ∷ Gap ∷ values_form values
form_of (Differ left right) = Sign 63 ∷ Symbol left ∷ Gap ∷ Sign 33 ∷ Gap ∷ Sign 63 ∷ Symbol right ∷ []
form_of (Over w) = body_form w.body ++ span_form w.from w.to
form_of (Emits e) = Keyword (codes "emit") ∷ Sign 40 ∷ pattern_form e.pattern ++ Sign 44 ∷ Gap ∷ Symbol e.point ∷ Sign 41 ∷ []
form_of Close = Sign 125 ∷ []

-- The tokens of a line mean a statement of the place where it stands, inside a chronicle or outside.
abbrev pub Means : Bool → List Token → Statement → Type 0
Means inside tokens statement = (is_inside statement ≡ inside) × AreWritten (form_of statement) tokens
