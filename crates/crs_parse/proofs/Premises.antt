-- The symbols of what is read, and the place where it stands.
use Rattle.std.proofs.Common.{Bool, ◌≡◌, ℕ, ℤ, true, false, List, [], ◌∷◌, ◌++◌, Option, Some, None, refl, sym, ap, subst, ◌∙◌, append_assoc}
use Rattle.std.specs.List.{AllByRecursion, flat_map}
use Rattle.crs_base.specs.Symbols.{is_symbol}
use Rattle.crs_base.specs.Tokens.{Token, Word, Mark, tokens_of, is_model_mark}
use Rattle.crs_grammar.specs.Forms.{Part, Keyword, Sign, Symbol, Number, Integer, Gap, Missing, AreWritten, listed, symbol_form, values_form, term_form, terms_form, change_form, pattern_form, shift_form, anchor_form, level_form, values_in_form, low_part, high_part, most_part, body_form, span_form, begin_form, form_of}
use Rattle.crs_grammar.specs.Statements.{Term, Value, Variable, Any, Pattern, Shift, Here, Later, Earlier, Anchor, Body, NoEvent, Occurs, Hold, Statement, Message, Attribute, Derived, Begin, Happens, Point, Between, Among, Differ, Over, Emits, Close}
use Rattle.crs_grammar.specs.TokenReading.{◌>>=◌, inside_of, outside_of}
use Rattle.crs_parse.specs.Faults.{symbols_of, term_symbols, terms_symbols, change_symbols, pattern_symbols, body_symbols, values_symbols}
use Rattle.crs_parse.specs.ModelSteps.{AreRead, AreDeclared, IsInside, IsOutside, HasSymbols}
use Rattle.crs_grammar.proofs.GivesStatements.{read_is_meant}

abbrev symbol_in : Part → List (List ℕ)
symbol_in (Symbol s) = s ∷ []
symbol_in _ = []

-- the symbols of a form
abbrev symbols_in : List Part → List (List ℕ)
symbols_in ps = flat_map symbol_in ps

parts : (xs ys : List Part) → symbols_in (xs ++ ys) ≡ symbols_in xs ++ symbols_in ys
parts [] ys = refl
parts (x ∷ xs) ys = ap (λ l. symbol_in x ++ l) (parts xs ys) ∙ sym (append_assoc (symbol_in x) (symbols_in xs) (symbols_in ys))

listed_symbols : {A : Type 0} (f : A → List Part) (g : A → List (List ℕ)) → ((x : A) → symbols_in (f x) ≡ g x) → (xs : List A) → symbols_in (listed f xs) ≡ flat_map g xs
listed_symbols f g e [] = refl
listed_symbols f g e (x ∷ []) = e x ∙ sym (none (g x))
  where
    none : (l : List (List ℕ)) → l ++ [] ≡ l
    none [] = refl
    none (y ∷ l) = ap (λ m. y ∷ m) (none l)
listed_symbols f g e (x ∷ y ∷ ys) = parts (f x) (Sign 44 ∷ Gap ∷ listed f (y ∷ ys)) ∙ (λ i. e x i ++ listed_symbols f g e (y ∷ ys) i)

term_is : (t : Term) → symbols_in (term_form t) ≡ term_symbols t
term_is (Value s) = refl
term_is (Variable x) = refl
term_is Any = refl

none_behind : (l : List (List ℕ)) → l ++ [] ≡ l
none_behind [] = refl
none_behind (y ∷ l) = ap (λ m. y ∷ m) (none_behind l)

terms_are : (ts : List Term) → symbols_in (terms_form ts) ≡ terms_symbols ts
terms_are [] = refl
terms_are (t ∷ ts) = parts (listed term_form (t ∷ ts)) (Sign 93 ∷ []) ∙ none_behind (symbols_in (listed term_form (t ∷ ts))) ∙ listed_symbols term_form term_symbols term_is (t ∷ ts)

change_is : (c : Option (Term × Term)) → symbols_in (change_form c) ≡ change_symbols c
change_is None = refl
change_is (Some c) = parts (term_form c.0 ++ Sign 44 ∷ Gap ∷ term_form c.1) (Sign 41 ∷ []) ∙ none_behind (symbols_in (term_form c.0 ++ Sign 44 ∷ Gap ∷ term_form c.1))
    ∙ parts (term_form c.0) (Sign 44 ∷ Gap ∷ term_form c.1) ∙ (λ i. term_is c.0 i ++ term_is c.1 i)

pattern_is : (p : Pattern) → symbols_in (pattern_form p) ≡ pattern_symbols p
pattern_is p = ap (λ l. p.name ∷ l) (parts (terms_form p.terms) (change_form p.change) ∙ (λ i. terms_are p.terms i ++ change_is p.change i))

most_is : (m : Option ℕ) (ps : List Part) → symbols_in (most_part m ∷ ps) ≡ symbols_in ps
most_is None ps = refl
most_is (Some n) ps = refl

body_is : (b : Body) → symbols_in (body_form b) ≡ body_symbols b
body_is (NoEvent p) = pattern_is p
body_is (Occurs least most p) = most_is most (Sign 41 ∷ Sign 44 ∷ Gap ∷ pattern_form p) ∙ pattern_is p
body_is (Hold name terms value) = ap (λ l. name ∷ l) (parts (terms_form terms) (Sign 58 ∷ Gap ∷ term_form value) ∙ (λ i. terms_are terms i ++ term_is value i))

shift_is : (s : Shift) → symbols_in (shift_form s) ≡ []
shift_is Here = refl
shift_is (Later n) = refl
shift_is (Earlier n) = refl

span_is : (f t : Anchor) → symbols_in (span_form f t) ≡ f.point ∷ t.point ∷ []
span_is f t = parts (anchor_form f ++ Sign 44 ∷ Gap ∷ anchor_form t) (Sign 41 ∷ Sign 41 ∷ []) ∙ none_behind (symbols_in (anchor_form f ++ Sign 44 ∷ Gap ∷ anchor_form t))
    ∙ parts (anchor_form f) (Sign 44 ∷ Gap ∷ anchor_form t) ∙ (λ i. (f.point ∷ shift_is f.shift i) ++ t.point ∷ shift_is t.shift i)

values_are : (vs : List (List ℕ)) → symbols_in (values_form vs) ≡ vs
values_are vs = parts (listed symbol_form vs) (Sign 41 ∷ []) ∙ none_behind (symbols_in (listed symbol_form vs)) ∙ listed_symbols symbol_form (λ v. v ∷ []) (λ v. refl) vs ∙ each vs
  where
    each : (vs : List (List ℕ)) → flat_map (λ v. v ∷ []) vs ≡ vs
    each [] = refl
    each (v ∷ vs) = ap (λ l. v ∷ l) (each vs)

values_in_are : (vs : Option (List (List ℕ))) → symbols_in (values_in_form vs) ≡ values_symbols vs
values_in_are None = refl
values_in_are (Some vs) = values_are vs

level_is : (l : Option ℕ) → symbols_in (level_form l) ≡ []
level_is None = refl
level_is (Some n) = refl

low_is : (z : Option ℤ) (ps : List Part) → symbols_in (low_part z ∷ ps) ≡ symbols_in ps
low_is None ps = refl
low_is (Some z) ps = refl

high_is : (z : Option ℤ) (ps : List Part) → symbols_in (high_part z ∷ ps) ≡ symbols_in ps
high_is None ps = refl
high_is (Some z) ps = refl

begin_is : (prompt : Bool) (name : List ℕ) → symbols_in (begin_form prompt name) ≡ name ∷ []
begin_is false name = refl
begin_is true name = refl

-- the symbols of a statement are those of its form
pub form_symbols : (s : Statement) → symbols_in (form_of s) ≡ symbols_of s
form_symbols (Message name arity) = refl
form_symbols (Attribute name arity values) = ap (λ l. name ∷ l) (values_in_are values)
form_symbols (Derived name arity) = refl
form_symbols (Begin heading) = begin_is heading.prompt heading.name
form_symbols (Happens e) = parts (pattern_form e.pattern) (Sign 44 ∷ Gap ∷ Symbol e.point ∷ Sign 41 ∷ level_form e.level) ∙ (λ i. pattern_is e.pattern i ++ e.point ∷ level_is e.level i)
form_symbols (Point name) = refl
form_symbols (Between d) = ap (λ l. d.to ∷ d.from ∷ l) (low_is d.low (Sign 44 ∷ Gap ∷ high_part d.high ∷ Sign 93 ∷ []) ∙ high_is d.high (Sign 93 ∷ []))
form_symbols (Among x values) = ap (λ l. x ∷ l) (values_are values)
form_symbols (Differ x y) = refl
form_symbols (Over w) = parts (body_form w.body) (span_form w.from w.to) ∙ (λ i. body_is w.body i ++ span_is w.from w.to i)
form_symbols (Emits e) = parts (pattern_form e.pattern) (Sign 44 ∷ Gap ∷ Symbol e.point ∷ Sign 41 ∷ []) ∙ (λ i. pattern_is e.pattern i ++ e.point ∷ [])
form_symbols Close = refl

-- what is written is a symbol
pub written_symbols : (ps : List Part) (ts : List Token) → AreWritten ps ts → AllByRecursion (λ t. is_symbol t ≡ true) (symbols_in ps)
written_symbols [] ts h = tt
written_symbols (Gap ∷ ps) ts h = written_symbols ps ts h
written_symbols (Keyword k ∷ ps) [] h = absurd h
written_symbols (Keyword k ∷ ps) (t ∷ ts) h = written_symbols ps ts h.1
written_symbols (Sign m ∷ ps) [] h = absurd h
written_symbols (Sign m ∷ ps) (t ∷ ts) h = written_symbols ps ts h.1
written_symbols (Number n ∷ ps) [] h = absurd h
written_symbols (Number n ∷ ps) (t ∷ ts) h = written_symbols ps ts h.1
written_symbols (Integer z ∷ ps) [] h = absurd h
written_symbols (Integer z ∷ ps) (t ∷ ts) h = written_symbols ps ts h.1
written_symbols (Missing ∷ ps) [] h = absurd h
written_symbols (Missing ∷ ps) (t ∷ ts) h = written_symbols ps ts h.1
written_symbols (Symbol s ∷ ps) [] h = absurd h
written_symbols (Symbol s ∷ ps) (Mark m ∷ ts) h = absurd h.0
written_symbols (Symbol s ∷ ps) (Word w ∷ ts) h = (subst (λ x. is_symbol x ≡ true) h.0.0 h.0.1, written_symbols ps ts h.1)

meant_symbols : (s : Statement) (ts : List Token) → AreWritten (form_of s) ts → AllByRecursion (λ t. is_symbol t ≡ true) (symbols_of s)
meant_symbols s ts h = subst (AllByRecursion (λ t. is_symbol t ≡ true)) (form_symbols s) (written_symbols (form_of s) ts h)

pub is_inside_read : IsInside
is_inside_read tokens s e = (read_is_meant true tokens s e).0

pub is_outside_read : IsOutside
is_outside_read tokens s e = (read_is_meant false tokens s e).0

read_has : (o : Option Statement) → ((s : Statement) → o ≡ Some s → AllByRecursion (λ t. is_symbol t ≡ true) (symbols_of s)) → HasSymbols o
read_has None h = tt
read_has (Some s) h = h s refl

behind_tokens : (o : Option (List Token)) (f : List Token → Option Statement) → ((ts : List Token) → HasSymbols (f ts)) → HasSymbols (o >>= f)
behind_tokens None f h = tt
behind_tokens (Some ts) f h = h ts

pub are_read : AreRead
are_read line = behind_tokens (tokens_of is_model_mark line) inside_of (λ ts. read_has (inside_of ts) (λ s e. meant_symbols s ts (read_is_meant true ts s e).1))

pub are_declared : AreDeclared
are_declared line = behind_tokens (tokens_of is_model_mark line) outside_of (λ ts. read_has (outside_of ts) (λ s e. meant_symbols s ts (read_is_meant false ts s e).1))
