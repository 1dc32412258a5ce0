-- One line inside a chronicle or outside.
use Rattle.std.specs.Prelude.{◌≡◌, ℕ, nat_lt, Bool, List, [], ◌∷◌, ◌++◌, ◌+◌, length, Option, Result, Ok, Err, Some, None, IfSome, true, false, cond}
use Rattle.std.specs.List.{AllByRecursion}
use Rattle.crs_base.specs.Symbols.{is_symbol, with_texts}
use Rattle.crs_base.specs.Tokens.{Token, tokens_of, is_model_mark}
use Rattle.crs_grammar.specs.Statements.{Heading, Statement, Message, Attribute, Derived, Begin, Close, is_inside}
use Rattle.crs_grammar.specs.TokenReading.{◌>>=◌, inside_of, outside_of}
use Rattle.crs_parse.specs.Faults.{Name, Written, Reading, own_fault, nameless, is_looped, begun, message_named, attribute_named, derived_named, with_statement, symbols_of}
use Rattle.crs_model.specs.declared.models.ModelWord.{ModelWord}
use Rattle.crs_model.specs.declared.models.ModelWord.TheVariants.{Form as FormWord, Limit as LimitWord, Emit as EmitWord}
use Rattle.crs_base.specs.Lines.{Line, is_long, bytes_of, is_passed_over}
use Rattle.crs_model.specs.declared.models.ModelRefused.{ModelRefused}
use Rattle.crs_model.specs.declared.models.ModelRefused.TheVariants as halts
use Rattle.crs_parse.specs.declared.builder.Refused.{Refused}
use Rattle.crs_parse.specs.declared.builder.Refused.TheVariants as refused

abbrev pub inside_line : List ℕ → Option Statement
inside_line line = tokens_of is_model_mark line >>= inside_of

abbrev pub outside_line : List ℕ → Option Statement
outside_line line = tokens_of is_model_mark line >>= outside_of

-- more texts than the limit
abbrev pub passes : ℕ → List (List ℕ) → Bool
passes limit texts = nat_lt limit (length texts)

abbrev pub OfWord : Refused → (ModelWord → Type 0) → Type 0
OfWord refused.Memory P = Unit {0}
OfWord (refused.Word word) P = P word

-- what holds of the word of a refusal
abbrev pub IfWord : {X : Type 0} → Result X Refused → (ModelWord → Type 0) → Type 0
IfWord (Ok x) P = Unit {0}
IfWord (Err e) P = OfWord e P

-- each symbol of what was read is one
abbrev pub HasSymbols : Option Statement → Type 0
HasSymbols read = IfSome read (λ s. AllByRecursion (λ t. is_symbol t ≡ true) (symbols_of s))

abbrev pub is_close : Statement → Bool
is_close Close = true
is_close _ = false

-- the open chronicle behind a line, the symbols met so far, and whether the line closes it
pub record Outcome : Type 0 where
  pub chronicle : Written
  pub texts : List (List ℕ)
  pub closes : Bool

abbrev pub unless_fault : {X : Type 0} → Option ModelWord → Result X ModelWord → Result X ModelWord
unless_fault None r = r
unless_fault (Some word) r = Err word

abbrev pub step_of : ℕ → List Name → List (ℕ × Written) → Written → List (List ℕ) → Option Statement → Result Outcome ModelWord
step_of limit names done c texts None = Err FormWord
step_of limit names done c texts (Some s) = unless_fault (own_fault names [] c s) (cond (passes limit (with_texts texts (symbols_of s))) (Err LimitWord)
    (cond (is_looped done c s) (Err EmitWord) (Ok (record { chronicle = with_statement c s; texts = with_texts texts (symbols_of s); closes = is_close s }))))

abbrev pub FailsWith : {Y : Type 0} → Refused → Result Y ModelWord → Type 0
FailsWith refused.Memory wanted = Unit {0}
FailsWith (refused.Word word) wanted = wanted ≡ Err word

-- what is wanted, unless memory ran out
abbrev pub Meets : {X Y : Type 0} → (X → Y) → Result X Refused → Result Y ModelWord → Type 0
Meets view (Ok x) wanted = wanted ≡ Ok (view x)
Meets view (Err e) wanted = FailsWith e wanted

abbrev pub line_outcome : ℕ → List Name → List (ℕ × Written) → Written → List (List ℕ) → Line → Result Outcome ModelWord
line_outcome limit names done c texts l = cond (is_long l) (Err LimitWord) (cond (is_passed_over (bytes_of l)) (Ok (record { chronicle = c; texts = texts; closes = false })) (step_of limit names done c texts (inside_line (bytes_of l))))

-- a closed chronicle, the symbols met so far, the line that closed it, and the lines behind that one
pub record Closing : Type 0 where
  pub chronicle : Written
  pub texts : List (List ℕ)
  pub line : ℕ
  pub rest : List Line

abbrev pub onward : {X Y : Type 0} → ℕ → Result X ModelWord → (X → Result Y (ℕ × ModelWord)) → Result Y (ℕ × ModelWord)
onward line (Ok x) f = f x
onward line (Err word) f = Err (line, word)

-- the lines of a chronicle up to its close
abbrev pub until_close : ℕ → List Name → List (ℕ × Written) → ℕ → Written → List (List ℕ) → List Line → Result Closing (ℕ × ModelWord)
until_close limit names done line c texts [] = Err (line, FormWord)
until_close limit names done line c texts (l ∷ ls) = onward line (line_outcome limit names done c texts l) (λ o. cond o.closes (Ok (record { chronicle = o.chronicle; texts = o.texts; line = line; rest = ls })) (until_close limit names done (line + 1) o.chronicle o.texts ls))

abbrev pub HaltsWith : {Y : Type 0} → ModelRefused → Result Y (ℕ × ModelWord) → Type 0
HaltsWith halts.Memory wanted = Unit {0}
HaltsWith (halts.At line word) wanted = wanted ≡ Err (line, word)

-- the refusal of a line
abbrev pub halt_of : ℕ → Refused → ModelRefused
halt_of line refused.Memory = halts.Memory
halt_of line (refused.Word word) = halts.At line word

-- what is wanted, unless memory ran out
abbrev pub Comes : {X Y : Type 0} → (X → Y) → Result X ModelRefused → Result Y (ℕ × ModelWord) → Type 0
Comes view (Ok x) wanted = wanted ≡ Ok (view x)
Comes view (Err e) wanted = HaltsWith e wanted

-- each symbol of a statement that is read is one
abbrev pub AreRead : Type 0
AreRead = (line : List ℕ) → HasSymbols (inside_line line)

-- the names behind a declaration
abbrev pub with_name : List Name → Statement → List Name
with_name names (Message name arity) = names ++ message_named name arity ∷ []
with_name names (Attribute name arity values) = names ++ attribute_named name arity values ∷ []
with_name names (Derived name arity) = names ++ derived_named name arity ∷ []
with_name names _ = names

abbrev pub begins : Statement → Option Heading
begins (Begin heading) = Some heading
begins _ = None

-- the names behind a declaration, the symbols met so far, and the heading of a chronicle that begins
pub record Declaring : Type 0 where
  pub names : List Name
  pub texts : List (List ℕ)
  pub begun : Option Heading

abbrev pub declaring_of : ℕ → List Name → List (ℕ × Written) → List (List ℕ) → Option Statement → Result Declaring ModelWord
declaring_of limit names done texts None = Err FormWord
declaring_of limit names done texts (Some s) = unless_fault (own_fault names done (begun nameless) s) (cond (passes limit (with_texts texts (symbols_of s))) (Err LimitWord)
    (Ok (record { names = with_name names s; texts = with_texts texts (symbols_of s); begun = begins s })))

abbrev pub declaring_outcome : ℕ → List Name → List (ℕ × Written) → List (List ℕ) → Line → Result Declaring ModelWord
declaring_outcome limit names done texts l = cond (is_long l) (Err LimitWord) (cond (is_passed_over (bytes_of l)) (Ok (record { names = names; texts = texts; begun = None })) (declaring_of limit names done texts (outside_line (bytes_of l))))

-- each symbol of a declaration that is read is one
abbrev pub AreDeclared : Type 0
AreDeclared = (line : List ℕ) → HasSymbols (outside_line line)

-- the readings inside a chronicle and outside
abbrev pub reading_in : List Name → List (ℕ × Written) → Written → List (List ℕ) → Reading
reading_in names done c texts = record { names = names; done = done; current = Some c; texts = texts }

abbrev pub reading_out : List Name → List (ℕ × Written) → List (List ℕ) → Reading
reading_out names done texts = record { names = names; done = done; current = None; texts = texts }

-- what is said of a statement that is read inside a chronicle or outside
abbrev pub IsInside : Type 0
IsInside = (tokens : List Token) (s : Statement) → inside_of tokens ≡ Some s → is_inside s ≡ true

abbrev pub IsOutside : Type 0
IsOutside = (tokens : List Token) (s : Statement) → outside_of tokens ≡ Some s → is_inside s ≡ false

-- what is wanted is what comes of the rest, or the refusal
abbrev pub Moves : {X Y : Type 0} → (X → Result Y (ℕ × ModelWord)) → Result X ModelRefused → Result Y (ℕ × ModelWord) → Type 0
Moves rest (Ok x) wanted = wanted ≡ rest x
Moves rest (Err e) wanted = HaltsWith e wanted
