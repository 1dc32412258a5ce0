-- The canonical text of statements.
use Rattle.std.specs.Prelude.{ℕ, Bool, false, cond, ◌==◌, List, [], ◌∷◌, ◌++◌, codes}
use Rattle.std.specs.List.{flat_map}
use Rattle.std.specs.Fmt.{decimal, signed_decimal}
use Rattle.crs_grammar.specs.Statements.{Statement, Close, is_inside}
use Rattle.crs_grammar.specs.Forms.{Part, Keyword, Sign, Symbol, Number, Integer, Gap, Missing, form_of}

abbrev pub part_text : Part → List ℕ
part_text (Keyword k) = k
part_text (Sign m) = cond (m == 33) (codes "!=") (m ∷ [])
part_text (Symbol s) = s
part_text (Number n) = decimal n
part_text (Integer z) = signed_decimal z
part_text Gap = 32 ∷ []
part_text Missing = []

-- the parts of a statement one behind the other
abbrev pub statement_text : Statement → List ℕ
statement_text s = flat_map part_text (form_of s)

abbrev pub is_indented : Statement → Bool
is_indented Close = false
is_indented s = is_inside s

-- a line of its own, behind two blanks inside a chronicle
abbrev pub statement_line : Statement → List ℕ
statement_line s = cond (is_indented s) (32 ∷ 32 ∷ []) [] ++ statement_text s ++ 10 ∷ []

-- the text of models is that of their statements
abbrev pub statements_text : List Statement → List ℕ
statements_text ss = flat_map statement_line ss
