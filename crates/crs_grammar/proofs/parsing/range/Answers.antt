use Rattle.std.proofs.Common.{◌≡◌, ◌≤◌, List, [], ◌∷◌, length, refl, arith}
use Rattle.std.proofs.lemmas.List.{length-map}
use Rattle.std.specs.Prelude.{None}
use Rattle.crs_base.specs.Tokens.{Token}
use Rattle.crs_grammar.specs.TokenReading.{whole, span_of}
use Rattle.crs_grammar.proofs.parsing.range.Goals as goal

whole_none : {A : Type 0} (x : A) (ts : List Token) → 1 ≤ length ts → whole x ts ≡ None
whole_none x [] h = absurd (omega arith)
whole_none x (t ∷ ts) h = refl

pub returns-in_default : goal.returns-in_default
unfolding span_of
returns-in_default c = λ body.
    simp (c.in_ok-rest.ensures, c.in_ok-rest-2.ensures, c.in_ok-from.ensures, c.in_ok-rest-3.ensures, c.in_ok-to.ensures, c.in_ok-rest-4.ensures, c.in_ok-rest-5.ensures)
    (whole_none _ _ (rw length-map c.in_default.len_at_least))
