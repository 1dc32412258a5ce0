-- What clap finds in words without a fault.
use Rattle.std.proofs.Common.{◌≡◌, ◌∙◌, ap, sym, refl, List, [], ℕ, true, Option, Some}
use Rattle.std.specs.Cmp.{first_so}
use Rattle.std.specs.Option.{option_map, option_and_then}
use Rattle.clap.specs.Words.{App, Row, rows_of, found_of, fault_of, HasMatchesOf, is_simple_and_free}
use Rattle.clap.specs.declared.parser.matches.ArgMatches.{ArgMatches}
use Rattle.crs_words.specs.Commands.{rows_in}

pub found_is : (a : App) (words : List (List ℕ)) (m : ArgMatches)
    → is_simple_and_free a ≡ true → HasMatchesOf a words m → fault_of a words ≡ [] → Some (rows_of (found_of m)) ≡ rows_in a words
found_is a words m free has none =
    let rows = (has (first_so _ _ free)).0 in
    rw (none, rows) refl

-- what is read of the rows that are found is what is read of the words
pub read_is : {A C : Type 0} (rows : A → List Row) (f : List Row → Option C) (a b : App) (words : List (List ℕ)) (found : Option A) (m : A) (r : Option C)
    → option_map rows found ≡ rows_in a words → a ≡ b → found ≡ Some m → r ≡ f (rows m) → r ≡ option_and_then f (rows_in b words)
read_is rows f a b words found m r is same some said =
    said ∙ ap (option_and_then f) (sym (ap (option_map rows) some) ∙ is ∙ ap (λ (x : App). rows_in x words) same)
