-- Which kinds of listeners words name: one or more, parted by commas, none twice.
use Rattle.std.specs.Prelude.{ℕ, ◌==◌, ◌||◌, Bool, true, false, List, [], ◌∷◌, Option, Some, None, codes, if◌then◌else◌}
use Rattle.std.specs.List.{slice_split, list_all, count_by}
use Rattle.std.specs.Str.{bytes_eq}
use Rattle.crs_words.specs.declared.command.Tally.{Tally}

-- for each kind from 0 on whether it is asked for
abbrev pub kinds_of : Tally → List Bool
kinds_of t = t.count ∷ t.span ∷ t.longest ∷ t.fewer ∷ []

-- none is asked for
abbrev pub no_kinds : Tally
no_kinds = record { count = false; span = false; longest = false; fewer = false }

-- the words that commas part
abbrev pub parted : List ℕ → List (List ℕ)
parted text = slice_split (λ b. b == 44) text

abbrev pub is_kind : List ℕ → Bool
is_kind word = bytes_eq word (codes "count") || bytes_eq word (codes "span") || bytes_eq word (codes "longest") || bytes_eq word (codes "fewer")

-- it stands there or doesn't; none where it stands there twice
abbrev pub at_most_once : ℕ → Option Bool
at_most_once n = if n == 0 then Some false else (if n == 1 then Some true else None)

abbrev pub is_among : List (List ℕ) → List ℕ → Option Bool
is_among words kind = at_most_once (count_by (λ w. bytes_eq w kind) words)

abbrev pub tally_with : Option Bool → Option Bool → Option Bool → Option Bool → Option Tally
tally_with None span longest fewer = None
tally_with (Some count) None longest fewer = None
tally_with (Some count) (Some span) None fewer = None
tally_with (Some count) (Some span) (Some longest) None = None
tally_with (Some count) (Some span) (Some longest) (Some fewer) = Some (record { count = count; span = span; longest = longest; fewer = fewer })

-- the kinds that these words are; none where one is no kind, or stands there twice
abbrev pub tally_in : List (List ℕ) → Option Tally
tally_in words =
    if list_all is_kind words
    then tally_with (is_among words (codes "count")) (is_among words (codes "span")) (is_among words (codes "longest")) (is_among words (codes "fewer"))
    else None

-- the kinds of an option's value; without the option there are none
abbrev pub tally_of : Option (List ℕ) → Option Tally
tally_of None = Some no_kinds
tally_of (Some value) = tally_in (parted value)
