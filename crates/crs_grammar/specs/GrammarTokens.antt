-- What the program's tokens are.
use Rattle.std.specs.Prelude.{List, map}
use Rattle.crs_grammar.specs.declared.words.Token.{Token as CodeToken}
use Rattle.crs_grammar.specs.declared.words.Token.TheVariants.{Word as CodeWord, Mark as CodeMark}
use Rattle.crs_base.specs.Tokens.{Token, Word, Mark}

abbrev pub token_of : CodeToken → Token
token_of (CodeWord w) = Word w.now
token_of (CodeMark m) = Mark m

abbrev pub seen : List CodeToken → List Token
seen ts = map token_of ts
