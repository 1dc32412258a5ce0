use Rattle.std.proofs.Common.{◌≡◌, ◌++◌, drop}
use Rattle.crs_words.proofs.reading.copied.Given as goal

abbrev pub invariant-loop-word : goal.invariant-loop-word
invariant-loop-word l = l.list.items ++ drop l.word-index l.words ≡ l.fn.words
