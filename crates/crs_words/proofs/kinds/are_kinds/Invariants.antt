use Rattle.std.proofs.Common.{◌≡◌, map, drop}
use Rattle.std.specs.List.{list_all}
use Rattle.crs_words.specs.Kinds.{is_kind}
use Rattle.crs_words.proofs.kinds.are_kinds.Given as goal

-- those that are left are kinds exactly where all are
abbrev pub invariant-loop-word : goal.invariant-loop-word
invariant-loop-word l = list_all is_kind (map (λ w. w.now) (drop l.word-index l.words)) ≡ list_all is_kind (map (λ w. w.now) l.words)
