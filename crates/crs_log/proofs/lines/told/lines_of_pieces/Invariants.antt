use Rattle.std.proofs.Common.{◌≡◌, ◌+◌, ◌++◌, List, ℕ, false, map, length, drop}
use Rattle.std.specs.Prelude.{flat_map}
use Rattle.crs_log.specs.Reading.{ahead, given}
use Rattle.crs_log.specs.Told.{told_seen}
use Rattle.crs_log.proofs.lines.told.lines_of_pieces.Given as goal

-- what was told, and what is ahead with what is left to feed
abbrev pub invariant-loop-piece : goal.invariant-loop-piece
invariant-loop-piece l = record {
  open_still : l.lines.finished ≡ false;
  fed : l.lines.fed + length (flat_map (λ p. p.items) (drop l.piece-index l.pieces)) ≡ length (flat_map (λ p. p.items) l.pieces);
  told : (more : List ℕ) → map told_seen l.out.items ++ ahead l.lines (flat_map (λ p. p.items) (drop l.piece-index l.pieces) ++ more) ≡ given l.limit 0 (flat_map (λ p. p.items) l.pieces ++ more);
}
