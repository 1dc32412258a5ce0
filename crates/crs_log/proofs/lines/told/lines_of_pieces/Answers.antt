use Rattle.std.proofs.Common.{ap, refl, map, drop, drop_of_length-le, []}
use Rattle.std.specs.Prelude.{flat_map}
use Rattle.crs_log.specs.Told.{told_seen}
use Rattle.crs_log.proofs.Ended.{all_told}
use Rattle.crs_log.proofs.lines.told.lines_of_pieces.Goals as goal

pub returns : goal.returns
returns c =
    let n = c.in_ok-take_lines-2.ensures in
    all_told c.args.limit (flat_map (λ p. p.items) c.args.pieces.now) (flat_map (λ p. p.items) (drop c.loop-piece.piece-index c.args.pieces.now))
    (map told_seen c.loop-piece.out.items) (map told_seen c.take_lines-2.new.out.items) c.loop-piece.lines c.finish.new.self c.take_lines-2.new.lines
    c.loop-piece.invariant.told (ap (flat_map (λ p. p.items)) (drop_of_length-le c.args.pieces.now c.loop-piece-test.false)) c.finish.ensures
    (n.told [] (λ e. refl)) n.finished n.none
