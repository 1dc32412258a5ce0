use Rattle.std.proofs.Common.{subst, sym}
use Rattle.std.specs.List.{AllByRecursion}
use Rattle.crs_session.specs.Written.{HasEntry}
use Rattle.crs_commands.proofs.log.tell_piece.Goals as goal

pub tell-requires : goal.tell-requires
tell-requires g c =
    let t = c.in_ok-output.ensures.takes c.requires.ready.0 c.requires.ready.1 c.requires.ready.2 in
    subst (AllByRecursion HasEntry) (sym t.added) t.filled

pub returns : goal.returns
returns g c = record { all = c.in_ok-output.output; piece_is = c.in_ok-output.ensures; text_is = c.in_ok-text.ensures.text; heard = c.in_ok-text.ensures.heard }
