use Rattle.std.proofs.Common.{subst, sym}
use Rattle.std.specs.Prelude.{All}
use Rattle.std.proofs.lemmas.List.Elements.{All-from_recursion}
use Rattle.crs_session.specs.Written.{HasEntry}
use Rattle.crs_commands.proofs.log.tell.Goals as goal

pub tell_each-requires : goal.tell_each-requires
tell_each-requires g c =
    subst (All HasEntry) (sym c.found.ensures) (All-from_recursion HasEntry c.args.output.found c.requires)
