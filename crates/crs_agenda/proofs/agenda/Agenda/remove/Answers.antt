use Rattle.std.proofs.Common.{◌≡◌, ap, ◌∙◌}
use Rattle.std.specs.List.{list_any}
use Rattle.std.specs.Set.{remove_key}
use Rattle.std.proofs.lemmas.Int.{to_z-of_z}
use mir.Val.{SFits}
use mir.Syntax.{w64}
use Rattle.crs_agenda.specs.Pairs.{is_pair}
use Rattle.crs_agenda.proofs.agenda.Agenda.remove.Goals as goal

pub returns-clause-was : goal.returns-clause-was
returns-clause-was c =
    let fits : SFits w64 c.args.deadline = c.ranges.deadline in
    let t : c.remove.result ≡ list_any (is_pair (c.args.deadline, c.args.id)) c.self.inside.pairs.keys = simp to_z-of_z at c.remove.ensures.test in
    t ∙ ap (list_any (is_pair (c.args.deadline, c.args.id))) c.self.view_is

pub returns-clause-rest : goal.returns-clause-rest
returns-clause-rest c =
    let fits : SFits w64 c.args.deadline = c.ranges.deadline in
    let t : c.remove.new.self.keys ≡ remove_key (is_pair (c.args.deadline, c.args.id)) c.self.inside.pairs.keys = simp to_z-of_z at c.remove.ensures.keys in
    t ∙ ap (remove_key (is_pair (c.args.deadline, c.args.id))) c.self.view_is
