use Rattle.std.proofs.Common.{rules, ap}
use Rattle.std.proofs.lemmas.Int.{to_z-of_z}
use mir.Val.{SFits}
use mir.Syntax.{w64}
use Rattle.crs_instance.specs.Instances.{InstanceState}
use Rattle.crs_instance.specs.EntryLinks.{known_in}
use Rattle.crs_instance.proofs.Deadline.{last_is}
use Rattle.crs_instance.proofs.GoesOn.{tells}
use Rattle.crs_instance.proofs.Kept.{kept_len, kept_bits}
use Rattle.crs_instance.specs.Spans.{end_of, windows_of}
use Rattle.crs_instance.proofs.instance.Instance.can_go_on.Goals as goal

pub returns : goal.returns
returns c =
    let fits : SFits w64 c.self.inside.last = search rules in
    tells c.args.self.now (end_of c.self.inside.last) c.args.h c.is_not_before.result
    (last_is c.args.self.now c.self.inside.bound c.self.inside.count (windows_of (known_in c.self.inside.links.value).spans.items) (end_of c.self.inside.last)
    (kept_len c.args.self.now.partial c.self.inside.count c.self.inside.bound c.self.inside.links.value (windows_of (known_in c.self.inside.links.value).spans.items) (end_of c.self.inside.last) c.self.invariant (ap (λ (s : InstanceState). s.partial) c.self.view_is))
    (kept_bits c.args.self.now.partial c.self.inside.count c.self.inside.bound c.self.inside.links.value (windows_of (known_in c.self.inside.links.value).spans.items) (end_of c.self.inside.last) c.self.invariant (ap (λ (s : InstanceState). s.partial) c.self.view_is))
    (ap (λ (s : InstanceState). s.windows) c.self.view_is) c.self.invariant.deadline)
    (simp to_z-of_z at c.is_not_before.ensures)
