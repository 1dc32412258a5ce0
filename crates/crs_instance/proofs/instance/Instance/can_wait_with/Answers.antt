use Rattle.std.proofs.Common.{ap, length, ◌∙◌}
use Rattle.crs_model.specs.Levels.{level_in}
use Rattle.crs_model.specs.Plans.{chronicle}
use Rattle.crs_instance.specs.Instances.{InstanceState}
use Rattle.crs_instance.specs.EntryLinks.{known_in}
use Rattle.crs_instance.proofs.Kept.{kept_bits}
use Rattle.crs_instance.proofs.Waits.{wait_yes, wait_no}
use Rattle.crs_instance.specs.Spans.{end_of, windows_of}
use Rattle.crs_instance.proofs.instance.Instance.can_wait_with.Goals as goal

pub others_can_be_from-requires-clause-few : goal.others_can_be_from-requires-clause-few
others_can_be_from-requires-clause-few c = c.requires.proper.events_few

pub returns-clause-yes : goal.returns-clause-yes
returns-clause-yes c t =
    wait_yes c.args.plan.now c.requires.proper c.args.self.now c.requires.of (level_in (chronicle c.args.plan.now).events c.args.focus) c.args.event c.args.date c.args.h c.requires.event c.requires.unbound c.self.inside.bound (length c.args.plan.now.chronicle.events)
    (kept_bits c.args.self.now.partial c.self.inside.count c.self.inside.bound c.self.inside.links.value (windows_of (known_in c.self.inside.links.value).spans.items) (end_of c.self.inside.last) c.self.invariant (ap (λ (s : InstanceState). s.partial) c.self.view_is))
    c.requires.of.len
    (windows_of c.as_slice.result.now) (ap windows_of c.as_slice.ensures.value ∙ c.known.ensures.windows)
    (c.others_can_be_from.ensures.yes t)

pub returns-clause-no : goal.returns-clause-no
returns-clause-no c f =
    wait_no c.args.plan.now c.requires.proper c.args.self.now c.requires.of (level_in (chronicle c.args.plan.now).events c.args.focus) c.args.event c.args.date c.args.h c.requires.event c.requires.unbound c.self.inside.bound (length c.args.plan.now.chronicle.events)
    (kept_bits c.args.self.now.partial c.self.inside.count c.self.inside.bound c.self.inside.links.value (windows_of (known_in c.self.inside.links.value).spans.items) (end_of c.self.inside.last) c.self.invariant (ap (λ (s : InstanceState). s.partial) c.self.view_is))
    c.requires.of.len
    (windows_of c.as_slice.result.now) (ap windows_of c.as_slice.ensures.value ∙ c.known.ensures.windows)
    (c.others_can_be_from.ensures.no f)
