use Rattle.std.proofs.Common.{ap}
use Rattle.crs_instance.specs.Instances.{InstanceState}
use Rattle.crs_instance.specs.EntryLinks.{known_in}
use Rattle.crs_instance.proofs.Kept.{kept_whole}
use Rattle.crs_instance.specs.Spans.{end_of, windows_of}
use Rattle.crs_instance.proofs.instance.Instance.is_whole.Goals as goal

pub returns : goal.returns
returns c =
    kept_whole c.args.self.now.partial c.self.inside.count c.self.inside.bound c.self.inside.links.value (windows_of (known_in c.self.inside.links.value).spans.items) (end_of c.self.inside.last) c.self.invariant (ap (λ (s : InstanceState). s.partial) c.self.view_is)
    c.are_all_set.result c.are_all_set.ensures
