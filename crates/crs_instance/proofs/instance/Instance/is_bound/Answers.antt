use Rattle.std.proofs.Common.{◌≡◌, length, ap, ◌∙◌, arith}
use Rattle.crs_instance.specs.Instances.{InstanceState}
use Rattle.crs_instance.specs.EntryLinks.{known_in}
use Rattle.crs_instance.proofs.Kept.{kept_len, kept_bits}
use Rattle.crs_instance.proofs.Masks.{set_is_some}
use Rattle.crs_instance.specs.Spans.{end_of, windows_of}
use Rattle.crs_instance.proofs.instance.Instance.is_bound.Goals as goal

pub is_set_at-requires : goal.is_set_at-requires
is_set_at-requires c =
    let l : length c.args.self.now.partial ≡ c.self.inside.count = kept_len c.args.self.now.partial c.self.inside.count c.self.inside.bound c.self.inside.links.value (windows_of (known_in c.self.inside.links.value).spans.items) (end_of c.self.inside.last) c.self.invariant (ap (λ (s : InstanceState). s.partial) c.self.view_is) in
    let few = c.self.invariant.few in
    let inside = c.requires in
    omega arith

pub returns : goal.returns
returns c =
    c.is_set_at.ensures ∙ set_is_some c.args.self.now.partial c.self.inside.bound c.args.event (kept_bits c.args.self.now.partial c.self.inside.count c.self.inside.bound c.self.inside.links.value (windows_of (known_in c.self.inside.links.value).spans.items) (end_of c.self.inside.last) c.self.invariant (ap (λ (s : InstanceState). s.partial) c.self.view_is))
