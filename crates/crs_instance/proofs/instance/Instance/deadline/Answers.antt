use Rattle.std.proofs.Common.{rules, ap, map, length, arith, ◌∙◌}
use Rattle.std.proofs.lemmas.Int.{to_z-of_z}
use mir.Val.{SFits}
use mir.Syntax.{w64}
use Rattle.crs_model.specs.SeenModels.{event_of}
use Rattle.crs_instance.specs.Instances.{InstanceState}
use Rattle.crs_instance.specs.EntryLinks.{known_in}
use Rattle.crs_instance.proofs.Deadline.{last_is, unread_least, read}
use Rattle.crs_instance.proofs.Kept.{kept_len, kept_bits}
use Rattle.crs_instance.specs.Spans.{end_of, windows_of}
use Rattle.crs_instance.proofs.instance.Instance.deadline.Goals as goal

pub returns-then-level-eq0 : goal.returns-then-level-eq0
returns-then-level-eq0 c =
    let fits : SFits w64 c.self.inside.last = search rules in
    unread_least c.args.self.now (map event_of c.args.plan.now.chronicle.events) c.args.focus c.args.level c.most_at.result c.if-not-focus.true c.if-level-eq0.true
    (last_is c.args.self.now c.self.inside.bound c.self.inside.count (windows_of (known_in c.self.inside.links.value).spans.items) c.most_at.result
    (kept_len c.args.self.now.partial c.self.inside.count c.self.inside.bound c.self.inside.links.value (windows_of (known_in c.self.inside.links.value).spans.items) (end_of c.self.inside.last) c.self.invariant (ap (λ (s : InstanceState). s.partial) c.self.view_is))
    (kept_bits c.args.self.now.partial c.self.inside.count c.self.inside.bound c.self.inside.links.value (windows_of (known_in c.self.inside.links.value).spans.items) (end_of c.self.inside.last) c.self.invariant (ap (λ (s : InstanceState). s.partial) c.self.view_is))
    (ap (λ (s : InstanceState). s.windows) c.self.view_is) ((simp to_z-of_z at c.most_at.ensures) ∙ c.self.invariant.deadline))

pub deadline_of_level-requires-clause-events : goal.deadline_of_level-requires-clause-events
deadline_of_level-requires-clause-events c =
    let l = kept_len c.args.self.now.partial c.self.inside.count c.self.inside.bound c.self.inside.links.value (windows_of (known_in c.self.inside.links.value).spans.items) (end_of c.self.inside.last) c.self.invariant (ap (λ (s : InstanceState). s.partial) c.self.view_is) in
    let m = c.requires.len in
    let k = ap length c.as_slice-events.ensures in omega arith

pub returns : goal.returns
returns c =
    let fits : SFits w64 c.deadline_of_level.result = search rules in
    read c.args.self.now c.as_slice-events.result.now c.args.plan.now.chronicle.events c.args.focus c.args.level c.self.inside.bound c.self.inside.count (windows_of c.as_slice.result.now) c.most_at-2.result
    (kept_len c.args.self.now.partial c.self.inside.count c.self.inside.bound c.self.inside.links.value (windows_of (known_in c.self.inside.links.value).spans.items) (end_of c.self.inside.last) c.self.invariant (ap (λ (s : InstanceState). s.partial) c.self.view_is))
    (kept_bits c.args.self.now.partial c.self.inside.count c.self.inside.bound c.self.inside.links.value (windows_of (known_in c.self.inside.links.value).spans.items) (end_of c.self.inside.last) c.self.invariant (ap (λ (s : InstanceState). s.partial) c.self.view_is))
    c.if-not-focus.false c.as_slice-events.ensures (ap windows_of c.as_slice.ensures.value ∙ c.known.ensures.windows) ((simp to_z-of_z at c.most_at-2.ensures) ∙ c.deadline_of_level.ensures)
