use Rattle.std.proofs.Common.{rules, ◌≡◌, ◌+◌, length, ap, ◌∙◌, arith}
use Rattle.std.specs.Prelude.{replicate, None}
use Rattle.crs_instance.specs.declared.links.Links.{Links}
use Rattle.crs_instance.specs.EntryLinks.{partial_of, known_in}
use Rattle.crs_instance.proofs.BindAnswers.{root_of}
use Rattle.crs_instance.specs.Spans.{windows_of, no_span}
use Rattle.crs_instance.proofs.SpanSays.{windows_replicate}
use Rattle.crs_instance.proofs.Kept.{kept_root}
use Rattle.crs_instance.proofs.instance.Instance.root.Goals as goal

pub invariant_of-result : goal.invariant_of-result
invariant_of-result c =
    let few = c.requires.few in
    let events = c.len-events.ensures in
    kept_root c.len-events.result _ _ c.in_ok-links.links.value (windows_of c.in_ok-spans.spans.items) (windows_of (known_in c.in_ok-links.links.value).spans.items) (search rules) (c.in_ok-links.ensures {u = tt}).ok
    (ap (λ (l : Links). (windows_of (known_in l).spans.items)) (c.in_ok-links.ensures {u = tt}).ok) (ap windows_of (c.in_ok-spans.ensures {u = tt}) ∙ windows_replicate _ no_span) (omega arith)

pub returns-clause-of : goal.returns-clause-of
returns-clause-of c =
    let n = length c.args.plan.now.chronicle.events + length c.args.plan.now.chronicle.free in
    let spans : c.in_ok-spans.spans.items ≡ replicate n no_span = search rules in
    root_of c.args.plan.now c.requires (partial_of c.len-events.result c.in_ok-links.links.value) (known_in c.in_ok-links.links.value).binding (windows_of (known_in c.in_ok-links.links.value).spans.items) c.in_ok-progress.progress.items
    (ap (λ (l : Links). partial_of c.len-events.result l) (c.in_ok-links.ensures {u = tt}).ok ∙ ap (λ n. replicate n None) c.len-events.ensures)
    (ap (λ (l : Links). (known_in l).binding) (c.in_ok-links.ensures {u = tt}).ok ∙ search rules)
    (ap (λ (l : Links). windows_of (known_in l).spans.items) (c.in_ok-links.ensures {u = tt}).ok ∙ ap windows_of spans ∙ windows_replicate n no_span) (search rules)
