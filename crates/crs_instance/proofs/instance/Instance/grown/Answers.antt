use Rattle.std.proofs.Common.{rules, ap, ◌∙◌, ◌≡◌, ◌<◌, ◌≤◌, length, refl, List, arith}
use Rattle.std.proofs.lemmas.Int.{to_z-of_z}
use Rattle.std.proofs.lemmas.List.{length-map}
use mir.Val.{SFits}
use mir.Syntax.{w64}
use Rattle.crs_base.specs.Seen.{entry_of}
use Rattle.crs_model.specs.Partial.{put}
use Rattle.crs_instance.specs.declared.span.Span.{Span}
use Rattle.crs_instance.specs.Instances.{InstanceState}
use Rattle.crs_instance.specs.EntryLinks.{partial_of, known_in}
use Rattle.crs_instance.specs.Stored.{last_of}
use Rattle.crs_instance.proofs.BindAnswers.{the_state}
use Rattle.crs_instance.proofs.Kept.{kept_len, kept_room, kept_more}
use Rattle.crs_instance.specs.Spans.{end_of, window_of, windows_of}
use Rattle.crs_instance.proofs.instance.Instance.grown.Goals as goal

pub with_bit-bound-requires-clause-room : goal.with_bit-bound-requires-clause-room
with_bit-bound-requires-clause-room c =
    let inside : c.args.event < c.self.inside.count = (let l = kept_len c.args.self.now.partial c.self.inside.count c.self.inside.bound c.self.inside.links.value (windows_of (known_in c.self.inside.links.value).spans.items) (end_of c.self.inside.last) c.self.invariant (ap (λ (s : InstanceState). s.partial) c.self.view_is) in let k = c.requires.event in omega arith) in
    kept_room c.args.self.now.partial c.self.inside.count c.self.inside.bound c.self.inside.links.value (windows_of (known_in c.self.inside.links.value).spans.items) (end_of c.self.inside.last) c.self.invariant (ap (λ (s : InstanceState). s.partial) c.self.view_is) c.args.event (entry_of c.args.entry.value) inside c.requires.unbound

pub with_bit-bound-requires-clause-place : goal.with_bit-bound-requires-clause-place
with_bit-bound-requires-clause-place c =
    let l = kept_len c.args.self.now.partial c.self.inside.count c.self.inside.bound c.self.inside.links.value (windows_of (known_in c.self.inside.links.value).spans.items) (end_of c.self.inside.last) c.self.invariant (ap (λ (s : InstanceState). s.partial) c.self.view_is) in
    let f = c.self.invariant.few in
    let k = c.requires.event in omega arith

pub earliest_deadline-last-requires-clause-spans : goal.earliest_deadline-last-requires-clause-spans
earliest_deadline-last-requires-clause-spans c =
    let l = kept_len c.args.self.now.partial c.self.inside.count c.self.inside.bound c.self.inside.links.value (windows_of (known_in c.self.inside.links.value).spans.items) (end_of c.self.inside.last) c.self.invariant (ap (λ (s : InstanceState). s.partial) c.self.view_is) in
    let w = c.requires.spans in
    let s = ap length c.as_slice.ensures.value in omega arith

pub invariant_of-result : goal.invariant_of-result
invariant_of-result c =
    let len = kept_len c.args.self.now.partial c.self.inside.count c.self.inside.bound c.self.inside.links.value (windows_of (known_in c.self.inside.links.value).spans.items) (end_of c.self.inside.last) c.self.invariant (ap (λ (s : InstanceState). s.partial) c.self.view_is) in
    let inside : c.args.event < c.self.inside.count = (let l = len in let k = c.requires.event in omega arith) in
    let wide : c.self.inside.count ≤ length (windows_of c.args.known.spans.items) = (let l = len in let w = c.requires.spans in omega (arith, length-map c.args.known.spans.items window_of)) in
    let fits : SFits w64 c.earliest_deadline-last.result = search rules in
    let s = kept_more c.args.self.now.partial c.self.inside.count c.self.inside.bound c.self.inside.links.value (windows_of (known_in c.self.inside.links.value).spans.items) (end_of c.self.inside.last) c.self.invariant (ap (λ (s : InstanceState). s.partial) c.self.view_is) c.args.event (entry_of c.args.entry.value) inside c.requires.unbound c.in_ok-links.links.value c.args.entry.value c.args.known c.with_bit-bound.result (windows_of c.args.known.spans.items) (end_of c.earliest_deadline-last.result)
    ((c.in_ok-links.ensures {u = tt}) c.self.inside.count) refl c.requires.date c.with_bit-bound.ensures refl wide
    (c.earliest_deadline-last.ensures ∙ ap (λ (ss : List Span). last_of c.with_bit-bound.result c.self.inside.count (windows_of ss)) c.as_slice.ensures.value) in
    simp to_z-of_z s

pub returns : goal.returns
returns c =
    let link = c.in_ok-links.ensures {u = tt} c.self.inside.count in
    let given : partial_of c.self.inside.count c.in_ok-links.links.value ≡ put c.args.self.now.partial c.args.event (entry_of c.args.entry.value) =
    link.gives ∙ ap (λ a. put a c.args.event (entry_of c.args.entry.value)) (ap (λ (s : InstanceState). s.partial) c.self.view_is) in
    let told : c.in_ok-progress.progress.items ≡ c.args.progress.now = c.in_ok-progress.ensures {u = tt} in
    (λ t. the_state (given t) (link.knows t).binding (windows_of (link.knows t).spans.items) (told t))
