use Rattle.std.proofs.Common.{rules, ◌<◌, arith, ◌≡◌, length, ap, ◌∙◌, sym, ℕ, subst, ◌≢◌}
use Rattle.std.specs.Prelude.{pos, IsSomeAnd, IfSome, slice_index_or, cond, Some, None}
use Rattle.crs_base.specs.declared.symbols.Sym.{Sym}
use Rattle.crs_base.specs.Seen.{entry_of}
use Rattle.crs_model.specs.Partial.{Partial, at}
use Rattle.crs_model.specs.SeenModels.{event_of}
use Rattle.crs_instance.specs.declared.links.Links.{Links}
use Rattle.crs_instance.specs.Completing.{IsTakenBy}
use Rattle.crs_instance.specs.Instances.{InstanceState}
use Rattle.crs_instance.specs.Narrowed.{IsNarrowed}
use Rattle.crs_stn.specs.Table.{most_of}
use Rattle.crs_instance.specs.EntryLinks.{partial_of, AreLinked}
use Rattle.crs_instance.proofs.BindAnswers.{the_state, answer_twice, answer_unmatched, answer_outside, answer_yes, event_as, pattern_as, inside_as}
use Rattle.crs_instance.proofs.Completing.{by_cond}
use Rattle.crs_instance.specs.Spans.{windows_of}
use Rattle.crs_instance.proofs.instance.Instance.takes.Goals as goal

pub returns-then-gives-clause-taken : goal.returns-then-gives-clause-taken
returns-then-gives-clause-taken g c =
    let i : InstanceState = the_state c.args.self.now.partial c.args.binding.now (windows_of c.known-known.result.now.spans.items) c.args.self.now.progress in
    let same : i ≡ c.args.self.now = (λ t. the_state c.args.self.now.partial (c.requires.binding t) (c.known-known.ensures.windows t) c.args.self.now.progress) in
    let linked : AreLinked c.self.inside.count c.deref.result.now = subst (AreLinked c.self.inside.count) (sym c.deref.ensures) c.self.invariant.linked in
    let seen : partial_of c.self.inside.count c.deref.result.now ≡ c.args.self.now.partial = ap (λ (l : Links). partial_of c.self.inside.count l) c.deref.ensures ∙ ap (λ (s : InstanceState). s.partial) c.self.view_is in
    answer_twice c.args.plan.now c.requires.proper i c.args.self.now same c.requires.of c.args.event (entry_of c.args.entry.now) c.requires.event c.requires.unbound
    (subst (λ (a : Partial Sym). (f : ℕ) × IsSomeAnd (at a f) (λ y. y.arrival ≡ c.args.entry.now.arrival)) seen (c.gives.ensures.present c.if-gives.true c.self.inside.count linked))

pub matched-requires : goal.matched-requires
matched-requires g c =
    pattern_as (length c.args.plan.now.chronicle.variables) (length c.args.binding.now) c.as_slice.result.now c.args.plan.now.chronicle.events c.args.event c.index-as_slice-event.result c.as_slice.ensures
    (ap length c.requires.binding ∙ c.requires.of.symbols) c.requires.event c.requires.proper.below

pub returns-then-not-is_inside-clause-taken : goal.returns-then-not-is_inside-clause-taken
returns-then-not-is_inside-clause-taken g c =
    let i : InstanceState = the_state c.args.self.now.partial c.args.binding.now (windows_of c.known-known.result.now.spans.items) c.args.self.now.progress in
    let same : i ≡ c.args.self.now = (λ t. the_state c.args.self.now.partial (c.requires.binding t) (c.known-known.ensures.windows t) c.args.self.now.progress) in
    let within : c.args.event < length (windows_of c.known-known.result.now.spans.items) = (let a = ap length c.known-known.ensures.windows in let b = c.requires.of.window_count in let p = c.requires.proper.points in let e = c.requires.event in omega arith) in
    answer_outside c.args.plan.now c.requires.proper i c.args.self.now same c.requires.of c.args.event (entry_of c.args.entry.now) c.requires.event c.requires.unbound c.is_inside.result (inside_as c.known-known.result.now.spans.items c.args.event c.index.result.now (pos c.args.entry.now.date) c.is_inside.result c.index.ensures within c.is_inside.ensures) (search rules)

pub returns-clause-taken : goal.returns-clause-taken
returns-clause-taken g c =
    let i : InstanceState = the_state c.args.self.now.partial c.args.binding.now (windows_of c.known-known.result.now.spans.items) c.args.self.now.progress in
    let same : i ≡ c.args.self.now = (λ t. the_state c.args.self.now.partial (c.requires.binding t) (c.known-known.ensures.windows t) c.args.self.now.progress) in
    let linked : AreLinked c.self.inside.count c.deref.result.now = subst (AreLinked c.self.inside.count) (sym c.deref.ensures) c.self.invariant.linked in
    let seen : partial_of c.self.inside.count c.deref.result.now ≡ c.args.self.now.partial = ap (λ (l : Links). partial_of c.self.inside.count l) c.deref.ensures ∙ ap (λ (s : InstanceState). s.partial) c.self.view_is in
    let within : c.args.event < length (windows_of c.known-known.result.now.spans.items) = (let a = ap length c.known-known.ensures.windows in let b = c.requires.of.window_count in let p = c.requires.proper.points in let e = c.requires.event in omega arith) in
    let def = event_of (slice_index_or c.as_slice.result.now c.args.event c.index-as_slice-event.result) in
    let is = event_as c.as_slice.result.now c.args.plan.now.chronicle.events c.args.event c.index-as_slice-event.result c.as_slice.ensures c.requires.event in
    by_cond (IsTakenBy c.args.plan.now c.args.self.now c.args.event (entry_of c.args.entry.now)) c.matched.result c.matched.new.binding
    (λ yes ws narrowed. answer_yes c.args.plan.now c.requires.proper i c.args.self.now same c.requires.of c.args.event (entry_of c.args.entry.now) c.requires.event c.requires.unbound
    def is (cond c.matched.result (Some c.matched.new.binding) None) c.matched.new.binding (ap (λ b. cond b (Some c.matched.new.binding) None) yes) c.matched.ensures.bound
    (subst (λ (a : Partial Sym). (f : ℕ) → IfSome (at a f) (λ y. y.arrival ≢ c.args.entry.now.arrival)) seen (λ f. c.gives.ensures.absent c.if-gives.false c.self.inside.count f linked))
    c.is_inside.result (inside_as c.known-known.result.now.spans.items c.args.event c.index.result.now (pos c.args.entry.now.date) c.is_inside.result c.index.ensures within c.is_inside.ensures) (search rules) ws
    (subst (λ (s : InstanceState). IsNarrowed c.args.plan.now.network.points (most_of c.args.plan.now.network) c.args.event (pos c.args.entry.now.date) s.windows ws) (sym same) narrowed))
    (λ no. answer_unmatched c.args.plan.now c.requires.proper i c.args.self.now same c.requires.of c.args.event (entry_of c.args.entry.now) c.requires.event c.requires.unbound
    def is (cond c.matched.result (Some c.matched.new.binding) None) (ap (λ b. cond b (Some c.matched.new.binding) None) no) c.matched.ensures.bound)
