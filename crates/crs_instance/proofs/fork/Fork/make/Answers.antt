use Rattle.std.proofs.Common.{rules, ap, subst, ◌∙◌, ◌≡◌, List}
use Rattle.std.specs.Prelude.{pos}
use Rattle.std.proofs.lemmas.Result.{IfOk-weaker}
use Rattle.crs_base.specs.declared.entry.Entry.{Entry as CodeEntry}
use Rattle.crs_base.specs.Seen.{entry_of}
use Rattle.crs_model.specs.declared.date_window.DateWindow.{DateWindow}
use Rattle.crs_model.specs.Partial.{put}
use Rattle.crs_stn.specs.Table.{most_of}
use Rattle.crs_instance.specs.Instances.{InstanceState}
use Rattle.crs_instance.specs.Narrowed.{IsNarrowed}
use Rattle.crs_instance.specs.Spans.{windows_of}
use Rattle.crs_instance.proofs.BindAnswers.{the_state}
use Rattle.crs_instance.proofs.Completing.{same_narrowed}
use Rattle.crs_instance.proofs.fork.Fork.make.Goals as goal

pub returns : goal.returns
returns c =
    let plan = c.self.inside.plan.now in
    let parent = c.self.inside.parent.now in
    let event = c.self.inside.event in
    let date = pos (entry_of c.self.inside.entry.now.value).date in
    let cloned : c.in_ok-clone.field-0.value ≡ c.self.inside.entry.now.value = search rules in
    let dated : IsNarrowed plan.network.points (most_of plan.network) event date (windows_of c.as_slice.result.now) (windows_of c.in_ok-spans.spans.items) =
    subst (λ (e : CodeEntry). IsNarrowed plan.network.points (most_of plan.network) event (pos e.date) (windows_of c.as_slice.result.now) (windows_of c.in_ok-spans.spans.items)) c.deref.ensures (c.in_ok-spans.ensures {u = tt}) in
    let narrowed : IsNarrowed plan.network.points (most_of plan.network) event date parent.windows (windows_of c.in_ok-spans.spans.items) =
    subst (λ (ws : List DateWindow). IsNarrowed plan.network.points (most_of plan.network) event date ws (windows_of c.in_ok-spans.spans.items)) (ap windows_of c.as_slice.ensures.value ∙ c.known.ensures.windows) dated in
    let partial : put parent.partial event (entry_of c.in_ok-clone.field-0.value) ≡ c.args.self.partial = ap (λ (e : CodeEntry). put parent.partial event (entry_of e)) cloned ∙ ap (λ (s : InstanceState). s.partial) c.self.view_is in
    let windows : windows_of c.in_ok-spans.spans.items ≡ c.args.self.windows = same_narrowed plan.network.points (most_of plan.network) event date parent.windows (windows_of c.in_ok-spans.spans.items) narrowed ∙ ap (λ (s : InstanceState). s.windows) c.self.view_is in
    let binding : c.self.inside.binding ≡ c.args.self.binding = ap (λ (s : InstanceState). s.binding) c.self.view_is in
    IfOk-weaker c.grown.result _ _ (λ i same. same ∙ (λ t. the_state (partial t) (binding t) (windows t) c.args.progress.now)) c.grown.ensures
