use Rattle.std.proofs.Common.{rules, filter, ap, ◌∙◌}
use Rattle.std.proofs.lemmas.Map.Made.{filter_same_pairs}
use Rattle.crs_watch.specs.Watching.{is_of_another}
use Rattle.crs_watch.proofs.Armed.{sized_left}
use Rattle.crs_watch.proofs.watch.Watch.disarm.Goals as goal

pub returns : goal.returns
returns g c =
    filter_same_pairs _ (is_of_another c.args.id) _ (λ k v b w f' t. search rules) _ _ c.retain.ensures.filtered ∙ ap (filter (is_of_another c.args.id)) c.self.view_is

pub invariant_of-self : goal.invariant_of-self
invariant_of-self g c =
    sized_left (is_of_another c.args.id) c.self.inside.armed.entries c.retain.new.self.entries c.self.invariant
    (filter_same_pairs _ (is_of_another c.args.id) _ (λ k v b w f' t. search rules) _ _ c.retain.ensures.filtered)
