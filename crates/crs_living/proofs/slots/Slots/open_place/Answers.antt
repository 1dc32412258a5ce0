use Rattle.std.proofs.Common.{suc, rules, subst, sym, ◌∙◌, ap, ◌≡◌, ℕ, ◌++◌, ◌∷◌, [], length}
use Rattle.std.specs.Prelude.{None}
use Rattle.crs_living.specs.Slots.{SlotsState, Opens}
use Rattle.crs_living.proofs.Counted.{opened, opened_count, length_more}
use Rattle.crs_living.proofs.slots.Slots.open_place.Goals as goal

pub invariant_of-self-else-is_err : goal.invariant_of-self-else-is_err
invariant_of-self-else-is_err c =
    let e : c.push-2.new.self.items ≡ c.self.inside.slots.items ++ None ∷ [] = search rules in
    let f = (c.in_ok-push.ensures {u = tt}).items in
    opened_count (record { slots = c.self.inside.slots.items; serials = c.self.inside.serials.items }) (record { slots = c.push-2.new.self.items; serials = c.push.new.self.items }) c.self.inside.count _ (opened c.self.inside.slots.items c.self.inside.serials.items c.push-2.new.self.items c.push.new.self.items e f c.self.invariant.serials)
    (ap length f ∙ length_more c.self.inside.serials.items 0 ∙ ap suc c.self.invariant.serials ∙ sym (length_more c.self.inside.slots.items None) ∙ ap length (sym e)) c.self.invariant

pub returns : goal.returns
returns c =
    let e : c.push-2.new.self.items ≡ c.self.inside.slots.items ++ None ∷ [] = search rules in
    let l : c.len-place.result ≡ length c.self.inside.slots.items = search rules in
    let o = opened c.self.inside.slots.items c.self.inside.serials.items c.push-2.new.self.items c.push.new.self.items e ((c.in_ok-push.ensures {u = tt}).items) c.self.invariant.serials in
    subst (λ (s : SlotsState). Opens s (record { slots = c.push-2.new.self.items; serials = c.push.new.self.items }) c.len-place.result) c.self.view_is (subst (λ (p : ℕ). Opens (record { slots = c.self.inside.slots.items; serials = c.self.inside.serials.items }) (record { slots = c.push-2.new.self.items; serials = c.push.new.self.items }) p) (sym l) o)
