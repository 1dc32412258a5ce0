-- Which event is next, by the one that comes before it.
use Rattle.std.proofs.Common.{◌≡◌, ℕ, ◌<◌, Bool, List, length, sym, subst, arith}
use Rattle.std.specs.Prelude.{Some, None, IfSome}
use Rattle.crs_base.specs.declared.symbols.Sym.{Sym}
use Rattle.crs_model.specs.declared.plan.Plan.{Plan}
use Rattle.crs_model.specs.Partial.{Partial, at, IsAwaited}
use Rattle.crs_model.proofs.Options.{some_if}
use Rattle.crs_focus.specs.PlanLevels.{levels_in}
use Rattle.crs_waiting.specs.declared.hooks.Hook.{Hook}
use Rattle.crs_waiting.specs.Links.{hook_at, IsNext}
use Rattle.crs_waiting.specs.Orders.{ComesFirst, AreOrdered, IsUnboundBefore}

-- another unbound event of the level of an awaited one is awaited too
pub awaited_too : (level : ℕ → ℕ) (a : Partial Sym) (e f : ℕ) → IsAwaited level a e → level f ≡ level e → f < length a → at a f ≡ None → IsAwaited level a f
awaited_too level a e f w same within none = record { within = within; unbound = none; least = λ g l n. let k = w.least g l n in omega (arith, same) }

-- what the hook names is an event of the instance
pub before_within : (plan : Plan) (focus : Bool) (ranks : List ℕ) (hooks : List Hook) → AreOrdered plan focus ranks hooks → (e : ℕ) (hook : Hook) → hook ≡ hook_at hooks e → (n : ℕ) → n ≡ length plan.chronicle.events → IfSome hook.before (λ f. f < n)
before_within plan focus ranks hooks order e hook is n len = some_if hook.before _ (λ f named.
    let first = (order.each e f (subst (λ (h : Hook). h.before ≡ Some f) is named)).1 in
    let l = first.within in omega (arith, len))

-- one whose event can't come yet isn't next
pub not_next : (plan : Plan) (focus : Bool) (ranks : List ℕ) (hooks : List Hook) → AreOrdered plan focus ranks hooks → (e : ℕ) (a : Partial Sym) → length a ≡ length plan.chronicle.events → IsUnboundBefore (hook_at hooks e) a → IsNext (levels_in plan focus) (hook_at hooks e) a e → ⊥
not_next plan focus ranks hooks order e a len back next =
    let first : ComesFirst plan focus ranks back.0 e = (order.each e back.0 back.1).1 in
    next.free (back.0, back.1, awaited_too (levels_in plan focus) a e back.0 next.awaited first.level (subst (λ (n : ℕ). back.0 < n) (sym len) first.within) back.2)
