use Rattle.std.proofs.Common.{◌≡◌, ◌∷◌, refl, sym, subst, inl, inr}
use Rattle.crs_base.specs.declared.symbols.Sym.{Sym}
use Rattle.crs_base.specs.Seen.{entry_of}
use Rattle.crs_base.specs.Words.{IsIn}
use Rattle.crs_base.specs.Values.{Attribute, IsChange, NewIs}
use Rattle.crs_history.specs.Looking.{Agrees}
use Rattle.crs_watch.proofs.beginning.has_stray.Goals as goal

pub returns-then-not-brings-clause-yes : goal.returns-then-not-brings-clause-yes
returns-then-not-brings-clause-yes c = λ _.
    let a : Attribute Sym = record { name = c.args.name; args = c.args.args.now } in
    let x = entry_of c.in-Some.e.now.value in
    let step : c.loop-e.e-iterator ≡ x ∷ c.next.new.self = c.in-Some.ensures.steps in
    let changed : IsChange a x = subst (λ w. IsChange a (entry_of w)) c.deref.ensures (c.changes.ensures.yes c.if-changes.true) in
    let other : NewIs c.args.value x → ⊥ = subst (λ w. NewIs c.args.value (entry_of w) → ⊥) c.deref-then-changes.ensures (c.brings.ensures.no c.if-not-brings.true) in
    (x, c.loop-e.invariant.3 x (subst (IsIn x) (sym step) (inl refl)), changed, other)

pub loop-e-preserved-else-not-brings : goal.loop-e-preserved-else-not-brings
loop-e-preserved-else-not-brings c =
    let a : Attribute Sym = record { name = c.args.name; args = c.args.args.now } in
    let v = c.args.value in
    let x = entry_of c.in-Some.e.now.value in
    let step : c.loop-e.e-iterator ≡ x ∷ c.next.new.self = c.in-Some.ensures.steps in
    let new : NewIs v x = subst (λ w. NewIs v (entry_of w)) c.deref-then-changes.ensures (c.brings.ensures.yes c.if-not-brings.false) in (
      tt,
      tt,
      λ e i. elim (c.loop-e.invariant.2 e i) [
        | inl j ↦ elim (subst (IsIn e) step j) [ inl q ↦ inr (subst (Agrees a v) (sym q) (λ _. new)) | inr k ↦ inl k ]
        | inr r ↦ inr r
      ],
      λ e i. c.loop-e.invariant.3 e (subst (IsIn e) (sym step) (inr i)),
    )

pub loop-e-preserved : goal.loop-e-preserved
loop-e-preserved c =
    let a : Attribute Sym = record { name = c.args.name; args = c.args.args.now } in
    let v = c.args.value in
    let x = entry_of c.in-Some.e.now.value in
    let step : c.loop-e.e-iterator ≡ x ∷ c.next.new.self = c.in-Some.ensures.steps in
    let lacks : IsChange a x → ⊥ = subst (λ w. IsChange a (entry_of w) → ⊥) c.deref.ensures (c.changes.ensures.no c.if-changes.false) in (
      tt,
      tt,
      λ e i. elim (c.loop-e.invariant.2 e i) [
        | inl j ↦ elim (subst (IsIn e) step j) [ inl q ↦ inr (subst (Agrees a v) (sym q) (λ k. absurd (lacks k))) | inr k ↦ inl k ]
        | inr r ↦ inr r
      ],
      λ e i. c.loop-e.invariant.3 e (subst (IsIn e) (sym step) (inr i)),
    )
