use Rattle.std.proofs.Common.{◌≡◌, ◌∙◌, refl, sym, ap, subst, inl, inr, []}
use Rattle.std.specs.Prelude.{Option, None}
use Rattle.crs_base.specs.declared.symbols.Sym.{Sym}
use Rattle.crs_index.specs.Indexes.{bucket_of}
use Rattle.crs_index.specs.declared.key.Key.{Key}
use Rattle.crs_waiting.specs.declared.hooks.Pick.{Pick}
use Rattle.crs_waiting.specs.Hooks.{key_with, picked_argument, picked_arguments}
use Rattle.crs_store.proofs.Parting.{none_there, none_under}
use Rattle.crs_store.proofs.scanning.candidates.may_wait.Goals as goal

pub returns-then-is_some : goal.returns-then-is_some
returns-then-is_some c = λ said.
    let e = c.args.event in
    let args = c.args.entry.now.args in
    let lone = c.if-not-is_lone.ensures in
    let having : c.key_of_first-then-is_some.result ≡ key_with e (record { first = picked_argument c.args.hook.now.first args; second = None; third = None }) = c.key_of_first-then-is_some.ensures ∙ ap (λ (s : Option Sym). key_with e (record { first = s; second = None; third = None })) c.argument_in-symbol.ensures in
    none_under c.args.waiting.now (picked_arguments c.args.hook.now args) e
    (ap (λ (o : Option Pick). picked_argument o args) (lone.second refl)) (ap (λ (o : Option Pick). picked_argument o args) (lone.third refl))
    (subst (λ (k : Key). bucket_of c.args.waiting.now k ≡ []) c.key_of_first.ensures (c.if-has_some.ensures refl))
    (inr (subst (λ (k : Key). bucket_of c.args.waiting.now k ≡ []) having (c.has_some-then-is_some.ensures said)))

pub returns-else-is_some : goal.returns-else-is_some
returns-else-is_some c = λ said.
    let e = c.args.event in
    let args = c.args.entry.now.args in
    let lone = c.if-not-is_lone.ensures in
    none_under c.args.waiting.now (picked_arguments c.args.hook.now args) e
    (ap (λ (o : Option Pick). picked_argument o args) (lone.second refl)) (ap (λ (o : Option Pick). picked_argument o args) (lone.third refl))
    (subst (λ (k : Key). bucket_of c.args.waiting.now k ≡ []) c.key_of_first.ensures (c.if-has_some.ensures refl))
    (inl (sym c.argument_in-symbol.ensures ∙ none_there c.argument_in-symbol.result (sym (c.if-is_some.ensures {u = tt}))))
