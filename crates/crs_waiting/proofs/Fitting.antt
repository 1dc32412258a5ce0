-- Under which keys an instance waits that an entry can come to.
use Rattle.std.proofs.Common.{◌≡◌, ◌⊎◌, ℕ, zero, suc, ◌<◌, List, [], ◌∷◌, length, refl, sym, subst, ◌∙◌, inl, inr, arith}
use Rattle.std.specs.Prelude.{pos, Option, Some, None, IsSomeAnd, slice_get}
use Rattle.std.specs.List.{AllZip, AllByRecursion}
use Rattle.crs_base.specs.declared.symbols.Sym.{Sym}
use Rattle.crs_base.specs.Entry.{Entry}
use Rattle.crs_instance.specs.Instances.{InstanceState, IsOf, CanBe, IsInside, window_at}
use Rattle.crs_instance.proofs.BindSteps.{must_be_inside}
use Rattle.crs_model.specs.declared.plan.Plan.{Plan}
use Rattle.crs_model.specs.Bindings.{look_of, Looser}
use Rattle.crs_model.specs.Matching.{Binding, TermIs, PatternIs}
use Rattle.crs_model.specs.Models.{EventDef, Term, Var}
use Rattle.crs_model.specs.Partial.{at, put, EqualsAll}
use Rattle.crs_model.specs.Plans.{chronicle, IsProper}
use Rattle.crs_model.specs.Verdicts.{TermIsBound}
use Rattle.crs_model.proofs.Options.{of_some, some_if, cases_of}
use Rattle.crs_model.proofs.Parts.{put_same, extends_put}
use Rattle.crs_waiting.specs.declared.hooks.Hook.{Hook}
use Rattle.crs_waiting.specs.declared.hooks.Pick.{Pick}
use Rattle.crs_waiting.specs.Hooks.{IsHookAt, Picks, IsHookOf, IsHookOfEvent, IsPart, picked_symbol, picked_argument, picked_symbols, picked_arguments}

-- the argument at a variable's place is its symbol
argument_is : (other : Binding Sym) (terms : List (Term Sym)) (args : List Sym) (k v : ℕ) (s : Sym) → AllZip (TermIs other) terms args → slice_get terms k ≡ Some (Var v) → other v ≡ Some s → slice_get args k ≡ Some s
argument_is other [] args k v s z e l = absurd cc
argument_is other (t ∷ terms) [] k v s z e l = absurd z
argument_is other (t ∷ terms) (y ∷ args) zero v s z e l =
    let is : t ≡ Var v = cc in
    let has : other v ≡ Some y = subst (λ (u : Term Sym). TermIs other u y) is z.0 in
    sym has ∙ l
argument_is other (t ∷ terms) (y ∷ args) (suc k) v s z e l = argument_is other terms args k v s z.1 e l

-- a picked variable is unbound, or its symbol is the entry's argument
fitting_symbol : (terms : List (Term Sym)) (args : List Sym) (look other : Binding Sym) → AllZip (TermIs other) terms args → Looser look other → (o : Option Pick) → Picks terms o → (picked_symbol o look ≡ None) ⊎ (picked_symbol o look ≡ picked_argument o args)
fitting_symbol terms args look other zip looser None k = inl refl
fitting_symbol terms args look other zip looser (Some p) k = elim (cases_of (look p.variable)) [
  | inl n ↦ inl n
  | inr s ↦ inr (s.1 ∙ sym (argument_is other terms args p.argument p.variable s.0 zip k (looser p.variable s.0 s.1)))
]

-- what is known of the hook's variables is a part of the entry's symbols
pub fitting_part : (h : Hook) (name : Sym) (terms : List (Term Sym)) (args : List Sym) (look other : Binding Sym) → IsHookOf name terms h → AllZip (TermIs other) terms args → Looser look other → IsPart (picked_symbols h look) (picked_arguments h args)
fitting_part h name terms args look other hook zip looser = record {
  first = fitting_symbol terms args look other zip looser h.first hook.first;
  second = fitting_symbol terms args look other zip looser h.second hook.second;
  third = fitting_symbol terms args look other zip looser h.third hook.third;
}

-- where the terms are bound, a picked variable has the entry's argument
bound_at : (look : Binding Sym) (terms : List (Term Sym)) (k v : ℕ) → AllByRecursion (TermIsBound look) terms → slice_get terms k ≡ Some (Var v) → look v ≡ None → ⊥
bound_at look [] k v all e n = cc
bound_at look (t ∷ terms) zero v all e n =
    let is : t ≡ Var v = cc in
    let bound : IsSomeAnd (look v) (λ _. Unit {0}) = subst (TermIsBound look) is all.0 in
    subst (λ (o : Option Sym). IsSomeAnd o (λ _. Unit {0})) n bound
bound_at look (t ∷ terms) (suc k) v all e n = bound_at look terms k v all.1 e n

bound_symbol : (terms : List (Term Sym)) (args : List Sym) (look : Binding Sym) → AllZip (TermIs look) terms args → AllByRecursion (TermIsBound look) terms → (o : Option Pick) → Picks terms o → picked_symbol o look ≡ picked_argument o args
bound_symbol terms args look zip bound None k = refl
bound_symbol terms args look zip bound (Some p) k = elim (cases_of (look p.variable)) [
  | inl n ↦ absurd (bound_at look terms p.argument p.variable bound k n)
  | inr s ↦ s.1 ∙ sym (argument_is look terms args p.argument p.variable s.0 zip k s.1)
]

-- so all of the hook's variables are known, and have the entry's symbols
pub fitting_whole : (h : Hook) (name : Sym) (terms : List (Term Sym)) (args : List Sym) (look : Binding Sym) → IsHookOf name terms h → AllZip (TermIs look) terms args → AllByRecursion (TermIsBound look) terms → picked_symbols h look ≡ picked_arguments h args
fitting_whole h name terms args look hook zip bound =
    let first = bound_symbol terms args look zip bound h.first hook.first in
    let second = bound_symbol terms args look zip bound h.second hook.second in
    let third = bound_symbol terms args look zip bound h.third hook.third in λ i. record { first = first i; second = second i; third = third i }

module _ (plan : Plan) (proper : IsProper plan) (i : InstanceState) (of : IsOf plan i) (e : ℕ) (x : Entry Sym) (inside : e < length plan.chronicle.events) (free : at i.partial e ≡ None) (can : CanBe plan (put i.partial e x)) where
  within : e < length i.partial
  within = let a = of.len in omega arith

  pub inside_window : IsInside (window_at i.windows e) (pos x.date)
  inside_window = must_be_inside plan proper i of e x inside free can.dates

  pub binding_grows : Looser (look_of i.binding) can.look
  binding_grows v s l = of.binding.least can.look equal v s l
    where
      equal : EqualsAll (chronicle plan) i.partial can.look
      equal f = some_if (slice_get (chronicle plan).events f) _ (λ ev k. some_if (at i.partial f) _ (λ y m.
          of_some (at (put i.partial e x) f) y _ (extends_put i.partial e x free f y m) (of_some (slice_get (chronicle plan).events f) ev _ k (can.binding.equal f))))

  module _ (def : EventDef Sym) (is : slice_get (chronicle plan).events e ≡ Some def) where
    pub fits : PatternIs can.look def.pattern x
    fits = of_some (at (put i.partial e x) e) x _ (put_same i.partial e x within) (of_some (slice_get (chronicle plan).events e) def _ is (can.binding.equal e))

    module _ (h : Hook) (hook : IsHookOfEvent def h) where
      named_as : h.name ≡ x.name
      named_as = hook.named ∙ fits.name

      part_as : IsPart (picked_symbols h (look_of i.binding)) (picked_arguments h x.args)
      part_as = fitting_part h def.pattern.name def.pattern.terms x.args (look_of i.binding) can.look hook fits.terms binding_grows

  -- the event has a hook of that name
  pub fits_hook : (h : Hook) → IsHookAt plan e h → (def : EventDef Sym) → slice_get (chronicle plan).events e ≡ Some def → h.name ≡ x.name
  fits_hook h hook def is = named_as def is h (of_some (slice_get (chronicle plan).events e) def _ is hook)

  -- and the instance knows a part of the entry's symbols
  pub fits_part : (h : Hook) → IsHookAt plan e h → (def : EventDef Sym) → slice_get (chronicle plan).events e ≡ Some def → IsPart (picked_symbols h (look_of i.binding)) (picked_arguments h x.args)
  fits_part h hook def is = part_as def is h (of_some (slice_get (chronicle plan).events e) def _ is hook)
