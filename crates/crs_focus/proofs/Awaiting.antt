-- For which level an instance waits.
use Rattle.std.proofs.Common.{Bool, ◌≡◌, ◌≢◌, ◌+◌, List, [], ◌∷◌, ◌++◌, length-append, ℕ, zero, suc, ◌<◌, ◌≤◌, length, refl, sym, subst, inl, inr, ◌⊎◌, arith}
use Rattle.std.specs.Prelude.{true, false, is_some, Option, Some, None, IfSome, ◌↔◌, ℤ, pos, ◌≤ℤ◌}
use Rattle.std.specs.List.{list_all}
use Rattle.crs_base.specs.Entry.{Entry}
use Rattle.std.proofs.lemmas.Bool.{cases_lt}
use Rattle.crs_base.specs.declared.symbols.Sym.{Sym}
use Rattle.crs_model.specs.Partial.{Partial, at, IsAwaited}
use Rattle.crs_model.proofs.Options.{cases_of}
use Rattle.crs_model.specs.Partial.{CanGoOn}
use Rattle.crs_model.specs.Plans.{chronicle, IsProper}
use Rattle.crs_model.specs.declared.plan.Plan.{Plan}
use Rattle.crs_base.proofs.Words.{in_append, in_append_left, in_append_right, ordered_append}
use Rattle.crs_instance.specs.CurrentLevel.{IsCurrentLevel}
use Rattle.crs_instance.specs.Instances.{InstanceState, IsOf, IsDeadline}
use Rattle.crs_instance.proofs.GoesOn.{deadline_tells, whole_goes_on}
use Rattle.crs_focus.specs.PlanLevels.{levels_in, IsLastOf, AreAwaited}

module _ (level : ℕ → ℕ) (a : Partial Sym) where
  -- of the unbound events below n one has the least level, or there is none
  abbrev pub LeastBelow : ℕ → ℕ → Type 0
  LeastBelow n f = (f < n) × (at a f ≡ None) × ((e : ℕ) → e < n → at a e ≡ None → level f ≤ level e)

  abbrev pub NoneBelow : ℕ → Type 0
  NoneBelow n = (e : ℕ) → e < n → at a e ≡ None → ⊥

  least_below : (n : ℕ) → ((f : ℕ) × LeastBelow n f) ⊎ NoneBelow n
  least_below zero = inr (λ e l free. omega arith)
  least_below (suc n) = elim (cases_of (at a n)) [
    | inl free ↦ elim (least_below n) [
      | inl k ↦ elim (cases_lt (level n) (level k.0)) [
        | inl lower ↦ inl (n, (omega arith, free, λ e l u. elim (cases_lt e n) [ inl m ↦ (let q = (k.1).2 e m u in omega arith) | inr m ↦ same e (omega arith) ]))
        | inr higher ↦ inl (k.0, ((let m = (k.1).0 in omega arith), (k.1).1, λ e l u. elim (cases_lt e n) [ inl m ↦ (k.1).2 e m u | inr m ↦ (let q = same e (omega arith) in omega arith) ]))
      ]
      | inr none ↦ inl (n, (omega arith, free, λ e l u. elim (cases_lt e n) [ inl m ↦ absurd (none e m u) | inr m ↦ same e (omega arith) ]))
    ]
    | inr y ↦ elim (least_below n) [
      | inl k ↦ inl (k.0, ((let m = (k.1).0 in omega arith), (k.1).1, λ e l u. elim (cases_lt e n) [ inl m ↦ (k.1).2 e m u | inr m ↦ absurd (not_free y.0 y.1 e (omega arith) u) ]))
      | inr none ↦ inr (λ e l u. elim (cases_lt e n) [ inl m ↦ none e m u | inr m ↦ not_free y.0 y.1 e (omega arith) u ])
    ]
  ]
    where
      same : (e : ℕ) → e ≡ n → level n ≤ level e
      same e s = subst (λ (m : ℕ). level n ≤ level m) (sym s) (omega arith)

      never : (o : Option (Entry Sym)) (y : Entry Sym) → o ≡ Some y → o ≡ None → ⊥
      never o y s u = cc

      not_free : (y : Entry Sym) → at a n ≡ Some y → (e : ℕ) → e ≡ n → at a e ≡ None → ⊥
      not_free y here e s u = never (at a n) y here (subst (λ (m : ℕ). at a m ≡ None) s u)

  -- it waits for some level, or all events are bound
  pub current_or_none : ((n : ℕ) × IsCurrentLevel level a (Some n)) ⊎ IsCurrentLevel level a None
  current_or_none = elim (least_below (length a)) [
    | inl k ↦ inl (level k.0, (k.0, record { within = (k.1).0; unbound = (k.1).1; least = (k.1).2 }, refl))
    | inr none ↦ inr none
  ]

-- where all events are bound, none is awaited
pub whole_none : (level : ℕ → ℕ) (a : Partial Sym) → list_all (λ o. is_some o) a ≡ true → IsCurrentLevel level a None
whole_none level [] all e l free = omega arith
whole_none level (Some y ∷ a) all zero l free = cc
whole_none level (Some y ∷ a) all (suc e) l free = whole_none level a all e (omega arith) free
whole_none level (None ∷ a) all e l free = cc

pub whole_awaits_none : (level : ℕ → ℕ) (a : Partial Sym) → list_all (λ o. is_some o) a ≡ true → (e : ℕ) → IsAwaited level a e → ⊥
whole_awaits_none level a all e awaited = whole_none level a all e awaited.within awaited.unbound

none_whole : (level : ℕ → ℕ) (a : Partial Sym) → IsCurrentLevel level a None → list_all (λ o. is_some o) a ≡ true
none_whole level [] none = refl
none_whole level (Some y ∷ a) none = none_whole level a (λ e l free. none (suc e) (omega arith) free)
none_whole level (None ∷ a) none = absurd (none zero (omega arith) refl)

-- where levels aren't read, an event of level 0 is awaited unless all are bound
pub last_flat : (plan : Plan) (focus : Bool) → focus ≡ false → (i : InstanceState) → list_all (λ o. is_some o) i.partial ≡ false → (o : Option ℤ) → IsDeadline (levels_in plan focus) 0 i o → IsLastOf plan focus i o
last_flat plan true flat i lacks o d = cc
last_flat plan false flat i lacks o d = elim (current_or_none (levels_in plan false) i.partial) [
  | inl k ↦ inl (0, subst (λ (n : ℕ). IsCurrentLevel (levels_in plan false) i.partial (Some n)) (sym (k.1).2) k.1, d)
  | inr none ↦ absurd (two (list_all (λ o. is_some o) i.partial) (none_whole (levels_in plan false) i.partial none) lacks)
]
  where
    two : (b : Bool) → b ≡ true → b ≡ false → ⊥
    two b t f = cc

-- what the last date tells
pub last_tells : (plan : Plan) (focus : Bool) (proper : IsProper plan) (i : InstanceState) (of : IsOf plan i) (h : ℕ) (o : Option ℤ) → IsLastOf plan focus i o → CanGoOn (chronicle plan) (levels_in plan focus) i.partial h ↔ IfSome o (λ v. pos h ≤ℤ v)
last_tells plan focus proper i of h o (inl k) = deadline_tells plan proper i of (levels_in plan focus) h k.0 o k.1 k.2
last_tells plan focus proper i of h None (inr k) = (λ c. tt, λ t. whole_goes_on plan proper i of (levels_in plan focus) h k.0)
last_tells plan focus proper i of h (Some v) (inr k) = (λ c. absurd (some_none k.1), λ t. whole_goes_on plan proper i of (levels_in plan focus) h k.0)
  where
    some_none : Some v ≡ None → ⊥
    some_none e = cc

-- one more event is tried, and is among those where it is awaited
module _ (level : ℕ → ℕ) (a : Partial Sym) (n : ℕ) (events : List ℕ) (are : AreAwaited level a n events) where
  pub awaited_more : IsAwaited level a n → AreAwaited level a (n + 1) (events ++ n ∷ [])
  awaited_more w = record {
    each = λ f i. elim (in_append events (n ∷ []) f i) [ inl k ↦ are.each f k | inr k ↦ elim k [ inl s ↦ subst (IsAwaited level a) (sym s) w | inr none ↦ absurd none ] ];
    below = λ f i. elim (in_append events (n ∷ []) f i) [ inl k ↦ (let l = are.below f k in omega arith) | inr k ↦ elim k [ inl s ↦ omega (arith, s) | inr none ↦ absurd none ] ];
    all = λ f l v. elim (cases_lt f n) [ inl m ↦ in_append_left events (n ∷ []) f (are.all f m v) | inr m ↦ in_append_right events (n ∷ []) f (inl (omega arith)) ];
    apart = ordered_append (λ e f. e ≢ f) events (n ∷ []) are.apart (tt, tt) (λ e f i j s. elim j [ inl q ↦ (let l = are.below e i in omega (arith, q, s)) | inr none ↦ none ]);
    few = let k = are.few in omega (arith, length-append events (n ∷ []));
  }

  pub unawaited_more : (IsAwaited level a n → ⊥) → AreAwaited level a (n + 1) events
  unawaited_more never = record {
    each = are.each;
    below = λ f i. let l = are.below f i in omega arith;
    all = λ f l v. elim (cases_lt f n) [ inl m ↦ are.all f m v | inr m ↦ absurd (never (subst (IsAwaited level a) (omega arith) v)) ];
    apart = are.apart;
    few = let k = are.few in omega arith;
  }
