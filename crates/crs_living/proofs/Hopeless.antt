-- What is hopeless isn't wanted.
use Rattle.std.proofs.Common.{◌≡◌, ℕ, zero, suc, ◌≤◌, ◌<◌, Bool, List, [], ◌∷◌, length, refl, sym, ap, subst, ◌∙◌, inl, inr, arith}
use Rattle.std.specs.Prelude.{ℤ, pos, ◌≤ℤ◌, ◌<ℤ◌, false, Option, Some, None, IfSome, is_some, slice_get}
use Rattle.std.proofs.lemmas.Int.{ints}
use Rattle.std.specs.List.{AllByRecursion}
use Rattle.crs_stn.specs.Bound.{Agrees}
use Rattle.crs_stn.specs.DateWindow.{IsLatest}
use Rattle.crs_base.specs.declared.symbols.Sym.{Sym}
use Rattle.crs_base.specs.Words.{IsIn}
use Rattle.crs_base.specs.Entry.{Entry}
use Rattle.crs_model.specs.declared.plan.Plan.{Plan}
use Rattle.crs_model.specs.Models.{EventDef}
use Rattle.crs_model.specs.Matching.{PatternIs}
use Rattle.crs_model.specs.Partial.{Partial, at, IsAwaited, dates_of}
use Rattle.crs_model.specs.Plans.{chronicle, IsProper}
use Rattle.crs_model.specs.SeenModels.{event_of}
use Rattle.std.proofs.lemmas.List.{length-map}
use Rattle.crs_base.proofs.Words.{in_from_each}
use Rattle.crs_model.proofs.Options.{of_some, some_if, cases_of}
use Rattle.crs_model.proofs.Parts.{agrees_part, agrees_at}
use Rattle.crs_instance.specs.Instances.{InstanceState, IsOf, window_at}
use Rattle.crs_living.specs.Ahead.{MayBecome, AreAhead, IsHopeless, MayGo}
use Rattle.crs_focus.specs.PlanLevels.{levels_in}

pub item_at : {A : Type 0} (xs : List A) (k : ℕ) → k < length xs → (x : A) × (slice_get xs k ≡ Some x)
item_at [] k l = absurd (omega arith)
item_at (x ∷ xs) zero l = (x, refl)
item_at (x ∷ xs) (suc k) l = item_at xs k (omega arith)

too_soon : (t last : ℤ) (beyond h : ℕ) → t ≤ℤ last → last <ℤ pos beyond → beyond ≤ h → pos h ≤ℤ t → ⊥
too_soon t last beyond h a b c d = omega (arith, ints)

too_late : (t last : ℤ) (d : ℕ) → t ≤ℤ last → last <ℤ pos d → t ≡ pos d → ⊥
too_late t last d a b e = omega (arith, ints)

too_far : (t last : ℤ) (beyond d : ℕ) → t ≤ℤ last → last <ℤ pos beyond → beyond ≤ d → t ≡ pos d → ⊥
too_far t last beyond d a b c e = omega (arith, ints)

-- none of the entries has the name and isn't dated after the date
abbrev pub AllMiss : Sym → ℤ → List (Entry Sym) → Type 0
AllMiss name last xs = AllByRecursion (λ x. x.name ≡ name → last <ℤ pos x.date) xs

-- without focus each unbound event is awaited
unbound_awaited : (plan : Plan) (a : Partial Sym) (e : ℕ) → e < length a → at a e ≡ None → IsAwaited (levels_in plan false) a e
unbound_awaited plan a e l n = record { within = l; unbound = n; least = λ f m k. omega arith }

module _ (plan : Plan) (proper : IsProper plan) (pool entries later ahead : List (Entry Sym)) (beyond h : ℕ) (i : InstanceState) (coming : AreAhead ahead beyond later h) (k : IsHopeless plan ahead beyond i) (w : MayBecome (chronicle plan) (levels_in plan false) pool entries later h i.partial) where
  e : ℕ
  e = k.event

  t : ℕ → ℤ
  t = w.fine.dates.0

  agrees : Agrees (dates_of w.grown) w.fine.dates.0
  agrees = w.fine.dates.1

  in_time : w.fine.dates.0 k.event ≤ℤ k.last
  in_time =
      let point : k.event < plan.network.points = (let a = k.of.len in let b = proper.points in let c = k.within in omega arith) in
      let latest : IsLatest plan.chronicle.bounds (dates_of i.partial) k.event (Some k.last) = subst (IsLatest plan.chronicle.bounds (dates_of i.partial) k.event) k.is_last (k.of.most k.event point) in
      latest.0 w.fine.dates.0 (agrees_part i.partial w.grown w.fine.dates.0 w.has agrees) w.fine.dates.2

  hopeless_grown : ⊥
  hopeless_grown = elim (cases_of (at w.grown k.event)) [
    | inl none ↦
        let inside : k.event < length w.grown = (let a = w.fine.partial.len in let b = k.of.len in let c = k.within in let d = same_events in omega arith) in too_soon (w.fine.dates.0 k.event) k.last beyond h in_time k.early coming.within (w.fine.dates.3 k.event (unbound_awaited plan w.grown k.event inside none))
    | inr some ↦
        let y = some.0 in
        let dated : w.fine.dates.0 k.event ≡ pos (some.0).date = agrees_at w.grown w.fine.dates.0 k.event some.0 agrees some.1 in
        elim (coming.each y (w.added k.event y (unbound_awaited plan i.partial k.event k.within k.unbound) some.1)) [
          | inr far ↦ too_far (w.fine.dates.0 k.event) k.last beyond (some.0).date in_time k.early far dated
          | inl here ↦
              let v = item_at (chronicle plan).events k.event event_there in
              let equal = of_some (slice_get (chronicle plan).events k.event) v.0 _ v.1 (w.fine.partial.binding.equal k.event) in
              let named = (of_some (at w.grown k.event) y (λ z. PatternIs w.fine.look (v.0).pattern z) some.1 equal).name in
              too_late (w.fine.dates.0 k.event) k.last (some.0).date in_time (of_some (slice_get (chronicle plan).events k.event) v.0 _ v.1 (k.none y here) named) dated
        ]
  ]
    where
      same_events : length (chronicle plan).events ≡ length plan.chronicle.events
      same_events = length-map plan.chronicle.events event_of

      event_there : k.event < length (chronicle plan).events
      event_there = let a = k.of.len in let b = k.within in let c = same_events in omega arith

pub hopeless_unwanted : (plan : Plan) → IsProper plan → (focus : Bool) (pool entries later ahead : List (Entry Sym)) (beyond h : ℕ) (i : InstanceState) → AreAhead ahead beyond later h → MayGo plan focus ahead beyond i → MayBecome (chronicle plan) (levels_in plan focus) pool entries later h i.partial → ⊥
hopeless_unwanted plan proper focus pool entries later ahead beyond h i coming may w = hopeless_grown plan proper pool entries later ahead beyond h i coming may.1 (subst (λ (b : Bool). MayBecome (chronicle plan) (levels_in plan b) pool entries later h i.partial) may.0 w)

-- ---- how it is found

none_bound : (o : Option (Entry Sym)) → is_some o ≡ false → o ≡ None
none_bound None e = refl
none_bound (Some x) e = absurd cc

all_named : (events : List (EventDef Sym)) (event : ℕ) (v : EventDef Sym) → slice_get events event ≡ Some v → (last : ℤ) (ahead : List (Entry Sym)) → AllMiss v.pattern.name last ahead
    → (x : Entry Sym) → IsIn x ahead → IfSome (slice_get events event) (λ u. u.pattern.name ≡ x.name → last <ℤ pos x.date)
all_named events event v is last ahead all x i = some_if (slice_get events event) _ (λ u at_u named.
    let q : Some u ≡ Some v = sym at_u ∙ is in
    let s : u ≡ v = cc in
    in_from_each (λ z. z.name ≡ v.pattern.name → last <ℤ pos z.date) ahead all x i (sym named ∙ ap (λ (t : EventDef Sym). t.pattern.name) s))

pub found_hopeless : (plan : Plan) (i : InstanceState) → IsOf plan i → (event : ℕ) → event < length plan.chronicle.events → (bound : Bool) → bound ≡ is_some (at i.partial event) → bound ≡ false → (last : ℤ) → (window_at i.windows event).most ≡ Some last → (beyond : ℕ) → last <ℤ pos beyond → (ahead : List (Entry Sym)) (name : Sym)
    → ((v : EventDef Sym) → slice_get (chronicle plan).events event ≡ Some v → v.pattern.name ≡ name) → AllMiss name last ahead → IsHopeless plan ahead beyond i
found_hopeless plan i of event l bound told free last is beyond early ahead name named all =
    let a = of.len in
    let v = item_at (chronicle plan).events event (let b = length-map plan.chronicle.events event_of in omega arith) in
    record {
      of = of;
      event = event;
      within = omega arith;
      unbound = none_bound (at i.partial event) (sym told ∙ free);
      last = last;
      is_last = is;
      early = early;
      none = all_named (chronicle plan).events event v.0 v.1 last ahead (subst (λ (n : Sym). AllMiss n last ahead) (sym (named v.0 v.1)) all);
    }
