-- When an instance is open, what stands before what is open, and what can be bound.
use Rattle.std.proofs.Common.{◌≡◌, ℕ, ◌<◌, List, length, sym, subst, ◌∙◌, arith}
use Rattle.std.specs.Prelude.{ℤ, pos, ◌≤ℤ◌, ◌↔◌, Option, Some, None, IfSome, slice_get}
use Rattle.std.proofs.lemmas.List.{length-map}
use Rattle.crs_base.specs.declared.symbols.Sym.{Sym}
use Rattle.crs_base.specs.Words.{IsIn}
use Rattle.crs_base.specs.Entry.{Entry}
use Rattle.crs_stn.specs.Bound.{Agrees, Meets}
use Rattle.crs_stn.specs.DateWindow.{IsLatest, IsSoonest}
use Rattle.crs_model.specs.declared.plan.Plan.{Plan}
use Rattle.crs_model.specs.Models.{EventDef}
use Rattle.crs_model.specs.Bindings.{look_of, Looser}
use Rattle.crs_model.specs.Partial.{Partial, at, IsPartial, IsLevelClosed, CanGoOn, EqualsAll, dates_of}
use Rattle.crs_model.specs.Plans.{chronicle, IsProper}
use Rattle.crs_model.specs.SeenModels.{event_of}
use Rattle.crs_model.specs.HasProgress.{NoneLostBy}
use Rattle.crs_model.specs.Open.{IsOpen}
use Rattle.crs_model.proofs.Options.{of_some, some_if}
use Rattle.crs_model.proofs.Least.{Extends}
use Rattle.crs_model.proofs.Parts.{at_within, agrees_part, agrees_at}
use Rattle.crs_model.proofs.Opened.{open_by_progress}
use Rattle.crs_model.proofs.Beginnings.{begins}
use Rattle.crs_instance.specs.Instances.{InstanceState, IsOf, CanBe, IsInside, progress_at, window_at}
use Rattle.crs_instance.specs.Followed.{Follows}

-- an instance whose entries are of the pool is a partial assignment over it
instance_partial : (plan : Plan) (i : InstanceState) (pool : List (Entry Sym)) → IsOf plan i
    → ((e : ℕ) (y : Entry Sym) → at i.partial e ≡ Some y → IsIn y pool)
    → IsPartial (chronicle plan) pool i.partial (look_of i.binding)
instance_partial plan i pool of given = record {
  len = of.len ∙ sym (length-map plan.chronicle.events event_of);
  given = λ e. some_if (at i.partial e) _ (λ y j. given e y j);
  distinct = of.distinct;
  binding = of.binding;
  allowed = of.allowed;
}

-- An instance over the pool, level-closed and with the progress of its windows, is open exactly where its dates can go on and no window
-- is lost as its progress tells.
pub instance_is_open : (plan : Plan) (i : InstanceState) (level : ℕ → ℕ) (pool entries : List (Entry Sym)) (n : ℕ) → IsOf plan i
    → ((e : ℕ) (y : Entry Sym) → at i.partial e ≡ Some y → IsIn y pool) → IsLevelClosed level i.partial → Follows plan entries n i
    → IsOpen (chronicle plan) level pool entries n i.partial ↔ (CanGoOn (chronicle plan) level i.partial n
    × NoneLostBy (chronicle plan) (look_of i.binding) i.partial n (λ k. (progress_at i.progress k).count) (λ k. (progress_at i.progress k).broken))
instance_is_open plan i level pool entries n of given closed follows =
    open_by_progress (chronicle plan) i.partial (look_of i.binding) level pool entries n (λ k. (progress_at i.progress k).count) (λ k. (progress_at i.progress k).broken)
    (instance_partial plan i pool of given) closed follows

-- an instance that has what another has binds what that one binds
pub more_binds : (plan : Plan) (i j : InstanceState) → IsOf plan i → IsOf plan j → Extends i.partial j.partial
    → Looser (look_of i.binding) (look_of j.binding)
more_binds plan i j oi oj part v x e = oi.binding.least (look_of j.binding) equal v x e
  where
    equal : EqualsAll (chronicle plan) i.partial (look_of j.binding)
    equal f = some_if (slice_get (chronicle plan).events f) _ (λ ev k. some_if (at i.partial f) _ (λ y l.
        of_some (at j.partial f) y _ (part f y l) (of_some (slice_get (chronicle plan).events f) ev _ k (oj.binding.equal f))))

-- dates that agree with an instance's are inside its date windows
module _ (plan : Plan) (i : InstanceState) (of : IsOf plan i) (t : ℕ → ℤ) (agrees : Agrees (dates_of i.partial) t)
    (meets : Meets plan.chronicle.bounds t) (f : ℕ) (d : ℤ) (is : t f ≡ d) where
  below : (o : Option ℤ) → IsLatest plan.chronicle.bounds (dates_of i.partial) f o → IfSome o (λ m. d ≤ℤ m)
  below None h = tt
  below (Some m) h = subst (λ (z : ℤ). z ≤ℤ m) is (h.0 t agrees meets)

  above : (o : Option ℤ) → IsSoonest plan.chronicle.bounds (dates_of i.partial) f o → IfSome o (λ m. m ≤ℤ d)
  above None h = tt
  above (Some m) h = subst (λ (z : ℤ). m ≤ℤ z) is (h.0 t agrees meets)

  inside : f < plan.network.points → IsInside (window_at i.windows f) d
  inside l = record { not_late = below (window_at i.windows f).most (of.most f l); not_soon = above (window_at i.windows f).least (of.least f l) }

-- What an open partial assignment beyond an instance binds an event to has the name of the event's pattern, and a date in the event's
-- date window in the instance.
pub candidates_fit : (plan : Plan) (i : InstanceState) (level : ℕ → ℕ) (pool entries : List (Entry Sym)) (n : ℕ) (b : Partial Sym) (f : ℕ)
    (y : Entry Sym) (def : EventDef Sym)
    → IsProper plan → IsOf plan i → Extends i.partial b → IsOpen (chronicle plan) level pool entries n b
    → slice_get (chronicle plan).events f ≡ Some def → at b f ≡ Some y → (def.pattern.name ≡ y.name) × IsInside (window_at i.windows f) (pos y.date)
candidates_fit plan i level pool entries n b f y def proper of part k is bound =
    let t = (k.dates).0 in
    let l : f < plan.network.points = (
    let m = at_within b f y bound in
    let s = k.partial.len ∙ length-map plan.chronicle.events event_of in
    let p = proper.points in omega arith
    ) in (
      (of_some (at b f) y _ bound (of_some (slice_get (chronicle plan).events f) def _ is (k.partial.binding.equal f))).name,
      inside plan i of t (agrees_part i.partial b t part (k.dates).1) (k.dates).2 f (pos y.date) (agrees_at b t f y (k.dates).1 bound) l,
    )

-- What has no more than an open partial assignment can be: where a bind finds none, nothing open lies beyond it.
pub beginnings_can_be : (plan : Plan) (level : ℕ → ℕ) (pool entries : List (Entry Sym)) (n : ℕ) (a b : Partial Sym) → Extends a b
    → length a ≡ length b
    → IsOpen (chronicle plan) level pool entries n b → CanBe plan a
beginnings_can_be plan level pool entries n a b part same k =
    let s = begins (chronicle plan) level pool entries n a b part same k in
    record { look = s.look; distinct = s.partial.distinct; binding = s.partial.binding; allowed = s.partial.allowed; dates = s.bounds }
