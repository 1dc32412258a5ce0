-- The answers of a bind.
use Rattle.std.proofs.Common.{◌≡◌, ◌≢◌, ℕ, zero, suc, ◌<◌, ◌+◌, List, [], ◌∷◌, length, map, refl, sym, ap, subst, ◌∙◌, arith}
use Rattle.std.specs.Prelude.{ℤ, pos, Option, Some, None, option_map, IfSome, IsSomeAnd, slice_get, slice_index_or, Bool, true, false, IsTrue, ◌↔◌, replicate}
use Rattle.std.specs.List.{AllByRecursion}
use Rattle.std.proofs.lemmas.List.{length-replicate, length-map}
use Rattle.crs_base.specs.declared.symbols.Sym.{Sym}
use Rattle.crs_stn.specs.Table.{most_of}
use Rattle.crs_stn.specs.DateWindow.{least_of, after, greatest_of, before, IsLatest, IsSoonest}
use Rattle.crs_stn.proofs.Soonest.{IsSoonest-soonest}
use Rattle.crs_stn.proofs.DateWindow.{IsLatest-latest}
use Rattle.crs_model.specs.declared.plan.Plan.{Plan}
use Rattle.crs_model.specs.declared.chronicle.EventDef.{EventDef as CodeEvent}
use Rattle.crs_model.specs.declared.date_window.DateWindow.{DateWindow}
use Rattle.crs_model.specs.declared.progress.Progress.{Progress}
use Rattle.crs_base.specs.Entry.{Entry}
use Rattle.crs_model.specs.Models.{EventDef}
use Rattle.crs_model.specs.Partial.{Partial, at, put, dates_of}
use Rattle.crs_model.specs.Bindings.{look_of, PatternIsBelow}
use Rattle.crs_model.specs.Plans.{chronicle, IsProper}
use Rattle.crs_model.specs.SeenModels.{event_of, pattern_of}
use Rattle.crs_model.proofs.Options.{some_if, none_if}
use Rattle.crs_base.proofs.Words.{each_from_in}
use Rattle.crs_instance.specs.Instances.{InstanceState, IsOf, IsInside, CanBe, window_at, no_window, no_progress, IsBoundBy}
use Rattle.crs_instance.specs.declared.span.Span.{Span}
use Rattle.crs_instance.specs.Spans.{window_of, windows_of}
use Rattle.crs_instance.proofs.SpanSays.{window_from}
use Rattle.crs_instance.specs.Narrowed.{IsNarrowed}
use Rattle.crs_instance.proofs.BindSteps.{bound_now, not_matched, not_inside, not_twice}

-- an instance of these parts
abbrev pub the_state : Partial Sym → List (Option Sym) → List DateWindow → List Progress → InstanceState
the_state a b ws ps = record { partial = a; binding = b; windows = ws; progress = ps }

pub event_at : (evs : List CodeEvent) (e : ℕ) (d : CodeEvent) → e < length evs → slice_get (map event_of evs) e ≡ Some (event_of (slice_index_or evs e d))
event_at [] e d l = absurd (omega arith)
event_at (v ∷ evs) zero d l = refl
event_at (v ∷ evs) (suc e) d l = event_at evs e d (omega arith)

pub event_as : (evs all : List CodeEvent) (e : ℕ) (d : CodeEvent) → evs ≡ all → e < length all → slice_get (map event_of all) e ≡ Some (event_of (slice_index_or evs e d))
event_as evs all e d s l = rw s (event_at all e d l)

pub pattern_at : (n m : ℕ) (evs : List CodeEvent) (e : ℕ) (d : CodeEvent) → m ≡ n → e < length evs → AllByRecursion (λ v. PatternIsBelow n v.pattern) (map event_of evs) → PatternIsBelow m (pattern_of (slice_index_or evs e d).pattern)
pattern_at n m [] e d s l h = absurd (omega arith)
pattern_at n m (v ∷ evs) zero d s l h = subst (λ (k : ℕ). PatternIsBelow k (pattern_of v.pattern)) (sym s) h.0
pattern_at n m (v ∷ evs) (suc e) d s l h = pattern_at n m evs e d s (omega arith) h.1

pub pattern_as : (n m : ℕ) (evs all : List CodeEvent) (e : ℕ) (d : CodeEvent) → evs ≡ all → m ≡ n → e < length all → AllByRecursion (λ v. PatternIsBelow n v.pattern) (map event_of all) → PatternIsBelow m (pattern_of (slice_index_or evs e d).pattern)
pattern_as n m evs all e d s q l h = rw s (pattern_at n m all e d q l h)

module _ (plan : Plan) (proper : IsProper plan) (i j : InstanceState) (same : i ≡ j) (of : IsOf plan j) (e : ℕ) (x : Entry Sym) (inside : e < length plan.chronicle.events) (free : at j.partial e ≡ None) where
  of_seen : IsOf plan i
  of_seen = subst (λ (s : InstanceState). IsOf plan s) (sym same) of

  free_seen : at i.partial e ≡ None
  free_seen = ap (λ (s : InstanceState). at s.partial e) same ∙ free

  never_then : (CanBe plan (put i.partial e x) → ⊥) → CanBe plan (put j.partial e x) → ⊥
  never_then n = subst (λ (s : InstanceState). CanBe plan (put s.partial e x) → ⊥) same n

  pub answer_twice : ((f : ℕ) × IsSomeAnd (at i.partial f) (λ y. y.arrival ≡ x.arrival)) → CanBe plan (put j.partial e x) → ⊥
  answer_twice h = never_then (not_twice plan proper i of_seen e x inside free_seen h.0 h.1)

  pub answer_unmatched : (def : EventDef Sym) → slice_get (chronicle plan).events e ≡ Some def → (o : Option (List (Option Sym))) → o ≡ None → IsBoundBy (chronicle plan) def.pattern i.binding x o → CanBe plan (put j.partial e x) → ⊥
  answer_unmatched def is o s h = never_then (not_matched plan proper i of_seen e x inside free_seen def is (subst (λ (t : Option (List (Option Sym))). IsBoundBy (chronicle plan) def.pattern i.binding x t) s h))

  pub answer_outside : (b : Bool) → (IsTrue b ↔ IsInside (window_at i.windows e) (pos x.date)) → b ≡ false → CanBe plan (put j.partial e x) → ⊥
  answer_outside b says s = never_then (not_inside plan proper i of_seen e x inside free_seen (λ w. let t = says.1 w in absurd cc))

  pub answer_yes : (def : EventDef Sym) → slice_get (chronicle plan).events e ≡ Some def → (o : Option (List (Option Sym))) (b : List (Option Sym)) → o ≡ Some b → IsBoundBy (chronicle plan) def.pattern i.binding x o → ((f : ℕ) → IfSome (at i.partial f) (λ y. y.arrival ≢ x.arrival)) →
      (t : Bool) → (IsTrue t ↔ IsInside (window_at i.windows e) (pos x.date)) → t ≡ true → (ws : List DateWindow) → IsNarrowed plan.network.points (most_of plan.network) e (pos x.date) i.windows ws →
      IsOf plan (record { partial = put j.partial e x; binding = b; windows = ws; progress = j.progress })
  answer_yes def is o b s h absent t says holds ws narrowed =
      let k : IsBoundBy (chronicle plan) def.pattern i.binding x (Some b) = subst (λ (t : Option (List (Option Sym))). IsBoundBy (chronicle plan) def.pattern i.binding x t) s h in
      subst (λ (s : InstanceState). IsOf plan (record { partial = put s.partial e x; binding = b; windows = ws; progress = s.progress })) same
      (bound_now plan proper i of_seen e x inside free_seen def is b k.0 ws k.2 k.1 absent (says.0 holds) narrowed)

-- ---- nothing bound

pub get-replicate : {A : Type 0} (n k : ℕ) (x : A) → slice_index_or (replicate n x) k x ≡ x
get-replicate zero k x = refl
get-replicate (suc n) zero x = refl
get-replicate (suc n) (suc k) x = get-replicate n k x

pub least_none : (f : ℕ → Option ℤ) (n : ℕ) → ((p : ℕ) → f p ≡ None) → least_of f n ≡ None
least_none f zero h = refl
least_none f (suc n) h = rw (h n) (least_none f n h)

greatest_none : (f : ℕ → Option ℤ) (n : ℕ) → ((p : ℕ) → f p ≡ None) → greatest_of f n ≡ None
greatest_none f zero h = refl
greatest_none f (suc n) h = rw (h n) (greatest_none f n h)

pub root_of : (plan : Plan) (proper : IsProper plan) (a : Partial Sym) (b : List (Option Sym)) (ws : List DateWindow) (ps : List Progress) →
    a ≡ replicate (length plan.chronicle.events) None → b ≡ replicate (length plan.chronicle.variables) None → ws ≡ replicate (length plan.chronicle.events + length plan.chronicle.free) no_window → ps ≡ replicate (length plan.chronicle.windows) no_progress →
    IsOf plan (record { partial = a; binding = b; windows = ws; progress = ps })
root_of plan proper a b ws ps ea eb ew ep =
    let none : Option (Entry Sym) = None in
    let no_symbol : Option Sym = None in
    let free : (f : ℕ) → at a f ≡ None = (λ f. ap (λ (t : Partial Sym). at t f) ea ∙ get-replicate (length plan.chronicle.events) f none) in
    let unbound : (v : ℕ) → look_of b v ≡ None = (λ v. ap (λ (t : List (Option Sym)). look_of t v) eb ∙ get-replicate (length plan.chronicle.variables) v no_symbol) in
    let dateless : (p : ℕ) → dates_of a p ≡ None = (λ p. ap (λ (o : Option (Entry Sym)). option_map (λ e. pos e.date) o) (free p)) in
    let window : (r : ℕ) → window_at ws r ≡ no_window = (λ r. ap (λ (t : List DateWindow). window_at t r) ew ∙ get-replicate (length plan.chronicle.events + length plan.chronicle.free) r no_window) in
    record {
      len = ap length ea ∙ length-replicate (length plan.chronicle.events) none;
      distinct = λ f g q. subst (λ (o : Option (Entry Sym)). IfSome o (λ x. IfSome (at a g) (λ y. x.arrival ≢ y.arrival))) (sym (free f)) tt;
      binding = record {
        equal = λ f. some_if (slice_get (chronicle plan).events f) _ (λ ev j. none_if (at a f) _ (free f));
        least = λ other h v x q. let u = unbound v in absurd (cc);
      };
      allowed = record {
        sets = each_from_in _ (chronicle plan).sets (λ s k. none_if (look_of b s.variable) _ (unbound s.variable));
        differs = each_from_in _ (chronicle plan).differs (λ d k x q. let u = unbound d.0 in absurd (cc));
      };
      symbols = ap length eb ∙ length-replicate (length plan.chronicle.variables) no_symbol;
      dates = (proper.consistent.0, (λ p. none_if (dates_of a p) _ (dateless p)), proper.consistent.1);
      window_count = ap length ew ∙ length-replicate (length plan.chronicle.events + length plan.chronicle.free) no_window ∙ sym proper.points;
      most = λ r l.
          let is = ap (λ (w : DateWindow). w.most) (window r) ∙ sym (least_none (λ p. after (dates_of a p) (most_of plan.network p r)) plan.network.points (λ p. ap (λ (o : Option ℤ). after o (most_of plan.network p r)) (dateless p))) in
          subst (λ (o : Option ℤ). IsLatest plan.chronicle.bounds (dates_of a) r o) (sym is)
          (IsLatest-latest plan.chronicle.bounds plan.network.points (most_of plan.network) (dates_of a) proper.within proper.consistent proper.minimal (λ p. none_if (dates_of a p) _ (dateless p)) (λ p q. none_if (dates_of a p) _ (dateless p)) r l);
      least = λ r l.
          let is = ap (λ (w : DateWindow). w.least) (window r) ∙ sym (greatest_none (λ p. before (dates_of a p) (most_of plan.network r p)) plan.network.points (λ p. ap (λ (o : Option ℤ). before o (most_of plan.network r p)) (dateless p))) in
          subst (λ (o : Option ℤ). IsSoonest plan.chronicle.bounds (dates_of a) r o) (sym is)
          (IsSoonest-soonest plan.chronicle.bounds plan.network.points (most_of plan.network) (dates_of a) proper.within proper.consistent proper.minimal (λ p. none_if (dates_of a p) _ (dateless p)) (λ p q. none_if (dates_of a p) _ (dateless p)) r l);
      followed = ap length ep ∙ length-replicate (length plan.chronicle.windows) no_progress;
    }

-- what a bind and a fork make of what is known, with one link more
pub bound_as : (plan : Plan) (a new : Partial Sym) (e : ℕ) (x : Entry Sym) (b : List (Option Sym)) (ws : List DateWindow) (ps qs : List Progress) → new ≡ put a e x → qs ≡ ps
    → IsOf plan (record { partial = put a e x; binding = b; windows = ws; progress = ps })
    → IsOf plan (record { partial = new; binding = b; windows = ws; progress = qs }) × (new ≡ put a e x) × (qs ≡ ps)
bound_as plan a new e x b ws ps qs s w h = (
  subst (λ (q : List Progress). IsOf plan (record { partial = new; binding = b; windows = ws; progress = q })) (sym w)
      (subst (λ (q : Partial Sym). IsOf plan (record { partial = q; binding = b; windows = ws; progress = ps })) (sym s) h),
  s,
  w,
)

pub inside_as : (ss : List Span) (e : ℕ) (s : Span) (d : ℤ) (b : Bool) → s ≡ slice_index_or ss e s → e < length (windows_of ss) → (IsTrue b ↔ IsInside (window_of s) d) → IsTrue b ↔ IsInside (window_at (windows_of ss) e) d
inside_as ss e s d b is l h = subst (λ (v : DateWindow). IsTrue b ↔ IsInside v d) (window_from ss e s is (let n = length-map ss window_of in omega arith)) h
