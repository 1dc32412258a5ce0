-- What a layer stands for once its engine moved on to a mark, and what the engine answered.
use Rattle.std.proofs.Common.{◌≡◌, ℕ, ◌+◌, ◌<◌, ◌≤◌, max, List, ◌++◌, length, sym, ap, subst, ◌∙◌, arith}
use Rattle.std.specs.List.{AllByRecursion}
use Rattle.crs_base.specs.declared.symbols.Sym.{Sym}
use Rattle.crs_base.specs.Entry.{Entry}
use Rattle.crs_model.specs.declared.plan.Plan.{Plan}
use Rattle.crs_model.specs.declared.recognition.Mark.{Mark}
use Rattle.crs_model.specs.declared.recognition.Recognition.{Recognition}
use Rattle.crs_model.specs.Matching.{AreDistinct}
use Rattle.crs_model.specs.Open.{before}
use Rattle.crs_model.specs.Order.{arrived, in_key_order, dated_before}
use Rattle.crs_model.specs.Plans.{chronicle}
use Rattle.crs_model.specs.Scopes.{Scope, scope_of}
use Rattle.crs_engine.specs.Engines.{StandsFor, plans_of, scope_at, since}
use Rattle.crs_engine.specs.Marks.{ListsAllNew}
use Rattle.crs_layers.specs.Strata.{Stratum, scope_in}
use Rattle.crs_layers.specs.declared.layer.Layer.{Layer}
use Rattle.crs_layers.specs.Accepting.{IsSameLayer}
use Rattle.crs_layers.specs.Marks.{clock_of, horizon_for, HasMarked}
use Rattle.crs_layers.specs.Standing.{IsLayerAt}
use Rattle.crs_layers.proofs.Parting.{since_later, before_later, arrived_parts}
use Rattle.crs_layers.proofs.Splitting.{numbered_distinct}
use Rattle.crs_layers.proofs.Marking.{numbered_below}

module _ (mark : Mark) (h last delay : ℕ) (s : Stratum Sym) (l m : Layer) (answer : List Recognition) (k : IsLayerAt h last delay s l) (same : IsSameLayer l m) (z : HasMarked mark l.engine m.engine answer) where
  -- the horizon behind the mark
  abbrev pub next : ℕ
  next = max h (horizon_for mark (delay + l.behind))

  -- all have come by the mark
  abbrev pub come : Stratum Sym
  come = record s { marked = length s.accepted }

  distinct : AreDistinct s.accepted
  distinct = numbered_distinct 0 s.accepted k.sound.numbered

  up : h ≤ next
  up = omega arith

  at_next : m.engine.horizon ≡ next
  at_next = z.moved.moved ∙ (λ i. max (k.horizon i) (horizon_for mark (k.delayed i)))

  abbrev waiting_then : List (Entry Sym)
  waiting_then = in_key_order (since h s.accepted)

  abbrev settled_then : List (Entry Sym)
  settled_then = dated_before h s.accepted

  low : AllByRecursion (λ x. x.date < h) settled_then
  low = subst (λ (n : ℕ). AllByRecursion (λ x. x.date < n) settled_then) k.horizon k.stands.settled_before

  due : settled_then ++ before m.engine.horizon waiting_then ≡ dated_before next s.accepted
  due = ap (λ (n : ℕ). settled_then ++ before n waiting_then) at_next ∙ before_later h next s.accepted distinct up k.stands.in_order low

  rest : since m.engine.horizon waiting_then ≡ in_key_order (since next s.accepted)
  rest = ap (λ (n : ℕ). since n waiting_then) at_next ∙ since_later h next s.accepted distinct up

  stands_next : StandsFor m.engine (dated_before next s.accepted) (in_key_order (since next s.accepted))
  stands_next =
      subst (λ (us : List (Entry Sym)). StandsFor m.engine us (in_key_order (since next s.accepted))) due
      (subst (StandsFor m.engine (settled_then ++ before m.engine.horizon waiting_then)) rest (z.after settled_then waiting_then k.stands).stands)

  pub marked_at : IsLayerAt next (clock_of mark) delay come m
  marked_at = record {
    running = z.running;
    horizon = at_next;
    clock = z.moved.clock;
    delayed = z.moved.same_delay ∙ k.delayed ∙ ap (λ (n : ℕ). delay + n) (sym same.behind);
    sound = record { numbered = k.sound.numbered; due = λ x i n. absurd (let b = numbered_below 0 s.accepted k.sound.numbered x i in omega (arith, b, n)) };
    dated = k.dated;
    few = let a = z.moved.same_count in let b = z.moved.same_limit in let f = k.few in omega (arith, a, b, f);
    count = z.moved.same_count ∙ k.count;
    marked = z.moved.marked ∙ k.count;
    stands = stands_next;
  }

  pub answered_at : ListsAllNew (plans_of l.engine.plans) 0 mark (λ (p : Plan). scope_in s h (chronicle p)) (λ (p : Plan). scope_in come next (chronicle p)) answer
  answered_at =
      let had : arrived l.engine.marked (settled_then ++ waiting_then) ≡ in_key_order (arrived s.marked s.accepted) =
      arrived_parts l.engine.marked h s.accepted distinct k.stands.in_order ∙ ap (λ (n : ℕ). in_key_order (arrived n s.accepted)) k.marked in
      let came : arrived m.engine.marked ((settled_then ++ before m.engine.horizon waiting_then) ++ since m.engine.horizon waiting_then) ≡ in_key_order (arrived (length s.accepted) s.accepted) =
      (λ i. arrived m.engine.marked (due i ++ rest i))
      ∙ arrived_parts m.engine.marked next s.accepted distinct stands_next.in_order
      ∙ ap (λ (n : ℕ). in_key_order (arrived n s.accepted)) (z.moved.marked ∙ k.count) in
      let was : scope_at l.engine.marked settled_then waiting_then l.engine.horizon ≡ (λ (p : Plan). scope_in s h (chronicle p)) =
      (λ i q. scope_of (chronicle q) settled_then (had i) (k.horizon i)) in
      let then : scope_at m.engine.marked (settled_then ++ before m.engine.horizon waiting_then) (since m.engine.horizon waiting_then) m.engine.horizon ≡ (λ (p : Plan). scope_in come next (chronicle p)) =
      (λ i q. scope_of (chronicle q) (due i) (came i) (at_next i)) in
      subst (λ (f : Plan → Scope Sym). ListsAllNew (plans_of l.engine.plans) 0 mark f (λ (p : Plan). scope_in come next (chronicle p)) answer) was
      (subst (λ (f : Plan → Scope Sym). ListsAllNew (plans_of l.engine.plans) 0 mark (scope_at l.engine.marked settled_then waiting_then l.engine.horizon) f answer) then
      (z.after settled_then waiting_then k.stands).answers)
