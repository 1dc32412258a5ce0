-- A mark goes through one stratum: what it gives is due for those above it.
use Rattle.std.proofs.Common.{◌≡◌, ℕ, suc, ◌+◌, ◌<◌, ◌≤◌, ◌^◌, max, List, [], ◌∷◌, length, map, sym, ap, subst, arith, append-nil}
use Rattle.std.specs.Prelude.{slice_get}
use Rattle.std.specs.List.{AllByRecursion, flat_map}
use Rattle.crs_base.specs.declared.symbols.Sym.{Sym}
use Rattle.crs_base.specs.Entry.{Entry}
use Rattle.crs_base.proofs.Alls.{all_both}
use Rattle.crs_model.specs.declared.plan.Plan.{Plan}
use Rattle.crs_model.specs.declared.recognition.Mark.{Mark}
use Rattle.crs_model.specs.declared.recognition.Recognition.{Recognition}
use Rattle.crs_model.specs.Models.{Chronicle}
use Rattle.crs_model.specs.Plans.{IsProper, chronicle}
use Rattle.crs_model.specs.Renaming.{text_in, IsChronicleOf, IsEntryOf}
use Rattle.crs_engine.specs.Marks.{ListsAllNew}
use Rattle.crs_layers.specs.Strata.{Stratum, scope_in, of_stratum, after_mark, Give}
use Rattle.crs_layers.specs.LayerPlans.{placed_of, picked}
use Rattle.crs_layers.specs.Accepting.{IsSameLayer}
use Rattle.crs_layers.specs.Giving.{AreDue, given_of, IsWhole}
use Rattle.crs_layers.specs.Marks.{clock_of, horizon_for, HasMarked}
use Rattle.crs_layers.specs.Passing.{Passing, next_horizon, AreReadyFor}
use Rattle.crs_layers.specs.Standing.{HasText, IsLayerAt}
use Rattle.crs_layers.specs.declared.layer.Layer.{Layer}
use Rattle.crs_layers.proofs.Beginning.{picked_each}
use Rattle.crs_layers.proofs.Dated.{give_dated}
use Rattle.crs_layers.proofs.GiveFrom.{given_from}
use Rattle.crs_layers.proofs.Marking.{more_due}
use Rattle.crs_layers.proofs.MarkedAt.{marked_at, answered_at}
use Rattle.crs_layers.proofs.Passing.{due_all}
use Rattle.crs_layers.proofs.Regiven.{picked_chronicles}
use Rattle.crs_layers.proofs.Whole.{answer_whole, give_known}

module _ (texts : List (List ℕ)) (mark : Mark) (w : Passing) (s : Stratum Sym) (ss : List (Stratum Sym)) (l m : Layer) (ls : List Layer) (answer : List Recognition)
    (first : w.strata ≡ s ∷ ss) (r : AreReadyFor texts mark (record w { strata = s ∷ ss }) (l ∷ ls)) (same : IsSameLayer l m) (z : HasMarked mark l.engine m.engine answer) where
  abbrev text_of : Sym → List ℕ
  text_of = text_in texts

  abbrev own : List Plan
  own = picked w.stratum w.plans w.numbers

  abbrev next : ℕ
  next = next_horizon mark w w.stratum

  -- all have come by the mark
  abbrev pub come : Stratum Sym
  come = record s { marked = length s.accepted }

  lies : max (w.horizons w.stratum) (horizon_for mark (w.delay + l.behind)) ≡ next
  lies = ap (λ (n : ℕ). max (w.horizons w.stratum) (horizon_for mark (w.delay + n))) r.of.0.own_behind

  pub stands_next : IsLayerAt next (clock_of mark) w.delay come m
  stands_next = subst (λ (n : ℕ). IsLayerAt n (clock_of mark) w.delay come m) lies (marked_at mark (w.horizons w.stratum) w.last w.delay s l m answer r.at.0 same z)

  pub answers_here : ListsAllNew own 0 mark (λ p. scope_in s (w.horizons w.stratum) (chronicle p)) (λ p. scope_in come next (chronicle p)) answer
  answers_here =
      subst (λ (n : ℕ). ListsAllNew own 0 mark (λ p. scope_in s (w.horizons w.stratum) (chronicle p)) (λ p. scope_in come n (chronicle p)) answer) lies
      (subst (λ (ps : List Plan). ListsAllNew ps 0 mark (λ p. scope_in s (w.horizons w.stratum) (chronicle p)) (λ p. scope_in come (max (w.horizons w.stratum) (horizon_for mark (w.delay + l.behind))) (chronicle p)) answer) r.of.0.own_plans
      (answered_at mark (w.horizons w.stratum) w.last w.delay s l m answer r.at.0 same z))

  -- what the stratum gives those above it
  abbrev pub gift : List (Entry Sym)
  gift = flat_map (given_of text_of own) answer

  own_gift : Give text_of (map chronicle own) (scope_in s (w.horizons w.stratum)) (scope_in come next) gift
  own_gift = given_from text_of own mark (scope_in s (w.horizons w.stratum)) (scope_in come next) own 0 answer (λ k. (let sum : 0 + k ≡ k = omega arith in ap (slice_get own) sum)) answers_here

  pub gift_is : Give text_of (of_stratum w.stratum (placed_of w.plans w.numbers)) (scope_in s (w.horizons w.stratum)) (scope_in come next) gift
  gift_is = subst (λ (cs : List (Chronicle Sym)). Give text_of cs (scope_in s (w.horizons w.stratum)) (scope_in come next) gift) (picked_chronicles w.stratum w.plans w.numbers) own_gift

  own_proper : AllByRecursion IsProper own
  own_proper = picked_each IsProper w.stratum w.plans w.numbers r.proper

  own_known : AllByRecursion (λ p. IsChronicleOf (HasText texts) (chronicle p)) own
  own_known = picked_each (λ p. IsChronicleOf (HasText texts) (chronicle p)) w.stratum w.plans w.numbers r.known_plans

  pub whole : AllByRecursion (IsWhole texts) answer
  whole = answer_whole texts r.distinct come next r.known.0 (scope_in s (w.horizons w.stratum)) own 0 mark answer own_proper own_known answers_here

  pub gift_known : AllByRecursion (IsEntryOf (HasText texts)) gift
  gift_known = give_known texts r.distinct come next r.known.0 (scope_in s (w.horizons w.stratum)) text_of own gift own_proper own_known own_gift

  later : (i : ℕ) → w.horizons i ≤ next_horizon mark w i
  later i = omega arith

  -- no entry that it gives is late for the next stratum
  pub gift_due : AllByRecursion (λ e. w.horizons (suc w.stratum) ≤ e.date) gift
  gift_due =
      let nothing : come ≡ after_mark w.limit s [] = (let e = sym (append-nil s.accepted) in λ i. record { accepted = e i; marked = length (e i) }) in
      more_due text_of (placed_of w.plans w.numbers) w.limit w.horizons (next_horizon mark w) r.placed later r.behind w.stratum s [] gift r.at.0.sound tt
      (subst (λ (t : Stratum Sym). Give text_of (of_stratum w.stratum (placed_of w.plans w.numbers)) (scope_in s (w.horizons w.stratum)) (scope_in t next) gift) nothing gift_is)

  falls : (i : ℕ) → w.horizons (suc i) ≤ w.horizons i
  falls i = let b = r.behind i in omega (arith, b)

  -- nor for one above it
  pub due_above : AreDue ls gift
  due_above = due_all w.horizons falls gift w.last w.delay (suc w.stratum) ss ls r.at.1 gift
      (all_both (λ e. w.horizons (suc w.stratum) ≤ e.date) (λ e. e.date < 2 ^ 40) gift gift_due (give_dated text_of (2 ^ 40) come next r.at.0.dated (scope_in s (w.horizons w.stratum)) (map chronicle own) gift own_gift))
