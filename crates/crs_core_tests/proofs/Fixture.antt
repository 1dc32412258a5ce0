-- The chronicle of the tests is proper.
use Rattle.std.proofs.Common.{◌≡◌, ◌⊎◌, inl, inr, ℕ, zero, suc, ◌+◌, ◌<◌, ◌≤◌, List, [], ◌∷◌, length, map, refl, sym, ap, subst, ◌∙◌, arith, false, true, true≢false, ◌||◌, IfSome, option_map}
use Rattle.std.specs.Prelude.{Option, Some, None, slice_get, ℤ, pos, neg_ℤ, ◌+ℤ◌, ◌≤ℤ◌, All}
use Rattle.std.specs.List.{AllByRecursion}
use Rattle.std.proofs.lemmas.Int.{ints}
use Rattle.std.proofs.lemmas.List.{length-map}
use Rattle.std.proofs.lemmas.List.Elements.{All-from_recursion, All-head, All-tail}
use Rattle.crs_base.specs.Words.{IsIn}
use Rattle.crs_base.specs.Entry.{Entry}
use Rattle.crs_base.specs.declared.symbols.Sym.{Sym}
use Rattle.crs_stn.specs.declared.bound.Bound.{Bound}
use Rattle.crs_stn.specs.Bound.{Keeps, Meets, IsBoundBelow, IsWithin, IsConsistent}
use Rattle.crs_stn.specs.Network.{IsMost, IsMinimal}
use Rattle.crs_stn.specs.Table.{most_of}
use Rattle.crs_model.specs.declared.pattern.Term.{Term as CodeTerm}
use Rattle.crs_model.specs.declared.plan.Plan.{Plan}
use Rattle.crs_model.specs.declared.chronicle.EventDef.{EventDef as CodeEvent}
use Rattle.crs_model.specs.declared.chronicle.VarSet.{VarSet as CodeSet}
use Rattle.crs_model.specs.declared.chronicle.Window.{Window as CodeWindow}
use Rattle.crs_model.specs.declared.chronicle.Emit.{Emit as CodeEmit}
use Rattle.crs_model.specs.Models.{Term, EventDef, Anchor, Name, Message}
use Rattle.crs_model.specs.Proper.{terms_have, change_has, pattern_has, IsNamed}
use Rattle.crs_model.specs.ProperModels.{Suits, AreShort, IsProperEvent, IsProperWindow, IsProperEmit}
use Rattle.crs_model.specs.Bindings.{TermIsBelow, PatternIsBelow}
use Rattle.crs_model.specs.Reach.{Bounds, IsZero, IsPairSpan, IsStartSpan, IsReach, IsSmallSpan}
use Rattle.crs_model.specs.Hierarchy.{IsEmitSpan, IsLag}
use Rattle.crs_model.specs.Plans.{chronicle, IsProper}
use Rattle.crs_model.specs.SeenModels.{term_of, event_of, set_of, window_of, emit_of}
use Rattle.crs_instance.specs.declared.fit.Fit.{Fit}
use Rattle.crs_instance.specs.declared.fit.Fit.TheVariants.{Yes, No}
use Rattle.crs_instance.specs.Instances.{InstanceState, IsOf, IsAnswered}
use Rattle.crs_core_tests.specs.Fixtures.{IsPlain, IsFixture, spaced}

terms_none : (v : ℕ) (ts : List CodeTerm) → ts ≡ [] → terms_have v (map term_of ts) ≡ false
terms_none v [] e = refl
terms_none v (t ∷ ts) e = absurd cc

change_none : (v : ℕ) (c : Option (CodeTerm × CodeTerm)) → c ≡ None → change_has v (option_map (λ t. (term_of t.0, term_of t.1)) c) ≡ false
change_none v None e = refl
change_none v (Some t) e = absurd cc

plain_has : (e : CodeEvent) (v : ℕ) → IsPlain e → pattern_has v (event_of e).pattern ≡ true → ⊥
plain_has e v p h =
    let a = terms_none v e.pattern.terms p.terms in
    let b = change_none v e.pattern.change p.change in
    let no : pattern_has v (event_of e).pattern ≡ false = (λ i. a i || b i) in
    true≢false (sym h ∙ no)

terms_below : (n : ℕ) (ts : List CodeTerm) → ts ≡ [] → AllByRecursion (TermIsBelow n) (map term_of ts)
terms_below n [] e = tt
terms_below n (t ∷ ts) e = absurd cc

change_below : (n : ℕ) (c : Option (CodeTerm × CodeTerm)) → c ≡ None → IfSome {T = Term Sym × Term Sym} (option_map (λ t. (term_of t.0, term_of t.1)) c) (λ c. TermIsBelow n c.0 × TermIsBelow n c.1)
change_below n None e = tt
change_below n (Some t) e = absurd cc

plain_below : (e : CodeEvent) (n : ℕ) → IsPlain e → PatternIsBelow n (event_of e).pattern
plain_below e n p = (terms_below n e.pattern.terms p.terms, change_below n e.pattern.change p.change)

never_has : (a b : CodeEvent) → IsPlain a → IsPlain b → (e v : ℕ) (def : EventDef Sym) → slice_get (map event_of (a ∷ b ∷ [])) e ≡ Some def → pattern_has v def.pattern ≡ true → ⊥
never_has a b p q zero v def is h = let s : event_of a ≡ def = cc in plain_has a v p (ap (λ (t : EventDef Sym). pattern_has v t.pattern) s ∙ h)
never_has a b p q (suc zero) v def is h = let s : event_of b ≡ def = cc in plain_has b v q (ap (λ (t : EventDef Sym). pattern_has v t.pattern) s ∙ h)
never_has a b p q (suc (suc e)) v def is h = absurd cc

-- The bounds and the reach.

module _ (least : ℕ) (low : least ≤ 255) where
  spaced_within : IsWithin 2 (spaced least)
  spaced_within = All-from_recursion (IsBoundBelow 2) (spaced least) (
    record { from_below = omega arith; to_below = omega arith; not_large = omega (arith, ints); not_small = omega (arith, ints) },
    (record { from_below = omega arith; to_below = omega arith; not_large = omega (arith, ints); not_small = omega (arith, ints) }, tt),
  )

-- what the bounds say of dates
record IsSpaced (least : ℕ) (t : ℕ → ℤ) : Type 0 where
  far : t 1 ≤ℤ (t 0 +ℤ pos 5)
  near : t 0 ≤ℤ (t 1 +ℤ neg_ℤ (pos least))

two_hold : (P : Bound → Type 0) (x y : Bound) → All P (x ∷ y ∷ []) → P x × P y
two_hold P x y h = (All-head P x (y ∷ []) h, All-head P y [] (All-tail P x (y ∷ []) h))

spaced_by : (least : ℕ) (t : ℕ → ℤ) → Meets (spaced least) t → IsSpaced least t
spaced_by least t h =
    let k = two_hold (Keeps t) (record { from = 0; to = 1; most = Some (pos 5) })
    (record { from = 1; to = 0; most = Some (neg_ℤ (pos least)) }) h in
    record { far = k.0; near = k.1 }

-- dates of the two events
dates : ℤ → ℕ → ℤ
dates d zero = pos 0
dates d (suc n) = d

spaced_met : (least : ℕ) → least ≤ 5 → Meets (spaced least) (dates (pos 5))
unfolding dates
spaced_met least l = All-from_recursion (Keeps (dates (pos 5))) (spaced least) (omega (arith, ints), (omega (arith, ints), tt))

five_later : dates (pos 5) 1 ≡ dates (pos 5) 0 +ℤ pos 5
unfolding dates
five_later = refl

-- no event comes more than 5 ticks behind another
late : (least : ℕ) (t : ℕ → ℤ) → IsSpaced least t → (p r : ℕ) → p < 2 → r < 2 → t r ≤ℤ (t p +ℤ pos 5)
late least t h zero zero a b = omega (arith, ints)
late least t h zero (suc zero) a b = h.far
late least t h (suc zero) zero a b = let n = h.near in omega (arith, ints, n)
late least t h (suc zero) (suc zero) a b = omega (arith, ints)
late least t h (suc (suc p)) r a b = absurd (omega arith)
late least t h p (suc (suc r)) a b = absurd (omega arith)

at_most : (least : ℕ) (p r : ℕ) → p < 2 → r < 2 → (d : Option ℤ) → IsMost (spaced least) p r d → Bounds (Some (pos 5)) d
at_most least p r a b None h = let k = h (pos 5) in let l = late least k.0 (spaced_by least k.0 k.1) p r a b in omega (arith, ints, k.2, l)
at_most least p r a b (Some d) h = let l = late least h.1 (spaced_by least h.1 h.2) p r a b in omega (arith, ints, h.3, l)

five_by : (least : ℕ) (t : ℕ → ℤ) → IsSpaced least t → (d : Option ℤ) → IsMost (spaced least) 0 1 d → d ≡ Some (pos 5)
five_by least t s None h = let k = h (pos 5) in let l = (spaced_by least k.0 k.1).far in absurd (omega (arith, ints, k.2, l))
five_by least t s (Some d) h =
    let five : least ≤ 5 = (let f = s.far in let n = s.near in omega (arith, ints, f, n)) in
    let up = (spaced_by least h.1 h.2).far in
    let down = h.0 (dates (pos 5)) (spaced_met least five) in
    ap Some (omega (arith, ints, h.3, up, down, five_later))

five_reach : (least : ℕ) (most : ℕ → ℕ → Option ℤ) → IsConsistent (spaced least) → IsMinimal (spaced least) 2 most
    → IsReach 2 most [] (Some (pos 5))
five_reach least most c m = record {
  one = inr (inl (
    0,
    1,
    omega arith,
    omega arith,
    sym (five_by least c.0 (spaced_by least c.0 c.1) (most 0 1) (m 0 1 (omega arith) (omega arith))),
  ));
  bounds = within;
}
  where
    within : (s : Option ℤ) → IsZero s ⊎ (IsPairSpan 2 2 most s ⊎ IsStartSpan 2 most [] s) → Bounds (Some (pos 5)) s
    within s (inl z) = subst (Bounds (Some (pos 5))) (sym z) (omega (arith, ints))
    within s (inr (inl (p, r, a, b, e))) = subst (Bounds (Some (pos 5))) (sym e) (at_most least p r a b (most p r) (m p r a b))
    within s (inr (inr k)) = absurd k.1

-- nothing is emitted
no_lag : (n : ℕ) (most : ℕ → ℕ → Option ℤ) (ends : List Anchor) → IsLag n most ends [] (Some (pos 0))
no_lag n most ends = record { one = inl refl; bounds = within }
  where
    within : (s : Option ℤ) → IsZero s ⊎ ((p : ℕ) × IsIn p [] × IsEmitSpan n most ends p s) → Bounds (Some (pos 0)) s
    within s (inl z) = subst (Bounds (Some (pos 0))) (sym z) (omega (arith, ints))
    within s (inr k) = absurd k.1

-- The declarations of the events' names.

message : Sym → Name Sym
message s = record { name = s; arity = 0; kind = Message }

module _ (p : Plan) (least : ℕ) (f : IsFixture least p.chronicle) where
  names : List (Name Sym)
  names = message f.first.pattern.name ∷ message f.second.pattern.name ∷ []

  short : AreShort names
  unfolding names message
  short = (omega arith, (omega arith, tt))

  plain_change : (c : Option (CodeTerm × CodeTerm)) → c ≡ None → Suits {S = Sym} Message (option_map (λ t. (term_of t.0, term_of t.1)) c)
  plain_change None e = tt
  plain_change (Some t) e = absurd cc

  plain_event : (e : CodeEvent) → IsPlain e → IsIn (message e.pattern.name) names → IsProperEvent names (chronicle p) (event_of e)
  unfolding message
  plain_event e h i = record {
    declared = (
      message e.pattern.name,
      record { among = i; same = refl; arity = sym (length-map e.pattern.terms term_of ∙ ap length h.terms) },
      (plain_change e.pattern.change h.change),
    );
    below = plain_below e (length p.chronicle.variables) h;
    level = h.level;
  }

pub fixture_proper : (p : Plan) (least : ℕ) → IsFixture least p.chronicle → p.network.points ≡ 2 → p.reach ≡ Some (pos 5) → p.lag ≡ Some (pos 0) → least ≤ 255
    → IsConsistent p.chronicle.bounds → IsMinimal p.chronicle.bounds 2 (most_of p.network) → IsProper p
unfolding names
fixture_proper p least f points reach lag low consistent minimal =
    let two : length p.chronicle.events ≡ 2 = ap length f.events in
    let both : length (map event_of p.chronicle.events) ≡ 2 = length-map p.chronicle.events event_of ∙ two in
    let none : length p.chronicle.free ≡ 0 = ap length f.free in
    let no_variable : length p.chronicle.variables ≡ 0 = ap length f.variables in
    let no_window : length p.chronicle.windows ≡ 0 = ap length f.windows in
    let no_emit : length p.chronicle.emits ≡ 0 = ap length f.emits in
    let few_bounds : length p.chronicle.bounds ≡ 2 = ap length f.bounds in
    let within : IsWithin 2 p.chronicle.bounds = subst (IsWithin 2) (sym f.bounds) (spaced_within least low) in
    let named : IsNamed (chronicle p) = record {
      stands = λ v l. absurd (omega (arith, no_variable));
      below = λ v e def is has. absurd (never_has f.first f.second f.plain_first f.plain_second e v def
          (ap (λ (t : List CodeEvent). slice_get (map event_of t) e) (sym f.events) ∙ is) has);
    } in
    record {
      points = omega (arith, points, two, none);
      few = omega (arith, points);
      events_some = omega (arith, two);
      events_few = omega (arith, two);
      variables_few = omega (arith, no_variable);
      within = subst (λ (n : ℕ). IsWithin n p.chronicle.bounds) (sym points) within;
      consistent = consistent;
      minimal = subst (λ (n : ℕ). IsMinimal p.chronicle.bounds n (most_of p.network)) (sym points) minimal;
      named = named;
      below = subst (λ (t : List CodeEvent). AllByRecursion (λ v. PatternIsBelow (length p.chronicle.variables) v.pattern) (map event_of t)) (sym f.events)
          (plain_below f.first (length p.chronicle.variables) f.plain_first, (plain_below f.second (length p.chronicle.variables) f.plain_second, tt));
      declared = (
        names p least f,
        short p least f,
        record {
          events_some = omega (arith, both);
          events_few = omega (arith, both);
          points_few = omega (arith, both, none);
          bounds_few = omega (arith, few_bounds);
          variables_few = omega (arith, no_variable);
          windows_few = rw length-map (omega (arith, no_window));
          emits_few = rw length-map (omega (arith, no_emit));
          within = subst (λ (n : ℕ). IsWithin n p.chronicle.bounds) (λ i. sym both i + sym none i) within;
          events = subst (λ (t : List CodeEvent). AllByRecursion (IsProperEvent (names p least f) (chronicle p)) (map event_of t))
              (sym f.events) (
                plain_event p least f f.first f.plain_first (inl refl),
                (plain_event p least f f.second f.plain_second (inr (inl refl)), tt),
              );
          named = named;
          sets = subst (λ (t : List CodeSet). AllByRecursion (λ s. s.variable < length p.chronicle.variables) (map set_of t))
              (sym f.sets) tt;
          differs = subst (AllByRecursion (λ (d : ℕ × ℕ). (d.0 < length p.chronicle.variables) × (d.1 < length p.chronicle.variables)))
              (sym f.differs) tt;
          windows = subst (λ (t : List CodeWindow). AllByRecursion (IsProperWindow (names p least f) (chronicle p)) (map window_of t))
              (sym f.windows) tt;
          emits = subst (λ (t : List CodeEmit). AllByRecursion (IsProperEmit (names p least f) (chronicle p)) (map emit_of t))
              (sym f.emits) tt;
        },
      );
      reach =
          subst (λ (n : ℕ). IsReach n (most_of p.network) (map (λ w. w.from) (map window_of p.chronicle.windows)) p.reach) (sym both)
          (subst (λ (t : List CodeWindow). IsReach 2 (most_of p.network) (map (λ w. w.from) (map window_of t)) p.reach) (sym f.windows)
          (subst (IsReach 2 (most_of p.network) []) (sym reach)
          (five_reach least (most_of p.network) (subst IsConsistent f.bounds consistent)
          (subst (λ bs. IsMinimal bs 2 (most_of p.network)) f.bounds minimal))));
      small = subst IsSmallSpan (sym reach) (omega (arith, ints));
      lag =
          subst (λ (t : List CodeEmit). IsLag (length (map event_of p.chronicle.events)) (most_of p.network) (map (λ w. w.to) (map window_of p.chronicle.windows)) (map (λ e. e.event) (map emit_of t)) p.lag) (sym f.emits)
          (subst (IsLag (length (map event_of p.chronicle.events)) (most_of p.network) (map (λ w. w.to) (map window_of p.chronicle.windows)) []) (sym lag)
          (no_lag (length (map event_of p.chronicle.events)) (most_of p.network) (map (λ w. w.to) (map window_of p.chronicle.windows))));
      quick = subst IsSmallSpan (sym lag) (omega (arith, ints));
    }

-- whatever a bind answers, the instance is one of the plan
pub answered_of : (plan : Plan) (old new : InstanceState) (e : ℕ) (x : Entry Sym) (fit : Fit) → IsOf plan old → IsAnswered plan old e x new fit → IsOf plan new
answered_of plan old new e x Yes of h = h.0
answered_of plan old new e x No of h = subst (IsOf plan) (sym h.1) of
