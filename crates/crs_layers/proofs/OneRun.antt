-- Lines bring one thing: a run over strata is decided.
use Rattle.std.proofs.Common.{◌≡◌, ◌∙◌, ℕ, suc, List, [], ◌∷◌, ◌++◌, map, sym, ap, subst}
use Rattle.std.specs.Cmp.{IsTotalOrder}
use Rattle.std.specs.List.{flat_map}
use Rattle.std.specs.declared.cmp.Ordering.{Ordering}
use Rattle.std.proofs.lemmas.Cmp.{on_total, lists_total}
use Rattle.crs_base.proofs.KeyOrder.{entry_total}
use Rattle.crs_base.proofs.Words.{in_from_each}
use Rattle.crs_model.specs.Models.{Chronicle}
use Rattle.crs_model.specs.Order.{Lists, assignment_cmp}
use Rattle.crs_model.specs.Scopes.{Scope, IsNewIn}
use Rattle.crs_base.proofs.Unique.{same_members}
use Rattle.crs_log.specs.Reading.{Given, number_of}
use Rattle.crs_log.specs.Recognitions.{View, scope_in as scope_of_view}
use Rattle.crs_log.specs.Run as run
use Rattle.crs_log.specs.Run.{Outcome, Passed, Refused, Accepted, Marked}
use Rattle.crs_log.specs.Trace.{Answer, answer_of}
use Rattle.crs_log.proofs.Walks.{one_walk}
use Rattle.crs_layers.specs.Strata.{Placed, Stratum, gives, Give, after_mark, of_stratum, scope_in, IsMarkFrom}
use Rattle.crs_layers.specs.StrataViews.{view_at}
use Rattle.crs_layers.specs.StrataAnswers.{AreNew, AreAnswers}
use Rattle.crs_layers.specs.Laws.{RunsAreOne}
use Rattle.crs_layers.specs.Runs.{Setting, State, Effect, LogEntry, IsAfter, IsEffect, IsStep, IsRun, is_full, some_flooded, views_of, after_line}

same_list : {A : Type 0} {R : A → A → Ordering} (total : IsTotalOrder R) (P : A → Type 0) (xs ys : List A) → Lists R P xs → Lists R P ys → xs ≡ ys
same_list total P xs ys a b = same_members total xs ys a.ascending b.ascending (λ z i. b.all z (in_from_each P xs a.each z i)) (λ z i. a.all z (in_from_each P ys b.each z i))

assignments_total : IsTotalOrder (assignment_cmp {S = List ℕ})
assignments_total = on_total (λ a. a.entries) (lists_total entry_total)

one_give : (text_of : List ℕ → List ℕ) (cs : List (Chronicle (List ℕ))) (was now : Chronicle (List ℕ) → Scope (List ℕ)) (a b : List LogEntry) → Give text_of cs was now a → Give text_of cs was now b → a ≡ b
one_give text_of [] was now a b x y = x ∙ sym y
one_give text_of (c ∷ cs) was now a b x y =
    let new : x.0 ≡ y.0 = same_list assignments_total (IsNewIn c (was c) (now c)) x.0 y.0 x.2 y.2 in
    let rest : x.1 ≡ y.1 = one_give text_of cs was now x.1 y.1 x.3 y.3 in
    x.4 ∙ (λ i. flat_map (gives text_of c) (new i) ++ rest i) ∙ sym y.4

one_mark : (text_of : List ℕ → List ℕ) (cs : List (Placed (List ℕ))) (limit : ℕ) (g h : ℕ → ℕ) (j : ℕ) (given : List LogEntry) (olds news others : List (Stratum (List ℕ))) (all every : List (List LogEntry))
    → IsMarkFrom text_of cs limit g h j given olds news all → IsMarkFrom text_of cs limit g h j given olds others every → (news ≡ others) × (all ≡ every)
one_mark text_of cs limit g h j given [] news others all every x y = (x.0 ∙ sym y.0, x.1 ∙ sym y.1)
one_mark text_of cs limit g h j given (old ∷ olds) news others all every x y =
    let more : x.2 ≡ y.2 = one_give text_of (of_stratum j cs) (scope_in old (g j)) (scope_in (after_mark limit old given) (h j)) x.2 y.2 x.5 y.5 in
    let rest = one_mark text_of cs limit g h (suc j) (given ++ x.2) olds x.0 y.0 x.1 y.1 x.6
    (subst (λ (m : List LogEntry). IsMarkFrom text_of cs limit g h (suc j) (given ++ m) olds y.0 y.1) (sym more) y.6) in (
      x.3 ∙ ap (λ (ss : List (Stratum (List ℕ))). after_mark limit old given ∷ ss) rest.0 ∙ sym y.3,
      x.4 ∙ ap (λ (gs : List (List LogEntry)). given ∷ gs) rest.1 ∙ sym y.4,
    )

one_after : (c : Setting) (s : State) (t : run.State) (o : Outcome) (a b : List (Stratum (List ℕ))) (g k : List (List LogEntry)) → IsAfter c s t o a g → IsAfter c s t o b k → (a ≡ b) × (g ≡ k)
one_after c s t Passed a b g k x y = (x.0 ∙ sym y.0, x.1 ∙ sym y.1)
one_after c s t (Refused fault) a b g k x y = (x.0 ∙ sym y.0, x.1 ∙ sym y.1)
one_after c s t (Accepted e) a b g k x y = (x.0 ∙ sym y.0, x.1 ∙ sym y.1)
one_after c s t (Marked mark) a b g k x y = one_mark (λ x. x) c.placed c.log.entries _ _ 0 [] s.strata a b g k x y

one_new : (k : ℕ) (ps : List (Placed (List ℕ))) (was now : List View) (a b : List Answer) → AreNew k ps was now a → AreNew k ps was now b → a ≡ b
one_new k [] was now a b x y = x ∙ sym y
one_new k (p ∷ ps) was now a b x y =
    let new : x.0 ≡ y.0 = same_list assignments_total (IsNewIn p.chronicle (scope_of_view p.chronicle (view_at was p.stratum)) (scope_of_view p.chronicle (view_at now p.stratum))) x.0 y.0 x.2 y.2 in
    let rest : x.1 ≡ y.1 = one_new (suc k) ps was now x.1 y.1 x.3 y.3 in
    x.4 ∙ (λ i. map (answer_of k p.chronicle) (new i) ++ rest i) ∙ sym y.4

one_answer : (ps : List (Placed (List ℕ))) (was now : List View) (o : Outcome) (a b : List Answer) → AreAnswers ps was now o a → AreAnswers ps was now o b → a ≡ b
one_answer ps was now Passed a b x y = x ∙ sym y
one_answer ps was now (Refused fault) a b x y = x ∙ sym y
one_answer ps was now (Accepted entry) a b x y = x ∙ sym y
one_answer ps was now (Marked mark) a b x y = one_new 0 ps was now a b x y

module _ (c : Setting) where
  one_effect : (s : State) (n : ℕ) (after : run.State × Outcome) (e d : Effect) (m k : State) → IsEffect c s n after e m → IsEffect c s n after d k → (e ≡ d) × (m ≡ k)
  one_effect s n after e d m k h j =
      let same : ◌≡◌ {A = run.State × Outcome} (m.log, e.outcome) (k.log, d.outcome) = sym h.log ∙ j.log in
      let log : m.log ≡ k.log = ap (λ (a : run.State × Outcome). a.0) same in
      let outcome : e.outcome ≡ d.outcome = ap (λ (a : run.State × Outcome). a.1) same in
      let there = subst (λ (l : run.State). IsAfter c s l e.outcome k.strata d.given) (sym log) (subst (λ (o : Outcome). IsAfter c s k.log o k.strata d.given) (sym outcome) j.strata) in
      let after_is = one_after c s m.log e.outcome m.strata k.strata e.given d.given h.strata there in
      let next : m ≡ k = (λ i. record { log = log i; strata = after_is.0 i }) in
      let number : e.number ≡ d.number = h.number ∙ sym j.number in
      let flood : e.flood ≡ d.flood = h.flood ∙ ap (some_flooded c.log.entries s.strata) after_is.1 ∙ sym j.flood in
      let was : e.was ≡ d.was = h.was ∙ sym j.was in
      let now : e.now ≡ d.now = h.now ∙ ap (views_of c) next ∙ sym j.now in
      let other : AreAnswers c.placed e.was e.now e.outcome d.answers =
      subst (λ (v : List View). AreAnswers c.placed v e.now e.outcome d.answers) (sym was)
      (subst (λ (v : List View). AreAnswers c.placed d.was v e.outcome d.answers) (sym now)
      (subst (λ (o : Outcome). AreAnswers c.placed d.was d.now o d.answers) (sym outcome) j.answers)) in
      let answers : e.answers ≡ d.answers = one_answer c.placed e.was e.now e.outcome e.answers d.answers h.answers other in (
        (λ i. record { number = number i; outcome = outcome i; given = after_is.1 i; flood = flood i; was = was i; now = now i; answers = answers i }),
        next,
      )

  one_step : (s : State) (g : Given) (e d : Effect) (m n : State) → IsStep c s g e m → IsStep c s g d n → (e ≡ d) × (m ≡ n)
  one_step s g e d m n h k = one_effect s (number_of g) (after_line c.log (is_full c.log.entries s.strata) s.log g) e d m n h k

  pub one_run : (s : State) (gs : List Given) (es ds : List Effect) (m n : State) → IsRun c s gs es m → IsRun c s gs ds n → (es ≡ ds) × (m ≡ n)
  one_run s gs es ds m n h k = one_walk (IsStep c) one_step s gs es ds m n h k

pub runs_are_one : RunsAreOne
runs_are_one c s lines es ds t u h k = one_run c s lines es ds t u h k
