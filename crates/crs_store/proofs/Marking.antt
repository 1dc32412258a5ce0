-- A whole instance is recognised exactly where its windows are met as its progress tells.
use Rattle.std.proofs.Common.{Bool, ◌≡◌, ℕ, zero, suc, ◌<◌, List, [], ◌∷◌, length, map, refl, sym, ap, subst, ◌∙◌, inl, inr, arith, get_or, true≢false}
use Rattle.std.specs.Prelude.{ℤ, pos, Option, Some, None, slice_get, true}
use Rattle.std.specs.List.{AllZip}
use Rattle.std.proofs.lemmas.List.{length-map}
use Rattle.std.proofs.lemmas.Bool.Decides.{eqb_tells}
use Rattle.std.proofs.lemmas.Bool.{or_cases}
use Rattle.crs_base.specs.declared.symbols.Sym.{Sym}
use Rattle.crs_base.specs.Words.{IsIn}
use Rattle.crs_model.specs.declared.plan.Plan.{Plan}
use Rattle.crs_base.specs.Entry.{Entry}
use Rattle.crs_model.specs.Models.{Term, Value, Var, Any, Pattern, Window}
use Rattle.crs_model.specs.Matching.{Binding, TermIs, ChangeIs, PatternIs, Assignment}
use Rattle.crs_model.specs.Partial.{Partial, at, IsPartial}
use Rattle.crs_model.specs.Proper.{term_has, terms_have, change_has, pattern_has}
use Rattle.crs_model.specs.Plans.{chronicle, IsProper}
use Rattle.crs_model.specs.Bindings.{look_of}
use Rattle.crs_model.specs.Open.{IsRecognised, IsRecognisedWhole, whole}
use Rattle.crs_model.proofs.Options.{of_some, some_if, cases_of}
use Rattle.crs_model.proofs.Wholes.{whole_recognised, whole_assignment}
use Rattle.crs_model.proofs.Opened.{in_place, place_of, met_by}
use Rattle.crs_model.proofs.WindowLaws.{judged_by_progress}
use Rattle.crs_model.proofs.Marks.{same_values}
use Rattle.crs_model.specs.Verdicts.{IsMet, IsStretch, BodyIsBound}
use Rattle.crs_model.specs.HasProgress.{IsMetBy}
use Rattle.crs_living.specs.Windows.{IsOver}
use Rattle.crs_living.specs.JudgedWindows.{IsMetTo}
use Rattle.crs_living.proofs.Progress.{any_window, at_place}
use Rattle.crs_stn.specs.Bound.{MeetsInPart}
use Rattle.crs_model.specs.Partial.{dates_of}
use Rattle.crs_base.specs.Seen.{entry_of}
use Rattle.crs_model.specs.SeenModels.{event_of, window_of, assignment_of, given}
use Rattle.crs_model.specs.declared.recognition.Mark.{Mark}
use Rattle.crs_model.specs.declared.recognition.Recognition.{Recognition}
use Rattle.crs_store.specs.Answers.{IsRecognitionOf, IsRecognitionFrom}
use Rattle.crs_instance.specs.Instances.{InstanceState, IsOf, progress_at}

module _ {S : Type 0} (look : Binding S) (v : ℕ) where
  term_bound : (t : Term S) (y : S) → term_has v t ≡ true → TermIs look t y → (s : S) × (look v ≡ Some s)
  term_bound (Value x) y h k = absurd (true≢false (sym h))
  term_bound (Var u) y h k = elim (eqb_tells u v) [ inl s ↦ (y, ap look (sym s.1) ∙ k) | inr o ↦ absurd (true≢false (sym h ∙ o.0)) ]
  term_bound Any y h k = absurd (true≢false (sym h))

  terms_bound : (ts : List (Term S)) (ys : List S) → terms_have v ts ≡ true → AllZip (TermIs look) ts ys → (s : S) × (look v ≡ Some s)
  terms_bound [] ys h k = absurd (true≢false (sym h))
  terms_bound (t ∷ ts) [] h k = absurd k
  terms_bound (t ∷ ts) (y ∷ ys) h k = elim (or_cases (term_has v t) (terms_have v ts) h) [ inl a ↦ term_bound t y a k.0 | inr b ↦ terms_bound ts ys b k.1 ]

  change_bound : (c : Option (Term S × Term S)) (x : Option (S × S)) → change_has v c ≡ true → ChangeIs look c x → (s : S) × (look v ≡ Some s)
  change_bound None x h k = absurd (true≢false (sym h))
  change_bound (Some c) None h k = absurd k
  change_bound (Some c) (Some x) h k = elim (or_cases (term_has v c.0) (term_has v c.1) h) [ inl a ↦ term_bound c.0 x.0 a k.0 | inr b ↦ term_bound c.1 x.1 b k.1 ]

  pub pattern_bound : (p : Pattern S) (x : Entry S) → pattern_has v p ≡ true → PatternIs look p x → (s : S) × (look v ≡ Some s)
  pattern_bound p x h k = elim (or_cases (terms_have v p.terms) (change_has v p.change) h) [ inl a ↦ terms_bound p.terms x.args a k.terms | inr b ↦ change_bound p.change x.change b k.change ]

all_there : {A : Type 0} (os : List (Option A)) → ((k : ℕ) → k < length os → get_or os k None ≡ None → ⊥) → (xs : List A) × (os ≡ map Some xs)
all_there [] h = ([], refl)
all_there {A} (None ∷ os) h = absurd (h 0 (omega arith) refl)
all_there {A} (Some x ∷ os) h = let r = all_there os (λ k l. h (suc k) (omega arith)) in (x ∷ r.0, ap (λ (t : List (Option A)). Some x ∷ t) r.1)

get_there : {A : Type 0} (xs : List A) (k : ℕ) → slice_get xs k ≡ get_or (map Some xs) k None
get_there [] k = refl
get_there (x ∷ xs) zero = refl
get_there (x ∷ xs) (suc k) = get_there xs k

within_list : {A : Type 0} (xs : List A) (k : ℕ) (x : A) → slice_get xs k ≡ Some x → k < length xs
within_list [] k x h = absurd cc
within_list (y ∷ xs) zero x h = omega arith
within_list (y ∷ xs) (suc k) x h = let l = within_list xs k x h in omega arith

-- each event is bound
abbrev pub IsWhole : Partial Sym → Type 0
IsWhole a = (e : ℕ) → e < length a → at a e ≡ None → ⊥

given_all : {A : Type 0} (xs : List A) → given (map Some xs) ≡ xs
given_all [] = refl
given_all {A} (x ∷ xs) = ap (λ (t : List A). x ∷ t) (given_all xs)

module _ (plan : Plan) (focus : Bool) (proper : IsProper plan) (i : InstanceState) (of : IsOf plan i) (full : IsWhole i.partial) where
  not_both : (o : Option Sym) (y : Sym) → o ≡ Some y → o ≡ None → ⊥
  not_both o y j f = absurd cc

  bound : (v : ℕ) → v < length i.binding → get_or i.binding v None ≡ None → ⊥
  bound v l n =
      let s = proper.named.stands v (let q = of.symbols in omega arith) in
      let inside : s.0 < length i.partial = (let q = of.len in let r = within_list (chronicle plan).events s.0 s.1 s.2 in let m = length-map plan.chronicle.events event_of in omega arith) in
      elim (cases_of (at i.partial s.0)) [
        | inl free ↦ full s.0 inside free
        | inr x ↦ (let b = pattern_bound (look_of i.binding) v (s.1).pattern x.0 s.3 (of_some (at i.partial s.0) x.0 _ x.1 (of_some (slice_get (chronicle plan).events s.0) s.1 _ s.2 (of.binding.equal s.0))) in not_both (get_or i.binding v None) b.0 b.1 n)
      ]

  -- each variable has a symbol
  values : (vs : List Sym) × (i.binding ≡ map Some vs)
  values = all_there i.binding bound

  values_given : i.binding ≡ map Some (given i.binding)
  values_given = values.1 ∙ ap (map Some) (sym (given_all values.0) ∙ sym (ap given values.1))

  module _ (pool entries : List (Entry Sym)) (h : ℕ) (over : IsOver plan focus pool entries h i) where
    partial_of_it : (b : Assignment Sym) → i.partial ≡ whole b → IsPartial (chronicle plan) pool (whole b) (look_of i.binding)
    partial_of_it b is = subst (λ (t : Partial Sym). IsPartial (chronicle plan) pool t (look_of i.binding)) is (record { len = of.len ∙ sym (length-map plan.chronicle.events event_of); given = λ e. some_if (at i.partial e) _ (λ y j. over.given e y j); distinct = of.distinct; binding = of.binding; allowed = of.allowed })

    same_look : (b : Assignment Sym) → b.values ≡ given i.binding → slice_get b.values ≡ look_of i.binding
    same_look b vs = λ k v. (get_there b.values v ∙ ap (λ (t : List (Option Sym)). get_or t v None) (ap (map Some) vs ∙ sym values_given)) k

    count_of : (b : Assignment Sym) → b.values ≡ given i.binding → length b.values ≡ length (chronicle plan).variables
    count_of b vs = sym (length-map b.values Some) ∙ ap length (ap (map Some) vs ∙ sym values_given) ∙ of.symbols

    -- each window that is met as its progress tells is met
    met_of : IsMetTo plan h i (length plan.chronicle.windows) → (w : Window Sym) → IsIn w (chronicle plan).windows → IsMet (look_of i.binding) i.partial entries h w
    met_of met w k =
        let r = place_of (chronicle plan).windows w k in
        let inside : r.0 < length plan.chronicle.windows = let l = within_list (chronicle plan).windows r.0 w r.1 in let m = length-map plan.chronicle.windows window_of in omega arith in
        let m = of_some (slice_get (chronicle plan).windows r.0) w _ r.1 (met r.0 inside) in
        let q = progress_at i.progress r.0 in
        met_by (look_of i.binding) i.partial entries h w m.0 m.1 q.count q.broken m.2 m.3 (of_some (slice_get (chronicle plan).windows r.0) w _ r.1 (over.follows r.0) m.0 m.1 m.2 m.3) m.4

    recognised_with : IsMetTo plan h i (length plan.chronicle.windows) → (b : Assignment Sym) → i.partial ≡ whole b → b.values ≡ given i.binding → IsRecognised (chronicle plan) pool entries h b
    recognised_with met b is vs =
        whole_recognised (chronicle plan) pool entries h b (look_of i.binding) (partial_of_it b is) (same_look b vs) (count_of b vs)
        (subst (λ (t : Partial Sym). MeetsInPart plan.chronicle.bounds (dates_of t)) is of.dates)
        (λ w k. subst (λ (t : Partial Sym). IsMet (look_of i.binding) t entries h w) is (met_of met w k))

    abbrev the_whole : Assignment Sym
    the_whole = record { entries = (all_there i.partial full).0; values = given i.binding }

    whole_is : i.partial ≡ whole the_whole
    whole_is = (all_there i.partial full).1

    pub done_is_recognised : IsMetTo plan h i (length plan.chronicle.windows) → IsRecognisedWhole (chronicle plan) pool entries h i.partial
    done_is_recognised met = (the_whole, whole_is, recognised_with met the_whole whole_is refl)

    unwhole : (xs ys : List (Entry Sym)) → map Some xs ≡ map Some ys → xs ≡ ys
    unwhole [] [] e = refl
    unwhole [] (y ∷ ys) e = absurd cc
    unwhole (x ∷ xs) [] e = absurd cc
    unwhole (x ∷ xs) (y ∷ ys) e = let s : x ≡ y = cc in let t : map Some xs ≡ map Some ys = cc in (λ i. s i ∷ unwhole xs ys t i)

    pub recognised_is_met : IsRecognisedWhole (chronicle plan) pool entries h i.partial → IsMetTo plan h i (length plan.chronicle.windows)
    recognised_is_met rec k l =
        let w = any_window plan k l in
        let one : rec.0 ≡ the_whole = same_values (chronicle plan) proper.named pool pool rec.0 the_whole (rec.2).assignment (whole_assignment (chronicle plan) pool the_whole (look_of i.binding) (partial_of_it the_whole whole_is) (same_look the_whole refl) (count_of the_whole refl)) (unwhole (rec.0).entries the_whole.entries (sym rec.1 ∙ whole_is)) in
        let met : IsMet (slice_get the_whole.values) (whole the_whole) entries h w.0 = subst (λ (b : Assignment Sym). IsMet (slice_get b.values) (whole b) entries h w.0) one ((rec.2).windows w.0 (in_place (chronicle plan).windows k w.0 w.1)) in
        let here : IsMet (look_of i.binding) i.partial entries h w.0 = subst (λ (t : Partial Sym). IsMet (look_of i.binding) t entries h w.0) (sym whole_is) (subst (λ (look : Binding Sym). IsMet look (whole the_whole) entries h w.0) (same_look the_whole refl) met) in
        let q = progress_at i.progress k in
        let has = of_some (slice_get (chronicle plan).windows k) w.0 _ w.1 (over.follows k) here.from here.to here.stretch here.bound in
        at_place plan k w.0 w.1 (λ w. (from : ℤ) × (to : ℤ) × IsStretch i.partial w from to × BodyIsBound (look_of i.binding) w.body × IsMetBy w.body to (pos h) q.count q.broken)
        (here.from, here.to, here.stretch, here.bound, ((judged_by_progress (look_of i.binding) i.partial entries h w.0 here.from here.to q.count q.broken here.stretch here.bound has).0).0 here)

    pub made_is_recognised : IsMetTo plan h i (length plan.chronicle.windows) → (number : ℕ) (mark : Mark) (r : Recognition) → IsRecognitionFrom number mark i r → IsRecognised (chronicle plan) pool entries h (assignment_of r)
    made_is_recognised met number mark r from = recognised_with met (assignment_of r) from.entries (ap given from.binding)

  pub made_is_of : (number : ℕ) (mark : Mark) (r : Recognition) → IsRecognitionFrom number mark i r → IsRecognitionOf (chronicle plan) number mark r
  made_is_of number mark r from = record {
    chronicle = from.chronicle;
    mark = from.mark;
    entries = sym (length-map r.entries (λ e. entry_of e.value)) ∙ sym (length-map (assignment_of r).entries Some) ∙ ap length (sym from.entries) ∙ of.len ∙ sym (length-map plan.chronicle.events event_of);
    binding = from.binding ∙ values_given ∙ ap (map Some) (ap given (sym from.binding));
    values = ap (λ (t : List (Option Sym)). length (given t)) from.binding ∙ sym (length-map (given i.binding) Some) ∙ ap length (sym values_given) ∙ of.symbols;
  }
