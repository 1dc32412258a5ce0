-- What is written for the answer of a clock mark is the mark's text.
use Rattle.std.proofs.Common.{◌≡◌, ℕ, ◌+◌, suc, List, [], ◌∷◌, ◌++◌, map, length, refl, sym, ap, subst, ◌∙◌, arith}
use Rattle.std.proofs.Common.{inl, inr, Bool, true, false, cond}
use Rattle.std.proofs.lemmas.Grind.{flat_map-append}
use Rattle.std.specs.Prelude.{Some, IsSomeAnd, slice_get, option_map, flat_map}
use Rattle.std.specs.Option.{option_map_or}
use Rattle.std.specs.List.{AllByRecursion}
use Rattle.std.proofs.lemmas.List.{length-map}
use Rattle.crs_base.specs.declared.symbols.Sym.{Sym}
use Rattle.crs_base.specs.Entry.{Entry}
use Rattle.crs_base.specs.Symbols.{AreDistinct}
use Rattle.crs_base.specs.Words.{IsIn}
use Rattle.crs_base.proofs.Words.{in_from_each, in_map}
use Rattle.crs_base.proofs.Alls.{all_append}
use Rattle.crs_model.specs.declared.plan.Plan.{Plan}
use Rattle.crs_model.specs.declared.plan.Plans.{Plans}
use Rattle.crs_model.specs.declared.recognition.Mark.{Mark}
use Rattle.crs_model.specs.declared.recognition.Recognition.{Recognition}
use Rattle.crs_model.specs.Models.{EventDef, Chronicle}
use Rattle.crs_model.specs.Open.{IsNew, IsRecognised, pool_among}
use Rattle.crs_log.specs.Recognitions.{View, scope_in}
use Rattle.crs_model.specs.Order.{Lists, assignment_cmp}
use Rattle.crs_model.specs.Scopes.{Scope, scope_of, ListsNew}
use Rattle.crs_model.specs.Plans.{chronicle, IsProper}
use Rattle.crs_model.specs.SeenModels.{assignment_of, given}
use Rattle.crs_model.specs.Renaming.{text_in, AreKnown, renamed_assignment, IsChronicleOf, IsEntryOf}
use Rattle.crs_model.proofs.RenamedAssignments.{known_values, new_renamed}
use Rattle.crs_model.proofs.RenamedWindows.{HasNoStar, no_stars}
use Rattle.crs_model.proofs.Options.{some_and}
use Rattle.crs_log.specs.Trace.{Answer, answer_of, AreNew}
use Rattle.crs_store.specs.Answers.{IsAnswer, IsRecognitionOf}
use Rattle.crs_engine.specs.Marks.{ListsAllNew}
use Rattle.crs_report.specs.OutputLines.{recognition_line}
use Rattle.crs_report.specs.Printed.{chronicle_at, AreBound, IsPrintable, line_seen}
use Rattle.crs_layers.specs.Standing.{HasText}
use Rattle.crs_frames.specs.TableTexts.{chronicle_in, entries_in, line_in, ArePrintable}
use Rattle.crs_frames.specs.Frames.{answer_line, LogEntry}

-- The recognitions of a mark's answer stand for assignments, with the symbols' texts: exactly those that are new, and printed as the answer is.
pub record IsSeen (cite : Bool) (texts : List (List ℕ)) (plans : Plans) (mark : Mark) (k : ℕ) (cs : List (Chronicle (List ℕ))) (was now : View)
    (answer : List Recognition) : Type 0 where
  pub answers : List Answer
  pub new : AreNew k cs was now answers
  pub lines : flat_map (line_in cite plans texts) answer ≡ flat_map (answer_line cite mark) answers

module _ (texts : List (List ℕ)) (p : Plan) (settled came : List (Entry Sym)) where
  -- the entries of a pool are known
  pub pool_known : AllByRecursion (IsEntryOf (HasText texts)) settled → AllByRecursion (IsEntryOf (HasText texts)) came → AllByRecursion (IsEntryOf (HasText texts)) (pool_among (chronicle p) settled came)
  pool_known k l = by p.chronicle.prompt
    where
      by : (b : Bool) → AllByRecursion (IsEntryOf (HasText texts)) (cond b came settled)
      by true = l
      by false = k

  -- with the symbols' texts it is the pool of what is settled and of what came
  pub pool_renamed : entries_in texts (pool_among (chronicle p) settled came) ≡ pool_among (chronicle_in texts p) (entries_in texts settled) (entries_in texts came)
  pool_renamed = by p.chronicle.prompt
    where
      by : (b : Bool) → entries_in texts (cond b came settled) ≡ cond b (entries_in texts came) (entries_in texts settled)
      by true = refl
      by false = refl

module _ (texts : List (List ℕ)) (distinct : AreDistinct texts) where
  -- no two symbols of the table have one text
  pub apart : (x y : Sym) → HasText texts x → HasText texts y → text_in texts x ≡ text_in texts y → x ≡ y
  apart x y p q e = ap (λ n. record { 0 = n }) (distinct x.0 y.0 p q e)

  known_points : (vs : List (EventDef Sym)) → AllByRecursion (λ v. HasText texts v.point) vs → AreKnown texts (map (λ v. v.point) vs)
  known_points [] h = tt
  known_points (v ∷ vs) h = (h.0, known_points vs h.1)

  bound_by : (values : List Sym) → AllByRecursion (HasText texts) values → AreBound texts (map Some values)
  bound_by [] h = tt
  bound_by (x ∷ values) h = (h.0, bound_by values h.1)

  pub stars_of : (p : Plan) → IsProper p → AllByRecursion (λ w. HasNoStar w.body) (chronicle p).windows
  stars_of p proper = no_stars proper.declared.0 (chronicle p) (chronicle p).windows proper.declared.2.windows

  module _ (p : Plan) (proper : IsProper p) (of : IsChronicleOf (HasText texts) (chronicle p)) where
    -- a recognition of known entries can be printed
    printable : (pool now : List (Entry Sym)) (h : ℕ) (number : ℕ) (mark : Mark) (r : Recognition) → AllByRecursion (IsEntryOf (HasText texts)) pool
        → IsRecognitionOf (chronicle p) number mark r → IsRecognised (chronicle p) pool now h (assignment_of r) → IsPrintable texts r (chronicle p)
    printable pool now h number mark r known k rec = record {
      name = of.name;
      points = known_points (chronicle p).events of.points;
      variables = of.variables;
      few = proper.variables_few;
      entries = k.entries;
      each = ap length k.binding ∙ length-map (given r.binding) Some ∙ k.values;
      values = subst (AreBound texts) (sym k.binding)
          (bound_by (given r.binding) (known_values (text_in texts) (HasText texts) apart (chronicle p) of proper.named (stars_of p proper) pool (assignment_of r) known rec.assignment));
    }

    -- the lines of the recognitions of the chronicle are those of the assignments
    lines_are : (cite : Bool) (plans : Plans) (number : ℕ) (mark : Mark) (answer : List Recognition) → chronicle_at plans number ≡ Some (chronicle p) → AllByRecursion (IsRecognitionOf (chronicle p) number mark) answer
        → flat_map (line_in cite plans texts) answer
        ≡ flat_map (answer_line cite mark) (map (answer_of number (chronicle_in texts p)) (map (renamed_assignment (text_in texts)) (map assignment_of answer)))
    lines_are cite plans number mark [] at h = refl
    lines_are cite plans number mark (r ∷ answer) at h =
        let here : chronicle_at plans r.chronicle ≡ Some (chronicle p) = ap (chronicle_at plans) h.0.chronicle ∙ at in
        let line : line_in cite plans texts r ≡ recognition_line cite (chronicle_in texts p) mark (renamed_assignment (text_in texts) (assignment_of r)) =
        ap (λ o. option_map_or (line_seen cite texts r) o []) here ∙ ap (λ m. recognition_line cite (chronicle_in texts p) m (renamed_assignment (text_in texts) (assignment_of r))) h.0.mark in
        λ i. line i ++ lines_are cite plans number mark answer at h.1 i

  module _ (plans : Plans) (mark : Mark) (was had now came : List (Entry Sym)) (g h : ℕ)
      (known : AllByRecursion (IsEntryOf (HasText texts)) now) (known_was : AllByRecursion (IsEntryOf (HasText texts)) was)
      (known_came : AllByRecursion (IsEntryOf (HasText texts)) came) (known_had : AllByRecursion (IsEntryOf (HasText texts)) had) where
    -- what was the pool of a plan, and what is it now
    abbrev pool_was : Plan → List (Entry Sym)
    pool_was p = pool_among (chronicle p) was had

    abbrev pool_now : Plan → List (Entry Sym)
    pool_now p = pool_among (chronicle p) now came

    abbrev scope_was : Plan → Scope Sym
    scope_was p = scope_of (chronicle p) was had g

    abbrev scope_now : Plan → Scope Sym
    scope_now p = scope_of (chronicle p) now came h

    abbrev view_was : View
    view_was = record { settled = entries_in texts was; arrived = entries_in texts had; horizon = g }

    abbrev view_now : View
    view_now = record { settled = entries_in texts now; arrived = entries_in texts came; horizon = h }

    -- the new ones of a plan are those of the chronicle with the symbols' texts
    new_here : (p : Plan) → IsProper p → IsChronicleOf (HasText texts) (chronicle p) → (number : ℕ) (answer : List Recognition)
        → IsAnswer (chronicle p) number mark (scope_was p) (scope_now p) answer
        → ListsNew (chronicle_in texts p) (scope_in (chronicle_in texts p) view_was) (scope_in (chronicle_in texts p) view_now) (map (renamed_assignment (text_in texts)) (map assignment_of answer))
    new_here p proper of number answer l =
        let raw = new_renamed (text_in texts) (HasText texts) apart (chronicle p) of proper.named (stars_of p proper) (pool_now p) now (pool_was p) was h g
        (pool_known texts p now came known known_came) known (pool_known texts p was had known_was known_had) known_was (map assignment_of answer) l.listed in
        subst (λ (t : List LogEntry). Lists assignment_cmp (IsNew (chronicle_in texts p) t (entries_in texts was) g (pool_among (chronicle_in texts p) (entries_in texts now) (entries_in texts came)) (entries_in texts now) h)
        (map (renamed_assignment (text_in texts)) (map assignment_of answer))) (pool_renamed texts p was had)
        (subst (λ (t : List LogEntry). Lists assignment_cmp (IsNew (chronicle_in texts p) (entries_in texts (pool_was p)) (entries_in texts was) g t (entries_in texts now) h)
        (map (renamed_assignment (text_in texts)) (map assignment_of answer))) (pool_renamed texts p now came) raw)

    -- the plans from a number on
    abbrev StandFrom : List Plan → ℕ → Type 0
    StandFrom ps number = (k : ℕ) → chronicle_at plans (number + k) ≡ option_map chronicle (slice_get ps k)

    each_printable : (p : Plan) (number : ℕ) (answer : List Recognition) → IsProper p → IsChronicleOf (HasText texts) (chronicle p) → chronicle_at plans number ≡ Some (chronicle p)
        → AllByRecursion (IsRecognitionOf (chronicle p) number mark) answer → ((r : Recognition) → IsIn r answer → IsRecognised (chronicle p) (pool_now p) now h (assignment_of r)) → ArePrintable plans texts answer
    each_printable p number [] proper of at each rec = tt
    each_printable p number (r ∷ answer) proper of at each rec = (
      some_and (chronicle_at plans r.chronicle) (IsPrintable texts r) (chronicle p) (ap (chronicle_at plans) each.0.chronicle ∙ at)
          (printable p proper of (pool_now p) now h number mark r (pool_known texts p now came known known_came) each.0 (rec r (inl refl))),
      each_printable p number answer proper of at each.1 (λ s i. rec s (inr i)),
    )

    first_at : (number : ℕ) (p : Plan) (ps : List Plan) → StandFrom (p ∷ ps) number → chronicle_at plans number ≡ Some (chronicle p)
    first_at number p ps at = let e : number + 0 ≡ number = omega arith in subst (λ n. chronicle_at plans n ≡ Some (chronicle p)) e (at 0)

    next_from : (number : ℕ) (p : Plan) (ps : List Plan) → StandFrom (p ∷ ps) number → StandFrom ps (suc number)
    next_from number p ps at k = let e : number + suc k ≡ suc number + k = omega arith in subst (λ n. chronicle_at plans n ≡ option_map chronicle (slice_get ps k)) e (at (suc k))

    recognised_of : (p : Plan) (number : ℕ) (answer : List Recognition) → IsAnswer (chronicle p) number mark (scope_was p) (scope_now p) answer → (r : Recognition) → IsIn r answer → IsRecognised (chronicle p) (pool_now p) now h (assignment_of r)
    recognised_of p number answer l r i = (in_from_each (IsNew (chronicle p) (pool_was p) was g (pool_now p) now h) (map assignment_of answer) l.listed.each (assignment_of r) (in_map assignment_of answer r i)).0

    pub all_printable : (ps : List Plan) (number : ℕ) (answer : List Recognition) → StandFrom ps number → AllByRecursion IsProper ps → AllByRecursion (λ p. IsChronicleOf (HasText texts) (chronicle p)) ps
        → ListsAllNew ps number mark scope_was scope_now answer → ArePrintable plans texts answer
    all_printable [] number answer at proper of l = subst (ArePrintable plans texts) (sym l) tt
    all_printable (p ∷ ps) number answer at proper of l = subst (ArePrintable plans texts) (sym l.2)
        (all_append (λ r. IsSomeAnd (chronicle_at plans r.chronicle) (IsPrintable texts r)) l.0 l.1
        (each_printable p number l.0 proper.0 of.0 (first_at number p ps at) l.3.each (recognised_of p number l.0 l.3))
        (all_printable ps (suc number) l.1 (next_from number p ps at) proper.1 of.1 l.4))

    pub answer_seen : (cite : Bool) (ps : List Plan) (number : ℕ) (answer : List Recognition) → StandFrom ps number → AllByRecursion IsProper ps → AllByRecursion (λ p. IsChronicleOf (HasText texts) (chronicle p)) ps
        → ListsAllNew ps number mark scope_was scope_now answer
        → IsSeen cite texts plans mark number (map (chronicle_in texts) ps) view_was view_now answer
    answer_seen cite [] number answer at proper of l =
        record { answers = []; new = refl; lines = ap (flat_map (line_in cite plans texts)) l }
    answer_seen cite (p ∷ ps) number answer at proper of l =
        let new = map (renamed_assignment (text_in texts)) (map assignment_of l.0) in
        let first = map (answer_of number (chronicle_in texts p)) new in
        let rest = answer_seen cite ps (suc number) l.1 (next_from number p ps at) proper.1 of.1 l.4 in
        record {
          answers = first ++ rest.answers;
          new = (
            new,
            rest.answers,
            new_here p proper.0 of.0 number l.0 l.3,
            rest.new,
            refl,
          );
          lines = ap (flat_map (line_in cite plans texts)) l.2 ∙ flat_map-append (line_in cite plans texts) l.0 l.1
              ∙ (λ i. lines_are p proper.0 of.0 cite plans number mark l.0 (first_at number p ps at) l.3.each i ++ rest.lines i)
              ∙ sym (flat_map-append (answer_line cite mark) first rest.answers);
        }
