-- What is written and told of recognitions is that of the answers that they tell.
use Rattle.std.proofs.Common.{◌≡◌, ℕ, zero, suc, Bool, List, [], ◌∷◌, ◌++◌, map, length, refl, sym, ap, subst, ◌∙◌, arith}
use Rattle.std.proofs.Common.{Global}
use Rattle.std.specs.Prelude.{Some, IsSomeAnd, slice_get, option_map, flat_map}
use Rattle.std.specs.Option.{option_map_or}
use Rattle.std.specs.List.{AllByRecursion, AllZip}
use Rattle.std.specs.declared.rc.Rc.{Rc}
use Rattle.std.proofs.lemmas.List.{length-map}
use Rattle.crs_base.specs.declared.entry.Entry.{Entry as CodeEntry}
use Rattle.crs_base.specs.declared.symbols.Sym.{Sym}
use Rattle.crs_base.specs.Seen.{entry_of}
use Rattle.crs_model.specs.declared.plan.Plan.{Plan}
use Rattle.crs_model.specs.declared.plan.Plans.{Plans}
use Rattle.crs_model.specs.declared.recognition.Mark.{Mark}
use Rattle.crs_model.specs.declared.recognition.Recognition.{Recognition}
use Rattle.crs_model.specs.Matching.{Assignment}
use Rattle.crs_model.specs.Models.{EventDef}
use Rattle.crs_model.specs.Plans.{chronicle, IsProper}
use Rattle.crs_model.specs.Renaming.{text_in, AreKnown, renamed_entry, IsChronicleOf}
use Rattle.crs_model.specs.SeenModels.{chronicle_of, event_of, given}
use Rattle.crs_model.proofs.Options.{some_and}
use Rattle.crs_log.specs.Trace.{Answer}
use Rattle.crs_engine.specs.Engines.{plans_of}
use Rattle.crs_report.specs.Listeners.{notice_of}
use Rattle.crs_report.specs.OutputLines.{recognition_line}
use Rattle.crs_report.specs.Printed.{chronicle_at, AreBound, IsPrintable, line_seen}
use Rattle.crs_layers.specs.Standing.{HasText}
use Rattle.crs_layers.specs.Takes.{IsToldAs}
use Rattle.crs_session.specs.Notices.{notice_in}
use Rattle.crs_frames.specs.TableTexts.{line_in, ArePrintable}
use Rattle.crs_frames.specs.Frames.{answer_line}
use Rattle.crs_session.specs.Written.{HasEntry}

at_place : (rs : List (Rc Plan Global)) (k : ℕ) (p : Plan) → slice_get (map (λ (r : Rc Plan Global). r.value) rs) k ≡ Some p
    → option_map (λ (p : Rc Plan Global). chronicle_of p.value.chronicle) (slice_get rs k) ≡ Some (chronicle p)
at_place [] k p e = absurd (cc)
at_place (r ∷ rs) zero p e = ap (option_map chronicle) e
at_place (r ∷ rs) (suc k) p e = at_place rs k p e

each_at : (P : Plan → Type 0) (ps : List Plan) (k : ℕ) (p : Plan) → slice_get ps k ≡ Some p → AllByRecursion P ps → P p
each_at P [] k p e h = absurd (cc)
each_at P (q ∷ ps) zero p e h = let same : q ≡ p = cc in subst P same h.0
each_at P (q ∷ ps) (suc k) p e h = each_at P ps k p e h.1

known_points : (texts : List (List ℕ)) (vs : List (EventDef Sym)) → AllByRecursion (λ v. HasText texts v.point) vs → AreKnown texts (map (λ v. v.point) vs)
known_points texts [] h = tt
known_points texts (v ∷ vs) h = (h.0, known_points texts vs h.1)

bound_by : (texts : List (List ℕ)) (values : List Sym) → AreKnown texts values → AreBound texts (map Some values)
bound_by texts [] h = tt
bound_by texts (x ∷ values) h = (h.0, bound_by texts values h.1)

dates_are : (texts : List (List ℕ)) (es : List (Rc CodeEntry Global))
    → map (λ e. e.value.date) es ≡ map (λ e. e.date) (map (renamed_entry (text_in texts)) (map (λ e. entry_of e.value) es))
dates_are texts [] = refl
dates_are texts (e ∷ es) = ap (λ (ds : List ℕ). e.value.date ∷ ds) (dates_are texts es)

module _ (texts : List (List ℕ)) (plans : Plans) (mark : Mark) where
  module _ (r : Recognition) (a : Answer) (t : IsToldAs (plans_of plans) texts mark r a) where
    here : chronicle_at plans r.chronicle ≡ Some (chronicle t.plan)
    here = ap (chronicle_at plans) t.recognition.chronicle ∙ at_place plans.plans a.number t.plan t.at

    line_is : (cite : Bool) → line_in cite plans texts r ≡ answer_line cite mark a
    line_is cite =
        ap (λ o. option_map_or (line_seen cite texts r) o []) here
        ∙ (λ i. recognition_line cite (sym t.chronicle_is i) (t.recognition.mark i) (sym t.assignment_is i))

    notice_is : notice_of r ≡ notice_in a
    notice_is =
        λ i. record { chronicle = t.recognition.chronicle i; dates = (dates_are texts r.entries ∙ ap (λ (b : Assignment (List ℕ)). map (λ e. e.date) b.entries) (sym t.assignment_is)) i }

    filled : AllByRecursion IsProper (plans_of plans) → HasEntry r
    filled proper =
        let p = each_at IsProper (plans_of plans) a.number t.plan t.at proper in
        let some = p.events_some in
        let long = t.recognition.entries in
        omega (arith, some, long, length-map t.plan.chronicle.events event_of)

    printable : AllByRecursion IsProper (plans_of plans) → AllByRecursion (λ p. IsChronicleOf (HasText texts) (chronicle p)) (plans_of plans) → IsSomeAnd (chronicle_at plans r.chronicle) (IsPrintable texts r)
    printable proper of =
        let p = each_at IsProper (plans_of plans) a.number t.plan t.at proper in
        let k = each_at (λ p. IsChronicleOf (HasText texts) (chronicle p)) (plans_of plans) a.number t.plan t.at of in
        let is : IsPrintable texts r (chronicle t.plan) =
        record {
          name = k.name;
          points = known_points texts (chronicle t.plan).events k.points;
          variables = k.variables;
          few = p.variables_few;
          entries = t.recognition.entries;
          each = ap length t.recognition.binding ∙ length-map (given r.binding) Some ∙ t.recognition.values;
          values = subst (AreBound texts) (sym t.recognition.binding) (bound_by texts (given r.binding) t.known);
        } in
        some_and (chronicle_at plans r.chronicle) (IsPrintable texts r) (chronicle t.plan) here is

  pub lines_are : (cite : Bool) (rs : List Recognition) (answers : List Answer) → AllZip (IsToldAs (plans_of plans) texts mark) rs answers
      → flat_map (line_in cite plans texts) rs ≡ flat_map (answer_line cite mark) answers
  lines_are cite [] [] h = refl
  lines_are cite [] (a ∷ answers) h = absurd h
  lines_are cite (r ∷ rs) [] h = absurd h
  lines_are cite (r ∷ rs) (a ∷ answers) h = λ i. line_is r a h.0 cite i ++ lines_are cite rs answers h.1 i

  pub notices_are : (rs : List Recognition) (answers : List Answer) → AllZip (IsToldAs (plans_of plans) texts mark) rs answers → map notice_of rs ≡ map notice_in answers
  notices_are [] [] h = refl
  notices_are [] (a ∷ answers) h = absurd h
  notices_are (r ∷ rs) [] h = absurd h
  notices_are (r ∷ rs) (a ∷ answers) h = λ i. notice_is r a h.0 i ∷ notices_are rs answers h.1 i

  pub all_filled : (rs : List Recognition) (answers : List Answer) → AllByRecursion IsProper (plans_of plans) → AllZip (IsToldAs (plans_of plans) texts mark) rs answers → AllByRecursion HasEntry rs
  all_filled [] answers proper h = tt
  all_filled (r ∷ rs) [] proper h = absurd h
  all_filled (r ∷ rs) (a ∷ answers) proper h = (filled r a h.0 proper, all_filled rs answers proper h.1)

  pub all_printable : (rs : List Recognition) (answers : List Answer) → AllByRecursion IsProper (plans_of plans) → AllByRecursion (λ p. IsChronicleOf (HasText texts) (chronicle p)) (plans_of plans)
      → AllZip (IsToldAs (plans_of plans) texts mark) rs answers → ArePrintable plans texts rs
  all_printable [] answers proper of h = tt
  all_printable (r ∷ rs) [] proper of h = absurd h
  all_printable (r ∷ rs) (a ∷ answers) proper of h = (printable r a h.0 proper of, all_printable rs answers proper of h.1)

  pub as_many : (rs : List Recognition) (answers : List Answer) → AllZip (IsToldAs (plans_of plans) texts mark) rs answers → length rs ≡ length answers
  as_many [] [] h = refl
  as_many [] (a ∷ answers) h = absurd h
  as_many (r ∷ rs) [] h = absurd h
  as_many (r ∷ rs) (a ∷ answers) h = ap suc (as_many rs answers h.1)
