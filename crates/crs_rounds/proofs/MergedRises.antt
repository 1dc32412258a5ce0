-- What a rise of the common horizon brings.
use Rattle.std.proofs.Common.{◌≡◌, ◌∙◌, ap, sym, refl, subst, ℕ, zero, suc, ◌+◌, Bool, true, false, cond, List, [], ◌∷◌, map, filter, nat_lt}
use Rattle.std.proofs.Common.{zero-add, Global, Option, Some, None, true≢false}
use Rattle.std.specs.Prelude.{flat_map, slice_get, option_map}
use Rattle.std.specs.declared.rc.Rc.{Rc}
use Rattle.std.specs.List.{AllByRecursion}
use Rattle.std.specs.Ordering.{is_lt}
use Rattle.crs_base.specs.declared.symbols.Sym.{Sym}
use Rattle.crs_base.specs.Entry.{Entry, entry_cmp}
use Rattle.crs_base.proofs.Words.{each_from_in, in_from_each, in_filter_back}
use Rattle.crs_model.specs.declared.plan.Plan.{Plan}
use Rattle.crs_model.specs.declared.plan.Plans.{Plans}
use Rattle.crs_model.specs.declared.recognition.Mark.{Mark}
use Rattle.crs_model.specs.declared.recognition.Recognition.{Recognition}
use Rattle.crs_model.specs.Models.{Chronicle}
use Rattle.crs_model.specs.Order.{put_in_order, put_all, in_key_order, dated_before, arrived}
use Rattle.crs_model.specs.Plans.{chronicle}
use Rattle.crs_model.specs.SeenModels.{chronicle_of}
use Rattle.crs_model.specs.Renaming.{text_in, renamed_entry, IsEntryOf}
use Rattle.crs_model.proofs.Ties.{ordered_members}
use Rattle.crs_engine.specs.Engines.{plans_of}
use Rattle.crs_engine.specs.Marks.{ListsAllNew}
use Rattle.crs_log.specs.Recognitions.{View}
use Rattle.crs_feeds.specs.declared.rising.Rise.{Rise}
use Rattle.crs_feeds.specs.Merged.{Merged, common, has_risen, mark_of, view_of}
use Rattle.crs_feeds.specs.Standing.{AnswersRise, scope_in_run}
use Rattle.crs_report.specs.Printed.{chronicle_at}
use Rattle.crs_rounds.specs.MergedSession.{rise_lines, IsPrintableRise}
use Rattle.crs_rounds.specs.PairTexts.{AreRiseAnswers}
use Rattle.crs_layers.specs.Standing.{HasText}
use Rattle.crs_frames.specs.TableTexts.{HasModels, entries_in, ArePrintable}
use Rattle.crs_frames.specs.Frames.{Frame, answer_line}
use Rattle.crs_base.specs.Symbols.{Table}
use Rattle.crs_log.specs.Trace.{Answer}
use Rattle.crs_rounds.proofs.Answered.{IsSeen, answer_seen, all_printable}

-- ---- entries with texts in place of numbers

module _ (v : Sym → List ℕ) where
  abbrev renamed : List (Entry Sym) → List (Entry (List ℕ))
  renamed es = map (renamed_entry v) es

  put_renamed : (e : Entry Sym) (xs : List (Entry Sym)) → renamed (put_in_order e xs) ≡ put_in_order (renamed_entry v e) (renamed xs)
  put_renamed e [] = refl
  put_renamed e (x ∷ xs) = by (is_lt (entry_cmp e x)) (put_renamed e xs)
    where
      by : (b : Bool) → renamed (put_in_order e xs) ≡ put_in_order (renamed_entry v e) (renamed xs)
          → renamed (cond b (e ∷ x ∷ xs) (x ∷ put_in_order e xs)) ≡ cond b (renamed_entry v e ∷ renamed_entry v x ∷ renamed xs) (renamed_entry v x ∷ put_in_order (renamed_entry v e) (renamed xs))
      by true h = refl
      by false h = ap (λ (ys : List (Entry (List ℕ))). renamed_entry v x ∷ ys) h

  all_renamed : (sorted xs : List (Entry Sym)) → renamed (put_all sorted xs) ≡ put_all (renamed sorted) (renamed xs)
  all_renamed sorted [] = refl
  all_renamed sorted (x ∷ xs) = all_renamed (put_in_order x sorted) xs ∙ ap (λ (ys : List (Entry (List ℕ))). put_all ys (renamed xs)) (put_renamed x sorted)

  dated_filter : (h : ℕ) (xs : List (Entry Sym)) → renamed (filter (λ e. nat_lt e.date h) xs) ≡ filter (λ e. nat_lt e.date h) (renamed xs)
  dated_filter h [] = refl
  dated_filter h (x ∷ xs) = by (nat_lt x.date h) (dated_filter h xs)
    where
      by : (b : Bool) → renamed (filter (λ e. nat_lt e.date h) xs) ≡ filter (λ e. nat_lt e.date h) (renamed xs)
          → renamed (cond b (x ∷ filter (λ e. nat_lt e.date h) xs) (filter (λ e. nat_lt e.date h) xs)) ≡ cond b (renamed_entry v x ∷ filter (λ e. nat_lt e.date h) (renamed xs)) (filter (λ e. nat_lt e.date h) (renamed xs))
      by true k = ap (λ (ys : List (Entry (List ℕ))). renamed_entry v x ∷ ys) k
      by false k = k

  arrived_filter : (n : ℕ) (xs : List (Entry Sym)) → renamed (arrived n xs) ≡ arrived n (renamed xs)
  arrived_filter n [] = refl
  arrived_filter n (x ∷ xs) = by (nat_lt x.arrival n) (arrived_filter n xs)
    where
      by : (b : Bool) → renamed (arrived n xs) ≡ arrived n (renamed xs)
          → renamed (cond b (x ∷ arrived n xs) (arrived n xs)) ≡ cond b (renamed_entry v x ∷ arrived n (renamed xs)) (arrived n (renamed xs))
      by true k = ap (λ (ys : List (Entry (List ℕ))). renamed_entry v x ∷ ys) k
      by false k = k

  dated_renamed : (h : ℕ) (xs : List (Entry Sym)) → renamed (dated_before h xs) ≡ dated_before h (renamed xs)
  dated_renamed h xs = all_renamed [] (filter (λ e. nat_lt e.date h) xs) ∙ ap in_key_order (dated_filter h xs)

  arrived_renamed : (n : ℕ) (xs : List (Entry Sym)) → renamed (in_key_order (arrived n xs)) ≡ in_key_order (arrived n (renamed xs))
  arrived_renamed n xs = all_renamed [] (arrived n xs) ∙ ap in_key_order (arrived_filter n xs)

module _ (P : Entry Sym → Type 0) (xs : List (Entry Sym)) (each : AllByRecursion P xs) where
  each_dated : (h : ℕ) → AllByRecursion P (dated_before h xs)
  each_dated h = each_from_in P (dated_before h xs)
      (λ y i. in_from_each P xs each y (in_filter_back (λ (e : Entry Sym). nat_lt e.date h) xs y ((ordered_members (filter (λ e. nat_lt e.date h) xs)).there y i)).0)

  each_arrived : (n : ℕ) → AllByRecursion P (in_key_order (arrived n xs))
  each_arrived n = each_from_in P (in_key_order (arrived n xs))
      (λ y i. in_from_each P xs each y (in_filter_back (λ (e : Entry Sym). nat_lt e.arrival n) xs y ((ordered_members (arrived n xs)).there y i)).0)

-- ---- chronicles by their numbers

at_place : (rs : List (Rc Plan Global)) (k : ℕ) → option_map (λ (p : Rc Plan Global). chronicle_of p.value.chronicle) (slice_get rs k) ≡ option_map chronicle (slice_get (map (λ (r : Rc Plan Global). r.value) rs) k)
at_place [] k = refl
at_place (r ∷ rs) zero = refl
at_place (r ∷ rs) (suc k) = at_place rs k

-- they stand by their numbers, from 0
stand_from : (plans : Plans) (k : ℕ) → chronicle_at plans (0 + k) ≡ option_map chronicle (slice_get (plans_of plans) k)
stand_from plans k = ap (chronicle_at plans) (zero-add k) ∙ at_place plans.plans k

-- ---- a rise between two runs with the same entries

module _ (f : Frame) (plans : Plans) (table : Table) (has : HasModels f plans table) (xs : List (Entry Sym)) (known : AllByRecursion (IsEntryOf (HasText table.texts)) xs)
    (was now : Merged) (seen_was : entries_in table.texts xs ≡ was.accepted) (seen_now : entries_in table.texts xs ≡ now.accepted) where
  abbrev view : Merged → View
  view m = record {
    settled = entries_in table.texts (dated_before (common m.feeds) xs);
    arrived = entries_in table.texts (in_key_order (arrived m.marked xs));
    horizon = common m.feeds;
  }

  view_is : (m : Merged) → entries_in table.texts xs ≡ m.accepted → view m ≡ view_of m
  view_is m e = λ i. record {
    settled = (dated_renamed (text_in table.texts) (common m.feeds) xs ∙ ap (dated_before (common m.feeds)) e) i;
    arrived = (arrived_renamed (text_in table.texts) m.marked xs ∙ ap (λ (es : List (Entry (List ℕ))). in_key_order (arrived m.marked es)) e) i;
    horizon = common m.feeds;
  }

  abbrev K : Entry Sym → Type 0
  K = IsEntryOf (HasText table.texts)

  seen_rise : (mark : Mark) (answer : List Recognition) → ListsAllNew (plans_of plans) 0 mark (scope_in_run was xs) (scope_in_run now xs) answer
      → IsSeen false table.texts plans mark 0 f.models.chronicles (view_of was) (view_of now) answer
  seen_rise mark answer h =
      let raw = answer_seen table.texts has.distinct plans mark (dated_before (common was.feeds) xs) (in_key_order (arrived was.marked xs))
      (dated_before (common now.feeds) xs) (in_key_order (arrived now.marked xs)) (common was.feeds) (common now.feeds)
      (each_dated K xs known (common now.feeds)) (each_dated K xs known (common was.feeds)) (each_arrived K xs known now.marked) (each_arrived K xs known was.marked)
      false (plans_of plans) 0 answer (stand_from plans) has.proper has.chronicles_in h in
      let a = subst (λ (cs : List (Chronicle (List ℕ))). IsSeen false table.texts plans mark 0 cs (view was) (view now) answer) (sym has.chronicles) raw in
      let b = subst (λ (v : View). IsSeen false table.texts plans mark 0 f.models.chronicles v (view now) answer) (view_is was seen_was) a in
      subst (λ (v : View). IsSeen false table.texts plans mark 0 f.models.chronicles (view_of was) v answer) (view_is now seen_now) b

  printable_rise : (mark : Mark) (answer : List Recognition) → ListsAllNew (plans_of plans) 0 mark (scope_in_run was xs) (scope_in_run now xs) answer
      → ArePrintable plans table.texts answer
  printable_rise mark answer h =
      all_printable table.texts has.distinct plans mark (dated_before (common was.feeds) xs) (in_key_order (arrived was.marked xs))
      (dated_before (common now.feeds) xs) (in_key_order (arrived now.marked xs)) (common was.feeds) (common now.feeds)
      (each_dated K xs known (common now.feeds)) (each_dated K xs known (common was.feeds)) (each_arrived K xs known now.marked) (each_arrived K xs known was.marked)
      (plans_of plans) 0 answer (stand_from plans) has.proper has.chronicles_in h

  pub rise_printable : (rise : Option Rise) → AnswersRise (plans_of plans) xs was now rise → IsPrintableRise plans table.texts rise
  rise_printable None h = tt
  rise_printable (Some rise) h = printable_rise rise.mark rise.list h.2

  -- what is answered, and its lines
  answers_by : (b : Bool) (answers : List Answer) → b ≡ true → AreRiseAnswers f.models.chronicles true was now answers → AreRiseAnswers f.models.chronicles b was now answers
  answers_by true answers e h = h
  answers_by false answers e h = absurd (true≢false (sym e))

  none_by : (b : Bool) → b ≡ false → AreRiseAnswers f.models.chronicles b was now []
  none_by true e = absurd (true≢false e)
  none_by false e = refl

  pub rise_answers : (rise : Option Rise) → AnswersRise (plans_of plans) xs was now rise
      → (answers : List Answer) × AreRiseAnswers f.models.chronicles (has_risen was.feeds now.feeds) was now answers
      × (rise_lines plans table.texts rise ≡ flat_map (answer_line false (mark_of now.feeds)) answers)
  rise_answers None h = ([], none_by (has_risen was.feeds now.feeds) h, refl)
  rise_answers (Some rise) h =
      let s = seen_rise rise.mark rise.list h.2 in
      (s.answers, answers_by (has_risen was.feeds now.feeds) s.answers h.0 s.new, s.lines ∙ ap (λ (k : Mark). flat_map (answer_line false k) s.answers) h.1)
