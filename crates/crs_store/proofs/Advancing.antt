-- What a store stands for after a mark, and its answer.
use Rattle.std.proofs.Common.{◌≡◌, ℕ, zero, suc, ◌<◌, ◌≤◌, ◌^◌, List, [], ◌∷◌, length, map, refl, sym, ap, subst, ◌∙◌, arith}
use Rattle.std.specs.Prelude.{Some, None, true, is_some}
use Rattle.std.specs.List.{AllByRecursion, AllZip, list_all}
use Rattle.crs_base.specs.declared.symbols.Sym.{Sym}
use Rattle.crs_base.specs.Words.{IsIn, Ordered}
use Rattle.crs_base.proofs.Words.{in_from_each, each_from_in, in_map, in_map_back}
use Rattle.crs_model.specs.declared.plan.Plan.{Plan}
use Rattle.crs_model.specs.declared.recognition.Mark.{Mark}
use Rattle.crs_model.specs.declared.recognition.Recognition.{Recognition}
use Rattle.crs_base.specs.Entry.{Entry}
use Rattle.crs_model.specs.Matching.{Assignment, AreDistinct}
use Rattle.crs_model.specs.Partial.{Partial, at, IsLevelClosed}
use Rattle.crs_model.specs.Plans.{chronicle}
use Rattle.crs_model.specs.Open.{IsNew, IsLive, IsOpen, IsRecognised, AllWanted, StandsFor, IsRecognisedWhole, before, whole}
use Rattle.crs_model.specs.SeenModels.{assignment_of}
use Rattle.crs_model.specs.Steps.{GoesOn}
use Rattle.crs_model.specs.Images.{IsImage}
use Rattle.crs_model.proofs.Marks.{InDates, marked, new_is_held, held_is_new, same_values}
use Rattle.crs_history.specs.Histories.{HistoryState, IsFarBack, StandsFor as HistoryStandsFor}
use Rattle.crs_history.proofs.FarBack.{far_later}
use Rattle.crs_instance.specs.Instances.{InstanceState, IsOf}
use Rattle.crs_instance.specs.Followed.{Follows}
use Rattle.crs_living.specs.Parts.{parts, AllOf}
use Rattle.crs_store.specs.Stores.{StoreState, IsStore, StandsAhead, IsSameStore, levels_of}
use Rattle.crs_focus.specs.PlanLevels.{levels_in}
use Rattle.crs_living.specs.Windows.{IsAble, IsOver, IsPassed}
use Rattle.crs_living.specs.Ahead.{IsWanted}
use Rattle.crs_living.specs.Done.{is_whole, IsDone}
use Rattle.crs_store.specs.Answers.{IsAnswer, IsMarked, IsAdvanced, IsRecognitionOf, IsRecognitionOfOne, TellsDone, MovesOn, wholes}
use Rattle.crs_base.proofs.Alls.{all_both}
use Rattle.crs_living.proofs.Leaving.{leaves_image, leaves_each}
use Rattle.crs_living.proofs.Overs.{open_able, floor_early}
use Rattle.crs_base.proofs.Sifted.{sifted_in}
use Rattle.crs_store.proofs.Ahead.{passed_ahead}
use Rattle.crs_store.proofs.Standing.{same_levels, given_ahead, closed_ahead, parts_same, zip_of, zip_all, over_of, follows_of}
use Rattle.crs_store.proofs.Marking.{IsWhole, done_is_recognised, recognised_is_met, made_is_recognised, made_is_of}
use Rattle.crs_store.proofs.Finding.{all_some}
use Rattle.crs_store.proofs.Ascending.{IsOver as IsOver_, ascending}
use Rattle.crs_waiting.proofs.Moved.{moved_in, moved_back}

pub all_some_of : (a : Partial Sym) → list_all (λ o. is_some o) a ≡ true → IsWhole a
all_some_of [] t e l n = absurd (omega arith)
all_some_of (None ∷ a) t e l n = absurd cc
all_some_of (Some x ∷ a) t zero l n = absurd cc
all_some_of (Some x ∷ a) t (suc e) l n = all_some_of a t e (omega arith) n

unwhole : (xs ys : List (Entry Sym)) → map Some xs ≡ map Some ys → xs ≡ ys
unwhole [] [] e = refl
unwhole [] (y ∷ ys) e = absurd cc
unwhole (x ∷ xs) [] e = absurd cc
unwhole (x ∷ xs) (y ∷ ys) e = let s : x ≡ y = cc in let t : map Some xs ≡ map Some ys = cc in (λ i. s i ∷ unwhole xs ys t i)

module _ (old new : StoreState) (is : IsStore old) (history : HistoryState) (mark : Mark) (answer : List Recognition) (h : ℕ) (same : IsSameStore old new) (judged : new.date ≡ h)
    (moves : MovesOn old.plan old.focus history old.date h old.number mark old.held new.held answer)
    (was pool settled : List (Entry Sym)) (d g : ℕ) (stands : StandsAhead old was pool settled [] d g h) (kept : HistoryStandsFor settled history) (far : IsFarBack old.plan.reach g history.floor) (few : length settled < 2 ^ 32)
    (apart : AreDistinct pool) (later : d ≤ h) (dated : (e : Entry Sym) → IsIn e settled → e.date < h) (in_dates : InDates settled) where
  one_now : StandsFor (chronicle old.plan) (levels_of old) (IsWanted (chronicle old.plan) (levels_of old) pool settled [] h) (parts old.held) was pool settled d g
  one_now = stands.stands

  mid : List InstanceState
  mid = moves.passed.0

  passed : AllZip (IsPassed old.plan history d h) old.held moves.passed.0
  passed = subst (λ (k : ℕ). AllZip (IsPassed old.plan history k h) old.held moves.passed.0) stands.judged moves.passed.1

  far_d : IsFarBack old.plan.reach d history.floor
  far_d = far_later old.plan.reach g d history.floor one_now.marked far

  same_parts : parts moves.passed.0 ≡ parts old.held
  same_parts = parts_same (IsPassed old.plan history d h) (λ a b r. r.same) old.held moves.passed.0 passed

  of_mid : AllOf old.plan moves.passed.0
  of_mid = zip_of old.plan (IsPassed old.plan history d h) (λ a b r. r.same) old.held moves.passed.0 passed is.instances

  over_mid : AllByRecursion (IsOver old.plan old.focus pool settled h) moves.passed.0
  over_mid = zip_all (IsPassed old.plan history d h) (IsOver old.plan old.focus pool settled d) (IsOver old.plan old.focus pool settled h) (λ a b r o. record {
    given = λ e y k. o.given e y (sym (ap (λ (t : InstanceState). at t.partial e) r.same.same) ∙ k);
    closed = subst (λ (t : InstanceState). IsLevelClosed (levels_in old.plan old.focus) t.partial) (sym r.same.same) o.closed;
    follows = r.follows settled later (record { kept = kept; few = few; far = far_d }) (floor_early old.plan is.proper d history.floor far_d) o.follows;
  }) old.held moves.passed.0 passed (over_of old.plan old.focus pool settled d old.held (given_ahead (chronicle old.plan) (levels_of old) (parts old.held) was pool settled [] d g h one_now) (closed_ahead (chronicle old.plan) (levels_of old) (parts old.held) was pool settled [] d g h one_now) stands.follows)

  distinct_mid : Ordered (λ a b. a ≡ b → ⊥) (parts moves.passed.0)
  distinct_mid = subst (Ordered (λ a b. a ≡ b → ⊥)) (sym same_parts) one_now.distinct

  -- what is able then is exactly what is open then
  of_able : AllOf old.plan moves.able
  of_able = leaves_each (IsAble old.plan old.focus h) (IsOf old.plan) moves.passed.0 moves.able of_mid moves.passed.2

  over_able : AllByRecursion (IsOver old.plan old.focus pool settled h) moves.able
  over_able = leaves_each (IsAble old.plan old.focus h) (IsOver old.plan old.focus pool settled h) moves.passed.0 moves.able over_mid moves.passed.2

  able_then : (i : InstanceState) → IsIn i moves.able → IsAble old.plan old.focus h i
  able_then i k = (sifted_in (IsAble old.plan old.focus h) moves.passed.0 moves.able i moves.passed.2 k).1

  stay : IsImage (GoesOn (IsOpen (chronicle old.plan) (levels_of old) pool settled h)) (parts old.held) (parts moves.able)
  stay = subst (λ (t : List (Partial Sym)). IsImage (GoesOn (IsOpen (chronicle old.plan) (levels_of old) pool settled h)) t (parts moves.able)) same_parts
      (leaves_image (IsAble old.plan old.focus h) (λ i. IsOf old.plan i × IsOver old.plan old.focus pool settled h i) (IsOpen (chronicle old.plan) (levels_of old) pool settled h)
      (λ i q p. (open_able old.plan old.focus pool settled h i q.0 q.1).1 p)
      (λ i q k. (open_able old.plan old.focus pool settled h i q.0 q.1).0 k)
      moves.passed.0 moves.able (all_both (IsOf old.plan) (IsOver old.plan old.focus pool settled h) moves.passed.0 of_mid over_mid) distinct_mid moves.passed.2)

  one_then : StandsFor (chronicle old.plan) (levels_of old) AllWanted (parts moves.able) was pool settled h g
  one_then = passed_ahead (chronicle old.plan) (levels_of old) (parts old.held) was pool settled d g h (parts moves.able) later one_now stay

  abbrev pub Full : Partial Sym → Type 0
  Full = IsRecognisedWhole (chronicle old.plan) pool settled h

  tells : (i : InstanceState) → IsOf old.plan i → IsOver old.plan old.focus pool settled h i → TellsDone old.plan h (IsRecognisedWhole (chronicle old.plan) pool settled h) i
  tells i of over = (
    λ done. done_is_recognised old.plan old.focus is.proper i of (all_some_of i.partial done.0) pool settled h over done.1,
    λ rec.
        let full : is_whole i.partial ≡ true = ap is_whole rec.1 ∙ all_some (rec.0).entries in
        (full, recognised_is_met old.plan old.focus is.proper i of (all_some_of i.partial full) pool settled h over rec),
  )

  all_tell : AllByRecursion (TellsDone old.plan h (IsRecognisedWhole (chronicle old.plan) pool settled h)) moves.able
  all_tell = each_from_in _ moves.able (λ i k. tells i (in_from_each (IsOf old.plan) moves.able of_able i k) (in_from_each (IsOver old.plan old.focus pool settled h) moves.able over_able i k))

  left : IsImage (GoesOn (IsLive (chronicle old.plan) (levels_of old) pool settled h)) (parts moves.able) (parts new.held)
  left = leaves_image (λ i. IsDone old.plan h i → ⊥) (λ i. IsOf old.plan i × IsOver old.plan old.focus pool settled h i × IsAble old.plan old.focus h i) (IsLive (chronicle old.plan) (levels_of old) pool settled h)
      (λ i q undone. ((open_able old.plan old.focus pool settled h i q.0 q.1).1 q.2, λ rec. undone ((tells i q.0 q.1).1 rec)))
      (λ i q l done. l.1 ((tells i q.0 q.1).0 done))
      moves.able new.held
      (each_from_in _ moves.able (λ i k. (in_from_each (IsOf old.plan) moves.able of_able i k, in_from_each (IsOver old.plan old.focus pool settled h) moves.able over_able i k, able_then i k)))
      one_then.distinct moves.left

  abbrev found : List Recognition
  found = moves.found.found

  image : IsImage (GoesOn (IsRecognisedWhole (chronicle old.plan) pool settled h)) (parts moves.able) (wholes moves.found.found)
  image = moves.found.are.image pool settled all_tell one_then.distinct

  one_made : (r : Recognition) → IsIn r found → IsRecognitionOfOne old.plan h old.number mark moves.able r
  one_made r k = in_from_each (IsRecognitionOfOne old.plan h old.number mark moves.able) found moves.found.are.each r k

  recognised_of : (r : Recognition) → IsIn r found → IsRecognised (chronicle old.plan) pool settled h (assignment_of r)
  recognised_of r k =
      let one = one_made r k in
      made_is_recognised old.plan old.focus is.proper one.0 (in_from_each (IsOf old.plan) moves.able of_able one.0 one.1) (all_some_of (one.0).partial (one.2).0) pool settled h (in_from_each (IsOver old.plan old.focus pool settled h) moves.able over_able one.0 one.1) (one.2).1 old.number mark r one.3

  made_of : (r : Recognition) → IsIn r found → IsRecognitionOf (chronicle old.plan) old.number mark r
  made_of r k =
      let one = one_made r k in
      made_is_of old.plan old.focus is.proper one.0 (in_from_each (IsOf old.plan) moves.able of_able one.0 one.1) (all_some_of (one.0).partial (one.2).0) old.number mark r one.3

  held_of : (r : Recognition) → IsIn r found → IsIn (whole (assignment_of r)) (parts moves.able)
  held_of r i =
      let s = image.sound (whole (assignment_of r)) (in_map (λ (t : Recognition). whole (assignment_of t)) found r i) in
      subst (λ (a : Partial Sym). IsIn a (parts moves.able)) (sym (s.2).0) s.1

  new_of : (r : Recognition) → IsIn r found → IsNew (chronicle old.plan) was (before g settled) g pool settled h (assignment_of r)
  new_of r i = (recognised_of r i, held_is_new (chronicle old.plan) is.proper.named (levels_of old) (parts moves.able) was pool settled h g h one_then (omega arith) dated in_dates (assignment_of r) (held_of r i))

  listed_all : (b : Assignment Sym) → IsNew (chronicle old.plan) was (before g settled) g pool settled h b → IsIn b (map assignment_of answer)
  listed_all b k =
      let held = new_is_held (chronicle old.plan) is.proper.named (levels_of old) (parts moves.able) was pool settled h g h one_then (omega arith) dated in_dates b k.0 k.1 in
      let there = image.complete (whole b) (whole b) held (refl, (b, refl, k.0)) in
      let r = in_map_back (λ (r : Recognition). whole (assignment_of r)) found (whole b) there in
      let same_one : b ≡ assignment_of r.0 = same_values (chronicle old.plan) is.proper.named pool pool b (assignment_of r.0) (k.0).assignment (recognised_of r.0 r.1).assignment (unwhole b.entries (assignment_of r.0).entries r.2) in
      subst (λ (t : Assignment Sym). IsIn t (map assignment_of answer)) (sym same_one) (in_map assignment_of answer r.0 (moved_in found answer moves.found.moved r.0 r.1))

  answers : IsAnswer (chronicle old.plan) old.number mark (record { pool = was; settled = before g settled; horizon = g })
      (record { pool = pool; settled = settled; horizon = h }) answer
  answers = record {
    listed = record {
      ascending = ascending pool apart found answer (each_from_in (IsOver_ pool) found (λ r i. (recognised_of r i).assignment.given)) image.distinct moves.found.moved moves.found.sorted;
      each = each_from_in (IsNew (chronicle old.plan) was (before g settled) g pool settled h) (map assignment_of answer) (λ b i.
          let r = in_map_back assignment_of answer b i in
          subst (λ (t : Assignment Sym). IsNew (chronicle old.plan) was (before g settled) g pool settled h t) (sym r.2) (new_of r.0 (moved_back found answer moves.found.moved r.0 r.1)));
      all = listed_all;
    };
    each = each_from_in (IsRecognitionOf (chronicle old.plan) old.number mark) answer (λ r i. made_of r (moved_back found answer moves.found.moved r i));
  }

  over_new : AllByRecursion (IsOver old.plan old.focus pool settled h) new.held
  over_new = leaves_each (λ i. IsDone old.plan h i → ⊥) (IsOver old.plan old.focus pool settled h) moves.able new.held over_able moves.left

  pub is_marked : IsMarked old new mark was pool settled g h answer
  is_marked = record {
    stands = record {
      stands = same_levels old new same (λ c levels. StandsFor c levels AllWanted (parts new.held) pool pool settled h h) (marked (chronicle old.plan) is.proper.named (levels_of old) (parts moves.able) was pool settled h g h one_then (omega arith) dated in_dates (parts new.held) left);
      follows = subst (λ (p : Plan). AllByRecursion (Follows p settled h) new.held) (sym same.plan) (follows_of old.plan old.focus pool settled h new.held over_new);
      judged = judged;
    };
    answers = answers;
  }

pub advanced : (old new : StoreState) → IsStore old → (history : HistoryState) (mark : Mark) (answer : List Recognition) (h : ℕ) → IsSameStore old new → new.date ≡ h → MovesOn old.plan old.focus history old.date h old.number mark old.held new.held answer → IsAdvanced old history h mark new answer
advanced old new is history mark answer h same judged moves was pool settled d g stands kept far few apart later dated in_dates =
    (is_marked old new is history mark answer h same judged moves was pool settled d g stands kept far few apart later dated in_dates)

pub advanced_from : (seen old new : StoreState) (history : HistoryState) (p : Plan) (mark : Mark) (answer : List Recognition) (h : ℕ) → seen ≡ old → IsStore seen → p ≡ seen.plan → IsSameStore seen new → new.date ≡ h → MovesOn p seen.focus history seen.date h seen.number mark seen.held new.held answer → IsAdvanced old history h mark new answer
advanced_from seen old new history p mark answer h view is sp same judged moves =
    subst (λ (o : StoreState). IsAdvanced o history h mark new answer) view
    (advanced seen new is history mark answer h same judged (subst (λ (t : Plan). MovesOn t seen.focus history seen.date h seen.number mark seen.held new.held answer) sp moves))
