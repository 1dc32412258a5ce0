-- What comes of the instances of a prompt chronicle.
use Rattle.std.proofs.Common.{Bool, true, false, ◌≡◌, ℕ, List, [], ◌∷◌, ◌++◌, refl, sym, ap, subst, ◌∙◌, inl, arith}
use Rattle.std.specs.Prelude.{Some, Result, OnOk}
use Rattle.std.proofs.lemmas.Result.{on_ok_weaker}
use Rattle.std.specs.List.{AllByRecursion}
use Rattle.std.proofs.lemmas.List.{map-append}
use Rattle.crs_base.specs.declared.symbols.Sym.{Sym}
use Rattle.crs_base.specs.Words.{IsIn, Ordered}
use Rattle.crs_base.specs.Entry.{Entry}
use Rattle.crs_base.proofs.Alls.{all_each, all_both, all_append}
use Rattle.crs_base.proofs.Words.{in_append_left, in_append_right, in_from_each, each_from_in, in_map_back}
use Rattle.crs_history.specs.Histories.{HistoryState}
use Rattle.crs_history.proofs.FarBack.{far_later}
use Rattle.crs_model.specs.declared.plan.Plan.{Plan}
use Rattle.crs_model.specs.Images.{IsImage}
use Rattle.crs_model.specs.Partial.{Partial, at, IsLevelClosed}
use Rattle.crs_model.specs.Plans.{chronicle, IsProper}
use Rattle.crs_model.specs.Scans.{GoesOnByLevel}
use Rattle.crs_model.specs.Steps.{GoesOn}
use Rattle.crs_model.proofs.Options.{of_some}
use Rattle.crs_model.proofs.ScanImages.{both_by_level}
use Rattle.crs_instance.specs.Instances.{InstanceState, IsOf}
use Rattle.crs_instance.specs.Followed.{Follows}
use Rattle.crs_living.specs.Ahead.{MayBecome}
use Rattle.crs_store.specs.Forkings.{AreForksOfAll}
use Rattle.crs_store.specs.Joins.{Renews}
use Rattle.crs_focus.specs.PlanLevels.{levels_in}
use Rattle.crs_living.specs.Parts.{parts, AllOf}
use Rattle.crs_store.specs.Stores.{StoreState, IsStore, Stands, StandsComing, IsSameStore, levels_of, IsOfferedPrompt, IsOfferedPromptAhead, IsSettledWith, IsSettledComing}
use Rattle.crs_model.specs.Open.{StandsFor}
use Rattle.crs_living.specs.Windows.{IsAble, IsOver, IsOpenAt, IsFollowed}
use Rattle.crs_store.specs.Sweeps.{IsReady, IsFree, TakesPrompt, TakesPromptSome, SettlesIn}
use Rattle.crs_living.specs.Now.{IsNow}
use Rattle.crs_store.proofs.Ahead.{some_stand, itself}
use Rattle.crs_store.proofs.Joined.{parts_sub}
use Rattle.crs_living.proofs.Leaving.{leaves_image, leaves_each}
use Rattle.crs_store.proofs.Overtaken.{forks_all}
use Rattle.crs_living.proofs.Overs.{open_able, floor_early}
use Rattle.crs_store.proofs.Prompted.{came_to_pool, was_settled}
use Rattle.crs_store.proofs.Standing.{zip_all, parts_same, zip_of, over_of, follows_of, same_levels, wanted_stays, coming_of}

-- ---- images

pub all_stay : (Fine : Partial Sym → Type 0) (xs : List (Partial Sym)) → Ordered (λ a b. a ≡ b → ⊥) xs → ((a : Partial Sym) → IsIn a xs → Fine a) → IsImage (GoesOn Fine) xs xs
all_stay Fine xs apart fine = record {
  distinct = apart;
  sound = λ y i. (y, i, (refl, fine y i));
  complete = λ a y i g. subst (λ (t : Partial Sym). IsIn t xs) (sym g.0) i;
}

not_read : (b : Bool) → b ≡ false → b ≡ true → ⊥
not_read b f t = cc

-- ---- an entry comes to the pool

pub taken_prompt : (plan : Plan) (focus : Bool) (Out : Partial Sym → Type 0) → ((a : Partial Sym) → Out a → ⊥) → IsProper plan → focus ≡ false → (history : HistoryState) (x : Entry Sym) (g : ℕ) (held born : List InstanceState) → AllOf plan held → AllByRecursion (IsAble plan focus g) held → AreForksOfAll plan focus Out history x g g held born → TakesPrompt plan focus history x g held (held ++ born)
taken_prompt plan focus Out never proper flat history x g held born all able forks pool entries early read inside over ready =
    let level = levels_in plan focus in
    let big : List (Entry Sym) = pool ++ x ∷ [] in
    let Fine = IsOpenAt plan focus big entries g in
    let now : IsNow plan focus history x g big entries = record {
      read = read;
      there = in_append_right pool (x ∷ []) x (inl refl);
      early = early;
      inside = λ e i. in_append_left pool (x ∷ []) e (inside e i);
      whole = λ t. absurd (not_read focus flat t);
    } in
    let over_big : AllByRecursion (IsOver plan focus big entries g) held = all_each {P = IsOver plan focus pool entries g} held (λ i o. record { given = λ e y k. in_append_left pool (x ∷ []) y (o.given e y k); closed = o.closed; follows = o.follows }) over in
    let fine : (a : Partial Sym) → IsIn a (parts held) → Fine a = (λ a k.
    let m = in_map_back (λ (t : InstanceState). t.partial) held a k in
    subst (λ (t : Partial Sym). Fine t) (sym m.2) ((open_able plan focus big entries g m.0 (in_from_each (IsOf plan) held all m.0 m.1) (in_from_each (IsOver plan focus big entries g) held over_big m.0 m.1)).1 (in_from_each (IsAble plan focus g) held able m.0 m.1))) in
    let stays : IsImage (GoesOn Fine) (parts held) (parts held) = all_stay Fine (parts held) ready.1 fine in
    let made = forks big entries now (omega arith) over_big ready in
    let im = both_by_level level Fine (λ b o. o.closed) (λ b o. o.partial.distinct) x (parts held) (parts held) (parts born) (λ a i. in_from_each (IsFree x) (parts held) ready.0 a i) stays (forks_all level Fine Out x (parts held) (parts born) never made.0) in (
      subst (λ (t : List (Partial Sym)). IsImage (GoesOnByLevel level Fine x) (parts held) t) (sym (map-append (λ (i : InstanceState). i.partial) held born)) im,
      all_append (IsOver plan focus big entries g) held born over_big made.1,
    )

-- ---- an entry of the pool is settled

pub settled_anew : (plan : Plan) (focus : Bool) → IsProper plan → (history : HistoryState) (x : Entry Sym) (since : ℕ) (held kept : List InstanceState) → AllOf plan held → Renews (IsFollowed plan history x since) (IsAble plan focus x.date) held kept → SettlesIn plan focus history x since held kept
settled_anew plan focus proper history x since held kept all renews pool settled up read low over apart =
    let entries : List (Entry Sym) = settled ++ x ∷ [] in
    let Fine = IsOpenAt plan focus pool entries x.date in
    let mid : List InstanceState = renews.0 in
    let followed = renews.1 in
    let left = renews.2 in
    let same : parts mid ≡ parts held = parts_same (IsFollowed plan history x since) (λ a b r. r.same) held mid followed in
    let over_mid : AllByRecursion (IsOver plan focus pool entries x.date) mid = zip_all (IsFollowed plan history x since) (IsOver plan focus pool settled since) (IsOver plan focus pool entries x.date) (λ a b r o. record {
      given = λ e y k. o.given e y (sym (ap (λ (t : InstanceState). at t.partial e) r.same.same) ∙ k);
      closed = subst (λ (t : InstanceState). IsLevelClosed (levels_in plan focus) t.partial) (sym r.same.same) o.closed;
      follows = r.follows settled up read low o.follows;
    }) held mid followed over in
    let of_mid : AllOf plan mid = zip_of plan (IsFollowed plan history x since) (λ a b r. r.same) held mid followed all in (
      subst (λ (t : List (Partial Sym)). IsImage (GoesOn Fine) t (parts kept)) same
          (leaves_image (IsAble plan focus x.date) (λ i. IsOf plan i × IsOver plan focus pool entries x.date i) Fine
          (λ i q p. (open_able plan focus pool entries x.date i q.0 q.1).1 p) (λ i q f. (open_able plan focus pool entries x.date i q.0 q.1).0 f) mid kept (all_both (IsOf plan) (IsOver plan focus pool entries x.date) mid of_mid over_mid)
          (subst (Ordered (λ a b. a ≡ b → ⊥)) (sym same) apart) left),
      leaves_each (IsAble plan focus x.date) (IsOver plan focus pool entries x.date) mid kept over_mid left,
    )

-- ---- the store

module _ (old new : StoreState) (history : HistoryState) (x : Entry Sym) (is : IsStore old) (same : IsSameStore old new) where
  module _ (whole all coming was pool settled : List (Entry Sym)) (d g h : ℕ) (stands : StandsComing old whole all coming was pool settled d g h) where
    given : (a : Partial Sym) → IsIn a (parts old.held) → (e : ℕ) (y : Entry Sym) → at a e ≡ Some y → IsIn y pool
    given a i e y j = of_some (at a e) y _ j ((stands.stands.each a i).0.partial.given e)

    over : AllByRecursion (IsOver old.plan old.focus pool settled d) old.held
    over = over_of old.plan old.focus pool settled d old.held given (λ a i. (stands.stands.each a i).0.closed) stands.follows

  pub store_prompted : (ahead : List (Entry Sym)) (beyond : ℕ) → new.date ≡ old.date → TakesPromptSome old.plan old.focus history x old.date ahead beyond old.held new.held → IsOfferedPromptAhead old history x ahead beyond new
  store_prompted ahead beyond judged takes whole all coming was pool settled g h stands near kept far few fresh dated =
      let c = chronicle old.plan in
      let level = levels_of old in
      let big : List (Entry Sym) = pool ++ x ∷ [] in
      let one = stands.stands in
      let made : List InstanceState = takes.0 in
      let taken = subst (λ (k : ℕ). TakesPrompt old.plan old.focus history x k old.held made) stands.judged takes.1 in
      let ready : IsReady x (parts old.held) = (each_from_in (IsFree x) (parts old.held) (λ a i e j. fresh x (given whole all (x ∷ coming) was pool settled g g h stands a i e x j) refl), one.distinct) in
      let r = taken pool settled dated (record { kept = kept; few = few; far = far }) one.entries_in (over whole all (x ∷ coming) was pool settled g g h stands) ready in
      let came = came_to_pool c level (parts old.held) (parts made) was pool settled g g x dated whole all coming h one fresh r.0 in
      let some = some_stand c level (MayBecome c level whole all coming h) (parts made) (parts new.held) was big settled g g came (takes.2.apart came.distinct) (parts_sub made new.held takes.2.back) (wanted_stays old.plan is.proper old.focus whole all coming ahead beyond h made new.held near takes.2.each) in
      record {
        stands = same_levels old new same (λ c levels. StandsFor c levels (MayBecome c levels whole all coming h) (parts new.held) was big settled g g) some;
        follows = subst (λ (p : Plan). AllByRecursion (Follows p settled g) new.held) (sym same.plan) (each_from_in (Follows old.plan settled g) new.held (λ i k. (in_from_each (IsOver old.plan old.focus big settled g) made r.1 i (takes.2.back i k)).follows));
        judged = judged ∙ stands.judged;
      }

  pub store_settled : new.date ≡ x.date → SettlesIn old.plan old.focus history x old.date old.held new.held → IsSettledComing old history x new
  store_settled judged takes whole all coming was pool settled d g h stands kept far few inside dated =
      let c = chronicle old.plan in
      let level = levels_of old in
      let one = stands.stands in
      let far_d = far_later old.plan.reach g d history.floor one.marked far in
      let taken = subst (λ (k : ℕ). SettlesIn old.plan old.focus history x k old.held new.held) stands.judged takes in
      let r = taken pool settled dated (record { kept = kept; few = few; far = far_d }) (floor_early old.plan is.proper d history.floor far_d) (over whole all coming was pool settled d g h stands) one.distinct in
      record {
        stands = same_levels old new same (λ c levels. StandsFor c levels (MayBecome c levels whole all coming h) (parts new.held) was pool (settled ++ x ∷ []) x.date g) (was_settled c level (parts old.held) (parts new.held) was pool settled d g x dated (MayBecome c level whole all coming h) one x.date dated inside r.0);
        follows = subst (λ (p : Plan). AllByRecursion (Follows p (settled ++ x ∷ []) x.date) new.held) (sym same.plan) (follows_of old.plan old.focus pool (settled ++ x ∷ []) x.date new.held r.1);
        judged = judged;
      }

pub prompted_from : (seen old new : StoreState) (history : HistoryState) (x : Entry Sym) (ahead : List (Entry Sym)) (beyond : ℕ) (p : Plan) → seen ≡ old → IsStore seen → p ≡ seen.plan → IsSameStore seen new → new.date ≡ seen.date → TakesPromptSome p seen.focus history x seen.date ahead beyond seen.held new.held → IsOfferedPromptAhead old history x ahead beyond new
prompted_from seen old new history x ahead beyond p view is sp same judged takes =
    subst (λ (o : StoreState). IsOfferedPromptAhead o history x ahead beyond new) view
    (store_prompted seen new history x is same ahead beyond judged (subst (λ (t : Plan). TakesPromptSome t seen.focus history x seen.date ahead beyond seen.held new.held) sp takes))

pub settled_from : (seen old new : StoreState) (history : HistoryState) (x : Entry Sym) → seen ≡ old → IsStore seen → IsSameStore seen new → new.date ≡ x.date → Renews (IsFollowed seen.plan history x seen.date) (IsAble seen.plan seen.focus x.date) seen.held new.held → IsSettledComing old history x new
settled_from seen old new history x view is same judged renews =
    subst (λ (o : StoreState). IsSettledComing o history x new) view
    (store_settled seen new history x is same judged (settled_anew seen.plan seen.focus is.proper history x seen.date seen.held new.held is.instances renews))

-- ---- where nothing is coming

exact_of : (s : StoreState) (was pool entries : List (Entry Sym)) (d g : ℕ) → StandsComing s pool entries [] was pool entries d g d → Stands s was pool entries d g
exact_of s was pool entries d g k = record {
  stands = record {
    was_in = k.stands.was_in;
    entries_in = k.stands.entries_in;
    marked = k.stands.marked;
    distinct = k.stands.distinct;
    each = k.stands.each;
    all = λ a o w. k.stands.all a o (itself (chronicle s.plan) (levels_of s) (parts s.held) was pool entries d g d a o.0);
  };
  follows = k.follows;
  judged = k.judged;
}

pub offered_exact : {E : Type 0} (r : Result Unit E) (old new : StoreState) (history : HistoryState) (x : Entry Sym) → OnOk r (IsOfferedPromptAhead old history x [] 0 new) → OnOk r (IsOfferedPrompt old history x new)
offered_exact r old new history x = on_ok_weaker r (λ h was pool settled g stands kept far few fresh dated.
    let big : List (Entry Sym) = pool ++ x ∷ [] in
    exact_of new was big settled g g (h big settled [] was pool settled g g (coming_of old big settled (x ∷ []) was pool settled g g g stands) (record { each = λ y i. absurd i; within = omega arith }) kept far few fresh dated))

pub settled_exact : (old new : StoreState) (history : HistoryState) (x : Entry Sym) → IsSettledComing old history x new → IsSettledWith old history x new
settled_exact old new history x h was pool settled d g stands kept far few inside dated =
    let now : List (Entry Sym) = settled ++ x ∷ [] in
    exact_of new was pool now x.date g (h pool now [] was pool settled d g x.date (coming_of old pool now [] was pool settled d g x.date stands) kept far few inside dated)
