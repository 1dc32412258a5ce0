-- What was done at its birth: its recognition stands for it, and nothing happens to it before the mark.
use Rattle.std.proofs.Common.{Bool, ◌≡◌, ℕ, ◌<◌, List, [], ◌∷◌, ◌++◌, length, map, refl, sym, ap, subst, ◌∙◌, inl, inr, arith, append-nil, append_assoc}
use Rattle.std.specs.Prelude.{IfSome, slice_get, true}
use Rattle.std.specs.List.{AllByRecursion, AllZip, range_with_len}
use Rattle.std.proofs.lemmas.List.{ext_get_or, length-map, map-append, nil_from_length}
use Rattle.std.proofs.lemmas.List.FromFn.{length-map-range_with_len, get_or-map-range_with_len}
use Rattle.crs_base.specs.declared.symbols.Sym.{Sym}
use Rattle.crs_base.specs.Entry.{Entry}
use Rattle.crs_base.specs.Sifted.{Sifts}
use Rattle.crs_base.specs.Words.{IsIn, Ordered}
use Rattle.crs_base.proofs.Alls.{all_append, all_left, all_put}
use Rattle.crs_base.proofs.Sifted.{sifts_append}
use Rattle.crs_base.proofs.Words.{in_append, in_append_left, in_append_right, in_from_each, each_from_in, in_map, in_map_back}
use Rattle.crs_history.specs.Histories.{HistoryState}
use Rattle.crs_model.specs.declared.plan.Plan.{Plan}
use Rattle.crs_model.specs.declared.recognition.Mark.{Mark}
use Rattle.crs_model.specs.declared.recognition.Recognition.{Recognition}
use Rattle.crs_model.specs.Images.{IsImage}
use Rattle.crs_model.specs.Models.{Window}
use Rattle.crs_model.specs.Open.{IsRecognisedWhole, whole}
use Rattle.crs_model.specs.Partial.{Partial}
use Rattle.crs_model.specs.Plans.{chronicle, IsProper}
use Rattle.crs_model.specs.Scans.{IsForkByLevel}
use Rattle.crs_model.specs.SeenModels.{assignment_of, window_of}
use Rattle.crs_model.specs.Steps.{GoesOn}
use Rattle.crs_model.proofs.Images.{image_more}
use Rattle.crs_model.proofs.Options.{some_if, get_within}
use Rattle.crs_instance.specs.Instances.{InstanceState, IsOf, no_window, window_at}
use Rattle.crs_instance.proofs.BindSteps.{most_is, least_is}
use Rattle.crs_store.specs.Answers.{AreFound, IsRecognitionOfOne, TellsDone, wholes}
use Rattle.crs_store.specs.Forkings.{AreForksOfAll}
use Rattle.crs_store.specs.Found.{FindsOne, dates_left, found_state, founds, held_in, numbered}
use Rattle.crs_store.specs.Joins.{ComesTo, ComesOrGoes, Renews}
use Rattle.crs_focus.specs.PlanLevels.{levels_in}
use Rattle.crs_living.specs.Slots.{SlotsState, members}
use Rattle.crs_living.specs.Parts.{AllOf, parts}
use Rattle.crs_living.specs.Done.{is_whole, IsDone}
use Rattle.crs_store.specs.Sweeps.{IsFree}
use Rattle.crs_living.specs.Windows.{IsAble, IsBegun, IsFollowed, IsOpenBut, IsOver, IsPassed}
use Rattle.crs_store.proofs.Advancing.{all_some_of}
use Rattle.crs_store.proofs.Finding.{all_some}
use Rattle.crs_store.proofs.Gathered.{widen}
use Rattle.crs_store.proofs.Prompting.{all_stay}

-- ---- what a recognition stands for

pub found_partial : (plan : Plan) (r : Recognition) → (found_state plan r).partial ≡ whole (assignment_of r)
unfolding found_state
found_partial plan r = refl

pub found_binding : (plan : Plan) (r : Recognition) → (found_state plan r).binding ≡ r.binding
unfolding found_state
found_binding plan r = refl

found_progress : (plan : Plan) (r : Recognition) → (found_state plan r).progress ≡ []
unfolding found_state
found_progress plan r = refl

-- the dates of an instance of the plan are those that are left
windows_left : (plan : Plan) → IsProper plan → (i : InstanceState) → IsOf plan i → map (dates_left plan i.partial) (range_with_len 0 plan.network.points) ≡ i.windows
windows_left plan proper i of =
    ext_get_or no_window (map (dates_left plan i.partial) (range_with_len 0 plan.network.points)) i.windows (long ∙ sym of.window_count) (λ p l. (
    let inside : p < plan.network.points = (let n = long in omega arith) in
    get_or-map-range_with_len (dates_left plan i.partial) 0 plan.network.points p p no_window inside (omega arith) ∙ same p inside
    ))
  where
    long : length (map (dates_left plan i.partial) (range_with_len 0 plan.network.points)) ≡ plan.network.points
    long = length-map-range_with_len (dates_left plan i.partial) 0 plan.network.points

    same : (p : ℕ) → p < plan.network.points → dates_left plan i.partial p ≡ window_at i.windows p
    same p l = λ k. record { least = sym (least_is plan proper i of p l) k; most = sym (most_is plan proper i of p l) k }

found_so : (plan : Plan) (r : Recognition) (i : InstanceState) → i.partial ≡ whole (assignment_of r) → r.binding ≡ i.binding → map (dates_left plan i.partial) (range_with_len 0 plan.network.points) ≡ i.windows → i.progress ≡ [] → found_state plan r ≡ i
unfolding found_state
found_so plan r i part bound dates none =
    let left : map (dates_left plan (whole (assignment_of r))) (range_with_len 0 plan.network.points) ≡ i.windows = subst (λ (a : Partial Sym). map (dates_left plan a) (range_with_len 0 plan.network.points) ≡ i.windows) part dates in
    (λ k. record { partial = sym part k; binding = bound k; windows = left k; progress = sym none k })

-- the recognition of a whole instance stands for it, where the chronicle has no windows
pub found_is : (plan : Plan) → IsProper plan → (i : InstanceState) → IsOf plan i → length plan.chronicle.windows ≡ 0 → (r : Recognition) → i.partial ≡ whole (assignment_of r) → r.binding ≡ i.binding → found_state plan r ≡ i
found_is plan proper i of none r part bound = found_so plan r i part bound (windows_left plan proper i of) (nil_from_length i.progress (of.followed ∙ none))

pub parts_found : (plan : Plan) (rs : List Recognition) → parts (founds plan rs) ≡ wholes rs
parts_found plan [] = refl
parts_found plan (r ∷ rs) = λ k. found_partial plan r k ∷ parts_found plan rs k

-- ---- where there are no windows

module _ (plan : Plan) (none : length plan.chronicle.windows ≡ 0) where
  windowless : (k : ℕ) (P : Window Sym → Type 0) → IfSome (slice_get (chronicle plan).windows k) P
  windowless k P = some_if (slice_get (chronicle plan).windows k) P (λ w is. let l = get_within (chronicle plan).windows k w is in let m = length-map plan.chronicle.windows window_of in absurd (omega arith))

  followed_still : (history : HistoryState) (x : Entry Sym) (since : ℕ) (i : InstanceState) → IsFollowed plan history x since i i
  followed_still history x since i = record { same = record { same = refl; len = refl }; gains = λ k. omega arith; follows = λ settled up read low f k. windowless k _ }

  pub passed_still : (history : HistoryState) (since h : ℕ) (i : InstanceState) → IsPassed plan history since h i i
  passed_still history since h i = record { same = record { same = refl; len = refl }; gains = λ k. omega arith; follows = λ settled up read low f k. windowless k _ }

  pub begun_still : (history : HistoryState) (since : ℕ) (parent i : InstanceState) → IsBegun plan history since parent i i
  begun_still history since parent i = record { same = record { same = refl; len = refl }; follows = λ entries kept few starts more f k. windowless k _ }

  pub whole_able : (focus : Bool) (h : ℕ) (i : InstanceState) → IsOf plan i → is_whole i.partial ≡ true → IsAble plan focus h i
  whole_able focus h i of full =
      let m = of.dates in (
        (m.0, m.1, m.2, λ f w. absurd (all_some_of i.partial full f w.within w.unbound)),
        λ k. windowless k _,
      )

  whole_done : (h : ℕ) (i : InstanceState) → is_whole i.partial ≡ true → IsDone plan h i
  whole_done h i full = (full, λ k l. absurd (omega arith))

-- ---- lists

zip_append : {A : Type 0} (R : A → A → Type 0) (xs ys us vs : List A) → AllZip R xs ys → AllZip R us vs → AllZip R (xs ++ us) (ys ++ vs)
zip_append R [] [] us vs z w = w
zip_append R [] (y ∷ ys) us vs z w = absurd z
zip_append R (x ∷ xs) [] us vs z w = absurd z
zip_append R (x ∷ xs) (y ∷ ys) us vs z w = (z.0, zip_append R xs ys us vs z.1 w)

zip_still : {A : Type 0} (R : A → A → Type 0) (xs : List A) → AllByRecursion (λ x. R x x) xs → AllZip R xs xs
zip_still R [] h = tt
zip_still R (x ∷ xs) h = (h.0, zip_still R xs h.1)

sifts_whole : {A : Type 0} (P : A → Type 0) (xs : List A) → AllByRecursion P xs → Sifts P xs xs
sifts_whole P [] h = refl
sifts_whole P (x ∷ xs) h = inl (h.0, xs, refl, sifts_whole P xs h.1)

sifts_none : {A : Type 0} (P : A → Type 0) (xs : List A) → AllByRecursion (λ x. P x → ⊥) xs → Sifts P xs []
sifts_none P [] h = refl
sifts_none P (x ∷ xs) h = inr (h.0, sifts_none P xs h.1)

ordered_left : {A : Type 0} (R : A → A → Type 0) (xs ys : List A) → Ordered R (xs ++ ys) → Ordered R xs
ordered_left R [] ys o = tt
ordered_left R (x ∷ xs) ys o = (all_left (R x) xs ys o.0, ordered_left R xs ys o.1)

ordered_right : {A : Type 0} (R : A → A → Type 0) (xs ys : List A) → Ordered R (xs ++ ys) → Ordered R ys
ordered_right R [] ys o = o
ordered_right R (x ∷ xs) ys o = ordered_right R xs ys o.1

apart_both : {A : Type 0} (xs ys : List A) → Ordered (λ a b. a ≡ b → ⊥) (xs ++ ys) → (a : A) → IsIn a xs → IsIn a ys → ⊥
apart_both [] ys o a i j = i
apart_both {A} (x ∷ xs) ys o a (inl e) j = in_from_each (λ (b : A). x ≡ b → ⊥) (xs ++ ys) o.0 a (in_append_right xs ys a j) (sym e)
apart_both (x ∷ xs) ys o a (inr i) j = apart_both xs ys o.1 a i j

pub renews_more : (R : InstanceState → InstanceState → Type 0) (Able : InstanceState → Type 0) (old new more : List InstanceState) → AllByRecursion (λ i. R i i) more → AllByRecursion Able more → Renews R Able old new → Renews R Able (old ++ more) (new ++ more)
renews_more R Able old new more still able r = (r.0 ++ more, zip_append R old r.0 more more r.1 (zip_still R more still), sifts_append Able r.0 new more more r.2 (sifts_whole Able more able))

-- where no date passes all stay
pub passed_nowhere : (plan : Plan) (focus : Bool) (history : HistoryState) (since h : ℕ) → since ≡ h → (is : List InstanceState) → AllByRecursion (IsAble plan focus since) is → Renews (IsPassed plan history since h) (IsAble plan focus h) is is
passed_nowhere plan focus history since h same is able =
    subst (λ (n : ℕ). Renews (IsPassed plan history since n) (IsAble plan focus n) is is) same
    (renews_more (IsPassed plan history since since) (IsAble plan focus since) [] [] is
    (each_from_in (λ i. IsPassed plan history since since i i) is (λ i k. record { same = record { same = refl; len = refl }; gains = λ k. omega arith; follows = λ settled up read low f. f })) able ([], tt, refl))

-- one that comes in front of others does so before more
pub comes_before : (i : InstanceState) (old new more : List InstanceState) → ComesTo i old new → ComesTo i (old ++ more) (new ++ more)
comes_before i old new more c = (c.0, c.1 ++ more, ap (λ (t : List InstanceState). t ++ more) c.2 ∙ append_assoc c.0 c.1 more, ap (λ (t : List InstanceState). t ++ more) c.3 ∙ append_assoc c.0 (i ∷ c.1) more)

-- ---- nothing comes of a whole one

pub forks_more : (plan : Plan) (focus : Bool) (Out : Partial Sym → Type 0) (history : HistoryState) (x : Entry Sym) (since until : ℕ) (kept more out : List InstanceState) → AllByRecursion (λ i. is_whole i.partial ≡ true) more → AreForksOfAll plan focus Out history x since until kept out → AreForksOfAll plan focus Out history x since until (kept ++ more) out
forks_more plan focus Out history x since until kept more out full forks pool entries now later over ready =
    let level = levels_in plan focus in
    let From = IsForkByLevel level (IsOpenBut plan focus Out pool entries until) x in
    let split : parts (kept ++ more) ≡ parts kept ++ parts more = map-append (λ (i : InstanceState). i.partial) kept more in
    let free = subst (AllByRecursion (IsFree x)) split ready.0 in
    let apart = subst (Ordered (λ (a b : Partial Sym). a ≡ b → ⊥)) split ready.1 in
    let made = forks pool entries now later (all_left (IsOver plan focus pool entries since) kept more over) (all_left (IsFree x) (parts kept) (parts more) free, ordered_left (λ (a b : Partial Sym). a ≡ b → ⊥) (parts kept) (parts more) apart) in (
      subst (λ (t : List (Partial Sym)). IsImage From t (parts out)) (sym split)
          (widen From (parts kept) (parts kept ++ parts more) (parts out) (λ a k. in_append_left (parts kept) (parts more) a k)
          (λ a y k f. elim (in_append (parts kept) (parts more) a k) [
            | inl j ↦ j
            | inr j ↦ (
                let m = in_map_back (λ (i : InstanceState). i.partial) more a j in
                let w = (f.1).0 in
                absurd (all_some_of a (subst (λ (t : Partial Sym). is_whole t ≡ true) (sym m.2) (in_from_each (λ (i : InstanceState). is_whole i.partial ≡ true) more full m.0 m.1)) f.0 w.within w.unbound))
          ]) made.0),
      made.1,
    )

-- ---- those that recognitions stand for

module _ (plan : Plan) (rs : List Recognition) (all : AllOf plan (founds plan rs)) where
  each_found : (P : InstanceState → Type 0) → ((r : Recognition) → length plan.chronicle.windows ≡ 0 → IsOf plan (found_state plan r) → is_whole (found_state plan r).partial ≡ true → P (found_state plan r)) → AllByRecursion P (founds plan rs)
  each_found P one = each_from_in P (founds plan rs) (λ i k.
      let m = in_map_back (found_state plan) rs i k in
      let of : IsOf plan (found_state plan m.0) = subst (IsOf plan) m.2 (in_from_each (IsOf plan) (founds plan rs) all i k) in
      subst P (sym m.2) (one m.0 (sym of.followed ∙ ap length (found_progress plan m.0)) of (ap is_whole (found_partial plan m.0) ∙ all_some (assignment_of m.0).entries)))

  pub founds_whole : AllByRecursion (λ i. is_whole i.partial ≡ true) (founds plan rs)
  founds_whole = each_found (λ i. is_whole i.partial ≡ true) (λ r none of full. full)

  pub founds_able : (focus : Bool) (h : ℕ) → AllByRecursion (IsAble plan focus h) (founds plan rs)
  founds_able focus h = each_found (IsAble plan focus h) (λ r none of full. whole_able plan none focus h (found_state plan r) of full)

  pub founds_followed : (focus : Bool) (history : HistoryState) (x : Entry Sym) (since h : ℕ) (old new : List InstanceState) → Renews (IsFollowed plan history x since) (IsAble plan focus h) old new → Renews (IsFollowed plan history x since) (IsAble plan focus h) (old ++ founds plan rs) (new ++ founds plan rs)
  founds_followed focus history x since h old new r = renews_more (IsFollowed plan history x since) (IsAble plan focus h) old new (founds plan rs) (each_found (λ i. IsFollowed plan history x since i i) (λ r none of full. followed_still plan none history x since (found_state plan r))) (founds_able focus h) r

  pub founds_passed : (focus : Bool) (history : HistoryState) (since h : ℕ) (old new : List InstanceState) → Renews (IsPassed plan history since h) (IsAble plan focus h) old new → Renews (IsPassed plan history since h) (IsAble plan focus h) (old ++ founds plan rs) (new ++ founds plan rs)
  founds_passed focus history since h old new r = renews_more (IsPassed plan history since h) (IsAble plan focus h) old new (founds plan rs) (each_found (λ i. IsPassed plan history since h i i) (λ r none of full. passed_still plan none history since h (found_state plan r))) (founds_able focus h) r

  pub founds_all : (slots : SlotsState) → AllOf plan (members slots.slots) → AllOf plan (held_in plan slots rs)
  founds_all slots here = all_append (IsOf plan) (members slots.slots) (founds plan rs) here all

  founds_done : (h : ℕ) → AllByRecursion (IsDone plan h) (founds plan rs)
  founds_done h = each_found (IsDone plan h) (λ r none of full. whole_done plan none h (found_state plan r) full)

  -- ---- at a mark

  -- none of them is left
  pub founds_left : (h : ℕ) (held left : List InstanceState) → Sifts (λ i. IsDone plan h i → ⊥) held left → Sifts (λ i. IsDone plan h i → ⊥) (held ++ founds plan rs) left
  founds_left h held left s =
      subst (λ (t : List InstanceState). Sifts (λ i. IsDone plan h i → ⊥) (held ++ founds plan rs) t) (append-nil left)
      (sifts_append (λ i. IsDone plan h i → ⊥) held left (founds plan rs) [] s (sifts_none (λ i. IsDone plan h i → ⊥) (founds plan rs) (each_from_in (λ i. (IsDone plan h i → ⊥) → ⊥) (founds plan rs) (λ i k undone. undone (in_from_each (IsDone plan h) (founds plan rs) (founds_done h) i k)))))

  module _ (h number : ℕ) (mark : Mark) where
    wholes_numbered : (ss : List Recognition) → wholes (map (numbered number mark) ss) ≡ wholes ss
    wholes_numbered [] = refl
    wholes_numbered (s ∷ ss) = λ k. whole (assignment_of s) ∷ wholes_numbered ss k

    -- they and those that leave their places are the answer
    module _ (held : List InstanceState) (ripe : List Recognition) (are : AreFound plan h number mark held ripe) where
      abbrev all_held : List InstanceState
      all_held = held ++ founds plan rs

      abbrev all_found : List Recognition
      all_found = map (numbered number mark) rs ++ ripe

      of_found : (r : Recognition) → IsIn r (map (numbered number mark) rs) → IsRecognitionOfOne plan h number mark all_held r
      of_found r k =
          let m = in_map_back (numbered number mark) rs r k in
          let i = in_map (found_state plan) rs m.0 m.1 in
          subst (IsRecognitionOfOne plan h number mark all_held) (sym m.2) (
            found_state plan m.0,
            in_append_right held (founds plan rs) (found_state plan m.0) i,
            in_from_each (IsDone plan h) (founds plan rs) (founds_done h) (found_state plan m.0) i,
            record { chronicle = refl; mark = refl; entries = found_partial plan m.0; binding = sym (found_binding plan m.0) },
          )

      of_ripe : (r : Recognition) → IsIn r ripe → IsRecognitionOfOne plan h number mark all_held r
      of_ripe r k = let o = in_from_each (IsRecognitionOfOne plan h number mark held) ripe are.each r k in (o.0, in_append_left held (founds plan rs) o.0 o.1, o.2, o.3)

      found_image : (pool entries : List (Entry Sym)) → AllByRecursion (TellsDone plan h (IsRecognisedWhole (chronicle plan) pool entries h)) all_held → Ordered (λ a b. a ≡ b → ⊥) (parts all_held) → IsImage (GoesOn (IsRecognisedWhole (chronicle plan) pool entries h)) (parts all_held) (wholes all_found)
      found_image pool entries tells apart =
          let Full = IsRecognisedWhole (chronicle plan) pool entries h in
          let fs : List InstanceState = founds plan rs in
          let split : parts all_held ≡ parts held ++ parts fs = map-append (λ (i : InstanceState). i.partial) held fs in
          let two = subst (Ordered (λ (a b : Partial Sym). a ≡ b → ⊥)) split apart in
          let ours : IsImage (GoesOn Full) (parts held) (wholes ripe) = are.image pool entries (all_left (TellsDone plan h Full) held fs tells) (ordered_left (λ (a b : Partial Sym). a ≡ b → ⊥) (parts held) (parts fs) two) in
          let full : (a : Partial Sym) → IsIn a (parts fs) → Full a = (λ a k.
          let m = in_map_back (λ (i : InstanceState). i.partial) fs a k in
          subst (λ (t : Partial Sym). Full t) (sym m.2) ((in_from_each (TellsDone plan h Full) all_held tells m.0 (in_append_right held fs m.0 m.1)).0 (in_from_each (IsDone plan h) fs (founds_done h) m.0 m.1))) in
          let theirs : IsImage (GoesOn Full) (parts fs) (parts fs) = all_stay Full (parts fs) (ordered_right (λ (a b : Partial Sym). a ≡ b → ⊥) (parts held) (parts fs) two) full in
          let these : IsImage (GoesOn Full) (parts fs) (wholes (map (numbered number mark) rs)) = subst (λ (t : List (Partial Sym)). IsImage (GoesOn Full) (parts fs) t) (parts_found plan rs ∙ sym (wholes_numbered rs)) theirs in
          let both : IsImage (GoesOn Full) (parts fs ++ parts held) (wholes (map (numbered number mark) rs) ++ wholes ripe) = image_more (GoesOn Full) (parts fs) (parts held) (wholes (map (numbered number mark) rs)) (wholes ripe) (λ a b y i j f g. sym f.0 ∙ g.0) (λ a i j. apart_both (parts held) (parts fs) two a j i) these ours in
          subst (λ (t : List (Partial Sym)). IsImage (GoesOn Full) t (wholes all_found)) (sym split)
          (subst (λ (t : List (Partial Sym)). IsImage (GoesOn Full) (parts held ++ parts fs) t) (sym (map-append (λ (r : Recognition). whole (assignment_of r)) (map (numbered number mark) rs) ripe))
          (widen (GoesOn Full) (parts fs ++ parts held) (parts held ++ parts fs) (wholes (map (numbered number mark) rs) ++ wholes ripe) (λ a k. swap (parts fs) (parts held) a k) (λ a y k f. swap (parts held) (parts fs) a k) both))
        where
          swap : (xs ys : List (Partial Sym)) (a : Partial Sym) → IsIn a (xs ++ ys) → IsIn a (ys ++ xs)
          swap xs ys a k = elim (in_append xs ys a k) [ inl i ↦ in_append_right ys xs a i | inr j ↦ in_append_left ys xs a j ]

      pub founds_found : AreFound plan h number mark (held ++ founds plan rs) (map (numbered number mark) rs ++ ripe)
      founds_found = record {
        each = all_append (IsRecognitionOfOne plan h number mark (held ++ founds plan rs)) (map (numbered number mark) rs) ripe (each_from_in (IsRecognitionOfOne plan h number mark (held ++ founds plan rs)) (map (numbered number mark) rs) of_found) (each_from_in (IsRecognitionOfOne plan h number mark (held ++ founds plan rs)) ripe of_ripe);
        image = found_image;
      }

-- ---- one more

pub find_comes : (plan : Plan) → IsProper plan → (slots : SlotsState) (i : InstanceState) → IsOf plan i → length plan.chronicle.windows ≡ 0 → (old new : List Recognition) → FindsOne i old new → ComesTo i (held_in plan slots old) (held_in plan slots new)
find_comes plan proper slots i of none old new f =
    let is : found_state plan f.one ≡ i = found_is plan proper i of none f.one f.is.entries f.is.binding in
    let more : founds plan new ≡ founds plan old ++ i ∷ [] = ap (founds plan) f.added ∙ map-append (found_state plan) old (f.one ∷ []) ∙ ap (λ (t : InstanceState). founds plan old ++ t ∷ []) is in
    (held_in plan slots old, [], sym (append-nil (held_in plan slots old)), ap (λ (t : List InstanceState). members slots.slots ++ t) more ∙ sym (append_assoc (members slots.slots) (founds plan old) (i ∷ [])))

pub find_all : (plan : Plan) → IsProper plan → (i : InstanceState) → IsOf plan i → length plan.chronicle.windows ≡ 0 → (old new : List Recognition) → FindsOne i old new → AllOf plan (founds plan old) → AllOf plan (founds plan new)
find_all plan proper i of none old new f all =
    let is : found_state plan f.one ≡ i = found_is plan proper i of none f.one f.is.entries f.is.binding in
    subst (AllOf plan) (sym (ap (founds plan) f.added ∙ map-append (found_state plan) old (f.one ∷ []) ∙ ap (λ (t : InstanceState). founds plan old ++ t ∷ []) is)) (all_put (IsOf plan) (founds plan old) i all of)

-- one that comes to a place does so among all
pub comes_or_goes : (plan : Plan) (Out : InstanceState → Type 0) (i : InstanceState) (old new : SlotsState) (found : List Recognition) → ComesOrGoes Out i (members old.slots) (members new.slots) → ComesOrGoes Out i (held_in plan old found) (held_in plan new found)
comes_or_goes plan Out i old new found (inl c) = inl (comes_before i (members old.slots) (members new.slots) (founds plan found) c)
comes_or_goes plan Out i old new found (inr g) = inr (g.0, ap (λ (t : List InstanceState). t ++ founds plan found) g.1)
