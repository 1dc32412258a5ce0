-- The forks of what stands in places.
use Rattle.std.proofs.Common.{false, true, Bool, ◌≡◌, ℕ, zero, suc, ◌<◌, ◌≤◌, ◌+◌, ◌*◌, List, [], ◌∷◌, ◌++◌, length, take, get_or, refl, sym, ap, subst, ◌∙◌, ◌⊎◌, inl, inr, arith, append_assoc, append-nil, length-append, drop}
use Rattle.std.proofs.Math.Nat.{mul-add}
use Rattle.std.proofs.lemmas.Bool.Decides.{eqb_tells}
use Rattle.std.proofs.lemmas.List.{length-map, map-append, take_more, take_all}
use Rattle.std.proofs.lemmas.Cmp.{ranked}
use Rattle.std.specs.Prelude.{Option, Some, None, IfSome, slice_get, slice_index_or, replicate}
use Rattle.std.specs.List.{AllByRecursion, AllZip}
use Rattle.std.specs.List.Sorted.{IsStrictlySortedBy}
use Rattle.std.specs.Ordering.{nat_cmp}
use Rattle.std.specs.declared.cmp.Ordering.TheVariants.{Less}
use Rattle.std.specs.Option.{option_to_list}
use Rattle.crs_agenda.specs.declared.timed.Handle.{Handle}
use Rattle.crs_base.specs.declared.symbols.Sym.{Sym}
use Rattle.crs_base.specs.Words.{IsIn, Ordered}
use Rattle.crs_base.specs.Entry.{Entry}
use Rattle.crs_base.proofs.Alls.{all_append, all_each}
use Rattle.crs_base.proofs.Words.{in_append, in_append_left, in_append_right, in_from_each, in_map, in_map_back, ordered_append}
use Rattle.crs_history.specs.Histories.{HistoryState}
use Rattle.crs_index.specs.declared.key.Key.{Key}
use Rattle.crs_index.specs.Indexes.{IndexState, Cleans, bucket_at, number_of}
use Rattle.crs_instance.specs.Instances.{InstanceState, IsOf, CanBe, IsBoundBy}
use Rattle.crs_model.specs.declared.plan.Plan.{Plan}
use Rattle.crs_model.specs.Images.{IsImage}
use Rattle.crs_model.specs.Models.{EventDef}
use Rattle.crs_model.specs.Partial.{Partial, put, GivesNoneTwice, IsAwaited, IsLevelClosed}
use Rattle.crs_model.specs.Scans.{GrowsTo, StartsAt, IsForkByLevel}
use Rattle.crs_model.specs.Plans.{chronicle, IsProper}
use Rattle.crs_model.specs.SeenModels.{event_of}
use Rattle.crs_model.proofs.Images.{image_one}
use Rattle.crs_model.proofs.ScanImages.{one_parent, same_event}
use Rattle.crs_instance.proofs.Openings.{beginnings_can_be}
use Rattle.crs_waiting.specs.declared.hooks.Hook.{Hook}
use Rattle.crs_instance.proofs.BindAnswers.{get-replicate}
use Rattle.crs_model.specs.Bindings.{look_of, Looser}
use Rattle.crs_model.specs.Matching.{Binding, PatternIs}
use Rattle.crs_model.proofs.Options.{of_some}
use Rattle.crs_store.specs.Agreeing.{Agree, IsTaken}
use Rattle.crs_store.specs.Forkings.{HaveWindow, NoneWait, IsNoted, AreCandidates, KeepsStanding, AreLinkedAt, AreSought, standing, ComeOf, IsForkWith, IsForkBelow, AreForksBut, AreForksOfPlaces, AreForksOfEvent, AreForksOfAll}
use Rattle.crs_waiting.specs.Hooks.{IsHookAt, IsHookOfEvent, KeepsFresh, picked_symbols, picked_arguments}
use Rattle.crs_waiting.specs.Links.{hook_at, IsHeldBack, IsNext}
use Rattle.crs_living.specs.Slots.{SlotsState, slot_at, handle_at, members}
use Rattle.crs_living.specs.Parts.{parts, AllOf}
use Rattle.crs_focus.specs.PlanLevels.{levels_in}
use Rattle.crs_living.specs.Scannings.{Adds}
use Rattle.crs_living.specs.Windows.{IsAble, IsOpenBut, IsOver}
use Rattle.crs_store.proofs.Chosen.{Ascends, standing_part, standing_in, part_few, part_map, part_ordered}
use Rattle.crs_waiting.proofs.Fitting.{inside_window, fits, binding_grows, fits_hook, fits_part}
use Rattle.crs_living.proofs.Members.{at_within, at_member, member_at}
use Rattle.crs_store.proofs.Noting.{fresh_at, get_any, cleans_keep, in_bucket}

-- ---- the handles of a bucket, one after another

pub record AreTried (slots : SlotsState) (e d : ℕ) (symbols : List (Option Sym)) (handles : List Handle) (old new : List ℕ) : Type 0 where
  pub noted : (h : Handle) → IsIn h handles → IsNoted slots e d symbols new h.place
  pub kept : (p : ℕ) → IsIn p old → IsIn p new

pub tried_more : (slots : SlotsState) (e d : ℕ) (symbols : List (Option Sym)) (handles : List Handle) (k : ℕ) (z : Handle) (old now new : List ℕ) → k < length handles → AreTried slots e d symbols (take k handles) old now → IsNoted slots e d symbols new (get_or handles k z).place → ((p : ℕ) → IsIn p now → IsIn p new) → AreTried slots e d symbols (take (k + 1) handles) old new
tried_more slots e d symbols handles k z old now new l a n keeps = record {
  noted = λ h j. elim (in_append (take k handles) (get_or handles k z ∷ []) h (subst (λ (t : List Handle). IsIn h t) (take_more handles k (get_or handles k z) l ∙ ap (λ (t : Handle). take k handles ++ t ∷ []) (get_any handles k (get_or handles k z) z l)) j)) [
    | inl b ↦ (λ i s w m. keeps h.place (a.noted h b i s w m))
    | inr b ↦ elim b [ inl s ↦ subst (λ (t : Handle). IsNoted slots e d symbols new t.place) (sym s) n | inr never ↦ absurd never ]
  ];
  kept = λ p i. keeps p (a.kept p i);
}

stands_fresh : (slots : SlotsState) → length slots.serials ≡ length slots.slots → (p : ℕ) (i : InstanceState) → slot_at slots p ≡ Some i → p < length slots.serials
stands_fresh slots len p i s = let l = at_within slots.slots p i s in omega arith

pub keeps_standing : (slots : SlotsState) → length slots.serials ≡ length slots.slots → (old new : IndexState) → KeepsFresh slots.serials old new → KeepsStanding slots old new
keeps_standing slots len old new keeps k p i s w = keeps k (handle_at slots p) (fresh_at slots.serials p (stands_fresh slots len p i s)) w

pub tried_whole : (slots : SlotsState) → length slots.serials ≡ length slots.slots → (e d : ℕ) (symbols : List (Option Sym)) (old new : IndexState) (n : ℕ) (key : Key) → number_of old key ≡ Some n → Cleans old new n slots.serials → (handles : List Handle) (k : ℕ) → length handles ≤ k → handles ≡ bucket_at new.buckets n → (was places : List ℕ) → AreTried slots e d symbols (take k handles) was places → AreCandidates slots old key e d symbols places
tried_whole slots len e d symbols old new n key numbered cleans handles k l are was places tried p w i s inside agrees =
    let whole : AreTried slots e d symbols handles was places = subst (λ (t : List Handle). AreTried slots e d symbols t was places) (take_all k handles l) tried in
    let kept = cleans_keep old new n slots.serials cleans key (handle_at slots p) (fresh_at slots.serials p (stands_fresh slots len p i s)) w in
    whole.noted (handle_at slots p) (subst (λ (t : List Handle). IsIn (handle_at slots p) t) (sym are) (in_bucket new key n (handle_at slots p) (cleans.numbers key ∙ numbered) kept)) i s inside agrees

pub have_window : (plan : Plan) → IsProper plan → (slots : SlotsState) → AllOf plan (members slots.slots) → (e : ℕ) → e < length plan.chronicle.events → HaveWindow slots e
have_window plan proper slots all e l p i s = let of = in_from_each (IsOf plan) (members slots.slots) all i (at_member slots.slots p i s) in let a = of.window_count in let b = proper.points in omega arith

-- those that were sought are among more places too
pub sought_kept : (slots : SlotsState) (index : IndexState) (hook : Hook) (skips : Bool) (args : List Sym) (e d : ℕ) (symbols : List (Option Sym)) (these those : List ℕ) → ((p : ℕ) → IsIn p these → IsIn p those) → AreSought slots index hook skips args e d symbols these → AreSought slots index hook skips args e d symbols those
sought_kept slots index hook skips args e d symbols these those still (inl all) = inl (λ p i s. still p (all p i s))
sought_kept slots index hook skips args e d symbols these those still (inr some) = inr ((λ part is p w i s inside agrees. still p (some.0 part is p w i s inside agrees)), some.1)

in_none : {A : Type 0} (xs : List A) (x : A) → length xs ≡ 0 → IsIn x xs → ⊥
in_none [] x e i = i
in_none (y ∷ xs) x e i = absurd (omega arith)

-- ---- symbols that agree

-- where both are part of one, they agree
both_below : (one other all : Binding Sym) → Looser one all → Looser other all → Agree one other
both_below one other all l m v x y a b =
    let s = l v x a in
    let t = m v y b in
    cc

-- nothing bound is part of all
none_looser : (n : ℕ) (all : Binding Sym) → Looser (look_of (replicate n None)) all
none_looser n all v x e = let none : look_of (replicate n None) v ≡ None = get-replicate n v None in absurd cc

unnamed : (o : Option ℕ) (f : ℕ) → o ≡ None → o ≡ Some f → ⊥
unnamed o f n s = cc

-- ---- the forks at one event

module _ (level : ℕ → ℕ) (Fine : Partial Sym → Type 0) (closed : (b : Partial Sym) → Fine b → IsLevelClosed level b) (apart : (b : Partial Sym) → Fine b → GivesNoneTwice b) (x : Entry Sym) (e : ℕ) where
  one_fork : (a : Partial Sym) (fs : List (Partial Sym)) → IsImage (StartsAt level Fine x a) (e ∷ []) fs → IsImage (IsForkWith level x e Fine) (a ∷ []) fs
  one_fork a fs h = record {
    distinct = h.distinct;
    sound = λ y i. let r = h.sound y i in (a, inl refl, elim r.1 [ inl s ↦ subst (λ (z : ℕ). StartsAt level Fine x a z y) s r.2 | inr never ↦ absurd never ]);
    complete = λ b y i g. elim i [ inl s ↦ h.complete e y (inl refl) (subst (λ (z : Partial Sym). StartsAt level Fine x z e y) s g) | inr never ↦ absurd never ];
  }

  pub with_one_more : (done : List InstanceState) (i : InstanceState) (out more : List InstanceState) → ((a : Partial Sym) → IsIn a (parts done) → IsLevelClosed level a) → IsLevelClosed level i.partial → (IsIn i.partial (parts done) → ⊥)
      → IsImage (IsForkWith level x e Fine) (parts done) (parts out) → IsImage (StartsAt level Fine x i.partial) (e ∷ []) (parts more) → IsImage (IsForkWith level x e Fine) (parts (done ++ i ∷ [])) (parts (out ++ more))
  with_one_more done i out more all here fresh h f =
      subst (λ (t : List (Partial Sym)). IsImage (IsForkWith level x e Fine) t (parts (out ++ more))) (sym (map-append (λ (s : InstanceState). s.partial) done (i ∷ [])))
      (subst (λ (t : List (Partial Sym)). IsImage (IsForkWith level x e Fine) (parts done ++ i.partial ∷ []) t) (sym (map-append (λ (s : InstanceState). s.partial) out more))
      (image_one (IsForkWith level x e Fine) (parts done) i.partial (parts out) (parts more)
      (λ a y j s t. one_parent level Fine closed apart x a i.partial y (all a j) here (e, s) (e, t)) fresh h (one_fork i.partial (parts more) f)))

pub widen : {A B : Type 0} (From : A → B → Type 0) (chosen all : List A) (out : List B) → ((a : A) → IsIn a chosen → IsIn a all) → ((a : A) (y : B) → IsIn a all → From a y → IsIn a chosen) → IsImage From chosen out → IsImage From all out
widen From chosen all out up down h = record {
  distinct = h.distinct;
  sound = λ y i. let r = h.sound y i in (r.0, up r.0 r.1, r.2);
  complete = λ a y i f. h.complete a y (down a y i f) f;
}

-- ---- the forks at the events one after another

module _ (level : ℕ → ℕ) (Fine : Partial Sym → Type 0) (closed : (b : Partial Sym) → Fine b → IsLevelClosed level b) (apart : (b : Partial Sym) → Fine b → GivesNoneTwice b) (x : Entry Sym) where
  pub below_more : (done out new : List (Partial Sym)) (n : ℕ) → IsImage (IsForkBelow level x n Fine) done out → IsImage (IsForkWith level x n Fine) done new → IsImage (IsForkBelow level x (n + 1) Fine) done (out ++ new)
  below_more done out new n h k = record {
    distinct = ordered_append (λ a b. a ≡ b → ⊥) out new h.distinct k.distinct (λ y z i j q.
        let r = h.sound y i in
        let s = k.sound z j in
        let f = r.2 in
        let same = same_event level Fine closed apart x r.0 s.0 y f.0 n f.2 (subst (λ (w : Partial Sym). StartsAt level Fine x s.0 n w) (sym q) s.2) in
        let l = f.1 in omega arith);
    sound = λ y i. elim (in_append out new y i) [
      | inl u ↦ let r = h.sound y u in (r.0, r.1, ((r.2).0, (let l = (r.2).1 in omega arith), (r.2).2))
      | inr u ↦ let r = k.sound y u in (r.0, r.1, (n, omega arith, r.2))
    ];
    complete = λ a y i f. elim (eqb_tells f.0 n) [
      | inl s ↦ in_append_right out new y (k.complete a y i (subst (λ (z : ℕ). StartsAt level Fine x a z y) s.1 f.2))
      | inr o ↦ in_append_left out new y (h.complete a y i (f.0, (let l = f.1 in let m = o.1 in omega arith), f.2))
    ];
  }

  pub below_all : (done out : List (Partial Sym)) (n : ℕ) → ((a : Partial Sym) → IsIn a done → length a ≡ n) → IsImage (IsForkBelow level x n Fine) done out → IsImage (IsForkByLevel level Fine x) done out
  below_all done out n long h = record {
    distinct = h.distinct;
    sound = λ y i. let r = h.sound y i in (r.0, r.1, ((r.2).0, (r.2).2));
    complete = λ a y i f. h.complete a y i (f.0, (let l = (f.1).0.within in let m = long a i in omega arith), f.1);
  }

-- ---- the places, one after another

-- what came of the places that aren't left
pub record IsSwept (plan : Plan) (focus : Bool) (Out : Partial Sym → Type 0) (history : HistoryState) (x : Entry Sym) (since until : ℕ) (slots : SlotsState) (e : ℕ) (all rest : List ℕ) (out : List InstanceState) (start now : ℕ) : Type 0 where
  pub done : List InstanceState
  pub split : standing slots.slots all ≡ done ++ standing slots.slots rest
  pub sorted : Ascends rest → Ascends all
  pub of : AllOf plan out
  pub able : AllByRecursion (IsAble plan focus until) out
  pub image : ComeOf (IsForkWith (levels_in plan focus) x e) plan focus Out history x since until (members slots.slots) done out
  pub cost : focus ≡ false → now ≤ start + length done

standing_back : (xs : List (Option InstanceState)) (ps : List ℕ) (i : InstanceState) → IsIn i (standing xs ps) → IsIn i (members xs)
standing_back xs [] i j = absurd j
standing_back xs (p ∷ ps) i j = elim (in_append (option_to_list (slice_index_or xs p None)) (standing xs ps) i j) [
  | inl k ↦ by (slice_index_or xs p None) refl k
  | inr k ↦ standing_back xs ps i k
]
  where
    by : (o : Option InstanceState) → slice_index_or xs p None ≡ o → IsIn i (option_to_list o) → IsIn i (members xs)
    by None s k = absurd k
    by (Some f) s (inl k) = at_member xs p i (s ∙ ap Some (sym k))
    by (Some f) s (inr k) = absurd k

module _ (plan : Plan) (focus : Bool) (Out : Partial Sym → Type 0) (history : HistoryState) (x : Entry Sym) (since until : ℕ) (slots : SlotsState) (e : ℕ) where
  sorted_back : (all : List ℕ) (p : ℕ) (rest left : List ℕ) → rest ≡ p ∷ left → AllByRecursion (λ q. p < q) left → (Ascends rest → Ascends all) → Ascends left → Ascends all
  sorted_back all p rest left s above h o = h (subst Ascends (sym s) (above, o))

  pub swept_skip : (all : List ℕ) (p : ℕ) (rest left : List ℕ) (out : List InstanceState) (start now : ℕ) → rest ≡ p ∷ left → AllByRecursion (λ q. p < q) left → slot_at slots p ≡ None → IsSwept plan focus Out history x since until slots e all rest out start now → IsSwept plan focus Out history x since until slots e all left out start now
  swept_skip all p rest left out start now s above none h = record {
    done = h.done;
    split = h.split ∙ ap (λ (t : List ℕ). h.done ++ standing slots.slots t) s ∙ ap (λ (o : Option InstanceState). h.done ++ (option_to_list o ++ standing slots.slots left)) none;
    sorted = sorted_back all p rest left s above h.sorted;
    of = h.of;
    able = h.able;
    image = h.image;
    cost = h.cost;
  }

  -- what all that stand in ascending places cost at most
  few : (all : List ℕ) (done rest : List InstanceState) → Ascends all → standing slots.slots all ≡ done ++ rest → length done + length rest ≤ length (members slots.slots)
  few all done rest o s = let l = part_few (standing slots.slots all) (members slots.slots) (standing_part slots.slots all o) in omega (arith, ap length s, length-append done rest)

  -- no two that stand in ascending places are the same
  apart_from : (all : List ℕ) (done : List InstanceState) (i : InstanceState) (rest : List InstanceState) → Ascends all → standing slots.slots all ≡ done ++ i ∷ rest → Ordered (λ a b. a ≡ b → ⊥) (parts (members slots.slots)) → IsIn i.partial (parts done) → ⊥
  apart_from all done i rest o s distinct j =
      let d : Ordered (λ a b. a ≡ b → ⊥) (parts (standing slots.slots all)) = part_ordered (λ a b. a ≡ b → ⊥) (parts (standing slots.slots all)) (parts (members slots.slots)) (part_map (λ (s : InstanceState). s.partial) (standing slots.slots all) (members slots.slots) (standing_part slots.slots all o)) distinct in
      by (parts done) (parts rest) (subst (λ (t : List (Partial Sym)). Ordered (λ a b. a ≡ b → ⊥) t) (ap parts s ∙ map-append (λ (s : InstanceState). s.partial) done (i ∷ rest)) d) j
    where
      by : (these those : List (Partial Sym)) → Ordered (λ a b. a ≡ b → ⊥) (these ++ i.partial ∷ those) → IsIn i.partial these → ⊥
      by [] those k m = m
      by (a ∷ these) those k (inl m) = in_from_each (λ z. a ≡ z → ⊥) (these ++ i.partial ∷ those) k.0 i.partial (in_append_right these (i.partial ∷ those) i.partial (inl refl)) (sym m)
      by (a ∷ these) those k (inr m) = by these those k.1 m

  pub swept_more : (all : List ℕ) (p : ℕ) (rest left : List ℕ) (i : InstanceState) (out new : List InstanceState) (start now next : ℕ) → rest ≡ p ∷ left → AllByRecursion (λ q. p < q) left → Ascends left → slot_at slots p ≡ Some i → (focus ≡ false → next ≤ now + 1)
      → Adds plan focus until (AreForksBut plan focus Out history x since until i e) out new → IsSwept plan focus Out history x since until slots e all rest out start now → IsSwept plan focus Out history x since until slots e all left new start next
  swept_more all p rest left i out new start now next s above ascends here step adds h =
      let split : standing slots.slots all ≡ h.done ++ (i ∷ standing slots.slots left) = h.split ∙ ap (λ (t : List ℕ). h.done ++ standing slots.slots t) s ∙ ap (λ (q : Option InstanceState). h.done ++ (option_to_list q ++ standing slots.slots left)) here in
      let sorted = sorted_back all p rest left s above h.sorted in
      record {
        done = h.done ++ i ∷ [];
        split = split ∙ sym (append_assoc h.done (i ∷ []) (standing slots.slots left));
        sorted = sorted;
        of = subst (AllOf plan) (sym adds.grown) (all_append (IsOf plan) out adds.more h.of adds.of);
        able = subst (AllByRecursion (IsAble plan focus until)) (sym adds.grown) (all_append (IsAble plan focus until) out adds.more h.able adds.able);
        image = subst (λ (t : List InstanceState). ComeOf (IsForkWith (levels_in plan focus) x e) plan focus Out history x since until (members slots.slots) (h.done ++ i ∷ []) t) (sym adds.grown) (λ pool entries now later over ready.
            let member = at_member slots.slots p i here in
            let closed_in : (j : InstanceState) → IsIn j (members slots.slots) → IsLevelClosed (levels_in plan focus) j.partial = (λ j k. (in_from_each (IsOver plan focus pool entries since) (members slots.slots) over j k).closed) in
            let f = adds.are pool entries now later (in_from_each (IsOver plan focus pool entries since) (members slots.slots) over i member) in
            let k = h.image pool entries now later over ready in (
              with_one_more (levels_in plan focus) (IsOpenBut plan focus Out pool entries until) (λ b o. (o.0).closed) (λ b o. (o.0).partial.distinct) x e h.done i out adds.more
                  (λ a j. let r = in_map_back (λ (s : InstanceState). s.partial) h.done a j in
                  subst (IsLevelClosed (levels_in plan focus)) (sym r.2) (closed_in r.0 (standing_back slots.slots all r.0 (subst (IsIn r.0) (sym split) (in_append_left h.done (i ∷ standing slots.slots left) r.0 r.1)))))
                  (closed_in i member)
                  (apart_from all h.done i (standing slots.slots left) (sorted ascends) split ready.1) k.0 f.0,
              all_append (IsOver plan focus pool entries until) out adds.more k.1 f.1,
            ));
        cost = λ flat. let c = h.cost flat in let d = step flat in omega (arith, length-append h.done (i ∷ []));
      }

  -- where the loop is left
  pub swept_within : (all rest : List ℕ) (out : List InstanceState) (start now : ℕ) → Ascends rest → IsSwept plan focus Out history x since until slots e all rest out start now → focus ≡ false → now ≤ start + length (members slots.slots)
  swept_within all rest out start now o h flat = let c = h.cost flat in let f = few all h.done (standing slots.slots rest) (h.sorted o) h.split in omega arith

  pub swept_next : (all : List ℕ) (p : ℕ) (rest left : List ℕ) (i : InstanceState) (out : List InstanceState) (start now next : ℕ) → rest ≡ p ∷ left → AllByRecursion (λ q. p < q) left → Ascends left → slot_at slots p ≡ Some i → (focus ≡ false → next ≤ now + 1)
      → IsSwept plan focus Out history x since until slots e all rest out start now → focus ≡ false → next ≤ start + length (members slots.slots)
  swept_next all p rest left i out start now next s above ascends here step h flat =
      let split : standing slots.slots all ≡ h.done ++ (i ∷ standing slots.slots left) = h.split ∙ ap (λ (t : List ℕ). h.done ++ standing slots.slots t) s ∙ ap (λ (q : Option InstanceState). h.done ++ (option_to_list q ++ standing slots.slots left)) here in
      let c = h.cost flat in
      let d = step flat in
      let f = few all h.done (i ∷ standing slots.slots left) (sorted_back all p rest left s above h.sorted ascends) split in
      omega arith

  pub swept_whole : (all rest : List ℕ) (out : List InstanceState) (start now : ℕ) → rest ≡ [] → IsSwept plan focus Out history x since until slots e all rest out start now → AreForksOfPlaces plan focus Out history x since until slots e all out
  swept_whole all rest out start now s h =
      subst (λ (t : List InstanceState). ComeOf (IsForkWith (levels_in plan focus) x e) plan focus Out history x since until (members slots.slots) t out) (sym (h.split ∙ ap (λ (t : List ℕ). h.done ++ standing slots.slots t) s ∙ append-nil h.done)) h.image

  -- where none was looked at
  pub swept_none : (all : List ℕ) (start : ℕ) → IsSwept plan focus Out history x since until slots e all all [] start start
  swept_none all start = record {
    done = [];
    split = refl;
    sorted = λ o. o;
    of = tt;
    able = tt;
    image = λ pool entries now later over ready. (record { distinct = tt; sound = λ y k. absurd k; complete = λ a y k f. absurd k }, tt);
    cost = λ flat. omega arith;
  }

  -- ---- from the candidates to all

  event_there : e < length plan.chronicle.events → (def : EventDef Sym) × (slice_get (chronicle plan).events e ≡ Some def)
  event_there l = by (chronicle plan).events e (let a = length-map plan.chronicle.events event_of in omega arith)
    where
      by : (vs : List (EventDef Sym)) (k : ℕ) → k < length vs → (def : EventDef Sym) × (slice_get vs k ≡ Some def)
      by [] k m = absurd (omega arith)
      by (v ∷ vs) zero m = (v, refl)
      by (v ∷ vs) (suc k) m = by vs k (omega arith)

  module _ (proper : IsProper plan) (all : AllOf plan (members slots.slots)) (inside : e < length plan.chronicle.events) (hook : Hook) (hooked : IsHookAt plan e hook) where
    module _ (pool entries : List (Entry Sym)) (i : InstanceState) (j : IsIn i (members slots.slots)) (y : Partial Sym) (f : IsForkWith (levels_in plan focus) x e (IsOpenBut plan focus Out pool entries until) i.partial y) where
      of_one : IsOf plan i
      of_one = in_from_each (IsOf plan) (members slots.slots) all i j

      can_one : CanBe plan (put i.partial e x)
      can_one = beginnings_can_be plan (levels_in plan focus) pool entries until (put i.partial e x) y (f.1).part (f.1).len (f.2).0

      name_one : hook.name ≡ x.name
      name_one = let v = event_there inside in fits_hook plan proper i of_one e x inside (f.0).unbound can_one hook hooked v.0 v.1

      can_said : (v : EventDef Sym) → slice_get (chronicle plan).events e ≡ Some v → PatternIs can_one.look v.pattern x
      can_said v is = fits plan proper i of_one e x inside (f.0).unbound can_one v is

      -- it leaves the symbols that the event's pattern has in x
      agrees_one : (symbols : List (Option Sym)) → IsTaken plan e x (Some symbols) → Agree (look_of i.binding) (look_of symbols)
      agrees_one symbols taken =
          let v = event_there inside in
          let t : IsBoundBy (chronicle plan) (v.0).pattern (replicate (length plan.chronicle.variables) None) x (Some symbols) = of_some (slice_get (chronicle plan).events e) v.0 _ v.1 taken in
          both_below (look_of i.binding) (look_of symbols) can_one.look (binding_grows plan proper i of_one e x inside (f.0).unbound can_one) ((t.0).least can_one.look (none_looser (length plan.chronicle.variables) can_one.look) (can_said v.0 v.1))

      -- and there are such symbols
      never_refused : IsTaken plan e x None → ⊥
      never_refused taken =
          let v = event_there inside in
          let t : IsBoundBy (chronicle plan) (v.0).pattern (replicate (length plan.chronicle.variables) None) x None = of_some (slice_get (chronicle plan).events e) v.0 _ v.1 taken in
          t can_one.look (none_looser (length plan.chronicle.variables) can_one.look) (can_said v.0 v.1) can_one.allowed

      found_one : (symbols : List (Option Sym)) → IsTaken plan e x (Some symbols) → (index : IndexState) (skips : Bool) (places : List ℕ) → (skips ≡ true → IsHeldBack (levels_in plan focus) hook i.partial → Out y) → AreLinkedAt plan focus hook slots index e x.date → AreSought slots index hook skips x.args e x.date symbols places → IsIn i (standing slots.slots places)
      found_one symbols taken index skips places out linked sought =
          let v = event_there inside in
          let m = member_at slots.slots i j in
          let w = inside_window plan proper i of_one e x inside (f.0).unbound can_one in
          let a = agrees_one symbols taken in
          let part = fits_part plan proper i of_one e x inside (f.0).unbound can_one hook hooked v.0 v.1 in
          elim sought [
            | inl all ↦ standing_in slots.slots places m.0 i (all m.0 i m.1) m.1
            | inr some ↦
                let free : IsHeldBack (levels_in plan focus) hook i.partial → ⊥ = (λ back. elim some.1 [
                  | inl skip ↦ (f.2).1 (out skip back)
                  | inr none ↦ unnamed hook.before back.0 none back.1
                ]) in
                let next : IsNext (levels_in plan focus) hook i.partial e = record { awaited = f.0; free = free } in
                standing_in slots.slots places m.0 i (some.0 (picked_symbols hook (look_of i.binding)) part m.0 (linked m.0 i m.1 next w.not_soon) i m.1 w a) m.1
          ]

    -- where none comes of any
    none_come : ((pool entries : List (Entry Sym)) (i : InstanceState) → IsIn i (members slots.slots) → (y : Partial Sym) → IsForkWith (levels_in plan focus) x e (IsOpenBut plan focus Out pool entries until) i.partial y → ⊥) → AreForksOfEvent plan focus Out history x since until slots e []
    none_come never = λ pool entries now later over ready. (
      record {
        distinct = tt;
        sound = λ y k. absurd k;
        complete = λ a y k f.
            let r = in_map_back (λ (s : InstanceState). s.partial) (members slots.slots) a k in
            absurd (never pool entries r.0 r.1 y (subst (λ (z : Partial Sym). IsForkWith (levels_in plan focus) x e (IsOpenBut plan focus Out pool entries until) z y) r.2 f));
      },
      tt,
    )

    -- where the name is another
    pub none_named : (hook.name ≡ x.name → ⊥) → AreForksOfEvent plan focus Out history x since until slots e []
    none_named other = none_come (λ pool entries i j y f. other (name_one pool entries i j y f))

    -- where the event's pattern refuses x
    pub none_taken : IsTaken plan e x None → AreForksOfEvent plan focus Out history x since until slots e []
    none_taken taken = none_come (λ pool entries i j y f. never_refused pool entries i j y f taken)

    -- where nothing is held
    pub none_held : length (members slots.slots) ≡ 0 → AreForksOfEvent plan focus Out history x since until slots e []
    none_held empty = none_come (λ pool entries i j y f. in_none (members slots.slots) i empty j)

    -- where none waits for such an entry, and what comes of one that is held back is left out
    pub none_waits : (index : IndexState) (skips : Bool)
        → ((a y : Partial Sym) → IsAwaited (levels_in plan focus) a e → GrowsTo (levels_in plan focus) (levels_in plan focus e) (put a e x) y → skips ≡ true → IsHeldBack (levels_in plan focus) hook a → Out y)
        → AreLinkedAt plan focus hook slots index e x.date → NoneWait index (picked_arguments hook x.args) e → (skips ≡ true) ⊎ (hook.before ≡ None) → AreForksOfEvent plan focus Out history x since until slots e []
    none_waits index skips held linked none free = none_come (λ pool entries i j y f.
        let v = event_there inside in
        let m = member_at slots.slots i j in
        let of = of_one pool entries i j y f in
        let can = can_one pool entries i j y f in
        let w = inside_window plan proper i of e x inside (f.0).unbound can in
        let part = fits_part plan proper i of e x inside (f.0).unbound can hook hooked v.0 v.1 in
        let here : IsHeldBack (levels_in plan focus) hook i.partial → ⊥ = (λ back. elim free [
          | inl skip ↦ (f.2).1 (held i.partial y f.0 f.1 skip back)
          | inr bare ↦ unnamed hook.before back.0 bare back.1
        ]) in
        let next : IsNext (levels_in plan focus) hook i.partial e = record { awaited = f.0; free = here } in
        none (picked_symbols hook (look_of i.binding)) part (handle_at slots m.0) (linked m.0 i m.1 next w.not_soon))

    -- those that were noted are enough, where what comes of one that is held back is left out if such are skipped
    pub all_found : (symbols : List (Option Sym)) → IsTaken plan e x (Some symbols) → (index : IndexState) (skips : Bool) (places : List ℕ) (out : List InstanceState)
        → ((a y : Partial Sym) → IsAwaited (levels_in plan focus) a e → GrowsTo (levels_in plan focus) (levels_in plan focus e) (put a e x) y → skips ≡ true → IsHeldBack (levels_in plan focus) hook a → Out y)
        → AreLinkedAt plan focus hook slots index e x.date → AreSought slots index hook skips x.args e x.date symbols places
        → AreForksOfPlaces plan focus Out history x since until slots e places out → AreForksOfEvent plan focus Out history x since until slots e out
    all_found symbols taken index skips places out held linked sought h = λ pool entries now later over ready.
        let k = h pool entries now later over ready in (
          widen (IsForkWith (levels_in plan focus) x e (IsOpenBut plan focus Out pool entries until)) (parts (standing slots.slots places)) (parts (members slots.slots)) (parts out)
              (λ a j. let r = in_map_back (λ (s : InstanceState). s.partial) (standing slots.slots places) a j in subst (λ (z : Partial Sym). IsIn z (parts (members slots.slots))) (sym r.2) (in_map (λ (s : InstanceState). s.partial) (members slots.slots) r.0 (standing_back slots.slots places r.0 r.1)))
              (λ a y j f. let r = in_map_back (λ (s : InstanceState). s.partial) (members slots.slots) a j in
              subst (λ (z : Partial Sym). IsIn z (parts (standing slots.slots places))) (sym r.2) (in_map (λ (s : InstanceState). s.partial) (standing slots.slots places) r.0
              (let g = subst (λ (z : Partial Sym). IsForkWith (levels_in plan focus) x e (IsOpenBut plan focus Out pool entries until) z y) r.2 f in
              found_one pool entries r.0 r.1 y g symbols taken index skips places (held (r.0).partial y g.0 g.1) linked sought)))
              k.0,
          k.1,
        )

-- ---- all events

-- what came of the events below n
pub record AreGathered (plan : Plan) (focus : Bool) (Out : Partial Sym → Type 0) (history : HistoryState) (x : Entry Sym) (since until : ℕ) (slots : SlotsState) (n : ℕ) (out : List InstanceState) : Type 0 where
  pub of : AllOf plan out
  pub able : AllByRecursion (IsAble plan focus until) out
  pub image : ComeOf (IsForkBelow (levels_in plan focus) x n) plan focus Out history x since until (members slots.slots) (members slots.slots) out

module _ (plan : Plan) (focus : Bool) (Out : Partial Sym → Type 0) (history : HistoryState) (x : Entry Sym) (since until : ℕ) (slots : SlotsState) where
  member_long : AllOf plan (members slots.slots) → (a : Partial Sym) → IsIn a (parts (members slots.slots)) → length a ≡ length plan.chronicle.events
  member_long all a j = let r = in_map_back (λ (s : InstanceState). s.partial) (members slots.slots) a j in ap length r.2 ∙ (in_from_each (IsOf plan) (members slots.slots) all r.0 r.1).len

  pub gathered_none : (out : List InstanceState) → out ≡ [] → AreGathered plan focus Out history x since until slots 0 out
  gathered_none out none = rw none (record {
    of = tt;
    able = tt;
    image = λ pool entries now later over ready. (record { distinct = tt; sound = λ y k. absurd k; complete = λ a y k f. absurd (let l = f.1 in omega arith) }, tt);
  })

  pub gathered_more : (n : ℕ) → (out more new : List InstanceState) → new ≡ out ++ more → AllOf plan more → AllByRecursion (IsAble plan focus until) more → AreForksOfEvent plan focus Out history x since until slots n more → AreGathered plan focus Out history x since until slots n out → AreGathered plan focus Out history x since until slots (n + 1) new
  gathered_more n out more new is of able image h = rw is (record {
    of = all_append (IsOf plan) out more h.of of;
    able = all_append (IsAble plan focus until) out more h.able able;
    image = λ pool entries now later over ready.
        let a = h.image pool entries now later over ready in
        let b = image pool entries now later over ready in (
          subst (λ (t : List (Partial Sym)). IsImage (IsForkBelow (levels_in plan focus) x (n + 1) (IsOpenBut plan focus Out pool entries until)) (parts (members slots.slots)) t) (sym (map-append (λ (s : InstanceState). s.partial) out more))
              (below_more (levels_in plan focus) (IsOpenBut plan focus Out pool entries until) (λ b o. (o.0).closed) (λ b o. (o.0).partial.distinct) x (parts (members slots.slots)) (parts out) (parts more) n a.0 b.0),
          all_append (IsOver plan focus pool entries until) out more a.1 b.1,
        );
  })

  pub gathered_all : AllOf plan (members slots.slots) → (n : ℕ) (out : List InstanceState) → n ≡ length plan.chronicle.events → AreGathered plan focus Out history x since until slots n out → AreForksOfAll plan focus Out history x since until (members slots.slots) out
  gathered_all all n out s h = λ pool entries now later over ready.
      let a = h.image pool entries now later over ready in
      (below_all (levels_in plan focus) (IsOpenBut plan focus Out pool entries until) (λ b o. (o.0).closed) (λ b o. (o.0).partial.distinct) x (parts (members slots.slots)) (parts out) n (λ z j. member_long all z j ∙ sym s) a.0, a.1)

-- ---- what they cost

pub events_cost : (focus : Bool) (start now next n each : ℕ) → (focus ≡ false → now ≤ start + n * each) → (focus ≡ false → next ≤ now + each) → focus ≡ false → next ≤ start + (n + 1) * each
events_cost focus start now next n each h k flat = let a = h flat in let b = k flat in omega (arith, mul-add each n 1)

-- ---- sets of places

less_is : (p q : ℕ) → nat_cmp p q ≡ Less → p < q
less_is p q e = ranked p q Less (sym e)

pub ascends : (ks : List ℕ) → IsStrictlySortedBy nat_cmp ks → Ascends ks
unfolding IsStrictlySortedBy
ascends [] h = tt
ascends (k ∷ ks) h = (all_each ks (less_is k) h.0, ascends ks h.1)

-- of places in order, one and those behind it
pub ascends_from : (ks : List ℕ) (n : ℕ) → IsStrictlySortedBy nat_cmp ks → (p : ℕ) (left : List ℕ) → drop n ks ≡ p ∷ left → AllByRecursion (λ q. p < q) left × Ascends left
ascends_from ks n h p left e = subst Ascends e (behind ks n (ascends ks h))
  where
    behind : (ps : List ℕ) (k : ℕ) → Ascends ps → Ascends (drop k ps)
    behind ps zero o = o
    behind [] (suc k) o = tt
    behind (q ∷ ps) (suc k) o = behind ps k o.1

-- ---- the hooks of events

zip_long : {A B : Type 0} (R : A → B → Type 0) (xs : List A) (ys : List B) → AllZip R xs ys → length ys ≡ length xs
zip_long R [] [] h = refl
zip_long R [] (y ∷ ys) h = absurd h
zip_long R (x ∷ xs) [] h = absurd h
zip_long R (x ∷ xs) (y ∷ ys) h = ap suc (zip_long R xs ys h.1)

pub hooks_long : (plan : Plan) (hooks : List Hook) → AllZip IsHookOfEvent (chronicle plan).events hooks → length hooks ≡ length plan.chronicle.events
hooks_long plan hooks h = zip_long IsHookOfEvent (chronicle plan).events hooks h ∙ length-map plan.chronicle.events event_of

pub hook_there : (plan : Plan) (hooks : List Hook) (e : ℕ) → AllZip IsHookOfEvent (chronicle plan).events hooks → IsHookAt plan e (hook_at hooks e)
hook_there plan hooks e h = by (chronicle plan).events hooks e h
  where
    by : (vs : List (EventDef Sym)) (hs : List Hook) (k : ℕ) → AllZip IsHookOfEvent vs hs → IfSome (slice_get vs k) (λ v. IsHookOfEvent v (hook_at hs k))
    by [] hs k z = tt
    by (v ∷ vs) [] k z = absurd z
    by (v ∷ vs) (h ∷ hs) zero z = z.0
    by (v ∷ vs) (h ∷ hs) (suc k) z = by vs hs k z.1
