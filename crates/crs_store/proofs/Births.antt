-- What comes of the instances by an entry, in two lists: what is so of all of it, and how it grows.
use Rattle.std.proofs.Common.{Bool, ◌≡◌, ◌⊎◌, ℕ, ◌+◌, ◌<◌, ◌≤◌, List, [], ◌∷◌, ◌++◌, length, map, refl, sym, ap, subst, ◌∙◌, inl, inr, append-nil, append_assoc}
use Rattle.std.specs.Prelude.{Some, true, false}
use Rattle.std.specs.List.{AllByRecursion}
use Rattle.std.proofs.lemmas.List.{map-append}
use Rattle.crs_base.specs.declared.symbols.Sym.{Sym}
use Rattle.crs_base.specs.Entry.{Entry}
use Rattle.crs_base.specs.Words.{IsIn}
use Rattle.crs_base.proofs.Alls.{all_append}
use Rattle.crs_base.proofs.Words.{in_append, in_append_left, in_append_right, in_from_each, each_from_in}
use Rattle.crs_history.specs.Histories.{HistoryState}
use Rattle.crs_instance.specs.Instances.{InstanceState, IsForked, IsOf}
use Rattle.crs_model.specs.declared.plan.Plan.{Plan}
use Rattle.crs_model.specs.declared.recognition.Recognition.{Recognition}
use Rattle.crs_model.specs.Partial.{Partial, put, IsAwaited}
use Rattle.crs_model.specs.Plans.{IsProper}
use Rattle.crs_store.specs.Births.{Brings, FindsFork, IsBorn, IsMixOf}
use Rattle.crs_store.specs.Forkings.{AreForksBut, AreForksOfAll, AreForksOfEvent, AreForksOfPlaces}
use Rattle.crs_store.specs.Found.{found_state, founds, held_in}
use Rattle.crs_store.specs.Joins.{AreApart, IsPartOf}
use Rattle.crs_focus.specs.PlanLevels.{levels_in}
use Rattle.crs_living.specs.Scannings.{Adds, AreForksAt}
use Rattle.crs_living.specs.Slots.{SlotsState, members, slot_at}
use Rattle.crs_living.specs.Parts.{AllOf, parts}
use Rattle.crs_living.specs.Done.{is_whole}
use Rattle.crs_store.proofs.Advancing.{all_some_of}
use Rattle.crs_store.proofs.Born.{begun_still, found_is, passed_still, whole_able}
use Rattle.crs_store.proofs.Chosen.{Ascends}
use Rattle.crs_store.proofs.Gathered.{AreGathered, IsSwept, gathered_all, gathered_more, gathered_none, swept_more, swept_none, swept_whole}
use Rattle.crs_store.proofs.Joined.{Apart, apart_in, apart_out}
use Rattle.crs_living.proofs.Scanned.{ended, kept_able, started, unforked}

-- ---- mixes

module _ {A : Type 0} where
  pub mix_left : (xs : List A) → IsMixOf xs [] xs
  mix_left [] = (refl, refl)
  mix_left (x ∷ xs) = inl (xs, refl, mix_left xs)

  mix_swap : (xs ys zs : List A) → IsMixOf xs ys zs → IsMixOf ys xs zs
  mix_swap xs ys [] m = (m.1, m.0)
  mix_swap xs ys (z ∷ zs) (inl r) = inr (r.0, r.1, mix_swap r.0 ys zs r.2)
  mix_swap xs ys (z ∷ zs) (inr r) = inl (r.0, r.1, mix_swap xs r.0 zs r.2)

  mix_append : (xs ys zs us vs ws : List A) → IsMixOf xs ys zs → IsMixOf us vs ws → IsMixOf (xs ++ us) (ys ++ vs) (zs ++ ws)
  mix_append xs ys [] us vs ws m n = subst (λ (t : List A). IsMixOf (t ++ us) (ys ++ vs) ws) (sym m.0) (subst (λ (t : List A). IsMixOf us (t ++ vs) ws) (sym m.1) n)
  mix_append xs ys (z ∷ zs) us vs ws (inl r) n = inl (r.0 ++ us, ap (λ (t : List A). t ++ us) r.1, mix_append r.0 ys zs us vs ws r.2 n)
  mix_append xs ys (z ∷ zs) us vs ws (inr r) n = inr (r.0 ++ vs, ap (λ (t : List A). t ++ vs) r.1, mix_append xs r.0 zs us vs ws r.2 n)

  mix_in : (xs ys zs : List A) → IsMixOf xs ys zs → (a : A) → IsIn a zs → IsIn a xs ⊎ IsIn a ys
  mix_in xs ys [] m a k = absurd k
  mix_in xs ys (z ∷ zs) (inl r) a (inl s) = inl (subst (IsIn a) (sym r.1) (inl s))
  mix_in xs ys (z ∷ zs) (inl r) a (inr k) = elim (mix_in r.0 ys zs r.2 a k) [ inl j ↦ inl (subst (IsIn a) (sym r.1) (inr j)) | inr j ↦ inr j ]
  mix_in xs ys (z ∷ zs) (inr r) a (inl s) = inr (subst (IsIn a) (sym r.1) (inl s))
  mix_in xs ys (z ∷ zs) (inr r) a (inr k) = elim (mix_in xs r.0 zs r.2 a k) [ inl j ↦ inl j | inr j ↦ inr (subst (IsIn a) (sym r.1) (inr j)) ]

  pub mix_first : (xs ys zs : List A) → IsMixOf xs ys zs → (a : A) → IsIn a xs → IsIn a zs
  mix_first xs ys [] m a k = subst (IsIn a) m.0 k
  mix_first xs ys (z ∷ zs) (inl r) a k = elim (subst (IsIn a) r.1 k) [ inl s ↦ inl s | inr j ↦ inr (mix_first r.0 ys zs r.2 a j) ]
  mix_first xs ys (z ∷ zs) (inr r) a k = inr (mix_first xs r.0 zs r.2 a k)

  pub mix_second : (xs ys zs : List A) → IsMixOf xs ys zs → (a : A) → IsIn a ys → IsIn a zs
  mix_second xs ys zs m a k = mix_first ys xs zs (mix_swap xs ys zs m) a k

  -- those behind a list are apart in whichever order
  mix_apart : (base xs ys zs : List A) → IsMixOf xs ys zs → Apart (base ++ zs) → Apart ((base ++ ys) ++ xs)
  mix_apart base xs ys [] m o = subst (λ (t : List A). Apart ((base ++ t) ++ xs)) (sym m.1) (subst (λ (t : List A). Apart ((base ++ []) ++ t)) (sym m.0) (subst Apart (sym (append-nil (base ++ []))) o))
  mix_apart base xs ys (z ∷ zs) (inl r) o =
      let p = apart_out base z zs o in
      subst (λ (t : List A). Apart ((base ++ ys) ++ t)) (sym r.1)
      (apart_in (base ++ ys) z r.0 (mix_apart base r.0 ys zs r.2 p.0) (λ a k. p.1 a (elim (in_append (base ++ ys) r.0 a k) [
        | inl i ↦ elim (in_append base ys a i) [ inl j ↦ in_append_left base zs a j | inr j ↦ in_append_right base zs a (mix_second r.0 ys zs r.2 a j) ]
        | inr j ↦ in_append_right base zs a (mix_first r.0 ys zs r.2 a j)
      ])))
  mix_apart base xs ys (z ∷ zs) (inr r) o =
      let p = apart_out base z zs o in
      let q : Apart (base ++ (r.0 ++ xs)) = subst Apart (append_assoc base r.0 xs) (mix_apart base xs r.0 zs r.2 p.0) in
      subst (λ (t : List A). Apart ((base ++ t) ++ xs)) (sym r.1)
      (subst Apart (sym (append_assoc base (z ∷ r.0) xs))
      (apart_in base z (r.0 ++ xs) q (λ a k. p.1 a (elim (in_append base (r.0 ++ xs) a k) [
        | inl j ↦ in_append_left base zs a j
        | inr i ↦ elim (in_append r.0 xs a i) [ inl j ↦ in_append_right base zs a (mix_second xs r.0 zs r.2 a j) | inr j ↦ in_append_right base zs a (mix_first xs r.0 zs r.2 a j) ]
      ]))))

mix_map : {A B : Type 0} (f : A → B) (xs ys zs : List A) → IsMixOf xs ys zs → IsMixOf (map f xs) (map f ys) (map f zs)
mix_map f xs ys [] m = (ap (map f) m.0, ap (map f) m.1)
mix_map f xs ys (z ∷ zs) (inl r) = inl (map f r.0, ap (map f) r.1, mix_map f r.0 ys zs r.2)
mix_map f xs ys (z ∷ zs) (inr r) = inr (map f r.0, ap (map f) r.1, mix_map f xs r.0 zs r.2)

-- ---- two lists that grow

module _ (plan : Plan) (finds : Bool) where
  pub born_none : (was : List InstanceState) (old : List Recognition) → IsBorn plan finds was was old old []
  born_none was old = record { stay = []; done = []; grown = sym (append-nil was); found = sym (append-nil old); mixed = (refl, refl); none = λ never. refl }

  pub born_both : (was mid now : List InstanceState) (old half new : List Recognition) (one two : List InstanceState) → IsBorn plan finds was mid old half one → IsBorn plan finds mid now half new two → IsBorn plan finds was now old new (one ++ two)
  born_both was mid now old half new one two a b = record {
    stay = a.stay ++ b.stay;
    done = a.done ++ b.done;
    grown = b.grown ∙ ap (λ (t : List InstanceState). t ++ b.stay) a.grown ∙ append_assoc was a.stay b.stay;
    found = b.found ∙ ap (λ (t : List Recognition). t ++ b.done) a.found ∙ append_assoc old a.done b.done;
    mixed = subst (λ (t : List InstanceState). IsMixOf (a.stay ++ b.stay) t (one ++ two)) (sym (map-append (found_state plan) a.done b.done)) (mix_append a.stay (founds plan a.done) one b.stay (founds plan b.done) two a.mixed b.mixed);
    none = λ never. ap (λ (t : List Recognition). t ++ b.done) (a.none never) ∙ b.none never;
  }

  -- where no recognitions are made, none came
  pub born_placed : (was now : List InstanceState) (old new : List Recognition) (more : List InstanceState) → IsBorn plan finds was now old new more → finds ≡ false → new ≡ old
  born_placed was now old new more b never = b.found ∙ ap (λ (t : List Recognition). old ++ t) (b.none never) ∙ append-nil old

  -- what is so of all that came is so of the instances, and of those that the recognitions stand for
  module _ (now : List InstanceState) (old new : List Recognition) (more : List InstanceState) (b : IsBorn plan finds [] now old new more) (P : InstanceState → Type 0) (all : AllByRecursion P more) where
    pub born_open : AllByRecursion P now
    born_open = subst (AllByRecursion P) (sym b.grown) (each_from_in P b.stay (λ i k. in_from_each P more all i (mix_first b.stay (founds plan b.done) more b.mixed i k)))

    pub born_found : AllByRecursion P (founds plan old) → AllByRecursion P (founds plan new)
    born_found before =
        subst (AllByRecursion P) (sym (ap (founds plan) b.found ∙ map-append (found_state plan) old b.done))
        (all_append P (founds plan old) (founds plan b.done) before (each_from_in P (founds plan b.done) (λ i k. in_from_each P more all i (mix_second b.stay (founds plan b.done) more b.mixed i k))))

  -- some of the instances and the recognitions are some of all that came
  module _ (Out : InstanceState → Type 0) (slots : SlotsState) (now : List InstanceState) (old new : List Recognition) (more some : List InstanceState) (b : IsBorn plan finds [] now old new more) where
    abbrev base : List InstanceState
    base = held_in plan slots old

    held_new : held_in plan slots new ≡ base ++ founds plan b.done
    held_new = ap (held_in plan slots) b.found ∙ ap (λ (t : List InstanceState). members slots.slots ++ t) (map-append (found_state plan) old b.done) ∙ sym (append_assoc (members slots.slots) (founds plan old) (founds plan b.done))

    all_new : held_in plan slots new ++ now ≡ (base ++ founds plan b.done) ++ b.stay
    all_new = ap (λ (t : List InstanceState). held_in plan slots new ++ t) b.grown ∙ ap (λ (t : List InstanceState). t ++ b.stay) held_new

    joined : (us vs : List InstanceState) → parts (us ++ vs) ≡ parts us ++ parts vs
    joined us vs = map-append (λ (i : InstanceState). i.partial) us vs

    shuffled : AreApart (base ++ more) → AreApart ((base ++ founds plan b.done) ++ b.stay)
    shuffled apart =
        subst Apart (sym (joined (base ++ founds plan b.done) b.stay ∙ ap (λ (t : List (Partial Sym)). t ++ parts b.stay) (joined base (founds plan b.done))))
        (mix_apart (parts base) (parts b.stay) (parts (founds plan b.done)) (parts more) (mix_map (λ (i : InstanceState). i.partial) b.stay (founds plan b.done) more b.mixed) (subst Apart (joined base more) apart))

    into : (i : InstanceState) → IsIn i (base ++ more) → IsIn i ((base ++ founds plan b.done) ++ b.stay)
    into i k = elim (in_append base more i k) [
      | inl j ↦ in_append_left (base ++ founds plan b.done) b.stay i (in_append_left base (founds plan b.done) i j)
      | inr j ↦ elim (mix_in b.stay (founds plan b.done) more b.mixed i j) [
        | inl l ↦ in_append_right (base ++ founds plan b.done) b.stay i l
        | inr l ↦ in_append_left (base ++ founds plan b.done) b.stay i (in_append_right base (founds plan b.done) i l)
      ]
    ]

    out_of : (i : InstanceState) → IsIn i ((base ++ founds plan b.done) ++ b.stay) → IsIn i (base ++ more)
    out_of i k = elim (in_append (base ++ founds plan b.done) b.stay i k) [
      | inl j ↦ elim (in_append base (founds plan b.done) i j) [ inl l ↦ in_append_left base more i l | inr l ↦ in_append_right base more i (mix_second b.stay (founds plan b.done) more b.mixed i l) ]
      | inr j ↦ in_append_right base more i (mix_first b.stay (founds plan b.done) more b.mixed i j)
    ]

    pub born_part : IsPartOf Out (held_in plan slots new ++ now) some → IsPartOf Out (base ++ more) some
    born_part p = record {
      back = λ i k. out_of i (subst (IsIn i) all_new (p.back i k));
      apart = λ apart. p.apart (subst AreApart (sym all_new) (shuffled apart));
      each = λ i k. p.each i (subst (IsIn i) (sym all_new) (into i k));
    }

module _ (plan : Plan) (focus finds : Bool) (n : ℕ) where
  pub brings_none : (Are : List InstanceState → Type 0) (was : List InstanceState) (old : List Recognition) → Are [] → Brings plan focus finds n Are was was old old
  brings_none Are was old are = record { more = []; born = born_none plan finds was old; of = tt; able = tt; are = are }

  pub brings_as : (These Those : List InstanceState → Type 0) (was now : List InstanceState) (old new : List Recognition) → ((more : List InstanceState) → These more → Those more) → Brings plan focus finds n These was now old new → Brings plan focus finds n Those was now old new
  brings_as These Those was now old new to b = record { more = b.more; born = b.born; of = b.of; able = b.able; are = to b.more b.are }

  -- instances alone
  pub brings_open : (Are : List InstanceState → Type 0) (was now : List InstanceState) (old : List Recognition) → Adds plan focus n Are was now → Brings plan focus finds n Are was now old old
  brings_open Are was now old a = record {
    more = a.more;
    born = record { stay = a.more; done = []; grown = a.grown; found = sym (append-nil old); mixed = mix_left a.more; none = λ never. refl };
    of = a.of;
    able = a.able;
    are = a.are;
  }

-- ---- the recognition of what an event completes

module _ (plan : Plan) (focus finds : Bool) (proper : IsProper plan) (windowless : length plan.chronicle.windows ≡ 0) (history : HistoryState) (x : Entry Sym) (since until : ℕ) (i : InstanceState) (of : IsOf plan i) (e : ℕ) (awaited : IsAwaited (levels_in plan focus) i.partial e) (full : is_whole (put i.partial e x) ≡ true) where
  completed : (next : InstanceState) → IsForked plan i e x (Some next) → AreForksAt plan focus history x since until i e (next ∷ [])
  completed next forked =
      let whole : is_whole next.partial ≡ true = ap is_whole forked.1 ∙ full in
      started plan focus history x since until i e awaited next forked.1 (next ∷ [])
      (ended plan focus history x since until i next (levels_in plan focus e) (inr (λ f l u. all_some_of next.partial whole f l u)) (next ∷ [])
      (kept_able plan focus proper history x since until i next next next of forked.0 forked.0 (begun_still plan windowless history since i next) (passed_still plan windowless history since until next) (whole_able plan windowless focus until next forked.0 whole)))

  pub brings_found : (finds ≡ false → ⊥) → (was : List InstanceState) (old new : List Recognition) → FindsFork plan i e x old new → Brings plan focus finds until (AreForksAt plan focus history x since until i e) was was old new
  brings_found finding was old new (inl r) = subst (λ (t : List Recognition). Brings plan focus finds until (AreForksAt plan focus history x since until i e) was was old t) (sym r.0) (brings_none plan focus finds until (AreForksAt plan focus history x since until i e) was old (unforked plan focus history x since until i e r.1))
  brings_found finding was old new (inr r) =
      let next = r.0 in
      let forked = r.1 in
      let is : found_state plan (r.2).one ≡ next = found_is plan proper next forked.0 windowless (r.2).one ((r.2).is).entries ((r.2).is).binding in
      record {
        more = next ∷ [];
        born = record { stay = []; done = (r.2).one ∷ []; grown = sym (append-nil was); found = (r.2).added; mixed = inr ([], ap (λ (t : InstanceState). t ∷ []) is, (refl, refl)); none = λ never. absurd (finding never) };
        of = (forked.0, tt);
        able = (whole_able plan windowless focus until next forked.0 (ap is_whole forked.1 ∙ full), tt);
        are = completed next forked;
      }

-- ---- the places, one after another

-- both lists grew by what came of the places that aren't left
pub record BringsSwept (plan : Plan) (focus finds : Bool) (Out : Partial Sym → Type 0) (history : HistoryState) (x : Entry Sym) (since until : ℕ) (slots : SlotsState) (e : ℕ) (all rest : List ℕ) (was now : List InstanceState) (old new : List Recognition) (start end : ℕ) : Type 0 where
  pub more : List InstanceState
  pub born : IsBorn plan finds was now old new more
  pub swept : IsSwept plan focus Out history x since until slots e all rest more start end

module _ (plan : Plan) (focus finds : Bool) (Out : Partial Sym → Type 0) (history : HistoryState) (x : Entry Sym) (since until : ℕ) (slots : SlotsState) (e : ℕ) where
  pub brings_swept_none : (all : List ℕ) (was : List InstanceState) (old : List Recognition) (start : ℕ) → BringsSwept plan focus finds Out history x since until slots e all all was was old old start start
  brings_swept_none all was old start = record { more = []; born = born_none plan finds was old; swept = swept_none plan focus Out history x since until slots e all start }

  pub brings_swept_more : (all : List ℕ) (p : ℕ) (rest left : List ℕ) (i : InstanceState) (was mid now : List InstanceState) (old half new : List Recognition) (start end next : ℕ) → rest ≡ p ∷ left → AllByRecursion (λ q. p < q) left → Ascends left → slot_at slots p ≡ Some i → (focus ≡ false → next ≤ end + 1)
      → Brings plan focus finds until (AreForksBut plan focus Out history x since until i e) mid now half new → BringsSwept plan focus finds Out history x since until slots e all rest was mid old half start end → BringsSwept plan focus finds Out history x since until slots e all left was now old new start next
  brings_swept_more all p rest left i was mid now old half new start end next s above ascends here step b h = record {
    more = h.more ++ b.more;
    born = born_both plan finds was mid now old half new h.more b.more h.born b.born;
    swept = swept_more plan focus Out history x since until slots e all p rest left i h.more (h.more ++ b.more) start end next s above ascends here step (record { more = b.more; grown = refl; of = b.of; able = b.able; are = b.are }) h.swept;
  }

  pub brings_swept_whole : (all rest : List ℕ) (was now : List InstanceState) (old new : List Recognition) (start end : ℕ) → rest ≡ [] → BringsSwept plan focus finds Out history x since until slots e all rest was now old new start end → Brings plan focus finds until (AreForksOfPlaces plan focus Out history x since until slots e all) was now old new
  brings_swept_whole all rest was now old new start end s h = record { more = h.more; born = h.born; of = h.swept.of; able = h.swept.able; are = swept_whole plan focus Out history x since until slots e all rest h.more start end s h.swept }

-- ---- the events, one after another

-- both lists grew by what came of the events below n
pub record BringsGathered (plan : Plan) (focus finds : Bool) (Out : Partial Sym → Type 0) (history : HistoryState) (x : Entry Sym) (since until : ℕ) (slots : SlotsState) (n : ℕ) (now : List InstanceState) (old new : List Recognition) : Type 0 where
  pub all : List InstanceState
  pub born : IsBorn plan finds [] now old new all
  pub gathered : AreGathered plan focus Out history x since until slots n all

module _ (plan : Plan) (focus finds : Bool) (Out : Partial Sym → Type 0) (history : HistoryState) (x : Entry Sym) (since until : ℕ) (slots : SlotsState) where
  pub brings_gathered_none : (now : List InstanceState) (old : List Recognition) → now ≡ [] → BringsGathered plan focus finds Out history x since until slots 0 now old old
  brings_gathered_none now old none = record {
    all = [];
    born = subst (λ (t : List InstanceState). IsBorn plan finds [] t old old []) (sym none) (born_none plan finds [] old);
    gathered = gathered_none plan focus Out history x since until slots [] refl;
  }

  pub brings_gathered_more : (n : ℕ) → (mid now : List InstanceState) (old half new : List Recognition) → Brings plan focus finds until (AreForksOfEvent plan focus Out history x since until slots n) mid now half new → BringsGathered plan focus finds Out history x since until slots n mid old half → BringsGathered plan focus finds Out history x since until slots (n + 1) now old new
  brings_gathered_more n mid now old half new b h = record {
    all = h.all ++ b.more;
    born = born_both plan finds [] mid now old half new h.all b.more h.born b.born;
    gathered = gathered_more plan focus Out history x since until slots n h.all b.more (h.all ++ b.more) refl b.of b.able b.are h.gathered;
  }

  pub brings_gathered_all : AllOf plan (members slots.slots) → (n : ℕ) (now : List InstanceState) (old new : List Recognition) → n ≡ length plan.chronicle.events → BringsGathered plan focus finds Out history x since until slots n now old new → Brings plan focus finds until (AreForksOfAll plan focus Out history x since until (members slots.slots)) [] now old new
  brings_gathered_all all n now old new s h = record {
    more = h.all;
    born = h.born;
    of = h.gathered.of;
    able = h.gathered.able;
    are = gathered_all plan focus Out history x since until slots all n h.all s h.gathered;
  }
