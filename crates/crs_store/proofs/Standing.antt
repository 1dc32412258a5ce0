-- What a store stands for after a call.
use Rattle.std.proofs.Common.{◌≡◌, ℕ, suc, ◌<◌, ◌≤◌, List, [], ◌∷◌, ◌++◌, length, refl, sym, ap, subst, ◌∙◌, inl, inr, ◌⊎◌, arith, append-nil}
use Rattle.std.specs.Prelude.{Option, Some, None, IfSome, IsSomeAnd, replicate, slice_get, Bool, false, Result, OnOk}
use Rattle.std.specs.List.{AllByRecursion, AllZip}
use Rattle.std.proofs.lemmas.Result.{on_ok_weaker}
use Rattle.std.proofs.lemmas.List.{ext_get_or, length-replicate, length-map}
use Rattle.crs_base.specs.declared.symbols.Sym.{Sym}
use Rattle.crs_base.specs.Words.{IsIn}
use Rattle.crs_base.specs.Entry.{Entry}
use Rattle.crs_base.proofs.Words.{each_from_in, in_from_each, in_map, in_map_back}
use Rattle.crs_history.specs.Histories.{HistoryState}
use Rattle.crs_history.proofs.FarBack.{far_later}
use Rattle.crs_model.specs.declared.plan.Plan.{Plan}
use Rattle.crs_model.specs.Models.{Chronicle}
use Rattle.crs_model.specs.Partial.{Partial, at, IsLevelClosed}
use Rattle.crs_model.specs.Plans.{chronicle, IsProper}
use Rattle.crs_model.specs.Open.{IsOpen, AllWanted, StandsFor, IsRecognisedWhole, before}
use Rattle.crs_model.specs.Steps.{IsFresh}
use Rattle.crs_model.specs.SeenModels.{event_of}
use Rattle.crs_model.proofs.Options.{of_some, some_if, cases_of}
use Rattle.crs_model.proofs.Offers.{recognised_full}
use Rattle.crs_instance.specs.Instances.{InstanceState, IsOf}
use Rattle.crs_instance.specs.Followed.{Follows}
use Rattle.crs_instance.proofs.GoesOn.{root_goes_on}
use Rattle.crs_instance.proofs.BindAnswers.{get-replicate}
use Rattle.crs_living.specs.Ahead.{MayBecome, IsWanted, AreAhead, MayGo}
use Rattle.crs_waiting.specs.declared.hooks.Hook.{Hook}
use Rattle.crs_waiting.specs.Orders.{AreOrdered, IsOvertaken}
use Rattle.crs_living.specs.Parts.{parts, AllOf}
use Rattle.crs_store.specs.Stores.{StoreState, IsStore, Stands, StandsAhead, StandsComing, IsSameStore, levels_of, IsOffered, IsOfferedAt}
use Rattle.crs_focus.specs.PlanLevels.{levels_in}
use Rattle.crs_living.specs.Windows.{IsAble, IsOver, IsOpenAt, IsSameInstance}
use Rattle.crs_store.specs.Sweeps.{IsFree, IsReady, TakesIn, TakesInSome}
use Rattle.crs_store.proofs.Ahead.{stands_ahead, ahead_stands, some_stand, offered_ahead}
use Rattle.crs_living.proofs.Hopeless.{hopeless_unwanted}
use Rattle.crs_store.proofs.Overtaken.{overtaken_unwanted}
use Rattle.crs_store.proofs.Joined.{parts_sub}
use Rattle.crs_living.proofs.Overs.{open_able, floor_early}
use Rattle.crs_living.proofs.Progress.{still_of}

-- ---- lists of instances

pub zip_all : {A : Type 0} (R : A → A → Type 0) (P Q : A → Type 0) (keep : (x y : A) → R x y → P x → Q y) (xs ys : List A) → AllZip R xs ys → AllByRecursion P xs → AllByRecursion Q ys
zip_all R P Q keep [] [] z h = tt
zip_all R P Q keep [] (y ∷ ys) z h = absurd z
zip_all R P Q keep (x ∷ xs) [] z h = absurd z
zip_all R P Q keep (x ∷ xs) (y ∷ ys) z h = (keep x y z.0 h.0, zip_all R P Q keep xs ys z.1 h.1)

pub zip_length : {A : Type 0} (R : A → A → Type 0) (xs ys : List A) → AllZip R xs ys → length ys ≡ length xs
zip_length R [] [] h = refl
zip_length R [] (y ∷ ys) h = absurd h
zip_length R (x ∷ xs) [] h = absurd h
zip_length R (x ∷ xs) (y ∷ ys) h = ap suc (zip_length R xs ys h.1)

pub parts_same : (R : InstanceState → InstanceState → Type 0) (same : (x y : InstanceState) → R x y → IsSameInstance x y) (xs ys : List InstanceState) → AllZip R xs ys → parts ys ≡ parts xs
parts_same R same [] [] z = refl
parts_same R same [] (y ∷ ys) z = absurd z
parts_same R same (x ∷ xs) [] z = absurd z
parts_same R same (x ∷ xs) (y ∷ ys) z = let one = ap (λ (t : InstanceState). t.partial) (same x y z.0).same in (λ i. one i ∷ parts_same R same xs ys z.1 i)

pub zip_of : (plan : Plan) (R : InstanceState → InstanceState → Type 0) (same : (x y : InstanceState) → R x y → IsSameInstance x y) (xs ys : List InstanceState) → AllZip R xs ys → AllOf plan xs → AllOf plan ys
zip_of plan R same xs ys z all = zip_all R (IsOf plan) (IsOf plan) (λ x y r of. still_of plan x y (same x y r) of) xs ys z all

-- what a list of instances follows, with entries of the pool, as those of the partial assignments, which are level-closed
pub over_of : (plan : Plan) (focus : Bool) (pool entries : List (Entry Sym)) (n : ℕ) (is : List InstanceState) → ((a : Partial Sym) → IsIn a (parts is) → (e : ℕ) (y : Entry Sym) → at a e ≡ Some y → IsIn y pool) → ((a : Partial Sym) → IsIn a (parts is) → IsLevelClosed (levels_in plan focus) a) → AllByRecursion (Follows plan entries n) is → AllByRecursion (IsOver plan focus pool entries n) is
over_of plan focus pool entries n is given closed follows =
    each_from_in (IsOver plan focus pool entries n) is (λ i k. record {
      given = given i.partial (in_map (λ (s : InstanceState). s.partial) is i k);
      closed = closed i.partial (in_map (λ (s : InstanceState). s.partial) is i k);
      follows = in_from_each (Follows plan entries n) is follows i k;
    })

pub follows_of : (plan : Plan) (focus : Bool) (pool entries : List (Entry Sym)) (n : ℕ) (is : List InstanceState) → AllByRecursion (IsOver plan focus pool entries n) is → AllByRecursion (Follows plan entries n) is
follows_of plan focus pool entries n is over = each_from_in (Follows plan entries n) is (λ i k. (in_from_each (IsOver plan focus pool entries n) is over i k).follows)

-- ---- an entry is offered

pub given_ahead : (c : Chronicle Sym) (level : ℕ → ℕ) (held : List (Partial Sym)) (was pool entries later : List (Entry Sym)) (d g h : ℕ) → StandsFor c level (IsWanted c level pool entries later h) held was pool entries d g → (a : Partial Sym) → IsIn a held → (e : ℕ) (y : Entry Sym) → at a e ≡ Some y → IsIn y pool
given_ahead c level held was pool entries later d g h stands a i e y j = of_some (at a e) y _ j ((stands.each a i).0.partial.given e)

pub closed_ahead : (c : Chronicle Sym) (level : ℕ → ℕ) (held : List (Partial Sym)) (was pool entries later : List (Entry Sym)) (d g h : ℕ) → StandsFor c level (IsWanted c level pool entries later h) held was pool entries d g → (a : Partial Sym) → IsIn a held → IsLevelClosed level a
closed_ahead c level held was pool entries later d g h stands a i = (stands.each a i).0.closed

-- no instance gives a new entry
ready : (c : Chronicle Sym) (level : ℕ → ℕ) (held : List (Partial Sym)) (was pool entries later : List (Entry Sym)) (d g h : ℕ) (x : Entry Sym) → StandsFor c level (IsWanted c level pool entries later h) held was pool entries d g → IsFresh pool x → IsReady x held
ready c level held was pool entries later d g h x stands fresh = (each_from_in (IsFree x) held (λ a i e j. fresh x (given_ahead c level held was pool entries later d g h stands a i e x j) refl), stands.distinct)

-- what was shown of the levels of one store is so of another with the same plan and focus
pub same_levels : (old new : StoreState) → IsSameStore old new → (P : Chronicle Sym → (ℕ → ℕ) → Type 0) → P (chronicle old.plan) (levels_of old) → P (chronicle new.plan) (levels_of new)
same_levels old new same P h =
    subst (λ (b : Bool). P (chronicle new.plan) (levels_in new.plan b)) (sym same.focus)
    (subst (λ (p : Plan). P (chronicle p) (levels_in p old.focus)) (sym same.plan) h)

-- a store that stands for what is settled does so with anything ahead
pub ahead_of : (s : StoreState) (was pool entries later : List (Entry Sym)) (d g h : ℕ) → Stands s was pool entries d g → StandsAhead s was pool entries later d g h
ahead_of s was pool entries later d g h k = record { stands = stands_ahead (chronicle s.plan) (levels_of s) (parts s.held) was pool entries d g k.stands later h; follows = k.follows; judged = k.judged }

-- and whatever is coming to its pool
pub coming_of : (s : StoreState) (whole all coming was pool entries : List (Entry Sym)) (d g h : ℕ) → Stands s was pool entries d g → StandsComing s whole all coming was pool entries d g h
coming_of s whole all coming was pool entries d g h k = record {
  stands = record { was_in = k.stands.was_in; entries_in = k.stands.entries_in; marked = k.stands.marked; distinct = k.stands.distinct; each = k.stands.each; all = λ a o w. k.stands.all a o tt };
  follows = k.follows;
  judged = k.judged;
}

-- where nothing more is coming, and all is settled
pub last_of : (s : StoreState) (was pool entries : List (Entry Sym)) (d g h : ℕ) → StandsComing s pool (entries ++ []) [] was pool entries d g h → StandsAhead s was pool entries [] d g h
last_of s was pool entries d g h k = record {
  stands = subst (λ (t : List (Entry Sym)). StandsFor (chronicle s.plan) (levels_of s) (MayBecome (chronicle s.plan) (levels_of s) t (entries ++ []) [] h) (parts s.held) was pool entries d g) (sym (append-nil pool)) k.stands;
  follows = k.follows;
  judged = k.judged;
}

-- one that was judged at the last date, with nothing ahead, stands for what is settled
exact_now : (s : StoreState) (was pool entries : List (Entry Sym)) (d g : ℕ) → StandsAhead s was pool entries [] d g d → Stands s was pool entries d g
exact_now s was pool entries d g k = record { stands = ahead_stands (chronicle s.plan) (levels_of s) (parts s.held) was pool entries d g k.stands; follows = k.follows; judged = k.judged }

-- what is wanted isn't left out
pub wanted_stays : (plan : Plan) → IsProper plan → (focus : Bool) (pool entries later ahead : List (Entry Sym)) (beyond h : ℕ) (made some : List InstanceState) → AreAhead ahead beyond later h → ((i : InstanceState) → IsIn i made → IsIn i some ⊎ MayGo plan focus ahead beyond i)
    → (a : Partial Sym) → IsIn a (parts made) → MayBecome (chronicle plan) (levels_in plan focus) pool entries later h a → IsIn a (parts some)
wanted_stays plan proper focus pool entries later ahead beyond h made some coming each a k w =
    let m = in_map_back (λ (t : InstanceState). t.partial) made a k in
    subst (λ (t : Partial Sym). IsIn t (parts some)) (sym m.2) (elim (each m.0 m.1) [
      | inl i ↦ in_map (λ (t : InstanceState). t.partial) some m.0 i
      | inr o ↦ absurd (hopeless_unwanted plan proper focus pool entries later ahead beyond h m.0 coming o (subst (MayBecome (chronicle plan) (levels_in plan focus) pool entries later h) m.2 w))
    ])

store_offered : (old new : StoreState) (hooks : List Hook) → AreOrdered old.plan old.focus old.ranks hooks → (history : HistoryState) (x : Entry Sym) (until : ℕ) (ahead : List (Entry Sym)) (beyond : ℕ) (behind : Bool) → x.date ≤ until → IsStore old → IsSameStore old new → new.date ≡ until → TakesInSome old.plan old.focus (IsOvertaken old.plan old.focus hooks behind x) history x until old.date ahead beyond old.held new.held
    → IsOfferedAt old history x until ahead beyond behind new
store_offered old new hooks order history x until ahead beyond behind up is same judged takes was settled later d g h stands coming after kept far few fresh dated =
    let c = chronicle old.plan in
    let level = levels_of old in
    let now : List (Entry Sym) = settled ++ x ∷ [] in
    let one = stands.stands in
    let far_d = far_later old.plan.reach g d history.floor one.marked far in
    let over : AllByRecursion (IsOver old.plan old.focus settled settled d) old.held = over_of old.plan old.focus settled settled d old.held (given_ahead c level (parts old.held) was settled settled (x ∷ later) d g h one) (closed_ahead c level (parts old.held) was settled settled (x ∷ later) d g h one) stands.follows in
    let made : List InstanceState = takes.0 in
    let Out = IsOvertaken old.plan old.focus hooks behind x in
    let taken_in = subst (λ (k : ℕ). TakesIn old.plan old.focus Out history x until k old.held made) stands.judged takes.1 in
    let r = taken_in settled dated up (record { kept = kept; few = few; far = far_d }) (floor_early old.plan is.proper d history.floor far_d) over (ready c level (parts old.held) was settled settled (x ∷ later) d g h x one fresh) in
    let unwanted : (a : Partial Sym) → IsOpen c level now now until a → IsWanted c level now now later h a → Out a → ⊥ = (λ a k w o. overtaken_unwanted old.plan is.proper old.focus old.ranks hooks order behind x (now ++ later) (now ++ later) later h after a (k.partial.len ∙ length-map old.plan.chronicle.events event_of) o w) in
    let all = offered_ahead c level settled settled was later d until g h (omega arith) x dated fresh (parts old.held) (parts made) one Out unwanted r.0 in
    let some = some_stand c level (IsWanted c level now now later h) (parts made) (parts new.held) was now now until g all (takes.2.apart all.distinct) (parts_sub made new.held takes.2.back) (wanted_stays old.plan is.proper old.focus (now ++ later) (now ++ later) later ahead beyond h made new.held coming takes.2.each) in
    record {
      stands = same_levels old new same (λ c levels. StandsFor c levels (IsWanted c levels now now later h) (parts new.held) was now now until g) some;
      follows = subst (λ (p : Plan). AllByRecursion (Follows p now until) new.held) (sym same.plan) (each_from_in (Follows old.plan now until) new.held (λ i k. (in_from_each (IsOver old.plan old.focus now now until) made r.1 i (takes.2.back i k)).follows));
      judged = judged;
    }

pub offered_from : (seen old new : StoreState) (hooks : List Hook) → AreOrdered seen.plan seen.focus seen.ranks hooks → (history : HistoryState) (x : Entry Sym) (until : ℕ) (ahead : List (Entry Sym)) (beyond : ℕ) (behind : Bool) → x.date ≤ until → (p : Plan) → seen ≡ old → IsStore seen → p ≡ seen.plan → IsSameStore seen new → new.date ≡ until
    → TakesInSome p seen.focus (IsOvertaken p seen.focus hooks behind x) history x until seen.date ahead beyond seen.held new.held → IsOfferedAt old history x until ahead beyond behind new
offered_from seen old new hooks order history x until ahead beyond behind up p view is sp same judged takes =
    subst (λ (o : StoreState). IsOfferedAt o history x until ahead beyond behind new) view
    (store_offered seen new hooks order history x until ahead beyond behind up is same judged (subst (λ (t : Plan). TakesInSome t seen.focus (IsOvertaken t seen.focus hooks behind x) history x until seen.date ahead beyond seen.held new.held) sp takes))

-- what is judged at its date, with nothing ahead, is exact
pub offered_alone : {E : Type 0} (r : Result Unit E) (old new : StoreState) (history : HistoryState) (x : Entry Sym) → OnOk r (IsOfferedAt old history x x.date [] x.date false new) → OnOk r (IsOffered old history x new)
offered_alone r old new history x = on_ok_weaker r (λ h was settled d g stands kept far few fresh later. exact_now new was (settled ++ x ∷ []) (settled ++ x ∷ []) x.date g
    (h was settled [] d g x.date (ahead_of old was settled settled (x ∷ []) d g x.date stands) (record { each = λ y i. absurd i; within = omega arith }) (λ b. absurd (cc)) kept far few fresh later))

-- ---- the root alone

root_follows : (plan : Plan) → IsProper plan → (i : InstanceState) → IsOf plan i → i.partial ≡ replicate (length plan.chronicle.events) None → Follows plan [] 0 i
root_follows plan proper i of is k = some_if (slice_get (chronicle plan).windows k) _ (λ w s from to stretch bound. absurd (never (at i.partial w.from.event) (free w.from.event) _ stretch.starts))
  where
    none : Option (Entry Sym)
    none = None

    free : (e : ℕ) → at i.partial e ≡ None
    free e = ap (λ (t : Partial Sym). at t e) is ∙ get-replicate (length plan.chronicle.events) e none

    never : (o : Option (Entry Sym)) → o ≡ None → (P : Entry Sym → Type 0) → IsSomeAnd o P → ⊥
    never None e P h = h
    never (Some y) e P h = absurd cc

pub root_open : (plan : Plan) (focus : Bool) → IsProper plan → (i : InstanceState) → IsOf plan i → i.partial ≡ replicate (length plan.chronicle.events) None → IsOpenAt plan focus [] [] 0 i.partial
root_open plan focus proper i of is =
    let none : Option (Entry Sym) = None in
    let free : (e : ℕ) → at i.partial e ≡ None = (λ e. ap (λ (t : Partial Sym). at t e) is ∙ get-replicate (length plan.chronicle.events) e none) in
    let over : IsOver plan focus [] [] 0 i = record { given = λ e y j. absurd (not_both (at i.partial e) y j (free e)); closed = λ e f l m n. free f; follows = root_follows plan proper i of is } in
    (open_able plan focus [] [] 0 i of over).1 (
      root_goes_on (levels_in plan focus) plan proper i of free,
      λ k. some_if (slice_get (chronicle plan).windows k) _ (λ w s from to stretch bound lost. never (at i.partial w.from.event) (free w.from.event) _ stretch.starts),
    )
  where
    not_both : (o : Option (Entry Sym)) (y : Entry Sym) → o ≡ Some y → o ≡ None → ⊥
    not_both o y j f = absurd cc

    never : (o : Option (Entry Sym)) → o ≡ None → (P : Entry Sym → Type 0) → IsSomeAnd o P → ⊥
    never None e P h = h
    never (Some y) e P h = absurd cc

pub root_able : (plan : Plan) (focus : Bool) → IsProper plan → (i : InstanceState) → IsOf plan i → i.partial ≡ replicate (length plan.chronicle.events) None → IsAble plan focus 0 i
root_able plan focus proper i of is =
    let none : Option (Entry Sym) = None in
    let free : (e : ℕ) → at i.partial e ≡ None = (λ e. ap (λ (t : Partial Sym). at t e) is ∙ get-replicate (length plan.chronicle.events) e none) in
    let over : IsOver plan focus [] [] 0 i = record { given = λ e y j. absurd (given_none (at i.partial e) y j (free e)); closed = λ e f l m n. free f; follows = root_follows plan proper i of is } in
    (open_able plan focus [] [] 0 i of over).0 (root_open plan focus proper i of is)
  where
    given_none : (o : Option (Entry Sym)) (y : Entry Sym) → o ≡ Some y → o ≡ None → ⊥
    given_none o y j f = absurd cc

stands_root : (plan : Plan) (focus : Bool) → IsProper plan → (a : Partial Sym) → length a ≡ length (chronicle plan).events → a ≡ replicate (length plan.chronicle.events) None → IsOpenAt plan focus [] [] 0 a → StandsFor (chronicle plan) (levels_in plan focus) AllWanted (a ∷ []) [] [] [] 0 0
stands_root plan focus proper a len is fine =
    let none : Option (Entry Sym) = None in
    let free : (e : ℕ) → at a e ≡ None = (λ e. ap (λ (t : Partial Sym). at t e) is ∙ get-replicate (length plan.chronicle.events) e none) in
    let inside : 0 < length a = (let p = proper.events_some in let q = ap length is ∙ length-replicate (length plan.chronicle.events) none in omega arith) in
    record {
      was_in = λ e i. i;
      entries_in = λ e i. i;
      marked = omega arith;
      distinct = (tt, tt);
      each = λ b i. elim i [
        | inl s ↦ subst (λ (z : Partial Sym). IsOpen (chronicle plan) (levels_in plan focus) [] [] 0 z × (IsRecognisedWhole (chronicle plan) [] (before 0 []) 0 z → ⊥)) (sym s) (
          fine,
          λ rec. recognised_full (chronicle plan) [] (before 0 []) 0 a 0 rec inside (free 0),
        )
        | inr never ↦ absurd never
      ];
      all = λ b k w. inl (ext_get_or none b a (k.0.partial.len ∙ sym len) (λ e l. by (at b e) (cases_of (at b e)) (k.0.partial.given e) ∙ sym (free e)));
    }
  where
    by : (o : Option (Entry Sym)) → (o ≡ None) ⊎ ((y : Entry Sym) × (o ≡ Some y)) → IfSome o (λ y. IsIn y []) → o ≡ None
    by o (inl e) h = e
    by o (inr s) h = absurd (of_some o s.0 (λ y. IsIn y []) s.1 h)

pub new_stands : (plan : Plan) (focus : Bool) → IsProper plan → (i : InstanceState) → IsOf plan i → i.partial ≡ replicate (length plan.chronicle.events) None → (s : StoreState) → s.plan ≡ plan → s.focus ≡ focus → s.held ≡ i ∷ [] → s.date ≡ 0 → Stands s [] [] [] 0 0
new_stands plan focus proper i of is s sp sf sh judged = record {
  stands =
      subst (λ (b : Bool). StandsFor (chronicle s.plan) (levels_in s.plan b) AllWanted (parts s.held) [] [] [] 0 0) (sym sf)
      (subst (λ (q : Plan). StandsFor (chronicle q) (levels_in q focus) AllWanted (parts s.held) [] [] [] 0 0) (sym sp)
      (subst (λ (t : List InstanceState). StandsFor (chronicle plan) (levels_in plan focus) AllWanted (parts t) [] [] [] 0 0) (sym sh)
      (stands_root plan focus proper i.partial (of.len ∙ sym (length-map plan.chronicle.events event_of)) is (root_open plan focus proper i of is))));
  follows = subst (λ (q : Plan). AllByRecursion (Follows q [] 0) s.held) (sym sp) (subst (AllByRecursion (Follows plan [] 0)) (sym sh) (root_follows plan proper i of is, tt));
  judged = judged;
}
