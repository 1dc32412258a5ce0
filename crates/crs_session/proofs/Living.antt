-- What the layers of a session hold is what lives in the run.
use Rattle.std.proofs.Common.{nat_lt, filter, true≢false, ◌≡◌, ◌<◌, ◌≤◌, ◌==◌, ◌∙◌, ◌+◌, ◌-◌, ◌^◌, ℕ, suc, arith, zero-add, min, Bool, true, false, cond, List, [], ◌∷◌, ◌++◌, map, length, refl, sym, ap, subst}
use Rattle.std.specs.Prelude.{sum, fold, slice_index_or, if◌then◌else◌}
use Rattle.std.specs.List.{AllByRecursion, AllZip}
use Rattle.std.proofs.lemmas.List.{length-map}
use Rattle.crs_base.specs.declared.symbols.Sym.{Sym}
use Rattle.crs_base.specs.Entry.{Entry}
use Rattle.crs_base.specs.Symbols.{AreDistinct}
use Rattle.crs_base.proofs.Words.{each_from_in, in_from_each, in_filter_back}
use Rattle.crs_model.specs.declared.plan.Plan.{Plan}
use Rattle.crs_model.specs.Models.{Chronicle, EventDef}
use Rattle.crs_model.specs.Partial.{Partial}
use Rattle.crs_model.specs.Levels.{level_in, reads_levels}
use Rattle.crs_model.specs.Open.{IsLive, IsRecognisedWhole, AllWanted, StandsFor as Keeps, before, pool_among}
use Rattle.crs_model.specs.Order.{AreAll, arrived, dated_before, in_key_order}
use Rattle.crs_model.specs.Plans.{chronicle, IsProper}
use Rattle.crs_model.specs.Renaming.{text_in, renamed_event, renamed_entry, IsChronicleOf, IsEntryOf}
use Rattle.crs_model.proofs.Marks.{before_all}
use Rattle.crs_model.proofs.RenamedLive.{live_renamed}
use Rattle.crs_model.proofs.RenamedWindows.{renamed_partial, HasNoStar, no_stars}
use Rattle.crs_model.proofs.Ties.{ordered_members}
use Rattle.crs_store.specs.Stores.{StoreState, parts}
use Rattle.crs_engine.specs.Engines.{EngineState, IsStoreAt, plans_of, kept_of, since}
use Rattle.crs_log.specs.Recognitions.{View}
use Rattle.crs_layers.specs.LayerPlans.{placed_of, picked, AreLayersOf}
use Rattle.crs_layers.specs.LayerStates.{LayersState}
use Rattle.crs_layers.specs.Runs.{State, horizon_of, views_of}
use Rattle.crs_layers.specs.Standing.{HasText, IsLayerAt, AreLayersAt, StandFor, placed_in, stratum_in}
use Rattle.crs_layers.specs.Strata.{Placed, Stratum, strata_count}
use Rattle.crs_layers.specs.StrataViews.{view_in, views_from, view_at}
use Rattle.crs_layers.specs.declared.layer.Layer.{Layer}
use Rattle.crs_layers.proofs.Parting.{arrived_parts}
use Rattle.crs_layers.proofs.Splitting.{numbered_distinct}
use Rattle.crs_layers.proofs.AtStart.{strata_placed}
use Rattle.crs_layers.proofs.Beginning.{zipped_length}
use Rattle.crs_session.specs.declared.session.Session.{Session}
use Rattle.crs_frames.specs.TableTexts.{chronicle_in, entries_in}
use Rattle.crs_session.specs.Session.{Represents}
use Rattle.crs_session.specs.Tallies.{AreLive, AllLive, capped}
use Rattle.crs_frames.specs.Frames.{Frame, LogEntry}
use Rattle.crs_session.specs.Texts.{setting_of}
use Rattle.crs_session.proofs.Renamed.{key_renamed, dated_renamed, arrived_renamed}

-- what is kept at the mark, and was recognised by then, lives
kept_live : {S : Type 0} (c : Chronicle S) (level : ℕ → ℕ) (held : List (Partial S)) (pool settled : List (Entry S)) (h : ℕ)
    → before h settled ≡ settled → Keeps c level AllWanted held pool pool settled h h → AreAll (IsLive c level pool settled h) held
kept_live c level held pool settled h is k = record {
  distinct = k.distinct;
  each = λ a i. let l = k.each a i in (l.0, subst (λ es. IsRecognisedWhole c pool es h a → ⊥) is l.1);
  all = λ a l. k.all a (l.0, subst (λ es. IsRecognisedWhole c pool es h a → ⊥) (sym is) l.1) tt;
}

-- events keep their levels with other symbols
levels_kept : (f : Sym → List ℕ) (events : List (EventDef Sym)) → map (λ v. v.level) (map (renamed_event f) events) ≡ map (λ v. v.level) events
levels_kept f [] = refl
levels_kept f (v ∷ vs) = ap (λ (levels : List ℕ). v.level ∷ levels) (levels_kept f vs)

same_levels : (f : Sym → List ℕ) (events : List (EventDef Sym)) (focus : Bool)
    → level_in (map (renamed_event f) events) focus ≡ level_in events focus
same_levels f events focus = λ i e. if focus then slice_index_or (levels_kept f events i) e 0 else 0

fold_from : (m : ℕ) (ns : List ℕ) → fold (λ a b. a + b) m ns ≡ m + fold (λ a b. a + b) 0 ns
fold_from m [] = omega arith
fold_from m (n ∷ ns) =
    let a = fold_from (m + n) ns in
    let b = fold_from (0 + n) ns in
    omega (arith, a, b)

sum_more : (n : ℕ) (ns : List ℕ) → sum (n ∷ ns) ≡ n + sum ns
sum_more n ns = fold_from (0 + n) ns ∙ ap (λ k. k + sum ns) (zero-add n)

module _ (texts : List (List ℕ)) (p : Plan) (settled came : List (Entry Sym)) where
  -- the entries of a pool are known
  pool_known : AllByRecursion (IsEntryOf (HasText texts)) settled → AllByRecursion (IsEntryOf (HasText texts)) came → AllByRecursion (IsEntryOf (HasText texts)) (pool_among (chronicle p) settled came)
  pool_known k l = by p.chronicle.prompt
    where
      by : (b : Bool) → AllByRecursion (IsEntryOf (HasText texts)) (cond b came settled)
      by true = l
      by false = k

  -- with the symbols' texts it is the pool of what is settled and of what came
  pool_renamed : entries_in texts (pool_among (chronicle p) settled came) ≡ pool_among (chronicle_in texts p) (entries_in texts settled) (entries_in texts came)
  pool_renamed = by p.chronicle.prompt
    where
      by : (b : Bool) → entries_in texts (cond b came settled) ≡ cond b (entries_in texts came) (entries_in texts settled)
      by true = refl
      by false = refl

module _ (texts : List (List ℕ)) (distinct : AreDistinct texts) where
  -- no two symbols of the table have one text
  apart : (x y : Sym) → HasText texts x → HasText texts y → text_in texts x ≡ text_in texts y → x ≡ y
  apart x y p q e = ap (λ n. record { 0 = n }) (distinct x.0 y.0 p q e)

  stars_of : (p : Plan) → IsProper p → AllByRecursion (λ w. HasNoStar w.body) (chronicle p).windows
  stars_of p proper = no_stars proper.declared.0 (chronicle p) (chronicle p).windows proper.declared.2.windows

module _ (texts : List (List ℕ)) (distinct : AreDistinct texts) (m : ℕ) (settled waiting : List (Entry Sym)) (h : ℕ)
    (known : AllByRecursion (IsEntryOf (HasText texts)) settled) (known_came : AllByRecursion (IsEntryOf (HasText texts)) (arrived m (settled ++ waiting))) (dated : AllByRecursion (λ x. x.date < h) settled) where
  abbrev came : List (Entry Sym)
  came = arrived m (settled ++ waiting)

  abbrev now : View
  now = record { settled = entries_in texts settled; arrived = entries_in texts came; horizon = h }

  -- a store of the plan holds the live ones
  store_live : (focus : Bool) (p : Plan) (s : StoreState) → IsProper p → IsChronicleOf (HasText texts) (chronicle p)
      → IsStoreAt focus m settled waiting h p s → AreLive focus (chronicle_in texts p) now (length s.held)
  store_live focus p s proper of at =
      let c = chronicle p in
      let pool : List (Entry Sym) = pool_among c settled came in
      let one : Keeps c (level_in c.events s.focus) AllWanted (parts s.held) pool pool settled h h =
      subst (λ (q : Plan). Keeps (chronicle q) (level_in (chronicle q).events s.focus) AllWanted
      (parts s.held) pool pool settled h h) at.plan (at.stands).stands in
      let two : Keeps c (level_in c.events (reads_levels c focus)) AllWanted (parts s.held) pool pool settled h h =
      subst (λ (b : Bool). Keeps c (level_in c.events b) AllWanted (parts s.held) pool pool settled h h) at.focus_is one in
      let all = before_all h settled (λ e i. in_from_each (λ (x : Entry Sym). x.date < h) settled dated e i) in
      let live = kept_live c (level_in c.events (reads_levels c focus)) (parts s.held) pool settled h all two in
      let there = live_renamed (text_in texts) (HasText texts) (apart texts distinct) c of proper.named (stars_of texts distinct p proper)
      pool (pool_known texts p settled came known known_came) (level_in c.events (reads_levels c focus)) settled known h (parts s.held) live in
      let placed = subst (λ (t : List LogEntry). AreAll (IsLive (chronicle_in texts p) (level_in c.events (reads_levels c focus)) t now.settled h)
      (map (renamed_partial (text_in texts)) (parts s.held))) (pool_renamed texts p settled came) there in
      let read = subst (λ (level : ℕ → ℕ). AreAll (IsLive (chronicle_in texts p) level (pool_among (chronicle_in texts p) now.settled now.arrived) now.settled h)
      (map (renamed_partial (text_in texts)) (parts s.held))) (sym (same_levels (text_in texts) c.events (reads_levels c focus))) placed in (
        map (renamed_partial (text_in texts)) (parts s.held),
        read,
        sym (length-map (parts s.held) (renamed_partial (text_in texts)) ∙ length-map s.held (λ i. i.partial)),
      )

  -- how many live of each plan, and of all together
  stores_live : (focus : Bool) (ps : List Plan) (ss : List StoreState) → AllByRecursion IsProper ps
      → AllByRecursion (λ p. IsChronicleOf (HasText texts) (chronicle p)) ps → AllZip (IsStoreAt focus m settled waiting h) ps ss
      → AllZip (λ p n. AreLive focus (chronicle_in texts p) now n) ps (map (λ s. length s.held) ss)
  stores_live focus [] [] proper of at = tt
  stores_live focus [] (s ∷ ss) proper of at = absurd at
  stores_live focus (p ∷ ps) [] proper of at = absurd at
  stores_live focus (p ∷ ps) (s ∷ ss) proper of at = (store_live focus p s proper.0 of.0 at.0, stores_live focus ps ss proper.1 of.1 at.1)

-- ---- one stratum

some_in : (P : Entry Sym → Type 0) (p : Entry Sym → Bool) (xs : List (Entry Sym)) → AllByRecursion P xs → AllByRecursion P (in_key_order (filter p xs))
some_in P p xs h = each_from_in P (in_key_order (filter p xs)) (λ x i. in_from_each P xs h x (in_filter_back p xs x ((ordered_members (filter p xs)).there x i)).0)

module _ (texts : List (List ℕ)) (distinct : AreDistinct texts) (focus : Bool) (h last delay : ℕ) (s : Stratum Sym) (l : Layer) (k : IsLayerAt h last delay s l)
    (same_focus : l.engine.focus ≡ focus) (known : AllByRecursion (IsEntryOf (HasText texts)) s.accepted)
    (proper : AllByRecursion IsProper (plans_of l.engine.plans)) (of : AllByRecursion (λ p. IsChronicleOf (HasText texts) (chronicle p)) (plans_of l.engine.plans)) where
  abbrev settled : List (Entry Sym)
  settled = dated_before h s.accepted

  abbrev waiting : List (Entry Sym)
  waiting = in_key_order (since h s.accepted)

  came_is : arrived l.engine.marked (settled ++ waiting) ≡ in_key_order (arrived s.marked s.accepted)
  came_is =
      arrived_parts l.engine.marked h s.accepted (numbered_distinct 0 s.accepted k.sound.numbered) k.stands.in_order
      ∙ ap (λ (n : ℕ). in_key_order (arrived n s.accepted)) k.marked

  abbrev seen : View
  seen = record { settled = entries_in texts settled; arrived = entries_in texts (arrived l.engine.marked (settled ++ waiting)); horizon = l.engine.horizon }

  seen_is : seen ≡ view_in (stratum_in texts s) h
  seen_is =
      let arrived_is : entries_in texts (arrived l.engine.marked (settled ++ waiting)) ≡ in_key_order (arrived s.marked (map (renamed_entry (text_in texts)) s.accepted)) =
      ap (entries_in texts) came_is ∙ key_renamed (text_in texts) (arrived s.marked s.accepted) ∙ ap in_key_order (arrived_renamed (text_in texts) s.marked s.accepted) in
      λ i. record { settled = dated_renamed (text_in texts) h s.accepted i; arrived = arrived_is i; horizon = k.horizon i }

  pub layer_live : AllZip (λ p n. AreLive focus (chronicle_in texts p) (view_in (stratum_in texts s) h) n) (plans_of l.engine.plans) (map (λ t. length t.held) l.engine.stores)
  layer_live =
      let raw = stores_live texts distinct l.engine.marked settled waiting l.engine.horizon (some_in (IsEntryOf (HasText texts)) (λ e. nat_lt e.date h) s.accepted known)
      (subst (AllByRecursion (IsEntryOf (HasText texts))) (sym came_is) (some_in (IsEntryOf (HasText texts)) (λ e. nat_lt e.arrival s.marked) s.accepted known)) k.stands.settled_before
      l.engine.focus (plans_of l.engine.plans) l.engine.stores proper of k.stands.stores in
      subst (λ (v : View). AllZip (λ p n. AreLive focus (chronicle_in texts p) v n) (plans_of l.engine.plans) (map (λ t. length t.held) l.engine.stores)) seen_is
      (subst (λ (b : Bool). AllZip (λ p n. AreLive b (chronicle_in texts p) seen n) (plans_of l.engine.plans) (map (λ t. length t.held) l.engine.stores)) same_focus raw)

-- ---- from strata to the file's order

none_live : (R : Plan → ℕ → Type 0) (ns : List ℕ) → AllZip R [] ns → ns ≡ []
none_live R [] h = refl
none_live R (n ∷ ns) h = absurd h

module _ (R : ℕ → Plan → ℕ → Type 0) where
  -- from stratum j on, so many of each plan of the stratum
  abbrev AreCounted : List Plan → List ℕ → ℕ → List (List ℕ) → Type 0
  AreCounted ps ks j [] = Unit {0}
  AreCounted ps ks j (ns ∷ nss) = AllZip (R j) (picked j ps ks) ns × AreCounted ps ks (suc j) nss

  -- so many of each plan, in file order
  abbrev AllCounted : List Plan → List ℕ → ℕ → Type 0
  AllCounted [] ks n = n ≡ 0
  AllCounted (p ∷ ps) [] n = n ≡ 0
  AllCounted (p ∷ ps) (k ∷ ks) n = (first : ℕ) × (rest : ℕ) × R k p first × AllCounted ps ks rest × (n ≡ first + rest)

  abbrev total : List (List ℕ) → ℕ
  total [] = 0
  total (ns ∷ nss) = sum ns + total nss

  none_total : (ps : List Plan) (ks : List ℕ) (j : ℕ) (nss : List (List ℕ)) → ((i : ℕ) → picked i ps ks ≡ []) → AreCounted ps ks j nss → total nss ≡ 0
  none_total ps ks j [] none c = refl
  none_total ps ks j (ns ∷ nss) none c =
      let here : ns ≡ [] = none_live (R j) ns (subst (λ (qs : List Plan). AllZip (R j) qs ns) (none j) c.0) in
      let rest = none_total ps ks (suc j) nss none c.1 in
      (λ i. sum (here i) + rest i)

  apart_by : (k j : ℕ) → (k ≡ j → ⊥) → (k == j) ≡ false
  apart_by k j n = grind (arith, n)

  same_by : (k j : ℕ) → k ≡ j → (k == j) ≡ true
  same_by k j e = grind (arith, e)

  -- strata above that of the first plan lack it
  skip : (p : Plan) (ps : List Plan) (k : ℕ) (ks : List ℕ) (j : ℕ) (nss : List (List ℕ)) → k < j → AreCounted (p ∷ ps) (k ∷ ks) j nss → AreCounted ps ks j nss
  skip p ps k ks j [] l c = tt
  skip p ps k ks j (ns ∷ nss) l c =
      let no : (k == j) ≡ false = apart_by k j (λ e. omega (arith, e, l)) in (
        subst (λ (b : Bool). AllZip (R j) (cond b (p ∷ picked j ps ks) (picked j ps ks)) ns) no c.0,
        skip p ps k ks (suc j) nss (omega (arith, l)) c.1,
      )

  pub record IsPeeled (p : Plan) (ps : List Plan) (k : ℕ) (ks : List ℕ) (j : ℕ) (nss : List (List ℕ)) : Type 0 where
    first : ℕ
    others : List (List ℕ)
    one : R k p first
    counted : AreCounted ps ks j others
    long : length others ≡ length nss
    sums : total nss ≡ first + total others

  peel_here : (p : Plan) (ps : List Plan) (k : ℕ) (ks : List ℕ) (ns : List ℕ) (nss : List (List ℕ)) → AllZip (R k) (p ∷ picked k ps ks) ns → AreCounted ps ks (suc k) nss → IsPeeled p ps k ks k (ns ∷ nss)
  peel_here p ps k ks [] nss a c = absurd a
  peel_here p ps k ks (n ∷ ns) nss a c = record {
    first = n;
    others = ns ∷ nss;
    one = a.0;
    counted = (a.1, c);
    long = refl;
    sums = let s = sum_more n ns in omega (arith, s);
  }

  peel : (p : Plan) (ps : List Plan) (k : ℕ) (ks : List ℕ) (j : ℕ) (nss : List (List ℕ)) → j ≤ k → k < j + length nss → AreCounted (p ∷ ps) (k ∷ ks) j nss → IsPeeled p ps k ks j nss
  peel p ps k ks j [] low high c = absurd (omega (arith, low, high))
  peel p ps k ks j (ns ∷ nss) low high c = by (k == j) refl (λ differ. peel p ps k ks (suc j) nss (omega (arith, low, differ)) (omega (arith, high)) c.1)
    where
      by : (b : Bool) → (k == j) ≡ b → ((k ≡ j → ⊥) → IsPeeled p ps k ks (suc j) nss) → IsPeeled p ps k ks j (ns ∷ nss)
      by true e rest =
          let same : k ≡ j = grind (arith, e) in
          subst (λ (i : ℕ). IsPeeled p ps k ks i (ns ∷ nss)) same
          (peel_here p ps k ks ns nss
          (subst (λ (i : ℕ). AllZip (R i) (p ∷ picked i ps ks) ns) (sym same) (subst (λ (b : Bool). AllZip (R j) (cond b (p ∷ picked j ps ks) (picked j ps ks)) ns) e c.0))
          (subst (λ (i : ℕ). AreCounted ps ks (suc i) nss) (sym same) (skip p ps k ks (suc j) nss (omega (arith, same)) c.1)))
      by false e rest =
          let r = rest (λ q. true≢false (sym (same_by k j q) ∙ e)) in
          record {
            first = r.first;
            others = ns ∷ r.others;
            one = r.one;
            counted = (subst (λ (b : Bool). AllZip (R j) (cond b (p ∷ picked j ps ks) (picked j ps ks)) ns) e c.0, r.counted);
            long = ap suc r.long;
            sums = let s = r.sums in omega (arith, s);
          }

  none_picked : (ps : List Plan) (i : ℕ) → picked i ps [] ≡ []
  none_picked [] i = refl
  none_picked (p ∷ ps) i = refl

  pub all_counted : (ps : List Plan) (ks : List ℕ) (nss : List (List ℕ)) → AllByRecursion (λ k. k < length nss) ks → AreCounted ps ks 0 nss → AllCounted ps ks (total nss)
  all_counted [] ks nss low c = none_total [] ks 0 nss (λ i. refl) c
  all_counted (p ∷ ps) [] nss low c = none_total (p ∷ ps) [] 0 nss (λ i. refl) c
  all_counted (p ∷ ps) (k ∷ ks) nss low c =
      let below = low.0 in
      let r = peel p ps k ks 0 nss (omega arith) (omega (arith, below)) c in
      (r.first, total r.others, r.one, all_counted ps ks r.others (subst (λ (n : ℕ). AllByRecursion (λ k. k < n) ks) (sym r.long) low.1) r.counted, r.sums)

-- ---- all strata

-- how many partial assignments an engine holds, and layers
abbrev held_by : EngineState → ℕ
held_by e = sum (map (λ s. length s.held) e.stores)

abbrev pub held_in : List Layer → ℕ
held_in [] = 0
held_in (l ∷ ls) = held_by l.engine + held_in ls

abbrev counts_of : List Layer → List (List ℕ)
counts_of ls = map (λ l. map (λ t. length t.held) l.engine.stores) ls

totals : (R : ℕ → Plan → ℕ → Type 0) (ls : List Layer) → total R (counts_of ls) ≡ held_in ls
totals R [] = refl
totals R (l ∷ ls) = ap (λ (n : ℕ). held_by l.engine + n) (totals R ls)

-- what is said of them is their number up to the limit
pub kept_is : (ls : List Layer) → min (sum (map (λ l. kept_of l.engine) ls)) (2 ^ 64 - 1) ≡ capped (held_in ls)
kept_is [] = refl
kept_is (l ∷ ls) =
    let s = sum_more (kept_of l.engine) (map (λ l. kept_of l.engine) ls) in
    let rest = kept_is ls in
    by (2 ^ 64 - 1) (held_by l.engine) (sum (map (λ l. kept_of l.engine) ls)) (held_in ls) (sum (map (λ l. kept_of l.engine) (l ∷ ls))) s rest
  where
    by : (m a b c n : ℕ) → n ≡ min a m + b → min b m ≡ min c m → min n m ≡ min (a + c) m
    by m a b c n e q = omega (arith, e, q)

module _ (texts : List (List ℕ)) (distinct : AreDistinct texts) (focus : Bool) (ps : List Plan) (ks : List ℕ) (proper : AllByRecursion IsProper ps)
    (of : AllByRecursion (λ p. IsChronicleOf (HasText texts) (chronicle p)) ps) (views : List View) where
  abbrev LiveAt : ℕ → Plan → ℕ → Type 0
  LiveAt j p n = AreLive focus (chronicle_in texts p) (view_at views j) n

  picked_all : (P : Plan → Type 0) (j : ℕ) (qs : List Plan) (ms : List ℕ) → AllByRecursion P qs → AllByRecursion P (picked j qs ms)
  picked_all P j [] ms h = tt
  picked_all P j (q ∷ qs) [] h = tt
  picked_all P j (q ∷ qs) (m ∷ ms) h = by (m == j) (picked_all P j qs ms h.1)
    where
      by : (b : Bool) → AllByRecursion P (picked j qs ms) → AllByRecursion P (cond b (q ∷ picked j qs ms) (picked j qs ms))
      by true r = (h.0, r)
      by false r = r

  layers_live : (limit j : ℕ) (h : ℕ → ℕ) (last delay : ℕ) (ss : List (Stratum Sym)) (ls : List Layer) → AreLayersOf ps ks focus limit j ls → AreLayersAt h last delay j ss ls
      → AllByRecursion (λ t. AllByRecursion (IsEntryOf (HasText texts)) t.accepted) ss → ((i : ℕ) → view_at views (j + i) ≡ view_at (views_from h j (map (stratum_in texts) ss)) i)
      → AreCounted LiveAt ps ks j (counts_of ls)
  layers_live limit j h last delay [] [] o k known same = tt
  layers_live limit j h last delay [] (l ∷ ls) o k known same = absurd k
  layers_live limit j h last delay (s ∷ ss) [] o k known same = absurd k
  layers_live limit j h last delay (s ∷ ss) (l ∷ ls) o k known same =
      let own = o.0.own_plans in
      let live = layer_live texts distinct focus (h j) last delay s l k.0 o.0.own_focus known.0
      (subst (AllByRecursion IsProper) (sym own) (picked_all IsProper j ps ks proper))
      (subst (AllByRecursion (λ p. IsChronicleOf (HasText texts) (chronicle p))) (sym own) (picked_all (λ p. IsChronicleOf (HasText texts) (chronicle p)) j ps ks of)) in
      let e : j + 0 ≡ j = omega arith in
      let here : view_in (stratum_in texts s) (h j) ≡ view_at views j = sym (same 0) ∙ ap (view_at views) e in (
        subst (λ (v : View). AllZip (λ p n. AreLive focus (chronicle_in texts p) v n) (picked j ps ks) (map (λ t. length t.held) l.engine.stores)) here
            (subst (λ (qs : List Plan). AllZip (λ p n. AreLive focus (chronicle_in texts p) (view_in (stratum_in texts s) (h j)) n) qs (map (λ t. length t.held) l.engine.stores)) own live),
        layers_live limit (suc j) h last delay ss ls o.1 k.1 known.1 (λ i. let q : suc j + i ≡ j + suc i = omega arith in ap (view_at views) q ∙ same (suc i)),
      )

  by_counts : (qs : List Plan) (ms : List ℕ) (n : ℕ) → AllCounted LiveAt qs ms n → AllLive focus (map (placed_in texts) (placed_of qs ms)) views n
  by_counts [] ms n c = c
  by_counts (q ∷ qs) [] n c = c
  by_counts (q ∷ qs) (m ∷ ms) n c = (c.0, c.1, c.2, by_counts qs ms c.1 c.3, c.4)

below_count : (ks : List ℕ) (n : ℕ) → strata_count ks ≤ n → AllByRecursion (λ k. k < n) ks
below_count [] n l = tt
below_count (k ∷ ks) n l = (omega (arith, l), below_count ks n (omega (arith, l)))

-- the strata of placed plans are below the count
strata_below : (texts : List (List ℕ)) (ps : List Plan) (ks : List ℕ) (n : ℕ) → length ps ≡ length ks → strata_count (map (λ p. p.stratum) (map (placed_in texts) (placed_of ps ks))) ≤ n
    → AllByRecursion (λ k. k < n) ks
strata_below texts ps ks n long l = below_count ks n (subst (λ (ms : List ℕ). strata_count ms ≤ n) (strata_placed texts ps ks long) l)

long_at : (h : ℕ → ℕ) (last delay j : ℕ) (ss : List (Stratum Sym)) (ls : List Layer) → AreLayersAt h last delay j ss ls → length ls ≡ length ss
long_at h last delay j [] [] k = refl
long_at h last delay j [] (l ∷ ls) k = absurd k
long_at h last delay j (s ∷ ss) [] k = absurd k
long_at h last delay j (s ∷ ss) (l ∷ ls) k = ap suc (long_at h last delay (suc j) ss ls k.1)

-- what the layers hold lives in the state that they stand for
module _ (f : Frame) (x : LayersState) (s : State) (d : StandFor (setting_of f) s x) (distinct : AreDistinct s.log.texts) (proper : AllByRecursion IsProper (plans_of x.plans))
    (strata : length s.strata ≡ strata_count (map (λ p. p.stratum) f.placed)) where
  abbrev texts : List (List ℕ)
  texts = s.log.texts

  abbrev ps : List Plan
  ps = plans_of x.plans

  abbrev views : List View
  views = views_of (setting_of f) s

  long : length ps ≡ length d.numbers
  long = sym (length-map ps chronicle) ∙ zipped_length _ (map chronicle ps) d.numbers d.run.strata

  enough : strata_count (map (λ p. p.stratum) (map (placed_in texts) (placed_of ps d.numbers))) ≤ length (counts_of x.layers)
  enough =
      let count = ap (λ (qs : List (Placed (List ℕ))). strata_count (map (λ p. p.stratum) qs)) d.run.placed in
      let seen = ap length d.seen in
      let at = long_at (horizon_of (setting_of f) s.log) s.log.last s.log.delay 0 d.strata x.layers d.at in
      omega (arith, strata, count, seen, at, length-map d.strata (stratum_in texts), length-map x.layers (λ l. map (λ t. length t.held) l.engine.stores))

  view_is : (i : ℕ) → view_at views (0 + i) ≡ view_at (views_from (horizon_of (setting_of f) s.log) 0 (map (stratum_in texts) d.strata)) i
  view_is i = ap (view_at views) (zero-add i) ∙ ap (λ (ss : List (Stratum (List ℕ))). view_at (views_from (horizon_of (setting_of f) s.log) 0 ss) i) (sym d.seen)

  pub held_live : AllLive x.focus f.placed views (held_in x.layers)
  held_live =
      let counted = layers_live texts distinct x.focus ps d.numbers proper d.run.known views x.limit 0 (horizon_of (setting_of f) s.log) s.log.last s.log.delay d.strata x.layers d.of d.at d.known view_is in
      let all = all_counted (LiveAt texts distinct x.focus ps d.numbers proper d.run.known views) ps d.numbers (counts_of x.layers) (strata_below texts ps d.numbers (length (counts_of x.layers)) long enough) counted in
      let there = by_counts texts distinct x.focus ps d.numbers proper d.run.known views ps d.numbers _ all in
      subst (λ (qs : List (Placed (List ℕ))). AllLive x.focus qs views (held_in x.layers)) (sym d.run.placed)
      (subst (λ (n : ℕ). AllLive x.focus (map (placed_in texts) (placed_of ps d.numbers)) views n) (totals (LiveAt texts distinct x.focus ps d.numbers proper d.run.known views) x.layers) there)

-- so what a session holds
pub live_in : (f : Frame) (x : Session) (s : State) (r : Represents f x s) → AllLive x.layers.focus f.placed (views_of (setting_of f) s) (held_in x.layers.layers)
live_in f x s r = held_live f x.layers s r.stand (subst AreDistinct (sym r.texts) r.models.distinct) r.models.proper r.strata
