-- Strata of two runs that accepted the same entries under other arrival numbers, and what a mark makes of them.
use Rattle.std.proofs.Common.{◌≡◌, ◌∙◌, ap, sym, refl, subst, ℕ, zero, suc, ◌+◌, ◌<◌, ◌≤◌, ◌==◌, Bool, true, false, cond, List, [], ◌∷◌, ◌++◌, length, map, filter, nat_lt, Option, Some, None, inl, inr, arith, append-nil, append_assoc, length-append, lt-ltb}
use Rattle.std.specs.Prelude.{◌⊎◌, slice_get, option_map, flat_map}
use Rattle.std.specs.List.{AllByRecursion, AllZip}
use Rattle.std.specs.Option.{option_to_list}
use Rattle.std.proofs.lemmas.Bool.{or_parts, le-ltb, ltb-false}
use Rattle.std.proofs.lemmas.Grind.{flat_map-append}
use Rattle.crs_base.specs.Entry.{Key, canonical}
use Rattle.crs_base.proofs.Alls.{all_append}
use Rattle.crs_base.proofs.Words.{in_from_each, each_from_in, in_filter_back}
use Rattle.crs_model.specs.declared.recognition.Mark.{Mark}
use Rattle.crs_model.specs.Models.{Emit, Chronicle}
use Rattle.crs_model.specs.Matching.{Assignment}
use Rattle.crs_model.specs.Open.{IsNew, before, pool_among}
use Rattle.crs_model.specs.Order.{Lists, assignment_cmp, dated_before, arrived, in_key_order}
use Rattle.crs_model.specs.Scopes.{IsNewIn}
use Rattle.crs_model.proofs.PairedLists.{Paired}
use Rattle.crs_model.proofs.Parted.{settled_is}
use Rattle.crs_model.proofs.Ties.{tie, said, ties, ties_last, ordered, ordered_members}
use Rattle.crs_model.proofs.TwinLists.{Reads, new_paired}
use Rattle.crs_model.proofs.TwinPools.{AreAlike, pairing}
use Rattle.crs_model.proofs.Twins.{Twins}
use Rattle.crs_log.specs.Known.{entry_of_event}
use Rattle.crs_log.specs.Recognitions.{View, scope_in}
use Rattle.crs_log.specs.Trace.{Answer, answer_of}
use Rattle.crs_log.proofs.ReadEntries.{IsRead, AreAccepted, one_accepted, same_read}
use Rattle.crs_layers.specs.Runs.{some_flooded}
use Rattle.crs_layers.specs.Strata.{Placed, Stratum, symbols_at, entry_by, given_by, gives, Give, taken, with_given, after_mark, is_flooded, of_stratum, IsMarkFrom}
use Rattle.crs_layers.specs.StrataAnswers.{AreNew}
use Rattle.crs_layers.specs.StrataViews.{view_in, views_from, view_at}
use Rattle.crs_report.proofs.TwinLines.{line_same}
use Rattle.crs_frames.specs.Frames.{LogEntry, answer_line}
use Rattle.crs_laws.proofs.EmitSymbols.{IsEmitting, IsGiven, gives_read}

-- ---- accepted entries

-- the accepted entries of two runs that say all as often
pub record Match (xs ys : List LogEntry) : Type 0 where
  pub left : AreAccepted xs
  pub right : AreAccepted ys
  pub ties : (z : Key) → ties z xs ≡ ties z ys

alike : (xs ys : List LogEntry) → Match xs ys → AreAlike xs ys
alike xs ys m = record {
  distinct = m.left.distinct;
  other_distinct = m.right.distinct;
  ties = m.ties;
  same = λ x y i j s. same_read x y (in_from_each IsRead xs m.left.read x i) (in_from_each IsRead ys m.right.read y j) s;
}

-- as many of each had been accepted by the last mark
pub record MarkAlike (k l : ℕ) (xs ys : List LogEntry) : Type 0 where
  pub left : k ≤ length xs
  pub right : l ≤ length ys
  pub early : (z : Key) → ties z (arrived k xs) ≡ ties z (arrived l ys)

all_arrived : (xs : List LogEntry) → AreAccepted xs → arrived (length xs) xs ≡ xs
all_arrived xs a = arrived_all (length xs) xs a.below
  where
    arrived_all : (n : ℕ) (es : List LogEntry) → AllByRecursion (λ x. x.arrival < n) es → arrived n es ≡ es
    arrived_all n [] h = refl
    arrived_all n (x ∷ es) h = ap (λ (b : Bool). cond b (x ∷ arrived n es) (arrived n es)) (lt-ltb x.arrival n h.0) ∙ ap (λ (t : List LogEntry). x ∷ t) (arrived_all n es h.1)

-- so have they been at a mark
mark_now : (xs ys : List LogEntry) → Match xs ys → MarkAlike (length xs) (length ys) xs ys
mark_now xs ys m = record {
  left = omega arith;
  right = omega arith;
  early = λ z. ap (ties z) (all_arrived xs m.left) ∙ m.ties z ∙ sym (ap (ties z) (all_arrived ys m.right));
}

-- the strata accepted the same, and had by the last mark
pub record StratumAlike (s u : Stratum (List ℕ)) : Type 0 where
  pub entries : Match s.accepted u.accepted
  pub marks : MarkAlike s.marked u.marked s.accepted u.accepted

-- ---- entries that are given

-- an entry that isn't asked for at the end of a list
pub filter_last : (p : LogEntry → Bool) (xs : List LogEntry) (x : LogEntry) → p x ≡ false → filter p (xs ++ x ∷ []) ≡ filter p xs
filter_last p [] x e = λ i. cond (e i) (x ∷ []) []
filter_last p (y ∷ xs) x e = λ i. cond (p y) (y ∷ filter_last p xs x e i) (filter_last p xs x e i)

-- the entries behind those that were given
record Behind (given xs ys : List LogEntry) : Type 0 where
  accepted : AreAccepted xs → AreAccepted ys
  ties : (z : Key) → ties z ys ≡ ties z xs + ties z given
  longer : length xs ≤ length ys
  early : (k : ℕ) → k ≤ length xs → arrived k ys ≡ arrived k xs

one_behind : (x : LogEntry) (xs : List LogEntry) → IsGiven x → Behind (x ∷ []) xs (xs ++ record x { arrival = length xs } ∷ [])
one_behind x xs (e, s, is) =
    let new : LogEntry = record x { arrival = length xs } in
    let same : entry_of_event (length xs) e ≡ new = ap (λ (y : LogEntry). record y { arrival = length xs }) (sym is) in
    record {
      accepted = λ a. subst (λ (y : LogEntry). AreAccepted (xs ++ y ∷ [])) same (one_accepted e xs s a);
      ties = λ z.
          let l : ties z (xs ++ new ∷ []) ≡ ties z xs + tie z (said x) = ties_last z xs new in
          let one : ties z (x ∷ []) ≡ tie z (said x) + 0 = refl in
          omega (arith, l, one);
      longer = let l = length-append xs (new ∷ []) in omega (arith, l);
      early = λ k l. filter_last (λ y. nat_lt y.arrival k) xs new (le-ltb (length xs) k l);
    }

then_behind : (x : LogEntry) (given xs ys zs : List LogEntry) → Behind (x ∷ []) xs ys → Behind given ys zs → Behind (x ∷ given) xs zs
then_behind x given xs ys zs a b = record {
  accepted = λ k. b.accepted (a.accepted k);
  ties = λ z.
      let one : ties z ys ≡ ties z xs + ties z (x ∷ []) = a.ties z in
      let two : ties z zs ≡ ties z ys + ties z given = b.ties z in
      let first : ties z (x ∷ []) ≡ tie z (said x) + 0 = refl in
      let all : ties z (x ∷ given) ≡ tie z (said x) + ties z given = refl in
      omega (arith, one, two, first, all);
  longer = let l = a.longer in let m = b.longer in omega arith;
  early = λ k l. b.early k (let m = a.longer in omega arith) ∙ a.early k l;
}

none_behind : (xs : List LogEntry) → Behind [] xs xs
none_behind xs = record { accepted = λ a. a; ties = λ z. omega arith; longer = omega arith; early = λ k l. refl }

-- where there is room for all, all are accepted
given_behind : (limit : ℕ) (given : List LogEntry) → AllByRecursion IsGiven given → (xs : List LogEntry) → nat_lt limit (length xs + length given) ≡ false → Behind given xs (with_given limit xs given)
given_behind limit [] h xs fine = subst (Behind [] xs) (sym (append-nil xs)) (none_behind xs)
given_behind limit (x ∷ given) h xs fine =
    let new : LogEntry = record x { arrival = length xs } in
    let most : length xs + length (x ∷ given) ≤ limit = ltb-false limit (length xs + length (x ∷ given)) fine in
    let room : length xs < limit = omega (arith, most) in
    let step : taken limit (length xs) (x ∷ given) ≡ new ∷ taken limit (length xs + 1) given = λ i. cond (lt-ltb (length xs) limit room i) (new ∷ taken limit (length xs + 1) given) [] in
    let long : length (xs ++ new ∷ []) ≡ length xs + 1 = length-append xs (new ∷ []) in
    let all : with_given limit (xs ++ new ∷ []) given ≡ with_given limit xs (x ∷ given) =
    append_assoc xs (new ∷ []) (taken limit (length (xs ++ new ∷ [])) given)
    ∙ ap (λ (n : ℕ). xs ++ new ∷ taken limit n given) long
    ∙ ap (λ (ys : List LogEntry). xs ++ ys) (sym step) in
    let count : length (xs ++ new ∷ []) + length given ≡ length xs + length (x ∷ given) = omega (arith, long) in
    subst (Behind (x ∷ given) xs) all
    (then_behind x given xs (xs ++ new ∷ []) (with_given limit (xs ++ new ∷ []) given) (one_behind x xs h.0) (given_behind limit given h.1 (xs ++ new ∷ []) (ap (nat_lt limit) count ∙ fine)))

behind_match : (given xs us ys zs : List LogEntry) → Match xs us → Behind given xs ys → Behind given us zs → Match ys zs
behind_match given xs us ys zs m a b = record {
  left = a.accepted m.left;
  right = b.accepted m.right;
  ties = λ z.
      let one : ties z ys ≡ ties z xs + ties z given = a.ties z in
      let other : ties z zs ≡ ties z us + ties z given = b.ties z in
      let same : ties z xs ≡ ties z us = m.ties z in
      omega (arith, one, other, same);
}

-- ---- views

-- what recognition reads of two runs, before and behind a mark, is paired
abbrev pub TwinViews : View → View → View → View → Type 1
TwinViews v w n m =
    (T : LogEntry → LogEntry → Type 0) × Twins T × AllZip T v.settled w.settled × AllZip T v.arrived w.arrived × AllZip T n.settled m.settled × AllZip T n.arrived m.arrived
    × (v.horizon ≡ w.horizon) × (n.horizon ≡ m.horizon)

zip_dated : (T : LogEntry → LogEntry → Type 0) → Twins T → (h : ℕ) (xs ys : List LogEntry) → AllZip T xs ys → AllZip T (before h xs) (before h ys)
zip_dated T t h [] [] z = tt
zip_dated T t h [] (y ∷ ys) z = absurd z
zip_dated T t h (x ∷ xs) [] z = absurd z
zip_dated T t h (x ∷ xs) (y ∷ ys) z =
    subst (λ (b : Bool). AllZip T (before h (x ∷ xs)) (cond b (y ∷ before h ys) (before h ys))) (ap (λ n. nat_lt n h) (t.same x y z.0).date)
    (by (nat_lt x.date h) (before h xs) (before h ys) z.0 (zip_dated T t h xs ys z.1))
  where
    by : (b : Bool) (us vs : List LogEntry) → T x y → AllZip T us vs → AllZip T (cond b (x ∷ us) us) (cond b (y ∷ vs) vs)
    by true us vs p q = (p, q)
    by false us vs p q = q

dated_is : (h : ℕ) (xs : List LogEntry) → AreAccepted xs → before h (in_key_order xs) ≡ dated_before h xs
dated_is h xs a = settled_is h xs (in_key_order xs) a.distinct (ordered xs a.distinct) (ordered_members xs)

grown_views : (g h : ℕ) (s u : Stratum (List ℕ)) (given ys zs : List LogEntry) → StratumAlike s u → Behind given s.accepted ys → Behind given u.accepted zs
    → TwinViews (view_in s g) (view_in u g) (view_in (record { accepted = ys; marked = length ys }) h) (view_in (record { accepted = zs; marked = length zs }) h)
grown_views g h s u given ys zs z a b =
    let m = behind_match given s.accepted u.accepted ys zs z.entries a b in
    let p = pairing ys zs (alike ys zs m) in
    let T : LogEntry → LogEntry → Type 0 = p.0 in
    let mine : arrived (length s.accepted) ys ≡ s.accepted = a.early (length s.accepted) (omega arith) ∙ all_arrived s.accepted z.entries.left in
    let own : arrived (length u.accepted) zs ≡ u.accepted = b.early (length u.accepted) (omega arith) ∙ all_arrived u.accepted z.entries.right in
    let whole : AllZip T (in_key_order (arrived (length s.accepted) ys)) (in_key_order (arrived (length u.accepted) zs)) =
    p.3 (length s.accepted) (length u.accepted) (λ k. ap (ties k) mine ∙ z.entries.ties k ∙ sym (ap (ties k) own)) in
    let old : AllZip T (in_key_order s.accepted) (in_key_order u.accepted) =
    subst (λ (es : List LogEntry). AllZip T (in_key_order es) (in_key_order u.accepted)) mine (subst (λ (es : List LogEntry). AllZip T (in_key_order (arrived (length s.accepted) ys)) (in_key_order es)) own whole) in
    let was : AllZip T (dated_before g s.accepted) (dated_before g u.accepted) =
    subst (λ (es : List LogEntry). AllZip T es (dated_before g u.accepted)) (dated_is g s.accepted z.entries.left)
    (subst (AllZip T (before g (in_key_order s.accepted))) (dated_is g u.accepted z.entries.right) (zip_dated T p.1 g (in_key_order s.accepted) (in_key_order u.accepted) old)) in
    let mine_early : arrived s.marked ys ≡ arrived s.marked s.accepted = a.early s.marked z.marks.left in
    let own_early : arrived u.marked zs ≡ arrived u.marked u.accepted = b.early u.marked z.marks.right in
    let early : AllZip T (in_key_order (arrived s.marked ys)) (in_key_order (arrived u.marked zs)) =
    p.3 s.marked u.marked (λ k. ap (ties k) mine_early ∙ z.marks.early k ∙ sym (ap (ties k) own_early)) in
    let had : AllZip T (in_key_order (arrived s.marked s.accepted)) (in_key_order (arrived u.marked u.accepted)) =
    subst (λ (es : List LogEntry). AllZip T (in_key_order es) (in_key_order (arrived u.marked u.accepted))) mine_early (subst (λ (es : List LogEntry). AllZip T (in_key_order (arrived s.marked ys)) (in_key_order es)) own_early early) in
    (T, p.1, was, had, p.2 h, p.3 (length ys) (length zs) (mark_now ys zs m).early, refl, refl)

-- of strata that aren't there nothing is read
none_read : TwinViews (view_at [] 0) (view_at [] 0) (view_at [] 0) (view_at [] 0)
none_read = (
  λ x y. ⊥,
  record {
    same = λ x y p. absurd p;
    keeps = λ x y a b p q. absurd p;
    on = λ x y a b p q e. absurd p;
    back = λ x y a b p q e. absurd p;
    one = λ x y z p q. absurd p;
    one_back = λ x y z p q. absurd p;
  },
  tt,
  tt,
  tt,
  tt,
  refl,
  refl,
)

-- ---- what is given at a mark

-- at one place of paired lists stand two that are paired, or none
zip_get : (T : LogEntry → LogEntry → Type 0) (xs ys : List LogEntry) → AllZip T xs ys → (n : ℕ)
    → ((slice_get xs n ≡ None) × (slice_get ys n ≡ None)) ⊎ ((x : LogEntry) × (y : LogEntry) × (slice_get xs n ≡ Some x) × (slice_get ys n ≡ Some y) × T x y)
zip_get T [] [] z n = inl (refl, refl)
zip_get T [] (y ∷ ys) z n = absurd z
zip_get T (x ∷ xs) [] z n = absurd z
zip_get T (x ∷ xs) (y ∷ ys) z zero = inr (x, y, refl, refl, z.0)
zip_get T (x ∷ xs) (y ∷ ys) z (suc n) = zip_get T xs ys z.1 n

dated_alike : (values : List (List ℕ)) (e : Emit (List ℕ)) (x y : LogEntry) → x.date ≡ y.date → entry_by (λ x. x) values e x ≡ entry_by (λ x. x) values e y
dated_alike values e x y q i = record {
  arrival = 0;
  date = q i;
  name = e.pattern.name;
  args = flat_map (symbols_at values) e.pattern.terms;
  change = None;
  text = canonical e.pattern.name (map (λ x. x) (flat_map (symbols_at values) e.pattern.terms)) None;
}

given_same : (T : LogEntry → LogEntry → Type 0) → Twins T → (a b : Assignment (List ℕ)) → Paired T a b → (e : Emit (List ℕ)) → given_by (λ x. x) a e ≡ given_by (λ x. x) b e
given_same T t a b p e = elim (zip_get T a.entries b.entries p.entries e.event) [
  | inl none ↦
      ap (λ (o : Option LogEntry). option_to_list (option_map (entry_by (λ x. x) a.values e) o)) none.0
      ∙ sym (ap (λ (o : Option LogEntry). option_to_list (option_map (entry_by (λ x. x) b.values e) o)) none.1)
  | inr some ↦
      ap (λ (o : Option LogEntry). option_to_list (option_map (entry_by (λ x. x) a.values e) o)) some.2
      ∙ ap (λ (z : LogEntry). z ∷ []) (dated_alike a.values e some.0 some.1 (t.same some.0 some.1 some.4).date)
      ∙ ap (λ (vs : List (List ℕ)). entry_by (λ x. x) vs e some.1 ∷ []) p.values
      ∙ sym (ap (λ (o : Option LogEntry). option_to_list (option_map (entry_by (λ x. x) b.values e) o)) some.3)
]

gives_same : (T : LogEntry → LogEntry → Type 0) → Twins T → (c : Chronicle (List ℕ)) (xs ys : List (Assignment (List ℕ))) → AllZip (Paired T) xs ys
    → flat_map (gives (λ x. x) c) xs ≡ flat_map (gives (λ x. x) c) ys
gives_same T t c [] [] z = refl
gives_same T t c [] (y ∷ ys) z = absurd z
gives_same T t c (x ∷ xs) [] z = absurd z
gives_same T t c (x ∷ xs) (y ∷ ys) z = λ i. each c.emits i ++ gives_same T t c xs ys z.1 i
  where
    each : (es : List (Emit (List ℕ))) → flat_map (given_by (λ x. x) x) es ≡ flat_map (given_by (λ x. x) y) es
    each [] = refl
    each (e ∷ es) = λ i. given_same T t x y z.0 e i ++ each es i

-- what recognition of a chronicle reads
abbrev reads : Chronicle (List ℕ) → View → View → Reads (List ℕ)
reads c v n = record { was_pool = (scope_in c v).pool; was = v.settled; pool = (scope_in c n).pool; now = n.settled }

pool_paired : (T : LogEntry → LogEntry → Type 0) (c : Chronicle (List ℕ)) (xs came ys other : List LogEntry) → AllZip T xs ys → AllZip T came other → AllZip T (pool_among c xs came) (pool_among c ys other)
pool_paired T c xs came ys other z y = by c.prompt
  where
    by : (b : Bool) → AllZip T (cond b came xs) (cond b other ys)
    by true = y
    by false = z

-- what is new is paired
new_alike : (c : Chronicle (List ℕ)) (v w n m : View) (p : TwinViews v w n m) (xs ys : List (Assignment (List ℕ))) → Lists assignment_cmp (IsNewIn c (scope_in c v) (scope_in c n)) xs
    → Lists assignment_cmp (IsNewIn c (scope_in c w) (scope_in c m)) ys → AllZip (Paired p.0) xs ys
new_alike c v w n m (T, t, was, had, now, came, old, new) xs ys x y =
    new_paired T t (reads c v n) (reads c w m)
    (record { was_pool = pool_paired T c v.settled v.arrived w.settled w.arrived was had; was = was; pool = pool_paired T c n.settled n.arrived m.settled m.arrived now came; now = now })
    c v.horizon n.horizon xs ys x
    (subst (λ (k : ℕ). Lists assignment_cmp (λ b. IsNew c (scope_in c w).pool w.settled k (scope_in c m).pool m.settled n.horizon b) ys) (sym old)
    (subst (λ (k : ℕ). Lists assignment_cmp (λ b. IsNew c (scope_in c w).pool w.settled w.horizon (scope_in c m).pool m.settled k b) ys) (sym new) y))

give_same : (cs : List (Chronicle (List ℕ))) (v w n m : View) → TwinViews v w n m → (given other : List LogEntry) → Give (λ x. x) cs (λ c. scope_in c v) (λ c. scope_in c n) given
    → Give (λ x. x) cs (λ c. scope_in c w) (λ c. scope_in c m) other → given ≡ other
give_same [] v w n m t given other p q = p ∙ sym q
give_same (c ∷ cs) v w n m t given other p q =
    let new = new_alike c v w n m t p.0 q.0 p.2 q.2 in
    let rest = give_same cs v w n m t p.1 q.1 p.3 q.3 in
    p.4 ∙ (λ i. gives_same t.0 t.1 c p.0 q.0 new i ++ rest i) ∙ sym q.4

-- it is of symbols
all_given : (cs : List (Chronicle (List ℕ))) → AllByRecursion IsEmitting cs → (v n : View) → AllByRecursion IsRead n.settled → AllByRecursion IsRead n.arrived → (given : List LogEntry)
    → Give (λ x. x) cs (λ c. scope_in c v) (λ c. scope_in c n) given → AllByRecursion IsGiven given
all_given [] e v n s a given p = subst (AllByRecursion IsGiven) (sym p) tt
all_given (c ∷ cs) e v n s a given p =
    subst (AllByRecursion IsGiven) (sym p.4) (all_append IsGiven (flat_map (gives (λ x. x) c) p.0) p.1 (each p.0 p.2.each) (all_given cs e.1 v n s a p.1 p.3))
  where
    pool : AllByRecursion IsRead (scope_in c n).pool
    pool = by c.prompt
      where
        by : (b : Bool) → AllByRecursion IsRead (cond b n.arrived n.settled)
        by true = a
        by false = s

    each : (xs : List (Assignment (List ℕ))) → AllByRecursion (IsNewIn c (scope_in c v) (scope_in c n)) xs → AllByRecursion IsGiven (flat_map (gives (λ x. x) c) xs)
    each [] h = tt
    each (x ∷ xs) h = all_append IsGiven (gives (λ x. x) c x) (flat_map (gives (λ x. x) c) xs) (gives_read c e.0 x (scope_in c n).pool h.0.0.assignment pool) (each xs h.1)

each_dated : (h : ℕ) (xs : List LogEntry) → AllByRecursion IsRead xs → AllByRecursion IsRead (dated_before h xs)
each_dated h xs r = each_from_in IsRead (dated_before h xs)
    (λ x i. in_from_each IsRead xs r x (in_filter_back (λ (e : LogEntry). nat_lt e.date h) xs x ((ordered_members (filter (λ e. nat_lt e.date h) xs)).there x i)).0)

each_arrived : (n : ℕ) (xs : List LogEntry) → AllByRecursion IsRead xs → AllByRecursion IsRead (in_key_order (arrived n xs))
each_arrived n xs r = each_from_in IsRead (in_key_order (arrived n xs))
    (λ x i. in_from_each IsRead xs r x (in_filter_back (λ (e : LogEntry). nat_lt e.arrival n) xs x ((ordered_members (arrived n xs)).there x i)).0)

-- ---- a mark

emitting_of : (j : ℕ) (ps : List (Placed (List ℕ))) → AllByRecursion (λ p. IsEmitting p.chronicle) ps → AllByRecursion IsEmitting (of_stratum j ps)
emitting_of j [] h = tt
emitting_of j (p ∷ ps) h = by (p.stratum == j) (emitting_of j ps h.1)
  where
    by : (b : Bool) → AllByRecursion IsEmitting (of_stratum j ps) → AllByRecursion IsEmitting (map (λ c. c.chronicle) (cond b (p ∷ filter (λ c. c.stratum == j) ps) (filter (λ c. c.stratum == j) ps)))
    by true r = (h.0, r)
    by false r = r

module _ (ps : List (Placed (List ℕ))) (emitting : AllByRecursion (λ p. IsEmitting p.chronicle) ps) (limit : ℕ) (g h : ℕ → ℕ) where
  -- the strata behind the mark are alike, and what is read of each, before it and behind it
  abbrev pub AreTwins : ℕ → (ss us ts vs : List (Stratum (List ℕ))) → Type 1
  AreTwins j ss us ts vs =
      AllZip StratumAlike ts vs
      × ((i : ℕ) → TwinViews (view_at (views_from g j ss) i) (view_at (views_from g j us) i) (view_at (views_from h j ts) i) (view_at (views_from h j vs) i))

  twins_more : (j : ℕ) (s u t v : Stratum (List ℕ)) (ss us ts vs : List (Stratum (List ℕ))) → StratumAlike t v → TwinViews (view_in s (g j)) (view_in u (g j)) (view_in t (h j)) (view_in v (h j))
      → AreTwins (suc j) ss us ts vs → AreTwins j (s ∷ ss) (u ∷ us) (t ∷ ts) (v ∷ vs)
  twins_more j s u t v ss us ts vs z views rest = ((z, rest.0), by)
    where
      by : (i : ℕ) → TwinViews (view_at (views_from g j (s ∷ ss)) i) (view_at (views_from g j (u ∷ us)) i) (view_at (views_from h j (t ∷ ts)) i) (view_at (views_from h j (v ∷ vs)) i)
      by zero = views
      by (suc i) = rest.1 i

  pub mark_alike : (j : ℕ) (given : List LogEntry) (ss us ts vs : List (Stratum (List ℕ))) (all other : List (List LogEntry)) → AllZip StratumAlike ss us → AllByRecursion IsGiven given
      → IsMarkFrom (λ x. x) ps limit g h j given ss ts all → IsMarkFrom (λ x. x) ps limit g h j given us vs other → some_flooded limit ss all ≡ false → some_flooded limit us other ≡ false
      → AreTwins j ss us ts vs
  mark_alike j given [] [] ts vs all other z k p q fine good =
      subst (λ (xs : List (Stratum (List ℕ))). AreTwins j [] [] xs vs) (sym p.0) (subst (AreTwins j [] [] []) (sym q.0) (tt, λ i. none_read))
  mark_alike j given [] (u ∷ us) ts vs all other z k p q fine good = absurd z
  mark_alike j given (s ∷ ss) [] ts vs all other z k p q fine good = absurd z
  mark_alike j given (s ∷ ss) (u ∷ us) ts vs all other z k p q fine good =
      let mine = or_parts (is_flooded limit s given) (some_flooded limit ss p.1) (sym (ap (some_flooded limit (s ∷ ss)) p.4) ∙ fine) in
      let own = or_parts (is_flooded limit u given) (some_flooded limit us q.1) (sym (ap (some_flooded limit (u ∷ us)) q.4) ∙ good) in
      let a = given_behind limit given k s.accepted mine.0 in
      let b = given_behind limit given k u.accepted own.0 in
      let m = behind_match given s.accepted u.accepted (with_given limit s.accepted given) (with_given limit u.accepted given) z.0.entries a b in
      let views = grown_views (g j) (h j) s u given (with_given limit s.accepted given) (with_given limit u.accepted given) z.0 a b in
      let read = m.left.read in
      let same : p.2 ≡ q.2 =
      give_same (of_stratum j ps) (view_in s (g j)) (view_in u (g j)) (view_in (after_mark limit s given) (h j)) (view_in (after_mark limit u given) (h j)) views p.2 q.2 p.5 q.5 in
      let more : AllByRecursion IsGiven p.2 =
      all_given (of_stratum j ps) (emitting_of j ps emitting) (view_in s (g j)) (view_in (after_mark limit s given) (h j)) (each_dated (h j) (with_given limit s.accepted given) read)
      (each_arrived (length (with_given limit s.accepted given)) (with_given limit s.accepted given) read) p.2 p.5 in
      let rest = mark_alike (suc j) (given ++ p.2) ss us p.0 q.0 p.1 q.1 z.1 (all_append IsGiven given p.2 k more) p.6
      (subst (λ (x : List LogEntry). IsMarkFrom (λ x. x) ps limit g h (suc j) (given ++ x) us q.0 q.1) (sym same) q.6) mine.1 own.1 in
      let twins = twins_more j s u (after_mark limit s given) (after_mark limit u given) ss us p.0 q.0
      (record { entries = m; marks = mark_now (with_given limit s.accepted given) (with_given limit u.accepted given) m }) views rest in
      subst (λ (xs : List (Stratum (List ℕ))). AreTwins j (s ∷ ss) (u ∷ us) xs vs) (sym p.3) (subst (AreTwins j (s ∷ ss) (u ∷ us) (after_mark limit s given ∷ p.0)) (sym q.3) twins)

-- ---- what is written at a mark

lines_same : (T : LogEntry → LogEntry → Type 0) → Twins T → (k : ℕ) (c : Chronicle (List ℕ)) (mark : Mark) (xs ys : List (Assignment (List ℕ)))
    → AllZip (Paired T) xs ys
    → flat_map (answer_line false mark) (map (answer_of k c) xs) ≡ flat_map (answer_line false mark) (map (answer_of k c) ys)
lines_same T t k c mark [] [] z = refl
lines_same T t k c mark [] (y ∷ ys) z = absurd z
lines_same T t k c mark (x ∷ xs) [] z = absurd z
lines_same T t k c mark (x ∷ xs) (y ∷ ys) z = λ i. line_same T t c mark x y z.0 i ++ lines_same T t k c mark xs ys z.1 i

pub answers_same : (k : ℕ) (ps : List (Placed (List ℕ))) (vs ws ns ms : List View) → ((i : ℕ) → TwinViews (view_at vs i) (view_at ws i) (view_at ns i) (view_at ms i)) → (mark : Mark)
    → (a b : List Answer) → AreNew k ps vs ns a → AreNew k ps ws ms b → flat_map (answer_line false mark) a ≡ flat_map (answer_line false mark) b
answers_same k [] vs ws ns ms t mark a b p q = ap (flat_map (answer_line false mark)) (p ∙ sym q)
answers_same k (c ∷ ps) vs ws ns ms t mark a b p q =
    let own = t c.stratum in
    let new = new_alike c.chronicle (view_at vs c.stratum) (view_at ws c.stratum) (view_at ns c.stratum) (view_at ms c.stratum) own p.0 q.0 p.2 q.2 in
    let rest = answers_same (suc k) ps vs ws ns ms t mark p.1 q.1 p.3 q.3 in
    ap (flat_map (answer_line false mark)) p.4 ∙ flat_map-append (answer_line false mark) (map (answer_of k c.chronicle) p.0) p.1
    ∙ (λ i. lines_same own.0 own.1 k c.chronicle mark p.0 q.0 new i ++ rest i)
    ∙ sym (ap (flat_map (answer_line false mark)) q.4 ∙ flat_map-append (answer_line false mark) (map (answer_of k c.chronicle) q.0) q.1)
