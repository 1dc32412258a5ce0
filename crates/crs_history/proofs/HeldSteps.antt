-- One step of what is held: an entry is added, leaves the ring, or is dropped.
use Rattle.std.proofs.Common.{◌≡◌, ◌⊎◌, ℕ, ◌≤◌, ◌<◌, ◌+◌, ◌*◌, List, [], ◌∷◌, ◌++◌, length, drop, get_or, refl, sym, ap, subst, ◌∙◌, inl, inr, arith, Less}
use Rattle.std.proofs.lemmas.List.{append_assoc, length-append}
use Rattle.std.specs.List.{AllByRecursion}
use Rattle.crs_base.specs.declared.symbols.Sym.{Sym}
use Rattle.crs_base.specs.Words.{IsIn, Ordered}
use Rattle.crs_base.specs.Sifted.{Sifts}
use Rattle.crs_base.specs.Entry.{Entry, entry_cmp, IsInKeyOrder}
use Rattle.crs_base.specs.Values.{Attribute, IsChange}
use Rattle.crs_base.proofs.Sifted.{sifts_append, sifted_in, in_sifted, sifts_ordered}
use Rattle.crs_base.proofs.Words.{in_append, in_append_left, in_append_right, in_from_each}
use Rattle.crs_base.proofs.KeyOrder.{date_of_less, in_dates}
use Rattle.crs_base.specs.Seen.{entry_of}
use Rattle.crs_history.specs.Histories.{Shared, entries_of, attribute_of, IsAfterAll}
use Rattle.crs_history.specs.Dropping.{Drops}
use Rattle.crs_history.specs.Keyed.{KeyedState, AreKeyed}
use Rattle.crs_history.specs.Tracks.{TracksState, track_of, AreOwned, TakesFirst, BeginsSince}
use Rattle.crs_history.specs.Holdings.{IsChanging, AreLatest, AreBefore, AreHoldings, IsPast, Extends}
use Rattle.crs_history.proofs.Order.{in_order_push, not_below_itself}
use Rattle.crs_history.proofs.Telling.{change_told}
use Rattle.crs_history.proofs.Left.{sifts_all, sifts_both, sifts_without, sifts_less, drops_none, drops_one, drops_append, drops_weaker, ordered_without, ordered_across}

module _ (older rest : List (Entry Sym)) (x : Entry Sym) (keyed more : KeyedState) (tracks : TracksState)
    (held : AreHoldings older (x ∷ rest) keyed tracks) (date : ℕ) (early : x.date < date) where
  -- the first of the ring isn't a change
  module _ (put : AreKeyed (x ∷ rest) keyed → AreKeyed rest more) (plain : IsChanging x → ⊥) where
    pub plain_held : AreHoldings older rest more tracks
    plain_held = record {
      in_order = ordered_without (λ d e. entry_cmp d e ≡ Less) older x rest held.in_order;
      latest = held.latest;
      found = put held.found;
      tracked = λ a. sifts_without (IsChange a) older x rest (track_of tracks a) (λ c. plain c.change) (held.tracked a);
      owned = held.owned;
    }

    pub plain_past : Drops (IsPast (older ++ x ∷ rest) date) (older ++ x ∷ rest) (older ++ rest)
    plain_past = drops_one (IsPast (older ++ x ∷ rest) date) older x rest (record { before = early; past = inl plain })

  pub plain_shrinks : length older + 2 * length rest < length older + 2 * length (x ∷ rest)
  plain_shrinks = omega arith

  older_below : (d : Entry Sym) → IsIn d older → d.date ≤ x.date
  older_below d i = date_of_less d x (ordered_across (λ d e. entry_cmp d e ≡ Less) older (x ∷ rest) d x held.in_order i (inl refl))

  -- the first of the ring becomes an older one
  module _ (changing : IsChanging x) (begins : BeginsSince x.date (track_of tracks (attribute_of x))) where
    begins_all : (t : List (Entry Sym)) → Ordered (λ d e. d.date ≤ e.date) t → BeginsSince x.date t → (e : Entry Sym) → IsIn e t → x.date ≤ e.date
    begins_all [] o b e i = absurd i
    begins_all (y ∷ t) o b e (inl q) = subst (λ (w : Entry Sym). x.date ≤ w.date) (sym q) (b y t refl)
    begins_all (y ∷ t) o b e (inr i) = let up : x.date ≤ y.date = b y t refl in let on : y.date ≤ e.date = in_from_each (λ d. y.date ≤ d.date) t o.0 e i in omega arith

    track_dated : Ordered (λ d e. d.date ≤ e.date) (track_of tracks (attribute_of x))
    track_dated = in_dates (track_of tracks (attribute_of x)) (sifts_ordered (IsChange (attribute_of x)) (λ d e. entry_cmp d e ≡ Less) (older ++ x ∷ rest) (track_of tracks (attribute_of x)) (held.tracked (attribute_of x)) held.in_order)

    -- no change of the attribute of x is dated before it
    not_before : (e : Entry Sym) → IsIn e older → IsChange (attribute_of x) e → x.date ≤ e.date
    not_before e i c = begins_all (track_of tracks (attribute_of x)) track_dated begins e
        (in_sifted (IsChange (attribute_of x)) (older ++ x ∷ rest) (track_of tracks (attribute_of x)) e (held.tracked (attribute_of x)) (in_append_left older (x ∷ rest) e i) c)

    by_parts : {P : Type 0} (e : Entry Sym) → IsIn e (older ++ x ∷ []) → (IsIn e older → P) → (e ≡ x → P) → P
    by_parts e i f g = elim (in_append older (x ∷ []) e i) [ inl j ↦ f j | inr k ↦ elim k [ inl q ↦ g q | inr z ↦ absurd z ] ]

    turn : (e d : Entry Sym) → IsChanging e → IsChange (attribute_of e) d → IsChange (attribute_of d) e
    turn e d s c = record { named = sym c.named; of = sym c.of; change = s }

    pub aged_latest : AreLatest (older ++ x ∷ [])
    aged_latest = record {
      changes = λ e i. by_parts e i (λ j. held.latest.changes e j) (λ q. subst IsChanging (sym q) changing);
      latest = λ e d i j c. by_parts e i
          (λ k. by_parts d j
          (λ l. held.latest.latest e d k l c)
          (λ q. subst (λ (w : Entry Sym). w.date ≤ e.date) (sym q) (not_before e k (turn e x (held.latest.changes e k) (subst (IsChange (attribute_of e)) q c)))))
          (λ p. by_parts d j
          (λ l. subst (λ (w : Entry Sym). d.date ≤ w.date) (sym p) (older_below d l))
          (λ q. let f = ap (λ w. w.date) p in let g = ap (λ w. w.date) q in omega arith));
    }

    all_same : (older ++ x ∷ []) ++ rest ≡ older ++ x ∷ rest
    all_same = append_assoc older (x ∷ []) rest

    pub aged_held : (AreKeyed (x ∷ rest) keyed → AreKeyed rest more) → AreHoldings (older ++ x ∷ []) rest more tracks
    aged_held put = record {
      in_order = subst IsInKeyOrder (sym all_same) held.in_order;
      latest = aged_latest;
      found = put held.found;
      tracked = λ a. subst (λ (w : List (Entry Sym)). Sifts (IsChange a) w (track_of tracks a)) (sym all_same) (held.tracked a);
      owned = held.owned;
    }

    pub aged_before : AreBefore date older → AreBefore date (older ++ x ∷ [])
    aged_before b e i = by_parts e i (λ j. b e j) (λ q. subst (λ (w : Entry Sym). w.date < date) (sym q) early)

    pub aged_past : Drops (IsPast (older ++ x ∷ rest) date) (older ++ x ∷ rest) ((older ++ x ∷ []) ++ rest)
    aged_past = subst (Drops (IsPast (older ++ x ∷ rest) date) (older ++ x ∷ rest)) (sym all_same) (drops_none (IsPast (older ++ x ∷ rest) date) (older ++ x ∷ rest))

    pub aged_shrinks : length (older ++ x ∷ []) + 2 * length rest < length older + 2 * length (x ∷ rest)
    aged_shrinks = omega (arith, length-append older (x ∷ []))

  -- an older one is overtaken by the first of the ring
  module _ (changing : IsChanging x) (y : Entry Sym) (new : TracksState) (takes : TakesFirst tracks (attribute_of x) y new) (overtaken : y.date < x.date) where
    y_found : IsIn y (older ++ x ∷ rest) × IsChange (attribute_of x) y
    y_found = sifted_in (IsChange (attribute_of x)) (older ++ x ∷ rest) (track_of tracks (attribute_of x)) y (held.tracked (attribute_of x)) (subst (IsIn y) (sym takes.first) (inl refl))

    ring_late : (e : Entry Sym) → Ordered (λ d e. entry_cmp d e ≡ Less) (x ∷ rest) → IsIn e (x ∷ rest) → x.date ≤ e.date
    ring_late e o (inl q) = subst (λ (w : Entry Sym). x.date ≤ w.date) (sym q) (omega arith)
    ring_late e o (inr i) = date_of_less x e (in_from_each (λ d. entry_cmp x d ≡ Less) rest o.0 e i)

    behind : (xs ys : List (Entry Sym)) → Ordered (λ d e. entry_cmp d e ≡ Less) (xs ++ ys) → Ordered (λ d e. entry_cmp d e ≡ Less) ys
    behind [] ys h = h
    behind (z ∷ xs) ys h = behind xs ys h.1

    not_in_ring : IsIn y (x ∷ rest) → ⊥
    not_in_ring i = let l : x.date ≤ y.date = ring_late y (behind older (x ∷ rest) held.in_order) i in absurd (omega arith)

    pub y_older : IsIn y older
    y_older = elim (in_append older (x ∷ rest) y y_found.0) [ inl i ↦ i | inr j ↦ absurd (not_in_ring j) ]

    abbrev Other : Entry Sym → Type 0
    Other d = d ≡ y → ⊥

    module _ (left : List (Entry Sym)) (others : Sifts Other older left) (only : Drops (λ d. d ≡ y) older left) where
      all_others : Sifts Other (older ++ x ∷ rest) (left ++ x ∷ rest)
      all_others = sifts_append Other older left (x ∷ rest) (x ∷ rest) others (sifts_all Other (x ∷ rest) (λ d i e. not_in_ring (subst (λ (w : Entry Sym). IsIn w (x ∷ rest)) e i)))

      of_left : (e : Entry Sym) → IsIn e left → IsIn e older
      of_left e i = (sifted_in Other older left e others i).0

      pub left_latest : AreLatest left
      left_latest = record {
        changes = λ e i. held.latest.changes e (of_left e i);
        latest = λ e d i j c. held.latest.latest e d (of_left e i) (of_left d j) c;
      }

      track_order : Ordered (λ d e. entry_cmp d e ≡ Less) (y ∷ takes.rest)
      track_order = subst (Ordered (λ d e. entry_cmp d e ≡ Less)) takes.first (sifts_ordered (IsChange (attribute_of x)) (λ d e. entry_cmp d e ≡ Less) (older ++ x ∷ rest) (track_of tracks (attribute_of x)) (held.tracked (attribute_of x)) held.in_order)

      track_left : (b : Attribute Sym) → IsChange b y ⊎ (IsChange b y → ⊥) → Sifts Other (track_of tracks b) (track_of new b)
      track_left b (inl c) =
          let same : b ≡ attribute_of x = same_change b c y_found.1 in
          let mine : Sifts Other (y ∷ takes.rest) takes.rest =
          inr ((λ f. f refl), sifts_all Other takes.rest (λ d i e. not_below_itself y (subst (λ (w : Entry Sym). entry_cmp y w ≡ Less) e (in_from_each (λ d. entry_cmp y d ≡ Less) takes.rest track_order.0 d i)))) in
          subst (λ (w : Attribute Sym). Sifts Other (track_of tracks w) (track_of new w)) (sym same)
          (subst (λ (w : List (Entry Sym)). Sifts Other w (track_of new (attribute_of x))) (sym takes.first) (subst (Sifts Other (y ∷ takes.rest)) (sym takes.taken.set) mine))
        where
          same_change : (b : Attribute Sym) → IsChange b y → IsChange (attribute_of x) y → b ≡ attribute_of x
          same_change b c d = λ i. record { name = (sym c.named ∙ d.named) i; args = (sym c.of ∙ d.of) i }
      track_left b (inr f) =
          subst (Sifts Other (track_of tracks b)) (sym (takes.taken.others b (λ e. f (subst (λ (w : Attribute Sym). IsChange w y) (sym e) y_found.1))))
          (sifts_all Other (track_of tracks b) (λ d i e. f (subst (IsChange b) e ((sifted_in (IsChange b) (older ++ x ∷ rest) (track_of tracks b) d (held.tracked b) i).1))))

      pub left_held : AreOwned new → AreHoldings left (x ∷ rest) keyed new
      left_held owned = record {
        in_order = sifts_ordered Other (λ d e. entry_cmp d e ≡ Less) (older ++ x ∷ rest) (left ++ x ∷ rest) all_others held.in_order;
        latest = left_latest;
        found = held.found;
        tracked = λ b. sifts_both (IsChange b) Other (older ++ x ∷ rest) (track_of tracks b) (left ++ x ∷ rest) (track_of new b) (held.tracked b) all_others (track_left b (change_told b y));
        owned = owned;
      }

      pub left_before : AreBefore date older → AreBefore date left
      left_before b e i = b e (of_left e i)

      y_past : IsPast (older ++ x ∷ rest) date y
      y_past = record {
        before = omega arith;
        past = inr (x, in_append_right older (x ∷ rest) x (inl refl), record { named = sym y_found.1.named; of = sym y_found.1.of; change = changing }, overtaken, early);
      }

      pub left_past : Drops (IsPast (older ++ x ∷ rest) date) (older ++ x ∷ rest) (left ++ x ∷ rest)
      left_past = drops_weaker (λ d. d ≡ y) (IsPast (older ++ x ∷ rest) date) (older ++ x ∷ rest) (left ++ x ∷ rest)
          (λ d e. subst (IsPast (older ++ x ∷ rest) date) (sym e) y_past) (drops_append (λ d. d ≡ y) older left (x ∷ rest) only)

      pub left_shrinks : length left + 2 * length (x ∷ rest) < length older + 2 * length (x ∷ rest)
      left_shrinks = let l = sifts_less Other older left y others y_older (λ f. f refl) in omega arith

-- an entry is added behind all others
module _ (older ring : List (Entry Sym)) (e : Entry Sym) (keyed more : KeyedState) (tracks new : TracksState) (held : AreHoldings older ring keyed tracks) where
  extended : (P : Entry Sym → Type 0) (xs ys zs : List (Entry Sym)) → Sifts P xs ys → Extends P e ys zs → Sifts P (xs ++ e ∷ []) zs
  extended P xs ys zs s h = subst (Sifts P (xs ++ e ∷ [])) (sym h.1) (sifts_append P xs ys (e ∷ []) h.0 s h.2)

  pub pushed_held : IsAfterAll (older ++ ring) e → (AreKeyed ring keyed → AreKeyed (ring ++ e ∷ []) more)
      → ((a : Attribute Sym) → Extends (IsChange a) e (track_of tracks a) (track_of new a)) → AreOwned new → AreHoldings older (ring ++ e ∷ []) more new
  pushed_held after put tracks_more owned =
      let all : older ++ (ring ++ e ∷ []) ≡ (older ++ ring) ++ e ∷ [] = sym (append_assoc older ring (e ∷ [])) in
      record {
        in_order = subst IsInKeyOrder (sym all) (in_order_push (older ++ ring) e held.in_order after);
        latest = held.latest;
        found = put held.found;
        tracked = λ a. subst (λ (w : List (Entry Sym)). Sifts (IsChange a) w (track_of new a)) (sym all) (extended (IsChange a) (older ++ ring) (track_of tracks a) (track_of new a) (held.tracked a) (tracks_more a));
        owned = owned;
      }

-- the ring's first
pub ring_head : (items : List Shared) (f : Shared) → 0 < length items → f ≡ get_or items 0 f → entries_of items ≡ entry_of f.value ∷ entries_of (drop 1 items)
ring_head [] f some is = absurd (omega arith)
ring_head (r ∷ items) f some is = ap (λ (w : Shared). entry_of w.value ∷ entries_of items) (sym is)

-- none of a list in key order is dated before its first
pub ring_since : (date : ℕ) (x : Entry Sym) (rest : List (Entry Sym)) → date ≤ x.date → IsInKeyOrder (x ∷ rest) → AllByRecursion (λ e. date ≤ e.date) (x ∷ rest)
ring_since date x rest le o = (le, since_all rest o.0)
  where
    since_all : (es : List (Entry Sym)) → AllByRecursion (λ e. entry_cmp x e ≡ Less) es → AllByRecursion (λ e. date ≤ e.date) es
    since_all [] h = tt
    since_all (e ∷ es) h = (let l : x.date ≤ e.date = date_of_less x e h.0 in omega arith, since_all es h.1)

pub ordered_behind : (xs ys : List (Entry Sym)) → IsInKeyOrder (xs ++ ys) → IsInKeyOrder ys
ordered_behind [] ys h = h
ordered_behind (x ∷ xs) ys h = ordered_behind xs ys h.1
