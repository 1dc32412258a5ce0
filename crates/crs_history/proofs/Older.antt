-- The older changes that the tracks tell are those that are held.
use Rattle.std.proofs.Common.{◌≡◌, ℕ, zero, suc, ◌+◌, true, List, [], ◌∷◌, ◌++◌, length, filter, Option, Some, None, refl, sym, ap, subst, ◌∙◌, inl, inr, arith, true≢false}
use Rattle.std.specs.declared.cmp.Ordering.{Ordering}
use Rattle.std.specs.declared.cmp.Ordering.TheVariants.{Less, Equal, Greater}
use Rattle.std.specs.Ordering.{is_lt, match_ordering}
use Rattle.std.specs.List.{flat_map}
use Rattle.std.specs.BTreeSet.{insert_key}
use Rattle.std.proofs.lemmas.Cmp.{tied_itself}
use Rattle.crs_base.specs.declared.symbols.Sym.{Sym}
use Rattle.crs_base.specs.Words.{IsIn}
use Rattle.crs_base.specs.Sifted.{Sifts}
use Rattle.crs_base.specs.Entry.{Entry, entry_cmp, IsInKeyOrder}
use Rattle.crs_base.specs.Values.{Attribute, IsChange}
use Rattle.crs_base.proofs.KeyOrder.{entry_total}
use Rattle.crs_base.proofs.Sifted.{sifted_in, in_sifted}
use Rattle.crs_base.proofs.Unique.{same_members}
use Rattle.crs_base.proofs.Words.{in_append, in_append_left, in_filter, in_filter_back, in_flat_map_back, in_from_each, each_from_in}
use Rattle.crs_history.specs.Dropping.{Drops}
use Rattle.crs_history.specs.Histories.{attribute_of}
use Rattle.crs_history.specs.Holdings.{AreCounted, AreHoldings}
use Rattle.crs_history.specs.Keyed.{KeyedState}
use Rattle.crs_history.specs.Lanes.{lane_of}
use Rattle.crs_history.specs.Older.{is_ahead, by_key, older_of}
use Rattle.crs_history.specs.Tracks.{TracksState, number_of, track_at, track_of}
use Rattle.crs_history.proofs.Left.{sifts_all, drops_none, ordered_across}
use Rattle.crs_history.proofs.Order.{not_below_itself, turned}

-- one entry is put in
module _ (e : Entry Sym) where
  abbrev put : List (Entry Sym) → List (Entry Sym)
  put es = insert_key entry_cmp es e

  abbrev here : (o : Ordering) (x : Entry Sym) (xs : List (Entry Sym)) → List (Entry Sym)
  here o x xs = match_ordering o (e ∷ x ∷ xs) (x ∷ xs) (x ∷ put xs)

  in_put : (z : Entry Sym) (es : List (Entry Sym)) → IsIn z (put es) → IsIn z (e ∷ es)
  in_put z [] i = i
  in_put z (x ∷ xs) i = by (entry_cmp e x) (in_put z xs) i
    where
      by : (o : Ordering) → (IsIn z (put xs) → IsIn z (e ∷ xs)) → IsIn z (here o x xs) → IsIn z (e ∷ x ∷ xs)
      by Less f i = i
      by Equal f i = inr i
      by Greater f (inl q) = inr (inl q)
      by Greater f (inr i) = elim (f i) [ inl q ↦ inl q | inr j ↦ inr (inr j) ]

  put_keeps : (z : Entry Sym) (es : List (Entry Sym)) → IsIn z es → IsIn z (put es)
  put_keeps z [] i = absurd i
  put_keeps z (x ∷ xs) i = by (entry_cmp e x) (put_keeps z xs) i
    where
      by : (o : Ordering) → (IsIn z xs → IsIn z (put xs)) → IsIn z (x ∷ xs) → IsIn z (here o x xs)
      by Less f i = inr i
      by Equal f i = i
      by Greater f (inl q) = inl q
      by Greater f (inr i) = inr (f i)

  -- it is there, or one of its key
  put_there : (es : List (Entry Sym)) → (z : Entry Sym) × IsIn z (put es) × (entry_cmp e z ≡ Equal)
  put_there [] = (e, inl refl, tied_itself entry_total e)
  put_there (x ∷ xs) = by (entry_cmp e x) refl (put_there xs)
    where
      by : (o : Ordering) → entry_cmp e x ≡ o → ((z : Entry Sym) × IsIn z (put xs) × (entry_cmp e z ≡ Equal)) → (z : Entry Sym) × IsIn z (here o x xs) × (entry_cmp e z ≡ Equal)
      by Less is r = (e, inl refl, tied_itself entry_total e)
      by Equal is r = (x, inl refl, is)
      by Greater is r = (r.0, inr r.1, r.2)

  put_ordered : (es : List (Entry Sym)) → IsInKeyOrder es → IsInKeyOrder (put es)
  put_ordered [] h = (tt, tt)
  put_ordered (x ∷ xs) h = by (entry_cmp e x) refl (put_ordered xs h.1)
    where
      by : (o : Ordering) → entry_cmp e x ≡ o → IsInKeyOrder (put xs) → IsInKeyOrder (here o x xs)
      by Less is r = ((is, each_from_in (λ d. entry_cmp e d ≡ Less) xs (λ d i. entry_total.trans e x d is (in_from_each (λ d. entry_cmp x d ≡ Less) xs h.0 d i))), h)
      by Equal is r = h
      by Greater is r = (
        each_from_in (λ d. entry_cmp x d ≡ Less) (put xs) (λ d i. elim (in_put d xs i) [
          | inl q ↦ subst (λ (w : Entry Sym). entry_cmp x w ≡ Less) (sym q) (back x e is)
          | inr j ↦ in_from_each (λ d. entry_cmp x d ≡ Less) xs h.0 d j
        ]),
        r,
      )
        where
          back : (x e : Entry Sym) → entry_cmp e x ≡ Greater → entry_cmp x e ≡ Less
          back x e is = entry_total.antisymm x e ∙ ap (λ o. Rattle.std.specs.Ordering.ordering_reverse o) is

sorted : (es : List (Entry Sym)) → IsInKeyOrder (by_key es)
sorted [] = tt
sorted (e ∷ es) = put_ordered e (by_key es) (sorted es)

of_sorted : (es : List (Entry Sym)) (z : Entry Sym) → IsIn z (by_key es) → IsIn z es
of_sorted [] z i = i
of_sorted (e ∷ es) z i = elim (in_put e z (by_key es) i) [ inl q ↦ inl q | inr j ↦ inr (of_sorted es z j) ]

to_sorted : (es : List (Entry Sym)) (z : Entry Sym) → IsIn z es → (y : Entry Sym) × IsIn y (by_key es) × (entry_cmp z y ≡ Equal)
to_sorted [] z i = absurd i
to_sorted (e ∷ es) z (inl q) = let p = put_there e (by_key es) in (p.0, p.1, subst (λ (w : Entry Sym). entry_cmp w p.0 ≡ Equal) (sym q) p.2)
to_sorted (e ∷ es) z (inr i) = let p = to_sorted es z i in (p.0, put_keeps e p.0 (by_key es) p.1, p.2)

-- two of a list in key order don't have the same key
one_of_key : (es : List (Entry Sym)) → IsInKeyOrder es → (x y : Entry Sym) → IsIn x es → IsIn y es → entry_cmp x y ≡ Equal → x ≡ y
one_of_key [] o x y i j e = absurd i
one_of_key (d ∷ es) o x y (inl p) (inl q) e = p ∙ sym q
one_of_key (d ∷ es) o x y (inl p) (inr j) e =
    let l : entry_cmp x y ≡ Less = subst (λ (w : Entry Sym). entry_cmp w y ≡ Less) (sym p) (in_from_each (λ f. entry_cmp d f ≡ Less) es o.0 y j) in absurd (cc)
one_of_key (d ∷ es) o x y (inr i) (inl q) e =
    let g : entry_cmp x y ≡ Greater = turned y x (subst (λ (w : Entry Sym). entry_cmp w x ≡ Less) (sym q) (in_from_each (λ f. entry_cmp d f ≡ Less) es o.0 x i)) in absurd (cc)
one_of_key (d ∷ es) o x y (inr i) (inr j) e = one_of_key es o.1 x y i j e

-- entries in key order are those that they are, however they come
sorted_is : (xs ys : List (Entry Sym)) → IsInKeyOrder xs → ((z : Entry Sym) → IsIn z xs → IsIn z ys) → ((z : Entry Sym) → IsIn z ys → IsIn z xs) → by_key ys ≡ xs
sorted_is xs ys o there back = same_members entry_total (by_key ys) xs (sorted ys) o
    (λ z i. back z (of_sorted ys z i))
    (λ z i. let p = to_sorted ys z (there z i) in subst (λ (w : Entry Sym). IsIn w (by_key ys)) (sym (one_of_key xs o z p.0 i (back p.0 (of_sorted ys p.0 p.1)) p.2)) p.1)

in_lanes : (lanes : List (List (Entry Sym))) (o : Option ℕ) (z : Entry Sym) → IsIn z (track_at lanes o) → IsIn z (flat_map (λ t. t) lanes)
in_lanes lanes None z i = absurd i
in_lanes lanes (Some n) z i = in_lane lanes n z i
  where
    in_lane : (lanes : List (List (Entry Sym))) (n : ℕ) (z : Entry Sym) → IsIn z (lane_of lanes n) → IsIn z (flat_map (λ t. t) lanes)
    in_lane [] n z i = absurd i
    in_lane (t ∷ lanes) zero z i = in_append_left t (flat_map (λ t. t) lanes) z i
    in_lane (t ∷ lanes) (suc n) z i = Rattle.crs_base.proofs.Words.in_append_right t (flat_map (λ t. t) lanes) z (in_lane lanes n z i)

of_lanes : (lanes : List (List (Entry Sym))) (z : Entry Sym) → IsIn z (flat_map (λ t. t) lanes) → (n : ℕ) × IsIn z (lane_of lanes n)
of_lanes [] z i = absurd i
of_lanes (t ∷ lanes) z i = elim (in_append t (flat_map (λ t. t) lanes) z i) [
  | inl j ↦ (0, j)
  | inr k ↦ (let p = of_lanes lanes z k in (suc p.0, p.1))
]

pub ordered_front : (xs ys : List (Entry Sym)) → IsInKeyOrder (xs ++ ys) → IsInKeyOrder xs
ordered_front [] ys h = tt
ordered_front (x ∷ xs) ys h = (
  each_from_in (λ d. entry_cmp x d ≡ Less) xs (λ d i. in_from_each (λ d. entry_cmp x d ≡ Less) (xs ++ ys) h.0 d (in_append_left xs ys d i)),
  ordered_front xs ys h.1,
)

ahead : (older ring : List (Entry Sym)) (z : Entry Sym) → IsInKeyOrder (older ++ ring) → IsIn z older → is_ahead ring z ≡ true
ahead older [] z o i = refl
ahead older (x ∷ ring) z o i = ap is_lt (ordered_across (λ d e. entry_cmp d e ≡ Less) older (x ∷ ring) z x o i (inl refl))

not_ahead : (ring : List (Entry Sym)) (z : Entry Sym) → IsInKeyOrder ring → IsIn z ring → is_ahead ring z ≡ true → ⊥
not_ahead [] z o i a = absurd i
not_ahead (x ∷ ring) z o (inl q) a = true≢false (sym a ∙ ap is_lt (ap (λ w. entry_cmp w x) q ∙ tied_itself entry_total x))
not_ahead (x ∷ ring) z o (inr i) a = true≢false (sym a ∙ ap is_lt (turned x z (in_from_each (λ d. entry_cmp x d ≡ Less) ring o.0 z i)))

behind : (xs ys : List (Entry Sym)) → IsInKeyOrder (xs ++ ys) → IsInKeyOrder ys
behind [] ys h = h
behind (x ∷ xs) ys h = behind xs ys h.1

-- the older ones are those that the tracks tell
module _ (older ring : List (Entry Sym)) (keyed : KeyedState) (tracks : TracksState) (held : AreHoldings older ring keyed tracks) where
  abbrev all : List (Entry Sym)
  all = flat_map (λ t. t) tracks.lanes

  there : (z : Entry Sym) → IsIn z older → IsIn z (filter (is_ahead ring) all)
  there z i =
      let a : Attribute Sym = attribute_of z in
      let own : IsChange a z = record { named = refl; of = refl; change = held.latest.changes z i } in
      let j : IsIn z (track_of tracks a) = in_sifted (IsChange a) (older ++ ring) (track_of tracks a) z (held.tracked a) (in_append_left older ring z i) own in
      in_filter (is_ahead ring) all z (in_lanes tracks.lanes (number_of tracks.steps a) z j) (ahead older ring z held.in_order i)

  back : (z : Entry Sym) → IsIn z (filter (is_ahead ring) all) → IsIn z older
  back z i =
      let a : Attribute Sym = attribute_of z in
      let p = in_filter_back (is_ahead ring) all z i in
      let q = of_lanes tracks.lanes z p.0 in
      let j : IsIn z (track_of tracks a) = subst (λ o. IsIn z (track_at tracks.lanes o)) (sym (held.owned q.0 z q.1)) q.1 in
      let m = sifted_in (IsChange a) (older ++ ring) (track_of tracks a) z (held.tracked a) j in
      elim (in_append older ring z m.0) [ inl k ↦ k | inr k ↦ absurd (not_ahead ring z (behind older ring held.in_order) k p.1) ]

  pub older_is : older_of tracks.lanes ring ≡ older
  unfolding older_of
  older_is = sorted_is older (filter (is_ahead ring) all) (ordered_front older ring held.in_order) there back

-- so what holds of the older ones holds of those
pub told_anew : (older ring : List (Entry Sym)) (count : ℕ) (keyed : KeyedState) (tracks : TracksState) → AreHoldings older ring keyed tracks → AreCounted count older ring
    → AreHoldings (older_of tracks.lanes ring) ring keyed tracks × AreCounted count (older_of tracks.lanes ring) ring
told_anew older ring count keyed tracks held counted =
    subst (λ (w : List (Entry Sym)). AreHoldings w ring keyed tracks × AreCounted count w ring) (sym (older_is older ring keyed tracks held)) (held, counted)

-- one that is there is taken out
pub without : (xs : List (Entry Sym)) (y : Entry Sym) → IsInKeyOrder xs → IsIn y xs
    → (left : List (Entry Sym)) × Sifts (λ d. d ≡ y → ⊥) xs left × Drops (λ d. d ≡ y) xs left × (length xs ≡ length left + 1)
without [] y o i = absurd i
without (x ∷ xs) y o (inl q) = (
  xs,
  inr ((λ f. f (sym q)), sifts_all (λ d. d ≡ y → ⊥) xs (λ d i same. not_below_itself x (subst (λ (w : Entry Sym). entry_cmp x w ≡ Less) (same ∙ q) (in_from_each (λ d. entry_cmp x d ≡ Less) xs o.0 d i)))),
  inr (sym q, drops_none (λ d. d ≡ y) xs),
  omega arith,
)
without (x ∷ xs) y o (inr i) =
    let p = without xs y o.1 i in
    let below : entry_cmp x y ≡ Less = in_from_each (λ d. entry_cmp x d ≡ Less) xs o.0 y i in
    let apart : x ≡ y → ⊥ = λ same. not_below_itself y (subst (λ (w : Entry Sym). entry_cmp w y ≡ Less) same below) in (
      x ∷ p.0,
      inl (apart, p.0, refl, p.1),
      inl (p.0, refl, p.2),
      let l : length xs ≡ length p.0 + 1 = p.3 in omega arith,
    )
