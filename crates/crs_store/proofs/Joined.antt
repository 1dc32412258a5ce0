-- Instances that come to others.
use Rattle.std.proofs.Common.{Bool, ◌≡◌, ◌⊎◌, ℕ, ◌≤◌, ◌+◌, List, [], ◌∷◌, ◌++◌, refl, sym, ap, subst, ◌∙◌, inl, inr, append-nil}
use Rattle.std.specs.Prelude.{Some, slice_get}
use Rattle.std.proofs.lemmas.List.{map-append}
use Rattle.crs_agenda.specs.declared.timed.Handle.{Handle}
use Rattle.crs_agenda.specs.declared.timed.Timed.{Timed}
use Rattle.crs_agenda.specs.Schedule.{Schedule}
use Rattle.crs_base.specs.declared.symbols.Sym.{Sym}
use Rattle.crs_base.specs.Words.{IsIn, Ordered}
use Rattle.crs_base.proofs.Words.{in_append, in_append_left, in_append_right, in_from_each, each_from_in, in_map, in_map_back}
use Rattle.crs_index.specs.Indexes.{IndexState}
use Rattle.crs_instance.specs.Instances.{InstanceState}
use Rattle.crs_model.specs.declared.plan.Plan.{Plan}
use Rattle.crs_model.specs.Partial.{Partial}
use Rattle.crs_waiting.specs.declared.hooks.Hook.{Hook}
use Rattle.crs_waiting.specs.Dues.{AreKept}
use Rattle.crs_store.specs.Joins.{AreApart, IsPartOf, Joins, JoinsSome, LeavesOut}
use Rattle.crs_model.specs.Bindings.{look_of}
use Rattle.crs_model.specs.Plans.{chronicle}
use Rattle.crs_model.proofs.Options.{of_some, some_if}
use Rattle.crs_waiting.specs.Hooks.{key_of}
use Rattle.crs_waiting.specs.Links.{Grows, hook_at}
use Rattle.crs_living.specs.Slots.{SlotsState, slot_at, handle_at, Puts}
use Rattle.crs_living.specs.Parts.{parts}
use Rattle.crs_store.specs.Tidy.{IsKnown, IsTidy}
use Rattle.std.proofs.lemmas.Bool.{cases_eq}

-- ---- what is known, as more is noted

pub known_more : (plan : Plan) (focus : Bool) (events windows : List Hook) (was index : IndexState) (old pairs : List Timed) (old_ripe ripe : List ℕ) (handle : Handle) (h : ℕ) (i : InstanceState) → Grows was index → AreKept old pairs → ((p : ℕ) → IsIn p old_ripe → IsIn p ripe) → IsKnown plan focus events windows was old old_ripe handle h i → IsKnown plan focus events windows index pairs ripe handle h i
known_more plan focus events windows was index old pairs old_ripe ripe handle h i grows kept ripens k = record {
  of = k.of;
  able = k.able;
  linked = λ e w can. grows (key_of e (hook_at events e) (look_of i.binding)) handle (k.linked e w can);
  armed = λ n. some_if (slice_get (chronicle plan).windows n) _ (λ w is from to stretch bound wants near far. grows (key_of (16 + n) (hook_at windows n) (look_of i.binding)) handle (of_some (slice_get (chronicle plan).windows n) w _ is (k.armed n) from to stretch bound wants near far));
  due = λ t due l m. kept _ (k.due t due l m);
  done = λ done. ripens handle.place (k.done done);
}

-- one more in a place
pub put_tidy : (plan : Plan) (focus : Bool) (events windows : List Hook) (old new : SlotsState) (p : ℕ) (i : InstanceState) → Puts old new p i → (was index : IndexState) → Grows was index → (old_dues dues : Schedule) → AreKept old_dues.pairs dues.pairs → dues.date ≡ old_dues.date → (old_ripe ripe : List ℕ) → ((q : ℕ) → IsIn q old_ripe → IsIn q ripe) → (h : ℕ)
    → IsTidy plan focus events windows old was old_dues old_ripe h → IsKnown plan focus events windows index dues.pairs ripe (handle_at new p) h i → IsTidy plan focus events windows new index dues ripe h
put_tidy plan focus events windows old new p i puts was index grows old_dues dues kept stood old_ripe ripe ripens h tidy known = record {
  known = λ q j is. elim (cases_eq q p) [
    | inl e ↦
        let there : slot_at new p ≡ Some j = subst (λ (n : ℕ). slot_at new n ≡ Some j) e is in
        let same : i ≡ j = one (sym puts.here ∙ there) in
        subst (λ (n : ℕ). IsKnown plan focus events windows index dues.pairs ripe (handle_at new n) h j) (sym e) (subst (λ (t : InstanceState). IsKnown plan focus events windows index dues.pairs ripe (handle_at new p) h t) same known)
    | inr n ↦
        let was_there : slot_at old q ≡ Some j = sym (puts.others q n) ∙ is in
        subst (λ (g : Handle). IsKnown plan focus events windows index dues.pairs ripe g h j) (sym (puts.handles q j was_there)) (known_more plan focus events windows was index old_dues.pairs dues.pairs old_ripe ripe (handle_at old q) h j grows kept ripens (tidy.known q j was_there))
  ];
  stood = subst (λ (n : ℕ). n ≤ h) (sym stood) tidy.stood;
}
  where
    one : {a b : InstanceState} → Some a ≡ Some b → a ≡ b
    one e = cc

-- ---- lists

-- the partial assignments of some of a list's instances
pub parts_sub : (xs ys : List InstanceState) → ((i : InstanceState) → IsIn i ys → IsIn i xs) → (a : Partial Sym) → IsIn a (parts ys) → IsIn a (parts xs)
parts_sub xs ys sub a k =
    let m = in_map_back (λ (t : InstanceState). t.partial) ys a k in
    subst (λ (t : Partial Sym). IsIn t (parts xs)) (sym m.2) (in_map (λ (t : InstanceState). t.partial) xs m.0 (sub m.0 m.1))

module _ {A : Type 0} where
  abbrev pub Apart : List A → Type 0
  Apart xs = Ordered (λ (a b : A). a ≡ b → ⊥) xs

  -- without one of them
  pub apart_out : (us : List A) (x : A) (vs : List A) → Apart (us ++ x ∷ vs) → Apart (us ++ vs) × ((a : A) → IsIn a (us ++ vs) → a ≡ x → ⊥)
  apart_out [] x vs o = (o.1, λ a i e. in_from_each (λ (y : A). x ≡ y → ⊥) vs o.0 a i (sym e))
  apart_out (u ∷ us) x vs o =
      let r = apart_out us x vs o.1 in (
        (each_from_in (λ (y : A). u ≡ y → ⊥) (us ++ vs) (λ y i. in_from_each (λ (z : A). u ≡ z → ⊥) (us ++ x ∷ vs) o.0 y (elim (in_append us vs y i) [ inl j ↦ in_append_left us (x ∷ vs) y j | inr j ↦ in_append_right us (x ∷ vs) y (inr j) ])), r.0),
        λ a i e. elim i [
          | inl s ↦ in_from_each (λ (z : A). u ≡ z → ⊥) (us ++ x ∷ vs) o.0 x (in_append_right us (x ∷ vs) x (inl refl)) (sym s ∙ e)
          | inr j ↦ r.1 a j e
        ],
      )

  -- with one more
  pub apart_in : (us : List A) (x : A) (vs : List A) → Apart (us ++ vs) → ((a : A) → IsIn a (us ++ vs) → a ≡ x → ⊥) → Apart (us ++ x ∷ vs)
  apart_in [] x vs o n = (each_from_in (λ (y : A). x ≡ y → ⊥) vs (λ y i e. n y i (sym e)), o)
  apart_in (u ∷ us) x vs o n = (
    each_from_in (λ (y : A). u ≡ y → ⊥) (us ++ x ∷ vs) (λ y i e. elim (in_append us (x ∷ vs) y i) [
      | inl j ↦ in_from_each (λ (z : A). u ≡ z → ⊥) (us ++ vs) o.0 y (in_append_left us vs y j) e
      | inr k ↦ elim k [
        | inl s ↦ n u (inl refl) (e ∙ s)
        | inr j ↦ in_from_each (λ (z : A). u ≡ z → ⊥) (us ++ vs) o.0 y (in_append_right us vs y j) e
      ]
    ]),
    apart_in us x vs o.1 (λ a i e. n a (inr i) e),
  )

  in_between : (us : List A) (x : A) (vs : List A) (y : A) → IsIn y (us ++ x ∷ vs) → (y ≡ x) ⊎ IsIn y (us ++ vs)
  in_between us x vs y i = elim (in_append us (x ∷ vs) y i) [
    | inl j ↦ inr (in_append_left us vs y j)
    | inr k ↦ elim k [ inl s ↦ inl s | inr j ↦ inr (in_append_right us vs y j) ]
  ]

  between_in : (us : List A) (x : A) (vs : List A) (y : A) → IsIn y (us ++ vs) → IsIn y (us ++ x ∷ vs)
  between_in us x vs y i = elim (in_append us vs y i) [ inl j ↦ in_append_left us (x ∷ vs) y j | inr j ↦ in_append_right us (x ∷ vs) y (inr j) ]

parts_join : (us vs : List InstanceState) → parts (us ++ vs) ≡ parts us ++ parts vs
parts_join us vs = map-append (λ (i : InstanceState). i.partial) us vs

pub joins_none : (ones : List InstanceState) → Joins ones [] ones
joins_none ones = record { first = λ i k. k; second = λ i k. absurd k; back = λ i k. inl k; apart = λ a. subst AreApart (append-nil ones) a }

pub joins_more : (ones others all : List InstanceState) (x : InstanceState) (front back next : List InstanceState) → Joins ones others all → all ≡ front ++ back → next ≡ front ++ x ∷ back → Joins ones (x ∷ others) next
joins_more ones others all x front back next j e f = record {
  first = λ i k. into i (j.first i k);
  second = λ i k. elim k [ inl s ↦ subst (IsIn i) (sym f) (in_append_right front (x ∷ back) i (inl s)) | inr l ↦ into i (j.second i l) ];
  back = λ i k. elim (in_between front x back i (subst (IsIn i) f k)) [
    | inl s ↦ inr (inl s)
    | inr l ↦ elim (j.back i (subst (IsIn i) (sym e) l)) [ inl a ↦ inl a | inr b ↦ inr (inr b) ]
  ];
  apart = λ a.
      let r = apart_out (parts ones) x.partial (parts others) (subst Apart (parts_join ones (x ∷ others)) a) in
      let were : Apart (parts front ++ parts back) = subst Apart (ap parts e ∙ parts_join front back) (j.apart (subst Apart (sym (parts_join ones others)) r.0)) in
      subst Apart (sym (ap parts f ∙ parts_join front (x ∷ back))) (apart_in (parts front) x.partial (parts back) were (λ b i s.
      let m = in_map_back (λ (t : InstanceState). t.partial) all b (subst (IsIn b) (sym (ap parts e ∙ parts_join front back)) i) in
      r.1 b (subst (λ (t : Partial Sym). IsIn t (parts ones ++ parts others)) (sym m.2) (elim (j.back m.0 m.1) [
        | inl o ↦ in_append_left (parts ones) (parts others) (m.0).partial (in_map (λ (t : InstanceState). t.partial) ones m.0 o)
        | inr o ↦ in_append_right (parts ones) (parts others) (m.0).partial (in_map (λ (t : InstanceState). t.partial) others m.0 o)
      ])) s));
}
  where
    into : (i : InstanceState) → IsIn i all → IsIn i next
    into i k = subst (IsIn i) (sym f) (between_in front x back i (subst (IsIn i) e k))

-- the ones and the others are what joins them
pub joins_both : (ones others : List InstanceState) → Joins ones others (ones ++ others)
joins_both ones others = record { first = λ i k. in_append_left ones others i k; second = λ i k. in_append_right ones others i k; back = λ i k. in_append ones others i k; apart = λ a. a }

-- ---- some are left out

module _ (Out : InstanceState → Type 0) where
  left_in : (xs kept : List InstanceState) → LeavesOut Out xs kept → (i : InstanceState) → IsIn i kept → IsIn i xs
  left_in [] kept e i k = subst (IsIn i) e k
  left_in (x ∷ xs) kept (inl s) i k = elim (subst (IsIn i) s.1 k) [ inl e ↦ inl e | inr j ↦ inr (left_in xs s.0 s.2 i j) ]
  left_in (x ∷ xs) kept (inr s) i k = inr (left_in xs kept s.1 i k)

  left_or : (xs kept : List InstanceState) → LeavesOut Out xs kept → (i : InstanceState) → IsIn i xs → IsIn i kept ⊎ Out i
  left_or [] kept e i k = absurd k
  left_or (x ∷ xs) kept (inl s) i k = elim k [
    | inl e ↦ inl (subst (IsIn i) (sym s.1) (inl e))
    | inr j ↦ elim (left_or xs s.0 s.2 i j) [ inl m ↦ inl (subst (IsIn i) (sym s.1) (inr m)) | inr o ↦ inr o ]
  ]
  left_or (x ∷ xs) kept (inr s) i k = elim k [ inl e ↦ inr (subst Out (sym e) s.0) | inr j ↦ left_or xs kept s.1 i j ]

  kept_apart : (xs kept : List InstanceState) → LeavesOut Out xs kept → AreApart xs → AreApart kept
  kept_apart [] kept e o = subst AreApart (sym e) tt
  kept_apart (x ∷ xs) kept (inl s) o = subst AreApart (sym s.1) (
    each_from_in (λ (z : Partial Sym). x.partial ≡ z → ⊥) (parts s.0) (λ z k. in_from_each (λ (y : Partial Sym). x.partial ≡ y → ⊥) (parts xs) o.0 z (parts_sub xs s.0 (left_in xs s.0 s.2) z k)),
    kept_apart xs s.0 s.2 o.1,
  )
  kept_apart (x ∷ xs) kept (inr s) o = kept_apart xs kept s.1 o.1

  both_apart : (us xs kept : List InstanceState) → LeavesOut Out xs kept → AreApart (us ++ xs) → AreApart (us ++ kept)
  both_apart [] xs kept left o = kept_apart xs kept left o
  both_apart (u ∷ us) xs kept left o = (
    each_from_in (λ (z : Partial Sym). u.partial ≡ z → ⊥) (parts (us ++ kept)) (λ z k. in_from_each (λ (y : Partial Sym). u.partial ≡ y → ⊥) (parts (us ++ xs)) o.0 z (parts_sub (us ++ xs) (us ++ kept) (λ i j. elim (in_append us kept i j) [
      | inl l ↦ in_append_left us xs i l
      | inr r ↦ in_append_right us xs i (left_in xs kept left i r)
    ]) z k)),
    both_apart us xs kept left o.1,
  )

  -- what joins the ones and some of the others is part of both
  pub part_of : (ones others all : List InstanceState) → JoinsSome Out ones others all → IsPartOf Out (ones ++ others) all
  part_of ones others all j = record {
    back = λ i k. elim (j.2.back i k) [ inl l ↦ in_append_left ones others i l | inr r ↦ in_append_right ones others i (left_in others j.0 j.1 i r) ];
    apart = λ o. j.2.apart (both_apart ones others j.0 j.1 o);
    each = λ i k. elim (in_append ones others i k) [
      | inl l ↦ inl (j.2.first i l)
      | inr r ↦ elim (left_or others j.0 j.1 i r) [ inl m ↦ inl (j.2.second i m) | inr o ↦ inr o ]
    ];
  }
