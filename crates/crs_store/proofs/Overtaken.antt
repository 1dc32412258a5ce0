-- What has an entry at an event, and awaits one that comes before that, isn't wanted.
use Rattle.std.proofs.Common.{◌≡◌, ℕ, ◌≤◌, ◌<◌, Bool, List, [], ◌∷◌, length, refl, sym, ap, subst, ◌∙◌, inl, inr, arith, length-set}
use Rattle.std.specs.Prelude.{ℤ, pos, ◌≤ℤ◌, ◌<ℤ◌, ◌+ℤ◌, true, false, Option, Some, None, slice_get}
use Rattle.std.proofs.lemmas.Bool.Decides.{eqb_tells}
use Rattle.std.proofs.lemmas.Int.{ints}
use Rattle.std.proofs.lemmas.List.{length-map}
use Rattle.crs_stn.specs.Bound.{Meets}
use Rattle.crs_stn.specs.Network.{IsMost}
use Rattle.crs_stn.specs.declared.bound.Bound.{Bound}
use Rattle.crs_stn.specs.Table.{most_of}
use Rattle.crs_base.specs.declared.symbols.Sym.{Sym}
use Rattle.crs_base.specs.Words.{IsIn}
use Rattle.crs_base.specs.Entry.{Entry}
use Rattle.crs_history.specs.Histories.{HistoryState}
use Rattle.crs_model.specs.declared.plan.Plan.{Plan}
use Rattle.crs_model.specs.Images.{IsImage}
use Rattle.crs_model.specs.Models.{EventDef}
use Rattle.crs_model.specs.Matching.{PatternIs}
use Rattle.crs_model.specs.Partial.{Partial, at, put, IsAwaited, GivesNoneTwice}
use Rattle.crs_model.specs.Plans.{chronicle, IsProper}
use Rattle.crs_model.specs.Scans.{GrowsTo, StartsAt, IsForkByLevel, GoesOnByLevel}
use Rattle.crs_model.specs.Steps.{GoesOn}
use Rattle.crs_model.specs.SeenModels.{event_of}
use Rattle.crs_model.proofs.ByLevel.{one_event}
use Rattle.crs_model.proofs.Options.{of_some, cases_of}
use Rattle.crs_model.proofs.Parts.{at_within, put_same, put_other, none_back, agrees_at}
use Rattle.crs_instance.specs.Instances.{InstanceState}
use Rattle.crs_waiting.specs.declared.hooks.Hook.{Hook}
use Rattle.crs_living.specs.Ahead.{MayBecome}
use Rattle.crs_store.specs.Forkings.{AreForksBut}
use Rattle.crs_waiting.specs.Links.{hook_at, IsHeldBack}
use Rattle.crs_waiting.specs.Orders.{rank_of, ComesFirst, AreOrdered, IsUnboundBefore, AreBehind, IsOvertaken}
use Rattle.crs_focus.specs.PlanLevels.{levels_in}
use Rattle.crs_living.specs.Scannings.{AreForksAt}
use Rattle.crs_store.specs.Sweeps.{IsFree}
use Rattle.crs_living.specs.Windows.{IsOpenAt, IsOpenBut}
use Rattle.crs_living.proofs.Hopeless.{item_at}
use Rattle.crs_waiting.proofs.Next.{awaited_too}

not_both : {A : Type 0} (o : Option A) (y : A) → o ≡ Some y → o ≡ None → ⊥
not_both o y s n = cc

module _ (plan : Plan) (focus : Bool) (ranks : List ℕ) (hooks : List Hook) (order : AreOrdered plan focus ranks hooks) (x : Entry Sym) where
  level : ℕ → ℕ
  level = levels_in plan focus

  -- where one that comes before e is awaited, what has x at e awaits it too
  pub still_awaited : (e f : ℕ) (a b : Partial Sym) → IsAwaited (levels_in plan focus) a e → GrowsTo (levels_in plan focus) (levels_in plan focus e) (put a e x) b → (hook_at hooks e).before ≡ Some f → IsAwaited (levels_in plan focus) a f → IsAwaited (levels_in plan focus) b f
  still_awaited e f a b w grows named v =
      let first : ComesFirst plan focus ranks f e = (order.each e f named).1 in
      let len : length a ≡ length b = sym (length-set a e (Some x)) ∙ grows.len in
      record {
        within = subst (λ (n : ℕ). f < n) len v.within;
        unbound = elim (cases_of (at b f)) [
          | inl none ↦ none
          | inr some ↦ (let up = grows.beyond f some.0 (put_other a e f x first.apart ∙ v.unbound) some.1 in let s = first.level in absurd (omega (arith, s)))
        ];
        least = λ g l none. v.least g (subst (λ (n : ℕ). g < n) (sym len) l) (
            let free : at (put a e x) g ≡ None = none_back (put a e x) b g grows.part none in
            elim (eqb_tells g e) [
              | inl s ↦ absurd (not_both (at (put a e x) g) x (subst (λ (n : ℕ). at (put a e x) n ≡ Some x) (sym s.1) (put_same a e x w.within)) free)
              | inr o ↦ sym (put_other a e g x o.1) ∙ free
            ]);
      }

  -- what comes of one that is held back is overtaken
  pub held_back : (skips : Bool) (e : ℕ) (hook : Hook) → hook ≡ hook_at hooks e → (a b : Partial Sym) → IsAwaited (levels_in plan focus) a e → GrowsTo (levels_in plan focus) (levels_in plan focus e) (put a e x) b → skips ≡ true → IsHeldBack (levels_in plan focus) hook a → IsOvertaken plan focus hooks skips x b
  held_back skips e hook is a b w grows skip back =
      let named : (hook_at hooks e).before ≡ Some back.0 = subst (λ (h : Hook). h.before ≡ Some back.0) is back.1 in
      (skip, (e, back.0, grows.part e x (put_same a e x w.within), named, still_awaited e back.0 a b w grows named back.2))

  -- and what is overtaken came of one of which such an event is unbound
  pub was_unbound : (skips : Bool) (e : ℕ) (a b : Partial Sym) → length a ≡ length b → GivesNoneTwice b → IsAwaited (levels_in plan focus) a e → GrowsTo (levels_in plan focus) (levels_in plan focus e) (put a e x) b → IsOvertaken plan focus hooks skips x b → IsUnboundBefore (hook_at hooks e) a
  was_unbound skips e a b len apart w grows o =
      let e' = (o.1).0 in
      let f = (o.1).1 in
      let v = (o.1).4 in
      let has : at b e ≡ Some x = grows.part e x (put_same a e x w.within) in
      let same : e' ≡ e = elim (eqb_tells e' e) [ inl q ↦ q.1 | inr n ↦ absurd (one_event b apart e' e x x (o.1).2 has n.1 refl) ] in
      let named : (hook_at hooks e).before ≡ Some f = subst (λ (n : ℕ). (hook_at hooks n).before ≡ Some f) same (o.1).3 in
      let first : ComesFirst plan focus ranks f e = (order.each e f named).1 in
      (f, named, sym (put_other a e f x first.apart) ∙ none_back (put a e x) b f grows.part v.unbound)

-- ---- what is left out, and what isn't

-- of what stays nothing is left out
pub stays_but : (Open Out : Partial Sym → Type 0) (xs out : List (Partial Sym)) → ((a : Partial Sym) → IsIn a xs → Out a → ⊥) → IsImage (GoesOn Open) xs out → IsImage (GoesOn (λ a. Open a × (Out a → ⊥))) xs out
stays_but Open Out xs out never h = record {
  distinct = h.distinct;
  sound = λ b j. let r = h.sound b j in (r.0, r.1, ((r.2).0, ((r.2).1, λ o. never r.0 r.1 (subst Out (r.2).0 o))));
  complete = λ a b i g. h.complete a b i (g.0, (g.1).0);
}

-- where none is left out, nothing is said more
pub forks_all : (level : ℕ → ℕ) (Open Out : Partial Sym → Type 0) (x : Entry Sym) (xs out : List (Partial Sym)) → ((a : Partial Sym) → Out a → ⊥) → IsImage (IsForkByLevel level (λ a. Open a × (Out a → ⊥)) x) xs out → IsImage (IsForkByLevel level Open x) xs out
forks_all level Open Out x xs out never h = record {
  distinct = h.distinct;
  sound = λ b j. let r = h.sound b j in (r.0, r.1, ((r.2).0, (((r.2).1).0, ((r.2).1).1, (((r.2).1).2).0)));
  complete = λ a b i f. h.complete a b i (f.0, ((f.1).0, (f.1).1, ((f.1).2, never b)));
}

-- and nothing less
pub goes_but : (level : ℕ → ℕ) (Open Out : Partial Sym → Type 0) (x : Entry Sym) (xs out : List (Partial Sym)) → ((a : Partial Sym) → Out a → ⊥) → IsImage (GoesOnByLevel level Open x) xs out → IsImage (GoesOnByLevel level (λ a. Open a × (Out a → ⊥)) x) xs out
goes_but level Open Out x xs out never h = record {
  distinct = h.distinct;
  sound = λ b j. let r = h.sound b j in (r.0, r.1, elim r.2 [ inl s ↦ inl (s.0, (s.1, never b)) | inr f ↦ inr (f.0, f.1, f.2, (f.3, never b)) ]);
  complete = λ a b i g. h.complete a b i (elim g [ inl s ↦ inl (s.0, (s.1).0) | inr f ↦ inr (f.0, f.1, f.2, (f.3).0) ]);
}

-- what doesn't have the entry isn't overtaken
pub free_stays : (plan : Plan) (focus : Bool) (hooks : List Hook) (skips : Bool) (x : Entry Sym) (a : Partial Sym) → IsFree x a → IsOvertaken plan focus hooks skips x a → ⊥
free_stays plan focus hooks skips x a free o = free (o.1).0 (o.1).2

-- where none is skipped, none is overtaken
pub none_skipped : (plan : Plan) (focus : Bool) (hooks : List Hook) (skips : Bool) (x : Entry Sym) → skips ≡ false → (a : Partial Sym) → IsOvertaken plan focus hooks skips x a → ⊥
none_skipped plan focus hooks skips x none a o = two skips none o.0
  where
    two : (b : Bool) → b ≡ false → b ≡ true → ⊥
    two b f t = cc

-- ---- the forks of one instance

module _ (plan : Plan) (focus : Bool) (ranks : List ℕ) (hooks : List Hook) (order : AreOrdered plan focus ranks hooks) (history : HistoryState) (x : Entry Sym) (since until : ℕ) (i : InstanceState) (len : length i.partial ≡ length plan.chronicle.events) (e : ℕ) (skips : Bool) where
  abbrev Out : Partial Sym → Type 0
  Out = IsOvertaken plan focus hooks skips x

  at_it : (f : ℕ) (b : Partial Sym) (Fine : Partial Sym → Type 0) → f ≡ e → StartsAt (levels_in plan focus) Fine x i.partial f b → StartsAt (levels_in plan focus) Fine x i.partial e b
  at_it f b Fine q s = subst (λ (n : ℕ). StartsAt (levels_in plan focus) Fine x i.partial n b) q s

  -- all that comes of one that is held back is left out
  pub none_forked : skips ≡ true → IsUnboundBefore (hook_at hooks e) i.partial → AreForksBut plan focus (IsOvertaken plan focus hooks skips x) history x since until i e []
  none_forked skip back pool entries now later over = (
    record {
      distinct = tt;
      sound = λ b k. absurd k;
      complete = λ f b k s. elim k [
        | inl q ↦
            let t = at_it f b (IsOpenBut plan focus Out pool entries until) q s in
            let first : ComesFirst plan focus ranks back.0 e = (order.each e back.0 back.1).1 in
            let v = awaited_too (levels_in plan focus) i.partial e back.0 t.0 first.level (subst (λ (n : ℕ). back.0 < n) (sym len) first.within) back.2 in
            absurd ((t.2).1 (held_back plan focus ranks hooks order x skips e (hook_at hooks e) refl i.partial b t.0 t.1 skip (back.0, back.1, v)))
        | inr none ↦ absurd none
      ];
    },
    tt,
  )

  -- of what comes of one that isn't held back, or where none is skipped, nothing is left out
  pub all_forked : (skips ≡ true → IsUnboundBefore (hook_at hooks e) i.partial → ⊥) → (out : List InstanceState) → AreForksAt plan focus history x since until i e out → AreForksBut plan focus (IsOvertaken plan focus hooks skips x) history x since until i e out
  all_forked free out h pool entries now later over =
      let k = h pool entries now later over in (
        record {
          distinct = (k.0).distinct;
          sound = λ b j. let r = (k.0).sound b j in (r.0, r.1, ((r.2).0, (r.2).1, ((r.2).2, left r.0 b r.1 r.2)));
          complete = λ f b j s. (k.0).complete f b j (s.0, s.1, (s.2).0);
        },
        k.1,
      )
    where
      left : {pool entries : List (Entry Sym)} (f : ℕ) (b : Partial Sym) → IsIn f (e ∷ []) → StartsAt (levels_in plan focus) (IsOpenAt plan focus pool entries until) x i.partial f b → IsOvertaken plan focus hooks skips x b → ⊥
      left {pool} {entries} f b j s o = elim j [
        | inl q ↦
            let t = at_it f b (IsOpenAt plan focus pool entries until) q s in
            free o.0 (was_unbound plan focus ranks hooks order x skips e i.partial b (sym (length-set i.partial e (Some x)) ∙ (t.1).len) (t.2).partial.distinct t.0 t.1 o)
        | inr none ↦ absurd none
      ]

-- ---- it isn't wanted

earlier : (t f m : ℤ) (d y : ℕ) → t ≤ℤ (f +ℤ m) → f ≡ pos d → m <ℤ pos 0 → t ≡ pos y → d ≤ y → ⊥
earlier t f m d y a b c e g = omega (arith, ints)

no_later : (t f m : ℤ) (d y : ℕ) → t ≤ℤ (f +ℤ m) → f ≡ pos d → m ≡ pos 0 → t ≡ pos y → y ≤ d
no_later t f m d y a b c e = omega (arith, ints)

too_soon : (t f m : ℤ) (d h : ℕ) → t ≤ℤ (f +ℤ m) → f ≡ pos d → (m <ℤ pos 0) → d < h → pos h ≤ℤ t → ⊥
too_soon t f m d h a b c e g = omega (arith, ints)

too_soon_even : (t f m : ℤ) (d h : ℕ) → t ≤ℤ (f +ℤ m) → f ≡ pos d → (m ≡ pos 0) → d < h → pos h ≤ℤ t → ⊥
too_soon_even t f m d h a b c e g = omega (arith, ints)

within_most : (o : Option ℤ) (bounds : List Bound) (p q : ℕ) (b : ℤ) → o ≡ Some b → IsMost bounds p q o → (t : ℕ → ℤ) → Meets bounds t → t q ≤ℤ (t p +ℤ b)
within_most o bounds p q b is most t meets = (subst (IsMost bounds p q) is most).0 t meets

module _ (plan : Plan) (proper : IsProper plan) (focus : Bool) (ranks : List ℕ) (hooks : List Hook) (order : AreOrdered plan focus ranks hooks) (skips : Bool) (x : Entry Sym) (pool entries later : List (Entry Sym)) (h : ℕ) (behind : skips ≡ true → AreBehind ranks x later h)
    (a : Partial Sym) (len : length a ≡ length plan.chronicle.events) (o : IsOvertaken plan focus hooks skips x a) (w : MayBecome (chronicle plan) (levels_in plan focus) pool entries later h a) where
  e : ℕ
  e = (o.1).0

  f : ℕ
  f = (o.1).1

  first : ComesFirst plan focus ranks (o.1).1 (o.1).0
  first = (order.each (o.1).0 (o.1).1 (o.1).3).1

  after : AreBehind ranks x later h
  after = behind o.0

  has : at w.grown (o.1).0 ≡ Some x
  has = w.has (o.1).0 x (o.1).2

  dated : w.fine.dates.0 (o.1).0 ≡ pos x.date
  dated = agrees_at w.grown w.fine.dates.0 (o.1).0 x w.fine.dates.1 has

  same_events : length (chronicle plan).events ≡ length plan.chronicle.events
  same_events = length-map plan.chronicle.events event_of

  inside : (o.1).0 < length plan.chronicle.events
  inside = subst (λ (n : ℕ). (o.1).0 < n) len (at_within a (o.1).0 x (o.1).2)

  bound : w.fine.dates.0 (o.1).1 ≤ℤ (w.fine.dates.0 (o.1).0 +ℤ first.most)
  bound =
      let p = proper.points in
      let l = inside in
      let m = first.within in
      within_most (most_of plan.network (o.1).0 (o.1).1) plan.chronicle.bounds (o.1).0 (o.1).1 first.most first.is_most (proper.minimal (o.1).0 (o.1).1 (omega arith) (omega arith)) w.fine.dates.0 w.fine.dates.2

  grown_awaits : at w.grown (o.1).1 ≡ None → IsAwaited (levels_in plan focus) w.grown (o.1).1
  grown_awaits none =
      let lens : length a ≡ length w.grown = len ∙ sym same_events ∙ sym w.fine.partial.len in
      record {
        within = subst (λ (n : ℕ). (o.1).1 < n) lens ((o.1).4).within;
        unbound = none;
        least = λ g l free. ((o.1).4).least g (subst (λ (n : ℕ). g < n) (sym lens) l) (none_back a w.grown g w.has free);
      }

  named : (g : ℕ) (y : Entry Sym) → at w.grown g ≡ Some y → (v : EventDef Sym) → slice_get (chronicle plan).events g ≡ Some v → v.pattern.name ≡ y.name
  named g y is v there = (of_some (at w.grown g) y (λ z. PatternIs w.fine.look v.pattern z) is (of_some (slice_get (chronicle plan).events g) v _ there (w.fine.partial.binding.equal g))).name

  comes : (y : Entry Sym) → at w.grown (o.1).1 ≡ Some y → ⊥
  comes y is =
      let it : w.fine.dates.0 (o.1).1 ≡ pos y.date = agrees_at w.grown w.fine.dates.0 (o.1).1 y w.fine.dates.1 is in
      let far = after.each y (w.added (o.1).1 y (o.1).4 is) in
      elim first.before [
        | inl less ↦ earlier (w.fine.dates.0 (o.1).1) (w.fine.dates.0 (o.1).0) first.most x.date y.date bound dated less it (elim far [ inl m ↦ omega arith | inr s ↦ (let q = s.0 in omega arith) ])
        | inr even ↦
            let by = no_later (w.fine.dates.0 (o.1).1) (w.fine.dates.0 (o.1).0) first.most x.date y.date bound dated even.0 it in
            elim far [
              | inl m ↦ absurd (omega arith)
              | inr s ↦
                  let v = item_at (chronicle plan).events (o.1).1 (subst (λ (n : ℕ). (o.1).1 < n) (sym same_events) first.within) in
                  let u = item_at (chronicle plan).events (o.1).0 (subst (λ (n : ℕ). (o.1).0 < n) (sym same_events) inside) in
                  let less = of_some (slice_get (chronicle plan).events (o.1).0) u.0 _ u.1 (of_some (slice_get (chronicle plan).events (o.1).1) v.0 _ v.1 even.1) in
                  let y_name = ap (rank_of ranks) (named (o.1).1 y is v.0 v.1) in
                  let x_name = ap (rank_of ranks) (named (o.1).0 x has u.0 u.1) in
                  let no_less = s.1 in
                  absurd (omega (arith, x_name, y_name))
            ]
      ]

  pub overtaken_unwanted : ⊥
  overtaken_unwanted = elim (cases_of (at w.grown (o.1).1)) [
    | inl none ↦
        let on = w.fine.dates.3 (o.1).1 (grown_awaits none) in
        elim first.before [
          | inl less ↦ too_soon (w.fine.dates.0 (o.1).1) (w.fine.dates.0 (o.1).0) first.most x.date h bound dated less after.within on
          | inr even ↦ too_soon_even (w.fine.dates.0 (o.1).1) (w.fine.dates.0 (o.1).0) first.most x.date h bound dated even.0 after.within on
        ]
    | inr some ↦ comes some.0 some.1
  ]
