-- What is held where a store is told which entries come next.
use Rattle.std.proofs.Common.{◌≡◌, ℕ, ◌≤◌, List, [], ◌∷◌, ◌++◌, length, refl, sym, ap, subst, ◌∙◌, inl, inr, arith, append_assoc, append-nil}
use Rattle.std.specs.Prelude.{Some}
use Rattle.std.proofs.lemmas.Bool.Decides.{eqb_tells}
use Rattle.crs_base.specs.declared.symbols.Sym.{Sym}
use Rattle.crs_base.specs.Words.{IsIn, Ordered}
use Rattle.crs_base.specs.Entry.{Entry}
use Rattle.crs_base.proofs.Words.{in_append, in_append_left, in_append_right}
use Rattle.crs_model.specs.Models.{Chronicle}
use Rattle.crs_model.specs.Partial.{Partial, at, IsAwaited}
use Rattle.crs_model.specs.Open.{IsOpen, IsRecognisedWhole, AllWanted, StandsFor, before}
use Rattle.crs_model.specs.Images.{IsImage}
use Rattle.crs_model.specs.Steps.{IsFresh, GoesOn}
use Rattle.crs_model.specs.Scans.{GoesOnByLevel}
use Rattle.crs_model.proofs.ByLevel.{given_or_new, one_event}
use Rattle.crs_model.proofs.Offers.{before_more, recognised_full, recognised_given, same_pool}
use Rattle.crs_model.proofs.Options.{of_some}
use Rattle.crs_model.proofs.Parts.{at_within, none_back, put_same, open_back}
use Rattle.crs_model.proofs.Rests.{rest, length_rest, rest_at, rest_part, rest_free, rest_closed, rest_awaits, rest_grows}
use Rattle.crs_living.specs.Ahead.{MayBecome, IsWanted}

module _ (c : Chronicle Sym) (level : ℕ → ℕ) (held : List (Partial Sym)) (was pool entries : List (Entry Sym)) (d g : ℕ) where
  -- what has all that is open has all that is wanted
  pub stands_ahead : StandsFor c level AllWanted held was pool entries d g → (later : List (Entry Sym)) (h : ℕ) → StandsFor c level (IsWanted c level pool entries later h) held was pool entries d g
  stands_ahead s later h = record { was_in = s.was_in; entries_in = s.entries_in; marked = s.marked; distinct = s.distinct; each = s.each; all = λ a k w. s.all a k tt }

  -- what is open is so itself, where nothing is coming
  pub itself : (h : ℕ) (a : Partial Sym) → IsOpen c level pool entries h a → MayBecome c level pool entries [] h a
  itself h a k = record { grown = a; fine = k; has = λ e x i. i; added = λ e x w i. let u = w.unbound in absurd (cc) }

  -- what is open at h is wanted where nothing more comes
  wanted_last : (h : ℕ) (a : Partial Sym) → IsOpen c level pool entries h a → IsWanted c level pool entries [] h a
  wanted_last h a k = record {
    grown = a;
    fine = subst (λ (t : List (Entry Sym)). IsOpen c level t (entries ++ []) h a) (sym (append-nil pool)) (subst (λ (t : List (Entry Sym)). IsOpen c level pool t h a) (sym (append-nil entries)) k);
    has = λ e x i. i;
    added = λ e x w i. let u = w.unbound in absurd (cc);
  }

  -- what was judged at the last date is exact
  pub ahead_stands : StandsFor c level (IsWanted c level pool entries [] d) held was pool entries d g → StandsFor c level AllWanted held was pool entries d g
  ahead_stands s = record { was_in = s.was_in; entries_in = s.entries_in; marked = s.marked; distinct = s.distinct; each = s.each; all = λ a k w. s.all a k (wanted_last d a k.0) }

  -- what is open at h of what is held, where nothing more comes
  pub passed_ahead : (h : ℕ) (out : List (Partial Sym)) → d ≤ h → StandsFor c level (IsWanted c level pool entries [] h) held was pool entries d g → IsImage (GoesOn (IsOpen c level pool entries h)) held out → StandsFor c level AllWanted out was pool entries h g
  passed_ahead h out later s im = record {
    was_in = s.was_in;
    entries_in = s.entries_in;
    marked = let m = s.marked in omega arith;
    distinct = im.distinct;
    each = λ a i. let r = im.sound a i in ((r.2).1, λ rec. (s.each r.0 r.1).1 (subst (IsRecognisedWhole c was (before g entries) g) (r.2).0 rec));
    all = λ a k w. im.complete a a (s.all a (open_before a k.0, k.1) (wanted_last h a k.0)) (refl, k.0);
  }
    where
      open_before : (a : Partial Sym) → IsOpen c level pool entries h a → IsOpen c level pool entries d a
      open_before a k = same_pool c pool entries [] was d h g later (λ e i. absurd i) level a (subst (λ (t : List (Entry Sym)). IsOpen c level pool t h a) (sym (append-nil entries)) k)

-- some of what is held, where what isn't there isn't wanted
pub some_stand : (c : Chronicle Sym) (level : ℕ → ℕ) (Wanted : Partial Sym → Type 0) (held some : List (Partial Sym)) (was pool entries : List (Entry Sym)) (d g : ℕ) → StandsFor c level Wanted held was pool entries d g → Ordered (λ a b. a ≡ b → ⊥) some → ((a : Partial Sym) → IsIn a some → IsIn a held) → ((a : Partial Sym) → IsIn a held → Wanted a → IsIn a some)
    → StandsFor c level Wanted some was pool entries d g
some_stand c level Wanted held some was pool entries d g s distinct back kept = record {
  was_in = s.was_in;
  entries_in = s.entries_in;
  marked = s.marked;
  distinct = distinct;
  each = λ a i. s.each a (back a i);
  all = λ a k w. kept a (s.all a k w) w;
}

-- ---- an entry comes

-- what may become fine with those that come after an entry may do so with the entry too, and so may what it came of by the entry
module _ (c : Chronicle Sym) (level : ℕ → ℕ) (whole all coming : List (Entry Sym)) (h : ℕ) (x : Entry Sym) (a : Partial Sym) (w : MayBecome c level whole all coming h a) where
  pub becomes_without : MayBecome c level whole all (x ∷ coming) h a
  becomes_without = record { grown = w.grown; fine = w.fine; has = w.has; added = λ e y awaited i. inr (w.added e y awaited i) }

  pub becomes_parent : (e : ℕ) → at a e ≡ Some x → MayBecome c level whole all (x ∷ coming) h (rest level e a)
  becomes_parent e i = record {
    grown = w.grown;
    fine = w.fine;
    has = λ f y j. w.has f y (rest_part level e a f y j);
    added = λ f y awaited j. elim (eqb_tells f e) [
      | inl s ↦
          let there : at w.grown f ≡ Some x = subst (λ (t : ℕ). at w.grown t ≡ Some x) (sym s.1) (w.has e x i) in
          let one : y ≡ x = (let q : Some y ≡ Some x = sym j ∙ there in cc) in inl one
      | inr other ↦ inr (w.added f y (still f other.1 awaited) j)
    ];
  }
    where
      within_same : length (rest level e a) ≡ length a
      within_same = length_rest level e a

      least_of : (f : ℕ) → IsAwaited level (rest level e a) f → level f ≤ level e
      least_of f u = u.least e (let l = at_within a e x i in let o = within_same in omega arith) (rest_free level e a)

      still : (f : ℕ) → (f ≡ e → ⊥) → IsAwaited level (rest level e a) f → IsAwaited level a f
      still f other u = record {
        within = let l = u.within in let o = within_same in omega arith;
        unbound = elim (rest_at level e a f) [
          | inl s ↦ sym s.2 ∙ u.unbound
          | inr s ↦ elim s.0 [ inl q ↦ absurd (other q) | inr q ↦ (let l = least_of f u in absurd (omega arith)) ]
        ];
        least = λ k l m. u.least k (let o = within_same in omega arith) (none_back (rest level e a) a k (rest_part level e a) m);
      }

-- ---- an entry is offered

module _ (c : Chronicle Sym) (level : ℕ → ℕ) (pool entries was later : List (Entry Sym)) (d n g h : ℕ) (on : d ≤ n) (x : Entry Sym) (x_date : d ≤ x.date) (fresh : IsFresh pool x) (held out : List (Partial Sym))
    (stands : StandsFor c level (IsWanted c level pool entries (x ∷ later) h) held was pool entries d g) (Out : Partial Sym → Type 0) where
  abbrev pub Fine : Partial Sym → Type 0
  Fine = IsOpen c level (pool ++ x ∷ []) (entries ++ x ∷ []) n

  abbrev pub Wanted : Partial Sym → Type 0
  Wanted = IsWanted c level (pool ++ x ∷ []) (entries ++ x ∷ []) later h

  late : (e : Entry Sym) → IsIn e (x ∷ []) → d ≤ e.date
  late e i = elim i [ inl s ↦ subst (λ (t : Entry Sym). d ≤ t.date) (sym s) x_date | inr none ↦ absurd none ]

  given_of : (a : Partial Sym) → Fine a → (e : ℕ) (y : Entry Sym) → at a e ≡ Some y → IsIn y (pool ++ x ∷ [])
  given_of a k e y i = of_some (at a e) y _ i (k.partial.given e)

  -- without x it was open before
  without : (a : Partial Sym) → Fine a → ((e : ℕ) (y : Entry Sym) → at a e ≡ Some y → IsIn y pool) → IsOpen c level pool entries d a
  without a k given = open_back c level d n on a a (λ e y i. i) refl (λ f y w i. let u = w.unbound in absurd (cc)) pool (pool ++ x ∷ []) entries (x ∷ []) late given k.closed k

  -- With x given to the event e, what is bound at its level and below it, without e, was open before.
  parent : (a : Partial Sym) → Fine a → (e : ℕ) → at a e ≡ Some x → IsOpen c level pool entries d (rest level e a)
  parent a k e i =
      let part = rest_part level e a in
      open_back c level d n on (rest level e a) a part (length_rest level e a)
      (λ f y w j. elim (rest_at level e a f) [
        | inl s ↦ let u = w.unbound in let v = s.2 in absurd (cc)
        | inr s ↦ elim s.0 [
          | inl q ↦
              let m : at a e ≡ Some y = subst (λ (t : ℕ). at a t ≡ Some y) q j in
              let z : x ≡ y = cc in subst (λ (t : Entry Sym). d ≤ t.date) z x_date
          | inr q ↦ let m = w.least e (let l = at_within a e x i in let o = length_rest level e a in omega arith) (rest_free level e a) in absurd (omega arith)
        ]
      ])
      pool (pool ++ x ∷ []) entries (x ∷ []) late
      (λ f y j. elim (in_append pool (x ∷ []) y (given_of a k f y (part f y j))) [
        | inl old ↦ old
        | inr new ↦ elim new [
          | inl s ↦ elim (rest_at level e a f) [
            | inl t ↦ absurd (one_event a k.partial.distinct f e y x (part f y j) i t.0 (ap (λ (w : Entry Sym). w.arrival) s))
            | inr t ↦ let v = t.1 in absurd (cc)
          ]
          | inr never ↦ absurd never
        ]
      ])
      (rest_closed level e a k.closed x i) k

  wanted_before : (b : Partial Sym) → Wanted b → MayBecome c level (pool ++ x ∷ later) (entries ++ x ∷ later) later h b
  wanted_before b k = subst (λ (t : List (Entry Sym)). MayBecome c level t (entries ++ x ∷ later) later h b) (append_assoc pool (x ∷ []) later) (subst (λ (t : List (Entry Sym)). MayBecome c level ((pool ++ x ∷ []) ++ later) t later h b) (append_assoc entries (x ∷ []) later) k)

  -- what is wanted was wanted before
  wanted_without : (a : Partial Sym) → Wanted a → IsWanted c level pool entries (x ∷ later) h a
  wanted_without a w = becomes_without c level (pool ++ x ∷ later) (entries ++ x ∷ later) later h x a (wanted_before a w)

  -- and so was what it came of
  wanted_parent : (a : Partial Sym) → Wanted a → (e : ℕ) → at a e ≡ Some x → IsWanted c level pool entries (x ∷ later) h (rest level e a)
  wanted_parent a w = becomes_parent c level (pool ++ x ∷ later) (entries ++ x ∷ later) later h x a (wanted_before a w)

  same_before : before g (entries ++ x ∷ []) ≡ before g entries
  same_before = before_more g entries (x ∷ []) (λ e i. let l = late e i in let m = stands.marked in omega arith)

  more_entries : (e : Entry Sym) → IsIn e (entries ++ x ∷ []) → IsIn e (pool ++ x ∷ [])
  more_entries e i = elim (in_append entries (x ∷ []) e i) [ inl a ↦ in_append_left pool (x ∷ []) e (stands.entries_in e a) | inr b ↦ in_append_right pool (x ∷ []) e b ]

  abbrev pub Left : Partial Sym → Type 0
  Left a = Fine a × (Out a → ⊥)

  not_new : (b a : Partial Sym) → IsIn b held → GoesOnByLevel level Left x b a → IsRecognisedWhole c was (before g (entries ++ x ∷ [])) g a → ⊥
  not_new b a i (inl s) rec = (stands.each b i).1 (subst (λ (t : Partial Sym). IsRecognisedWhole c was (before g entries) g t) s.0 (subst (λ (t : List (Entry Sym)). IsRecognisedWhole c was t g a) same_before rec))
  not_new b a i (inr f) rec = fresh x (stands.was_in x (recognised_given c was (before g (entries ++ x ∷ [])) g a f.0 x rec ((f.2).part f.0 x (put_same b f.0 x (f.1).within)))) refl

  fine_of : (b a : Partial Sym) → GoesOnByLevel level Left x b a → Fine a
  fine_of b a (inl s) = (s.1).0
  fine_of b a (inr f) = (f.3).0

  pub offered_ahead : ((a : Partial Sym) → Fine a → Wanted a → Out a → ⊥) → IsImage (GoesOnByLevel level Left x) held out → StandsFor c level (IsWanted c level (pool ++ x ∷ []) (entries ++ x ∷ []) later h) out was (pool ++ x ∷ []) (entries ++ x ∷ []) n g
  offered_ahead kept im = record {
    was_in = λ e i. in_append_left pool (x ∷ []) e (stands.was_in e i);
    entries_in = more_entries;
    marked = let m = stands.marked in omega arith;
    distinct = im.distinct;
    each = λ a i. let r = im.sound a i in (fine_of r.0 a r.2, not_new r.0 a r.1 r.2);
    all = λ a k w. elim (given_or_new pool x a (given_of a k.0)) [
      | inl new ↦
          let e = new.0 in
          let i = new.1 in
          let b = rest level e a in
          let awaits = rest_awaits level e a k.0.closed x i in
          im.complete b a
          (stands.all b (parent a k.0 e i, λ rec. recognised_full c was (before g entries) g b e rec awaits.within (rest_free level e a)) (wanted_parent a w e i))
          (inr (e, awaits, rest_grows level e a k.0.closed x i, (k.0, kept a k.0 w)))
      | inr old ↦ im.complete a a
          (stands.all a (without a k.0 old, λ rec. k.1 (subst (λ (t : List (Entry Sym)). IsRecognisedWhole c was t g a) (sym same_before) rec)) (wanted_without a w))
          (inl (refl, (k.0, kept a k.0 w)))
    ];
  }
