-- What a store stands for where an entry comes to its pool, and where one of the pool is settled.
use Rattle.std.proofs.Common.{◌≡◌, ℕ, ◌≤◌, List, [], ◌∷◌, ◌++◌, refl, sym, ap, subst, inl, inr, arith, append-nil}
use Rattle.std.specs.Prelude.{Some}
use Rattle.crs_base.specs.declared.symbols.Sym.{Sym}
use Rattle.crs_base.specs.Words.{IsIn}
use Rattle.crs_base.specs.Entry.{Entry}
use Rattle.crs_base.proofs.Words.{in_append, in_append_left}
use Rattle.crs_model.specs.Models.{Chronicle}
use Rattle.crs_model.specs.Partial.{Partial, at}
use Rattle.crs_model.specs.Open.{IsOpen, IsRecognisedWhole, StandsFor, before}
use Rattle.crs_model.specs.Images.{IsImage}
use Rattle.crs_model.specs.Steps.{IsFresh, GoesOn}
use Rattle.crs_model.specs.Scans.{GoesOnByLevel}
use Rattle.crs_model.proofs.ByLevel.{given_or_new, one_event}
use Rattle.crs_model.proofs.Offers.{before_more, recognised_full, recognised_given, same_pool}
use Rattle.crs_model.proofs.Options.{of_some}
use Rattle.crs_model.proofs.Parts.{at_within, put_same, open_back}
use Rattle.crs_model.proofs.Rests.{rest, length_rest, rest_at, rest_part, rest_free, rest_closed, rest_awaits, rest_grows}
use Rattle.crs_living.specs.Ahead.{MayBecome}
use Rattle.crs_store.proofs.Ahead.{becomes_without, becomes_parent}

module _ (c : Chronicle Sym) (level : ℕ → ℕ) (held out : List (Partial Sym)) (was pool entries : List (Entry Sym)) (d g : ℕ) (x : Entry Sym) (dated : d ≤ x.date) where
  -- ---- x comes to the pool

  module _ (whole all coming : List (Entry Sym)) (h : ℕ) (stands : StandsFor c level (MayBecome c level whole all (x ∷ coming) h) held was pool entries d g) (fresh : IsFresh pool x) where
    abbrev pub FineNow : Partial Sym → Type 0
    FineNow = IsOpen c level (pool ++ x ∷ []) entries d

    given_of : (a : Partial Sym) → FineNow a → (e : ℕ) (y : Entry Sym) → at a e ≡ Some y → IsIn y (pool ++ x ∷ [])
    given_of a k e y i = of_some (at a e) y _ i (k.partial.given e)

    with_none : (a : Partial Sym) → FineNow a → IsOpen c level (pool ++ x ∷ []) (entries ++ []) d a
    with_none a k = subst (λ (t : List (Entry Sym)). IsOpen c level (pool ++ x ∷ []) t d a) (sym (append-nil entries)) k

    -- without x it was open before
    without : (a : Partial Sym) → FineNow a → ((e : ℕ) (y : Entry Sym) → at a e ≡ Some y → IsIn y pool) → IsOpen c level pool entries d a
    without a k given = open_back c level d d (omega arith) a a (λ e y i. i) refl (λ f y w i. let u = w.unbound in absurd (cc)) pool (pool ++ x ∷ []) entries [] (λ e i. absurd i) given k.closed (with_none a k)

    -- with x given to the event e, what is bound at its level and below it, without e, was open before
    parent : (a : Partial Sym) → FineNow a → (e : ℕ) → at a e ≡ Some x → IsOpen c level pool entries d (rest level e a)
    parent a k e i =
        let part = rest_part level e a in
        open_back c level d d (omega arith) (rest level e a) a part (length_rest level e a)
        (λ f y w j. elim (rest_at level e a f) [
          | inl s ↦ let u = w.unbound in let v = s.2 in absurd (cc)
          | inr s ↦ elim s.0 [
            | inl q ↦
                let m : at a e ≡ Some y = subst (λ (t : ℕ). at a t ≡ Some y) q j in
                let z : x ≡ y = cc in subst (λ (t : Entry Sym). d ≤ t.date) z dated
            | inr q ↦ let m = w.least e (let l = at_within a e x i in let o = length_rest level e a in omega arith) (rest_free level e a) in absurd (omega arith)
          ]
        ])
        pool (pool ++ x ∷ []) entries [] (λ f j. absurd j)
        (λ f y j. elim (in_append pool (x ∷ []) y (given_of a k f y (part f y j))) [
          | inl old ↦ old
          | inr new ↦ elim new [
            | inl s ↦ elim (rest_at level e a f) [
              | inl t ↦ absurd (one_event a k.partial.distinct f e y x (part f y j) i t.0 (ap (λ (w : Entry Sym). w.arrival) s))
              | inr t ↦ let v = t.1 in absurd (cc)
            ]
            | inr never ↦ absurd never
          ]
        ])
        (rest_closed level e a k.closed x i) (with_none a k)

    not_new : (b a : Partial Sym) → IsIn b held → GoesOnByLevel level FineNow x b a → IsRecognisedWhole c was (before g entries) g a → ⊥
    not_new b a i (inl s) rec = (stands.each b i).1 (subst (λ (t : Partial Sym). IsRecognisedWhole c was (before g entries) g t) s.0 rec)
    not_new b a i (inr f) rec = fresh x (stands.was_in x (recognised_given c was (before g entries) g a f.0 x rec ((f.2).part f.0 x (put_same b f.0 x (f.1).within)))) refl

    fine_of : (b a : Partial Sym) → GoesOnByLevel level FineNow x b a → FineNow a
    fine_of b a (inl s) = s.1
    fine_of b a (inr f) = f.3

    pub came_to_pool : IsImage (GoesOnByLevel level FineNow x) held out → StandsFor c level (MayBecome c level whole all coming h) out was (pool ++ x ∷ []) entries d g
    came_to_pool im = record {
      was_in = λ e i. in_append_left pool (x ∷ []) e (stands.was_in e i);
      entries_in = λ e i. in_append_left pool (x ∷ []) e (stands.entries_in e i);
      marked = stands.marked;
      distinct = im.distinct;
      each = λ a i. let r = im.sound a i in (fine_of r.0 a r.2, not_new r.0 a r.1 r.2);
      all = λ a k w. elim (given_or_new pool x a (given_of a k.0)) [
        | inl new ↦
            let e = new.0 in
            let i = new.1 in
            let b = rest level e a in
            let awaits = rest_awaits level e a k.0.closed x i in
            im.complete b a
            (stands.all b (parent a k.0 e i, λ rec. recognised_full c was (before g entries) g b e rec awaits.within (rest_free level e a)) (becomes_parent c level whole all coming h x a w e i))
            (inr (e, awaits, rest_grows level e a k.0.closed x i, k.0))
        | inr old ↦ im.complete a a (stands.all a (without a k.0 old, k.1) (becomes_without c level whole all coming h x a w)) (inl (refl, k.0))
      ];
    }

  -- ---- x, which is of the pool, is settled

  module _ (Wanted : Partial Sym → Type 0) (stands : StandsFor c level Wanted held was pool entries d g) (n : ℕ) (later : d ≤ n) (inside : IsIn x pool) where
    late : (e : Entry Sym) → IsIn e (x ∷ []) → d ≤ e.date
    late e i = elim i [ inl s ↦ subst (λ (t : Entry Sym). d ≤ t.date) (sym s) dated | inr none ↦ absurd none ]

    same_before : before g (entries ++ x ∷ []) ≡ before g entries
    same_before = before_more g entries (x ∷ []) (λ e i. let l = late e i in let m = stands.marked in omega arith)

    pub was_settled : IsImage (GoesOn (IsOpen c level pool (entries ++ x ∷ []) n)) held out → StandsFor c level Wanted out was pool (entries ++ x ∷ []) n g
    was_settled im = record {
      was_in = stands.was_in;
      entries_in = λ e i. elim (in_append entries (x ∷ []) e i) [
        | inl a ↦ stands.entries_in e a
        | inr b ↦ elim b [ inl s ↦ subst (λ (t : Entry Sym). IsIn t pool) (sym s) inside | inr none ↦ absurd none ]
      ];
      marked = let m = stands.marked in omega arith;
      distinct = im.distinct;
      each = λ a i.
          let r = im.sound a i in (
            (r.2).1,
            λ rec. (stands.each r.0 r.1).1 (subst (λ (t : Partial Sym). IsRecognisedWhole c was (before g entries) g t) (r.2).0 (subst (λ (t : List (Entry Sym)). IsRecognisedWhole c was t g a) same_before rec)),
          );
      all = λ a k w. im.complete a a
          (stands.all a (same_pool c pool entries (x ∷ []) was d n g later late level a k.0, λ rec. k.1 (subst (λ (t : List (Entry Sym)). IsRecognisedWhole c was t g a) (sym same_before) rec)) w)
          (refl, k.0);
    }
