-- Entries by number: what known symbols tell of it, and how the lists stay right.
use Rattle.std.proofs.Common.{◌≡◌, ℕ, ◌-◌, ◌/◌, ◌%◌, ◌==◌, Bool, true, false, cond, List, [], ◌∷◌, ◌++◌, length, take, drop, Option, Some, None, refl, sym, ap, subst, ◌∙◌, inl, inr, arith}
use Rattle.std.specs.Prelude.{slice_index_or}
use Rattle.std.proofs.lemmas.Bool.{cases_eq}
use Rattle.std.proofs.lemmas.Bool.Decides.{nat_tests}
use Rattle.std.proofs.lemmas.List.{append-nil}
use Rattle.crs_base.specs.declared.symbols.Sym.{Sym}
use Rattle.crs_base.specs.Words.{Ordered}
use Rattle.crs_base.specs.Sifted.{Sifts}
use Rattle.crs_base.specs.Entry.{Entry}
use Rattle.crs_base.proofs.Sifted.{sifts_append}
use Rattle.crs_base.proofs.Words.{each_from_in, in_from_each}
use Rattle.crs_history.specs.Dropping.{Drops}
use Rattle.crs_history.specs.Keyed.{HaveKnown, IsLike, mixed, digest, taken_in, digest_of, key_of, key_for, AreKeyed}
use Rattle.crs_history.specs.Lanes.{lane_of, AreAlike, IsSetTo}
use Rattle.crs_history.specs.ListNumbers.{led}
use Rattle.crs_history.proofs.LaneEdits.{last_off}
use Rattle.crs_history.proofs.Left.{drops_in, sifts_without}

some_is : (a b : ℕ) → Some a ≡ Some b → a ≡ b
some_is a b e = cc

none_some : {P : Type 0} (a : ℕ) → None ≡ Some a → P
none_some a e = absurd (let f : None ≡ Some a = e in cc)

zero_digest : (n : ℕ) (args : List Sym) → digest 0 n args ≡ n
zero_digest n [] = refl
zero_digest n (a ∷ args) = zero_digest n args

-- arguments that have the known symbols have the number that these tell
known_digest : (p n m : ℕ) (known : List (Option Sym)) (args : List Sym) → HaveKnown known args → digest_of p n known ≡ Some m → digest p n args ≡ m
known_digest p n m [] args has e = by (p == 0) refl e
  where
    by : (b : Bool) → (p == 0) ≡ b → cond b (Some n) None ≡ Some m → digest p n args ≡ m
    by true is e = let z : p ≡ 0 = grind (arith, nat_tests) in subst (λ q. digest q n args ≡ m) (sym z) (zero_digest n args ∙ some_is n m e)
    by false is e = none_some m e
known_digest p n m (k ∷ ks) [] has e =
    by (p % 2 == 1) (known_digest (p / 2) n m ks [] has.1) (subst (λ (w : Option Sym). led (taken_in p n w) (λ m. digest_of (p / 2) m ks) ≡ Some m) has.0 e)
  where
    by : (b : Bool) → (digest_of (p / 2) n ks ≡ Some m → n ≡ m) → led (cond b None (Some n)) (λ m. digest_of (p / 2) m ks) ≡ Some m → n ≡ m
    by true on e = none_some m e
    by false on e = on e
known_digest p n m (None ∷ ks) (a ∷ args) has e = by (p % 2 == 1) (known_digest (p / 2) n m ks args has.1) e
  where
    by : (b : Bool) → (digest_of (p / 2) n ks ≡ Some m → digest (p / 2) n args ≡ m) → led (cond b None (Some n)) (λ m. digest_of (p / 2) m ks) ≡ Some m
        → digest (p / 2) (cond b (mixed n a.0) n) args ≡ m
    by true on e = none_some m e
    by false on e = on e
known_digest p n m (Some s ∷ ks) (a ∷ args) has e =
    known_digest (p / 2) (cond (p % 2 == 1) (mixed n a.0) n) m ks args has.1
    (subst (λ (w : Sym). digest_of (p / 2) (cond (p % 2 == 1) (mixed n w.0) n) ks ≡ Some m) has.0 e)

-- so each entry of the name that has them
pub like_key : (places : List (Option ℕ)) (name : Sym) (known : List (Option Sym)) (m : ℕ) (e : Entry Sym) → key_for places name known ≡ Some m → IsLike name known e → key_of places e ≡ Some m
like_key places name known m e tells like =
    subst (λ (w : Sym). led (slice_index_or places w.0 None) (λ p. Some (digest p (w.0 % 1024) e.args)) ≡ Some m) (sym like.named) (by (slice_index_or places name.0 None) tells)
  where
    by : (o : Option ℕ) → led o (λ p. digest_of p (name.0 % 1024) known) ≡ Some m → led o (λ p. Some (digest p (name.0 % 1024) e.args)) ≡ Some m
    by None t = none_some m t
    by (Some p) t = ap (λ k. Some k) (known_digest p (name.0 % 1024) m known e.args like.has t)

-- what has all of which L holds
pub sifted_all : {A : Type 0} (P L : A → Type 0) (xs ys : List A) → ((x : A) → L x → P x) → Sifts P xs ys → Drops (λ x. L x → ⊥) xs ys
sifted_all P L [] ys f h = h
sifted_all P L (x ∷ xs) ys f (inl h) = inl (h.1, h.2, sifted_all P L xs h.1 f h.3)
sifted_all P L (x ∷ xs) ys f (inr h) = inr ((λ l. h.0 (f x l)), sifted_all P L xs ys f h.1)

pub drops_ordered : {A : Type 0} (P : A → Type 0) (R : A → A → Type 0) (xs ys : List A) → Drops P xs ys → Ordered R xs → Ordered R ys
drops_ordered P R [] ys h o = subst (Ordered R) (sym h) o
drops_ordered P R (x ∷ xs) ys (inl h) o =
    subst (Ordered R) (sym h.1) (each_from_in (R x) h.0 (λ z i. in_from_each (R x) xs o.0 z (drops_in P xs h.0 z h.2 i)), drops_ordered P R xs h.0 h.2 o.1)
drops_ordered P R (x ∷ xs) ys (inr h) o = drops_ordered P R xs ys h.1 o.1

sifts_last : {A : Type 0} (P : A → Type 0) (xs : List A) (e : A) (zs : List A) → P e → Sifts P (xs ++ e ∷ []) zs → (us : List A) × (zs ≡ us ++ e ∷ []) × Sifts P xs us
sifts_last P [] e zs p (inl h) = ([], h.2 ∙ ap (λ w. e ∷ w) h.3, refl)
sifts_last P [] e zs p (inr h) = absurd (h.0 p)
sifts_last P (x ∷ xs) e zs p (inl h) = let r = sifts_last P xs e h.1 p h.3 in (x ∷ r.0, h.2 ∙ ap (λ w. x ∷ w) r.1, inl (h.0, r.0, refl, r.2))
sifts_last P (x ∷ xs) e zs p (inr h) = let r = sifts_last P xs e zs p h.1 in (r.0, r.1, inr (h.0, r.2))

module _ (places : List (Option ℕ)) (ring : List (Entry Sym)) (e : Entry Sym) (old new : List (List (Entry Sym))) where
  abbrev Of : ℕ → Entry Sym → Type 0
  Of n x = key_of places x ≡ Some n

  abbrev Keys : List (Entry Sym) → List (List (Entry Sym)) → Type 0
  Keys entries lanes = AreKeyed entries (record { places = places; lanes = lanes })

  other : (k n : ℕ) → key_of places e ≡ Some k → (n ≡ k → ⊥) → Of n e → ⊥
  other k n is ne of = ne (some_is n k (sym of ∙ is))

  here : (k n : ℕ) → key_of places e ≡ Some k → n ≡ k → Of n e
  here k n is same = is ∙ ap (λ m. Some m) (sym same)

  pub alike_keyed : AreAlike old new → Keys ring old → Keys ring new
  alike_keyed same h n = subst (Sifts (Of n) ring) (sym (same n)) (h n)

  -- an entry without a number changes nothing
  pub plain_pushed : key_of places e ≡ None → Keys ring old → Keys (ring ++ e ∷ []) old
  plain_pushed none h n = subst (Sifts (Of n) (ring ++ e ∷ [])) (append-nil (lane_of old n)) (sifts_append (Of n) ring (lane_of old n) (e ∷ []) [] (h n) (inr ((λ q. none_some n (sym none ∙ q)), refl)))

  pub plain_popped : key_of places e ≡ None → Keys (e ∷ ring) old → Keys ring old
  plain_popped none h n = elim (h n) [ inl p ↦ none_some n (sym none ∙ p.0) | inr p ↦ p.1 ]

  pub plain_dropped : key_of places e ≡ None → Keys (ring ++ e ∷ []) old → Keys ring old
  plain_dropped none h n = subst (λ (w : List (Entry Sym)). Sifts (Of n) w (lane_of old n)) (append-nil ring) (sifts_without (Of n) ring e [] (lane_of old n) (λ q. none_some n (sym none ∙ q)) (h n))

  module _ (k : ℕ) (is : key_of places e ≡ Some k) where
    pub key_pushed : IsSetTo old k (lane_of old k ++ e ∷ []) new → Keys ring old → Keys (ring ++ e ∷ []) new
    key_pushed put h n = elim (cases_eq n k) [
      | inl same ↦ subst (Sifts (Of n) (ring ++ e ∷ [])) (sym (ap (lane_of new) same ∙ put.0 ∙ ap (λ m. lane_of old m ++ e ∷ []) (sym same)))
          (sifts_append (Of n) ring (lane_of old n) (e ∷ []) (e ∷ []) (h n) (inl (here k n is same, [], refl, refl)))
      | inr ne ↦ subst (Sifts (Of n) (ring ++ e ∷ [])) (append-nil (lane_of old n) ∙ sym (put.1 n ne))
          (sifts_append (Of n) ring (lane_of old n) (e ∷ []) [] (h n) (inr (other k n is ne, refl)))
    ]

    pub key_popped : IsSetTo old k (drop 1 (lane_of old k)) new → Keys (e ∷ ring) old → Keys ring new
    key_popped put h n = elim (cases_eq n k) [
      | inl same ↦ elim (h n) [
        | inl p ↦ subst (Sifts (Of n) ring) (sym (ap (lane_of new) same ∙ put.0 ∙ ap (λ m. drop 1 (lane_of old m)) (sym same) ∙ ap (drop 1) p.2)) p.3
        | inr p ↦ absurd (p.0 (here k n is same))
      ]
      | inr ne ↦ elim (h n) [
        | inl p ↦ absurd (other k n is ne p.0)
        | inr p ↦ subst (Sifts (Of n) ring) (sym (put.1 n ne)) p.1
      ]
    ]

    pub key_dropped : IsSetTo old k (take (length (lane_of old k) - 1) (lane_of old k)) new → Keys (ring ++ e ∷ []) old → Keys ring new
    key_dropped put h n = elim (cases_eq n k) [
      | inl same ↦
          let r = sifts_last (Of n) ring e (lane_of old n) (here k n is same) (h n) in
          let off : lane_of new n ≡ r.0 = ap (lane_of new) same ∙ put.0 ∙ ap (λ m. take (length (lane_of old m) - 1) (lane_of old m)) (sym same) ∙ last_off (lane_of old n) r.0 e (length (lane_of old n) - 1) refl r.1 in
          subst (Sifts (Of n) ring) (sym off) r.2
      | inr ne ↦ subst (Sifts (Of n) ring) (sym (put.1 n ne))
          (subst (λ (w : List (Entry Sym)). Sifts (Of n) w (lane_of old n)) (append-nil ring) (sifts_without (Of n) ring e [] (lane_of old n) (other k n is ne) (h n)))
    ]

-- where none counts, the number stays
pub none_counts : (n : ℕ) (known : List (Option Sym)) → digest_of 0 n known ≡ Some n
none_counts n [] = refl
none_counts n (None ∷ known) = none_counts n known
none_counts n (Some s ∷ known) = none_counts n known
