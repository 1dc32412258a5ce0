-- What is found among entries.
use Rattle.std.proofs.Common.{◌≡◌, ◌≤◌, ◌==◌, Bool, true, false, cond, List, [], ◌∷◌, length, filter, refl, sym, ap, subst, ◌∙◌, inl, inr, arith, true≢false}
use Rattle.std.specs.Prelude.{ℤ}
use Rattle.std.proofs.lemmas.Bool.Decides.{nat_tests}
use Rattle.crs_base.specs.Words.{IsIn}
use Rattle.crs_base.specs.Sifted.{Sifts}
use Rattle.crs_base.specs.Entry.{Entry}
use Rattle.crs_base.specs.declared.symbols.Sym.{Sym}
use Rattle.crs_base.proofs.Sifted.{sifted_in, in_sifted, sifts_twice}
use Rattle.crs_history.specs.Dropping.{Drops}
use Rattle.crs_history.specs.Keyed.{IsLike}
use Rattle.crs_history.specs.Looking.{IsBetween, IsNamedIn, Finds, is_named}
use Rattle.crs_history.proofs.Numbering.{sym_of}
use Rattle.crs_history.proofs.Left.{drops_in, drops_left, sifts_short}

module _ {S : Type 0} (P : Entry S → Type 0) (from to : ℤ) (entries ys : List (Entry S)) (found : Finds P from to entries ys) (e : Entry S) where
  -- what it has is of the entries, and dated so
  pub of_found : IsIn e ys → IsIn e entries × IsBetween from to e
  of_found i = sifted_in (IsBetween from to) entries found.0 e found.1 (drops_in (λ e. P e → ⊥) found.0 ys e found.2 i)

  -- it has all that are dated so and of which P holds
  pub is_found : IsIn e entries → IsBetween from to e → P e → IsIn e ys
  is_found i b p = elim (drops_left (λ e. P e → ⊥) found.0 ys e found.2 (in_sifted (IsBetween from to) entries found.0 e found.1 i b)) [ inl j ↦ j | inr f ↦ absurd (f p) ]

module _ {A : Type 0} where
  pub drops_short : (P : A → Type 0) (xs ys : List A) → Drops P xs ys → length ys ≤ length xs
  drops_short P [] ys h = let e = ap length h in omega arith
  drops_short P (x ∷ xs) ys (inl h) = let e = ap length h.1 in let l = drops_short P xs h.0 h.2 in omega arith
  drops_short P (x ∷ xs) ys (inr h) = let l = drops_short P xs ys h.1 in omega arith

  -- what is left of those that pass a test
  pub drops_filter : (P : A → Type 0) (p : A → Bool) (xs ys : List A) → Drops P xs ys → Drops P (filter p xs) (filter p ys)
  drops_filter P p [] ys h = subst (λ (w : List A). Drops P [] (filter p w)) (sym h) refl
  drops_filter P p (x ∷ xs) ys (inl h) = subst (λ (w : List A). Drops P (filter p (x ∷ xs)) (filter p w)) (sym h.1) (by (p x) (drops_filter P p xs h.0 h.2))
    where
      by : (b : Bool) → Drops P (filter p xs) (filter p h.0) → Drops P (cond b (x ∷ filter p xs) (filter p xs)) (cond b (x ∷ filter p h.0) (filter p h.0))
      by true d = inl (filter p h.0, refl, d)
      by false d = d
  drops_filter P p (x ∷ xs) ys (inr h) = by (p x) (drops_filter P p xs ys h.1)
    where
      by : (b : Bool) → Drops P (filter p xs) (filter p ys) → Drops P (cond b (x ∷ filter p xs) (filter p xs)) (filter p ys)
      by true d = inr (h.0, d)
      by false d = d

pub found_short : {S : Type 0} (P : Entry S → Type 0) (from to : ℤ) (entries ys : List (Entry S)) → Finds P from to entries ys → length ys ≤ length entries
found_short P from to entries ys f = let a = sifts_short (IsBetween from to) entries f.0 f.1 in let b = drops_short (λ e. P e → ⊥) f.0 ys f.2 in omega arith

module _ (name : Sym) (from to : ℤ) where
  same_name : (e : Entry Sym) → is_named name e ≡ true → e.name ≡ name
  same_name e h = sym_of e.name name (grind (arith, nat_tests))

  other_name : (e : Entry Sym) → is_named name e ≡ false → e.name ≡ name → ⊥
  other_name e h same = true≢false (sym (subst (λ (s : Sym). (e.name.0 == s.0) ≡ true) same (grind (arith, nat_tests))) ∙ h)

  named_left : (zs ys : List (Entry Sym)) → Drops (λ e. IsLike name [] e → ⊥) zs ys → Sifts (λ e. e.name ≡ name) zs (filter (is_named name) ys)
  named_left [] ys d = ap (filter (is_named name)) d
  named_left (z ∷ zs) ys (inl d) = subst (λ (w : List (Entry Sym)). Sifts (λ e. e.name ≡ name) (z ∷ zs) (filter (is_named name) w)) (sym d.1) (by (is_named name z) refl (named_left zs d.0 d.2))
    where
      by : (b : Bool) → is_named name z ≡ b → Sifts (λ e. e.name ≡ name) zs (filter (is_named name) d.0)
          → Sifts (λ e. e.name ≡ name) (z ∷ zs) (cond b (z ∷ filter (is_named name) d.0) (filter (is_named name) d.0))
      by true is s = inl (same_name z is, filter (is_named name) d.0, refl, s)
      by false is s = inr (other_name z is, s)
  named_left (z ∷ zs) ys (inr d) = inr ((λ n. d.0 (record { named = n; has = tt })), named_left zs ys d.1)

  -- of what is found of a name, those that have it
  pub named_found : (entries ys : List (Entry Sym)) → Finds (IsLike name []) from to entries ys → Sifts (IsNamedIn name from to) entries (filter (is_named name) ys)
  named_found entries ys f =
      sifts_twice (IsBetween from to) (λ e. e.name ≡ name) (IsNamedIn name from to) entries f.0 (filter (is_named name) ys)
      (λ e i b n. record { named = n; since = b.since; before = b.before }) (λ e i r. (record { since = r.since; before = r.before }, r.named))
      f.1 (named_left f.0 ys f.2)
