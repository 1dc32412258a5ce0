-- Whether an entry changes an attribute can be told.
use Rattle.std.proofs.Common.{◌≡◌, ◌⊎◌, ℕ, Bool, true, false, nat_eq, ap, sym, true≢false, inl, inr, Option, Some, None, refl}
use Rattle.std.specs.Prelude.{IsSome}
use Rattle.std.proofs.lemmas.Bool.{eqb-true, eq-eqb}
use Rattle.std.specs.Bool.{Decides}
use Rattle.std.specs.Cmp.Lexicographic.{pointwise}
use Rattle.std.proofs.lemmas.Slice.Eq.{slice_eq-Decides}
use Rattle.crs_base.specs.declared.symbols.Sym.{Sym}
use Rattle.crs_base.specs.Entry.{Entry}
use Rattle.crs_base.specs.Values.{Attribute, IsChange}

abbrev pub sym_eq : Sym → Sym → Bool
sym_eq a b = nat_eq a.0 b.0

pub same_decides : (a b : Sym) → Decides (sym_eq a b) (a ≡ b)
same_decides a b = ((λ e. let n : a.0 ≡ b.0 = eqb-true a.0 b.0 e in ap (λ (n : ℕ). let s : Sym = record { 0 = n } in s) n), (λ e. eq-eqb a.0 b.0 (ap (λ s. s.0) e)))

told : {P : Type 0} (b : Bool) → Decides b P → P ⊎ (P → ⊥)
told true d = inl (d.0 refl)
told false d = inr (λ p. true≢false (sym (d.1 p)))

is_some_told : {A : Type 0} (o : Option A) → IsSome o ⊎ (IsSome o → ⊥)
is_some_told (Some x) = inl refl
is_some_told None = inr (λ h. true≢false (sym h))

pub change_told : (a : Attribute Sym) (e : Entry Sym) → IsChange a e ⊎ (IsChange a e → ⊥)
change_told a e = elim (told (sym_eq e.name a.name) (same_decides e.name a.name)) [
  | inl n ↦ elim (told (pointwise sym_eq e.args a.args) (slice_eq-Decides same_decides e.args a.args (pointwise sym_eq e.args a.args) refl)) [
    | inl m ↦ elim (is_some_told e.change) [
      | inl s ↦ inl (record { named = n; of = m; change = s })
      | inr f ↦ inr (λ c. f c.change)
    ]
    | inr f ↦ inr (λ c. f c.of)
  ]
  | inr f ↦ inr (λ c. f c.named)
]

told_record : (a b : Attribute Sym) → a.name ≡ b.name → a.args ≡ b.args → a ≡ b
told_record a b n m = λ i. record { name = n i; args = m i }

pub attribute_told : (a b : Attribute Sym) → (a ≡ b) ⊎ (a ≡ b → ⊥)
attribute_told a b = elim (told (sym_eq a.name b.name) (same_decides a.name b.name)) [
  | inl n ↦ elim (told (pointwise sym_eq a.args b.args) (slice_eq-Decides same_decides a.args b.args (pointwise sym_eq a.args b.args) refl)) [
    | inl m ↦ inl (told_record a b n m)
    | inr f ↦ inr (λ e. f (ap (λ w. w.args) e))
  ]
  | inr f ↦ inr (λ e. f (ap (λ w. w.name) e))
]
