-- The last change of an attribute, if there is one.
use Rattle.std.proofs.Common.{◌⊎◌, ◌≤◌, List, [], ◌∷◌, refl, sym, subst, inl, inr, arith}
use Rattle.std.specs.Prelude.{ℤ, pos, ◌≤ℤ◌}
use Rattle.std.proofs.lemmas.Int.{ints, by_lt_z}
use Rattle.crs_base.specs.declared.symbols.Sym.{Sym}
use Rattle.crs_base.specs.Words.{IsIn}
use Rattle.crs_base.specs.Entry.{Entry}
use Rattle.crs_base.specs.Values.{Attribute, IsChange, IsLastChange}
use Rattle.crs_history.proofs.Telling.{change_told}

-- there is a last change at a date, or there is no change until then
pub last_told : (a : Attribute Sym) (xs : List (Entry Sym)) (t : ℤ)
    → ((e : Entry Sym) × IsLastChange a xs t e) ⊎ ((e : Entry Sym) → IsIn e xs → IsChange a e → pos e.date ≤ℤ t → ⊥)
last_told a [] t = inr (λ e i. absurd i)
last_told a (x ∷ xs) t = by_change (change_told a x) (last_told a xs t)
  where
    Last : List (Entry Sym) → Type 0
    Last ys = ((e : Entry Sym) × IsLastChange a ys t e)

    Lack : List (Entry Sym) → Type 0
    Lack ys = (e : Entry Sym) → IsIn e ys → IsChange a e → pos e.date ≤ℤ t → ⊥

    skip : ((IsChange a x × (pos x.date ≤ℤ t)) → ⊥) → Last xs ⊎ Lack xs → Last (x ∷ xs) ⊎ Lack (x ∷ xs)
    skip lacks (inl p) = inl (
      p.0,
      record {
        given = inr p.1.given;
        change = p.1.change;
        by_then = p.1.by_then;
        greatest = λ d i c k. elim i [ inl e ↦ absurd (lacks (subst (λ (w : Entry Sym). IsChange a w) e c, subst (λ (w : Entry Sym). pos w.date ≤ℤ t) e k)) | inr j ↦ p.1.greatest d j c k ];
      },
    )
    skip lacks (inr f) = inr (λ d i c k. elim i [ inl e ↦ lacks (subst (λ (w : Entry Sym). IsChange a w) e c, subst (λ (w : Entry Sym). pos w.date ≤ℤ t) e k) | inr j ↦ f d j c k ])

    here : IsChange a x → pos x.date ≤ℤ t → ((d : Entry Sym) → IsIn d xs → IsChange a d → pos d.date ≤ℤ t → d.date ≤ x.date) → Last (x ∷ xs)
    here c k all = (
      x,
      record {
        given = inl refl;
        change = c;
        by_then = k;
        greatest = λ d i m l. elim i [ inl e ↦ subst (λ (w : Entry Sym). w.date ≤ x.date) (sym e) (omega arith) | inr j ↦ all d j m l ];
      },
    )

    with_it : IsChange a x → pos x.date ≤ℤ t → Last xs ⊎ Lack xs → Last (x ∷ xs)
    with_it c k (inr f) = here c k (λ d j m l. absurd (f d j m l))
    with_it c k (inl p) = by_lt_z (pos p.0.date) (pos x.date)
        (λ less. here c k (λ d j m l. let g : d.date ≤ p.0.date = p.1.greatest d j m l in omega (arith, ints)))
        (λ more. (
          p.0,
          record {
            given = inr p.1.given;
            change = p.1.change;
            by_then = p.1.by_then;
            greatest = λ d i m l. elim i [ inl e ↦ subst (λ (w : Entry Sym). w.date ≤ p.0.date) (sym e) (let g : pos x.date ≤ℤ pos p.0.date = more in omega (arith, ints)) | inr j ↦ p.1.greatest d j m l ];
          },
        ))

    by_change : IsChange a x ⊎ (IsChange a x → ⊥) → Last xs ⊎ Lack xs → Last (x ∷ xs) ⊎ Lack (x ∷ xs)
    by_change (inr lacks) rest = skip (λ p. lacks p.0) rest
    by_change (inl c) rest = by_lt_z t (pos x.date)
        (λ after. skip (λ p. let q : pos x.date ≤ℤ t = p.1 in omega (arith, ints)) rest)
        (λ upto. inl (with_it c upto rest))
