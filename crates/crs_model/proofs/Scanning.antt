-- What a step of a scan keeps.
use Rattle.std.proofs.Common.{◌≡◌, ℕ, ◌<◌, length, sym, ap, subst, ◌∙◌, inl, inr, arith, length-set}
use Rattle.std.specs.Prelude.{Some, None}
use Rattle.std.proofs.lemmas.Bool.Decides.{eqb_tells}
use Rattle.crs_base.specs.Entry.{Entry}
use Rattle.crs_model.specs.Partial.{Partial, at, put, IsLevelClosed, IsAwaited}
use Rattle.crs_model.proofs.Parts.{put_same, put_other}

module _ {S : Type 0} (level : ℕ → ℕ) where
  -- a step keeps a partial assignment level-closed
  pub put_closed : (a : Partial S) (f : ℕ) (y : Entry S) → IsAwaited level a f → IsLevelClosed level a → IsLevelClosed level (put a f y)
  put_closed a f y w closed e g inside lower free = elim (eqb_tells e f) [
    | inl s ↦ let i = put_same a f y w.within in let j : at (put a f y) f ≡ None = subst (λ (t : ℕ). at (put a f y) t ≡ None) s.1 free in absurd (cc)
    | inr o ↦
        let k : e < length a = let m = length-set a f (Some y) in omega arith in
        let free_old : at a e ≡ None = sym (put_other a f e y o.1) ∙ free in
        elim (eqb_tells g f) [
          | inl s ↦ let m = w.least e k free_old in absurd (omega (arith, ap level s.1))
          | inr p ↦ put_other a f g y p.1 ∙ closed e g k lower free_old
        ]
  ]
