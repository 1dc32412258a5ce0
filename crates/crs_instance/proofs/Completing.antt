-- What completes an instance.
use Rattle.std.proofs.Common.{◌≡◌, ◌∙◌, ℕ, suc, ◌<◌, List, [], ◌∷◌, length, refl, sym, subst, arith}
use Rattle.std.specs.Prelude.{ℤ, Option, Some, None, Bool, true, false, cond}
use Rattle.std.proofs.lemmas.List.FromFn.{length-map-range_with_len, get_or-map-range_with_len}
use Rattle.std.proofs.Common.{ap}
use Rattle.crs_stn.specs.Cycle.{lesser}
use Rattle.crs_stn.specs.DateWindow.{after, greater_of, before}
use Rattle.crs_model.specs.declared.date_window.DateWindow.{DateWindow}
use Rattle.crs_instance.specs.Instances.{no_window, window_at}
use Rattle.crs_instance.specs.Narrowed.{IsNarrowed, narrowed_windows}

-- what is so of each answer is so of the one that is given
pub by_cond : {A : Type 0} (P : Option A → Type 0) (b : Bool) (a : A) → (b ≡ true → P (Some a)) → (b ≡ false → P None) → P (cond b (Some a) None)
by_cond P true a f g = f refl
by_cond P false a f g = g refl

same_ends : (v w : DateWindow) → v.least ≡ w.least → v.most ≡ w.most → v ≡ w
same_ends v w l m = (λ i. record { least = l i; most = m i })

same_windows : (vs ws : List DateWindow) → length vs ≡ length ws → ((r : ℕ) → r < length vs → window_at vs r ≡ window_at ws r) → vs ≡ ws
same_windows [] [] l s = refl
same_windows [] (w ∷ ws) l s = absurd (omega (arith, l))
same_windows (v ∷ vs) [] l s = absurd (omega (arith, l))
same_windows (v ∷ vs) (w ∷ ws) l s = (λ i. s 0 (omega arith) i ∷ same_windows vs ws (omega (arith, l)) (λ r m. s (suc r) (omega (arith, m))) i)

-- the windows that one date more leaves
module _ (n : ℕ) (most : ℕ → ℕ → Option ℤ) (e : ℕ) (d : ℤ) (old : List DateWindow) where
  abbrev narrowed_at : ℕ → DateWindow
  narrowed_at r = record { least = greater_of (window_at old r).least (before (Some d) (most r e)); most = lesser (window_at old r).most (after (Some d) (most e r)) }

  abbrev narrowed : List DateWindow
  narrowed = narrowed_windows n most e d old

  narrowed_there : (r : ℕ) → r < n → window_at narrowed r ≡ narrowed_at r
  narrowed_there r l = get_or-map-range_with_len narrowed_at 0 n r r no_window l (omega arith)

  pub are_narrowed : IsNarrowed n most e d old narrowed
  are_narrowed = record {
    len = length-map-range_with_len narrowed_at 0 n;
    most_at = λ r l. ap (λ (w : DateWindow). w.most) (narrowed_there r l);
    least_at = λ r l. ap (λ (w : DateWindow). w.least) (narrowed_there r l);
  }

  -- no others are
  pub same_narrowed : (new : List DateWindow) → IsNarrowed n most e d old new → new ≡ narrowed
  same_narrowed new is = same_windows new narrowed (is.len ∙ sym are_narrowed.len) (λ r l.
      let inside : r < n = subst (λ (m : ℕ). r < m) is.len l in
      same_ends (window_at new r) (window_at narrowed r) (is.least_at r inside ∙ sym (are_narrowed.least_at r inside)) (is.most_at r inside ∙ sym (are_narrowed.most_at r inside)))
