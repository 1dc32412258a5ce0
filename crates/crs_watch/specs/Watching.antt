-- The pairs of an id and a window that are armed, each under a name and with its stretch.
use Rattle.std.specs.Prelude.{◌≡◌, ℕ, pos, int_lt, ◌<◌, ◌^◌, Bool, not, cond, ◌&&◌, nat_eq, List, filter, map, Option, Some}
use Rattle.std.specs.Ordering.{nat_cmp, on, then_cmp, is_eq}
use Rattle.std.specs.declared.cmp.Ordering.{Ordering}
use Rattle.std.specs.Map.{lookup}
use Rattle.crs_model.specs.declared.progress.Stretch.{Stretch}

-- what is armed: a name, an id and a window, and the stretch of each
abbrev pub Armed : Type 0 → Type 0
Armed K = List ((K × ℕ × ℕ) × Stretch)

-- by id, then by window
abbrev pub touched_cmp : ℕ × ℕ → ℕ × ℕ → Ordering
touched_cmp = then_cmp (on (λ p. p.0) nat_cmp) (on (λ p. p.1) nat_cmp)

-- the date is in the stretch, whose end isn't
abbrev pub has_date : ℕ → Stretch → Bool
has_date date s = not (int_lt (pos date) s.from) && int_lt (pos date) s.to

module _ {K : Type 0} where
  -- the id and the window of what is armed
  abbrev pub armed_pair : (K × ℕ × ℕ) × Stretch → ℕ × ℕ
  armed_pair e = (e.0.1, e.0.2)

  -- the pairs whose stretch has the date
  abbrev pub pairs_at : ℕ → Armed K → List (ℕ × ℕ)
  pairs_at date armed = map armed_pair (filter (λ e. has_date date e.1) armed)

  -- the id isn't this one
  abbrev pub is_of_another : ℕ → (K × ℕ × ℕ) × Stretch → Bool
  is_of_another id e = not (nat_eq e.0.1 id)

  -- the id is below 2^64, and the window below 2^8
  abbrev pub IsSized : K × ℕ × ℕ → Type 0
  IsSized k = (k.1 < 2 ^ 64) × (k.2 < 2 ^ 8)

  module _ (cmp : K → K → Ordering) where
    -- by name, then by id, then by window
    abbrev pub armed_cmp : K × ℕ × ℕ → K × ℕ × ℕ → Ordering
    armed_cmp = then_cmp (then_cmp (on (λ k. k.0) cmp) (on (λ k. k.1) nat_cmp)) (on (λ k. k.2) nat_cmp)

    -- the stretch at a key, where something is armed there
    abbrev pub stretch_at : Armed K → K × ℕ × ℕ → Option Stretch
    stretch_at armed key = lookup (λ k. is_eq (armed_cmp key k)) armed

    -- new has the stretch at the key, and at each other key what old has
    abbrev pub Arms : K × ℕ × ℕ → Stretch → Armed K → Armed K → Type 0
    Arms key s old new = (k : K × ℕ × ℕ) → stretch_at new k ≡ cond (is_eq (armed_cmp key k)) (Some s) (stretch_at old k)

    -- it is armed under the name, and its stretch has the date
    abbrev pub is_touched : K → ℕ → (K × ℕ × ℕ) × Stretch → Bool
    is_touched name date e = is_eq (cmp name e.0.0) && has_date date e.1
