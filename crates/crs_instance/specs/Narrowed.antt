-- Date windows when one more date is given.
use Rattle.std.specs.Prelude.{◌≡◌, ◌<◌, ℕ, ℤ, pos, ◌≤ℤ◌, List, length, map, Option, Some, IfSome}
use Rattle.std.specs.List.{range_with_len}
use Rattle.crs_model.specs.declared.date_window.DateWindow.{DateWindow}
use Rattle.crs_stn.specs.Cycle.{lesser}
use Rattle.crs_stn.specs.DateWindow.{after, greater_of, before}
use Rattle.crs_instance.specs.Instances.{window_at}

-- what the date d of e makes of the windows
pub record IsNarrowed (n : ℕ) (most : ℕ → ℕ → Option ℤ) (e : ℕ) (d : ℤ) (old new : List DateWindow) : Type 0 where
  pub len : length new ≡ n
  pub most_at : (r : ℕ) → r < n → (window_at new r).most ≡ lesser (window_at old r).most (after (Some d) (most e r))
  pub least_at : (r : ℕ) → r < n → (window_at new r).least ≡ greater_of (window_at old r).least (before (Some d) (most r e))

-- these are they
abbrev pub narrowed_windows : ℕ → (ℕ → ℕ → Option ℤ) → ℕ → ℤ → List DateWindow → List DateWindow
narrowed_windows n most e d old =
    map (λ r. record { least = greater_of (window_at old r).least (before (Some d) (most r e)); most = lesser (window_at old r).most (after (Some d) (most e r)) }) (range_with_len 0 n)

-- the greatest date that a window and a bound from the date d leave
abbrev pub most_with : DateWindow → Option ℤ → ℕ → Option ℤ
most_with w bound d = lesser w.most (after (Some (pos d)) bound)

-- the date, if there is one, is h or after
abbrev pub IsFrom : Option ℤ → ℕ → Type 0
IsFrom o h = IfSome o (λ v. pos h ≤ℤ v)
