-- Layers that a clock isn't back for haven't ended.
use Rattle.std.proofs.Common.{◌≡◌, ℕ, ◌<◌, ◌≤◌, ◌^◌, Bool, true, false, refl, arith}
use Rattle.crs_layers.specs.LayerStates.{LayersState}
use Rattle.crs_layers.specs.Standing.{AreLayers}

pub open_at : (x : LayersState) → AreLayers x → x.stopped ≡ false → (t : ℕ) → t < 2 ^ 40 → x.last ≤ t → x.ended ≡ false
open_at x inv running t date late = by x.ended refl
  where
    by : (b : Bool) → x.ended ≡ b → b ≡ false
    by true e = absurd (let l = ((inv.standing running).closed e).1 in omega (arith, l, date, late))
    by false e = refl
