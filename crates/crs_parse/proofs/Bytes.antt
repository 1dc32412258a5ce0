-- The bytes of a line that isn't long.
use Rattle.std.proofs.Common.{◌≡◌, ℕ, ◌≤◌, Bool, true, false, cond, List, length, take, length-take, le_refl, ◌-◌, ◌==◌, arith}
use Rattle.std.specs.Prelude.{slice_index}
use Rattle.std.specs.Str.Lines.{strip_carriage_return}
use Rattle.std.proofs.lemmas.Bool.{ltb-false}
use Rattle.crs_base.specs.Lines.{Line, bytes_of, is_long}

shorter : (b : Bool) (n : ℕ) (bs : List ℕ) → length (cond b (take n bs) bs) ≤ length bs
shorter true n bs = omega (arith, length-take n bs)
shorter false n bs = le_refl (length bs)

stripped : (bs : List ℕ) → length (strip_carriage_return bs) ≤ length bs
stripped bs = shorter (slice_index bs (length bs - 1) == 13) (length bs - 1) bs

by_end : (b : Bool) (bs : List ℕ) → length bs ≤ 4096 → length (cond b (strip_carriage_return bs) bs) ≤ 4096
by_end true bs h = let k = stripped bs in omega (arith, k)
by_end false bs h = h

pub bytes_short : (l : Line) → is_long l ≡ false → length (bytes_of l) ≤ 4096
bytes_short l h = by_end l.ended l.raw (ltb-false 4096 (length l.raw) h)
