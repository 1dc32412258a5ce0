-- What is recognised of entries is recognised of entries that say the same under other arrival numbers.
use Rattle.std.proofs.Common.{ℕ, List, refl}
use Rattle.std.specs.List.{AllZip}
use Rattle.crs_base.specs.Entry.{Entry}
use Rattle.crs_model.specs.Models.{Chronicle}
use Rattle.crs_model.specs.Matching.{Assignment}
use Rattle.crs_model.specs.Open.{IsRecognised}
use Rattle.crs_model.proofs.Twins.{Twins, flip, turned, zip_turned, row_of, recognised_on}
use Rattle.crs_model.proofs.PairedLists.{Paired, paired_turned, GoAlong}

module _ {S : Type 0} (c : Chronicle S) (h : ℕ) where
  -- of a chronicle whose assignments take the settled entries
  abbrev Of : List (Entry S) → Assignment S → Type 0
  Of entries a = IsRecognised c entries entries h a

  on : (T : Entry S → Entry S → Type 0) → Twins T → (now other : List (Entry S)) → AllZip T now other → (a b : Assignment S) → Paired T a b → Of now a → Of other b
  on T t now other z a b p r = recognised_on T t now other z now other z c h a b p.entries p.values r

  pair_of : (T : Entry S → Entry S → Type 0) → Twins T → (now other : List (Entry S)) → AllZip T now other → (a : Assignment S) → Of now a → (b : Assignment S) × Paired T a b
  pair_of T t now other z a r =
      let row = row_of T t now other a.entries z r.assignment.given in
      (record { entries = row.0; values = a.values }, record { entries = row.1; values = refl })

  pub recognised_along : (T : Entry S → Entry S → Type 0) → Twins T → (now other : List (Entry S)) → AllZip T now other → GoAlong T (Of now) (Of other)
  recognised_along T t now other z = record {
    on = on T t now other z;
    other = pair_of T t now other z;
    back = λ b r.
        let s = turned T t in
        let y = zip_turned T now other z in
        let a = pair_of (flip T) s other now y b r in
        (a.0, on (flip T) s other now y b a.0 a.1 r, paired_turned (flip T) b a.0 a.1);
  }
