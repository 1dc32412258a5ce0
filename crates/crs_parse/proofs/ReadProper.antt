-- The models of an accepted text are proper.
use Rattle.std.proofs.Common.{◌≡◌, ℕ, Bool, true, false, cond, nat_lt, List, length, Result, Ok, Err, refl, ap, subst}
use Rattle.crs_base.specs.Lines.{lines_of}
use Rattle.crs_model.specs.Models.{Models}
use Rattle.crs_model.specs.ProperModels.{AreProper}
use Rattle.crs_model.specs.declared.models.ModelWord.TheVariants.{Size as SizeWord}
use Rattle.crs_parse.specs.Faults.{Reading, Fault, after_lines, nothing_read, reading_of}
use Rattle.crs_parse.specs.Meant.{models_in, read_of, models_read}
use Rattle.crs_parse.proofs.Apart.{read_apart}
use Rattle.crs_parse.proofs.HeldReading.{lines_read}
use Rattle.crs_parse.proofs.Properly.{reading_proper}
use Rattle.crs_parse.proofs.SoundReading.{read_sound}

abbrev first_of : Models (List ℕ) → Result (Models (List ℕ) × List (List ℕ)) Fault → Models (List ℕ)
first_of m (Ok p) = p.0
first_of m (Err f) = m

by_reading : (o : Result Reading Fault) (m : Models (List ℕ)) (texts : List (List ℕ)) → read_of o ≡ Ok (m, texts) → (r : Reading) × (o ≡ Ok r) × (models_in r ≡ m)
by_reading (Err f) m texts h = cc
by_reading (Ok r) m texts h = (r, refl, ap (first_of m) h)

sized : (b : Bool) (x : Result Reading Fault) (r : Reading) → cond b (Err (0, SizeWord)) x ≡ Ok r → x ≡ Ok r
sized true x r h = cc
sized false x r h = h

pub read_proper : (limit : ℕ) (was : List (List ℕ)) (text : List ℕ) (m : Models (List ℕ)) (texts : List (List ℕ)) → models_read limit was text ≡ Ok (m, texts) → AreProper m
read_proper limit was text m texts accepted =
    let b = by_reading (reading_of was limit text) m texts accepted in
    let r : Reading = b.0 in
    let e = sized (nat_lt 1048576 (length text)) (after_lines limit 1 (nothing_read was) (lines_of text)) r b.1 in
    subst AreProper b.2 (reading_proper r.texts r (lines_read limit 1 was r (lines_of text) e) (read_sound limit 1 was r (lines_of text) e) (read_apart limit 1 was r (lines_of text) e))
