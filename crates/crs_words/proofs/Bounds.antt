-- The numbers of a drill are within their bounds, and so is how many logs are read at once.
use Rattle.std.proofs.Common.{◌≡◌, refl, subst, ℕ, ◌≤◌, Bool, true, false, List, [], ◌∷◌, Option, Some, None, leb-true, nat_le, cond}
use Rattle.std.specs.Prelude.{codes, length, ◌&&◌}
use Rattle.std.specs.Option.{option_and_then}
use Rattle.std.specs.Str.{bytes_eq}
use Rattle.clap.specs.Words.{Row, first_of, all_of}
use Rattle.crs_base.specs.Numbers.{number_of}
use Rattle.crs_words.specs.declared.command.Listing.{Listing}
use Rattle.crs_words.specs.declared.command.Tally.{Tally}
use Rattle.crs_words.specs.Kinds.{tally_of}
use Rattle.crs_words.specs.Apps.{run_app, model_app, drill_app, import_app, audit_app, feeds_app}
use Rattle.crs_words.specs.Commands.{Command, Run, Print, Drill, Import, Audit, Feeds, in_bounds, number_within, rows_in, is_given, listing_of}
use Rattle.crs_words.specs.Commands.{run_of, run_in, print_of, model_in, drill_of, drill_in, import_of, import_in, audit_of, audit_in, feeds_of, feeds_in, command_of}

-- a seed and a number of lines with which a log is made
pub record IsDrill (seed lines : ℕ) : Type 0 where
  pub least : 1 ≤ seed
  pub most : seed ≤ 2147483646
  pub few : lines ≤ 1000000

abbrev AreWithin : ℕ → ℕ → ℕ → Type 0
AreWithin low high n = (low ≤ n) × (n ≤ high)

bounded : (low high n k : ℕ) (a b : Bool) → nat_le low n ≡ a → nat_le n high ≡ b → cond (a && b) (Some n) None ≡ Some k → AreWithin low high k
bounded low high n k true true p q e =
    let same : n ≡ k = cc in
    subst (AreWithin low high) same (leb-true low n p, leb-true n high q)
bounded low high n k true false p q e = absurd (cc)
bounded low high n k false b p q e = absurd (cc)

number_bounded : (low high k : ℕ) (o : Option ℕ) → option_and_then (in_bounds low high) o ≡ Some k → AreWithin low high k
number_bounded low high k None e = absurd (cc)
number_bounded low high k (Some n) e = bounded low high n k (nat_le low n) (nat_le n high) refl refl e

word_bounded : (low high k : ℕ) (o : Option (List ℕ)) → option_and_then (number_within low high) o ≡ Some k → AreWithin low high k
word_bounded low high k None e = absurd (cc)
word_bounded low high k (Some w) e = number_bounded low high k (number_of w) e

-- a drill's numbers are within their bounds, and there are one to eight logs
abbrev IsFine : Option Command → Type 0
IsFine None = Unit {0}
IsFine (Some (Run focus summary cite tally models log)) = Unit {0}
IsFine (Some (Print listing models)) = Unit {0}
IsFine (Some (Drill focus seed lines)) = IsDrill seed lines
IsFine (Some (Import table)) = Unit {0}
IsFine (Some (Audit models log output)) = Unit {0}
IsFine (Some (Feeds focus models logs)) = AreWithin 1 8 (length logs)

run_fine : (focus summary cite : Bool) (tally : Option Tally) (o p : Option (List ℕ)) → IsFine (run_of focus summary cite tally o p)
run_fine focus summary cite (Some t) (Some m) (Some l) = tt
run_fine focus summary cite (Some t) (Some m) None = tt
run_fine focus summary cite (Some t) None p = tt
run_fine focus summary cite None o p = tt

print_fine : (listing : Listing) (o : Option (List ℕ)) → IsFine (print_of listing o)
print_fine listing (Some m) = tt
print_fine listing None = tt

drill_fine : (focus : Bool) (o p : Option ℕ) → ((k : ℕ) → o ≡ Some k → AreWithin 1 2147483646 k)
    → ((k : ℕ) → p ≡ Some k → AreWithin 0 1000000 k)
    → IsFine (drill_of focus o p)
drill_fine focus (Some seed) (Some lines) h k =
    let a = h seed refl in
    record { least = a.0; most = a.1; few = (k lines refl).1 }
drill_fine focus (Some seed) None h k = tt
drill_fine focus None p h k = tt

import_fine : (o : Option (List ℕ)) → IsFine (import_of o)
import_fine (Some t) = tt
import_fine None = tt

audit_fine : (o p q : Option (List ℕ)) → IsFine (audit_of o p q)
audit_fine (Some m) (Some l) (Some r) = tt
audit_fine (Some m) (Some l) None = tt
audit_fine (Some m) None q = tt
audit_fine None p q = tt

counted_fine : (a b : Bool) (focus : Bool) (models : List ℕ) (logs : List (List ℕ)) → nat_le 1 (length logs) ≡ a → nat_le (length logs) 8 ≡ b
    → IsFine (cond (a && b) (Some (Feeds focus models logs)) None)
counted_fine true true focus models logs p q = (leb-true 1 (length logs) p, leb-true (length logs) 8 q)
counted_fine true false focus models logs p q = tt
counted_fine false b focus models logs p q = tt

feeds_fine : (focus : Bool) (o : Option (List ℕ)) (p : Option (List (List ℕ))) → IsFine (feeds_of focus o p)
feeds_fine focus (Some models) (Some logs) = counted_fine (nat_le 1 (length logs)) (nat_le (length logs) 8) focus models logs refl refl
feeds_fine focus (Some models) None = tt
feeds_fine focus None p = tt

read_fine : (f : List Row → Option Command) (o : Option (List Row)) → ((rows : List Row) → IsFine (f rows)) → IsFine (option_and_then f o)
read_fine f None h = tt
read_fine f (Some rows) h = h rows

either_fine : (b : Bool) (x y : Option Command) → IsFine x → IsFine y → IsFine (cond b x y)
either_fine true x y h k = h
either_fine false x y h k = k

command_fine : (words : List (List ℕ)) → IsFine (command_of words)
command_fine [] = tt
command_fine (name ∷ rest) =
    either_fine (bytes_eq name (codes "run")) _ _
    (read_fine run_in (rows_in run_app (name ∷ rest))
    (λ rows. run_fine (is_given (codes "focus") rows) (is_given (codes "summary") rows) (is_given (codes "cite") rows) (tally_of (first_of (codes "tally") rows))
    (first_of (codes "models") rows) (first_of (codes "log") rows)))
    (either_fine (bytes_eq name (codes "model")) _ _
    (read_fine model_in (rows_in model_app (name ∷ rest))
    (λ rows. print_fine (listing_of (is_given (codes "minimal") rows)) (first_of (codes "models") rows)))
    (either_fine (bytes_eq name (codes "drill")) _ _
    (read_fine drill_in (rows_in drill_app (name ∷ rest))
    (λ rows. drill_fine (is_given (codes "focus") rows) _ _ (λ k e. word_bounded 1 2147483646 k (first_of (codes "seed") rows) e)
    (λ k e. word_bounded 0 1000000 k (first_of (codes "lines") rows) e)))
    (either_fine (bytes_eq name (codes "import")) _ _
    (read_fine import_in (rows_in import_app (name ∷ rest)) (λ rows. import_fine (first_of (codes "table") rows)))
    (either_fine (bytes_eq name (codes "audit")) _ _
    (read_fine audit_in (rows_in audit_app (name ∷ rest))
    (λ rows. audit_fine (first_of (codes "models") rows) (first_of (codes "log") rows) (first_of (codes "output") rows)))
    (either_fine (bytes_eq name (codes "feeds")) _ _
    (read_fine feeds_in (rows_in feeds_app (name ∷ rest))
    (λ rows. feeds_fine (is_given (codes "focus") rows) (first_of (codes "models") rows) (all_of (codes "log") rows)))
    tt)))))

pub drill_bounds : (words : List (List ℕ)) (focus : Bool) (seed lines : ℕ) → command_of words ≡ Some (Drill focus seed lines)
    → IsDrill seed lines
drill_bounds words focus seed lines e = subst IsFine e (command_fine words)

pub logs_bounds : (words : List (List ℕ)) (focus : Bool) (models : List ℕ) (logs : List (List ℕ)) → command_of words ≡ Some (Feeds focus models logs)
    → (1 ≤ length logs) × (length logs ≤ 8)
logs_bounds words focus models logs e = subst IsFine e (command_fine words)
