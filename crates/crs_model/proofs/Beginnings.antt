-- What holds of the beginnings of an open partial assignment, so that a scan may drop what lacks it.
use Rattle.std.proofs.Common.{◌≡◌, ℕ, List, length, ◌∙◌}
use Rattle.crs_base.specs.Entry.{Entry}
use Rattle.crs_model.specs.Models.{Chronicle}
use Rattle.crs_model.specs.Partial.{Partial, at}
use Rattle.crs_model.specs.Open.{IsOpen}
use Rattle.crs_model.specs.Scans.{IsBeginning}
use Rattle.crs_model.proofs.Options.{of_some, some_if}
use Rattle.crs_model.proofs.Least.{Extends, restricted, restricted_looser, restricted_least, allowed_looser}
use Rattle.crs_model.proofs.Lost.{lost_up}
use Rattle.crs_model.proofs.Parts.{agrees_part, twice_part}

-- with less bound it stays a beginning
pub begins_less : {S : Type 0} (c : Chronicle S) (pool entries : List (Entry S)) (n : ℕ) (a b : Partial S) → Extends a b
    → length a ≡ length b → IsBeginning c pool entries n b → IsBeginning c pool entries n a
begins_less c pool entries n a b part same k =
    let p = k.partial in
    let small = restricted c a b k.look p.binding.equal part in
    let looser = restricted_looser c a b k.look p.binding.equal part in
    record {
      look = small;
      partial = record {
        len = same ∙ p.len;
        given = λ e. some_if (at a e) _ (λ x i. of_some (at b e) x _ (part e x i) (p.given e));
        distinct = twice_part a b part p.distinct;
        binding = restricted_least c a b k.look p.binding.equal part;
        allowed = allowed_looser c small k.look looser p.allowed;
      };
      bounds = ((k.bounds).0, agrees_part a b (k.bounds).0 part (k.bounds).1, (k.bounds).2);
      windows = λ w i l. k.windows w i (lost_up small k.look looser a b entries n w part l);
    }

-- what is open is a beginning
pub open_begins : {S : Type 0} (c : Chronicle S) (level : ℕ → ℕ) (pool entries : List (Entry S)) (n : ℕ) (b : Partial S)
    → IsOpen c level pool entries n b → IsBeginning c pool entries n b
open_begins c level pool entries n b k = record { look = k.look; partial = k.partial; bounds = ((k.dates).0, (k.dates).1, (k.dates).2); windows = k.windows }

module _ {S : Type 0} (c : Chronicle S) (level : ℕ → ℕ) (pool entries : List (Entry S)) (n : ℕ) (a b : Partial S) (part : Extends a b)
    (same : length a ≡ length b) (open_b : IsOpen c level pool entries n b) where
  -- it is a partial assignment whose bound events' dates can be continued, and no window is lost
  pub begins : IsBeginning c pool entries n a
  begins = begins_less c pool entries n a b part same (open_begins c level pool entries n b open_b)
