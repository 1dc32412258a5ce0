-- A recognised assignment stays recognised.
use Rattle.std.proofs.Common.{ℕ, ◌≤◌, List, ◌++◌}
use Rattle.std.specs.Prelude.{slice_get}
use Rattle.crs_base.specs.Words.{IsIn}
use Rattle.crs_base.proofs.Words.{each_from_in, in_from_each}
use Rattle.crs_base.specs.Entry.{Entry}
use Rattle.crs_model.specs.Models.{Chronicle}
use Rattle.crs_model.specs.Matching.{Assignment}
use Rattle.crs_model.specs.Open.{IsRecognised, whole}
use Rattle.crs_model.proofs.StaysMet.{met_grows}

pub stays : {S : Type 0} (c : Chronicle S) (pool wider entries more : List (Entry S)) (h g : ℕ) (a : Assignment S) → h ≤ g → ((e : Entry S) → IsIn e pool → IsIn e wider) → ((e : Entry S) → IsIn e more → h ≤ e.date) → IsRecognised c pool entries h a → IsRecognised c wider (entries ++ more) g a
stays c pool wider entries more h g a later inside late r = record {
  assignment = record {
    given = each_from_in (λ e. IsIn e wider) a.entries (λ e i. inside e (in_from_each (λ e. IsIn e pool) a.entries r.assignment.given e i));
    distinct = r.assignment.distinct;
    bound = r.assignment.bound;
    equal = r.assignment.equal;
    allowed = r.assignment.allowed;
  };
  bounds = r.bounds;
  windows = λ w i. met_grows entries more h g later late (slice_get a.values) (whole a) w (r.windows w i);
}
