-- The count of a chronicle's points.
use Rattle.std.proofs.Common.{◌≡◌, ℕ, ◌+◌, ◌≤◌, List, map, length, sym, ap, subst, ◌∙◌, length-append}
use Rattle.std.proofs.lemmas.List.{length-map}
use Rattle.crs_parse.specs.Faults.{Written}
use Rattle.crs_parse.specs.Meant.{points_of}

pub points_count : (c : Written) → length (points_of c) ≡ length c.events + length c.free
points_count c = length-append (map (λ e. e.point) c.events) c.free ∙ ap (λ n. n + length c.free) (length-map c.events (λ e. e.point))

pub points_few : {X : Type 0} (f : X → List ℕ) (xs ys : List X) (c : Written) → ys ≡ xs → map f xs ≡ points_of c → length c.events + length c.free ≤ 24 → length ys ≤ 24
points_few f xs ys c same is few = subst (λ n. n ≤ 24) (sym (ap length same ∙ sym (length-map xs f) ∙ ap length is ∙ points_count c)) few
