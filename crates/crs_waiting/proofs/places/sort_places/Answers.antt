use Rattle.std.proofs.Common.{rules, ◌<◌, ℕ, List, [], ◌∷◌, length, arith}
use Rattle.std.specs.List.Sorted.{IsStrictlySortedBy}
use Rattle.std.specs.Ordering.{nat_cmp}
use Rattle.std.proofs.lemmas.Bool.Decides.{nat_tests}
use Rattle.std.proofs.lemmas.Cmp.{nat_cmp_total}
use Rattle.std.proofs.lemmas.List.Filters.{dedup_is}
use Rattle.std.proofs.lemmas.List.Kept.{Contains-dedup_nat, IsStrictlySortedBy-dedup}
use Rattle.std.proofs.lemmas.List.Sorted.{Contains-permutation}
use Rattle.crs_waiting.proofs.Moved.{contains_in, in_contains}
use Rattle.crs_waiting.proofs.places.sort_places.Goals as goal

lone : (ps : List ℕ) → length ps < 2 → IsStrictlySortedBy nat_cmp ps
unfolding IsStrictlySortedBy
lone [] few = tt
lone (p ∷ []) few = (tt, tt)
lone (p ∷ q ∷ ps) few = absurd (omega arith)

pub returns-then-len-lt2-clause-ordered : goal.returns-then-len-lt2-clause-ordered
returns-then-len-lt2-clause-ordered c = lone c.args.places.now.items (search rules)

pub returns-clause-kept : goal.returns-clause-kept
returns-clause-kept c = λ p i. rw (dedup_is _ _ _ c.dedup.ensures.filtered) (contains_in _ p (Contains-dedup_nat _ p (Contains-permutation _ _ p c.sort_unstable.ensures.permutation (in_contains _ p i))))

pub returns-clause-ordered : goal.returns-clause-ordered
returns-clause-ordered c = rw (dedup_is _ _ _ c.dedup.ensures.filtered) (IsStrictlySortedBy-dedup nat_cmp_total (λ x y. grind (arith, nat_tests)) _ c.sort_unstable.ensures.sorted)
