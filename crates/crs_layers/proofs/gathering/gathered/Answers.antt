use Rattle.std.proofs.Common.{rules, ◌≡◌, ◌∙◌, ◌++◌, List, sym, subst}
use Rattle.std.specs.Prelude.{IsPermutation}
use Rattle.std.specs.List.Sorted.{IsStableByKey}
use Rattle.std.specs.Ordering.{nat_cmp}
use Rattle.std.proofs.lemmas.List.Sorted.{IsNonDecreasingBy-from_sort_by_key, answers_always}
use Rattle.crs_model.specs.declared.recognition.Recognition.{Recognition}
use Rattle.crs_layers.specs.Gathering.{renumbered_all, GathersAll}
use Rattle.crs_layers.proofs.Gathered.{only_gathers, sorted_gathers}
use Rattle.crs_layers.proofs.gathering.gathered.Goals as goal

pub returns-then-layers-eq1 : goal.returns-then-layers-eq1
returns-then-layers-eq1 c = only_gathers c.args.layers.now c.args.answers.items c.last_of.result c.if-layers-eq1.true c.last_of.ensures

pub returns : goal.returns
returns c =
    let ls = c.args.layers.now in
    let as_ = c.args.answers.items in
    let ys : List Recognition = c.sort_by_key.new.self.items in
    let all : c.gather.new.all.items ≡ renumbered_all ls as_ = c.in_ok-gather.ensures {u = tt} ∙ (λ i. c.new-all.ensures.items i ++ renumbered_all ls (c.deref_mut.ensures.value i)) in
    let moved : IsPermutation (renumbered_all ls as_) ys = subst (λ (xs : List Recognition). IsPermutation xs ys) all c.sort_by_key.ensures.permutation in
    let up = IsNonDecreasingBy-from_sort_by_key (λ (r : Recognition). r.chronicle) ys (c.in_ok-sort_by_key.ensures {u = tt}).sorted (λ a r q k. search rules) in
    let stable : IsStableByKey (λ (r : Recognition). r.chronicle) nat_cmp (renumbered_all ls as_) ys =
    subst (λ (xs : List Recognition). IsStableByKey (λ (r : Recognition). r.chronicle) nat_cmp xs ys) all
    (c.sort_by_key.ensures.stable (λ (r : Recognition). r.chronicle) (answers_always _ (λ a r. r ≡ a.0.now.chronicle) _ (λ q a r q2 k. search rules))) in
    subst (GathersAll ls as_) (sym c.from_vec.ensures) (sorted_gathers ls as_ ys moved up stable)
