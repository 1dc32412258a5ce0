use Rattle.std.proofs.Common.{◌≡◌, ℕ, ◌+◌, ◌<◌, ◌++◌, List, length, take, drop, get_or, ap, ◌∙◌, arith}
use Rattle.std.specs.Prelude.{slice_index}
use Rattle.std.proofs.lemmas.List.{get_or_default}
use Rattle.std.proofs.Math.ListN.{set}
use Rattle.std.proofs.lemmas.List.Edits.{map_over_more}
use Rattle.crs_model.specs.declared.recognition.Recognition.{Recognition}
use Rattle.crs_layers.specs.Gathering.{renumbered}
use Rattle.crs_layers.proofs.gathering.renumber.Goals as goal

renumbered_more : (numbers : List ℕ) (xs ys : List Recognition) (i : ℕ) (d : Recognition) (n : ℕ) → i < length xs → length ys ≡ length xs → ys ≡ renumbered numbers (take i xs) ++ drop i xs
    → n ≡ slice_index numbers (get_or ys i d).chronicle → set ys i (record (get_or ys i d) { chronicle = n }) ≡ renumbered numbers (take (i + 1) xs) ++ drop (i + 1) xs
renumbered_more numbers xs ys i d n lt len sofar e =
    ap (λ (m : ℕ). set ys i (record (get_or ys i d) { chronicle = m })) e
    ∙ map_over_more (λ (r : Recognition). record r { chronicle = slice_index numbers r.chronicle }) xs ys i (get_or ys i d) lt sofar (get_or_default ys i d (get_or ys i d) (omega (arith, lt, len)))

pub loop-found-preserved : goal.loop-found-preserved
loop-found-preserved c =
    renumbered_more c.args.numbers.now c.args.answer.now c.loop-found.answer c.loop-found.found-index c.found-item.result c.number_among-found.result (omega arith) (omega arith) c.loop-found.invariant c.number_among-found.ensures
