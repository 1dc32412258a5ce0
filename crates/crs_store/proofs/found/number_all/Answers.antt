use Rattle.std.proofs.Common.{rules, ◌≡◌, ℕ, ◌+◌, ◌<◌, ◌++◌, List, length, map, take, drop, get_or, ap, ◌∙◌, arith}
use Rattle.std.proofs.lemmas.List.{get_or_default}
use Rattle.std.proofs.Math.ListN.{set}
use Rattle.std.proofs.lemmas.List.Edits.{map_over_more}
use Rattle.crs_model.specs.declared.recognition.Mark.{Mark}
use Rattle.crs_model.specs.declared.recognition.Recognition.{Recognition}
use Rattle.crs_store.specs.Found.{numbered}
use Rattle.crs_store.proofs.found.number_all.Goals as goal

numbered_more : (n : ℕ) (m : Mark) (xs ys : List Recognition) (i : ℕ) (d one : Recognition) → i < length xs → length ys ≡ length xs → ys ≡ map (numbered n m) (take i xs) ++ drop i xs → one ≡ numbered n m (get_or ys i d) → set ys i one ≡ map (numbered n m) (take (i + 1) xs) ++ drop (i + 1) xs
numbered_more n m xs ys i d one lt len sofar e =
    ap (λ (r : Recognition). set ys i r) e
    ∙ map_over_more (numbered n m) xs ys i (get_or ys i d) lt sofar (get_or_default ys i d (get_or ys i d) (omega (arith, lt, len)))

pub loop-one-preserved : goal.loop-one-preserved
loop-one-preserved c =
    numbered_more c.args.chronicle c.args.mark c.args.found.now c.loop-one.found c.loop-one.one-index c.one-item.result c.number.new.one (omega arith) (omega arith) c.loop-one.invariant (search rules)
