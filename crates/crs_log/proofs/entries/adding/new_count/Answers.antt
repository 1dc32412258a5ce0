use Rattle.std.proofs.Common.{◌≡◌, ◌≤◌, ◌+◌, ◌∙◌, ap, map, take, drop, length, arith, get_or}
use Rattle.crs_log.specs.declared.items.Span.{Span}
use Rattle.crs_log.specs.SeenItems.{text_of}
use Rattle.crs_log.specs.Known.{new_texts, one_if_new}
use Rattle.crs_log.proofs.Added.{count_next, at_most_one}
use Rattle.crs_log.proofs.entries.adding.new_count.Goals as goal
use Rattle.crs_base.specs.Symbols.{with_texts}

abbrev none : Span
none = record { start = 0; len = 0 }

pub loop-i-preserved : goal.loop-i-preserved
loop-i-preserved c =
    let l = c.loop-i in let K = c.args.symbols.now.texts in let f = text_of c.args.line.now in let xs = c.args.spans.now in
    let one : c.one_if_new-count.result ≡ one_if_new (with_texts K (map f (take l.i xs))) (f (get_or xs l.i none)) = c.one_if_new-count.ensures ∙ ap (λ ys. one_if_new (with_texts K (map f ys)) (f (get_or xs l.i none))) c.split_at.ensures.front in
    record {
      told = ap (λ k. l.count + k + length (new_texts (with_texts K (map f (take (l.i + 1) xs))) (map f (drop (l.i + 1) xs)))) one
          ∙ count_next f xs l.i none c.loop-i-test.true K l.count (length (new_texts K (map f xs))) l.invariant.told;
      bound = let b : one_if_new (with_texts K (map f (take l.i xs))) (f (get_or xs l.i none)) ≤ 1 = at_most_one (with_texts K (map f (take l.i xs))) (f (get_or xs l.i none)) in omega (arith, one, b, l.invariant.bound);
    }
