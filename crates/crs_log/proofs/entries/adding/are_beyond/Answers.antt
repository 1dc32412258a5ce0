use Rattle.std.proofs.Common.{◌≡◌, ◌≤◌, length, map, arith}
use Rattle.std.proofs.lemmas.List.{length-map}
use Rattle.crs_log.specs.SeenItems.{text_of}
use Rattle.crs_log.specs.Known.{new_texts}
use Rattle.crs_log.proofs.Added.{new_at_most}
use Rattle.crs_log.proofs.entries.adding.are_beyond.Goals as goal

pub returns-then-spans-most-clause-no : goal.returns-then-spans-most-clause-no
returns-then-spans-most-clause-no c =
    let ts = map (text_of c.args.line.now) c.args.spans.now in
    let few : length (new_texts c.args.symbols.now.texts ts) ≤ length ts = new_at_most c.args.symbols.now.texts ts in
    let size : length ts ≡ length c.args.spans.now = length-map c.args.spans.now (text_of c.args.line.now) in
    λ _. omega (arith, few, size, c.if-spans-most.true)
