use Rattle.std.proofs.Common.{rules, ◌∙◌, ◌≡◌, length, sym, ap}
use Rattle.std.specs.List.{insert}
use Rattle.std.proofs.lemmas.List.Edits.{insert_end}
use Rattle.crs_buffer.proofs.queue.insert_at.Goals as goal

-- to insert behind all is to push
pub returns-then-place-len-clause-ok : goal.returns-then-place-len-clause-ok
returns-then-place-len-clause-ok c =
    let xs = c.args.queue.now.items in
    let end : c.args.place ≡ length xs = c.if-place-len.true ∙ c.len.ensures ∙ (search rules) in
    c.in-Ok.ensures.items ∙ sym (ap (λ n. insert xs n c.args.held) end ∙ insert_end xs c.args.held)
