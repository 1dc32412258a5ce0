use Rattle.std.proofs.Common.{sym, ◌∙◌, arith}
use Rattle.crs_index.proofs.Places.{written_others, key_other}
use Rattle.crs_index.proofs.numbers.take_place.Goals as goal

pub returns-then-can_take-clause-others : goal.returns-then-can_take-clause-others
returns-then-can_take-clause-others c = λ k other.
    written_others c.args.places.now.items c.place_of.result c.index_mut-place.result.now (record { key = c.args.key; content = c.args.content }) c.args.key k (let a = c.place_of.ensures.below in let b = c.requires in omega arith) c.index_mut-place.ensures.value (sym c.can_take.ensures ∙ c.if-can_take.true) (key_other c.args.key k c.args.content other) other
