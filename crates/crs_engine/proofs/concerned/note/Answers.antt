use Rattle.std.proofs.Common.{ℕ, ◌≡◌, get_or, ap, ◌∙◌}
use Rattle.std.proofs.lemmas.Grind.{get_or_default_zero}
use Rattle.std.specs.Int.Bits.{bit_or}
use Rattle.crs_engine.proofs.Noted.{noted_keeps, noted_set}
use Rattle.crs_engine.proofs.concerned.note.Goals as goal

row : (c : goal.After-looking-1) → c.index_mut.result.now ≡ get_or c.make_room.new.looking.items c.args.name.0 0
row c = c.index_mut.ensures.value ∙ get_or_default_zero c.make_room.new.looking.items c.args.name.0 c.index_mut.result.now ((c.in_ok-make_room.ensures {u = tt}).room)

pub returns-clause-kept : goal.returns-clause-kept
returns-clause-kept c =
    noted_keeps c.args.looking.now.items c.make_room.new.looking.items c.args.name.0 (bit_or c.index_mut.result.now c.bit.result) c.bit.result c.make_room.ensures.same (ap (λ (a : ℕ). bit_or a c.bit.result) (row c))

pub returns-clause-set : goal.returns-clause-set
returns-clause-set c =
    noted_set c.make_room.new.looking.items c.args.name.0 (bit_or c.index_mut.result.now c.bit.result) c.args.place ((c.in_ok-make_room.ensures {u = tt}).room)
    (ap (λ (a : ℕ). bit_or a c.bit.result) (row c) ∙ ap (λ (b : ℕ). bit_or (get_or c.make_room.new.looking.items c.args.name.0 0) b) c.bit.ensures)
