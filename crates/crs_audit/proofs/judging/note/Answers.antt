use Rattle.std.proofs.Common.{rules, ◌≡◌, ◌∷◌}
use Rattle.std.specs.Prelude.{vec_items}
use Rattle.crs_audit.proofs.Noting.{noted}
use Rattle.crs_audit.proofs.judging.note.Goals as goal

pub returns : goal.returns
returns c =
    let key : c.extend_from_slice.new.self.items ≡ c.args.name.0 ∷ c.args.numbers.now = search rules in
    noted vec_items c.extend_from_slice.new.self c.args.noted.now.keys c.insert.new.self.keys (c.args.name.0 ∷ c.args.numbers.now) c.in_ok-insert.field-0 key c.in_ok-insert.ensures.keys c.in_ok-insert.ensures.added
