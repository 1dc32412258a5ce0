use Rattle.std.proofs.Common.{◌≡◌, position, bytes_eq, map, Some, subst, sym}
use Rattle.crs_base.proofs.symbols.Symbols.note.Goals as goal

pub invariant_of-self : goal.invariant_of-self
invariant_of-self c = (
  c.self.invariant.0,
  c.self.invariant.1,
  c.note.ensures (map (λ t. t.bytes.items) c.self.inside.set.keys) c.self.invariant.2 (subst (λ t. position (bytes_eq c.args.text.now) t.texts ≡ Some c.args.s.0) (sym c.self.view_is) c.requires),
)
