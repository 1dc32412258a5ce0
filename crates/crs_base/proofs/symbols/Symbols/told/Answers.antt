use Rattle.std.proofs.Common.{◌≡◌, position, bytes_eq, map, Some, subst}
use Rattle.crs_base.proofs.Tags.{place_of_found, known_of_found}
use Rattle.crs_base.proofs.symbols.Symbols.told.Goals as goal

found : (c : goal.In-Some) → position (bytes_eq c.args.text.now) c.args.self.now.texts ≡ Some c.in-Some.number
found c = subst (λ t. position (bytes_eq c.args.text.now) t.texts ≡ Some c.in-Some.number) c.self.view_is (c.in-Some.ensures (map (λ t. t.bytes.items) c.self.inside.set.keys) c.self.invariant.2)

pub returns-in-Some-clause-number : goal.returns-in-Some-clause-number
returns-in-Some-clause-number c = found c

pub returns-in-Some-clause-place : goal.returns-in-Some-clause-place
returns-in-Some-clause-place c = place_of_found (bytes_eq c.args.text.now) c.args.self.now.texts c.in-Some.number (found c)

pub returns-in-Some-clause-known : goal.returns-in-Some-clause-known
returns-in-Some-clause-known c = known_of_found (bytes_eq c.args.text.now) c.args.self.now.texts c.in-Some.number (found c)
