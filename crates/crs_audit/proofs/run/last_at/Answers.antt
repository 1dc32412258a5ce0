use Rattle.std.proofs.Common.{rules, of_calls, ◌≡◌, nat_le, sym, arith}
use Rattle.std.proofs.lemmas.Bool.{leb-false}
use Rattle.std.proofs.lemmas.Fn.{always_returns_same}
use Rattle.crs_audit.specs.declared.run.Stand.{Stand}
use Rattle.crs_audit.proofs.Lasting.{none_is, found_there, found_none, up_places}
use Rattle.crs_audit.proofs.run.last_at.Goals as goal

pub returns-then-behind-eq0 : goal.returns-then-behind-eq0
returns-then-behind-eq0 c =
    let ss = c.args.marks.now in
    let n = c.args.number in
    let point = c.partition_point-behind.ensures.partitioned (λ m. nat_le m.number n) (always_returns_same _ _ _ (λ a r f k. search (rules, of_calls)))
    (up_places ss n c.requires) in
    let zero : c.partition_point-behind.result ≡ 0 = c.if-behind-eq0.true in
    sym (none_is ss n (λ k d l. leb-false _ n (point.1 k d (omega (arith, zero)) l)))

abbrev none : Stand
none = record { number = 0; horizon = 0; accepted = 0 }

pub returns-then-last-number : goal.returns-then-last-number
returns-then-last-number c =
    let ss = c.args.marks.now in
    let n = c.args.number in
    let point = c.partition_point-behind.ensures.partitioned (λ m. nat_le m.number n) (always_returns_same _ _ _ (λ a r f k. search (rules, of_calls)))
    (up_places ss n c.requires) in
    found_there ss n c.partition_point-behind.result none c.requires c.if-behind-eq0.false c.partition_point-behind.ensures.bound point.0 point.1 c.if-last-number.true

pub returns-else-last-number : goal.returns-else-last-number
returns-else-last-number c =
    let ss = c.args.marks.now in
    let n = c.args.number in
    let point = c.partition_point-behind.ensures.partitioned (λ m. nat_le m.number n) (always_returns_same _ _ _ (λ a r f k. search (rules, of_calls)))
    (up_places ss n c.requires) in
    found_none ss n c.partition_point-behind.result none c.requires c.if-behind-eq0.false c.partition_point-behind.ensures.bound point.0 point.1 c.if-last-number.false
