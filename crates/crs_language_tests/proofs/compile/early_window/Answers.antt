use Rattle.std.proofs.Common.{ap, inr, arith}
use Rattle.std.proofs.lemmas.Int.{ints}
use Rattle.crs_base.specs.declared.symbols.Sym.{Sym}
use Rattle.crs_compile.proofs.Plain.{AreTwo, plain_declared, plain_below}
use Rattle.crs_language_tests.proofs.compile.early_window.Goals as goal

pub returns-clause-proper : goal.returns-clause-proper
returns-clause-proper c =
    let p = c.pattern.ensures in
    let two : AreTwo c.args.names.now = record { symbols = c.requires.symbols; plain = c.requires.plain } in
    rw (c.in_ok-push.ensures.ok, c.new-windows.ensures) (
      (
        (plain_declared c.args.names.now c.pattern.result two (inr (ap (λ (s : Sym). s.0) p.name)) p.terms p.change, plain_below 0 c.pattern.result p.terms p.change),
        record { event = omega arith; not_large = omega (arith, ints); not_small = omega (arith, ints) },
        record { event = omega arith; not_large = omega (arith, ints); not_small = omega (arith, ints) },
      ),
      tt,
    )
