use Rattle.std.proofs.Common.{◌≡◌}
use Rattle.std.specs.Prelude.{replicate}
use Rattle.crs_instance.specs.Spans.{no_span}
use Rattle.crs_instance.proofs.instance.no_spans.Given as goal

abbrev pub invariant-loop-i : goal.invariant-loop-i
invariant-loop-i l = l.spans.items ≡ replicate l._i no_span
