use Rattle.std.proofs.Common.{◌<◌, [], ◌∷◌, map, length, ap, sym, ◌∙◌, arith}
use Rattle.std.proofs.lemmas.List.{length-map}
use Rattle.crs_model.specs.SeenModels.{event_of}
use Rattle.crs_line_tests.proofs.Known.{known_by, through}
use Rattle.crs_line_tests.proofs.reports.undervolt_line.Goals as goal

pub told_line-requires : goal.told_line-requires
told_line-requires c = rw c.in_ok-plans.ensures (record {
  name = omega (arith, c.in_ok-chronicle.ensures.name, c.requires);
  points = through (λ s. s.0 < length c.args.symbols.now.texts) (λ v. v.point) (map event_of c.in_ok-chronicle.chronicle.events)
      (through (λ v. v.point.0 < length c.args.symbols.now.texts) event_of c.in_ok-chronicle.chronicle.events
      (known_by (λ v. v.point.0) (length c.args.symbols.now.texts) c.in_ok-chronicle.chronicle.events (2 ∷ 3 ∷ []) c.in_ok-chronicle.ensures.points (omega (arith, c.requires), (omega (arith, c.requires), tt))));
  variables = known_by (λ s. s.0) (length c.args.symbols.now.texts) c.in_ok-chronicle.chronicle.variables (4 ∷ 5 ∷ []) c.in_ok-chronicle.ensures.variables (omega (arith, c.requires), (omega (arith, c.requires), tt));
  few = omega (arith, simp length-map at (ap length c.in_ok-chronicle.ensures.variables));
  entries = c.in_ok-entries.ensures ∙ sym (simp length-map (simp length-map at (ap length c.in_ok-chronicle.ensures.points)));
  each = c.in_ok-binding.ensures ∙ sym (simp length-map at (ap length c.in_ok-chronicle.ensures.variables));
  values = rw c.requires (c.are_bound.ensures c.if-not-are_bound.false);
})
