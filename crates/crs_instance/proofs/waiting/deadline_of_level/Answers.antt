use Rattle.std.proofs.Common.{rules, ap, true, ◌∙◌, map}
use Rattle.std.specs.Prelude.{pos, slice_index_or, ◌==◌}
use Rattle.std.proofs.lemmas.Int.{to_z-of_z}
use mir.Val.{SFits, to_z, of_z}
use mir.Syntax.{w64}
use Rattle.crs_model.specs.Levels.{level_in}
use Rattle.crs_model.specs.SeenModels.{event_of}
use Rattle.crs_model.specs.Bits.{is_set}
use Rattle.crs_model.specs.declared.date_window.DateWindow.{DateWindow}
use Rattle.crs_instance.specs.declared.span.Span.{Span}
use Rattle.crs_instance.specs.Deadlines.{end_if}
use Rattle.crs_instance.specs.Instances.{window_at}
use Rattle.crs_instance.specs.Spans.{window_of, windows_of}
use Rattle.crs_instance.proofs.SpanSays.{window_in, more_ends}
use Rattle.crs_instance.proofs.waiting.deadline_of_level.Goals as goal

pub loop-e-preserved : goal.loop-e-preserved
loop-e-preserved c =
    let fits : SFits w64 c.earlier-earliest.result = search rules in
    let e = c.loop-e.e in
    let set = is_set c.args.bound e in
    let z : Span = record { least = pos 0; most = pos 0 } in
    let w : DateWindow = window_of (slice_index_or c.args.spans.now e z) in
    let latest = c.latest_date-latest.result in
    let s = more_ends c.earlier-earliest.result latest (to_z w64 (of_z w64 latest)) (to_z w64 c.loop-e.earliest-bits) (λ e. end_if (level_in (map event_of c.args.events.now) true e == c.args.level) (is_set c.args.bound e) (window_at (windows_of c.args.spans.now) e)) e (search rules) c.earlier-earliest.ensures
    (c.latest_date-latest.ensures ∙ ap (λ b. end_if (c.level_at.result == c.args.level) b w) c.is_set_at.ensures ∙ ap (λ l. end_if (l == c.args.level) set w) c.level_at.ensures ∙ ap (end_if (level_in (map event_of c.args.events.now) true e == c.args.level) set) (window_in c.args.spans.now e z (search rules)))
    c.loop-e.invariant in
    simp to_z-of_z s
