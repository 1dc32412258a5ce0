use Rattle.std.proofs.Common.{◌≡◌, ◌∙◌, ◌++◌, ap, inl, List, ℕ}
use Rattle.crs_report.specs.Summaries.{summary_line}
use Rattle.crs_commands.proofs.drilling.write_summary.Goals as goal

pub returns-in-Ok-clause-told : goal.returns-in-Ok-clause-told
returns-in-Ok-clause-told g c = λ t.
    let line = summary_line c.args.summary.now in
    let text : c.as_slice.result.now ≡ line =
    c.as_slice.ensures.value ∙ c.in-Ok.ensures ∙ ap (λ (front : List ℕ). front ++ line) c.new-line.ensures.items in
    inl (rw (text, c.end_status.ensures) at (c.write_text.ensures.told t))
