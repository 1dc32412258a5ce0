use Rattle.std.proofs.Common.{◌≡◌, ◌++◌, ℕ, List, [], ◌∷◌, map}
use Rattle.std.proofs.lemmas.Result.{IfOk-weaker}
use Rattle.crs_base.specs.Seen.{entry_of}
use Rattle.crs_model.specs.Renaming.{text_in, renamed_entry}
use Rattle.crs_model.specs.SeenModels.{chronicle_of}
use Rattle.crs_report.specs.OutputLines.{cites_text}
use Rattle.crs_report.specs.Printed.{line_seen}
use Rattle.crs_report.proofs.Lists.{written_line}
use Rattle.crs_report.proofs.recognitions.push_line.Goals as goal

pub returns : goal.returns
returns c =
    let texts = c.args.symbols.now.texts in
    let cites : List ℕ = cites_text c.args.cite (map (renamed_entry (text_in texts)) (map (λ e. entry_of e.value) c.args.r.now.entries)) in
    let points = rw (c.as_slice.ensures, c.as_slice-2.ensures) at c.in_ok-push_points.ensures in
    let values = rw (c.as_slice-3.ensures) at c.in_ok-push_values.ensures in
    IfOk-weaker c.push_end.result _
    (λ _. c.push_end.new.out.items ≡ c.args.out.now.items ++ line_seen c.args.cite texts c.args.r.now (chronicle_of c.args.chronicle.now))
    (λ _ h. written_line c.args.out.now.items _ _ _ _ _ _ _ _ _ cites (10 ∷ []) c.in_ok-push_head.ensures points values h)
    (rw (c.as_slice-4.ensures) at c.push_end.ensures)
