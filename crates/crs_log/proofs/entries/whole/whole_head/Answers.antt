use Rattle.std.proofs.Common.{◌∙◌, map, ap, drop, None}
use Rattle.crs_base.specs.Entry.{canonical}
use Rattle.crs_log.specs.SeenItems.{text_of}
use Rattle.crs_log.proofs.Whole.{name_on}
use Rattle.crs_log.proofs.entries.whole.whole_head.Goals as goal

pub returns : goal.returns
returns c =
    let line = c.args.line.now in
    let raw = c.args.raw.now in
    c.split_at-2.ensures.back ∙ ap (drop raw.name.start) c.split_at.ensures.front
    ∙ name_on line raw.name c.as_slice.result.now c.end_of.result c.in_ok-end.end c.end_of.ensures c.in_ok-end.ensures.onward c.in_ok-end.ensures.text
    ∙ ap (λ xs. canonical (text_of line raw.name) (map (text_of line) xs) None) c.as_slice.ensures
