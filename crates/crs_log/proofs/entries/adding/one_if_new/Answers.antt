use Rattle.std.proofs.Common.{◌||◌, ◌∙◌, sym, ap, map, true, false}
use Rattle.std.specs.Prelude.{bytes_eq}
use Rattle.std.specs.List.{list_any}
use Rattle.crs_base.specs.Symbols.{is_known}
use Rattle.crs_log.specs.SeenItems.{text_of}
use Rattle.crs_log.proofs.Added.{met_one}
use Rattle.crs_log.proofs.entries.adding.one_if_new.Goals as goal

pub returns-then-is_met : goal.returns-then-is_met
returns-then-is_met c =
    let K = c.args.symbols.now.texts in let xs = map (text_of c.args.line.now) c.args.before.now in
    sym (met_one K xs (text_of c.args.line.now c.args.span) true (ap (λ t. is_known K t || list_any (bytes_eq t) xs) (sym c.span_text.ensures) ∙ sym c.is_met.ensures ∙ c.if-is_met.true))

pub returns-else-is_met : goal.returns-else-is_met
returns-else-is_met c =
    let K = c.args.symbols.now.texts in let xs = map (text_of c.args.line.now) c.args.before.now in
    sym (met_one K xs (text_of c.args.line.now c.args.span) false (ap (λ t. is_known K t || list_any (bytes_eq t) xs) (sym c.span_text.ensures) ∙ sym c.is_met.ensures ∙ c.if-is_met.false))
