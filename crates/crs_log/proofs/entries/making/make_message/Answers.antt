use Rattle.std.proofs.Common.{◌<◌, ◌∙◌, sym, ap, subst, map, length}
use Rattle.crs_base.specs.Symbols.{text_at}
use Rattle.crs_log.specs.SeenItems.{text_of, change_in}
use Rattle.crs_log.proofs.Parts.{kept_all}
use Rattle.crs_log.proofs.entries.making.make_message.Goals as goal

pub returns-clause-entry : goal.returns-clause-entry
returns-clause-entry c =
    let line = c.args.line.now in let f = text_of c.args.line.now in let raw = c.args.raw.now in
    let k = kept_all (map f c.as_slice-spans.result.now) c.args.symbols.now.texts c.args.name.0 c.requires.name.0 in
    let name = ap (λ U. text_at U c.args.name.0) c.in-Ok.ensures.texts ∙ k.1 ∙ c.requires.name.1 in
    let args = c.in-Ok.ensures.numbers ∙ ap (map f) c.as_slice-spans.ensures in
    let change = sym (ap (change_in line) c.requires.none) in
    let text = c.requires.text in
    λ i. record { arrival = c.args.arrival; date = raw.date; name = name i; args = args i; change = change i; text = text i }

pub returns-clause-within : goal.returns-clause-within
returns-clause-within c =
    let k = kept_all (map (text_of c.args.line.now) c.as_slice-spans.result.now) c.args.symbols.now.texts c.args.name.0 c.requires.name.0 in
    record {
      name = subst (λ U. c.args.name.0 < length U) (sym c.in-Ok.ensures.texts) k.0;
      args = c.in-Ok.ensures.within;
      change = tt;
    }
