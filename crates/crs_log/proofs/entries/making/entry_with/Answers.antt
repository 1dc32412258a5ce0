use Rattle.std.proofs.Common.{◌∙◌, sym, ap, subst, map}
use Rattle.crs_log.specs.SeenItems.{text_of, change_in}
use Rattle.crs_model.specs.Renaming.{text_in}
use Rattle.crs_model.specs.Renaming.{AreKnown}
use Rattle.crs_log.specs.Known.{change_texts}
use Rattle.crs_log.proofs.Parts.{front_texts, back_texts, in_take, in_drop}
use Rattle.crs_log.proofs.entries.making.entry_with.Goals as goal

pub returns-clause-entry : goal.returns-clause-entry
returns-clause-entry c = λ line T named all texted.
    let raw = c.args.raw.now in
    let args = ap (map (text_in T)) (c.from_slice.ensures ∙ c.split_at.ensures.front) ∙ front_texts T (text_of line) raw.args c.args.numbers.now (change_texts (change_in line raw.change)) c.len.result c.len.ensures all in
    let change = c.numbered.ensures.change line T (ap (map (text_in T)) c.split_at.ensures.back ∙ back_texts T (text_of line) raw.args c.args.numbers.now (change_texts (change_in line raw.change)) c.len.result c.len.ensures all) in
    λ i. record { arrival = c.args.arrival; date = raw.date; name = named i; args = args i; change = change i; text = texted i }

pub returns-clause-within : goal.returns-clause-within
returns-clause-within c = λ T named all. record {
  name = named;
  args = subst (λ ss. AreKnown T ss) (sym (c.from_slice.ensures ∙ c.split_at.ensures.front)) (in_take T c.len.result c.args.numbers.now all);
  change = c.numbered.ensures.within T (subst (λ ss. AreKnown T ss) (sym c.split_at.ensures.back) (in_drop T c.len.result c.args.numbers.now all));
}
