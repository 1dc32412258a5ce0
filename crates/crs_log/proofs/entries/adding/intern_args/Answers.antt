use Rattle.std.proofs.Common.{◌≡◌, ◌<◌, ◌+◌, ◌++◌, ◌∷◌, [], ◌∙◌, sym, ap, map, length, subst, get_or, take, set, arith, length-set}
use Rattle.std.specs.List.{take-map}
use Rattle.std.proofs.lemmas.List.{map-append, take_more_set}
use Rattle.crs_base.specs.Symbols.{with_text, with_texts}
use Rattle.crs_log.specs.declared.items.Span.{Span}
use Rattle.crs_log.specs.SeenItems.{text_of}
use Rattle.crs_model.specs.Renaming.{text_in}
use Rattle.crs_model.specs.Renaming.{AreKnown}
use Rattle.crs_log.specs.Items.{AreSymbols}
use Rattle.crs_log.proofs.Added.{drops, takes, with_next, room_next, kept_texts, still_in}
use Rattle.crs_log.proofs.entries.adding.intern_args.Goals as goal

abbrev none : Span
none = record { start = 0; len = 0 }

pub returns-in_default-clause-err : goal.returns-in_default-clause-err
returns-in_default-clause-err c =
    (c.loop-i.i, ap (λ s. s.texts) c.in_default.ensures.err ∙ c.loop-i.invariant.texts ∙ ap (with_texts c.args.symbols.now.texts) (sym (take-map (text_of c.args.line.now) c.loop-i.i c.args.spans.now)))

pub loop-i-preserved : goal.loop-i-preserved
loop-i-preserved c =
    let l = c.loop-i in let K = c.args.symbols.now.texts in let f = text_of c.args.line.now in let xs = c.args.spans.now in
    let lt = c.loop-i-test.true in
    let pushed : take (l.i + 1) (set l.all l.i c.in-Ok.s) ≡ take l.i l.all ++ c.in-Ok.s ∷ [] = take_more_set l.all l.i c.in-Ok.s (omega (arith, lt, c.requires.arity, l.invariant.size)) in
    let grown : c.intern_one.new.symbols.texts ≡ with_text l.symbols.texts (f (get_or xs l.i none)) = c.in-Ok.ensures.texts ∙ ap (with_text l.symbols.texts) c.span_text.ensures in
    record {
      texts = grown ∙ ap (λ T. with_text T (f (get_or xs l.i none))) l.invariant.texts ∙ sym (with_next f xs l.i none lt K);
      numbers = ap (map (text_in c.intern_one.new.symbols.texts)) pushed ∙ map-append (text_in c.intern_one.new.symbols.texts) (take l.i l.all) (c.in-Ok.s ∷ [])
          ∙ (λ i. (ap (λ T. map (text_in T) (take l.i l.all)) grown ∙ kept_texts l.symbols.texts (f (get_or xs l.i none)) (take l.i l.all) l.invariant.within ∙ l.invariant.numbers) i ++ (c.in-Ok.ensures.number ∙ c.span_text.ensures) i ∷ [])
          ∙ sym (takes f xs l.i none lt);
      within = subst (λ ss. AreKnown c.intern_one.new.symbols.texts ss) (sym pushed)
          (subst (λ T. AreKnown T ((take l.i l.all) ++ c.in-Ok.s ∷ [])) (sym grown)
          (still_in l.symbols.texts (f (get_or xs l.i none)) (take l.i l.all) c.in-Ok.s l.invariant.within (subst (λ T. c.in-Ok.s.0 < length T) grown c.in-Ok.ensures.within)));
      limit = c.intern_one.ensures.limit ∙ l.invariant.limit;
      symbols = (subst AreSymbols (drops f xs l.i none lt) l.invariant.symbols).1;
      size = length-set l.all l.i c.in-Ok.s ∙ l.invariant.size;
      room = room_next f xs l.i none lt l.symbols.texts c.intern_one.new.symbols.texts c.args.symbols.now.limit grown l.invariant.room;
    }
