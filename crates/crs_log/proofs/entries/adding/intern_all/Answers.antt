use Rattle.std.proofs.Common.{◌≡◌, ◌<◌, ◌+◌, ◌++◌, ◌∷◌, [], ◌∙◌, sym, ap, map, length, subst, get_or}
use Rattle.std.specs.List.{take-map}
use Rattle.std.proofs.lemmas.List.{map-append}
use Rattle.crs_base.specs.Symbols.{with_text, with_texts}
use Rattle.crs_log.specs.declared.items.Span.{Span}
use Rattle.crs_log.specs.SeenItems.{text_of}
use Rattle.crs_model.specs.Renaming.{text_in}
use Rattle.crs_model.specs.Renaming.{AreKnown}
use Rattle.crs_log.specs.Items.{AreSymbols}
use Rattle.crs_log.proofs.Added.{drops, takes, with_next, room_next, kept_texts, still_in}
use Rattle.crs_log.proofs.entries.adding.intern_all.Goals as goal

abbrev none : Span
none = record { start = 0; len = 0 }

pub returns-in_default-clause-err : goal.returns-in_default-clause-err
returns-in_default-clause-err c =
    (c.loop-span.span-index, ap (λ s. s.texts) c.in_default.ensures.err ∙ c.loop-span.invariant.texts ∙ ap (with_texts c.args.symbols.now.texts) (sym (take-map (text_of c.args.line.now) c.loop-span.span-index c.args.spans.now)))

pub returns-in_default-put-clause-err : goal.returns-in_default-put-clause-err
returns-in_default-put-clause-err c =
    let l = c.loop-span in let K = c.args.symbols.now.texts in let f = text_of c.args.line.now in let xs = c.args.spans.now in (
      l.span-index + 1,
      c.in-Ok.ensures.texts ∙ (λ i. with_text (l.invariant.texts i) (c.span_text.ensures i)) ∙ sym (with_next f xs l.span-index none c.loop-span-test.true K)
          ∙ ap (with_texts K) (sym (take-map f (l.span-index + 1) xs)),
    )

pub loop-span-preserved : goal.loop-span-preserved
loop-span-preserved c =
    let l = c.loop-span in let K = c.args.symbols.now.texts in let f = text_of c.args.line.now in let xs = c.args.spans.now in
    let lt = c.loop-span-test.true in
    let grown : c.intern_one.new.symbols.texts ≡ with_text l.symbols.texts (f (get_or xs l.span-index none)) = c.in-Ok.ensures.texts ∙ ap (with_text l.symbols.texts) c.span_text.ensures in
    record {
      texts = grown ∙ ap (λ T. with_text T (f (get_or xs l.span-index none))) l.invariant.texts ∙ sym (with_next f xs l.span-index none lt K);
      numbers = ap (map (text_in c.intern_one.new.symbols.texts)) c.in-Ok-put.ensures.ok ∙ map-append (text_in c.intern_one.new.symbols.texts) l.out.items (c.in-Ok.s ∷ [])
          ∙ (λ i. (ap (λ T. map (text_in T) l.out.items) grown ∙ kept_texts l.symbols.texts (f (get_or xs l.span-index none)) l.out.items l.invariant.within ∙ l.invariant.numbers) i ++ (c.in-Ok.ensures.number ∙ c.span_text.ensures) i ∷ [])
          ∙ sym (takes f xs l.span-index none lt);
      within = subst (λ ss. AreKnown c.intern_one.new.symbols.texts ss) (sym c.in-Ok-put.ensures.ok)
          (subst (λ T. AreKnown T (l.out.items ++ c.in-Ok.s ∷ [])) (sym grown)
          (still_in l.symbols.texts (f (get_or xs l.span-index none)) l.out.items c.in-Ok.s l.invariant.within (subst (λ T. c.in-Ok.s.0 < length T) grown c.in-Ok.ensures.within)));
      limit = c.intern_one.ensures.limit ∙ l.invariant.limit;
      symbols = (subst AreSymbols (drops f xs l.span-index none lt) l.invariant.symbols).1;
      room = room_next f xs l.span-index none lt l.symbols.texts c.intern_one.new.symbols.texts c.args.symbols.now.limit grown l.invariant.room;
    }
