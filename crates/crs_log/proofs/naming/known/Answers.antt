use Rattle.std.proofs.Common.{◌≡◌, ◌∙◌, ◌<◌, sym, ap, subst, length, get_or, None, Some}
use Rattle.crs_log.specs.SeenItems.{event_seen, text_of}
use Rattle.crs_log.specs.SeenNames.{IsNameIn, IsNumberOf, IsTextAt, Says}
use Rattle.crs_log.proofs.Numbered.{none_named, name_at, named_here, named_later}
use Rattle.crs_log.proofs.Parts.{told_by}
use Rattle.crs_log.proofs.naming.known.Goals as goal

pub returns-in_default-clause-says : goal.returns-in_default-clause-says
returns-in_default-clause-says c =
    let T = c.args.symbols.now.texts in
    none_named T (event_seen c.args.line.now c.args.raw.now) c.args.names.now 0 c.requires.names
    (subst (λ t. IsNumberOf T t None) c.span_text.ensures (λ s lt. c.in_default.ensures.number s lt))

pub judge-requires : goal.judge-requires
judge-requires c =
    let names = c.args.names.now in let n = c.name-item.result in
    let at : n ≡ get_or names c.loop-i.i n = c.name-item.is ∙ ap (λ xs. get_or xs c.loop-i.i n) c.as_slice-name-items.ensures in
    let lt : c.loop-i.i < length names = subst (λ xs. c.loop-i.i < length xs) c.as_slice-name-items.ensures c.loop-i-test.true in
    subst (IsNameIn c.args.symbols.now.texts) (sym at) (name_at c.args.symbols.now.texts names c.loop-i.i n lt c.requires.names)

pub returns-then-name-number-clause-says : goal.returns-then-name-number-clause-says
returns-then-name-number-clause-says c =
    let T = c.args.symbols.now.texts in let e = event_seen c.args.line.now c.args.raw.now in
    let names = c.args.names.now in let n = c.name-item.result in
    let at : n ≡ get_or names c.loop-i.i n = c.name-item.is ∙ ap (λ xs. get_or xs c.loop-i.i n) c.as_slice-name-items.ensures in
    let lt : c.loop-i.i < length names = subst (λ xs. c.loop-i.i < length xs) c.as_slice-name-items.ensures c.loop-i-test.true in
    let k : IsNumberOf T e.name (Some c.in-Some.number) = subst (λ t. IsNumberOf T t (Some c.in-Some.number)) c.span_text.ensures c.in-Some.ensures.number in
    subst (λ v. Says c.judge.result v) (sym (named_here T e names c.loop-i.i n c.in-Some.number at lt c.requires.names k c.if-name-number.true) ∙ c.loop-i.invariant) c.judge.ensures.says

pub loop-i-preserved : goal.loop-i-preserved
loop-i-preserved c =
    let T = c.args.symbols.now.texts in let e = event_seen c.args.line.now c.args.raw.now in
    let names = c.args.names.now in let n = c.name-item.result in
    let at : n ≡ get_or names c.loop-i.i n = c.name-item.is ∙ ap (λ xs. get_or xs c.loop-i.i n) c.as_slice-name-items.ensures in
    let lt : c.loop-i.i < length names = subst (λ xs. c.loop-i.i < length xs) c.as_slice-name-items.ensures c.loop-i-test.true in
    let k : IsNumberOf T e.name (Some c.in-Some.number) = subst (λ t. IsNumberOf T t (Some c.in-Some.number)) c.span_text.ensures c.in-Some.ensures.number in
    sym (named_later T e names c.loop-i.i n c.in-Some.number at lt c.requires.names k c.if-name-number.false) ∙ c.loop-i.invariant

pub returns-then-name-number-clause-text : goal.returns-then-name-number-clause-text
returns-then-name-number-clause-text c =
    let T = c.args.symbols.now.texts in
    told_by T (text_of c.args.line.now c.args.raw.now.name) c.in-Some.number (subst (λ t. IsTextAt T t c.in-Some.number) c.span_text.ensures c.in-Some.ensures.text) c.judge.result c.judge.ensures.number
