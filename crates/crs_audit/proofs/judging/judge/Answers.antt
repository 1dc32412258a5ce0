use Rattle.std.proofs.Common.{◌≡◌, ◌∙◌, ◌<◌, ◌^◌, ℕ, true, false, List, [], ◌∷◌, ◌++◌, length, map, sym, ap, subst, Option, Some, None, Global}
use Rattle.std.specs.Prelude.{IsTrue, ◌↔◌, option_map, IsSomeAnd, IfSome, Err, Ok, vec_items, slice_get}
use Rattle.std.specs.List.{AllByRecursion}
use Rattle.std.specs.declared.rc.Rc.{Rc}
use Rattle.crs_base.specs.declared.entry.Entry.{Entry as CodeEntry}
use Rattle.crs_base.specs.Words.{IsIn}
use Rattle.crs_base.proofs.KeyOrder.{in_dates}
use Rattle.crs_model.specs.declared.plan.Plan.{Plan}
use Rattle.crs_model.specs.declared.recognition.Recognition.{Recognition}
use Rattle.crs_model.specs.Renaming.{text_in}
use Rattle.crs_model.specs.SeenModels.{chronicle_of}
use Rattle.crs_report.specs.Printed.{IsPrintable, line_seen}
use Rattle.crs_audit.specs.Audited.{IsPlaceOf, chronicle_in}
use Rattle.crs_audit.specs.Audits.{Earlier}
use Rattle.crs_audit.specs.Cited.{IsCitedBy}
use Rattle.crs_audit.specs.CitedDates.{IsByDate}
use Rattle.crs_audit.specs.AuditFaults.{IsFitOf}
use Rattle.crs_audit.specs.Noted.{IsNoted, AreNoted}
use Rattle.crs_audit.specs.Notes.{number_of}
use Rattle.crs_audit.specs.Runs.{entries_of, last_numbered}
use Rattle.crs_audit.specs.SeenClaims.{claim_seen}
use Rattle.crs_audit.proofs.Noting.{is_twice, not_twice, noted_more}
use Rattle.crs_audit.proofs.Verdict.{no_chronicle, no_entry, wrong_fit, no_text, twice, faultless, there_of, named_of, cited_of, fit_from, name_is, name_known, each_event, each_dated, printable, dated_by_key}
use Rattle.crs_audit.proofs.judging.judge.Goals as goal

abbrev Shared : Type 0
Shared = Rc CodeEntry Global

abbrev Plans : Type 0
Plans = List (Rc Plan Global)

pub returns-in_default : goal.returns-in_default
returns-in_default c = λ g earlier ground noted.
    let plans = c.args.ground.now.plans.now.plans in
    let texts = c.args.ground.now.symbols.now.texts in
    let none : IsPlaceOf (map (chronicle_in texts) c.as_slice-plans.result.now) c.args.claim.now.name.now None = c.in_default.ensures.place in (
      no_chronicle plans texts c.args.ground.now.log.now c.requires g earlier ground c.args.line.now (claim_seen c.args.claim.now)
          (named_of texts c.as_slice-plans.result.now plans c.args.claim.now.name.now None c.as_slice-plans.ensures none),
      tt,
    )

pub returns-in_default-2 : goal.returns-in_default-2
returns-in_default-2 c = λ g earlier ground noted.
    let plans = c.args.ground.now.plans.now.plans in
    let texts = c.args.ground.now.symbols.now.texts in
    let log = c.args.ground.now.log.now in
    let claim = claim_seen c.args.claim.now in
    let place = c.in-Some.place in
    let p = c.index-plans-place.result in
    let at = c.in-Some-stand.at in
    let there = there_of c.as_slice-plans.result.now plans place p c.as_slice-plans.ensures c.in-Some.ensures.within c.index-plans-place.is in
    let named = named_of texts c.as_slice-plans.result.now plans claim.name (Some place) c.as_slice-plans.ensures c.in-Some.ensures.place in
    let marked : last_numbered log.marks (number_of claim.mark) ≡ Some at = sym c.stand.ensures ∙ c.in-Some-stand.is in
    let given : IsCitedBy (entries_of c.as_slice-all.result.now) at c.deref-plan.result.now.chronicle.prompt c.len-events.result c.as_slice-numbers.result.now (option_map entries_of c.in_ok-entries.field-0) = c.in_ok-entries.ensures in
    let none = cited_of c.as_slice-all.result.now log.entries c.deref-plan.result.now p c.len-events.result c.as_slice-numbers.result.now claim.numbers at None c.as_slice-all.ensures c.deref-plan.ensures
    c.len-events.ensures c.as_slice-numbers.ensures.value
    (subst (λ (o : Option (List Shared)). IsCitedBy (entries_of c.as_slice-all.result.now) at c.deref-plan.result.now.chronicle.prompt c.len-events.result c.as_slice-numbers.result.now (option_map entries_of o)) c.in_default-2.is given) in
    (no_entry plans texts log c.requires g earlier ground c.args.line.now claim place p there named at marked none, tt)

pub fit_of-requires-clause-each : goal.fit_of-requires-clause-each
fit_of-requires-clause-each c =
    let plans = c.args.ground.now.plans.now.plans in
    let texts = c.args.ground.now.symbols.now.texts in
    let log = c.args.ground.now.log.now in
    let claim = claim_seen c.args.claim.now in
    let place = c.in-Some.place in
    let p = c.index-plans-place.result in
    let at = c.in-Some-stand.at in
    let there = there_of c.as_slice-plans.result.now plans place p c.as_slice-plans.ensures c.in-Some.ensures.within c.index-plans-place.is in
    let given : IsCitedBy (entries_of c.as_slice-all.result.now) at c.deref-plan.result.now.chronicle.prompt c.len-events.result c.as_slice-numbers.result.now (option_map entries_of c.in_ok-entries.field-0) = c.in_ok-entries.ensures in
    let cited = cited_of c.as_slice-all.result.now log.entries c.deref-plan.result.now p c.len-events.result c.as_slice-numbers.result.now claim.numbers at (Some (entries_of c.in-Some-2.entries)) c.as_slice-all.ensures c.deref-plan.ensures
    c.len-events.ensures c.as_slice-numbers.ensures.value
    (subst (λ (o : Option (List Shared)). IsCitedBy (entries_of c.as_slice-all.result.now) at c.deref-plan.result.now.chronicle.prompt c.len-events.result c.as_slice-numbers.result.now (option_map entries_of o)) c.in-Some-2.is given) in
    ap length c.as_slice-2.ensures ∙ each_event plans texts place p there log c.requires at claim.numbers c.in-Some-2.entries cited ∙ ap (λ (q : Plan). length q.chronicle.events) (sym c.deref-plan.ensures)

pub fit_of-requires-clause-by_date : goal.fit_of-requires-clause-by_date
fit_of-requires-clause-by_date c = subst (λ (es : List Shared). IsByDate (entries_of es)) (sym c.as_slice.ensures.value) (in_dates (entries_of c.args.ground.now.log.now.by_key.items) c.requires.in_order)

pub fit_of-requires-clause-dated : goal.fit_of-requires-clause-dated
fit_of-requires-clause-dated c =
    let log = c.args.ground.now.log.now in
    subst (λ (es : List Shared). AllByRecursion (λ e. e.date < 2 ^ 40) (entries_of es)) (sym c.as_slice.ensures.value) (dated_by_key (entries_of log.by_key.items) (entries_of log.entries) c.requires.same c.requires.dated)

pub fit_of-requires-clause-dated_too : goal.fit_of-requires-clause-dated_too
fit_of-requires-clause-dated_too c =
    let plans = c.args.ground.now.plans.now.plans in
    let texts = c.args.ground.now.symbols.now.texts in
    let log = c.args.ground.now.log.now in
    let claim = claim_seen c.args.claim.now in
    let place = c.in-Some.place in
    let p = c.index-plans-place.result in
    let at = c.in-Some-stand.at in
    let there = there_of c.as_slice-plans.result.now plans place p c.as_slice-plans.ensures c.in-Some.ensures.within c.index-plans-place.is in
    let given : IsCitedBy (entries_of c.as_slice-all.result.now) at c.deref-plan.result.now.chronicle.prompt c.len-events.result c.as_slice-numbers.result.now (option_map entries_of c.in_ok-entries.field-0) = c.in_ok-entries.ensures in
    let cited = cited_of c.as_slice-all.result.now log.entries c.deref-plan.result.now p c.len-events.result c.as_slice-numbers.result.now claim.numbers at (Some (entries_of c.in-Some-2.entries)) c.as_slice-all.ensures c.deref-plan.ensures
    c.len-events.ensures c.as_slice-numbers.ensures.value
    (subst (λ (o : Option (List Shared)). IsCitedBy (entries_of c.as_slice-all.result.now) at c.deref-plan.result.now.chronicle.prompt c.len-events.result c.as_slice-numbers.result.now (option_map entries_of o)) c.in-Some-2.is given) in
    subst (λ (es : List Shared). AllByRecursion (λ e. e.date < 2 ^ 40) (entries_of es)) (sym c.as_slice-2.ensures) (each_dated plans texts place p there log c.requires at claim.numbers c.in-Some-2.entries cited)

pub returns-in-Err : goal.returns-in-Err
returns-in-Err c = λ g earlier ground noted.
    let plans = c.args.ground.now.plans.now.plans in
    let texts = c.args.ground.now.symbols.now.texts in
    let log = c.args.ground.now.log.now in
    let claim = claim_seen c.args.claim.now in
    let place = c.in-Some.place in
    let p = c.index-plans-place.result in
    let at = c.in-Some-stand.at in
    let there = there_of c.as_slice-plans.result.now plans place p c.as_slice-plans.ensures c.in-Some.ensures.within c.index-plans-place.is in
    let named = named_of texts c.as_slice-plans.result.now plans claim.name (Some place) c.as_slice-plans.ensures c.in-Some.ensures.place in
    let marked : last_numbered log.marks (number_of claim.mark) ≡ Some at = sym c.stand.ensures ∙ c.in-Some-stand.is in
    let given : IsCitedBy (entries_of c.as_slice-all.result.now) at c.deref-plan.result.now.chronicle.prompt c.len-events.result c.as_slice-numbers.result.now (option_map entries_of c.in_ok-entries.field-0) = c.in_ok-entries.ensures in
    let cited = cited_of c.as_slice-all.result.now log.entries c.deref-plan.result.now p c.len-events.result c.as_slice-numbers.result.now claim.numbers at (Some (entries_of c.in-Some-2.entries)) c.as_slice-all.ensures c.deref-plan.ensures
    c.len-events.ensures c.as_slice-numbers.ensures.value
    (subst (λ (o : Option (List Shared)). IsCitedBy (entries_of c.as_slice-all.result.now) at c.deref-plan.result.now.chronicle.prompt c.len-events.result c.as_slice-numbers.result.now (option_map entries_of o)) c.in-Some-2.is given) in
    let fit : IsFitOf (chronicle_of c.deref-plan.result.now.chronicle) (entries_of c.as_slice-2.result.now) (entries_of c.as_slice.result.now) at (Err c.in-Err.word) = c.in-Err.ensures in
    let wrong = fit_from c.deref-plan.result.now p c.as_slice.result.now log.by_key.items c.as_slice-2.result.now c.in-Some-2.entries at (Err c.in-Err.word) c.deref-plan.ensures c.as_slice.ensures.value c.as_slice-2.ensures fit in
    (wrong_fit plans texts log c.requires g earlier ground c.args.line.now claim place p there named at marked (entries_of c.in-Some-2.entries) cited c.in-Err.word wrong, tt)

pub is_line_of-requires : goal.is_line_of-requires
is_line_of-requires c =
    let plans = c.args.ground.now.plans.now.plans in
    let texts = c.args.ground.now.symbols.now.texts in
    let log = c.args.ground.now.log.now in
    let claim = claim_seen c.args.claim.now in
    let place = c.in-Some.place in
    let p = c.index-plans-place.result in
    let at = c.in-Some-stand.at in
    let es = c.in-Some-2.entries in
    let b = c.in-Ok.binding in
    let there = there_of c.as_slice-plans.result.now plans place p c.as_slice-plans.ensures c.in-Some.ensures.within c.index-plans-place.is in
    let given : IsCitedBy (entries_of c.as_slice-all.result.now) at c.deref-plan.result.now.chronicle.prompt c.len-events.result c.as_slice-numbers.result.now (option_map entries_of c.in_ok-entries.field-0) = c.in_ok-entries.ensures in
    let cited = cited_of c.as_slice-all.result.now log.entries c.deref-plan.result.now p c.len-events.result c.as_slice-numbers.result.now claim.numbers at (Some (entries_of es)) c.as_slice-all.ensures c.deref-plan.ensures
    c.len-events.ensures c.as_slice-numbers.ensures.value
    (subst (λ (o : Option (List Shared)). IsCitedBy (entries_of c.as_slice-all.result.now) at c.deref-plan.result.now.chronicle.prompt c.len-events.result c.as_slice-numbers.result.now (option_map entries_of o)) c.in-Some-2.is given) in
    let fit : IsFitOf (chronicle_of c.deref-plan.result.now.chronicle) (entries_of c.as_slice-2.result.now) (entries_of c.as_slice.result.now) at (Ok b) = c.in-Ok.ensures in
    let good = fit_from c.deref-plan.result.now p c.as_slice.result.now log.by_key.items c.as_slice-2.result.now es at (Ok b) c.deref-plan.ensures c.as_slice.ensures.value c.as_slice-2.ensures fit in
    let r : Recognition = record { chronicle = place; mark = claim.mark; entries = es; binding = b } in
    subst (λ (o : Option (Rc Plan Global)). IsSomeAnd (option_map (λ q. chronicle_of q.value.chronicle) o) (IsPrintable texts r)) (sym there)
    (printable plans texts place p there log c.requires at claim.numbers es cited b good.0 claim.mark)

pub returns-then-not-branch : goal.returns-then-not-branch
returns-then-not-branch c = λ g earlier ground noted.
    let plans = c.args.ground.now.plans.now.plans in
    let texts = c.args.ground.now.symbols.now.texts in
    let log = c.args.ground.now.log.now in
    let claim = claim_seen c.args.claim.now in
    let bytes = c.args.line.now in
    let place = c.in-Some.place in
    let p = c.index-plans-place.result in
    let at = c.in-Some-stand.at in
    let es = c.in-Some-2.entries in
    let b = c.in-Ok.binding in
    let there = there_of c.as_slice-plans.result.now plans place p c.as_slice-plans.ensures c.in-Some.ensures.within c.index-plans-place.is in
    let named = named_of texts c.as_slice-plans.result.now plans claim.name (Some place) c.as_slice-plans.ensures c.in-Some.ensures.place in
    let marked : last_numbered log.marks (number_of claim.mark) ≡ Some at = sym c.stand.ensures ∙ c.in-Some-stand.is in
    let given : IsCitedBy (entries_of c.as_slice-all.result.now) at c.deref-plan.result.now.chronicle.prompt c.len-events.result c.as_slice-numbers.result.now (option_map entries_of c.in_ok-entries.field-0) = c.in_ok-entries.ensures in
    let cited = cited_of c.as_slice-all.result.now log.entries c.deref-plan.result.now p c.len-events.result c.as_slice-numbers.result.now claim.numbers at (Some (entries_of es)) c.as_slice-all.ensures c.deref-plan.ensures
    c.len-events.ensures c.as_slice-numbers.ensures.value
    (subst (λ (o : Option (List Shared)). IsCitedBy (entries_of c.as_slice-all.result.now) at c.deref-plan.result.now.chronicle.prompt c.len-events.result c.as_slice-numbers.result.now (option_map entries_of o)) c.in-Some-2.is given) in
    let fit : IsFitOf (chronicle_of c.deref-plan.result.now.chronicle) (entries_of c.as_slice-2.result.now) (entries_of c.as_slice.result.now) at (Ok b) = c.in-Ok.ensures in
    let good = fit_from c.deref-plan.result.now p c.as_slice.result.now log.by_key.items c.as_slice-2.result.now es at (Ok b) c.deref-plan.ensures c.as_slice.ensures.value c.as_slice-2.ensures fit in
    let r : Recognition = record { chronicle = place; mark = claim.mark; entries = es; binding = b } in
    let says : IfSome (option_map (λ q. chronicle_of q.value.chronicle) (slice_get plans place)) (λ d. IsTrue c.in_ok-is_line_of.field-0 ↔ (bytes ++ 10 ∷ [] ≡ line_seen true texts r d)) = c.in_ok-is_line_of.ensures in
    let told = subst (λ (o : Option (Rc Plan Global)). IfSome (option_map (λ q. chronicle_of q.value.chronicle) o) (λ d. IsTrue c.in_ok-is_line_of.field-0 ↔ (bytes ++ 10 ∷ [] ≡ line_seen true texts r d))) there says in (
      no_text plans texts log c.requires g earlier ground bytes claim place p there named at marked (entries_of es) cited b good.0 good.1 good.2 (λ l. let t = told.1 l in let f = c.if-not-branch.true in cc),
      tt,
    )

pub returns-then-not-branch-2 : goal.returns-then-not-branch-2
returns-then-not-branch-2 c = λ g earlier ground noted.
    let plans = c.args.ground.now.plans.now.plans in
    let texts = c.args.ground.now.symbols.now.texts in
    let log = c.args.ground.now.log.now in
    let claim = claim_seen c.args.claim.now in
    let bytes = c.args.line.now in
    let place = c.in-Some.place in
    let p = c.index-plans-place.result in
    let at = c.in-Some-stand.at in
    let es = c.in-Some-2.entries in
    let b = c.in-Ok.binding in
    let there = there_of c.as_slice-plans.result.now plans place p c.as_slice-plans.ensures c.in-Some.ensures.within c.index-plans-place.is in
    let named = named_of texts c.as_slice-plans.result.now plans claim.name (Some place) c.as_slice-plans.ensures c.in-Some.ensures.place in
    let marked : last_numbered log.marks (number_of claim.mark) ≡ Some at = sym c.stand.ensures ∙ c.in-Some-stand.is in
    let given : IsCitedBy (entries_of c.as_slice-all.result.now) at c.deref-plan.result.now.chronicle.prompt c.len-events.result c.as_slice-numbers.result.now (option_map entries_of c.in_ok-entries.field-0) = c.in_ok-entries.ensures in
    let cited = cited_of c.as_slice-all.result.now log.entries c.deref-plan.result.now p c.len-events.result c.as_slice-numbers.result.now claim.numbers at (Some (entries_of es)) c.as_slice-all.ensures c.deref-plan.ensures
    c.len-events.ensures c.as_slice-numbers.ensures.value
    (subst (λ (o : Option (List Shared)). IsCitedBy (entries_of c.as_slice-all.result.now) at c.deref-plan.result.now.chronicle.prompt c.len-events.result c.as_slice-numbers.result.now (option_map entries_of o)) c.in-Some-2.is given) in
    let fit : IsFitOf (chronicle_of c.deref-plan.result.now.chronicle) (entries_of c.as_slice-2.result.now) (entries_of c.as_slice.result.now) at (Ok b) = c.in-Ok.ensures in
    let good = fit_from c.deref-plan.result.now p c.as_slice.result.now log.by_key.items c.as_slice-2.result.now es at (Ok b) c.deref-plan.ensures c.as_slice.ensures.value c.as_slice-2.ensures fit in
    let r : Recognition = record { chronicle = place; mark = claim.mark; entries = es; binding = b } in
    let says : IfSome (option_map (λ q. chronicle_of q.value.chronicle) (slice_get plans place)) (λ d. IsTrue c.in_ok-is_line_of.field-0 ↔ (bytes ++ 10 ∷ [] ≡ line_seen true texts r d)) = c.in_ok-is_line_of.ensures in
    let told = subst (λ (o : Option (Rc Plan Global)). IfSome (option_map (λ q. chronicle_of q.value.chronicle) o) (λ d. IsTrue c.in_ok-is_line_of.field-0 ↔ (bytes ++ 10 ∷ [] ≡ line_seen true texts r d))) there says in
    let line = told.0 c.if-not-branch.false in
    let name = name_is plans texts place p there claim.name named in
    let known = name_known plans texts place p there log c.requires in
    let old = map vec_items c.args.noted.now.keys in
    let new = map vec_items c.note.new.noted.keys in
    let note : IsNoted (c.deref-plan.result.now.chronicle.name.0 ∷ c.as_slice-numbers.result.now) old new c.in_ok-note.field-0 = c.in_ok-note.ensures in
    let key : c.deref-plan.result.now.chronicle.name.0 ∷ c.as_slice-numbers.result.now ≡ p.value.chronicle.name.0 ∷ claim.numbers =
    (λ i. (c.deref-plan.ensures i).chronicle.name.0 ∷ c.as_slice-numbers.ensures.value i) in
    let here = subst (λ (k : List ℕ). IsNoted k old new c.in_ok-note.field-0) key note in
    let there_before : IsNoted (p.value.chronicle.name.0 ∷ claim.numbers) old new false = subst (IsNoted (p.value.chronicle.name.0 ∷ claim.numbers) old new) c.if-not-branch-2.true here in
    let before : IsIn (text_in texts p.value.chronicle.name, claim.numbers) earlier = is_twice texts c.requires.distinct p.value.chronicle.name known claim.numbers old earlier noted there_before in (
      twice plans texts log c.requires g earlier ground bytes claim place p there named at marked (entries_of es) cited b good.0 good.1 good.2 line
          (subst (λ (w : List ℕ). IsIn {A = Earlier} (w, claim.numbers) earlier) name before),
      tt,
    )

pub returns : goal.returns
returns c = λ g earlier ground noted.
    let plans = c.args.ground.now.plans.now.plans in
    let texts = c.args.ground.now.symbols.now.texts in
    let log = c.args.ground.now.log.now in
    let claim = claim_seen c.args.claim.now in
    let bytes = c.args.line.now in
    let place = c.in-Some.place in
    let p = c.index-plans-place.result in
    let at = c.in-Some-stand.at in
    let es = c.in-Some-2.entries in
    let b = c.in-Ok.binding in
    let there = there_of c.as_slice-plans.result.now plans place p c.as_slice-plans.ensures c.in-Some.ensures.within c.index-plans-place.is in
    let named = named_of texts c.as_slice-plans.result.now plans claim.name (Some place) c.as_slice-plans.ensures c.in-Some.ensures.place in
    let marked : last_numbered log.marks (number_of claim.mark) ≡ Some at = sym c.stand.ensures ∙ c.in-Some-stand.is in
    let given : IsCitedBy (entries_of c.as_slice-all.result.now) at c.deref-plan.result.now.chronicle.prompt c.len-events.result c.as_slice-numbers.result.now (option_map entries_of c.in_ok-entries.field-0) = c.in_ok-entries.ensures in
    let cited = cited_of c.as_slice-all.result.now log.entries c.deref-plan.result.now p c.len-events.result c.as_slice-numbers.result.now claim.numbers at (Some (entries_of es)) c.as_slice-all.ensures c.deref-plan.ensures
    c.len-events.ensures c.as_slice-numbers.ensures.value
    (subst (λ (o : Option (List Shared)). IsCitedBy (entries_of c.as_slice-all.result.now) at c.deref-plan.result.now.chronicle.prompt c.len-events.result c.as_slice-numbers.result.now (option_map entries_of o)) c.in-Some-2.is given) in
    let fit : IsFitOf (chronicle_of c.deref-plan.result.now.chronicle) (entries_of c.as_slice-2.result.now) (entries_of c.as_slice.result.now) at (Ok b) = c.in-Ok.ensures in
    let good = fit_from c.deref-plan.result.now p c.as_slice.result.now log.by_key.items c.as_slice-2.result.now es at (Ok b) c.deref-plan.ensures c.as_slice.ensures.value c.as_slice-2.ensures fit in
    let r : Recognition = record { chronicle = place; mark = claim.mark; entries = es; binding = b } in
    let says : IfSome (option_map (λ q. chronicle_of q.value.chronicle) (slice_get plans place)) (λ d. IsTrue c.in_ok-is_line_of.field-0 ↔ (bytes ++ 10 ∷ [] ≡ line_seen true texts r d)) = c.in_ok-is_line_of.ensures in
    let told = subst (λ (o : Option (Rc Plan Global)). IfSome (option_map (λ q. chronicle_of q.value.chronicle) o) (λ d. IsTrue c.in_ok-is_line_of.field-0 ↔ (bytes ++ 10 ∷ [] ≡ line_seen true texts r d))) there says in
    let line = told.0 c.if-not-branch.false in
    let name = name_is plans texts place p there claim.name named in
    let known = name_known plans texts place p there log c.requires in
    let old = map vec_items c.args.noted.now.keys in
    let new = map vec_items c.note.new.noted.keys in
    let note : IsNoted (c.deref-plan.result.now.chronicle.name.0 ∷ c.as_slice-numbers.result.now) old new c.in_ok-note.field-0 = c.in_ok-note.ensures in
    let key : c.deref-plan.result.now.chronicle.name.0 ∷ c.as_slice-numbers.result.now ≡ p.value.chronicle.name.0 ∷ claim.numbers =
    (λ i. (c.deref-plan.ensures i).chronicle.name.0 ∷ c.as_slice-numbers.ensures.value i) in
    let here = subst (λ (k : List ℕ). IsNoted k old new c.in_ok-note.field-0) key note in
    let first : IsNoted (p.value.chronicle.name.0 ∷ claim.numbers) old new true = subst (IsNoted (p.value.chronicle.name.0 ∷ claim.numbers) old new) c.if-not-branch-2.false here in
    let not_before : IsIn (text_in texts p.value.chronicle.name, claim.numbers) earlier → ⊥ = not_twice texts c.requires.distinct p.value.chronicle.name known claim.numbers old earlier noted first.0 in
    let more : AreNoted texts new ((text_in texts p.value.chronicle.name, claim.numbers) ∷ earlier) = noted_more texts c.requires.distinct p.value.chronicle.name known claim.numbers old new earlier noted first.1 in (
      faultless plans texts log c.requires g earlier ground bytes claim place p there named at marked (entries_of es) cited b good.0 good.1 good.2 line
          (λ i. not_before (subst (λ (w : List ℕ). IsIn {A = Earlier} (w, claim.numbers) earlier) (sym name) i)),
      subst (λ (w : List ℕ). AreNoted texts new ((w, claim.numbers) ∷ earlier)) name more,
    )
