use Rattle.std.proofs.Common.{rules, ◌≡◌, ◌++◌, ◌+◌, map, drop, ◌∙◌, sym}
use Rattle.std.specs.Prelude.{zip, flat_map}
use Rattle.std.proofs.lemmas.Int.{to_z-of_z}
use Rattle.std.proofs.lemmas.Result.{IfOk-weaker}
use mir.Syntax.{w64}
use mir.Val.{SFits}
use Rattle.crs_model.specs.Renaming.{text_in}
use Rattle.crs_compile.specs.Minimal.{date_text}
use Rattle.crs_compile.proofs.Dates.{dates_step}
use Rattle.crs_compile.proofs.minimal.+push_dates.Goals as goal

pub returns-in_ok-push_date-in-Some-get : goal.returns-in_ok-push_date-in-Some-get
returns-in_ok-push_date-in-Some-get t c = let f : SFits w64 c.in-Some-get.date = search rules in IfOk-weaker c.push_dates.result
    (λ _. c.push_dates.new.out.items ≡ c.push_date.new.out.items ++ flat_map date_text (zip (map (text_in c.args.symbols.now.texts) c.in-Some.rest.now) (drop (c.args.first + 1) c.args.dates.now)))
    (λ _. c.push_dates.new.out.items ≡ c.args.out.now.items ++ flat_map date_text (zip (map (text_in c.args.symbols.now.texts) c.args.points.now) (drop c.args.first c.args.dates.now)))
    (λ _ h. dates_step (text_in c.args.symbols.now.texts) c.args.points.now c.in-Some.point.now c.in-Some.rest.now c.args.dates.now c.args.first c.in-Some-get.date c.args.out.now.items c.push_date.new.out.items c.push_dates.new.out.items
    c.in-Some.ensures.cases.0 (sym c.get.ensures ∙ c.in-Some-get.is) (rw (to_z-of_z w64 c.in-Some-get.date f) at (c.in_ok-push_date-in-Some-get.ensures {u = tt})) h)
    c.push_dates.ensures
