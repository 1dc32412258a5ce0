use Rattle.std.proofs.Common.{rules, ◌≡◌, map, sym, subst, true, false, arith}
use Rattle.std.specs.Prelude.{◌≤ℤ◌, ◌<ℤ◌}
use Rattle.std.proofs.lemmas.Int.{ints, to_z-of_z}
use mir.Val.{SFits}
use mir.Syntax.{w64}
use Rattle.crs_base.proofs.Deciding.{sym_tells}
use Rattle.crs_model.specs.Models.{Hold}
use Rattle.crs_model.specs.Bindings.{look_of}
use Rattle.crs_model.specs.SeenModels.{body_of, term_of}
use Rattle.crs_model.specs.HasProgress.{StartsWell, StartsIll}
use Rattle.crs_watch.proofs.Starts.{passes_early, passes_late, passes_start}
use Rattle.crs_watch.proofs.passing.pass.Goals as goal

pub returns-then-stretch-since-clause-progress : goal.returns-then-stretch-since-clause-progress
returns-then-stretch-since-clause-progress c = λ back settled m n is at up stands p.
    let g = c.args.stretch in
    let early : g.from <ℤ c.args.since = omega (arith, ints) in
    passes_early sym_tells (look_of c.args.binding.now) (body_of c.args.window.now.body) g.from g.to settled c.args.since c.args.h m n c.args.p.count c.args.p.broken is at up p early

pub returns-then-stretch-h-clause-progress : goal.returns-then-stretch-h-clause-progress
returns-then-stretch-h-clause-progress c = λ back settled m n is at up stands p.
    let g = c.args.stretch in
    let late : c.args.h ≤ℤ g.from = omega (arith, ints) in
    passes_late sym_tells (look_of c.args.binding.now) (body_of c.args.window.now.body) g.from g.to settled c.args.since c.args.h m n c.args.p.count c.args.p.broken is at up p late

pub returns-else-stretch-h-clause-progress : goal.returns-else-stretch-h-clause-progress
returns-else-stretch-h-clause-progress c = λ back settled m n is at up stands p.
    let look = look_of c.args.binding.now in
    let g = c.args.stretch in
    let fits : SFits w64 g.from = search rules in
    let some : g.from <ℤ g.to = omega (arith, ints) in
    let low : c.args.history.now.floor ≤ℤ g.from = back (omega (arith, ints)) in
    let due : g.from <ℤ c.args.h = omega (arith, ints) in
    let well : c.starts_well.result ≡ true → StartsWell settled look (body_of c.args.window.now.body) g.from = λ f.
    let w : StartsWell settled look (Hold c.in-Hold.name (map term_of c.in-Hold.terms) (term_of c.in-Hold.value)) g.from = simp to_z-of_z at (c.starts_well.ensures.yes f (simp to_z-of_z low) settled stands) in
    subst (λ b. StartsWell settled look (body_of b) g.from) (sym c.in-Hold.is) w in
    let ill : c.starts_well.result ≡ false → StartsIll settled look (body_of c.args.window.now.body) g.from = λ f.
    let w : StartsIll settled look (Hold c.in-Hold.name (map term_of c.in-Hold.terms) (term_of c.in-Hold.value)) g.from = simp to_z-of_z at (c.starts_well.ensures.no f (simp to_z-of_z low) settled stands) in
    subst (λ b. StartsIll settled look (body_of b) g.from) (sym c.in-Hold.is) w in
    passes_start sym_tells look (body_of c.args.window.now.body) g.from g.to settled c.args.since c.args.h m n c.args.p.count c.args.p.broken is at up p c.starts_well.result c.if-p.false some due well ill
