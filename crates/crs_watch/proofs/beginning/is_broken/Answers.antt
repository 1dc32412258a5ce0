use Rattle.std.proofs.Common.{map, sym, subst}
use Rattle.std.proofs.lemmas.Int.{to_z-of_z}
use mir.Val.{SFits}
use mir.Syntax.{w64}
use Rattle.crs_model.specs.Models.{Hold}
use Rattle.crs_model.specs.Bindings.{look_of}
use Rattle.crs_model.specs.SeenModels.{body_of, term_of}
use Rattle.crs_model.specs.HasProgress.{IsUnbroken}
use Rattle.crs_watch.proofs.beginning.is_broken.Goals as goal

pub returns-in-Hold-clause-no : goal.returns-in-Hold-clause-no
returns-in-Hold-clause-no c = λ f low settled stands.
    let look = look_of c.args.binding.now in
    let g = c.args.stretch in
    let fits : SFits w64 c.args.h = c.ranges.h in
    let whole : IsUnbroken settled look (Hold c.in-Hold.name (map term_of c.in-Hold.terms) (term_of c.in-Hold.value)) g.from g.to c.args.h = simp to_z-of_z at (c.is_hold_broken.ensures.no f low settled stands) in
    subst (λ b. IsUnbroken settled look (body_of b) g.from g.to c.args.h) (sym c.in-Hold.is) whole
