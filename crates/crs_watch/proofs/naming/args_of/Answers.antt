use Rattle.std.proofs.Common.{◌≡◌, ◌≤◌, length, take, get_or, arith, sym, subst, length-take}
use Rattle.std.specs.List.{AllZip}
use Rattle.std.specs.Prelude.{map}
use Rattle.std.proofs.lemmas.List.{get_or-take}
use Rattle.crs_base.specs.declared.symbols.Sym.{Sym}
use Rattle.crs_model.specs.Bindings.{look_of}
use Rattle.crs_model.specs.Matching.{TermIs}
use Rattle.crs_model.specs.SeenModels.{term_of}
use Rattle.crs_model.specs.Verdicts.{TermIsBound}
use Rattle.crs_model.specs.ProperModels.{IsDefinite}
use Rattle.crs_watch.proofs.Terms.{each_at, zip_from}
use Rattle.crs_watch.proofs.naming.args_of.Goals as goal

pub value_of-requires-clause-bound : goal.value_of-requires-clause-bound
value_of-requires-clause-bound c = each_at (TermIsBound (look_of c.args.binding.now)) term_of c.args.terms.now c.requires.bound c.loop-i.i _ c.loop-i-test.true

pub value_of-requires-clause-one : goal.value_of-requires-clause-one
value_of-requires-clause-one c = each_at IsDefinite term_of c.args.terms.now c.requires.one c.loop-i.i _ c.loop-i-test.true

pub returns : goal.returns
returns c =
    let look = look_of c.args.binding.now in
    let ts = c.args.terms.now in
    let all = c.loop-i.all in
    let n = length ts in
    let eight : length all ≡ 8 = c.loop-i.invariant.0 in
    let few : n ≤ 8 = c.requires.few in
    let long : n ≡ length (take n all) = omega (arith, length-take n all) in
    let past : n ≤ c.loop-i.i = c.loop-i-test.false in
    subst (λ w. AllZip (TermIs look) (map term_of ts) w) (sym c.first_of.ensures)
    (zip_from (TermIs look) term_of ts (take n all) long (λ k d x l. subst (λ (y : Sym). TermIs look (term_of (get_or ts k d)) y) (sym (get_or-take n all k x l)) (c.loop-i.invariant.1 k d x (omega arith))))
