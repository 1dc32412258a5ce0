use Rattle.std.proofs.Common.{◌≡◌, map, subst}
use Rattle.std.specs.Prelude.{pos, ◌+ℤ◌}
use Rattle.std.specs.List.{AllZip}
use Rattle.std.proofs.lemmas.Int.{to_z-of_z}
use mir.Val.{SFits}
use mir.Syntax.{w64}
use Rattle.crs_base.specs.declared.symbols.Sym.{Sym}
use Rattle.crs_base.specs.Values.{Attribute}
use Rattle.crs_history.specs.Looking.{HasValueOver}
use Rattle.crs_model.specs.Bindings.{look_of}
use Rattle.crs_model.specs.Matching.{TermIs}
use Rattle.crs_model.specs.SeenModels.{term_of}
use Rattle.crs_watch.proofs.Holds.{value_first, first_value, well_by, ill_by}
use Rattle.crs_watch.proofs.passing.starts_well.Goals as goal

pub returns-clause-yes : goal.returns-clause-yes
returns-clause-yes c = λ f low settled stands.
    let look = look_of c.args.binding.now in
    let from = c.args.from in
    let until = c.next_date.result in
    let v = c.value_of-wanted.result in
    let fits : SFits w64 from = c.ranges.from in
    let fits2 : SFits w64 until = record { sfits = c.next_date.type_inv } in
    let one_more : until ≡ (from +ℤ pos 1) = simp to_z-of_z at c.next_date.ensures in
    let a : Attribute Sym = record { name = c.args.name; args = c.args_of-args.result } in
    let args : AllZip (TermIs look) (map term_of c.args.terms.now) c.args_of-args.result = subst (λ w. AllZip (TermIs look) (map term_of w) c.args_of-args.result) c.as_slice.ensures c.args_of-args.ensures in
    let over : HasValueOver a settled v from until = simp to_z-of_z at (c.value_over.ensures.yes f (simp to_z-of_z low) settled stands) in
    well_by look c.args.name (map term_of c.args.terms.now) (term_of c.args.value) c.args_of-args.result v args c.value_of-wanted.ensures c.requires.one.0 c.requires.one.1 settled from (value_first a settled v from until one_more over)

pub returns-clause-no : goal.returns-clause-no
returns-clause-no c = λ f low settled stands.
    let look = look_of c.args.binding.now in
    let from = c.args.from in
    let until = c.next_date.result in
    let v = c.value_of-wanted.result in
    let fits : SFits w64 from = c.ranges.from in
    let fits2 : SFits w64 until = record { sfits = c.next_date.type_inv } in
    let one_more : until ≡ (from +ℤ pos 1) = simp to_z-of_z at c.next_date.ensures in
    let a : Attribute Sym = record { name = c.args.name; args = c.args_of-args.result } in
    let args : AllZip (TermIs look) (map term_of c.args.terms.now) c.args_of-args.result = subst (λ w. AllZip (TermIs look) (map term_of w) c.args_of-args.result) c.as_slice.ensures c.args_of-args.ensures in
    let over : HasValueOver a settled v from until → ⊥ = simp to_z-of_z at (c.value_over.ensures.no f (simp to_z-of_z low) settled stands) in
    ill_by look c.args.name (map term_of c.args.terms.now) (term_of c.args.value) c.args_of-args.result v args c.value_of-wanted.ensures c.requires.one.0 c.requires.one.1 settled from (λ h. over (first_value a settled v from until one_more h))
