use Rattle.std.proofs.Common.{map, subst}
use Rattle.std.specs.List.{AllZip}
use Rattle.std.proofs.lemmas.Int.{to_z-of_z}
use mir.Val.{SFits}
use mir.Syntax.{w64}
use Rattle.crs_base.specs.declared.symbols.Sym.{Sym}
use Rattle.crs_base.specs.Values.{Attribute}
use Rattle.crs_base.proofs.Deciding.{sym_tells}
use Rattle.crs_model.specs.Bindings.{look_of}
use Rattle.crs_model.specs.Matching.{TermIs}
use Rattle.crs_model.specs.SeenModels.{term_of}
use Rattle.crs_model.specs.HasProgress.{IsWholeFor}
use Rattle.crs_watch.specs.Begun.{Falls}
use Rattle.crs_watch.specs.Known.{AreTold}
use Rattle.crs_watch.proofs.Telling.{have_told}
use Rattle.crs_watch.proofs.Holds.{not_true, not_false, whole_by, broken_by}
use Rattle.crs_watch.proofs.beginning.is_hold_broken.Goals as goal

pub keeps_value-requires : goal.keeps_value-requires
keeps_value-requires c =
    let look = look_of c.args.binding.now in
    let terms = map term_of c.args.terms.now in
    let known = c.known_of-known.result in
    let args : AllZip (TermIs look) terms c.args_of-args.result = subst (λ w. AllZip (TermIs look) (map term_of w) c.args_of-args.result) c.as_slice.ensures c.args_of-args.ensures in
    let told : AreTold look terms known = subst (λ w. AreTold look (map term_of w) known) c.as_slice-2.ensures c.known_of-known.ensures in
    record { known = have_told look look terms known c.args_of-args.result told (λ v s is. is) args }

pub returns-clause-yes : goal.returns-clause-yes
returns-clause-yes c = λ f low settled stands.
    let look = look_of c.args.binding.now in
    let g = c.args.stretch in
    let fits : SFits w64 c.args.h = c.ranges.h in
    let a : Attribute Sym = record { name = c.args.name; args = c.args_of-args.result } in
    let args : AllZip (TermIs look) (map term_of c.args.terms.now) c.args_of-args.result = subst (λ w. AllZip (TermIs look) (map term_of w) c.args_of-args.result) c.as_slice.ensures c.args_of-args.ensures in
    let falls : Falls settled a c.value_of-wanted.result g.from g.to c.args.h = simp to_z-of_z at (c.keeps_value.ensures.no (not_true c.keeps_value.result f) low settled stands) in
    broken_by look c.args.name (map term_of c.args.terms.now) (term_of c.args.value) c.args_of-args.result c.value_of-wanted.result args c.value_of-wanted.ensures c.requires.one.0 c.requires.one.1 settled sym_tells g.from g.to c.args.h falls

pub returns-clause-no : goal.returns-clause-no
returns-clause-no c = λ f low settled stands.
    let look = look_of c.args.binding.now in
    let g = c.args.stretch in
    let fits : SFits w64 c.args.h = c.ranges.h in
    let a : Attribute Sym = record { name = c.args.name; args = c.args_of-args.result } in
    let args : AllZip (TermIs look) (map term_of c.args.terms.now) c.args_of-args.result = subst (λ w. AllZip (TermIs look) (map term_of w) c.args_of-args.result) c.as_slice.ensures c.args_of-args.ensures in
    let whole : IsWholeFor settled a c.value_of-wanted.result g.from g.to c.args.h = simp to_z-of_z at (c.keeps_value.ensures.yes (not_false c.keeps_value.result f) low settled stands) in
    whole_by look c.args.name (map term_of c.args.terms.now) (term_of c.args.value) c.args_of-args.result c.value_of-wanted.result args c.value_of-wanted.ensures c.requires.one.0 c.requires.one.1 settled g.from g.to c.args.h whole
