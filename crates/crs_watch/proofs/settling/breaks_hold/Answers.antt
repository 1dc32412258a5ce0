use Rattle.std.proofs.Common.{map, subst}
use Rattle.std.specs.List.{AllZip}
use Rattle.crs_base.specs.Seen.{entry_of}
use Rattle.crs_model.specs.Bindings.{look_of}
use Rattle.crs_model.specs.Matching.{TermIs}
use Rattle.crs_model.specs.SeenModels.{term_of}
use Rattle.crs_watch.proofs.Terms.{spared_by}
use Rattle.crs_watch.proofs.settling.breaks_hold.Goals as goal

pub returns-clause-no : goal.returns-clause-no
returns-clause-no c = λ f.
    let look = look_of c.args.binding.now in
    let args : AllZip (TermIs look) (map term_of c.args.terms.now) c.args_of-args.result = subst (λ w. AllZip (TermIs look) (map term_of w) c.args_of-args.result) c.as_slice.ensures c.args_of-args.ensures in
    spared_by look c.args.name (map term_of c.args.terms.now) (term_of c.args.value) c.args_of-args.result c.value_of-wanted.result args c.value_of-wanted.ensures c.args.stretch.from c.args.stretch.to (entry_of c.args.entry.now) c.requires.one.0 c.requires.one.1 (c.strays.ensures.no f)
