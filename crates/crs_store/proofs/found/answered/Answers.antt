use Rattle.std.proofs.Common.{rules, vec_len, ◌≡◌, List, ◌++◌, length, map, sym, ap, ◌∙◌}
use Rattle.std.proofs.lemmas.Bool.{eqb-true}
use Rattle.std.proofs.lemmas.List.{nil_from_length}
use Rattle.crs_model.specs.declared.recognition.Recognition.{Recognition}
use Rattle.crs_store.specs.Found.{numbered}
use Rattle.crs_store.proofs.found.answered.Goals as goal

pub returns-then-is_empty-clause-none : goal.returns-then-is_empty-clause-none
returns-then-is_empty-clause-none c =
    let long : length c.args.found.now.items ≡ vec_len c.args.found.now = search rules in
    nil_from_length c.args.found.now.items (long ∙ eqb-true (vec_len c.args.found.now) 0 (sym c.is_empty.ensures ∙ c.if-is_empty.true))

pub returns-then-is_empty-clause-all : goal.returns-then-is_empty-clause-all
returns-then-is_empty-clause-all c = sym (ap (λ (xs : List Recognition). map (numbered c.args.to.now.number c.args.to.now.mark) xs ++ c.args.ripe.items) (returns-then-is_empty-clause-none c))
