use Rattle.std.proofs.Common.{◌≡◌, ◌+◌, unwrap_or, sym, ap, ◌∙◌, arith}
use Rattle.std.specs.BTreeMap.Entry.{entry_value, map_with_value}
use Rattle.crs_history.specs.ListNumbers.{IsNumbering, Grows, count_of}
use Rattle.crs_history.proofs.Numbering.{step_grows, step_numbers}
use Rattle.crs_history.proofs.numbers.add_to_tree.Goals as goal

pub returns-clause-numbering : goal.returns-clause-numbering
returns-clause-numbering c =
    let old = c.args.steps.now.entries in
    let had = entry_value c.in-Ok.entry in
    let number = c.or_insert.result.now in
    let is : number ≡ unwrap_or had (count_of old + 1) = c.or_insert.ensures.value ∙ ap (λ n. unwrap_or had (n + 1)) c.len-next.ensures.len in
    let known : IsNumbering (map_with_value c.in-Ok.entry number).entries =
    step_numbers old (map_with_value c.in-Ok.entry number).entries c.requires.numbering c.args.from c.args.symbol c.requires.from number
    (λ i t. (c.in-Ok.ensures.update.0 number).0 (record { from = i; symbol = t.0 })) had (sym c.in-Ok.ensures.value) is (c.in-Ok.ensures.len number) in
    grind arith

pub returns-clause-grows : goal.returns-clause-grows
returns-clause-grows c =
    let old = c.args.steps.now.entries in
    let had = entry_value c.in-Ok.entry in
    let number = c.or_insert.result.now in
    let is : number ≡ unwrap_or had (count_of old + 1) = c.or_insert.ensures.value ∙ ap (λ n. unwrap_or had (n + 1)) c.len-next.ensures.len in
    let known : Grows old (map_with_value c.in-Ok.entry number).entries =
    step_grows old (map_with_value c.in-Ok.entry number).entries c.requires.numbering c.args.from c.args.symbol c.requires.from number
    (λ i t. (c.in-Ok.ensures.update.0 number).0 (record { from = i; symbol = t.0 })) had (sym c.in-Ok.ensures.value) is (c.in-Ok.ensures.len number) in
    grind arith
