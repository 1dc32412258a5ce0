use Rattle.std.proofs.Common.{◌<◌, ◌-◌, length, sym, ap, ◌∙◌, ◌++◌, ◌∷◌, [], arith}
use Rattle.std.proofs.lemmas.List.{append_assoc}
use Rattle.crs_history.proofs.Split.{ends_at}
use Rattle.crs_history.proofs.stretch.last_of.Goals as goal

pub returns-in-Some-clause-some : goal.returns-in-Some-clause-some
returns-in-Some-clause-some c =
    let front = c.args.front.now in
    let back = c.args.back.now in
    let x = c.in-Some.last.now in
    let some : 0 < length back = c.in-Some.ensures.item.3.0 in
    let p = ends_at back (length back - 1) x (omega arith) c.in-Some.ensures.value in
    (front ++ p.0, ap (λ w. front ++ w) p.1 ∙ sym (append_assoc front p.0 (x ∷ [])))
