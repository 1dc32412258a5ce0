use Rattle.std.proofs.Common.{◌≡◌, ◌<◌, ◌+◌, length, take, ◌++◌, ◌∷◌, [], ◌∙◌, sym, ap, arith}
use Rattle.std.proofs.lemmas.List.{take_more, drop-set-lt, length-set}
use Rattle.crs_agenda.specs.declared.timed.Timed.{Timed}
use Rattle.crs_agenda.proofs.Buckets.{put_more, put_in_place}
use Rattle.crs_agenda.proofs.rows.spread.Goals as goal

pub loop-i-preserved : goal.loop-i-preserved
loop-i-preserved c =
    let t = c.get-timed.result in
    let bs = c.loop-i.buckets in
    let to = c.bucket_of-to.result in
    let q = rw (sym c.get-timed.ensures) at (c.requires.before c.loop-i.i t (omega arith)) in
    let before : to < c.args.end = q.2 to c.bucket_of-to.ensures in
    let inv = c.loop-i.invariant in
    let here : to < length bs = omega (arith, inv.len) in
    let more : take (c.loop-i.i + 1) c.args.source.now ≡ take c.loop-i.i c.args.source.now ++ t ∷ [] = take_more c.args.source.now c.loop-i.i t (omega arith) ∙ ap (λ (u : Timed). take c.loop-i.i c.args.source.now ++ u ∷ []) (sym c.get-timed.ensures) in
    rw (more, c.in-Ok.ensures.ok) (record {
      all = put_more (take c.loop-i.i c.args.source.now) c.args.buckets.now bs to t here inv.all;
      in_place = put_in_place c.args.base bs to t here inv.in_place c.bucket_of-to.ensures;
      rest = drop-set-lt c.args.end bs to _ before ∙ inv.rest;
      len = length-set bs to _ ∙ inv.len;
    })
