use Rattle.std.proofs.Common.{◌≡◌, ◌<◌, length, get_or, set, [], refl, ap, ◌∙◌, arith, List, not}
use Rattle.std.specs.List.{filter}
use Rattle.std.proofs.lemmas.List.{get_or_default}
use Rattle.std.proofs.lemmas.List.Edits.{map_over_more}
use Rattle.std.proofs.lemmas.List.Filters.{length-filter_both}
use Rattle.crs_agenda.specs.declared.timed.Timed.{Timed}
use Rattle.crs_agenda.specs.Freshness.{is_fresh_pair}
use Rattle.crs_agenda.proofs.Kept.{counted-set}
use Rattle.crs_agenda.proofs.rows.keep_fresh.Goals as goal

pub overflow_sub-left : goal.overflow_sub-left
overflow_sub-left c =
    let p = is_fresh_pair c.args.serials.now in
    let b = get_or c.loop-i.buckets c.loop-i.i c.index-buckets-i.result in
    let n : length c.keep_fresh.new.self ≡ length (filter p b) = ap length c.keep_fresh.ensures in
    let m : length c.index-buckets-i.result ≡ length b = ap length c.index-buckets-i.is in
    omega (arith, length-filter_both p (λ (t : Timed). not (p t)) (λ _. refl) b)

pub loop-i-preserved : goal.loop-i-preserved
loop-i-preserved c =
    let p = is_fresh_pair c.args.serials.now in
    let bs = c.loop-i.buckets in
    let i = c.loop-i.i in
    let b = get_or bs i c.index-buckets-i.result in
    let new = c.keep_fresh.new.self in
    let h : i < length bs = omega arith in
    let n : length new ≡ length (filter p b) = ap length c.keep_fresh.ensures in
    let l : length c.index-buckets-i.result ≡ length b = ap length c.index-buckets-i.is in
    let read : b ≡ get_or bs i [] = get_or_default bs i c.index-buckets-i.result [] h in
    let m : length b ≡ length (get_or bs i []) = ap length read in
    let more = map_over_more (filter p) c.args.buckets.now bs i b (omega arith) c.loop-i.invariant.1 (get_or_default bs i c.index-buckets-i.result b h) in
    let k = c.loop-i.invariant.0 in
    (omega (arith, counted-set bs i new h, length-filter_both p (λ (t : Timed). not (p t)) (λ _. refl) b), ap (λ (ts : List Timed). set bs i ts) c.keep_fresh.ensures ∙ more)
