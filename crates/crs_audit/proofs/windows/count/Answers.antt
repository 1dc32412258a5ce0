use Rattle.std.proofs.Common.{◌≡◌, map, length, arith}
use Rattle.crs_base.specs.Seen.{entry_of}
use Rattle.crs_model.specs.Bindings.{look_of}
use Rattle.crs_model.specs.SeenModels.{pattern_of}
use Rattle.crs_audit.specs.Counted.{IsCounted}
use Rattle.crs_audit.proofs.Counting.{count_goes_on, count_ends, at_most_next}
use Rattle.crs_audit.proofs.windows.count.Goals as goal

pub loop-entry-preserved : goal.loop-entry-preserved
loop-entry-preserved c =
    let P = IsCounted (look_of c.args.binding.now) (pattern_of c.args.pattern.now) c.args.accepted in
    record {
      told = λ m. count_goes_on P (λ e. entry_of e.value) c.args.entries.now (map (λ e. entry_of e.value) c.args.entries.now) c.loop-entry.entry-index c.entry-item.result
          c.loop-entry.n c.count_on-n.result m c.is_counted.result c.loop-entry-test.true c.entry-item.is c.is_counted.ensures c.count_on-n.ensures c.loop-entry.invariant.told;
      few = at_most_next c.is_counted.result c.loop-entry.n c.count_on-n.result c.loop-entry.entry-index c.count_on-n.ensures c.loop-entry.invariant.few;
    }

pub returns : goal.returns
returns c =
    let P = IsCounted (look_of c.args.binding.now) (pattern_of c.args.pattern.now) c.args.accepted in
    count_ends P (λ e. entry_of e.value) c.args.entries.now (map (λ e. entry_of e.value) c.args.entries.now) c.loop-entry.entry-index c.loop-entry.n
    (let e : length c.args.entries.now ≡ c.loop-entry.entry-index = omega (arith, c.loop-entry-test.false, c.loop-entry.auto.entry-index-end) in e) c.loop-entry.invariant.told
