use Rattle.std.proofs.Common.{sym, ◌∙◌, arith}
use Rattle.std.specs.Prelude.{slice_index_or}
use Rattle.crs_log.proofs.Dates.{digits_bound, digit_small, digit_below, digits_more}
use Rattle.crs_log.proofs.items.walk.digits.Goals as goal

pub overflow_mul-date : goal.overflow_mul-date
overflow_mul-date c =
    let l = c.loop-end in
    let b = digits_bound l.date l.end l.invariant.below (let i = c.if-end-lt19.true in omega (arith, i)) in
    omega (arith, b)

pub overflow_add-date : goal.overflow_add-date
overflow_add-date c =
    let l = c.loop-end in
    let b = digits_bound l.date l.end l.invariant.below (let i = c.if-end-lt19.true in omega (arith, i)) in
    let d = digit_small (slice_index_or c.args.line.now l.end 0) (sym c.is_digit.ensures ∙ c.if-is_digit.true) in
    omega (arith, b, d)

pub loop-end-preserved : goal.loop-end-preserved
loop-end-preserved c =
    let l = c.loop-end in
    let digit = sym c.is_digit.ensures ∙ c.if-is_digit.true in
    record {
      read = digits_more c.args.line.now l.end l.date c.loop-end-test.true c.if-end-lt19.true digit l.invariant.read;
      below = digit_below l.date l.end (slice_index_or c.args.line.now l.end 0) l.invariant.below digit;
    }
