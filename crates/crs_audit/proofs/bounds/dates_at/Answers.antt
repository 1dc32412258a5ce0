use Rattle.std.proofs.Common.{rules, ◌≡◌, ◌∙◌, ◌<◌, ◌≤◌, ◌^◌, length, sym, ap, subst, arith}
use Rattle.std.specs.Prelude.{ℤ, pos}
use Rattle.std.proofs.lemmas.Int.{to_z_pos, ints}
use mir.Syntax.{w64}
use mir.Val.{to_z}
use Rattle.crs_audit.proofs.Given.{all_given, dated_at, set_size, set_so_far, set_others, near_by}
use Rattle.crs_audit.proofs.bounds.dates_at.Goals as goal

small : (c : goal.After-row_known-1) → c.deref.result.now.date < 2 ^ 40
small c =
    let r = c.index-entries-i.result in
    let e : c.deref.result.now.date ≡ r.value.date = ap (λ z. z.date) c.deref.ensures in
    let there = dated_at c.args.entries.now c.requires.dated c.loop-i.i r c.loop-i-test.true in
    let is : r.value.date < 2 ^ 40 = subst (λ z. z.value.date < 2 ^ 40) (sym c.index-entries-i.is) there in
    omega (arith, e, is)

pub overflow_cast-dates : goal.overflow_cast-dates
overflow_cast-dates c = let k : c.deref.result.now.date < 2 ^ 40 = small c in first_of (search (rules, k), omega (arith, ints, k))

pub loop-i-preserved : goal.loop-i-preserved
loop-i-preserved c =
    let es = c.args.entries.now in
    let l = c.loop-i.dates.of in
    let i = c.loop-i.i in
    let r = c.index-entries-i.result in
    let k : c.deref.result.now.date < 2 ^ 40 = small c in
    let v : ℤ = to_z w64 c.deref.result.now.date in
    let value : v ≡ pos r.value.date = to_z_pos w64 c.deref.result.now.date (omega (arith, k)) ∙ ap (λ z. pos z.date) c.deref.ensures in
    record {
      size = set_size es l i r v c.loop-i-test.true c.index-entries-i.is value c.loop-i.invariant.size c.requires.few;
      so_far = set_so_far es l i r v c.loop-i-test.true c.index-entries-i.is value c.loop-i.invariant.size c.requires.few c.loop-i.invariant.so_far;
      others = set_others es l i r v c.loop-i-test.true c.index-entries-i.is value c.loop-i.invariant.size c.requires.few c.loop-i.invariant.others;
    }

pub returns-clause-near : goal.returns-clause-near
returns-clause-near c =
    let es = c.args.entries.now in
    let le : length es ≤ c.loop-i.i = omega (arith, c.loop-i-test.false) in
    near_by c.loop-i.dates.of es (all_given c.loop-i.dates.of es c.loop-i.i le (omega (arith, c.loop-i.auto.i-end)) c.loop-i.invariant.so_far c.loop-i.invariant.others) c.requires.dated
