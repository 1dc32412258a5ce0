use Rattle.std.proofs.Common.{◌≡◌, ◌<◌, ◌^◌, length, ap, arith}
use Rattle.std.proofs.lemmas.List.{length-map}
use mir.Syntax.{w64}
use mir.Val.{to_z, of_z}
use Rattle.crs_base.specs.Seen.{entry_of}
use Rattle.crs_audit.specs.Runs.{entries_of}
use Rattle.crs_audit.specs.CitedDates.{dated_in}
use Rattle.crs_audit.proofs.Stretches.{dated_few}
use Rattle.crs_audit.proofs.windows.count_in.Goals as goal

pub count-requires-clause-few : goal.count-requires-clause-few
count-requires-clause-few c =
    let few : length c.args.by_key.now < 2 ^ 32 = c.requires.few in
    let many : length (entries_of c.dated_in.result.now) ≡ length (dated_in (to_z w64 (of_z w64 c.args.from)) (to_z w64 (of_z w64 c.args.to)) (entries_of c.args.by_key.now)) = ap length c.dated_in.ensures in
    let less = dated_few (to_z w64 (of_z w64 c.args.from)) (to_z w64 (of_z w64 c.args.to)) (entries_of c.args.by_key.now) in
    let here : length (entries_of c.dated_in.result.now) ≡ length c.dated_in.result.now = length-map c.dated_in.result.now (λ r. entry_of r.value) in
    let all : length (entries_of c.args.by_key.now) ≡ length c.args.by_key.now = length-map c.args.by_key.now (λ r. entry_of r.value) in
    omega (arith, few, many, less, here, all)
