use Rattle.std.proofs.Common.{rules, ◌≡◌, map}
use Rattle.std.proofs.lemmas.Result.{IfOk-weaker}
use Rattle.crs_base.specs.Seen.{entry_of}
use Rattle.crs_audit.specs.Cited.{ArePushed}
use Rattle.crs_audit.proofs.Numbered.{pushed_then, shared}
use Rattle.crs_audit.proofs.citing.+push_cited.Goals as goal

pub returns : goal.returns
returns t c =
    let all = map (λ e. entry_of e.value) c.args.all.now in
    let same : c.in_ok-clone.field-0.value ≡ c.in-Some-available.entry.now.value = search rules in
    IfOk-weaker c.push_cited.result _
    (ArePushed all c.args.at c.args.prompt c.args.numbers.now (map (λ e. entry_of e.value) c.args.out.now) (map (λ e. entry_of e.value) c.push_cited.new.out))
    (λ b h. pushed_then all c.args.at c.args.prompt c.args.numbers.now c.in-Some.rest.now c.in-Some.number.now (entry_of c.in-Some-available.entry.now.value)
    (map (λ e. entry_of e.value) c.args.out.now) (map (λ e. entry_of e.value) c.push.new.self) (map (λ e. entry_of e.value) c.push_cited.new.out) b (search rules)
    c.in-Some-available.ensures (shared c.args.out.now c.push.new.self c.in_ok-clone.field-0 c.in-Some-available.entry.now c.in_ok-push.ensures.ok same) h)
    c.push_cited.ensures
