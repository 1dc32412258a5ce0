use Rattle.std.proofs.Common.{rules, ◌≡◌, ◌∷◌, ◌++◌, [], Bool, true, false, sym, subst}
use Rattle.crs_base.specs.Seen.{entry_of}
use Rattle.crs_instance.specs.Instances.{IsOf}
use Rattle.crs_living.specs.declared.judging.Passing.{Passing}
use Rattle.crs_living.specs.Judgings.{IsPassedBy, IsAbleBy}
use Rattle.crs_living.specs.Scannings.{IsKeptIfAble}
use Rattle.crs_living.specs.Windows.{IsAble, IsBegun, IsPassed}
use Rattle.crs_living.proofs.Progress.{still_of}
use Rattle.crs_living.proofs.Scanned.{adds_none, adds_one, kept_able, kept_unable}
use Rattle.crs_living.proofs.deciding.keep_if_able.Goals as goal

no_both : (b : Bool) → b ≡ true → b ≡ false → ⊥
no_both b t f = absurd cc

pub begin_windows-requires-clause-fork : goal.begin_windows-requires-clause-fork
begin_windows-requires-clause-fork c = subst (λ (p : Passing). IsOf p.judging.plan.now c.args.next) (sym c.passing-passing.ensures) c.requires.next

pub go_on_to-requires-clause-of : goal.go_on_to-requires-clause-of
go_on_to-requires-clause-of c = still_of c.passing-passing.result.judging.plan.now c.args.next c.begin_windows.new.fork c.begin_windows.ensures.same (subst (λ (p : Passing). IsOf p.judging.plan.now c.args.next) (sym c.passing-passing.ensures) c.requires.next)

pub is_able-requires-clause-of : goal.is_able-requires-clause-of
is_able-requires-clause-of c = still_of c.passing-passing.result.judging.plan.now c.begin_windows.new.fork c.go_on_to.new.instance c.go_on_to.ensures.same (still_of c.passing-passing.result.judging.plan.now c.args.next c.begin_windows.new.fork c.begin_windows.ensures.same (subst (λ (p : Passing). IsOf p.judging.plan.now c.args.next) (sym c.passing-passing.ensures) c.requires.next))

pub returns-in_ok-push : goal.returns-in_ok-push
returns-in_ok-push c =
    let scan = c.args.scan.now in
    let begins : IsBegun scan.plan.now scan.history.now scan.since scan.parent.now c.args.next c.begin_windows.new.fork = subst (λ (p : Passing). IsBegun p.judging.plan.now p.history.now p.since scan.parent.now c.args.next c.begin_windows.new.fork) c.passing-passing.ensures c.begin_windows.ensures in
    let passes : IsPassed scan.plan.now scan.history.now scan.since scan.until c.begin_windows.new.fork c.go_on_to.new.instance = subst (λ (p : Passing). IsPassedBy p c.begin_windows.new.fork c.go_on_to.new.instance) c.passing-passing.ensures c.go_on_to.ensures in
    let of : IsOf scan.plan.now c.go_on_to.new.instance = subst (λ (p : Passing). IsOf p.judging.plan.now c.go_on_to.new.instance) c.passing-passing.ensures (still_of c.passing-passing.result.judging.plan.now c.begin_windows.new.fork c.go_on_to.new.instance c.go_on_to.ensures.same (still_of c.passing-passing.result.judging.plan.now c.args.next c.begin_windows.new.fork c.begin_windows.ensures.same (subst (λ (p : Passing). IsOf p.judging.plan.now c.args.next) (sym c.passing-passing.ensures) c.requires.next))) in
    let able : IsAble scan.plan.now scan.focus scan.until c.go_on_to.new.instance = subst (λ (p : Passing). IsAbleBy p.judging c.go_on_to.new.instance) c.passing-passing.ensures (c.is_able.ensures.0 c.if-is_able.true) in
    let items : c.push.new.self.items ≡ c.args.out.now.items ++ c.go_on_to.new.instance ∷ [] = search rules in
    adds_one scan.plan.now scan.focus scan.until (IsKeptIfAble scan.plan.now scan.focus scan.history.now (entry_of scan.entry.now) scan.since scan.until scan.parent.now c.args.next) c.args.out.now.items c.push.new.self.items c.go_on_to.new.instance items of able
    (kept_able scan.plan.now scan.focus c.requires.scan.proper scan.history.now (entry_of scan.entry.now) scan.since scan.until scan.parent.now c.args.next c.begin_windows.new.fork c.go_on_to.new.instance c.requires.scan.of c.requires.next of begins passes able)

pub returns-else-is_able : goal.returns-else-is_able
returns-else-is_able c =
    let scan = c.args.scan.now in
    let begins : IsBegun scan.plan.now scan.history.now scan.since scan.parent.now c.args.next c.begin_windows.new.fork = subst (λ (p : Passing). IsBegun p.judging.plan.now p.history.now p.since scan.parent.now c.args.next c.begin_windows.new.fork) c.passing-passing.ensures c.begin_windows.ensures in
    let passes : IsPassed scan.plan.now scan.history.now scan.since scan.until c.begin_windows.new.fork c.go_on_to.new.instance = subst (λ (p : Passing). IsPassedBy p c.begin_windows.new.fork c.go_on_to.new.instance) c.passing-passing.ensures c.go_on_to.ensures in
    let of : IsOf scan.plan.now c.go_on_to.new.instance = subst (λ (p : Passing). IsOf p.judging.plan.now c.go_on_to.new.instance) c.passing-passing.ensures (still_of c.passing-passing.result.judging.plan.now c.begin_windows.new.fork c.go_on_to.new.instance c.go_on_to.ensures.same (still_of c.passing-passing.result.judging.plan.now c.args.next c.begin_windows.new.fork c.begin_windows.ensures.same (subst (λ (p : Passing). IsOf p.judging.plan.now c.args.next) (sym c.passing-passing.ensures) c.requires.next))) in
    let unable : IsAble scan.plan.now scan.focus scan.until c.go_on_to.new.instance → ⊥ = subst (λ (p : Passing). IsAbleBy p.judging c.go_on_to.new.instance → ⊥) c.passing-passing.ensures (λ able. no_both c.is_able.result (c.is_able.ensures.1 able) c.if-is_able.false) in
    adds_none scan.plan.now scan.focus scan.until (IsKeptIfAble scan.plan.now scan.focus scan.history.now (entry_of scan.entry.now) scan.since scan.until scan.parent.now c.args.next) c.args.out.now.items
    (kept_unable scan.plan.now scan.focus c.requires.scan.proper scan.history.now (entry_of scan.entry.now) scan.since scan.until scan.parent.now c.args.next c.begin_windows.new.fork c.go_on_to.new.instance c.requires.scan.of c.requires.next of begins passes unable)
