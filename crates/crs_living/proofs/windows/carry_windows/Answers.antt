use Rattle.std.proofs.Common.{rules, ◌≡◌, ◌+◌, ◌∷◌, ◌++◌, [], refl}
use Rattle.crs_living.proofs.Carried.{carried_more}
use Rattle.crs_living.proofs.windows.carry_windows.Goals as goal

pub loop-k-preserved : goal.loop-k-preserved
loop-k-preserved c =
    let items : c.push.new.self.items ≡ c.loop-k.progress.items ++ c.carried.result ∷ [] = search rules in
    carried_more c.args.passing.now c.args.parent.now c.args.fork.now c.loop-k.k (c.loop-k.k + 1) c.loop-k.progress.items c.push.new.self.items c.carried.result refl items c.loop-k.invariant c.carried.ensures
