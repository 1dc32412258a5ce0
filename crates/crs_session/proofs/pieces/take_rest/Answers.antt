use Rattle.std.proofs.Common.{subst, [], refl}
use Rattle.crs_session.specs.Taking.{Takes}
use Rattle.crs_session.specs.Written.{Written}
use Rattle.crs_session.proofs.Taken.{all_given}
use Rattle.crs_session.proofs.pieces.take_rest.Goals as goal

pub returns : goal.returns
returns c =
    let t = c.in_ok-take_lines.ensures in
    record {
      told = t.told;
      ahead_is = all_given c.args.lines.now c.finish.new.self c.take_lines.new.lines t.told c.finish.ensures t.finished t.none (t.ahead_is [] (λ q. refl));
      takes = λ f s r. subst (λ (out : Written). Takes f c.args.session.now.layers.focus c.args.session.now.counts c.take_lines.new.session s t.told out c.take_lines.new.out) c.new-output.ensures (t.takes f s r);
    }
