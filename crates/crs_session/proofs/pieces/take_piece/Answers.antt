use Rattle.std.proofs.Common.{◌∙◌, ap, sym, subst, true≢false}
use Rattle.crs_session.specs.Taking.{Takes}
use Rattle.crs_session.specs.Written.{Written}
use Rattle.crs_session.proofs.pieces.take_piece.Goals as goal

pub returns : goal.returns
returns c =
    let t = c.in_ok-take_lines.ensures in
    let k = c.in_ok-feed.ensures.kept in
    let open_ = ap (λ r. r.finished) k ∙ c.requires.open in
    record {
      told = t.told;
      limit = t.limit ∙ ap (λ r. r.limit) k;
      finished = t.finished ∙ ap (λ r. r.finished) k;
      fed = t.fed ∙ ap (λ r. r.fed) k;
      none = t.none;
      ahead_is = λ m. sym (c.in_ok-feed.ensures.ahead m) ∙ t.ahead_is m (λ q. absurd (true≢false (sym q ∙ open_)));
      takes = λ f s r. subst (λ (out : Written). Takes f c.args.session.now.layers.focus c.args.session.now.counts c.take_lines.new.session s t.told out c.take_lines.new.out) c.new-output.ensures (t.takes f s r);
    }
