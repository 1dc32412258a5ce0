use Rattle.std.proofs.Common.{◌++◌, [], ◌∷◌, ◌∙◌, ap, sym, refl, append_assoc, List}
use Rattle.crs_log.specs.Given.{seen}
use Rattle.crs_log.specs.Reading.{Given, Gives, ahead}
use Rattle.crs_frames.proofs.ShortLines.{given_short}
use Rattle.crs_session.proofs.Taken.{takes_more, takes_none}
use Rattle.crs_session.proofs.pieces.take_lines.Goals as goal

pub take_line-requires-clause-short : goal.take_line-requires-clause-short
take_line-requires-clause-short c =
    given_short c.loop-line.lines c.next_line.follows.lender-at-none (seen c.in-Some.line) (c.loop-line.invariant.limit ∙ c.requires.limit)
    (rw c.in-Some.is at c.next_line.follows.holds-at-none)

pub loop-line-preserved : goal.loop-line-preserved
loop-line-preserved c =
    let g = seen c.in-Some.line in
    let m : Gives c.loop-line.lines g c.next_line.follows.lender-at-none = rw c.in-Some.is at c.next_line.follows.holds-at-none in
    let i = c.loop-line.invariant in
    record {
      told = i.told ++ g ∷ [];
      ready = let b = c.in_ok-take_line.ensures i.ready.0 i.ready.1 i.ready.2 in (i.ready.0, b.next, b.state);
      limit = m.limit ∙ i.limit;
      finished = m.finished ∙ i.finished;
      fed = m.fed ∙ i.fed;
      ahead_is = λ n h. i.ahead_is n h ∙ ap (λ (gs : List Given). i.told ++ gs) (m.ahead n (λ q. h (sym i.finished ∙ q))) ∙ sym (append_assoc i.told (g ∷ []) (ahead c.next_line.follows.lender-at-none n));
      takes = λ f s r. takes_more f _ _ c.loop-line.session c.take_line.new.session s i.told g _ c.loop-line.out c.take_line.new.out (i.takes f s r) c.in_ok-take_line.ensures;
    }

pub loop-line-init : goal.loop-line-init
loop-line-init c = record {
  told = [];
  ready = c.requires.ready;
  limit = refl;
  finished = refl;
  fed = refl;
  ahead_is = λ m h. refl;
  takes = λ f s r. takes_none f c.args.session.now s c.args.out.now r;
}
