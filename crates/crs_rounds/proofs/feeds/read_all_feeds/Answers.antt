use Rattle.std.proofs.Common.{sym, subst, List, ℕ}
use Rattle.crs_rounds.specs.Sources.{AreAt}
use Rattle.crs_rounds.proofs.RoundEnds.{ends}
use Rattle.crs_rounds.proofs.feeds.read_all_feeds.Goals as goal

pub returns-in-Ok-clause-told : goal.returns-in-Ok-clause-told
returns-in-Ok-clause-told g c = λ t f base old names a.
    let b = subst (λ (out : List ℕ). AreAt f base c.args.limit old names 0 0 c.args.sources.now.items c.args.session.now out (g.D.Desk.told c.args.desk.now)) (sym c.new-out.ensures.items) a in
    let k = c.in-Ok.ensures.told t f base old names b in
    ends f base c.args.limit old names k.0 c.take_rounds.new.sources.items c.take_rounds.new.session c.take_rounds.new.out.items (g.D.Desk.told c.take_rounds.new.desk) k.1 k.2
    c.write_text.result (g.D.Desk.told c.write_text.new.desk) (rw (c.as_slice.ensures.value, c.end_status.ensures) at (c.write_text.ensures.told t))

pub returns-clause-told : goal.returns-clause-told
returns-clause-told g c = λ t f base old names a.
    let b = subst (λ (out : List ℕ). AreAt f base c.args.limit old names 0 0 c.args.sources.now.items c.args.session.now out (g.D.Desk.told c.args.desk.now)) (sym c.new-out.ensures.items) a in
    c.in-Err.ensures.told t f base old names b
