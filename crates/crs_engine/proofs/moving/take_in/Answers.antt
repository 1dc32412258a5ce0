use Rattle.std.proofs.Common.{map, sym, true≢false, ◌∙◌}
use Rattle.crs_base.specs.Seen.{entry_of}
use Rattle.crs_engine.proofs.Passed.{passed}
use Rattle.crs_engine.proofs.moving.take_in.Goals as goal

pub returns-then-not-concerned-clause-taken : goal.returns-then-not-concerned-clause-taken
returns-then-not-concerned-clause-taken g c =
    passed c.args.store.now c.args.history.now (entry_of c.args.entry.now.value) c.args.coming.now.until (map (λ r. entry_of r.value) c.args.coming.now.ahead.now) c.args.coming.now.beyond c.args.coming.now.behind c.requires.coming.later (λ k. true≢false (sym (c.requires.told k) ∙ c.if-not-concerned.true)) c.pass_over.ensures
