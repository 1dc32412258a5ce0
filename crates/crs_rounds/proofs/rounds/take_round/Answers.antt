use Rattle.std.proofs.Common.{◌≡◌, ◌∙◌, ◌<◌, ◌+◌, sym, refl, subst, arith, ℕ, set, length, true, true≢false}
use Rattle.std.proofs.lemmas.List.{length-set}
use Rattle.crs_rounds.specs.Sources.{AreSourcesAt, IsSourceAt, source_at}
use Rattle.crs_rounds.proofs.RoundEnds.{place_is, own_place, places_more, places_next, below_more, spent_more, round_end}
use Rattle.crs_rounds.proofs.rounds.take_round.Goals as goal

pub loop-feed-init : goal.loop-feed-init
loop-feed-init g c = record {
  inputs = refl;
  reading = omega arith;
  writing = omega arith;
  ready = c.requires.ready;
  count = refl;
  long = refl;
  within = omega arith;
  some_at = c.requires.sources;
  places = λ k p. (p, λ q. absurd (true≢false (sym q)));
  told = λ t f base old names round a. (a, λ e j l. absurd (omega (arith, l)));
}

pub take_turn-requires-clause-source : goal.take_turn-requires-clause-source
take_turn-requires-clause-source g c =
    let i = c.loop-feed.invariant in
    let ss = c.loop-feed.sources.items in
    let n = c.loop-feed.feed in
    let m = c.loop-feed-test.true in
    let e = c.len.ensures in
    let l : n < length ss = omega (arith, m, e) in
    let same = place_is ss n c.index_mut-source.result.now _ l c.index_mut-source.ensures.value in (
      i.some_at.0,
      subst (λ k. IsSourceAt k c.args.limit i.some_at.0 c.index_mut-source.result.now) (sym i.inputs)
          (subst (IsSourceAt (g.D.Desk.inputs c.args.desk.now) c.args.limit i.some_at.0) same
          (own_place (g.D.Desk.inputs c.args.desk.now) c.args.limit i.some_at.0 n ss i.some_at.1 l)),
    )

pub take_turn-requires-clause-feed : goal.take_turn-requires-clause-feed
take_turn-requires-clause-feed g c =
    let i = c.loop-feed.invariant in
    let m = c.loop-feed-test.true in
    let e = c.len.ensures in
    let r = c.requires.count in
    omega (arith, m, e, r, i.long, i.count)

pub loop-feed-preserved : goal.loop-feed-preserved
loop-feed-preserved g c =
    let i = c.loop-feed.invariant in
    let r = c.in-Ok.ensures in
    let ss = c.loop-feed.sources.items in
    let n = c.loop-feed.feed in
    let t = c.take_turn.new.source in
    let limit = c.args.limit in
    let inputs = g.D.Desk.inputs c.args.desk.now in
    let m = c.loop-feed-test.true in
    let e = c.len.ensures in
    let l : n < length ss = omega (arith, m, e) in
    let same : source_at ss n ≡ c.index_mut-source.result.now = place_is ss n c.index_mut-source.result.now _ l c.index_mut-source.ensures.value in
    let step : (k : ℕ) → AreSourcesAt inputs limit k n ss → AreSourcesAt inputs limit k (n + 1) (set ss n t) × (c.in-Ok.gave ≡ true → k < limit) =
    (λ k p.
    let own = subst (IsSourceAt inputs limit k) same (own_place inputs limit k n ss p l) in
    let q = r.source k (subst (λ j. IsSourceAt j limit k c.index_mut-source.result.now) (sym i.inputs) own) in
    (places_more inputs limit k n ss p t l (subst (λ j. IsSourceAt j limit (k + 1) t) i.inputs q.0), q.1)) in
    record {
      inputs = r.inputs ∙ i.inputs;
      reading = omega (arith, i.reading, r.reading);
      writing = omega (arith, i.writing, r.writing);
      ready = r.ready;
      count = r.count ∙ i.count;
      long = length-set ss n t ∙ i.long;
      within = let z = length-set ss n t in omega (arith, l, z);
      some_at = (i.some_at.0, (step i.some_at.0 i.some_at.1).0);
      places = λ k p.
          let h = i.places k p in
          let q = step k h.0 in
          (q.0, below_more k limit c.loop-feed.some c.in-Ok.gave c.is_either-some.result c.is_either-some.ensures h.1 q.1);
      told = λ tl f base old names round a.
          let b = i.told tl f base old names round a in
          let z = b.0.count in
          let w : n < length names = omega (arith, l, z) in
          let turn = r.told tl f base old names round ss w same b.0 in (
            turn.0,
            spent_more f base limit old names round n ss t c.loop-feed.some c.in-Ok.gave c.is_either-some.result l c.is_either-some.ensures b.1 turn.1,
          );
    }

pub returns-in-Err-clause-told : goal.returns-in-Err-clause-told
returns-in-Err-clause-told g c = λ tl f base old names round a.
    let i = c.loop-feed.invariant in
    let ss = c.loop-feed.sources.items in
    let n = c.loop-feed.feed in
    let m = c.loop-feed-test.true in
    let e = c.len.ensures in
    let l : n < length ss = omega (arith, m, e) in
    let same : source_at ss n ≡ c.index_mut-source.result.now = place_is ss n c.index_mut-source.result.now _ l c.index_mut-source.ensures.value in
    let b = i.told tl f base old names round a in
    let z = b.0.count in
    let w : n < length names = omega (arith, l, z) in
    c.in-Err.ensures.told tl f base old names round ss w same b.0

pub returns-clause-sources : goal.returns-clause-sources
returns-clause-sources g c = λ k p.
    let i = c.loop-feed.invariant in
    let ss = c.loop-feed.sources.items in
    let n = c.loop-feed.feed in
    let m = c.loop-feed-test.false in
    let e = c.len.ensures in
    let q = i.places k p in
    (places_next (g.D.Desk.inputs c.args.desk.now) c.args.limit k n ss q.0 (omega (arith, m, e, i.within)), q.1)

pub returns-clause-told : goal.returns-clause-told
returns-clause-told g c = λ tl f base old names round a.
    let i = c.loop-feed.invariant in
    let ss = c.loop-feed.sources.items in
    let n = c.loop-feed.feed in
    let m = c.loop-feed-test.false in
    let e = c.len.ensures in
    let b = i.told tl f base old names round a in
    let z = b.0.count in (
      round_end f base c.args.limit old names round n ss c.loop-feed.session c.loop-feed.out.items (g.D.Desk.told c.loop-feed.desk) (omega (arith, m, e, z, i.within)) b.0,
      λ q j w. b.1 q j (omega (arith, w, m, e, z, i.within)),
    )
