use Rattle.std.proofs.Common.{◌∙◌, ◌+◌, sym, refl, subst, arith}
use Rattle.crs_rounds.specs.Sources.{AreSourcesAt}
use Rattle.crs_rounds.proofs.rounds.take_rounds.Goals as goal

pub loop-some-init : goal.loop-some-init
loop-some-init g c = record {
  inputs = refl;
  reading = omega arith;
  writing = omega arith;
  ready = c.requires.ready;
  count = c.requires.count;
  few = c.requires.few;
  low = omega arith;
  places = c.requires.sources;
  told = λ t f base old names a. a;
}

pub take_round-requires-clause-sources : goal.take_round-requires-clause-sources
take_round-requires-clause-sources g c =
    let i = c.loop-some.invariant in
    (c.loop-some.round, subst (λ k. AreSourcesAt k c.args.limit c.loop-some.round 0 c.loop-some.sources.items) (sym i.inputs) i.places)

pub loop-some-preserved : goal.loop-some-preserved
loop-some-preserved g c =
    let i = c.loop-some.invariant in
    let r = c.in-Ok.ensures in
    let q = r.sources c.loop-some.round (subst (λ k. AreSourcesAt k c.args.limit c.loop-some.round 0 c.loop-some.sources.items) (sym i.inputs) i.places) in
    let below = q.1 c.if-not-some.false in
    record {
      inputs = r.inputs ∙ i.inputs;
      reading = omega (arith, i.reading, r.reading);
      writing = omega (arith, i.writing, r.writing);
      ready = r.ready;
      count = r.length ∙ i.count ∙ sym r.count;
      few = let z = r.length in omega (arith, z, i.few);
      low = omega (arith, below);
      places = subst (λ k. AreSourcesAt k c.args.limit (c.loop-some.round + 1) 0 c.take_round.new.sources.items) i.inputs q.0;
      told = λ t f base old names a. (r.told t f base old names c.loop-some.round (i.told t f base old names a)).0;
    }

pub loop-some-smaller : goal.loop-some-smaller
loop-some-smaller g c =
    let i = c.loop-some.invariant in
    let q = c.in-Ok.ensures.sources c.loop-some.round (subst (λ k. AreSourcesAt k c.args.limit c.loop-some.round 0 c.loop-some.sources.items) (sym i.inputs) i.places) in
    let below = q.1 c.if-not-some.false in
    omega (arith, below)

pub overflow_add-round : goal.overflow_add-round
overflow_add-round g c =
    let i = c.loop-some.invariant in
    let q = c.in-Ok.ensures.sources c.loop-some.round (subst (λ k. AreSourcesAt k c.args.limit c.loop-some.round 0 c.loop-some.sources.items) (sym i.inputs) i.places) in
    let below = q.1 c.if-not-some.false in
    let fits = c.ranges.limit.fits in
    omega (arith, below, fits)

pub returns-in-Err-clause-told : goal.returns-in-Err-clause-told
returns-in-Err-clause-told g c = λ t f base old names a.
    c.in-Err.ensures.told t f base old names c.loop-some.round (c.loop-some.invariant.told t f base old names a)

pub returns-then-not-some-clause-told : goal.returns-then-not-some-clause-told
returns-then-not-some-clause-told g c = λ t f base old names a.
    let k = c.in-Ok.ensures.told t f base old names c.loop-some.round (c.loop-some.invariant.told t f base old names a) in
    (c.loop-some.round, k.0, k.1 c.if-not-some.true)
