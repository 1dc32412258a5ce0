use Rattle.std.proofs.Common.{◌≡◌, ◌∙◌, ap, sym, subst, arith, length, map, List, [], ◌+◌}
use Rattle.std.proofs.lemmas.List.{length-map}
use Rattle.crs_rounds.specs.Sources.{AreSourcesAt, AreAt}
use Rattle.crs_rounds.specs.declared.source.Source.{Source}
use Rattle.crs_rounds.proofs.RoundEnds.{count_new, places_new, at_first, follow_stopped, follow_unopened}
use Rattle.crs_rounds.proofs.feeds.follow_all.Goals as goal

pub read_all_feeds-requires-clause-sources : goal.read_all_feeds-requires-clause-sources
read_all_feeds-requires-clause-sources g c =
    let names = map (λ n. n.now) c.args.logs.now in
    let base = g.D.Desk.inputs c.args.desk.now in
    let all = c.in-Ok.ensures.all in
    let e : base + length names ≡ g.D.Desk.inputs c.open_all.new.desk = omega (arith, all, length-map c.args.logs.now (λ n. n.now)) in
    subst (λ k. AreSourcesAt k c.args.limit 0 0 c.in-Ok.sources.items) e
    (subst (λ (ss : List Source). AreSourcesAt (base + length names) c.args.limit 0 0 ss) (sym c.in-Ok.ensures.new) (places_new base c.args.limit names))

pub read_all_feeds-requires-clause-count : goal.read_all_feeds-requires-clause-count
read_all_feeds-requires-clause-count g c =
    let names = map (λ n. n.now) c.args.logs.now in
    ap length c.in-Ok.ensures.new ∙ count_new (g.D.Desk.inputs c.args.desk.now) names ∙ length-map c.args.logs.now (λ n. n.now) ∙ sym c.requires.count

pub read_all_feeds-requires-clause-few : goal.read_all_feeds-requires-clause-few
read_all_feeds-requires-clause-few g c =
    let names = map (λ n. n.now) c.args.logs.now in
    let e = ap length c.in-Ok.ensures.new in
    omega (arith, e, count_new (g.D.Desk.inputs c.args.desk.now) names, length-map c.args.logs.now (λ n. n.now), c.requires.most)

pub returns-in-Ok-clause-told : goal.returns-in-Ok-clause-told
returns-in-Ok-clause-told g c = λ t f r.
    let names = map (λ n. n.now) c.args.logs.now in
    let base = g.D.Desk.inputs c.args.desk.now in
    let old = g.D.Desk.told c.args.desk.now in
    let all = c.in-Ok.ensures.all in
    let count = c.read_all_feeds.ensures.inputs in
    let long = length-map c.args.logs.now (λ n. n.now) in
    follow_stopped f base c.args.limit old names _ c.read_all_feeds.new.sources.items c.read_all_feeds.result _ (omega (arith, all, count, long))
    (c.read_all_feeds.ensures.told t f base old names
    (subst (λ (ss : List Source). AreAt f base c.args.limit old names 0 0 ss c.args.session.now [] (g.D.Desk.told c.open_all.new.desk)) (sym c.in-Ok.ensures.new)
    (at_first f base c.args.limit old names c.args.session.now (g.D.Desk.told c.open_all.new.desk) (g.met.D.Desk.places c.args.desk.now t) (c.in-Ok.ensures.told t) r
    (c.requires.count ∙ sym long) c.requires.clean)))

pub returns-in-Err-clause-told : goal.returns-in-Err-clause-told
returns-in-Err-clause-told g c = λ t f r.
    let names = map (λ n. n.now) c.args.logs.now in
    let h = c.in-Err.ensures.told t in
    follow_unopened f (g.D.Desk.inputs c.args.desk.now) c.args.limit (g.D.Desk.told c.args.desk.now) names _ h.0 h.1 c.in-Err.status _ h.2
