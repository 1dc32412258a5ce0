use Rattle.std.proofs.Common.{◌∙◌, ◌<◌, ◌+◌, sym, refl, arith, length, map, get_or, []}
use Rattle.std.proofs.lemmas.List.{length-map, get_or-map}
use Rattle.crs_rounds.proofs.Openings.{sources_one, one_opened, open_failed, open_refused, open_wanting}
use Rattle.crs_rounds.proofs.sources.open_all.Goals as goal

pub returns-in-Err-Failed-clause-told : goal.returns-in-Err-Failed-clause-told
returns-in-Err-Failed-clause-told g c = λ t.
    let names = map (λ n. n.now) c.args.names.now in
    let k = c.loop-name.name-index in
    let l : k < length names = (let m = c.loop-name-test.true in omega (arith, m, length-map c.args.names.now (λ n. n.now))) in (
      k + 1,
      k,
      open_failed (g.D.Desk.told c.args.desk.now) (g.D.Desk.told c.loop-name.desk) (g.D.Desk.told c.open.new.self) names k _ l
          (sym (get_or-map (λ n. n.now) c.args.names.now k _ [] c.loop-name-test.true)) (c.loop-name.invariant.told t) (g.D.Desk.inputs c.args.desk.now) _
          (c.in-Err-Failed.ensures.err ∙ c.loop-name.invariant.inputs) (rw c.in-Err-Failed.field-0-is at (c.in-Err-Failed.ensures.told t)),
    )

pub returns-in-Err-Memory-clause-told : goal.returns-in-Err-Memory-clause-told
returns-in-Err-Memory-clause-told g c = λ t.
    let names = map (λ n. n.now) c.args.names.now in
    let k = c.loop-name.name-index in
    let l : k < length names = (let m = c.loop-name-test.true in omega (arith, m, length-map c.args.names.now (λ n. n.now))) in (
      k,
      k,
      open_refused (g.D.Desk.told c.args.desk.now) (g.D.Desk.told c.loop-name.desk) (g.D.Desk.told c.open.new.self) names k _ l
          (sym (get_or-map (λ n. n.now) c.args.names.now k _ [] c.loop-name-test.true)) (c.loop-name.invariant.told t) (g.D.Desk.inputs c.args.desk.now) _
          (c.in-Err-Memory.ensures.err ∙ c.loop-name.invariant.inputs) (rw c.in-Err-Memory.field-0-is at (c.in-Err-Memory.ensures.told t)),
    )

pub returns-in_default-clause-told : goal.returns-in_default-clause-told
returns-in_default-clause-told g c = λ t.
    let names = map (λ n. n.now) c.args.names.now in
    let k = c.loop-name.name-index in
    let ok = c.in-Ok.ensures.ok in
    let i = c.loop-name.invariant.inputs in
    let l : k < length names = (let m = c.loop-name-test.true in omega (arith, m, length-map c.args.names.now (λ n. n.now))) in (
      k + 1,
      k + 1,
      open_wanting (g.D.Desk.told c.args.desk.now) (g.D.Desk.told c.loop-name.desk) (g.D.Desk.told c.open.new.self) names k _ l
          (sym (get_or-map (λ n. n.now) c.args.names.now k _ [] c.loop-name-test.true)) (c.loop-name.invariant.told t) (g.D.Desk.inputs c.args.desk.now) _ c.in-Ok.input
          (omega (arith, ok, i)) (c.in-Ok.ensures.told t),
    )

pub loop-name-preserved : goal.loop-name-preserved
loop-name-preserved g c =
    let names = map (λ n. n.now) c.args.names.now in
    let k = c.loop-name.name-index in
    let ok = c.in-Ok.ensures in
    let i = c.loop-name.invariant in
    let l : k < length names = (let m = c.loop-name-test.true in omega (arith, m, length-map c.args.names.now (λ n. n.now))) in
    record {
      inputs = omega (arith, ok.ok, i.inputs);
      reading = omega (arith, i.reading, ok.reading.later);
      writing = omega (arith, i.writing, ok.writing);
      sources = sources_one (g.D.Desk.inputs c.args.desk.now) k c.in-Ok.input names (get_or names k []) c.loop-name.sources.items c.push_source.new.sources.items l refl
          (ok.number ∙ i.inputs) i.sources c.in-Ok-push_source.ensures;
      told = λ t. one_opened (g.D.Desk.told c.args.desk.now) (g.D.Desk.told c.loop-name.desk) (g.D.Desk.told c.open.new.self) names k _ l
          (sym (get_or-map (λ n. n.now) c.args.names.now k _ [] c.loop-name-test.true)) (i.told t) c.in-Ok.input (ok.told t);
    }
