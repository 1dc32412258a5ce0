use Rattle.std.proofs.Common.{◌≡◌, filter, map, ap, sym, subst, ◌∙◌}
use Rattle.std.specs.List.Sorted.{IsStrictlySortedBy}
use Rattle.std.specs.Map.{keys_of}
use Rattle.crs_watch.specs.Watching.{Armed, touched_cmp, armed_pair, pairs_at, armed_cmp, is_touched}
use Rattle.crs_watch.proofs.Armed.{is_between, touched_between, pairs_ascend}
use Rattle.crs_watch.proofs.watch.Watch.touched.Goals as goal

pub returns-clause-exactly : goal.returns-clause-exactly
returns-clause-exactly g c =
    let cmp = g.K.Ord.cmp in
    let name = c.args.name in
    let date = c.args.date in
    let es = c.self.inside.armed.entries in
    let held : c.range-range.result ≡ filter (λ e. is_between cmp name e.0) es = rw (c.new.ensures.start, c.new.ensures.end) at c.range-range.ensures.between c.new.ensures.exhausted in
    let named = λ (xs : Armed g.row.K.Denot). map armed_pair (filter (is_touched cmp name date) xs) in
    c.new-2.ensures ∙ ap (pairs_at date) held ∙ ap (map armed_pair) (touched_between cmp name date es c.self.invariant) ∙ ap named c.self.view_is

pub returns-clause-ordered : goal.returns-clause-ordered
returns-clause-ordered g c = subst (λ xs. IsStrictlySortedBy (armed_cmp g.K.Ord.cmp) (keys_of xs)) c.self.view_is c.range-range.ensures.ordered

pub returns-clause-ascending : goal.returns-clause-ascending
returns-clause-ascending g c =
    let pairs = pairs_ascend g.K.Ord.cmp c.args.name c.args.date g.met.K.Ord.total c.args.self.now (returns-clause-ordered g c) in
    subst (IsStrictlySortedBy touched_cmp) (sym (returns-clause-exactly g c)) pairs
