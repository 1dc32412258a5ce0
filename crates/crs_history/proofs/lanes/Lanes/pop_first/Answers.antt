use Rattle.std.proofs.Common.{◌≡◌, ◌<◌, List, length, map, drop, set, sym, ap, subst, ◌∙◌, arith}
use Rattle.std.proofs.lemmas.List.{drop-map}
use Rattle.crs_base.specs.declared.symbols.Sym.{Sym}
use Rattle.crs_base.specs.Entry.{Entry}
use Rattle.crs_base.specs.Seen.{entry_of}
use Rattle.crs_history.specs.Histories.{entries_of}
use Rattle.crs_history.specs.Lanes.{lane_of, IsSetTo}
use Rattle.crs_history.proofs.LaneEdits.{lane_here, lane_put}
use Rattle.crs_history.proofs.lanes.Lanes.pop_first.Goals as goal

pub returns-clause-rest : goal.returns-clause-rest
returns-clause-rest c =
    let qs = c.self.inside.queues.items in
    let i = c.args.number in
    let below : i < length qs = omega arith in
    let here : lane_of c.args.self.now i ≡ entries_of c.index_mut.result.now.items =
    sym (ap (λ (w : List (List (Entry Sym))). lane_of w i) c.self.view_is) ∙ lane_here (λ q. entries_of q.items) qs i c.index_mut.result.now below ∙ ap (λ q. entries_of q.items) (sym c.index_mut.ensures.value) in
    let rest : entries_of c.pop_front.new.self.items ≡ drop 1 (lane_of c.args.self.now i) = ap entries_of c.pop_front.ensures.rest ∙ sym (drop-map (λ r. entry_of r.value) 1 c.index_mut.result.now.items) ∙ ap (drop 1) (sym here) in
    subst (λ (w : List (List (Entry Sym))). IsSetTo w i (drop 1 (lane_of c.args.self.now i)) (map (λ q. entries_of q.items) (set qs i c.pop_front.new.self))) c.self.view_is
    (lane_put (λ q. entries_of q.items) qs i c.pop_front.new.self (drop 1 (lane_of c.args.self.now i)) below rest)
