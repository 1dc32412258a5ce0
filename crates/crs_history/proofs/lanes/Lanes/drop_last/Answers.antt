use Rattle.std.proofs.Common.{◌≡◌, ◌<◌, List, length, map, take, set, sym, ap, subst, ◌∙◌, ◌-◌, arith}
use Rattle.std.proofs.lemmas.List.{take-map}
use Rattle.crs_base.specs.declared.symbols.Sym.{Sym}
use Rattle.crs_base.specs.Entry.{Entry}
use Rattle.crs_base.specs.Seen.{entry_of}
use Rattle.crs_history.specs.Histories.{entries_of}
use Rattle.crs_history.specs.Lanes.{lane_of, IsSetTo}
use Rattle.crs_history.proofs.LaneEdits.{lane_here, lane_put, long_as}
use Rattle.crs_history.proofs.lanes.Lanes.drop_last.Goals as goal

pub returns : goal.returns
returns c =
    let qs = c.self.inside.queues.items in
    let i = c.args.number in
    let q = c.index_mut.result.now in
    let below : i < length qs = omega arith in
    let here : lane_of c.args.self.now i ≡ entries_of q.items =
    sym (ap (λ (w : List (List (Entry Sym))). lane_of w i) c.self.view_is) ∙ lane_here (λ q. entries_of q.items) qs i c.index_mut.result.now below ∙ ap (λ q. entries_of q.items) (sym c.index_mut.ensures.value) in
    let long : q.len ≡ length (lane_of c.args.self.now i) = q.ok.0 ∙ sym (long_as (λ r. entry_of r.value) q.items) ∙ ap length (sym here) in
    let lane = take (length (lane_of c.args.self.now i) - 1) (lane_of c.args.self.now i) in
    let left : entries_of c.pop_back.new.self.items ≡ lane =
    ap entries_of c.pop_back.ensures.rest ∙ sym (take-map (λ r. entry_of r.value) (q.len - 1) q.items) ∙ ap (take (q.len - 1)) (sym here) ∙ ap (λ n. take (n - 1) (lane_of c.args.self.now i)) long in
    subst (λ (w : List (List (Entry Sym))). IsSetTo w i lane (map (λ q. entries_of q.items) (set qs i c.pop_back.new.self))) c.self.view_is
    (lane_put (λ q. entries_of q.items) qs i c.pop_back.new.self lane below left)
