use Rattle.std.proofs.Common.{◌≡◌, ◌<◌, List, [], ◌∷◌, ◌++◌, length, map, set, sym, ap, subst, ◌∙◌, arith}
use Rattle.std.proofs.lemmas.List.{map-append}
use Rattle.crs_base.specs.declared.symbols.Sym.{Sym}
use Rattle.crs_base.specs.Entry.{Entry}
use Rattle.crs_base.specs.Seen.{entry_of}
use Rattle.crs_history.specs.Histories.{entries_of}
use Rattle.crs_history.specs.Lanes.{lane_of, IsSetTo}
use Rattle.crs_history.proofs.LaneEdits.{lane_here, lane_put, alike_set, alike_same, long_as}
use Rattle.crs_history.proofs.Trying.{on_err}
use Rattle.crs_history.proofs.lanes.Lanes.push.Goals as goal

pub returns-in_err-push_back-clause-err : goal.returns-in_err-push_back-clause-err
returns-in_err-push_back-clause-err c = on_err c.from_residual-in_err-push_back.result (λ n.
    let qs = c.self.inside.queues.items in
    let i = c.args.number in
    let long : length qs ≡ length c.open.new.self = sym (long_as (λ q. entries_of q.items) qs) ∙ ap length c.self.view_is in
    let opened : i < length c.open.new.self = c.in_ok-open.ensures.ok in
    let below : i < length qs = omega arith in
    let here : lane_of c.open.new.self i ≡ entries_of c.index_mut.result.now.items =
    sym (ap (λ (w : List (List (Entry Sym))). lane_of w i) c.self.view_is) ∙ lane_here (λ q. entries_of q.items) qs i c.index_mut.result.now below ∙ ap (λ q. entries_of q.items) (sym c.index_mut.ensures.value) in
    let put : IsSetTo c.open.new.self i (lane_of c.open.new.self i) (map (λ q. entries_of q.items) (set qs i c.push_back.new.self)) =
    subst (λ (w : List (List (Entry Sym))). IsSetTo w i (lane_of c.open.new.self i) (map (λ q. entries_of q.items) (set qs i c.push_back.new.self))) c.self.view_is
    (lane_put (λ q. entries_of q.items) qs i c.push_back.new.self (lane_of c.open.new.self i) below (ap entries_of c.in_err-push_back.ensures.items ∙ sym here)) in
    alike_same c.args.self.now c.open.new.self (map (λ q. entries_of q.items) (set qs i c.push_back.new.self)) i c.open.ensures.alike put n)

pub returns-clause-ok : goal.returns-clause-ok
returns-clause-ok c =
    let qs = c.self.inside.queues.items in
    let i = c.args.number in
    let e = entry_of c.args.entry.value in
    let long : length qs ≡ length c.open.new.self = sym (long_as (λ q. entries_of q.items) qs) ∙ ap length c.self.view_is in
    let opened : i < length c.open.new.self = c.in_ok-open.ensures.ok in
    let below : i < length qs = omega arith in
    let here : lane_of c.open.new.self i ≡ entries_of c.index_mut.result.now.items =
    sym (ap (λ (w : List (List (Entry Sym))). lane_of w i) c.self.view_is) ∙ lane_here (λ q. entries_of q.items) qs i c.index_mut.result.now below ∙ ap (λ q. entries_of q.items) (sym c.index_mut.ensures.value) in
    let more : entries_of c.push_back.new.self.items ≡ lane_of c.args.self.now i ++ e ∷ [] =
    ap entries_of c.in_ok-push_back.ensures.items ∙ map-append (λ r. entry_of r.value) c.index_mut.result.now.items (c.args.entry ∷ []) ∙ ap (λ w. w ++ e ∷ []) (sym here ∙ c.open.ensures.alike i) in
    alike_set c.args.self.now c.open.new.self (map (λ q. entries_of q.items) (set qs i c.push_back.new.self)) i (lane_of c.args.self.now i ++ e ∷ []) c.open.ensures.alike
    (subst (λ (w : List (List (Entry Sym))). IsSetTo w i (lane_of c.args.self.now i ++ e ∷ []) (map (λ q. entries_of q.items) (set qs i c.push_back.new.self))) c.self.view_is
    (lane_put (λ q. entries_of q.items) qs i c.push_back.new.self (lane_of c.args.self.now i ++ e ∷ []) below more))
