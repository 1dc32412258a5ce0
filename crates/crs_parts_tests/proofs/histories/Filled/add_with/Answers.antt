use Rattle.std.proofs.Common.{◌≡◌, ◌≤◌, ◌<◌, ◌+◌, [], ◌∷◌, ◌++◌, subst, sym, arith}
use Rattle.std.specs.Prelude.{pos, ◌≤ℤ◌}
use Rattle.std.specs.List.{AllByRecursion}
use Rattle.std.proofs.lemmas.Int.{ints}
use Rattle.crs_base.specs.Seen.{entry_of}
use Rattle.crs_history.specs.Histories.{HistoryState}
use Rattle.crs_history.proofs.Order.{after_keyed, keyed_with}
use Rattle.crs_parts_tests.proofs.histories.Filled.add_with.Goals as goal

pub push-requires-clause-after : goal.push-requires-clause-after
push-requires-clause-after c =
    let h = c.self.inside in
    let e = entry_of c.in_ok-entry.entry.value in
    let made = c.in_ok-entry.ensures {u = tt} in
    let date : h.last ≤ e.date = (let d : e.date ≡ c.args.date = made.0 in let l : h.last ≤ c.args.date = c.if-date-self.false in omega arith) in
    let number : h.count ≤ e.arrival = (let a : e.arrival ≡ h.count = made.1 in omega arith) in
    after_keyed h.history.entries h.last h.count e c.self.invariant.0 date number made.2

pub invariant_of-self-2 : goal.invariant_of-self-2
invariant_of-self-2 c =
    let h = c.self.inside in
    let e = entry_of c.in_ok-entry.entry.value in
    let made = c.in_ok-entry.ensures {u = tt} in
    let date : h.last ≤ e.date = (let d : e.date ≡ c.args.date = made.0 in let l : h.last ≤ c.args.date = c.if-date-self.false in omega arith) in
    let number : h.count ≤ e.arrival = (let a : e.arrival ≡ h.count = made.1 in omega arith) in
    let all : AllByRecursion (λ d. (d.date ≤ c.args.date) × (d.arrival < h.count + 1) × (d.text ≡ [])) (h.history.entries ++ e ∷ []) =
    subst (λ m. AllByRecursion (λ d. (d.date ≤ c.args.date) × (d.arrival < m + 1) × (d.text ≡ [])) (h.history.entries ++ e ∷ [])) made.1
    (subst (λ n. AllByRecursion (λ d. (d.date ≤ n) × (d.arrival < e.arrival + 1) × (d.text ≡ [])) (h.history.entries ++ e ∷ [])) made.0
    (keyed_with h.history.entries h.last h.count e c.self.invariant.0 date number made.2)) in
    let floor : h.history.floor ≤ℤ pos c.args.date = (let f : h.history.floor ≤ℤ pos h.last = c.self.invariant.1 in let l : h.last ≤ c.args.date = c.if-date-self.false in omega (arith, ints)) in
    subst (λ (w : HistoryState). AllByRecursion (λ d. (d.date ≤ c.args.date) × (d.arrival < h.count + 1) × (d.text ≡ [])) w.entries × (w.floor ≤ℤ pos c.args.date)) (sym c.in_ok-push.ensures.ok) (all, floor)
