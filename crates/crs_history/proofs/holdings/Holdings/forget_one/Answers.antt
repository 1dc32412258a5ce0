use Rattle.std.proofs.Common.{◌≡◌, ◌≤◌, ◌<◌, ◌+◌, ◌-◌, List, ◌∷◌, ◌++◌, length, drop, sym, ap, subst, ◌∙◌, refl, arith, true≢false}
use Rattle.std.specs.List.{AllByRecursion}
use Rattle.crs_base.specs.declared.symbols.Sym.{Sym}
use Rattle.crs_base.specs.Entry.{Entry}
use Rattle.crs_base.specs.Seen.{entry_of}
use Rattle.crs_base.specs.Values.{Attribute}
use Rattle.crs_history.specs.Histories.{entries_of, attribute_of}
use Rattle.crs_history.specs.Tracks.{TracksState, track_of, TakesFirst, BeginsSince}
use Rattle.crs_history.specs.Holdings.{HoldingsState, held_of, IsChanging, IsPast}
use Rattle.crs_history.specs.Older.{older_of}
use Rattle.crs_history.proofs.Left.{drops_none}
use Rattle.crs_history.proofs.HeldSteps.{ring_head, ring_since, ordered_behind}
use Rattle.crs_history.proofs.Stepping.{Stepped, plain_step, aged_step, some_older, left_step}
use Rattle.crs_history.proofs.holdings.Holdings.forget_one.Goals as goal

pub returns-in_default-clause-past : goal.returns-in_default-clause-past
returns-in_default-clause-past c = drops_none (IsPast (held_of c.args.self.now) c.args.date) (held_of c.args.self.now)

pub returns-then-deref-date-clause-past : goal.returns-then-deref-date-clause-past
returns-then-deref-date-clause-past c = drops_none (IsPast (held_of c.args.self.now) c.args.date) (held_of c.args.self.now)

pub returns-then-deref-date-clause-done : goal.returns-then-deref-date-clause-done
returns-then-deref-date-clause-done c = λ _.
    let items = c.self.inside.ring.items in
    let f = c.in-Some.first.now in
    let x = entry_of f.value in
    let long : c.self.inside.ring.len ≡ length items = c.self.inside.ring.ok.0 in
    let some : 0 < length items = (let k = c.in-Some.ensures.variant.0 refl in omega arith) in
    let is = ring_head items f some c.in-Some.ensures.lookup in
    let late : c.args.date ≤ x.date = (let d : c.deref.result.now.date ≡ x.date = ap (λ w. w.date) c.deref.ensures in let t : c.args.date ≤ c.deref.result.now.date = c.if-deref-date.true in omega arith) in
    let all = ring_since c.args.date x (entries_of (drop 1 items)) late (ordered_behind (older_of c.self.inside.tracks.lanes (entries_of items)) (x ∷ entries_of (drop 1 items)) (subst (λ (w : List (Entry Sym)). Rattle.crs_base.specs.Entry.IsInKeyOrder (older_of c.self.inside.tracks.lanes (entries_of items) ++ w)) is c.self.invariant.0.in_order)) in
    subst (λ (w : HoldingsState). AllByRecursion (λ e. c.args.date ≤ e.date) w.ring) c.self.view_is
    (subst (λ (w : List (Entry Sym)). AllByRecursion (λ e. c.args.date ≤ e.date) w) (sym is) all)

plain : (c : goal.After-keep) → Stepped c.args.self.now c.args.date c.self.inside.count (older_of c.self.inside.tracks.lanes (entries_of c.pop_first.new.ring.items)) (entries_of c.pop_first.new.ring.items) c.pop_first.new.keyed c.self.inside.tracks
plain c =
    let h = c.self.inside in
    let items = h.ring.items in
    let f = c.in-Some.first.now in
    let x = entry_of f.value in
    let rest = entries_of (drop 1 items) in
    let long : h.ring.len ≡ length items = h.ring.ok.0 in
    let some : 0 < length items = (let k = c.in-Some.ensures.variant.0 refl in omega arith) in
    let is : entries_of items ≡ x ∷ rest = ring_head items f some c.in-Some.ensures.lookup in
    let early : x.date < c.args.date = (let d : c.deref.result.now.date ≡ x.date = ap (λ w. w.date) c.deref.ensures in let t : c.deref.result.now.date < c.args.date = c.if-deref-date.false in omega arith) in
    let p = c.pop_first.ensures x rest is in
    let no : IsChanging x → ⊥ = λ s. true≢false (sym s ∙ ap (λ w. Rattle.std.specs.Option.is_some w.change) (sym c.deref-2.ensures) ∙ c.if-is_none.ensures) in
    plain_step c.args.self.now h.count (older_of h.tracks.lanes (entries_of items)) (entries_of items) rest x h.keyed h.tracks c.self.view_is c.self.invariant.0 c.self.invariant.1 is c.args.date early (entries_of c.pop_first.new.ring.items) c.pop_first.new.keyed p.0 p.1 no

pub invariant_of-self : goal.invariant_of-self
invariant_of-self c = ((plain c).held, (plain c).counted)

pub returns-then-is_none-clause-latest : goal.returns-then-is_none-clause-latest
returns-then-is_none-clause-latest c = (plain c).held.latest

pub returns-then-is_none-clause-before : goal.returns-then-is_none-clause-before
returns-then-is_none-clause-before c = (plain c).before

pub returns-then-is_none-clause-past : goal.returns-then-is_none-clause-past
returns-then-is_none-clause-past c = (plain c).past

pub returns-then-is_none-clause-shrinks : goal.returns-then-is_none-clause-shrinks
returns-then-is_none-clause-shrinks c = λ _. (plain c).shrinks

aged : (c : goal.Joined-pop_first) → Stepped c.args.self.now c.args.date (c.self.inside.count + 1) (older_of c.pop_before.new.self.lanes (entries_of c.pop_first-2.new.ring.items)) (entries_of c.pop_first-2.new.ring.items) c.pop_first-2.new.keyed c.pop_before.new.self
aged c =
    let h = c.self.inside in
    let items = h.ring.items in
    let f = c.in-Some.first.now in
    let x = entry_of f.value in
    let rest = entries_of (drop 1 items) in
    let long : h.ring.len ≡ length items = h.ring.ok.0 in
    let some : 0 < length items = (let k = c.in-Some.ensures.variant.0 refl in omega arith) in
    let is : entries_of items ≡ x ∷ rest = ring_head items f some c.in-Some.ensures.lookup in
    let early : x.date < c.args.date = (let d : c.deref.result.now.date ≡ x.date = ap (λ w. w.date) c.deref.ensures in let t : c.deref.result.now.date < c.args.date = c.if-deref-date.false in omega arith) in
    let changing : IsChanging x = ap (λ w. Rattle.std.specs.Option.is_some w.change) (sym c.deref-2.ensures) ∙ c.if-is_none.ensures in
    let same : (let a : Attribute Sym = record { name = c.deref-3.result.now.name; args = c.deref-4.result.now.args } in a) ≡ attribute_of x =
    (λ i. record { name = (ap (λ w. w.name) c.deref-3.ensures) i; args = (ap (λ w. w.args) c.deref-4.ensures) i }) in
    let begins : BeginsSince x.date (track_of h.tracks (attribute_of x)) =
    subst (λ (w : Attribute Sym). BeginsSince x.date (track_of h.tracks w)) same (subst (λ w. BeginsSince w.date (track_of h.tracks (record { name = c.deref-3.result.now.name; args = c.deref-4.result.now.args }))) c.deref-5.ensures (c.in_default-pop_before.ensures.none refl)) in
    let p = c.pop_first-2.ensures x rest is in
    subst (λ (w : TracksState). Stepped c.args.self.now c.args.date (h.count + 1) (older_of w.lanes (entries_of c.pop_first-2.new.ring.items)) (entries_of c.pop_first-2.new.ring.items) c.pop_first-2.new.keyed w) (sym (c.in_default-pop_before.ensures.same refl))
    (aged_step c.args.self.now h.count (older_of h.tracks.lanes (entries_of items)) (entries_of items) rest x h.keyed h.tracks c.self.view_is c.self.invariant.0 c.self.invariant.1 is c.args.date early changing begins
    (entries_of c.pop_first-2.new.ring.items) c.pop_first-2.new.keyed p.0 p.1)

pub invariant_of-self-2 : goal.invariant_of-self-2
invariant_of-self-2 c = ((aged c).held, (aged c).counted)

pub returns-clause-latest : goal.returns-clause-latest
returns-clause-latest c = (aged c).held.latest

pub returns-clause-before : goal.returns-clause-before
returns-clause-before c = (aged c).before

pub returns-clause-past : goal.returns-clause-past
returns-clause-past c = (aged c).past

pub returns-clause-shrinks : goal.returns-clause-shrinks
returns-clause-shrinks c = λ _. (aged c).shrinks

pub overflow_sub-self : goal.overflow_sub-self
overflow_sub-self c =
    let h = c.self.inside in
    let items = h.ring.items in
    let f = c.in-Some.first.now in
    let x = entry_of f.value in
    let y = entry_of c.in-Some-pop_before.overtaken.value in
    let rest = entries_of (drop 1 items) in
    let long : h.ring.len ≡ length items = h.ring.ok.0 in
    let some : 0 < length items = (let k = c.in-Some.ensures.variant.0 refl in omega arith) in
    let is : entries_of items ≡ x ∷ rest = ring_head items f some c.in-Some.ensures.lookup in
    let early : x.date < c.args.date = (let d : c.deref.result.now.date ≡ x.date = ap (λ w. w.date) c.deref.ensures in let t : c.deref.result.now.date < c.args.date = c.if-deref-date.false in omega arith) in
    let changing : IsChanging x = ap (λ w. Rattle.std.specs.Option.is_some w.change) (sym c.deref-2.ensures) ∙ c.if-is_none.ensures in
    let same : (let a : Attribute Sym = record { name = c.deref-3.result.now.name; args = c.deref-4.result.now.args } in a) ≡ attribute_of x =
    (λ i. record { name = (ap (λ w. w.name) c.deref-3.ensures) i; args = (ap (λ w. w.args) c.deref-4.ensures) i }) in
    let takes : TakesFirst h.tracks (attribute_of x) y c.pop_before.new.self = subst (λ (w : Attribute Sym). TakesFirst h.tracks w y c.pop_before.new.self) same c.in-Some-pop_before.ensures.first in
    let overtaken : y.date < x.date = (let d : c.deref-5.result.now.date ≡ x.date = ap (λ w. w.date) c.deref-5.ensures in let t : y.date < c.deref-5.result.now.date = c.in-Some-pop_before.ensures.before in omega arith) in
    some_older c.args.self.now h.count (older_of h.tracks.lanes (entries_of items)) (entries_of items) rest x h.keyed h.tracks c.self.view_is c.self.invariant.0 c.self.invariant.1 is c.args.date early changing y c.pop_before.new.self takes overtaken

left : (c : goal.After-keep-in-Some-pop_before) → Stepped c.args.self.now c.args.date (c.self.inside.count - 1) (older_of c.pop_before.new.self.lanes (entries_of c.self.inside.ring.items)) (entries_of c.self.inside.ring.items) c.self.inside.keyed c.pop_before.new.self
left c =
    let h = c.self.inside in
    let items = h.ring.items in
    let f = c.in-Some.first.now in
    let x = entry_of f.value in
    let y = entry_of c.in-Some-pop_before.overtaken.value in
    let rest = entries_of (drop 1 items) in
    let long : h.ring.len ≡ length items = h.ring.ok.0 in
    let some : 0 < length items = (let k = c.in-Some.ensures.variant.0 refl in omega arith) in
    let is : entries_of items ≡ x ∷ rest = ring_head items f some c.in-Some.ensures.lookup in
    let early : x.date < c.args.date = (let d : c.deref.result.now.date ≡ x.date = ap (λ w. w.date) c.deref.ensures in let t : c.deref.result.now.date < c.args.date = c.if-deref-date.false in omega arith) in
    let changing : IsChanging x = ap (λ w. Rattle.std.specs.Option.is_some w.change) (sym c.deref-2.ensures) ∙ c.if-is_none.ensures in
    let same : (let a : Attribute Sym = record { name = c.deref-3.result.now.name; args = c.deref-4.result.now.args } in a) ≡ attribute_of x =
    (λ i. record { name = (ap (λ w. w.name) c.deref-3.ensures) i; args = (ap (λ w. w.args) c.deref-4.ensures) i }) in
    let takes : TakesFirst h.tracks (attribute_of x) y c.pop_before.new.self = subst (λ (w : Attribute Sym). TakesFirst h.tracks w y c.pop_before.new.self) same c.in-Some-pop_before.ensures.first in
    let overtaken : y.date < x.date = (let d : c.deref-5.result.now.date ≡ x.date = ap (λ w. w.date) c.deref-5.ensures in let t : y.date < c.deref-5.result.now.date = c.in-Some-pop_before.ensures.before in omega arith) in
    left_step c.args.self.now h.count (older_of h.tracks.lanes (entries_of items)) (entries_of items) rest x h.keyed h.tracks c.self.view_is c.self.invariant.0 c.self.invariant.1 is c.args.date early changing y c.pop_before.new.self takes overtaken c.pop_before.ensures.owned

pub invariant_of-self-in-Some-pop_before : goal.invariant_of-self-in-Some-pop_before
invariant_of-self-in-Some-pop_before c = ((left c).held, (left c).counted)

pub returns-in-Some-pop_before-clause-latest : goal.returns-in-Some-pop_before-clause-latest
returns-in-Some-pop_before-clause-latest c = (left c).held.latest

pub returns-in-Some-pop_before-clause-before : goal.returns-in-Some-pop_before-clause-before
returns-in-Some-pop_before-clause-before c = (left c).before

pub returns-in-Some-pop_before-clause-past : goal.returns-in-Some-pop_before-clause-past
returns-in-Some-pop_before-clause-past c = (left c).past

pub returns-in-Some-pop_before-clause-shrinks : goal.returns-in-Some-pop_before-clause-shrinks
returns-in-Some-pop_before-clause-shrinks c = λ _. (left c).shrinks
