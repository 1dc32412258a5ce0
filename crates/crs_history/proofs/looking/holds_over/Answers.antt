use Rattle.std.proofs.Common.{◌≡◌, ℕ, ◌≤◌, List, filter, arith, sym, ap, subst, ◌∙◌}
use Rattle.std.specs.Prelude.{ℤ, pos, ◌<ℤ◌, ◌+ℤ◌}
use Rattle.std.proofs.lemmas.Int.{ints, to_z-of_z}
use mir.Val.{SFits}
use mir.Syntax.{w64}
use Rattle.crs_base.specs.declared.symbols.Sym.{Sym}
use Rattle.crs_base.specs.Entry.{Entry}
use Rattle.crs_base.specs.Seen.{entry_of}
use Rattle.crs_base.proofs.Words.{ordered_filter}
use Rattle.crs_history.specs.Histories.{EndsWith}
use Rattle.crs_history.specs.Dates.{IsByDate, nat_of}
use Rattle.crs_history.specs.Looking.{is_before, is_since, AllBring}
use Rattle.crs_history.proofs.Over.{front, middle, over_yes, over_middle, over_some, over_last}
use Rattle.crs_history.proofs.looking.holds_over.Goals as goal

by_date : (p : _) (xs ys : List (Entry Sym)) → ys ≡ filter p xs → IsByDate xs → IsByDate ys
by_date p xs ys e h = subst IsByDate (sym e) (ordered_filter (λ d e. d.date ≤ e.date) p xs h)

pub split-within-requires : goal.split-within-requires
split-within-requires c = by_date (is_since c.to_date_after.result) c.args.track.now c.split-until.result.1 c.split-until.ensures.since c.requires.by_date

pub split-of_its_date-requires : goal.split-of_its_date-requires
split-of_its_date-requires c = by_date (is_before c.to_date_after.result) c.args.track.now c.split-until.result.0 c.split-until.ensures.before c.requires.by_date

is_front : (v : Sym) (xs fr : List (Entry Sym)) (from to : ℤ) (n : ℕ) → n ≡ nat_of (from +ℤ pos 1) → fr ≡ filter (is_before n) xs → (a : _) → fr ≡ front a v xs from to
is_front v xs fr from to n one before a = before ∙ ap (λ k. filter (is_before k) xs) one

is_middle : (v : Sym) (xs back mid : List (Entry Sym)) (from to : ℤ) (n m : ℕ) → n ≡ nat_of (from +ℤ pos 1) → m ≡ nat_of to → back ≡ filter (is_since n) xs → mid ≡ filter (is_before m) back → (a : _) → mid ≡ middle a v xs from to
is_middle v xs back mid from to n m one two since part a =
    part ∙ ap (λ k. filter (is_before k) back) two ∙ ap (filter (is_before (nat_of to))) (since ∙ ap (λ k. filter (is_since k) xs) one)

pub returns-then-not-all_bring-clause-no : goal.returns-then-not-all_bring-clause-no
returns-then-not-all_bring-clause-no c = λ a all f holds.
    let xs = c.args.track.now in
    let v = c.args.value in
    let from = c.args.from in
    let to = c.args.to in
    let one : c.to_date_after.result ≡ nat_of (from +ℤ pos 1) = (let fits : SFits w64 from = c.ranges.from in simp to_z-of_z at c.to_date_after.ensures) in
    let two : c.to_date.result ≡ nat_of to = (let fits : SFits w64 to = c.ranges.to in simp to_z-of_z at c.to_date.ensures) in
    let lt : from <ℤ to = omega (arith, ints) in
    let same = is_middle v xs c.split-until.result.1 c.split-within.result.0 from to c.to_date_after.result c.to_date.result one two c.split-until.ensures.since c.split-within.ensures.before a in
    c.all_bring.ensures.no c.if-not-all_bring.true (subst (AllBring v) (sym same) (over_middle a v xs from to all lt holds))

pub returns-in-None-clause-no : goal.returns-in-None-clause-no
returns-in-None-clause-no c = λ a all f holds.
    let xs = c.args.track.now in
    let v = c.args.value in
    let from = c.args.from in
    let to = c.args.to in
    let one : c.to_date_after.result ≡ nat_of (from +ℤ pos 1) = (let fits : SFits w64 from = c.ranges.from in simp to_z-of_z at c.to_date_after.ensures) in
    let lt : from <ℤ to = omega (arith, ints) in
    let same = is_front v xs c.split-until.result.0 from to c.to_date_after.result one c.split-until.ensures.before a in
    over_some a v xs from to all lt holds (sym same ∙ c.latest.ensures.none c.in-None.is)

pub returns-in-Some-clause-no : goal.returns-in-Some-clause-no
returns-in-Some-clause-no c = λ a all f holds.
    let xs = c.args.track.now in
    let v = c.args.value in
    let from = c.args.from in
    let to = c.args.to in
    let one : c.to_date_after.result ≡ nat_of (from +ℤ pos 1) = (let fits : SFits w64 from = c.ranges.from in simp to_z-of_z at c.to_date_after.ensures) in
    let lt : from <ℤ to = omega (arith, ints) in
    let same = is_front v xs c.split-until.result.0 from to c.to_date_after.result one c.split-until.ensures.before a in
    let l = entry_of c.in-Some.last.now.value in
    let ends : EndsWith l (front a v xs from to) = subst (EndsWith l) same c.in-Some.ensures.some in
    let dated : IsByDate (front a v xs from to) = ordered_filter (λ d e. d.date ≤ e.date) (is_before (nat_of (from +ℤ pos 1))) xs c.requires.by_date in
    let date : c.deref.result.now.date ≡ l.date = ap (λ w. w.date) c.deref.ensures in
    let rest = c.split-of_its_date.ensures.since ∙ ap (λ k. filter (is_since k) c.split-until.result.0) date ∙ ap (filter (is_since l.date)) same in
    c.all_bring-in-Some.ensures.no f (subst (AllBring v) (sym rest) (over_last a v xs from to all lt holds l dated ends))

pub returns-in-Some-clause-yes : goal.returns-in-Some-clause-yes
returns-in-Some-clause-yes c = λ a all f.
    let xs = c.args.track.now in
    let v = c.args.value in
    let from = c.args.from in
    let to = c.args.to in
    let one : c.to_date_after.result ≡ nat_of (from +ℤ pos 1) = (let fits : SFits w64 from = c.ranges.from in simp to_z-of_z at c.to_date_after.ensures) in
    let two : c.to_date.result ≡ nat_of to = (let fits : SFits w64 to = c.ranges.to in simp to_z-of_z at c.to_date.ensures) in
    let same = is_front v xs c.split-until.result.0 from to c.to_date_after.result one c.split-until.ensures.before a in
    let mid = is_middle v xs c.split-until.result.1 c.split-within.result.0 from to c.to_date_after.result c.to_date.result one two c.split-until.ensures.since c.split-within.ensures.before a in
    let l = entry_of c.in-Some.last.now.value in
    let ends : EndsWith l (front a v xs from to) = subst (EndsWith l) same c.in-Some.ensures.some in
    let dated : IsByDate (front a v xs from to) = ordered_filter (λ d e. d.date ≤ e.date) (is_before (nat_of (from +ℤ pos 1))) xs c.requires.by_date in
    let date : c.deref.result.now.date ≡ l.date = ap (λ w. w.date) c.deref.ensures in
    let rest = c.split-of_its_date.ensures.since ∙ ap (λ k. filter (is_since k) c.split-until.result.0) date ∙ ap (filter (is_since l.date)) same in
    over_yes a v xs from to all l dated ends (subst (AllBring v) mid (c.all_bring.ensures.yes c.if-not-all_bring.false)) (subst (AllBring v) rest (c.all_bring-in-Some.ensures.yes f))
