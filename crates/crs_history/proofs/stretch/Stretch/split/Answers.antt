use Rattle.std.proofs.Common.{◌≡◌, ◌≤◌, ◌++◌, Bool, List, filter, sym, ap, subst, ◌∙◌}
use Rattle.std.proofs.lemmas.List.{map-append}
use Rattle.crs_base.specs.Seen.{entry_of}
use Rattle.crs_history.specs.declared.track.Change.{Change}
use Rattle.crs_history.specs.Dates.{IsByDate}
use Rattle.crs_history.specs.Looking.{is_before, is_since}
use Rattle.crs_history.specs.Runs.{changes_of, is_early, is_late, AreRuns}
use Rattle.crs_history.proofs.Runs.{runs_early, runs_late}
use Rattle.crs_history.proofs.Split.{ordered_front, ordered_back, filter-append, filter_seen}
use Rattle.crs_history.proofs.stretch.Stretch.split.Goals as goal

pub split_changes-requires : goal.split_changes-requires
split_changes-requires c = ordered_front (λ d e. d.date ≤ e.date) (changes_of c.self.inside.front.now) (changes_of c.self.inside.back.now) (subst IsByDate (sym c.self.view_is) c.requires)

pub split_changes-requires-2 : goal.split_changes-requires-2
split_changes-requires-2 c = ordered_back (λ d e. d.date ≤ e.date) (changes_of c.self.inside.front.now) (changes_of c.self.inside.back.now) (subst IsByDate (sym c.self.view_is) c.requires)

-- what is left of both parts is what is left of the whole
parts : (p : Change → Bool) (front back a b : List Change) → a ≡ filter p front → b ≡ filter p back → a ++ b ≡ filter p (front ++ back)
parts p front back a b e f = ap (λ w. w ++ b) e ∙ ap (λ w. filter p front ++ w) f ∙ sym (filter-append p front back)

pub invariant_of-early : goal.invariant_of-early
invariant_of-early c =
    let front = c.self.inside.front.now in
    let back = c.self.inside.back.now in
    let joined : changes_of (front ++ back) ≡ c.args.self.now = map-append (λ c. entry_of c.entry.value) front back ∙ c.self.view_is in
    subst AreRuns (sym (parts (is_early c.args.date) front back c.split_changes.result.0.now c.split_changes-2.result.0.now c.split_changes.ensures.before c.split_changes-2.ensures.before))
    (runs_early c.args.date (front ++ back) (subst IsByDate (sym joined) c.requires) c.self.invariant)

pub invariant_of-late : goal.invariant_of-late
invariant_of-late c =
    let front = c.self.inside.front.now in
    let back = c.self.inside.back.now in
    let joined : changes_of (front ++ back) ≡ c.args.self.now = map-append (λ c. entry_of c.entry.value) front back ∙ c.self.view_is in
    subst AreRuns (sym (parts (is_late c.args.date) front back c.split_changes.result.1.now c.split_changes-2.result.1.now c.split_changes.ensures.since c.split_changes-2.ensures.since))
    (runs_late c.args.date (front ++ back) (subst IsByDate (sym joined) c.requires) c.self.invariant)

pub returns-clause-before : goal.returns-clause-before
returns-clause-before c =
    let front = c.self.inside.front.now in
    let back = c.self.inside.back.now in
    let a = c.split_changes.result.0.now in
    let b = c.split_changes-2.result.0.now in
    let joined : changes_of (front ++ back) ≡ c.args.self.now = map-append (λ c. entry_of c.entry.value) front back ∙ c.self.view_is in
    sym (map-append (λ c. entry_of c.entry.value) a b) ∙ ap changes_of (parts (is_early c.args.date) front back a b c.split_changes.ensures.before c.split_changes-2.ensures.before)
    ∙ filter_seen (λ c. entry_of c.entry.value) (is_before c.args.date) (front ++ back) ∙ ap (filter (is_before c.args.date)) joined

pub returns-clause-since : goal.returns-clause-since
returns-clause-since c =
    let front = c.self.inside.front.now in
    let back = c.self.inside.back.now in
    let a = c.split_changes.result.1.now in
    let b = c.split_changes-2.result.1.now in
    let joined : changes_of (front ++ back) ≡ c.args.self.now = map-append (λ c. entry_of c.entry.value) front back ∙ c.self.view_is in
    sym (map-append (λ c. entry_of c.entry.value) a b) ∙ ap changes_of (parts (is_late c.args.date) front back a b c.split_changes.ensures.since c.split_changes-2.ensures.since)
    ∙ filter_seen (λ c. entry_of c.entry.value) (is_since c.args.date) (front ++ back) ∙ ap (filter (is_since c.args.date)) joined
