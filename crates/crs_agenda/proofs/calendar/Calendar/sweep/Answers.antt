use Rattle.std.proofs.Common.{◌≡◌, length, map, sym, ap, ◌∙◌, subst, List}
use Rattle.std.specs.List.{filter}
use Rattle.std.proofs.lemmas.List.{with_items_is}
use Rattle.crs_agenda.specs.declared.timed.Timed.{Timed}
use Rattle.crs_agenda.specs.Freshness.{is_fresh_pair}
use Rattle.crs_agenda.specs.Places.{pairs_of}
use Rattle.crs_agenda.specs.Schedule.{Schedule}
use Rattle.crs_agenda.specs.Calendars.{IsCalendar}
use Rattle.crs_agenda.proofs.Kept.{swept, pairs-filter}
use Rattle.crs_agenda.proofs.calendar.Calendar.sweep.Goals as goal

pub invariant_of-self : goal.invariant_of-self
invariant_of-self c =
    let s = c.self.inside in
    let bs = s.buckets.items in
    let new = c.keep_fresh-self-inside.new.buckets in
    let p = is_fresh_pair c.args.serials.now in
    let n : length new ≡ s.buckets.len = c.keep_fresh-self-inside.auto.buckets ∙ c.as_mut_slice.ensures.len in
    let is : new ≡ map (filter p) bs = c.keep_fresh-self-inside.ensures.kept ∙ ap (map (filter p)) c.as_mut_slice.ensures.value in
    subst (λ (xs : List (List Timed)). IsCalendar s.base s.stands s.wait c.keep_fresh-self-inside.result xs) (sym (with_items_is s.buckets new n))
    (swept s.base s.stands s.wait s.size c.keep_fresh-self-inside.result bs new p c.self.invariant is c.keep_fresh-self-inside.ensures.counted)

pub returns-clause-pairs : goal.returns-clause-pairs
returns-clause-pairs c =
    let s = c.self.inside in
    let bs = s.buckets.items in
    let new = c.keep_fresh-self-inside.new.buckets in
    let p = is_fresh_pair c.args.serials.now in
    let n : length new ≡ s.buckets.len = c.keep_fresh-self-inside.auto.buckets ∙ c.as_mut_slice.ensures.len in
    let is : new ≡ map (filter p) bs = c.keep_fresh-self-inside.ensures.kept ∙ ap (map (filter p)) c.as_mut_slice.ensures.value in
    ap pairs_of (with_items_is s.buckets new n ∙ is) ∙ (pairs-filter p bs ∙ ap (λ (x : Schedule). filter p x.pairs) c.self.view_is)
