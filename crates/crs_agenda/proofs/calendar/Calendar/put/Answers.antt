use Rattle.std.proofs.Common.{◌≡◌, ◌+◌, length, get_or, set, ◌++◌, ◌∷◌, [], ◌∙◌, sym, ap, arith, subst, List}
use Rattle.std.specs.List.Sorted.{IsPermutation}
use Rattle.std.proofs.lemmas.List.{with_items_is, length-set}
use Rattle.crs_agenda.specs.declared.timed.Timed.{Timed}
use Rattle.crs_agenda.specs.Places.{pairs_of}
use Rattle.crs_agenda.specs.Schedule.{Schedule}
use Rattle.crs_agenda.specs.Calendars.{IsCalendar}
use Rattle.crs_agenda.proofs.Buckets.{put_one}
use Rattle.crs_agenda.proofs.Changes.{opened, put}
use Rattle.crs_agenda.proofs.calendar.Calendar.put.Goals as goal

pub invariant_of-self-in_err-put_at : goal.invariant_of-self-in_err-put_at
invariant_of-self-in_err-put_at c =
    let s = c.self.inside in
    let v = c.open_to.new.buckets in
    let is : c.put_at.new.buckets ≡ v.items = c.in_err-put_at.ensures.err ∙ c.as_mut_slice.ensures.value in
    let n : length c.put_at.new.buckets ≡ v.len = ap length is ∙ sym v.ok.0 in
    subst (λ (bs : List (List Timed)). IsCalendar s.base s.stands s.wait s.size bs) (sym (with_items_is v c.put_at.new.buckets n ∙ is))
    (opened s.base s.stands s.wait s.size s.buckets.items v.items c.self.invariant c.open_to.ensures.pairs c.open_to.ensures.same)

pub invariant_of-self-2 : goal.invariant_of-self-2
invariant_of-self-2 c =
    let s = c.self.inside in
    let v = c.open_to.new.buckets in
    let at = c.bucket_of-at.result in
    let t : Timed = record { date = c.args.date; handle = c.args.handle } in
    let new = set v.items at (get_or v.items at [] ++ t ∷ []) in
    let is : c.put_at.new.buckets ≡ new = subst (λ (bs : List (List Timed)). c.put_at.new.buckets ≡ set bs at (get_or bs at [] ++ t ∷ [])) c.as_mut_slice.ensures.value c.in_ok-put_at.ensures.ok in
    let n : length c.put_at.new.buckets ≡ v.len = ap length is ∙ (length-set v.items at _ ∙ sym v.ok.0) in
    let d : s.stands ≡ c.args.self.now.date = ap (λ (x : Schedule). x.date) c.self.view_is in
    let w = c.min-self-inside.result in
    let m = c.min-self-inside.ensures in
    let k = c.self.invariant.later in
    let r = c.requires.since in
    subst (λ (bs : List (List Timed)). IsCalendar s.base s.stands w (s.size + 1) bs) (sym (with_items_is v c.put_at.new.buckets n ∙ is))
    (put s.base s.stands s.wait s.size at w v.items t (opened s.base s.stands s.wait s.size s.buckets.items v.items c.self.invariant c.open_to.ensures.pairs c.open_to.ensures.same) c.in_ok-open_to.ensures.open c.bucket_of-at.ensures (omega arith) (omega arith) (omega arith))

pub returns-clause-pairs : goal.returns-clause-pairs
returns-clause-pairs c =
    let v = c.open_to.new.buckets in
    let at = c.bucket_of-at.result in
    let t : Timed = record { date = c.args.date; handle = c.args.handle } in
    let new = set v.items at (get_or v.items at [] ++ t ∷ []) in
    let is : c.put_at.new.buckets ≡ new = subst (λ (bs : List (List Timed)). c.put_at.new.buckets ≡ set bs at (get_or bs at [] ++ t ∷ [])) c.as_mut_slice.ensures.value c.in_ok-put_at.ensures.ok in
    let n : length c.put_at.new.buckets ≡ v.len = ap length is ∙ (length-set v.items at _ ∙ sym v.ok.0) in
    let old : pairs_of v.items ≡ c.args.self.now.pairs = c.open_to.ensures.pairs ∙ ap (λ (x : Schedule). x.pairs) c.self.view_is in
    let p : IsPermutation (t ∷ c.args.self.now.pairs) (pairs_of new) = subst (λ (ps : List Timed). IsPermutation (t ∷ ps) (pairs_of new)) old (put_one v.items at t c.in_ok-open_to.ensures.open) in
    subst (λ (bs : List (List Timed)). IsPermutation (t ∷ c.args.self.now.pairs) (pairs_of bs)) (sym (with_items_is v c.put_at.new.buckets n ∙ is)) p
