-- A merged run is a fold over pairs of a feed and a line of its log.
use Rattle.std.specs.Prelude.{ℕ, min, Bool, true, false, cond, nat_lt, List, [], ◌∷◌, length, Option, Some, None, slice_get, set, replicate}
use Rattle.std.specs.List.{list_all}
use Rattle.crs_base.specs.Entry.{Entry}
use Rattle.crs_model.specs.Order.{arrived, dated_before, in_key_order}
use Rattle.crs_model.specs.declared.recognition.Mark.{Mark}
use Rattle.crs_model.specs.declared.recognition.Mark.TheVariants.{Clock, Finish}
use Rattle.crs_log.specs.Reading.{Given}
use Rattle.crs_log.specs.Run.{Setting, State, Outcome, Passed, after_line, horizon_at, end_date}
use Rattle.crs_log.specs.Recognitions.{View}
use Rattle.crs_feeds.specs.declared.feed.Feed.{Feed}

-- The known texts and the accepted entries are common; delay, last clock, horizon and end are each feed's own. `marked` is how many entries were accepted by the last rise of the common horizon.
pub record Merged : Type 0 where
  pub texts : List (List ℕ)
  pub accepted : List (Entry (List ℕ))
  pub marked : ℕ
  pub feeds : List Feed

abbrev pub new_feed : Feed
new_feed = record { delay = 0; last = 0; horizon = 0; ended = false }

-- so many feeds at the start; the known texts are those of the models
abbrev pub at_start : List (List ℕ) → ℕ → Merged
at_start texts n = record { texts = texts; accepted = []; marked = 0; feeds = replicate n new_feed }

-- the least horizon of all feeds
abbrev pub common : List Feed → ℕ
common [] = end_date
common (f ∷ fs) = min f.horizon (common fs)

-- the common horizon is greater than it was
abbrev pub has_risen : List Feed → List Feed → Bool
has_risen was now = nat_lt (common was) (common now)

-- the mark of a rise: the common horizon, or the end where all feeds have ended
abbrev pub mark_of : List Feed → Mark
mark_of fs = cond (list_all (λ f. f.ended) fs) Finish (Clock (common fs))

-- the run as a feed sees it
abbrev pub seen_by : Merged → Feed → State
seen_by m f = record { texts = m.texts; delay = f.delay; last = f.last; horizon = f.horizon; accepted = m.accepted; marked = m.marked; ended = f.ended }

-- the clocks of the feed that sees it so
abbrev pub feed_in : State → Feed
feed_in s = record { delay = s.delay; last = s.last; horizon = s.horizon; ended = s.ended }

-- the merged run with other clocks: where the common horizon rises, all entries were accepted by the rise
abbrev pub with_feeds : Merged → List Feed → Merged
with_feeds m fs = record m { feeds = fs; marked = cond (has_risen m.feeds fs) (length m.accepted) m.marked }

-- the merged run, where feed n sees it so
abbrev pub with_state : Merged → ℕ → State → Merged
with_state m n s = with_feeds (record m { texts = s.texts; accepted = s.accepted }) (set m.feeds n (feed_in s))

-- a line of the log of the feed with this number, from 0
pub record Pair : Type 0 where
  pub feed : ℕ
  pub line : Given

-- each line becomes what it becomes of it in a run as its feed sees it
abbrev pub after_met : Setting → Merged → ℕ → Given → Option Feed → Merged × Outcome
after_met c m n g None = (m, Passed)
after_met c m n g (Some f) = (with_state m n (after_line c (seen_by m f) g).0, (after_line c (seen_by m f) g).1)

abbrev pub after_pair : Setting → Merged → Pair → Merged × Outcome
after_pair c m p = after_met c m p.feed p.line (slice_get m.feeds p.feed)

abbrev pub after_pairs : Setting → Merged → List Pair → Merged
after_pairs c m [] = m
after_pairs c m (p ∷ ps) = after_pairs c (after_pair c m p).0 ps

abbrev pub outcomes : Setting → Merged → List Pair → List Outcome
outcomes c m [] = []
outcomes c m (p ∷ ps) = (after_pair c m p).1 ∷ outcomes c (after_pair c m p).0 ps

-- a feed's clocks after `clock t`, and after its end
abbrev pub clocked : ℕ → Feed → Feed
clocked t f = record f { last = t; horizon = horizon_at f.delay f.horizon t }

abbrev pub closed : Feed → Feed
closed f = record f { last = end_date; horizon = end_date; ended = true }

-- the accepted entries dated before the common horizon, in key order
abbrev pub settled : Merged → List (Entry (List ℕ))
settled m = dated_before (common m.feeds) m.accepted

-- the entries that were accepted by the last rise, in key order
abbrev pub marked_entries : Merged → List (Entry (List ℕ))
marked_entries m = in_key_order (arrived m.marked m.accepted)

-- what recognition reads of a merged run
abbrev pub view_of : Merged → View
view_of m = record { settled = settled m; arrived = marked_entries m; horizon = common m.feeds }
