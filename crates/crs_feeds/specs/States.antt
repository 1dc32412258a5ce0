-- Feeds over one engine, as contracts see them.
use Rattle.std.specs.Prelude.{◌≡◌, ◌<◌, ◌≤◌, ◌^◌, ℕ, Bool, true, false, nat_lt, ◌==◌, List, length, replicate, set, Option, Some, None, if◌then◌else◌}
use Rattle.std.specs.List.{AllByRecursion}
use Rattle.crs_base.specs.declared.symbols.Sym.{Sym}
use Rattle.crs_base.specs.Entry.{Entry}
use Rattle.crs_model.specs.declared.plan.Plans.{Plans}
use Rattle.crs_engine.specs.Engines.{EngineState, StandsFor, IsNewEngine, HasMoved}
use Rattle.crs_engine.specs.Marks.{AfterMark}
use Rattle.crs_engine.specs.declared.refused.Refused.{Refused}
use Rattle.crs_engine.specs.declared.refused.Refused.TheVariants.{Stopped, Late, Full, Back}
use Rattle.crs_feeds.specs.declared.feed.Feed.{Feed}
use Rattle.crs_feeds.specs.declared.rising.Rise.{Rise}
use Rattle.crs_feeds.specs.Merged.{new_feed, common, mark_of}

pub record FeedsState : Type 0 where
  pub engine : EngineState
  pub feeds : List Feed

-- a feed's horizon is that of the end exactly where it has ended
pub record IsFeed (f : Feed) : Type 0 where
  pub going : f.ended ≡ false → f.horizon < 2 ^ 40
  pub done : f.ended ≡ true → f.horizon ≡ 2 ^ 42

-- the engine has no delay, and its clock and its horizon are at h
pub record IsAt (e : EngineState) (h : ℕ) : Type 0 where
  pub delay : e.delay ≡ 0
  pub last : e.last ≡ h
  pub horizon : e.horizon ≡ h

-- what holds of all feeds: while the engine runs, it is at the common horizon
pub record AreFeeds (s : FeedsState) : Type 0 where
  pub each : AllByRecursion IsFeed s.feeds
  pub some : 0 < length s.feeds
  pub few : length s.feeds ≤ 8
  pub at : s.engine.stopped ≡ false → IsAt s.engine (common s.feeds)

-- so many new feeds over a new engine
pub record AreNewFeeds (plans : Plans) (focus : Bool) (limit n : ℕ) (s : FeedsState) : Type 0 where
  pub engine : IsNewEngine plans focus limit s.engine
  pub feeds : s.feeds ≡ replicate n new_feed

-- When a call on a feed is refused, and why: by its own horizon and its own last clock.
abbrev pub test_refusal : FeedsState → Feed → ℕ → Option Refused
test_refusal s f date = if s.engine.stopped then Some Stopped else (if nat_lt date f.horizon then Some (Late date f.horizon) else None)

abbrev pub accept_refusal : FeedsState → Feed → ℕ → Option Refused
accept_refusal s f date =
    if s.engine.stopped then Some Stopped
    else (if nat_lt date f.horizon then Some (Late date f.horizon)
    else (if s.engine.accepted == s.engine.limit then Some (Full s.engine.limit) else None))

abbrev pub clock_refusal : FeedsState → Feed → ℕ → Option Refused
clock_refusal s f t = if s.engine.stopped then Some Stopped else (if nat_lt t f.last then Some (Back t f.last) else None)

abbrev pub finish_refusal : FeedsState → Option Refused
finish_refusal s = if s.engine.stopped then Some Stopped else None

-- plans, focus, limit and count of accepted entries are as before
pub record IsSameEngine (old new : EngineState) : Type 0 where
  pub same_plans : new.plans ≡ old.plans
  pub same_focus : new.focus ≡ old.focus
  pub same_limit : new.limit ≡ old.limit
  pub same_count : new.accepted ≡ old.accepted

-- the clocks of a feed moved on
pub record HasTicked (old new : FeedsState) (n : ℕ) (f : Feed) : Type 0 where
  pub engine : IsSameEngine old.engine new.engine
  pub feeds : new.feeds ≡ set old.feeds n f

-- What the engine answers as the common horizon of these feeds rises: nothing where it doesn't, and else what is new at it.
abbrev pub HasRisen : EngineState → EngineState → List Feed → Option Rise → Type 0
HasRisen old new feeds None = (common feeds ≡ old.horizon) × (new ≡ old)
HasRisen old new feeds (Some r) =
    (old.horizon < common feeds) × (r.mark ≡ mark_of feeds) × HasMoved old new (common feeds) (common feeds)
    × ((settled : List (Entry Sym)) (waiting : List (Entry Sym)) → StandsFor old settled waiting → AfterMark old new r.mark settled waiting r.list)

-- none exactly where the common horizon didn't rise, and else what is new at it
abbrev pub IsRise : FeedsState → FeedsState → Option Rise → Type 0
IsRise old new r = HasRisen old.engine new.engine new.feeds r
