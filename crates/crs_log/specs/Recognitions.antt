-- What recognition reads of a run, and what lives in it.
use Rattle.std.specs.Prelude.{ℕ, Bool, List}
use Rattle.crs_base.specs.Words.{IsIn}
use Rattle.crs_base.specs.Entry.{Entry}
use Rattle.crs_model.specs.Models.{Chronicle}
use Rattle.crs_model.specs.Matching.{Assignment}
use Rattle.crs_model.specs.Partial.{Partial}
use Rattle.crs_model.specs.Levels.{level_in, reads_levels}
use Rattle.crs_model.specs.Open.{IsLive, IsRecognised}
use Rattle.crs_model.specs.Scopes.{Scope, scope_of}
use Rattle.crs_log.specs.Run.{State, settled, marked_entries}

-- the settled entries, those that were accepted by the last mark, and the horizon
pub record View : Type 0 where
  pub settled : List (Entry (List ℕ))
  pub arrived : List (Entry (List ℕ))
  pub horizon : ℕ

abbrev pub view_of : State → View
view_of s = record { settled = settled s; arrived = marked_entries s; horizon = s.horizon }

-- what recognition of a chronicle reads of it
abbrev pub scope_in : Chronicle (List ℕ) → View → Scope (List ℕ)
scope_in c v = scope_of c v.settled v.arrived v.horizon

abbrev pub IsRecognisedIn : Chronicle (List ℕ) → View → Assignment (List ℕ) → Type 0
IsRecognisedIn c v b = IsRecognised c (scope_in c v).pool v.settled v.horizon b

-- what was settled stays settled, and what was recognised stays recognised
pub record Stays (was now : View) : Type 0 where
  pub settled : (e : Entry (List ℕ)) → IsIn e was.settled → IsIn e now.settled
  pub recognised : (c : Chronicle (List ℕ)) (b : Assignment (List ℕ)) → IsRecognisedIn c was b → IsRecognisedIn c now b

-- open, and not recognised
abbrev pub IsLiveIn : Chronicle (List ℕ) → Bool → View → Partial (List ℕ) → Type 0
IsLiveIn c focus v a = IsLive c (level_in c.events (reads_levels c focus)) (scope_in c v).pool v.settled v.horizon a
