-- What feeds stand for: a merged run behind some pairs.
use Rattle.std.specs.Prelude.{◌≡◌, ◌<◌, ℕ, true, false, List, [], ◌∷◌, ◌++◌, length, map, Option, Some, None}
use Rattle.std.specs.List.{AllByRecursion}
use Rattle.crs_base.specs.declared.symbols.Sym.{Sym}
use Rattle.crs_base.specs.Entry.{Entry}
use Rattle.crs_model.specs.Matching.{AreDistinct}
use Rattle.crs_model.specs.declared.plan.Plan.{Plan}
use Rattle.crs_model.specs.Order.{arrived, in_key_order, dated_before}
use Rattle.crs_model.specs.Plans.{chronicle}
use Rattle.crs_model.specs.Scopes.{Scope, scope_of}
use Rattle.crs_model.specs.Renaming.{text_in, renamed_entry, IsEntryOf}
use Rattle.crs_log.specs.Items.{Item}
use Rattle.crs_log.specs.ItemOf.{Is, what_of}
use Rattle.crs_log.specs.Reading.{Given, Plain, Long}
use Rattle.crs_log.specs.Run.{Setting, Accepted}
use Rattle.crs_log.specs.SeenNames.{name_seen}
use Rattle.crs_engine.specs.Engines.{StandsFor, plans_of, since}
use Rattle.crs_engine.specs.Marks.{ListsAllNew}
use Rattle.crs_feeds.specs.declared.rising.Rise.{Rise}
use Rattle.crs_feeds.specs.Merged.{Merged, Pair, at_start, after_pair, after_pairs, common, has_risen, mark_of}
use Rattle.crs_feeds.specs.States.{FeedsState}

-- the symbol is the number of one of the texts
abbrev pub HasText : List (List ℕ) → Sym → Type 0
HasText texts s = s.0 < length texts

-- Feeds stand for a merged run. Each feed has the run's clocks. The entries that were accepted are the run's, with numbers in place of its known texts: the engine stands for those dated before the common horizon, and for the others, and knows how many of all were accepted by the last rise.
pub record StandFor (m : Merged) (s : FeedsState) : Type 0 where
  pub feeds : s.feeds ≡ m.feeds
  pub running : s.engine.stopped ≡ false
  pub horizon : s.engine.horizon ≡ common m.feeds
  pub accepted : List (Entry Sym)
  pub distinct : AreDistinct accepted
  pub known : AllByRecursion (IsEntryOf (HasText m.texts)) accepted
  pub seen : map (renamed_entry (text_in m.texts)) accepted ≡ m.accepted
  pub count : s.engine.accepted ≡ length m.accepted
  pub marked : s.engine.marked ≡ m.marked
  pub stands : StandsFor s.engine (dated_before (common m.feeds) accepted) (in_key_order (since (common m.feeds) accepted))

-- the run behind these pairs, where so many feeds were at their start
abbrev pub run_behind : Setting → List (List ℕ) → ℕ → List Pair → Merged
run_behind c texts n ps = after_pairs c (at_start texts n) ps

-- feeds stand for the run behind these pairs: one of the names of their plans, with their limit of entries and as many feeds
pub record StandBehind (c : Setting) (texts : List (List ℕ)) (ps : List Pair) (s : FeedsState) : Type 0 where
  pub names : c.names ≡ map (name_seen texts) s.engine.plans.names
  pub limit : c.entries ≡ s.engine.limit
  pub run : StandFor (run_behind c texts (length s.feeds) ps) s

-- new feeds stand for a run without pairs
abbrev pub StandAtStart : FeedsState → Type 0
StandAtStart s =
    (c : Setting) (texts : List (List ℕ)) → c.names ≡ map (name_seen texts) s.engine.plans.names → c.entries ≡ s.engine.limit
    → StandBehind c texts [] s

-- the line is this item
abbrev pub IsItemOf : Item → Given → Type 0
IsItemOf item (Long number) = ⊥
IsItemOf item (Plain number bytes) = what_of bytes ≡ Is item

-- whatever pairs they stood behind, a line of feed n that is this item takes them on
abbrev pub TakeItem : FeedsState → FeedsState → ℕ → Item → Type 0
TakeItem old new n item =
    (c : Setting) (texts : List (List ℕ)) (ps : List Pair) (g : Given) → IsItemOf item g
    → StandBehind c texts ps old → StandBehind c texts (ps ++ record { feed = n; line = g } ∷ []) new

-- what recognition of a plan's chronicle reads of a run, by its accepted entries with numbers in place of texts
abbrev pub scope_in_run : Merged → List (Entry Sym) → Plan → Scope Sym
scope_in_run m accepted p = scope_of (chronicle p) (dated_before (common m.feeds) accepted) (in_key_order (arrived m.marked accepted)) (common m.feeds)

-- none exactly where the common horizon didn't rise, and else, with the mark of the rise, exactly what is new at it
abbrev pub AnswersRise : List Plan → List (Entry Sym) → Merged → Merged → Option Rise → Type 0
AnswersRise plans accepted was now None = has_risen was.feeds now.feeds ≡ false
AnswersRise plans accepted was now (Some r) =
    (has_risen was.feeds now.feeds ≡ true) × (r.mark ≡ mark_of now.feeds)
    × ListsAllNew plans 0 r.mark (scope_in_run was accepted) (scope_in_run now accepted) r.list

-- whatever pairs they stood behind, a line of feed n that is this item takes them on, and its rise is answered
abbrev pub TakeMark : FeedsState → FeedsState → ℕ → Item → Option Rise → Type 0
TakeMark old new n item r =
    (c : Setting) (texts : List (List ℕ)) (ps : List Pair) (g : Given) → IsItemOf item g → (b : StandBehind c texts ps old)
    → StandBehind c texts (ps ++ record { feed = n; line = g } ∷ []) new
    × AnswersRise (plans_of old.engine.plans) b.run.accepted (run_behind c texts (length old.feeds) ps)
    (after_pair c (run_behind c texts (length old.feeds) ps) (record { feed = n; line = g })).0 r

-- the line of feed n is accepted as this entry, with numbers in place of the texts that are then known
pub record IsAcceptedAs (c : Setting) (m : Merged) (n : ℕ) (g : Given) (x : Entry Sym) : Type 0 where
  pub known : IsEntryOf (HasText (after_pair c m (record { feed = n; line = g })).0.texts) x
  pub accepted : (after_pair c m (record { feed = n; line = g })).1 ≡ Accepted (renamed_entry (text_in (after_pair c m (record { feed = n; line = g })).0.texts) x)

-- whatever pairs they stood behind, a line of feed n that is accepted as this entry takes them on
abbrev pub TakeEntry : FeedsState → FeedsState → ℕ → Entry Sym → Type 0
TakeEntry old new n x =
    (c : Setting) (texts : List (List ℕ)) (ps : List Pair) (g : Given) → IsAcceptedAs c (run_behind c texts (length old.feeds) ps) n g x
    → StandBehind c texts ps old → StandBehind c texts (ps ++ record { feed = n; line = g } ∷ []) new

-- a pair that leaves the run as it was needs no call
abbrev pub IdlePairsNeedNoCall : Type 0
IdlePairsNeedNoCall =
    (c : Setting) (texts : List (List ℕ)) (ps : List Pair) (p : Pair) (s : FeedsState) → StandBehind c texts ps s
    → (after_pair c (run_behind c texts (length s.feeds) ps) p).0 ≡ run_behind c texts (length s.feeds) ps
    → StandBehind c texts (ps ++ p ∷ []) s
