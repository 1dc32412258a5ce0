-- A history that goes far enough back holds all that can be bound beside an entry.
use Rattle.std.proofs.Common.{◌≡◌, ℕ, ◌<◌, ◌≤◌, List, length, inl, inr, arith}
use Rattle.std.specs.Prelude.{ℤ, pos, ◌+ℤ◌, ◌-ℤ◌, ◌≤ℤ◌, Some}
use Rattle.std.proofs.lemmas.Int.{ints}
use Rattle.crs_base.specs.declared.symbols.Sym.{Sym}
use Rattle.crs_base.specs.Words.{IsIn}
use Rattle.crs_base.specs.Entry.{Entry}
use Rattle.crs_base.proofs.Sifted.{in_sifted}
use Rattle.crs_history.specs.Histories.{HistoryState, IsFarBack, IsKept, StandsFor}
use Rattle.crs_model.specs.declared.plan.Plan.{Plan}
use Rattle.crs_model.specs.Partial.{Partial, at}
use Rattle.crs_model.specs.Plans.{chronicle, IsProper}
use Rattle.crs_model.specs.Open.{IsOpen}
use Rattle.crs_model.proofs.Options.{of_some, and_some}
use Rattle.crs_model.proofs.Parts.{at_within}
use Rattle.crs_model.proofs.Reaching.{reaches_back, entries_in_reach}
use Rattle.crs_living.proofs.Overs.{low_date}

from_floor : (floor r : ℤ) (g x y : ℕ) → floor ≤ℤ (pos g -ℤ r) → g ≤ x → pos x ≤ℤ (pos y +ℤ r) → floor ≤ℤ pos y
from_floor floor r g x y l m k = omega (arith, ints)

-- b is open, and binds an entry x dated at or after g
module _ (plan : Plan) (proper : IsProper plan) (level : ℕ → ℕ) (pool entries : List (Entry Sym)) (n g : ℕ) (b : Partial Sym)
    (open_b : IsOpen (chronicle plan) level pool entries n b)
    (e : ℕ) (x : Entry Sym) (bound : at b e ≡ Some x) (late : g ≤ x.date) (f : ℕ) (y : Entry Sym) (also : at b f ≡ Some y) where
  -- then no entry that it binds is dated before the floor
  pub dated_from_floor : (floor : ℤ) → IsFarBack plan.reach g floor → floor ≤ℤ pos y.date
  dated_from_floor floor (inl low) = low_date floor y.date low
  dated_from_floor floor (inr some) =
      let r = and_some plan.reach _ some in
      let inside : (k : ℕ) (z : Entry Sym) → at b k ≡ Some z → k < length (chronicle plan).events = (λ k z i. let l = at_within b k z i in let s = open_b.partial.len in omega arith) in
      from_floor floor r.0 g x.date y.date r.2 late
      (entries_in_reach (chronicle plan) r.0 (reaches_back plan proper r.0 r.1) b (open_b.dates.0, open_b.dates.1, open_b.dates.2) e f x y (inside e x bound) (inside f y also) bound also)

  -- and a history that stands for the pool holds each of them
  pub history_holds : (history : HistoryState) → StandsFor pool history → IsFarBack plan.reach g history.floor → IsIn y history.entries
  history_holds history kept far =
      in_sifted (IsKept pool history.floor) pool history.entries y kept (of_some (at b f) y (λ z. IsIn z pool) also (open_b.partial.given f)) (inl (dated_from_floor history.floor far))
