-- What can be read as an entry comes.
use Rattle.std.specs.Prelude.{◌≡◌, ◌≤◌, ℕ, List, Bool, true}
use Rattle.crs_base.specs.declared.symbols.Sym.{Sym}
use Rattle.crs_base.specs.Words.{IsIn}
use Rattle.crs_base.specs.Entry.{Entry}
use Rattle.crs_history.specs.Histories.{HistoryState}
use Rattle.crs_living.specs.Windows.{IsRead}
use Rattle.crs_model.specs.declared.plan.Plan.{Plan}

-- what can be read at a date that x isn't before: the entries, where x is of the pool, and where levels are read the pool is the entries
pub record IsNow (plan : Plan) (focus : Bool) (history : HistoryState) (x : Entry Sym) (since : ℕ) (pool entries : List (Entry Sym)) : Type 0 where
  pub read : IsRead plan history entries since
  pub there : IsIn x pool
  pub early : since ≤ x.date
  pub inside : (e : Entry Sym) → IsIn e entries → IsIn e pool
  pub whole : focus ≡ true → pool ≡ entries
