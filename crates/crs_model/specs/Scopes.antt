-- What recognition of a chronicle reads, and what is new in it.
use Rattle.std.specs.Prelude.{ℕ, List}
use Rattle.crs_base.specs.Entry.{Entry}
use Rattle.crs_model.specs.Models.{Chronicle}
use Rattle.crs_model.specs.Matching.{Assignment}
use Rattle.crs_model.specs.Open.{IsNew, pool_among}
use Rattle.crs_model.specs.Order.{Lists, assignment_cmp}

-- the entries that the assignments of a chronicle may take, the settled ones, and the horizon
pub record Scope (S : Type 0) : Type 0 where
  pub pool : List (Entry S)
  pub settled : List (Entry S)
  pub horizon : ℕ

module _ {S : Type 0} where
  -- by what is settled at a horizon, and what had arrived by the last mark: assignments may take the first, and those of a prompt chronicle the second
  abbrev pub scope_of : Chronicle S → List (Entry S) → List (Entry S) → ℕ → Scope S
  scope_of c settled arrived h = record { pool = pool_among c settled arrived; settled = settled; horizon = h }

  -- recognised as it is now, and not as it was
  abbrev pub IsNewIn : Chronicle S → Scope S → Scope S → Assignment S → Type 0
  IsNewIn c was now b = IsNew c was.pool was.settled was.horizon now.pool now.settled now.horizon b

  -- exactly the new assignments, each once, in key order
  abbrev pub ListsNew : Chronicle S → Scope S → Scope S → List (Assignment S) → Type 0
  ListsNew c was now new = Lists assignment_cmp (IsNewIn c was now) new
