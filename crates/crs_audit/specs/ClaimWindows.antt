-- The entries that are settled at a mark, and windows that can be judged by them.
use Rattle.std.specs.Prelude.{ℕ, List}
use Rattle.crs_base.specs.declared.symbols.Sym.{Sym}
use Rattle.crs_base.specs.Entry.{Entry}
use Rattle.crs_model.specs.Models.{Window}
use Rattle.crs_model.specs.Matching.{Binding}
use Rattle.crs_model.specs.Open.{before}
use Rattle.crs_model.specs.Order.{arrived}
use Rattle.crs_model.specs.ProperModels.{IsProperAnchor}
use Rattle.crs_model.specs.Ready.{HoldsOne}
use Rattle.crs_model.specs.Verdicts.{BodyIsBound}
use Rattle.crs_audit.specs.declared.run.Stand.{Stand}

-- of entries in key order, those that were accepted by the mark and are dated before its horizon
abbrev pub settled_in : Stand → List (Entry Sym) → List (Entry Sym)
settled_in at es = before at.horizon (arrived at.accepted es)

-- its variables are bound, it names few enough events, and a `hold` has no `*`
pub record CanBeMet (look : Binding Sym) (events : ℕ) (w : Window Sym) : Type 0 where
  pub bound : BodyIsBound look w.body
  pub plain : HoldsOne w.body
  pub from : IsProperAnchor events w.from
  pub to : IsProperAnchor events w.to
