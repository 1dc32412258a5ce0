use Rattle.std.proofs.Common.{◌≡◌, ◌∙◌, ℕ, zero, suc, List, [], ◌∷◌, map, refl, ap}
use Rattle.std.specs.Prelude.{Option, Some, None, slice_get, slice_index_or}
use Rattle.std.specs.Option.{option_to_list}
use Rattle.crs_base.specs.declared.symbols.Sym.{Sym}
use Rattle.crs_model.specs.Bindings.{look_of}
use Rattle.crs_model.specs.SeenModels.{given}
use Rattle.crs_layers.proofs.emitting.symbol_of.Goals as goal

bound_at : (values : List Sym) (v : ℕ) → slice_index_or (map Some values) v None ≡ slice_get values v
bound_at [] v = refl
bound_at (x ∷ xs) zero = refl
bound_at (x ∷ xs) (suc v) = bound_at xs v

pub returns-in-Var : goal.returns-in-Var
returns-in-Var c = rw c.in-Var.is
    (ap option_to_list (c.get.ensures ∙ ap (λ (b : List (Option Sym)). look_of b c.in-Var.v) c.requires ∙ bound_at (given c.args.binding.now) c.in-Var.v))
