use Rattle.std.proofs.Common.{rules, List, sym, ap, ◌∙◌}
use Rattle.std.specs.Prelude.{Option, Some, None, cond, slice_index_or}
use Rattle.crs_base.specs.declared.symbols.Sym.{Sym}
use Rattle.crs_model.specs.Bindings.{look_of}
use Rattle.crs_model.proofs.HeldSays.{held_beyond, held_at}
use Rattle.crs_model.proofs.binding.Binding.get.Goals as goal

pub returns-then-i-self : goal.returns-then-i-self
returns-then-i-self c =
    let b = c.self.inside in
    sym (held_beyond b.count b.symbols b.bound c.args.i (search rules)) ∙ ap (λ (t : List (Option Sym)). look_of t c.args.i) c.self.view_is

pub returns-then-is_set_at : goal.returns-then-is_set_at
returns-then-is_set_at c =
    let b = c.self.inside in
    let z : Sym = record { 0 = 0 } in
    ap (λ t. cond t (Some (slice_index_or b.symbols c.args.i z)) None) (sym c.if-is_set_at.true ∙ c.is_set_at.ensures)
    ∙ sym (held_at b.count b.symbols b.bound c.args.i z (search rules) (search rules)) ∙ ap (λ (t : List (Option Sym)). look_of t c.args.i) c.self.view_is

pub returns-else-is_set_at : goal.returns-else-is_set_at
returns-else-is_set_at c =
    let b = c.self.inside in
    let z : Sym = record { 0 = 0 } in
    ap (λ t. cond t (Some (slice_index_or b.symbols c.args.i z)) None) (sym c.if-is_set_at.false ∙ c.is_set_at.ensures)
    ∙ sym (held_at b.count b.symbols b.bound c.args.i z (search rules) (search rules)) ∙ ap (λ (t : List (Option Sym)). look_of t c.args.i) c.self.view_is
