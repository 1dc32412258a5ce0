use Rattle.std.proofs.Common.{List, ap, ◌∙◌}
use Rattle.std.specs.Prelude.{slice_set, Option, Some}
use Rattle.crs_base.specs.declared.symbols.Sym.{Sym}
use Rattle.crs_model.proofs.HeldSays.{held_set, below_16}
use Rattle.crs_model.proofs.binding.Binding.set.Goals as goal

pub bounds-self-inside-i : goal.bounds-self-inside-i
bounds-self-inside-i c = below_16 c.self.inside.count c.self.inside.symbols c.self.inside.bound c.args.i c.args.self.now c.self.view_is c.self.invariant c.requires

pub overflow_shl-self : goal.overflow_shl-self
overflow_shl-self c = below_16 c.self.inside.count c.self.inside.symbols c.self.inside.bound c.args.i c.args.self.now c.self.view_is c.self.invariant c.requires

pub returns : goal.returns
returns c =
    let inside = below_16 c.self.inside.count c.self.inside.symbols c.self.inside.bound c.args.i c.args.self.now c.self.view_is c.self.invariant c.requires in
    held_set c.self.inside.count c.self.inside.symbols c.self.inside.bound c.args.i c.args.symbol inside ∙ ap (λ (t : List (Option Sym)). slice_set t c.args.i (Some c.args.symbol)) c.self.view_is
