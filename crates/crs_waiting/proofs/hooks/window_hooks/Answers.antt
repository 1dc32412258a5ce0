use Rattle.std.proofs.Common.{rules, List, [], subst, sym}
use Rattle.std.specs.List.{AllZip}
use Rattle.crs_model.specs.SeenModels.{window_of}
use Rattle.crs_waiting.specs.declared.hooks.Hook.{Hook}
use Rattle.crs_waiting.specs.Hooks.{IsHookOfWindow}
use Rattle.crs_waiting.proofs.Hooking.{zip_more, zip_all}
use Rattle.crs_waiting.proofs.hooks.window_hooks.Goals as goal

pub loop-window-init : goal.loop-window-init
loop-window-init c = subst (λ (t : List Hook). AllZip IsHookOfWindow [] t) (sym c.new-hooks.ensures.items) tt

pub loop-window-preserved : goal.loop-window-preserved
loop-window-preserved c = zip_more IsHookOfWindow window_of c.args.windows.now c.loop-window.window-index c.window-item.result c.loop-window.hooks.items c.push.new.self.items c.in_ok-hook.hook (search rules) c.window-item.is (search rules) c.loop-window.invariant (c.in_ok-hook.ensures {u = tt})

pub returns : goal.returns
returns c = zip_all IsHookOfWindow window_of c.args.windows.now c.loop-window.window-index c.loop-window.hooks.items (search rules) c.loop-window.invariant
