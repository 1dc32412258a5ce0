use Rattle.std.proofs.Common.{List, length, map, subst, sym}
use Rattle.crs_model.specs.declared.chronicle.EventDef.{EventDef}
use Rattle.crs_model.specs.Levels.{level_in}
use Rattle.crs_model.specs.Plans.{chronicle}
use Rattle.crs_model.specs.SeenModels.{event_of}
use Rattle.crs_focus.specs.Current.{IsLeastUnset}
use Rattle.crs_focus.proofs.Unset.{current_is}
use Rattle.crs_focus.proofs.level.current_level.Goals as goal

pub returns : goal.returns
returns c = λ a len has.
    let focus = c.args.focus in
    let events = c.args.plan.now.chronicle.events in
    let o = c.least_unset.result in
    let listed : IsLeastUnset (level_in (map event_of events) focus) c.args.bound (length events) o =
    subst (λ (w : List EventDef). IsLeastUnset (level_in (map event_of w) focus) c.args.bound (length w) o) c.as_slice.ensures c.least_unset.ensures in
    let level = level_in (chronicle c.args.plan.now).events focus in
    current_is level c.args.bound a has o (subst (λ n. IsLeastUnset level c.args.bound n o) (sym len) listed)
