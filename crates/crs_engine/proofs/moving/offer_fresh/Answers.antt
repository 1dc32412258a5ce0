use Rattle.std.proofs.Common.{rules, List, Global, map, sym, ap, subst, ◌∙◌}
use Rattle.std.specs.List.{AllByRecursion}
use Rattle.std.specs.declared.rc.Rc.{Rc}
use Rattle.crs_base.specs.declared.entry.Entry.{Entry as CodeEntry}
use Rattle.crs_base.specs.declared.symbols.Sym.{Sym}
use Rattle.crs_base.specs.Entry.{Entry, IsInKeyOrder}
use Rattle.crs_base.specs.Seen.{entry_of}
use Rattle.crs_engine.specs.Moves.{AreGivenFresh}
use Rattle.crs_engine.proofs.Settling.{IsSmall, given_nothing, same_all}
use Rattle.crs_engine.proofs.moving.offer_fresh.Goals as goal

pub returns-then-is_none-clause-same : goal.returns-then-is_none-clause-same
returns-then-is_none-clause-same g c = same_all c.args.stores.now

pub returns-in_err-take_all-clause-same : goal.returns-in_err-take_all-clause-same
returns-in_err-take_all-clause-same g c = same_all c.args.stores.now

pub returns-then-is_none-clause-none : goal.returns-then-is_none-clause-none
returns-then-is_none-clause-none g c = c.first_date.ensures.none.0 (search rules)

pub returns-then-is_none-clause-given : goal.returns-then-is_none-clause-given
returns-then-is_none-clause-given g c = given_nothing c.args.history.now c.args.h c.args.fresh.now c.args.stores.now (c.first_date.ensures.none.0 (search rules))

pub offer_in_turn-requires : goal.offer_in_turn-requires
offer_in_turn-requires g c =
    let taken = ap (λ (rs : List (Rc CodeEntry Global)). map (λ r. entry_of r.value) rs) c.as_slice.ensures.value ∙ (c.in_ok-take_all.ensures {u = tt}).taken in
    record {
      small = subst (AllByRecursion IsSmall) (sym taken) c.requires.small;
      order = subst IsInKeyOrder (sym taken) c.first_date.ensures.in_order;
      horizon = c.requires.horizon;
    }

pub returns-clause-given : goal.returns-clause-given
returns-clause-given g c =
    let taken = ap (λ (rs : List (Rc CodeEntry Global)). map (λ r. entry_of r.value) rs) c.as_slice.ensures.value ∙ (c.in_ok-take_all.ensures {u = tt}).taken in
    subst (λ (t : List (Entry Sym)). AreGivenFresh c.args.h c.args.history.now t c.args.stores.now c.offer_in_turn.new.stores) taken ((c.in_ok-offer_in_turn.ensures {u = tt}).given)
