use Rattle.std.proofs.Common.{◌≡◌, ◌<◌, ◌≤ℤ◌, ◌^◌, ◌∷◌, ◌++◌, List, map, pos, sym, subst, Global}
use Rattle.std.specs.List.{AllByRecursion}
use Rattle.std.specs.declared.rc.Rc.{Rc}
use Rattle.crs_base.specs.declared.entry.Entry.{Entry as CodeEntry}
use Rattle.crs_base.specs.declared.symbols.Sym.{Sym}
use Rattle.crs_base.specs.Entry.{Entry, entry_cmp, IsInKeyOrder}
use Rattle.std.specs.declared.cmp.Ordering.TheVariants.{Less}
use Rattle.crs_base.specs.Seen.{entry_of}
use Rattle.crs_engine.specs.Moves.{AreApart}
use Rattle.crs_engine.proofs.Order.{ordered_right}
use Rattle.crs_engine.proofs.Settling.{same_all, each_taken, in_order_put, in_order_rest, rest_behind}
use Rattle.crs_engine.proofs.moving.settle_piece.Goals as goal

pub returns-in_err-take_piece-clause-same : goal.returns-in_err-take_piece-clause-same
returns-in_err-take_piece-clause-same g c = same_all c.args.stores.now

pub returns-in_err-take_piece-clause-order : goal.returns-in_err-take_piece-clause-order
returns-in_err-take_piece-clause-order g c = in_order_rest c.args.entries.now.history (entry_of c.args.first.value ∷ c.args.entries.now.buffer) c.take_piece.new.buffer (rest_behind (entry_of c.args.first.value) c.args.entries.now.buffer c.take_piece.new.buffer c.take_piece.ensures.rest) c.requires.order

pub settle_due-requires-clause-small : goal.settle_due-requires-clause-small
settle_due-requires-clause-small g c =
    subst (λ (rs : List (Rc CodeEntry Global)). AllByRecursion (λ x. x.date < 2 ^ 40) (map (λ r. entry_of r.value) rs)) (sym c.as_slice-due.ensures.value)
    (each_taken (λ x. x.date < 2 ^ 40) c.args.h (map (λ r. entry_of r.value) c.take_piece.new.due.items) (entry_of c.args.first.value ∷ c.args.entries.now.buffer) c.take_piece.new.buffer ((c.in_ok-take_piece.ensures {u = tt}).taken) c.requires.small)

pub settle_due-requires-clause-order : goal.settle_due-requires-clause-order
settle_due-requires-clause-order g c =
    subst (λ (rs : List (Rc CodeEntry Global)). IsInKeyOrder (c.args.entries.now.history.entries ++ (map (λ r. entry_of r.value) rs ++ c.take_piece.new.buffer))) (sym c.as_slice-due.ensures.value)
    (subst (λ (t : List (Entry Sym)). IsInKeyOrder (c.args.entries.now.history.entries ++ t)) ((c.in_ok-take_piece.ensures {u = tt}).taken).parted c.requires.order)

pub settle_due-requires-clause-due : goal.settle_due-requires-clause-due
settle_due-requires-clause-due g c =
    subst (λ (rs : List (Rc CodeEntry Global)). AllByRecursion (λ x. c.args.entries.now.history.floor ≤ℤ pos x.date) (map (λ r. entry_of r.value) rs)) (sym c.as_slice-due.ensures.value)
    (each_taken (λ x. c.args.entries.now.history.floor ≤ℤ pos x.date) c.args.h (map (λ r. entry_of r.value) c.take_piece.new.due.items) (entry_of c.args.first.value ∷ c.args.entries.now.buffer) c.take_piece.new.buffer ((c.in_ok-take_piece.ensures {u = tt}).taken) c.requires.due)

pub settle_due-requires-clause-before : goal.settle_due-requires-clause-before
settle_due-requires-clause-before g c =
    subst (λ (rs : List (Rc CodeEntry Global)). AllByRecursion (λ x. x.date < c.args.h) (map (λ r. entry_of r.value) rs)) (sym c.as_slice-due.ensures.value) ((c.in_ok-take_piece.ensures {u = tt}).taken).before

pub returns-in_err-settle_due-clause-order : goal.returns-in_err-settle_due-clause-order
returns-in_err-settle_due-clause-order g c =
    in_order_put c.args.entries.now.history c.settle_due.new.history (map (λ r. entry_of r.value) c.as_slice-due.result.now) c.take_piece.new.buffer c.settle_due.ensures.put
    (subst (λ (rs : List (Rc CodeEntry Global)). IsInKeyOrder (c.args.entries.now.history.entries ++ (map (λ r. entry_of r.value) rs ++ c.take_piece.new.buffer))) (sym c.as_slice-due.ensures.value)
    (subst (λ (t : List (Entry Sym)). IsInKeyOrder (c.args.entries.now.history.entries ++ t)) ((c.in_ok-take_piece.ensures {u = tt}).taken).parted c.requires.order))

pub take_piece-requires-clause-order : goal.take_piece-requires-clause-order
take_piece-requires-clause-order g c = ordered_right (λ a b. entry_cmp a b ≡ Less) c.args.entries.now.history.entries (entry_of c.args.first.value ∷ c.args.entries.now.buffer) c.requires.order

pub settle_due-requires-clause-apart : goal.settle_due-requires-clause-apart
settle_due-requires-clause-apart g c =
    subst (λ (rs : List (Rc CodeEntry Global)). AreApart (map (λ r. entry_of r.value) rs) c.take_piece.new.buffer) (sym c.as_slice-due.ensures.value) ((c.in_ok-take_piece.ensures {u = tt}).apart)
