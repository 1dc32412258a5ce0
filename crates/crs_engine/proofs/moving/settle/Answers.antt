use Rattle.std.proofs.Common.{rules, ◌<◌, ◌≤ℤ◌, ◌^◌, List, pos, sym, ap, subst, ◌∙◌, Global}
use Rattle.std.specs.Prelude.{Option, option_map}
use Rattle.std.specs.List.{AllByRecursion}
use Rattle.std.specs.declared.rc.Rc.{Rc}
use Rattle.crs_base.specs.declared.entry.Entry.{Entry as CodeEntry}
use Rattle.crs_base.specs.declared.symbols.Sym.{Sym}
use Rattle.crs_base.specs.Entry.{Entry}
use Rattle.crs_base.specs.Seen.{entry_of}
use Rattle.crs_engine.specs.Moves.{AreSettled, IsRestOf}
use Rattle.crs_engine.proofs.Settling.{ranked_on, pieces_none, piece_more, first_taken, each_waiting, each_late, same_on, rest_behind, rest_at_end, settled_at_end}
use Rattle.crs_engine.proofs.Passed.{told_on}
use Rattle.crs_engine.proofs.moving.settle.Goals as goal

pub loop-first-init : goal.loop-first-init
loop-first-init g c = pieces_none c.args.stores.now c.args.entries.now.history c.args.entries.now.buffer c.args.h c.requires.order

pub settle_piece-requires-clause-small : goal.settle_piece-requires-clause-small
settle_piece-requires-clause-small g c =
    let out = first_taken c.args.h c.loop-first.entries.buffer c.release_before.new.self (entry_of c.in-Some.first.value) (sym c.release_before.ensures.first ∙ ap (λ (o : Option (Rc CodeEntry Global)). option_map (λ r. entry_of r.value) o) c.in-Some.is) c.release_before.ensures.rest in
    subst (AllByRecursion (λ x. x.date < 2 ^ 40)) out.0 (each_waiting (λ x. x.date < 2 ^ 40) c.args.stores.now c.loop-first.stores c.args.entries.now.history c.loop-first.entries.history c.args.entries.now.buffer c.args.h c.loop-first.entries.buffer c.loop-first.invariant c.requires.small)

pub settle_piece-requires-clause-due : goal.settle_piece-requires-clause-due
settle_piece-requires-clause-due g c =
    let out = first_taken c.args.h c.loop-first.entries.buffer c.release_before.new.self (entry_of c.in-Some.first.value) (sym c.release_before.ensures.first ∙ ap (λ (o : Option (Rc CodeEntry Global)). option_map (λ r. entry_of r.value) o) c.in-Some.is) c.release_before.ensures.rest in
    subst (AllByRecursion (λ x. c.loop-first.entries.history.floor ≤ℤ pos x.date)) out.0 (each_late c.args.stores.now c.loop-first.stores c.args.entries.now.history c.loop-first.entries.history c.args.entries.now.buffer c.args.h c.loop-first.entries.buffer c.loop-first.invariant c.requires.due)

pub loop-first-preserved : goal.loop-first-preserved
loop-first-preserved g c =
    let out = first_taken c.args.h c.loop-first.entries.buffer c.release_before.new.self (entry_of c.in-Some.first.value) (sym c.release_before.ensures.first ∙ ap (λ (o : Option (Rc CodeEntry Global)). option_map (λ r. entry_of r.value) o) c.in-Some.is) c.release_before.ensures.rest in
    piece_more c.args.stores.now c.loop-first.stores c.settle_piece.new.stores c.args.entries.now.history c.loop-first.entries.history c.settle_piece.new.entries.history c.args.entries.now.buffer c.args.h c.loop-first.entries.buffer c.settle_piece.new.entries.buffer c.loop-first.invariant
    (subst (λ (t : List (Entry Sym)). AreSettled c.loop-first.stores c.loop-first.entries.history t c.args.h c.settle_piece.new.stores c.settle_piece.new.entries.history c.settle_piece.new.entries.buffer) (sym out.0) ((c.in_ok-settle_piece.ensures {u = tt}).settled))
    c.settle_piece.ensures.order c.settle_piece.ensures.floor

pub returns-in_err-settle_piece-clause-same : goal.returns-in_err-settle_piece-clause-same
returns-in_err-settle_piece-clause-same g c = same_on c.args.stores.now c.loop-first.stores c.settle_piece.new.stores ((c.loop-first.invariant).part).same c.settle_piece.ensures.same

pub returns-in_err-settle_piece-clause-rest : goal.returns-in_err-settle_piece-clause-rest
returns-in_err-settle_piece-clause-rest g c =
    let out = first_taken c.args.h c.loop-first.entries.buffer c.release_before.new.self (entry_of c.in-Some.first.value) (sym c.release_before.ensures.first ∙ ap (λ (o : Option (Rc CodeEntry Global)). option_map (λ r. entry_of r.value) o) c.in-Some.is) c.release_before.ensures.rest in
    rest_at_end c.args.stores.now c.loop-first.stores c.args.entries.now.history c.loop-first.entries.history c.args.entries.now.buffer c.args.h c.loop-first.entries.buffer c.settle_piece.new.entries.buffer c.loop-first.invariant
    (subst (λ (t : List (Entry Sym)). IsRestOf t c.settle_piece.new.entries.buffer) (sym out.0) (rest_behind (entry_of c.in-Some.first.value) c.release_before.new.self c.settle_piece.new.entries.buffer c.settle_piece.ensures.rest))

pub returns-clause-settled : goal.returns-clause-settled
returns-clause-settled g c = (settled_at_end c.args.stores.now c.loop-first.stores c.args.entries.now.history c.loop-first.entries.history c.args.entries.now.buffer c.args.h c.loop-first.entries.buffer c.release_before.new.self c.loop-first.invariant (c.release_before.ensures.none.0 (search rules)) c.release_before.ensures.rest).0

pub returns-clause-after : goal.returns-clause-after
returns-clause-after g c = (settled_at_end c.args.stores.now c.loop-first.stores c.args.entries.now.history c.loop-first.entries.history c.args.entries.now.buffer c.args.h c.loop-first.entries.buffer c.release_before.new.self c.loop-first.invariant (c.release_before.ensures.none.0 (search rules)) c.release_before.ensures.rest).1

pub settle_piece-requires-clause-ranks : goal.settle_piece-requires-clause-ranks
settle_piece-requires-clause-ranks g c = ranked_on c.args.names.now.ranks.value.items c.args.stores.now c.loop-first.stores ((c.loop-first.invariant).part).same c.requires.ranks

pub settle_piece-requires-clause-told : goal.settle_piece-requires-clause-told
settle_piece-requires-clause-told g c = told_on c.args.names.now.concerned c.args.stores.now c.loop-first.stores ((c.loop-first.invariant).part).same c.requires.told
