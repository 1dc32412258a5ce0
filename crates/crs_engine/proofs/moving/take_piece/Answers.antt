use Rattle.std.proofs.Common.{rules, map, sym, ap, subst, ◌≡◌, ◌≤◌, ◌∙◌, Global, ◌∷◌, [], List}
use Rattle.std.specs.Prelude.{Option, Some, option_map}
use Rattle.std.specs.List.{AllByRecursion}
use Rattle.std.proofs.lemmas.List.{map-append}
use Rattle.std.specs.declared.rc.Rc.{Rc}
use Rattle.crs_base.specs.declared.entry.Entry.{Entry as CodeEntry}
use Rattle.crs_base.specs.declared.symbols.Sym.{Sym}
use Rattle.crs_base.specs.Entry.{Entry}
use Rattle.crs_base.specs.Seen.{entry_of}
use Rattle.crs_buffer.specs.Entries.{released}
use Rattle.crs_engine.specs.Moves.{AreApart}
use Rattle.crs_engine.proofs.Settling.{AreInPiece, left_none, piece_next, piece_apart, rest_more}
use Rattle.crs_engine.proofs.moving.take_piece.Goals as goal

pub loop-entry-preserved : goal.loop-entry-preserved
loop-entry-preserved c =
    let taken = map (λ r. entry_of r.value) c.loop-entry.due.items in
    let next = map (λ r. entry_of r.value) c.push-in-Some.new.self.items in
    let x = entry_of c.args.first.value in
    let y = entry_of c.in-Some.entry.value in
    let out : released c.loop-entry.buffer c.end_of_piece.result ≡ Some y = sym c.release_before.ensures.first ∙ ap (λ (o : Option (Rc CodeEntry Global)). option_map (λ r. entry_of r.value) o) c.in-Some.is in
    subst (λ (e : CodeEntry). AreInPiece c.args.h e.date next x c.args.buffer.now c.release_before.new.self) (sym c.deref-in-Some.ensures)
    (piece_next c.args.h c.loop-entry.date c.end_of_piece.result taken next x c.args.buffer.now c.loop-entry.buffer c.release_before.new.self y c.loop-entry.invariant c.end_of_piece.ensures.within out c.release_before.ensures.rest
    (ap (λ (rs : List (Rc CodeEntry Global)). map (λ r. entry_of r.value) rs) ((c.in_ok-push-2.ensures {u = tt}).items) ∙ map-append (λ (r : Rc CodeEntry Global). entry_of r.value) c.loop-entry.due.items (c.in-Some.entry ∷ [])))

pub returns-in_err-push-2-clause-rest : goal.returns-in_err-push-2-clause-rest
returns-in_err-push-2-clause-rest c =
    let y = entry_of c.in-Some.entry.value in
    let out : released c.loop-entry.buffer c.end_of_piece.result ≡ Some y = sym c.release_before.ensures.first ∙ ap (λ (o : Option (Rc CodeEntry Global)). option_map (λ r. entry_of r.value) o) c.in-Some.is in
    rest_more c.end_of_piece.result (entry_of c.args.first.value) c.args.buffer.now c.loop-entry.buffer c.release_before.new.self y (c.loop-entry.invariant.so).rest_of out c.release_before.ensures.rest

pub returns-clause-apart : goal.returns-clause-apart
returns-clause-apart c =
    let taken = map (λ r. entry_of r.value) c.loop-entry.due.items in
    let none : AllByRecursion (λ e. c.end_of_piece.result ≤ e.date) c.loop-entry.buffer = c.release_before.ensures.none.0 (search rules) in
    subst (λ (t : List (Entry Sym)). AreApart taken t) (sym (c.release_before.ensures.rest ∙ left_none c.end_of_piece.result c.loop-entry.buffer none))
    (piece_apart c.args.h c.loop-entry.date c.end_of_piece.result taken (entry_of c.args.first.value) c.args.buffer.now c.loop-entry.buffer c.loop-entry.invariant c.end_of_piece.ensures.after none)
