use Rattle.std.proofs.Common.{◌≡◌, map, sym, ap, ◌∙◌, Global, ◌∷◌, [], List, rules, arith}
use Rattle.std.specs.Prelude.{Option, option_map}
use Rattle.std.proofs.lemmas.List.{map-append}
use Rattle.std.specs.declared.rc.Rc.{Rc}
use Rattle.crs_base.specs.declared.entry.Entry.{Entry as CodeEntry}
use Rattle.crs_base.specs.Seen.{entry_of}
use Rattle.crs_engine.proofs.Settling.{out_none, out_more, out_whole, out_all}
use Rattle.crs_engine.proofs.moving.take_all.Goals as goal

pub loop-entry-init : goal.loop-entry-init
loop-entry-init c = out_none c.args.fresh.now (map (λ r. entry_of r.value) c.clear.new.self.items) (let none : c.clear.new.self.items ≡ [] = search rules in ap (λ (rs : List (Rc CodeEntry Global)). map (λ r. entry_of r.value) rs) none) c.requires.small

pub loop-entry-preserved : goal.loop-entry-preserved
loop-entry-preserved c =
    out_more c.args.fresh.now (map (λ r. entry_of r.value) c.loop-entry.due.items) c.loop-entry.fresh c.loop-entry.invariant _ (entry_of c.in-Some.entry.value) c.release_before.new.self (map (λ r. entry_of r.value) c.push.new.self.items)
    (sym c.release_before.ensures.first ∙ ap (λ (o : Option (Rc CodeEntry Global)). option_map (λ r. entry_of r.value) o) c.in-Some.is) c.release_before.ensures.rest
    (ap (λ (rs : List (Rc CodeEntry Global)). map (λ r. entry_of r.value) rs) ((c.in_ok-push.ensures {u = tt}).items) ∙ map-append (λ (r : Rc CodeEntry Global). entry_of r.value) c.loop-entry.due.items (c.in-Some.entry ∷ []))

pub returns-clause-none : goal.returns-clause-none
returns-clause-none c = out_all c.args.fresh.now (map (λ r. entry_of r.value) c.loop-entry.due.items) c.loop-entry.fresh c.loop-entry.invariant _ (omega arith) (c.release_before.ensures.none.0 (search rules)) c.release_before.new.self c.release_before.ensures.rest

pub returns-clause-taken : goal.returns-clause-taken
returns-clause-taken c = out_whole c.args.fresh.now (map (λ r. entry_of r.value) c.loop-entry.due.items) c.loop-entry.fresh c.loop-entry.invariant _ (omega arith) (c.release_before.ensures.none.0 (search rules))
