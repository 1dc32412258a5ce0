use Rattle.std.proofs.Common.{length-set, take_all, subst, arith}
use Rattle.std.specs.Prelude.{Some}
use Rattle.std.specs.Option.{option_copied}
use Rattle.crs_base.specs.declared.symbols.Sym.{Sym}
use Rattle.crs_base.specs.Seen.{entry_of}
use Rattle.crs_model.specs.Partial.{Partial, put}
use Rattle.crs_instance.specs.Instances.{seen_entry}
use Rattle.crs_instance.specs.EntryLinks.{partial_of, AreListed}
use Rattle.crs_instance.proofs.Linked.{linked_len}
use Rattle.crs_instance.proofs.Pushes.{listed_more}
use Rattle.crs_instance.proofs.links.listed_with.Goals as goal

pub loop-here-preserved : goal.loop-here-preserved
loop-here-preserved c linked =
    let x = entry_of c.args.entry.now.value in
    let l = linked_len c.args.count c.args.links.now in
    let m = length-set (partial_of c.args.count c.args.links.now) c.args.event (Some x) in
    listed_more (put (partial_of c.args.count c.args.links.now) c.args.event x) c.loop-here.here (seen_entry (option_copied c.entry_with.result)) c.loop-here.all c.push_some.new.entries (omega arith)
    (c.entry_with.ensures c.args.count (omega arith) linked) (c.in_ok-push_some.ensures {u = tt}) (c.loop-here.invariant linked)

pub returns : goal.returns
returns c linked =
    let x = entry_of c.args.entry.now.value in
    let all : Partial Sym = put (partial_of c.args.count c.args.links.now) c.args.event x in
    let l = linked_len c.args.count c.args.links.now in
    let m = length-set (partial_of c.args.count c.args.links.now) c.args.event (Some x) in
    subst (λ (a : Partial Sym). AreListed a c.loop-here.all) (take_all c.loop-here.here all (omega arith)) (c.loop-here.invariant linked)
