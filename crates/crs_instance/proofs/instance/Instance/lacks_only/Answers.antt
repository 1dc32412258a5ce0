use Rattle.std.proofs.Common.{ap, subst, ℕ, ◌≡◌, ◌+◌, ◌^◌, ◌<◌, [], arith}
use Rattle.std.specs.Prelude.{None, ◌==◌}
use Rattle.crs_base.specs.declared.symbols.Sym.{Sym}
use Rattle.crs_base.specs.Entry.{Entry}
use Rattle.crs_instance.specs.Instances.{InstanceState}
use Rattle.crs_instance.specs.EntryLinks.{known_in}
use Rattle.crs_instance.proofs.Kept.{kept_len, kept_room, kept_whole_with}
use Rattle.crs_instance.specs.Spans.{end_of, windows_of}
use Rattle.crs_instance.proofs.instance.Instance.lacks_only.Goals as goal

-- the bits hang on no entry
any : Entry Sym
any = record { arrival = 0; date = 0; name = record { 0 = 0 }; args = []; change = None; text = [] }

pub with_bit-requires-clause-place : goal.with_bit-requires-clause-place
with_bit-requires-clause-place c =
    let l = kept_len c.args.self.now.partial c.self.inside.count c.self.inside.bound c.self.inside.links.value (windows_of (known_in c.self.inside.links.value).spans.items) (end_of c.self.inside.last) c.self.invariant (ap (λ (s : InstanceState). s.partial) c.self.view_is) in
    let few = c.self.invariant.few in
    let within = c.requires.within in
    omega arith

pub with_bit-requires-clause-room : goal.with_bit-requires-clause-room
with_bit-requires-clause-room c =
    let same = ap (λ (s : InstanceState). s.partial) c.self.view_is in
    let ws = windows_of (known_in c.self.inside.links.value).spans.items in
    let inside : c.args.event < c.self.inside.count = (let l = kept_len c.args.self.now.partial c.self.inside.count c.self.inside.bound c.self.inside.links.value ws (end_of c.self.inside.last) c.self.invariant same in let k = c.requires.within in omega arith) in
    kept_room c.args.self.now.partial c.self.inside.count c.self.inside.bound c.self.inside.links.value ws (end_of c.self.inside.last) c.self.invariant same c.args.event any inside c.requires.unbound

pub returns : goal.returns
returns c = λ x.
    let same = ap (λ (s : InstanceState). s.partial) c.self.view_is in
    let ws = windows_of (known_in c.self.inside.links.value).spans.items in
    let inside : c.args.event < c.self.inside.count = (let l = kept_len c.args.self.now.partial c.self.inside.count c.self.inside.bound c.self.inside.links.value ws (end_of c.self.inside.last) c.self.invariant same in let k = c.requires.within in omega arith) in
    kept_whole_with c.args.self.now.partial c.self.inside.count c.self.inside.bound c.self.inside.links.value ws (end_of c.self.inside.last) c.self.invariant same c.args.event x inside c.requires.unbound
    c.are_all_set.result (subst (λ (n : ℕ). c.are_all_set.result ≡ (n + 1 == 2 ^ c.self.inside.count)) c.with_bit.ensures c.are_all_set.ensures)
