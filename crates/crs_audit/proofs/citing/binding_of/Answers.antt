use Rattle.std.proofs.Common.{rules, ◌≡◌, subst, ℕ, Bool, true, List, length, map, Some, None, Option}
use Rattle.std.specs.Prelude.{replicate}
use Rattle.crs_base.specs.declared.symbols.Sym.{Sym}
use Rattle.crs_base.specs.Entry.{Entry}
use Rattle.crs_base.specs.Seen.{entry_of}
use Rattle.crs_model.specs.Models.{Chronicle}
use Rattle.crs_model.specs.SeenModels.{chronicle_of}
use Rattle.crs_model.specs.Bindings.{IsMet, IsMatch, look_of}
use Rattle.crs_model.specs.Matching.{IsAllowed}
use Rattle.crs_model.proofs.Matches.{met_yes}
use Rattle.crs_audit.specs.Fit.{AreEqual}
use Rattle.crs_audit.proofs.Fitting.{found, unallowed}
use Rattle.crs_audit.proofs.citing.binding_of.Goals as goal

started : (c : Chronicle Sym) (entries : List (Entry Sym)) (old new : List (Option Sym)) (n : ℕ) (b : Bool) → old ≡ replicate n None → b ≡ true
    → IsMet (AreEqual c.events entries) old new b → IsMatch (AreEqual c.events entries) (replicate n None) (Some new)
started c entries old new n b e t m = subst (λ (o : List (Option Sym)). IsMatch (AreEqual c.events entries) o (Some new)) e (met_yes _ _ _ b t m)

pub returns-then-allowed : goal.returns-then-allowed
returns-then-allowed c =
    let chronicle = chronicle_of c.args.chronicle.now in
    let entries : List (Entry Sym) = map (λ e. entry_of e.value) c.args.entries.now in
    let m = started chronicle entries c.new-binding.result c.bind_all.new.binding (length c.args.chronicle.now.variables) c.bind_all.result (search rules) c.if-not-bind_all.false
    (rw (c.as_slice.ensures) at c.bind_all.ensures) in
    let a : IsAllowed chronicle (look_of c.bind_all.new.binding) = c.allowed.ensures.0 c.if-allowed.true in
    found chronicle entries (length c.args.chronicle.now.variables) c.bind_all.new.binding (search rules) m a

pub returns-else-allowed : goal.returns-else-allowed
returns-else-allowed c =
    let chronicle = chronicle_of c.args.chronicle.now in
    let entries : List (Entry Sym) = map (λ e. entry_of e.value) c.args.entries.now in
    let m = started chronicle entries c.new-binding.result c.bind_all.new.binding (length c.args.chronicle.now.variables) c.bind_all.result (search rules) c.if-not-bind_all.false
    (rw (c.as_slice.ensures) at c.bind_all.ensures) in
    unallowed chronicle entries (length c.args.chronicle.now.variables) c.bind_all.new.binding m (λ a. let t = c.allowed.ensures.1 a in let f = c.if-allowed.false in cc)
