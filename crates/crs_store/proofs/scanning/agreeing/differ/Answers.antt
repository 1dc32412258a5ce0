use Rattle.std.proofs.Common.{◌≡◌, ℕ, Bool, false, true, nat_eq, ap, subst}
use Rattle.std.specs.Prelude.{not}
use Rattle.std.proofs.lemmas.Bool.{eq-eqb}
use Rattle.crs_base.specs.declared.symbols.Sym.{Sym}
use Rattle.crs_store.proofs.scanning.agreeing.differ.Goals as goal

never : (a b : ℕ) → a ≡ b → not (nat_eq a b) ≡ true → ⊥
never a b e t = let u : false ≡ true = subst (λ (v : Bool). not v ≡ true) (eq-eqb a b e) t in cc

pub returns-in-Some-other : goal.returns-in-Some-other
returns-in-Some-other c = λ t same. never c.in-Some.x.0 c.in-Some-other.y.0 (ap (λ (s : Sym). s.0) (same c.in-Some.x c.in-Some-other.y c.in-Some.is c.in-Some-other.is)) t
