-- What stands at the same place of two lists, and what that refuses.
use Rattle.std.proofs.Common.{ℕ, zero, suc, ◌<◌, List, [], ◌∷◌, length, map, get_or, sym, subst, arith}
use Rattle.std.specs.List.{AllZip}
use Rattle.crs_base.specs.declared.symbols.Sym.{Sym}
use Rattle.crs_base.specs.Entry.{Entry}
use Rattle.crs_model.specs.Matching.{Binding, TermIs}
use Rattle.crs_model.specs.Models.{Term, Hold}
use Rattle.crs_waiting.specs.Refusing.{Refuses}

pub zip_get : {A B C : Type 0} (f : A → B) (R : B → C → Type 0) (xs : List A) (ys : List C) (i : ℕ) (d : A) (e : C) → i < length xs → i < length ys → AllZip R (map f xs) ys → R (f (get_or xs i d)) (get_or ys i e)
zip_get f R [] ys i d e l m z = absurd (omega arith)
zip_get f R (x ∷ xs) [] i d e l m z = absurd (omega arith)
zip_get f R (x ∷ xs) (y ∷ ys) zero d e l m z = z.0
zip_get f R (x ∷ xs) (y ∷ ys) (suc i) d e l m z = zip_get f R xs ys i d e (omega arith) (omega arith) z.1

-- a `hold` refuses an entry whose arguments can't equal its terms
pub hold_refuses : (name : Sym) (terms : List (Term Sym)) (value : Term Sym) (x : Entry Sym) → ((look : Binding Sym) → AllZip (TermIs look) terms x.args → ⊥) → Refuses (Hold name terms value) x
hold_refuses name terms value x none look from to = (λ hit. hit, λ a v held change dated. absurd (none look (subst (λ (ys : List Sym). AllZip (TermIs look) terms ys) (sym change.of) held.args_are)))
