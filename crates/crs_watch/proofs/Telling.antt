-- What known symbols tell of an entry that has them.
use Rattle.std.proofs.Common.{◌≡◌, zero, suc, List, [], ◌∷◌, Option, Some, None, refl}
use Rattle.std.specs.Prelude.{IfSome}
use Rattle.std.specs.List.{AllZip}
use Rattle.crs_base.specs.declared.symbols.Sym.{Sym}
use Rattle.crs_history.specs.Keyed.{HaveKnown}
use Rattle.crs_model.specs.Bindings.{Looser}
use Rattle.crs_model.specs.Matching.{Binding, TermIs}
use Rattle.crs_model.specs.Models.{Term}
use Rattle.crs_watch.specs.Known.{Tells, AreTold}

-- arguments that the terms equal have what is told of them
pub have_told : (look more : Binding Sym) (terms : List (Term Sym)) (known : List (Option Sym)) (args : List Sym) → AreTold look terms known → Looser look more → AllZip (TermIs more) terms args → HaveKnown known args
have_told look more terms [] args told loose zip = tt
have_told look more [] (k ∷ ks) [] told loose zip = (none k (told zero), have_told look more [] ks [] (λ n s e. told (suc n) s e) loose zip)
  where
    none : (k : Option Sym) → ((s : Sym) → k ≡ Some s → ⊥) → k ≡ None
    none None f = refl
    none (Some s) f = absurd (f s refl)
have_told look more [] (k ∷ ks) (a ∷ args) told loose zip = absurd zip
have_told look more (t ∷ terms) (k ∷ ks) [] told loose zip = absurd zip
have_told look more (t ∷ terms) (k ∷ ks) (a ∷ args) told loose zip = (one k (told zero), have_told look more terms ks args (λ n s e. told (suc n) s e) loose zip.1)
  where
    one : (k : Option Sym) → ((s : Sym) → k ≡ Some s → Tells look t s) → IfSome k (λ s. s ≡ a)
    one None f = tt
    one (Some s) f = f s refl more a loose zip.0
