-- Matching term by term, over the program's terms.
use Rattle.std.proofs.Common.{◌≡◌, List, ◌∷◌, map}
use Rattle.std.specs.Prelude.{Option, Some, option_map}
use Rattle.std.specs.List.{AllZip}
use Rattle.crs_base.specs.declared.symbols.Sym.{Sym}
use Rattle.crs_model.specs.declared.pattern.Term.{Term as CodeTerm}
use Rattle.crs_model.specs.Matching.{TermIs, ChangeIs}
use Rattle.crs_model.specs.SeenModels.{term_of}
use Rattle.crs_model.specs.Bindings.{IsMatch}
use Rattle.crs_model.proofs.Matches.{match_then}
use Rattle.crs_model.proofs.Lost.{term_up}

pub change_then : (change : Option (CodeTerm × CodeTerm)) (symbols : Option (Sym × Sym)) (s t : CodeTerm) (x y : Sym) (old mid : List (Option Sym)) (new : Option (List (Option Sym))) → change ≡ Some (s, t) → symbols ≡ Some (x, y) →
    IsMatch (λ look. TermIs look (term_of s) x) old (Some mid) → IsMatch (λ look. TermIs look (term_of t) y) mid new →
    IsMatch (λ look. ChangeIs look (option_map (λ c. (term_of c.0, term_of c.1)) change) symbols) old new
change_then change symbols s t x y old mid new e f h k =
    rw (e, f) (match_then _ _ (λ look. TermIs look (term_of s) x × TermIs look (term_of t) y) old mid new (λ small look l p. term_up small look l (term_of s) x p) (λ look p q. (p, q)) (λ look r. r.0) (λ look r. r.1) h k)

pub terms_then : (terms : List CodeTerm) (symbols : List Sym) (t : CodeTerm) (ts : List CodeTerm) (x : Sym) (xs : List Sym) (old mid : List (Option Sym)) (new : Option (List (Option Sym))) → terms ≡ t ∷ ts → symbols ≡ x ∷ xs →
    IsMatch (λ look. TermIs look (term_of t) x) old (Some mid) → IsMatch (λ look. AllZip (TermIs look) (map term_of ts) xs) mid new →
    IsMatch (λ look. AllZip (TermIs look) (map term_of terms) symbols) old new
terms_then terms symbols t ts x xs old mid new e f h k =
    rw (e, f) (match_then _ _ (λ look. TermIs look (term_of t) x × AllZip (TermIs look) (map term_of ts) xs) old mid new (λ small look l p. term_up small look l (term_of t) x p) (λ look p q. (p, q)) (λ look r. r.0) (λ look r. r.1) h k)
