-- Whether some binding fits, and which is the least.
use Rattle.std.proofs.Common.{◌≡◌, ℕ, ◌<◌, List, [], ◌∷◌, length, refl, sym, subst, zero, suc, arith}
use Rattle.std.specs.Prelude.{Option, Some, None, Bool, true, false, IsTrue, IfSome, IsSomeAnd, ◌↔◌}
use Rattle.std.specs.List.{AllZip, AllByRecursion}
use Rattle.crs_base.specs.declared.symbols.Sym.{Sym}
use Rattle.crs_model.specs.Matching.{TermIs, ChangeIs, PatternIs}
use Rattle.crs_base.specs.Entry.{Entry}
use Rattle.crs_model.specs.Models.{Term, Value, Var, Any, Pattern}
use Rattle.crs_model.specs.Bindings.{look_of, IsMatch, IsMet, IsFit, TermIsBelow, PatternIsBelow}
use Rattle.crs_model.specs.Verdicts.{TermIsBound, PatternIsBound}
use Rattle.crs_model.proofs.Matches.{match_then}
use Rattle.crs_model.proofs.Lost.{terms_up, pattern_down}

pub fits_says : (p : Pattern Sym) (old : List (Option Sym)) (e : Entry Sym) (new : List (Option Sym)) (b : Bool) → IsMet (λ look. PatternIs look p e) old new b → IsTrue b ↔ IsFit p old e
fits_says p old e new false h = (λ t. absurd cc, λ f. absurd (h f.0 f.1 f.2))
fits_says p old e new true h = (λ t. (look_of new, (h.0).more, (h.0).holds), λ f. refl)

pub pattern_then : (p : Pattern Sym) (old mid : List (Option Sym)) (e : Entry Sym) (new : Option (List (Option Sym))) (ts : List (Term Sym)) (xs : List Sym) → ts ≡ p.terms → xs ≡ e.args → p.name ≡ e.name → IsMatch (λ look. AllZip (TermIs look) ts xs) old (Some mid) → IsMatch (λ look. ChangeIs look p.change e.change) mid new → IsMatch (λ look. PatternIs look p e) old new
pattern_then p old mid e new ts xs a b s h k =
    match_then (λ look. AllZip (TermIs look) ts xs) _ (λ look. PatternIs look p e) old mid new (λ small look l t. terms_up small look l ts xs t)
    (λ look t c. record { name = s; terms = subst (λ (y : List Sym). AllZip (TermIs look) p.terms y) b (subst (λ (y : List (Term Sym)). AllZip (TermIs look) y xs) a t); change = c })
    (λ look r. subst (λ (y : List Sym). AllZip (TermIs look) ts y) (sym b) (subst (λ (y : List (Term Sym)). AllZip (TermIs look) y e.args) (sym a) r.terms)) (λ look r. r.change) h k

-- a bound variable is one of the binding's
bound_below : (old : List (Option Sym)) (v : ℕ) → IsSomeAnd (look_of old v) (λ _. Unit {0}) → v < length old
bound_below [] v b = absurd b
bound_below (o ∷ old) zero b = omega arith
bound_below (o ∷ old) (suc v) b = let r = bound_below old v b in omega arith

term_below : (old : List (Option Sym)) (t : Term Sym) → TermIsBound (look_of old) t → TermIsBelow (length old) t
term_below old (Value x) b = tt
term_below old (Var v) b = bound_below old v b
term_below old Any b = tt

terms_below : (old : List (Option Sym)) (ts : List (Term Sym)) → AllByRecursion (TermIsBound (look_of old)) ts → AllByRecursion (TermIsBelow (length old)) ts
terms_below old [] b = tt
terms_below old (t ∷ ts) b = (term_below old t b.0, terms_below old ts b.1)

change_below : (old : List (Option Sym)) (c : Option (Term Sym × Term Sym)) → IfSome c (λ c. TermIsBound (look_of old) c.0 × TermIsBound (look_of old) c.1) → IfSome c (λ c. TermIsBelow (length old) c.0 × TermIsBelow (length old) c.1)
change_below old None b = tt
change_below old (Some c) b = (term_below old c.0 b.0, term_below old c.1 b.1)

pub pattern_below : (old : List (Option Sym)) (p : Pattern Sym) → PatternIsBound (look_of old) p → PatternIsBelow (length old) p
pattern_below old p b = (terms_below old p.terms b.0, change_below old p.change b.1)

-- where the variables are bound, what some binding beyond makes equal is equal
pub accepts_says : (p : Pattern Sym) (old : List (Option Sym)) (e : Entry Sym) (new : List (Option Sym)) (b : Bool) → PatternIsBound (look_of old) p → IsMet (λ look. PatternIs look p e) old new b → IsTrue b ↔ PatternIs (look_of old) p e
accepts_says p old e new b bound h =
    let says = fits_says p old e new b h in
    (λ t. let f = says.0 t in pattern_down (look_of old) f.0 f.1 p e bound f.2, λ r. says.1 (look_of old, (λ v x q. q), r))
