-- The entries of numbers, one after another.
use Rattle.std.proofs.Common.{◌≡◌, ◌∙◌, ap, sym, subst, Bool, true, false, List, [], ◌∷◌, ◌++◌, ℕ, map, append_assoc}
use Rattle.std.proofs.lemmas.List.{map-append}
use Rattle.std.specs.declared.rc.Rc.{Rc}
use Rattle.std.proofs.Common.{Global}
use Rattle.std.specs.List.{AllZip}
use Rattle.crs_base.specs.declared.entry.Entry.{Entry as CodeEntry}
use Rattle.crs_base.specs.declared.symbols.Sym.{Sym}
use Rattle.crs_base.specs.Entry.{Entry}
use Rattle.crs_base.specs.Seen.{entry_of}
use Rattle.crs_audit.specs.declared.run.Stand.{Stand}
use Rattle.crs_audit.specs.Cited.{IsAvailable, ArePushed}

module _ (all : List (Entry Sym)) (at : Stand) (prompt : Bool) where
  none_then : (n : ℕ) (rest : List ℕ) (es : List (Entry Sym)) → ((es : List (Entry Sym)) → AllZip (IsAvailable all at prompt) rest es → ⊥)
      → AllZip (IsAvailable all at prompt) (n ∷ rest) es → ⊥
  none_then n rest [] h z = z
  none_then n rest (e ∷ es) h z = h es z.1

  pub pushed_then : (ns rest : List ℕ) (n : ℕ) (e : Entry Sym) (old mid new : List (Entry Sym)) (b : Bool) → ns ≡ n ∷ rest → IsAvailable all at prompt n e → mid ≡ old ++ e ∷ []
      → ArePushed all at prompt rest mid new b → ArePushed all at prompt ns old new b
  pushed_then ns rest n e old mid new true q s m h = subst (λ (ms : List ℕ). ArePushed all at prompt ms old new true) (sym q)
      (e ∷ h.0, (s, h.1), h.2 ∙ ap (λ (xs : List (Entry Sym)). xs ++ h.0) m ∙ append_assoc old (e ∷ []) h.0)
  pushed_then ns rest n e old mid new false q s m h = subst (λ (ms : List ℕ). ArePushed all at prompt ms old new false) (sym q)
      (λ es z. none_then n rest es h z)

-- one more entry that is shared
pub shared : (old new : List (Rc CodeEntry Global)) (r s : Rc CodeEntry Global) → new ≡ old ++ r ∷ [] → r.value ≡ s.value
    → map (λ e. entry_of e.value) new ≡ map (λ e. entry_of e.value) old ++ entry_of s.value ∷ []
shared old new r s e v = ap (map (λ e. entry_of e.value)) e ∙ map-append (λ e. entry_of e.value) old (r ∷ [])
    ∙ ap (λ (x : CodeEntry). map (λ e. entry_of e.value) old ++ entry_of x ∷ []) v
