-- The least binding by which terms equal symbols, term by term.
use Rattle.std.proofs.Common.{◌≡◌, ◌≢◌, ℕ, ◌<◌, List, length, refl, sym, ap, subst, ◌∙◌, inl, inr, length-set, get_or-set_same, get_or-set_other}
use Rattle.std.specs.Prelude.{Option, Some, None, slice_set, Bool, true, false}
use Rattle.std.proofs.lemmas.Bool.Decides.{eqb_tells}
use Rattle.crs_base.specs.declared.symbols.Sym.{Sym}
use Rattle.crs_model.specs.Matching.{Binding}
use Rattle.crs_model.specs.Bindings.{look_of, Looser, IsMatch, IsMet}

-- nothing more is asked
pub match_same : (P : Binding Sym → Type 0) (old : List (Option Sym)) → P (look_of old) → IsMatch P old (Some old)
match_same P old p = (record { holds = p; more = λ v x e. e; least = λ other l q. l }, refl)

-- one more variable
pub match_new : (old : List (Option Sym)) (v : ℕ) (s : Sym) → v < length old → look_of old v ≡ None → IsMatch (λ look. look v ≡ Some s) old (Some (slice_set old v (Some s)))
match_new old v s l free = (
  record {
    holds = get_or-set_same old v (Some s) None l;
    more = λ u x e. elim (eqb_tells u v) [
      | inl t ↦ let i : look_of old v ≡ Some x = subst (λ (z : ℕ). look_of old z ≡ Some x) t.1 e in absurd (cc)
      | inr o ↦ get_or-set_other old v u (Some s) None o.1 ∙ e
    ];
    least = λ other lo q u x e. elim (eqb_tells u v) [
      | inl t ↦
          let i : look_of (slice_set old v (Some s)) v ≡ Some x = subst (λ (z : ℕ). look_of (slice_set old v (Some s)) z ≡ Some x) t.1 e in
          let j : look_of (slice_set old v (Some s)) v ≡ Some s = get_or-set_same old v (Some s) None l in
          let k : s ≡ x = cc in
          ap other t.1 ∙ q ∙ ap Some k
      | inr o ↦ lo u x (sym (get_or-set_other old v u (Some s) None o.1) ∙ e)
    ];
  },
  length-set old v (Some s),
)

pub match_other : (old : List (Option Sym)) (v : ℕ) (s t : Sym) → look_of old v ≡ Some t → t ≢ s → IsMatch (λ look. look v ≡ Some s) old None
match_other old v s t e n other l q = let m = l v t e in let k : t ≡ s = cc in n k

-- one thing after another
pub match_then : (P Q R : Binding Sym → Type 0) (old mid : List (Option Sym)) (new : Option (List (Option Sym))) →
    ((small look : Binding Sym) → Looser small look → P small → P look) →
    ((look : Binding Sym) → P look → Q look → R look) → ((look : Binding Sym) → R look → P look) → ((look : Binding Sym) → R look → Q look) →
    IsMatch P old (Some mid) → IsMatch Q mid new → IsMatch R old new
match_then P Q R old mid None up both one two h k = λ other l r. k other ((h.0).least other l (one other r)) (two other r)
match_then P Q R old mid (Some new) up both one two h k = (
  record {
    holds = both (look_of new) (up (look_of mid) (look_of new) (k.0).more (h.0).holds) (k.0).holds;
    more = λ v x e. (k.0).more v x ((h.0).more v x e);
    least = λ other l r. (k.0).least other ((h.0).least other l (one other r)) (two other r);
  },
  k.1 ∙ h.1,
)

-- what is written where the answer is true
pub met_yes : (P : Binding Sym → Type 0) (old new : List (Option Sym)) (b : Bool) → b ≡ true → IsMet P old new b → IsMatch P old (Some new)
met_yes P old new true e h = h
met_yes P old new false e h = absurd cc
