-- What is read of the ranges of windows was written so.
use Rattle.std.proofs.Common.{◌≡◌, ◌==◌, List, [], ◌∷◌, ◌++◌, Some, sym, subst, eqb-true, inl, inr}
use Rattle.std.specs.Prelude.{bytes_eq, codes}
use Rattle.crs_base.specs.Tokens.{Token, Word, Mark}
use Rattle.crs_base.proofs.Texts.{bytes_same}
use Rattle.crs_grammar.specs.Forms.{Part, AreWritten, shift_form, anchor_form}
use Rattle.crs_grammar.specs.Statements.{Shift, Here, Later, Earlier, Anchor}
use Rattle.crs_grammar.specs.TokenReading.{◌>>=◌, number_at, shift_at, anchor_at}
use Rattle.crs_grammar.proofs.Gives.{bind_some, cond_either, same_pair, symbol_gives, number_gives}

pub shift_gives : (ts : List Token) (s : Shift) (back : List Token) (rest : List Part) → shift_at ts ≡ Some (s, back) → AreWritten rest back → AreWritten (shift_form s ++ rest) ts
unfolding shift_at
shift_gives [] s back rest e h = let q = same_pair Here s [] back e in subst (λ x. AreWritten (shift_form x ++ rest) []) q.0 (subst (AreWritten rest) (sym q.1) h)
shift_gives (Mark m ∷ ts) s back rest e h = elim (cond_either (m == 43) (number_at ts >>= λ n. Some (Later n.0, n.1)) (Some (Here, Mark m ∷ ts)) (s, back) e) [
  | inl p ↦
      let a = bind_some _ _ _ p.1 in
      let q = same_pair (Later a.0.0) s a.0.1 back a.2 in
      subst (λ x. AreWritten (shift_form x ++ rest) (Mark m ∷ ts)) q.0 (eqb-true m 43 p.0, number_gives ts a.0.0 a.0.1 rest a.1 (subst (AreWritten rest) (sym q.1) h))
  | inr p ↦ let q = same_pair Here s (Mark m ∷ ts) back p.1 in subst (λ x. AreWritten (shift_form x ++ rest) (Mark m ∷ ts)) q.0 (subst (AreWritten rest) (sym q.1) h)
]
shift_gives (Word w ∷ ts) s back rest e h = elim (cond_either (bytes_eq w (codes "-")) (number_at ts >>= λ n. Some (Earlier n.0, n.1)) (Some (Here, Word w ∷ ts)) (s, back) e) [
  | inl p ↦
      let a = bind_some _ _ _ p.1 in
      let q = same_pair (Earlier a.0.0) s a.0.1 back a.2 in
      subst (λ x. AreWritten (shift_form x ++ rest) (Word w ∷ ts)) q.0 (bytes_same w (codes "-") p.0, number_gives ts a.0.0 a.0.1 rest a.1 (subst (AreWritten rest) (sym q.1) h))
  | inr p ↦ let q = same_pair Here s (Word w ∷ ts) back p.1 in subst (λ x. AreWritten (shift_form x ++ rest) (Word w ∷ ts)) q.0 (subst (AreWritten rest) (sym q.1) h)
]

pub anchor_gives : (ts : List Token) (a : Anchor) (back : List Token) (rest : List Part) → anchor_at ts ≡ Some (a, back) → AreWritten rest back → AreWritten (anchor_form a ++ rest) ts
unfolding anchor_at
anchor_gives ts a back rest e h =
    let p = bind_some _ _ _ e in
    let s = bind_some _ _ _ p.2 in
    let read : Anchor = record { point = p.0.0; shift = s.0.0 } in
    let q = same_pair read a s.0.1 back s.2 in
    subst (λ x. AreWritten (anchor_form x ++ rest) ts) q.0
    (symbol_gives ts p.0.0 p.0.1 (shift_form s.0.0 ++ rest) p.1 (shift_gives p.0.1 s.0.0 s.0.1 rest s.1 (subst (AreWritten rest) (sym q.1) h)))
