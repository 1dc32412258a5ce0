-- One more window narrowed, and one more entry looked at.
use Rattle.std.proofs.Common.{◌≡◌, ℕ, ◌<◌, ◌+◌, List, [], ◌∷◌, ◌++◌, length, refl, sym, ap, subst, ◌∙◌, inl, inr, arith, length-append}
use Rattle.std.specs.Prelude.{ℤ, Option, Some, None}
use Rattle.std.proofs.lemmas.Bool.{cases_lt}
use Rattle.std.proofs.lemmas.List.{get_or_push}
use Rattle.std.proofs.Math.ListN.{get_or-append}
use Rattle.crs_stn.specs.Cycle.{lesser}
use Rattle.crs_stn.specs.DateWindow.{after, greater_of, before}
use Rattle.crs_model.specs.declared.date_window.DateWindow.{DateWindow}
use Rattle.std.specs.declared.rc.Rc.{Rc}
use Rattle.std.proofs.Common.{Global}
use Rattle.std.specs.Prelude.{Bool, false, IsTrue, ◌↔◌, cond}
use Rattle.crs_base.specs.declared.symbols.Sym.{Sym}
use Rattle.crs_base.specs.declared.entry.Entry.{Entry as CodeEntry}
use Rattle.crs_base.specs.Entry.{Entry}
use Rattle.crs_model.specs.Models.{Chronicle, Pattern}
use Rattle.crs_model.specs.Partial.{at}
use Rattle.crs_model.specs.Matching.{PatternIs, IsAllowed}
use Rattle.crs_model.specs.Bindings.{look_of, IsLeastWith}
use Rattle.crs_model.proofs.Least.{allowed_looser}
use Rattle.crs_instance.specs.Instances.{window_at, no_window, IsBoundBy}
use Rattle.crs_instance.specs.EntryLinks.{AreListed, seen_entries}
use Rattle.crs_instance.specs.Narrowed.{IsNarrowed}
use Rattle.std.proofs.Common.{map, take, true}
use Rattle.std.specs.Prelude.{is_some}
use Rattle.std.specs.List.{list_all}
use Rattle.std.specs.Option.{option_to_list}
use Rattle.std.proofs.lemmas.List.{map-append, take_more}
use Rattle.crs_base.specs.Seen.{entry_of}
use Rattle.crs_model.specs.Partial.{Partial}

pub narrowed_more : (n : ℕ) (most : ℕ → ℕ → Option ℤ) (e : ℕ) (d : ℤ) (old new new2 : List DateWindow) (v w : DateWindow) → v ≡ window_at old n → IsNarrowed n most e d old new → new2 ≡ new ++ w ∷ [] →
    w.most ≡ lesser v.most (after (Some d) (most e n)) → w.least ≡ greater_of v.least (before (Some d) (most n e)) → IsNarrowed (n + 1) most e d old new2
narrowed_more n most e d old new new2 v w is h s a b =
    rw s (record {
      len = length-append new (w ∷ []) ∙ ap (λ (k : ℕ). k + 1) h.len;
      most_at = λ r l. elim (cases_lt r n) [
        | inl k ↦ ap (λ (x : DateWindow). x.most) (get_or-append new (w ∷ []) no_window r (let q = h.len in omega arith)) ∙ h.most_at r k
        | inr k ↦
            let q : n ≡ r = omega arith in
            subst (λ (r : ℕ). (window_at (new ++ w ∷ []) r).most ≡ lesser (window_at old r).most (after (Some d) (most e r))) q
            (ap (λ (x : DateWindow). x.most) (get_or_push new w no_window n h.len) ∙ a ∙ ap (λ (x : DateWindow). lesser x.most (after (Some d) (most e n))) is)
      ];
      least_at = λ r l. elim (cases_lt r n) [
        | inl k ↦ ap (λ (x : DateWindow). x.least) (get_or-append new (w ∷ []) no_window r (let q = h.len in omega arith)) ∙ h.least_at r k
        | inr k ↦
            let q : n ≡ r = omega arith in
            subst (λ (r : ℕ). (window_at (new ++ w ∷ []) r).least ≡ greater_of (window_at old r).least (before (Some d) (most r e))) q
            (ap (λ (x : DateWindow). x.least) (get_or_push new w no_window n h.len) ∙ b ∙ ap (λ (x : DateWindow). greater_of x.least (before (Some d) (most n e))) is)
      ];
    })

pub bound_not : (c : Chronicle Sym) (p : Pattern Sym) (old new : List (Option Sym)) (x : Entry Sym) → IsLeastWith (λ look. PatternIs look p x) (look_of old) (look_of new) → (IsAllowed c (look_of new) → ⊥) → IsBoundBy c p old x None
bound_not c p old new x h never = λ other l k a. never (allowed_looser c (look_of new) other (h.least other l k) a)

pub bound_not_at : (c : Chronicle Sym) (p : Pattern Sym) (old mid new : List (Option Sym)) (x : Entry Sym) (b : Bool) → mid ≡ old → IsLeastWith (λ look. PatternIs look p x) (look_of mid) (look_of new) → (IsTrue b ↔ IsAllowed c (look_of new)) → b ≡ false → IsBoundBy c p old x None
bound_not_at c p old mid new x b s h says e = bound_not c p old new x (subst (λ (t : List (Option Sym)). IsLeastWith (λ look. PatternIs look p x) (look_of t) (look_of new)) s h) (λ a. let t = says.1 a in absurd cc)

pub bound_if : (c : Chronicle Sym) (p : Pattern Sym) (old new : List (Option Sym)) (x : Entry Sym) (b : Bool) → IsLeastWith (λ look. PatternIs look p x) (look_of old) (look_of new) → length new ≡ length old → (IsTrue b ↔ IsAllowed c (look_of new)) → IsBoundBy c p old x (cond b (Some new) None)
bound_if c p old new x true h l says = (h, says.0 refl, l)
bound_if c p old new x false h l says = bound_not c p old new x h (λ a. let t = says.1 a in absurd cc)

all_parts : (a b : Partial Sym) → list_all (λ o. is_some o) (a ++ b) ≡ true → (list_all (λ o. is_some o) a ≡ true) × (list_all (λ o. is_some o) b ≡ true)
all_parts [] b h = (refl, h)
all_parts (None ∷ a) b h = absurd cc
all_parts (Some x ∷ a) b h = all_parts a b h

-- one more event's entry is listed
pub listed_more : (a : Partial Sym) (k : ℕ) (o : Option (Entry Sym)) (all new : List (Rc CodeEntry Global)) → k < length a → o ≡ at a k → seen_entries new ≡ seen_entries all ++ option_to_list o
    → AreListed (take k a) all → AreListed (take (k + 1) a) new
listed_more a k o all new l at_k is h t =
    let cut : take (k + 1) a ≡ take k a ++ o ∷ [] = take_more a k None l ∙ ap (λ (z : Option (Entry Sym)). take k a ++ z ∷ []) (sym at_k) in
    let both = all_parts (take k a) (o ∷ []) (subst (λ (a : Partial Sym). list_all (λ o. is_some o) a ≡ true) cut t) in
    cut ∙ ap (λ (a : Partial Sym). a ++ o ∷ []) (h both.0) ∙ by o both.1 is
  where
    somes : (es : List (Rc CodeEntry Global)) → map (λ (r : Rc CodeEntry Global). Some (entry_of r.value)) es ≡ map (λ (x : Entry Sym). Some x) (seen_entries es)
    somes [] = refl
    somes (e ∷ es) = ap (λ (t : Partial Sym). Some (entry_of e.value) ∷ t) (somes es)

    by : (o : Option (Entry Sym)) → list_all (λ o. is_some o) (o ∷ []) ≡ true → seen_entries new ≡ seen_entries all ++ option_to_list o
        → map (λ (r : Rc CodeEntry Global). Some (entry_of r.value)) all ++ o ∷ [] ≡ map (λ (r : Rc CodeEntry Global). Some (entry_of r.value)) new
    by None h is = absurd cc
    by (Some x) h is =
        ap (λ (t : Partial Sym). t ++ Some x ∷ []) (somes all)
        ∙ sym (map-append (λ (x : Entry Sym). Some x) (seen_entries all) (x ∷ []))
        ∙ ap (map (λ (x : Entry Sym). Some x)) (sym is) ∙ sym (somes new)
