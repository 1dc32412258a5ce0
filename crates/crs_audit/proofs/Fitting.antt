-- Events whose patterns equal entries, one after another; and the least binding by which they do.
use Rattle.std.proofs.Common.{◌≡◌, ◌∙◌, subst, ℕ, zero, suc, List, ◌∷◌, length, map, Option, Some, None}
use Rattle.std.proofs.lemmas.List.{length-replicate}
use Rattle.std.specs.Prelude.{replicate}
use Rattle.std.specs.declared.rc.Rc.{Rc}
use Rattle.std.proofs.Common.{Global}
use Rattle.std.specs.List.{AllByRecursion}
use Rattle.crs_base.specs.declared.symbols.Sym.{Sym}
use Rattle.crs_base.specs.declared.entry.Entry.{Entry as CodeEntry}
use Rattle.crs_base.specs.Seen.{entry_of}
use Rattle.crs_base.specs.Entry.{Entry}
use Rattle.crs_model.specs.declared.chronicle.EventDef.{EventDef as CodeEvent}
use Rattle.crs_model.specs.Models.{Chronicle}
use Rattle.crs_model.specs.Matching.{PatternIs, IsAllowed}
use Rattle.crs_model.specs.Bindings.{look_of, IsMatch, PatternIsBelow}
use Rattle.crs_model.specs.SeenModels.{event_of}
use Rattle.crs_model.proofs.Matches.{match_then}
use Rattle.crs_model.proofs.Lost.{pattern_up}
use Rattle.crs_model.proofs.Least.{allowed_looser}
use Rattle.crs_audit.specs.Fit.{AreEqual, IsBindingOf}

abbrev seen : List (Rc CodeEntry Global) → List (Entry Sym)
seen es = map (λ e. entry_of e.value) es

pub events_then : (events : List CodeEvent) (entries : List (Rc CodeEntry Global)) (v : CodeEvent) (vs : List CodeEvent) (e : Rc CodeEntry Global) (es : List (Rc CodeEntry Global))
    (old mid : List (Option Sym)) (new : Option (List (Option Sym))) → events ≡ v ∷ vs → entries ≡ e ∷ es
    → IsMatch (λ look. PatternIs look (event_of v).pattern (entry_of e.value)) old (Some mid) → IsMatch (AreEqual (map event_of vs) (seen es)) mid new
    → IsMatch (AreEqual (map event_of events) (seen entries)) old new
events_then events entries v vs e es old mid new p q h k =
    rw (p, q) (match_then _ _ (λ look. PatternIs look (event_of v).pattern (entry_of e.value) × AreEqual (map event_of vs) (seen es) look) old mid new
    (λ small look l r. pattern_up small look l (event_of v).pattern (entry_of e.value) r) (λ look a b. (a, b)) (λ look r. r.0) (λ look r. r.1) h k)

pub below_all : (events : List CodeEvent) (v : CodeEvent) (vs : List CodeEvent) (n m : ℕ) → events ≡ v ∷ vs → n ≡ m
    → AllByRecursion (λ v. PatternIsBelow n v.pattern) (map event_of events) → AllByRecursion (λ v. PatternIsBelow m v.pattern) (map event_of vs)
below_all events v vs n m p q h = subst (λ (k : ℕ). AllByRecursion (λ v. PatternIsBelow k v.pattern) (map event_of vs)) q ((subst (λ (es : List CodeEvent). AllByRecursion (λ v. PatternIsBelow n v.pattern) (map event_of es)) p h).1)

none_bound : (n v : ℕ) (x : Sym) → look_of (replicate n None) v ≡ Some x → ⊥
none_bound zero v x e = cc
none_bound (suc n) zero x e = cc
none_bound (suc n) (suc v) x e = none_bound n v x e

-- what is bound from nothing is the least, or nothing is
pub found : (c : Chronicle Sym) (entries : List (Entry Sym)) (n : ℕ) (new : List (Option Sym)) → n ≡ length c.variables
    → IsMatch (AreEqual c.events entries) (replicate n None) (Some new) → IsAllowed c (look_of new)
    → IsBindingOf c entries (Some new)
found c entries n new e m a = (
  (m.0.holds, a),
  λ other f. m.0.least other (λ v x q. absurd (none_bound n v x q)) f.0,
  m.1 ∙ length-replicate n None ∙ e,
)

pub unequal : (c : Chronicle Sym) (entries : List (Entry Sym)) (n : ℕ) → IsMatch (AreEqual c.events entries) (replicate n None) None
    → IsBindingOf c entries None
unequal c entries n m other f = m other (λ v x q. absurd (none_bound n v x q)) f.0

pub unallowed : (c : Chronicle Sym) (entries : List (Entry Sym)) (n : ℕ) (new : List (Option Sym))
    → IsMatch (AreEqual c.events entries) (replicate n None) (Some new) → (IsAllowed c (look_of new) → ⊥)
    → IsBindingOf c entries None
unallowed c entries n new m wrong other f =
    wrong (allowed_looser c (look_of new) other (m.0.least other (λ v x q. absurd (none_bound n v x q)) f.0) f.1)
