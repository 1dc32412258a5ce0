-- Recognitions of entries whose symbols have texts are of such symbols, and give such entries.
use Rattle.std.proofs.Common.{◌≡◌, ℕ, suc, List, [], ◌∷◌, map, sym, ap, subst}
use Rattle.std.specs.Prelude.{Option, Some, None, option_map, slice_get}
use Rattle.std.specs.List.{AllByRecursion, flat_map}
use Rattle.std.specs.Option.{option_to_list}
use Rattle.crs_base.specs.declared.symbols.Sym.{Sym}
use Rattle.crs_base.specs.Entry.{Entry}
use Rattle.crs_base.specs.Symbols.{AreDistinct}
use Rattle.crs_base.proofs.Alls.{all_append}
use Rattle.crs_base.proofs.Words.{each_from_in, in_from_each}
use Rattle.crs_model.specs.declared.plan.Plan.{Plan}
use Rattle.crs_model.specs.declared.recognition.Mark.{Mark}
use Rattle.crs_model.specs.declared.recognition.Recognition.{Recognition}
use Rattle.crs_model.specs.Matching.{Assignment}
use Rattle.crs_model.specs.Models.{Chronicle, Emit}
use Rattle.crs_model.specs.Plans.{IsProper, chronicle}
use Rattle.crs_model.specs.Renaming.{text_in, AreKnown, IsChronicleOf, IsPatternOf, IsEntryOf}
use Rattle.crs_model.specs.Scopes.{Scope, IsNewIn}
use Rattle.crs_model.specs.SeenModels.{assignment_of}
use Rattle.crs_model.proofs.RenamedAssignments.{known_values}
use Rattle.crs_model.proofs.RenamedWindows.{no_stars}
use Rattle.crs_store.specs.Answers.{IsRecognitionOf}
use Rattle.crs_engine.specs.Marks.{ListsAllNew}
use Rattle.crs_layers.specs.Strata.{Stratum, scope_in, entry_by, given_by, gives, Give}
use Rattle.crs_layers.specs.Standing.{HasText}
use Rattle.crs_layers.specs.Giving.{IsWhole}
use Rattle.crs_layers.proofs.Dated.{in_accepted}
use Rattle.crs_layers.proofs.Taking.{terms_known}

module _ (texts : List (List ℕ)) (distinct : AreDistinct texts) (s : Stratum Sym) (h : ℕ) (known : AllByRecursion (IsEntryOf (HasText texts)) s.accepted) (was : Chronicle Sym → Scope Sym) where
  apart : (x y : Sym) → HasText texts x → HasText texts y → text_in texts x ≡ text_in texts y → x ≡ y
  apart x y p q e = ap (λ n. record { 0 = n }) (distinct x.0 y.0 p q e)

  -- each variable has a symbol that has a text
  values_known : (p : Plan) → IsProper p → IsChronicleOf (HasText texts) (chronicle p) → (b : Assignment Sym) → IsNewIn (chronicle p) (was (chronicle p)) (scope_in s h (chronicle p)) b → AreKnown texts b.values
  values_known p proper of b new =
      known_values (text_in texts) (HasText texts) apart (chronicle p) of proper.named (no_stars proper.declared.0 (chronicle p) (chronicle p).windows proper.declared.2.windows) (scope_in s h (chronicle p)).pool b
      (each_from_in (IsEntryOf (HasText texts)) (scope_in s h (chronicle p)).pool (λ x i. in_from_each (IsEntryOf (HasText texts)) s.accepted known x (in_accepted s h (chronicle p) x i))) new.0.assignment

  some_whole : (p : Plan) (n : ℕ) (mark : Mark) (rs : List Recognition) → IsProper p → IsChronicleOf (HasText texts) (chronicle p) → AllByRecursion (IsRecognitionOf (chronicle p) n mark) rs
      → AllByRecursion (IsNewIn (chronicle p) (was (chronicle p)) (scope_in s h (chronicle p))) (map assignment_of rs) → AllByRecursion (IsWhole texts) rs
  some_whole p n mark [] proper of each new = tt
  some_whole p n mark (r ∷ rs) proper of each new =
      (record { bound = each.0.binding; known = values_known p proper of (assignment_of r) new.0 }, some_whole p n mark rs proper of each.1 new.1)

  pub answer_whole : (ps : List Plan) (n : ℕ) (mark : Mark) (answer : List Recognition) → AllByRecursion IsProper ps → AllByRecursion (λ p. IsChronicleOf (HasText texts) (chronicle p)) ps
      → ListsAllNew ps n mark (λ p. was (chronicle p)) (λ p. scope_in s h (chronicle p)) answer → AllByRecursion (IsWhole texts) answer
  answer_whole [] n mark answer proper of l = subst (AllByRecursion (IsWhole texts)) (sym l) tt
  answer_whole (p ∷ ps) n mark answer proper of l = subst (AllByRecursion (IsWhole texts)) (sym l.2)
      (all_append (IsWhole texts) l.0 l.1 (some_whole p n mark l.0 proper.0 of.0 l.3.each l.3.listed.each) (answer_whole ps (suc n) mark l.1 proper.1 of.1 l.4))

  module _ (text_of : Sym → List ℕ) where
    one_known : (b : Assignment Sym) → AreKnown texts b.values → (e : Emit Sym) → IsPatternOf (HasText texts) e.pattern → AllByRecursion (IsEntryOf (HasText texts)) (given_by text_of b e)
    one_known b values e pattern = by (slice_get b.entries e.event)
      where
        by : (o : Option (Entry Sym)) → AllByRecursion (IsEntryOf (HasText texts)) (option_to_list (option_map (entry_by text_of b.values e) o))
        by None = tt
        by (Some x) = (record { name = pattern.name; args = terms_known texts b.values e.pattern.terms values pattern.terms; change = tt }, tt)

    emits_known : (b : Assignment Sym) → AreKnown texts b.values → (es : List (Emit Sym)) → AllByRecursion (λ e. IsPatternOf (HasText texts) e.pattern) es → AllByRecursion (IsEntryOf (HasText texts)) (flat_map (given_by text_of b) es)
    emits_known b values [] h = tt
    emits_known b values (e ∷ es) h = all_append (IsEntryOf (HasText texts)) (given_by text_of b e) (flat_map (given_by text_of b) es) (one_known b values e h.0) (emits_known b values es h.1)

    some_known : (p : Plan) → IsProper p → IsChronicleOf (HasText texts) (chronicle p) → (bs : List (Assignment Sym)) → AllByRecursion (IsNewIn (chronicle p) (was (chronicle p)) (scope_in s h (chronicle p))) bs
        → AllByRecursion (IsEntryOf (HasText texts)) (flat_map (gives text_of (chronicle p)) bs)
    some_known p proper of [] k = tt
    some_known p proper of (b ∷ bs) k =
        all_append (IsEntryOf (HasText texts)) (gives text_of (chronicle p) b) (flat_map (gives text_of (chronicle p)) bs)
        (emits_known b (values_known p proper of b k.0) (chronicle p).emits of.emits) (some_known p proper of bs k.1)

    pub give_known : (ps : List Plan) (given : List (Entry Sym)) → AllByRecursion IsProper ps → AllByRecursion (λ p. IsChronicleOf (HasText texts) (chronicle p)) ps
        → Give text_of (map chronicle ps) was (scope_in s h) given → AllByRecursion (IsEntryOf (HasText texts)) given
    give_known [] given proper of k = subst (AllByRecursion (IsEntryOf (HasText texts))) (sym k) tt
    give_known (p ∷ ps) given proper of k = subst (AllByRecursion (IsEntryOf (HasText texts))) (sym k.4)
        (all_append (IsEntryOf (HasText texts)) (flat_map (gives text_of (chronicle p)) k.0) k.1 (some_known p proper.0 of.0 k.0 (k.2).each) (give_known ps k.1 proper.1 of.1 k.3))
