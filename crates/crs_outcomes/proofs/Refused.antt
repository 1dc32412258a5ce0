-- A text that is accepted isn't refused.
use Rattle.std.proofs.Common.{◌≡◌, ◌∙◌, sym, refl, subst, ap, inl, inr, ℕ, Bool, true, false, List, [], ◌∷◌, ◌++◌, Some}
use Rattle.std.specs.List.{AllByRecursion}
use Rattle.crs_stn.specs.Bound.{IsConsistent}
use Rattle.crs_model.specs.Hierarchy.{IsEmitLine}
use Rattle.crs_model.specs.Models.{Chronicle, Models}
use Rattle.crs_parse.specs.Meant.{models_read}
use Rattle.crs_model.specs.declared.models.ModelWord.{ModelWord}
use Rattle.crs_model.specs.ProperModels.{AreProper}
use Rattle.crs_model.specs.ShortLags.{ClosesSlow}
use Rattle.crs_compile.proofs.UniqueLags as lags
use Rattle.crs_parse.proofs.ReadProper.{read_proper}
use Rattle.crs_outcomes.specs.ModelTexts.{GiveNothing, AreModelsIn, IsAccepted, IsAcceptedAlone, ClosesInconsistent, BreaksRule, IsFaulty, IsRunFaulty}
use Rattle.crs_frames.specs.Frames.{Frame}
use Rattle.std.specs.Prelude.{Ok}

none_inconsistent : (cs : List (Chronicle (List ℕ))) (line : ℕ) → AllByRecursion (λ c. IsConsistent c.bounds) cs → ClosesInconsistent cs line → ⊥
none_inconsistent [] line h k = k
none_inconsistent (c ∷ cs) line h (inl k) = k.0 h.0
none_inconsistent (c ∷ cs) line h (inr k) = none_inconsistent cs line h.1 k.1

-- a text that breaks no rule of models has no fault
pub not_broken : (symbols : ℕ) (text : List ℕ) (m : Models (List ℕ)) (line : ℕ) (word : ModelWord) → AreModelsIn symbols text m → BreaksRule symbols text line word → ⊥
not_broken symbols text m line word a (inl e) = let k = sym a.read ∙ e in cc
not_broken symbols text m line word a (inr h) =
    let pair : (m, a.texts) ≡ (h.0, h.1) = (let r = a.read in let e = h.2 in cc) in
    let same : m.chronicles ≡ h.0.chronicles = ap (λ (p : Models (List ℕ) × List (List ℕ)). p.0.chronicles) pair in
    elim h.3 [
      | inl k ↦ none_inconsistent h.0.chronicles line (subst (AllByRecursion (λ c. IsConsistent c.bounds)) same a.consistent) k.1
      | inr k ↦
          let proper : AreProper m = read_proper symbols [] text m a.texts a.read in
          lags.not_both (List ℕ) (m.names ++ m.derived) m.chronicles line proper.chronicles proper.in_order a.in_time (subst (λ cs. ClosesSlow (List ℕ) cs line) (sym same) k.2)
    ]

none_gives : (cs : List (Chronicle (List ℕ))) (line : ℕ) → AllByRecursion (λ c. c.emits ≡ []) cs → IsEmitLine cs (Some line) → ⊥
none_gives [] line h k = absurd cc
none_gives (c ∷ cs) line h (inl k) = none_gives cs line h.1 k.1
none_gives (c ∷ cs) line h (inr k) = k.0 h.0

one_reading : (symbols : ℕ) (text : List ℕ) (m n : Models (List ℕ)) (texts more : List (List ℕ)) → models_read symbols [] text ≡ Ok (m, texts) → models_read symbols [] text ≡ Ok (n, more)
    → m.chronicles ≡ n.chronicles
one_reading symbols text m n texts more h k =
    let pair : (m, texts) ≡ (n, more) = (let e = sym h ∙ k in cc) in
    ap (λ (p : Models (List ℕ) × List (List ℕ)). p.0.chronicles) pair

-- a text that is accepted breaks no rule
breaks_none : (cite : Bool) (symbols entries : ℕ) (text : List ℕ) (f : Frame) (line : ℕ) (word : ModelWord) → IsAccepted cite symbols entries text f → BreaksRule symbols text line word → ⊥
breaks_none cite symbols entries text f line word a h = not_broken symbols text f.models line word (record { texts = f.texts; read = a.read; consistent = a.consistent; in_time = a.in_time }) h

-- nor is it refused where no chronicle of it gives entries
faults_none : (cite : Bool) (symbols entries : ℕ) (text : List ℕ) (f : Frame) (line : ℕ) (word : ModelWord) → IsAccepted cite symbols entries text f → GiveNothing f → IsFaulty symbols text line word → ⊥
faults_none cite symbols entries text f line word a alone (inl h) = breaks_none cite symbols entries text f line word a h
faults_none cite symbols entries text f line word a alone (inr h) =
    let same = one_reading symbols text h.1.0 f.models h.1.1.texts f.texts h.1.1.read a.read in
    none_gives f.models.chronicles line alone (subst (λ (cs : List (Chronicle (List ℕ))). IsEmitLine cs (Some line)) same h.1.2)

-- a text that is accepted for a run isn't refused for it
pub not_both : (cite : Bool) (symbols entries : ℕ) (text : List ℕ) (f : Frame) (line : ℕ) (word : ModelWord) → IsAccepted cite symbols entries text f → IsRunFaulty cite symbols text line word → ⊥
not_both true symbols entries text f line word a h = faults_none true symbols entries text f line word a (a.cited_alone refl) h
not_both false symbols entries text f line word a h = breaks_none false symbols entries text f line word a h

-- nor one that is accepted for several logs
pub not_both_alone : (symbols entries : ℕ) (text : List ℕ) (f : Frame) (line : ℕ) (word : ModelWord) → IsAcceptedAlone symbols entries text f → IsFaulty symbols text line word → ⊥
not_both_alone symbols entries text f line word a h = faults_none false symbols entries text f line word a.accepted a.alone h
