-- A log by models of which no chronicle gives entries, as the log alone has it.
use Rattle.std.proofs.Common.{◌≡◌, ◌||◌, ℕ, Bool, true, false, List, [], ◌∷◌, ◌++◌, map, refl, sym, ap, subst, ◌∙◌, inl, inr, append-nil}
use Rattle.std.specs.Prelude.{◌⊎◌, Option, ℤ, zip}
use Rattle.std.specs.List.{AllByRecursion, AllZip, list_any}
use Rattle.crs_base.specs.Words.{IsIn}
use Rattle.crs_base.proofs.Words.{in_from_each}
use Rattle.crs_model.specs.Hierarchy.{IsGreatest, IsAbove}
use Rattle.crs_model.specs.Models.{Chronicle}
use Rattle.crs_model.specs.ShortLags.{AreLags}
use Rattle.crs_log.specs.Reading.{numbered}
use Rattle.crs_log.specs.Run as run
use Rattle.crs_log.specs.Trace as trace
use Rattle.crs_layers.specs.Runs.{Effect}
use Rattle.crs_layers.specs.Strata.{Placed}
use Rattle.crs_layers.specs.Laws.{AreAlone, flat}
use Rattle.crs_layers.proofs.Alone.{starts_alone, run_alone}
use Rattle.crs_session.specs.Tallies.{answers_in}
use Rattle.crs_frames.specs.Frames.{log_setting, is_refused, ArePlaced, placed_by}
use Rattle.crs_session.specs.Texts.{setting_of, start_of, line_text, effect_text, flood_text, text_of, has_refused}
use Rattle.crs_session.specs.Laws.{lone_text, TracesWithoutEmitsAreLone}

-- ---- strata

in_zip : (cs : List (Chronicle (List ℕ))) (ks : List ℕ) (d : Chronicle (List ℕ)) (k : ℕ) → IsIn (d, k) (zip cs ks) → IsIn d cs
in_zip [] ks d k i = absurd i
in_zip (c ∷ cs) [] d k i = absurd i
in_zip (c ∷ cs) (j ∷ ks) d k (inl e) = inl (ap (λ (p : Chronicle (List ℕ) × ℕ). p.0) e)
in_zip (c ∷ cs) (j ∷ ks) d k (inr i) = inr (in_zip cs ks d k i)

module _ (all : List (Chronicle (List ℕ))) (strata : List ℕ) (none : AllByRecursion (λ c. c.emits ≡ []) all) where
  lowest : (c : Chronicle (List ℕ)) (n : ℕ) → (n ≡ 0) ⊎ IsAbove all strata c n → n ≡ 0
  lowest c n (inl e) = e
  lowest c n (inr a) =
      let silent : a.0.emits ≡ [] = in_from_each (λ (d : Chronicle (List ℕ)). d.emits ≡ []) all none a.0 (in_zip all strata a.0 a.1 a.2) in
      absurd (subst (λ es. IsIn a.3.0 (map (λ e. e.pattern.name) es)) silent a.3.1)

  alone_by : (cs : List (Chronicle (List ℕ))) (ks : List ℕ) (ls : List (Option ℤ)) → AllByRecursion (λ c. c.emits ≡ []) cs → AllZip (λ c n. IsGreatest (λ m. (m ≡ 0) ⊎ IsAbove all strata c m) n) cs ks
      → AreLags cs ls → AreAlone (placed_by cs ks ls) × (map (λ p. p.chronicle) (placed_by cs ks ls) ≡ cs)
  alone_by [] ks ls h z l = (tt, refl)
  alone_by (c ∷ cs) [] ls h z l = absurd z
  alone_by (c ∷ cs) (k ∷ ks) [] h z l = absurd l
  alone_by (c ∷ cs) (k ∷ ks) (m ∷ ls) h z l =
      let rest = alone_by cs ks ls h.1 z.1 l.1 in
      (((h.0, lowest c k z.0.one), rest.0), ap (λ (ds : List (Chronicle (List ℕ))). c ∷ ds) rest.1)

-- all are of one stratum
alone_of : (cs : List (Chronicle (List ℕ))) (ps : List (Placed (List ℕ))) → ArePlaced cs ps → AllByRecursion (λ c. c.emits ≡ []) cs → AreAlone ps × (map (λ p. p.chronicle) ps ≡ cs)
alone_of cs ps a none =
    subst (λ (qs : List (Placed (List ℕ))). AreAlone qs × (map (λ p. p.chronicle) qs ≡ cs)) (sym a.is)
    (alone_by cs a.strata none cs a.strata a.lags none a.are_strata a.are_lags)

-- ---- traces

or_false : (b : Bool) → (b || false) ≡ b
or_false true = refl
or_false false = refl

text_same : (cite : Bool) (limit : ℕ) (effects : List Effect) → AllByRecursion (λ e. e.flood ≡ false) effects → text_of cite limit effects ≡ lone_text cite (map flat effects)
text_same cite limit [] h = refl
text_same cite limit (e ∷ es) h =
    let here : effect_text cite limit e ≡ line_text cite e.number e.outcome e.answers =
    (λ i. line_text cite e.number e.outcome e.answers ++ flood_text limit e.number (h.0 i)) ∙ append-nil (line_text cite e.number e.outcome e.answers) in
    λ i. here i ++ text_same cite limit es h.1 i

answers_same : (effects : List Effect) → answers_in effects ≡ trace.answers_in (map flat effects)
answers_same [] = refl
answers_same (e ∷ es) = λ i. e.answers ++ answers_same es i

refused_same : (effects : List Effect) → AllByRecursion (λ e. e.flood ≡ false) effects → list_any has_refused effects ≡ list_any is_refused (map (λ e. e.outcome) (map flat effects))
refused_same [] h = refl
refused_same (e ∷ es) h =
    let here : has_refused e ≡ is_refused e.outcome = (λ i. is_refused e.outcome || h.0 i) ∙ or_false (is_refused e.outcome) in
    λ i. here i || refused_same es h.1 i

pub traces_without_emits_are_lone : TracesWithoutEmitsAreLone
traces_without_emits_are_lone f lines effects last placed none h =
    let a = alone_of f.models.chronicles f.placed placed none in
    let r = run_alone (setting_of f) a.0 (start_of f) (numbered lines) effects last (starts_alone (setting_of f) f.texts a.0) h in
    record {
      trace_is = subst (λ (cs : List (Chronicle (List ℕ))). trace.IsTrace (log_setting f) cs (run.at_start f.texts) (numbered lines) (map flat effects) last.log) a.1 r.2;
      text_is = λ cite. text_same cite f.entries effects r.1;
      answers_are = answers_same effects;
      refused_is = refused_same effects r.1;
    }
