-- Drills that end.
use Rattle.std.proofs.Common.{◌≡◌, ◌⊎◌, sym, refl, subst, inl, inr, ℕ, ◌<◌, nat_lt, Bool, false, List, length, arith}
use Rattle.crs_base.specs.Lines.{lines_of}
use Rattle.crs_desk.specs.Desk.{Told}
use Rattle.crs_drill.specs.Drill.{drill_text}
use Rattle.crs_drill.specs.DrillModels.{drill_models_text}
use Rattle.crs_log.specs.Reading.{given_lines}
use Rattle.crs_model.specs.declared.models.ModelRefused.{ModelRefused}
use Rattle.crs_model.specs.declared.models.ModelRefused.TheVariants.{At, Memory as NoMemory}
use Rattle.crs_report.specs.OutputLines.{model_line}
use Rattle.crs_report.specs.Summaries.{summary_line}
use Rattle.crs_report.specs.declared.summary.Summary.{Summary}
use Rattle.crs_session.specs.declared.session.Session.{Session}
use Rattle.crs_outcomes.specs.declared.status.Status.{Status}
use Rattle.crs_outcomes.specs.declared.status.Status.TheVariants.{WriteFault, Memory}
use Rattle.crs_commands.specs.Drills.{SumsUp, Drills, CompletesDrill}
use Rattle.crs_outcomes.specs.ModelTexts.{IsRunFaultyText, IsAccepted}
use Rattle.crs_outcomes.specs.Loads.{Refuses}
use Rattle.crs_commands.specs.Logs.{summary_of}
use Rattle.crs_outcomes.specs.Status.{ended_as}
use Rattle.crs_outcomes.specs.Writing.{Says}
use Rattle.crs_outcomes.specs.Most.{Most}
use Rattle.crs_session.specs.Session.{IsUncounted}
use Rattle.crs_commands.specs.Summing.{TakesLog, IsSummed, WritesSummary}
use Rattle.crs_session.specs.Tallies.{IsSummary}
use Rattle.crs_frames.specs.Frames.{Frame}
use Rattle.crs_session.specs.Texts.{start_of, SomeRefused}
use Rattle.crs_commands.proofs.Accepted.{one_frame}
use Rattle.crs_outcomes.proofs.Refused.{not_both}
use Rattle.crs_commands.proofs.Summing.{refused_by, begun_by, summary_is}

-- the numbers of a session that took the whole log
pub summed : (log : List ℕ) (x y : Session) (s : Summary) → IsUncounted x → TakesLog log x y → s ≡ summary_of y → IsSummed x log s
summed log x y s u t e f r =
    let k = t f (start_of f) r in
    subst (IsSummary x.layers.focus f log) (sym e) (summary_is f log x.layers.focus x.counts (begun_by f x r u) y (given_lines 4096 0 (lines_of log)) k.0 refl k.1)

-- the numbers of the whole log were written
pub summed_up : (focus : Bool) (f : Frame) (limit : ℕ) (log : List ℕ) (old new : Told) (s : Summary) (status : Status) → length log < limit
    → IsSummary focus f log s
    → WritesSummary s old status new → SumsUp focus f limit log old status new
summed_up focus f limit log old new s status below h (inl k) = inl (
  below,
  (
    summary_line s,
    nat_lt 0 s.refused,
    (s, h, refl),
    refused_by focus f log s h,
    k,
  ),
)
summed_up focus f limit log old new s status below h (inr w) = inr (inr w)

-- the models of drills were refused
pub drill_refused : (focus : Bool) (most : Most) (seed lines : ℕ) (old new : Told) (refused : ModelRefused) (status : Status)
    → IsRunFaultyText false most.symbols drill_models_text refused → Refuses old refused status new → Drills focus most seed lines old status new
drill_refused focus most seed lines old new (At line word) status h r = inr (inl (model_line line word, (line, word, h, refl), r))
drill_refused focus most seed lines old new NoMemory status h r = inr (inr r)

module _ (focus : Bool) (most : Most) (seed lines : ℕ) (old new : Told) (fault : Type 0) (status : Status)
    (wf : status ≡ WriteFault → fault) where
  abbrev log : List ℕ
  log = drill_text seed lines

  said : (due : Status) (text : List ℕ) → Says due old text status new → (fault → ⊥) → (status ≡ due) ⊎ (status ≡ Memory)
  said due text (inl s) n = inl s.0
  said due text (inr s) n = elim s.0 [ inl e ↦ absurd (n (wf e)) | inr e ↦ inr e ]

  -- the status says whether a line was refused, by whatever frame
  ended : (f g : Frame) → IsAccepted false most.symbols most.entries drill_models_text f → IsAccepted false most.symbols most.entries drill_models_text g → (refused : Bool)
      → SomeRefused g log refused → (status ≡ ended_as refused) ⊎ (status ≡ Memory) → ((b : Bool) × SomeRefused f log b × (status ≡ ended_as b)) ⊎ (status ≡ Memory)
  ended f g a b refused h (inl e) = inl (refused, subst (λ (x : Frame). SomeRefused x log refused) (one_frame false most.symbols most.entries drill_models_text g f b a) h, e)
  ended f g a b refused h (inr e) = inr e

  completes_sum : (g : Frame) → IsAccepted false most.symbols most.entries drill_models_text g → SumsUp focus g most.bytes log old status new
      → CompletesDrill most seed lines fault status
  completes_sum g b (inl k) = record {
    accepted = λ f a l n. ended f g a b k.1.1 k.1.3 (said (ended_as k.1.1) k.1.0 k.1.4 n);
    too_long = λ f a l n. absurd (omega (arith, l, k.0));
    refused = λ line word h n. absurd (not_both false most.symbols most.entries drill_models_text g line word b h);
  }
  completes_sum g b (inr (inl k)) = record {
    accepted = λ f a l n. absurd (omega (arith, l, k.0));
    too_long = λ f a l n. inl k.1;
    refused = λ line word h n. absurd (not_both false most.symbols most.entries drill_models_text g line word b h);
  }
  completes_sum g b (inr (inr w)) = record { accepted = λ f a l n. inr w.0; too_long = λ f a l n. inr w.0; refused = λ line word h n. inr w.0 }

  pub completes_drill : Drills focus most seed lines old status new → CompletesDrill most seed lines fault status
  completes_drill (inl h) = completes_sum h.0 h.1 h.2
  completes_drill (inr (inl h)) = record {
    accepted = λ f a l n. absurd (not_both false most.symbols most.entries drill_models_text f h.1.0 h.1.1 a h.1.2);
    too_long = λ f a l n. absurd (not_both false most.symbols most.entries drill_models_text f h.1.0 h.1.1 a h.1.2);
    refused = λ line word k n. said _ h.0 h.2 n;
  }
  completes_drill (inr (inr w)) = record { accepted = λ f a l n. inr w.0; too_long = λ f a l n. inr w.0; refused = λ line word h n. inr w.0 }
