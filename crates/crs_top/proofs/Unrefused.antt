-- Of a drill at the limits of the program no line is refused.
use Rattle.std.proofs.Common.{◌≡◌, ◌∙◌, ap, sym, refl, inl, inr, ℕ, ◌++◌, ◌≤◌, nat_lt, Bool, false, List, Option, Some, None, arith}
use Rattle.std.proofs.lemmas.Bool.{ltb-false}
use Rattle.std.proofs.Math.Seq.{take-length}
use Rattle.crs_desk.specs.Desk.{Told}
use Rattle.crs_drill.specs.Drill.{drill_text}
use Rattle.crs_report.specs.Listeners.{Member}
use Rattle.crs_report.specs.Summaries.{summary_line}
use Rattle.crs_report.specs.declared.summary.Summary.{Summary}
use Rattle.crs_outcomes.specs.declared.status.Status.{Status}
use Rattle.crs_outcomes.specs.declared.status.Status.TheVariants.{Done, Refusals, Rejected, WriteFault, Memory, TooLong}
use Rattle.crs_top.specs.CommandOutcomes.{Does, IsUnrefused}
use Rattle.crs_commands.specs.Drills.{SumsUp, Drills, RefusesNothing}
use Rattle.crs_outcomes.specs.Status.{ended_as}
use Rattle.crs_outcomes.specs.Writing.{Says}
use Rattle.crs_outcomes.specs.Most.{standard}
use Rattle.crs_frames.specs.Frames.{Frame}
use Rattle.crs_session.specs.Texts.{SomeRefused}
use Rattle.crs_words.specs.Commands.{Command, Run, Print, Drill, Import, Audit, Feeds, command_of}
use Rattle.crs_words.proofs.Bounds.{drill_bounds}
use Rattle.crs_top.proofs.MadeLogs.{none_refused}
use Rattle.crs_commands.proofs.Summing.{refused_by}

-- another status than those of a log that was read to its end
neither : (old new : Told) (status other : Status) → status ≡ other → (other ≡ Refusals → ⊥) → (other ≡ Done → ⊥) → RefusesNothing old status new
neither old new status other e a b = (λ h. a (sym e ∙ h), λ h. absurd (b (sym e ∙ h)))

none : (n : ℕ) → nat_lt 0 n ≡ false → n ≡ 0
none n e = let l = ltb-false 0 n e in omega arith

said_clean : (due : Status) (old new : Told) (text : List ℕ) (s : Summary) (status : Status) → due ≡ Done → s.refused ≡ 0 → text ≡ summary_line s
    → Says due old text status new → RefusesNothing old status new
said_clean due old new text s status d n e (inl k) = (
  λ h. absurd (let q : Done ≡ Refusals = sym d ∙ sym k.0 ∙ h in cc),
  λ h. (text, (s, n, e), k.1.written ∙ ap (λ (t : List ℕ). old.written ++ t) (take-length text)),
)
said_clean due old new text s status d n e (inr k) = elim k.0 [
  | inl q ↦ neither old new status WriteFault q (λ z. cc) (λ z. cc)
  | inr q ↦ neither old new status Memory q (λ z. cc) (λ z. cc)
]

sum_clean : (focus : Bool) (f : Frame) (limit : ℕ) (log : List ℕ) (old new : Told) (status : Status) → ((b : Bool) → SomeRefused f log b → b ≡ false)
    → SumsUp focus f limit log old status new → RefusesNothing old status new
sum_clean focus f limit log old new status clean (inl k) = said_clean (ended_as k.1.1) old new k.1.0 k.1.2.0 status
    (ap ended_as (clean k.1.1 k.1.3)) (none k.1.2.0.refused (clean (nat_lt 0 k.1.2.0.refused) (refused_by focus f log k.1.2.0 k.1.2.1))) k.1.2.2 k.1.4
sum_clean focus f limit log old new status clean (inr (inl k)) = neither old new status TooLong k.1 (λ z. cc) (λ z. cc)
sum_clean focus f limit log old new status clean (inr (inr k)) = neither old new status Memory k.0 (λ z. cc) (λ z. cc)

drill_clean : (focus : Bool) (seed lines : ℕ) (old new : Told) (status : Status) → lines ≤ 1000000
    → Drills focus standard seed lines old status new
    → RefusesNothing old status new
drill_clean focus seed lines old new status few (inl h) = sum_clean focus h.0 standard.bytes (drill_text seed lines) old new status
    (none_refused h.0 seed lines few h.1) h.2
drill_clean focus seed lines old new status few (inr (inl h)) = elim h.2 [
  | inl k ↦ neither old new status Rejected k.0 (λ z. cc) (λ z. cc)
  | inr k ↦ elim k.0 [
    | inl q ↦ neither old new status WriteFault q (λ z. cc) (λ z. cc)
    | inr q ↦ neither old new status Memory q (λ z. cc) (λ z. cc)
  ]
]
drill_clean focus seed lines old new status few (inr (inr h)) = neither old new status Memory h.0 (λ z. cc) (λ z. cc)

pub unrefused : (base now : ℕ) (members : List Member) (old new : Told) (words : List (List ℕ)) (status : Status) → Does base now standard members old (command_of words) status new
    → IsUnrefused old (command_of words) status new
unrefused base now members old new words status d = by (command_of words) refl d
  where
    by : (o : Option Command) → command_of words ≡ o → Does base now standard members old o status new → IsUnrefused old o status new
    by None e d = tt
    by (Some (Run focus summary cite tally models log)) e d = tt
    by (Some (Print listing models)) e d = tt
    by (Some (Drill focus seed lines)) e d = let b = drill_bounds words focus seed lines e in drill_clean focus seed lines old new status b.few d.0
    by (Some (Import table)) e d = tt
    by (Some (Audit models log output)) e d = tt
    by (Some (Feeds focus models logs)) e d = tt
