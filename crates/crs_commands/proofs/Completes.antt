-- A run that meets no fault ends well.
use Rattle.std.proofs.Common.{◌≡◌, ◌⊎◌, ◌∙◌, ◌<◌, ◌≤◌, sym, refl, subst, ap, inl, inr, ℕ, Bool, true, List, length, arith}
use Rattle.crs_audit.specs.Audits.{Ground, IsAudit}
use Rattle.crs_audit.specs.declared.words.AuditWord.{AuditWord}
use Rattle.crs_desk.specs.Desk.{Told}
use Rattle.crs_model.specs.declared.models.ModelWord.{ModelWord}
use Rattle.crs_outcomes.specs.declared.status.Status.{Status}
use Rattle.crs_outcomes.specs.declared.status.Status.TheVariants.{Done, Refusals, Words, Rejected, ReadFault, WriteFault, Memory, TooLong}
use Rattle.crs_outcomes.specs.ModelTexts.{IsAccepted, IsFaulty}
use Rattle.crs_outcomes.specs.Inputs.{bytes_of}
use Rattle.crs_commands.specs.Logs.{Tail}
use Rattle.crs_outcomes.specs.Most.{Most}
use Rattle.crs_commands.specs.RunOutcomes.{Runs, Completes}
use Rattle.crs_frames.specs.Frames.{Frame}
use Rattle.crs_commands.proofs.Accepted.{one_frame}
use Rattle.crs_words.specs.declared.command.Listing.{Listing}
use Rattle.crs_commands.specs.Listings.{Prints, CompletesPrint}
use Rattle.crs_commands.specs.Imports.{Imports, CompletesImport}
use Rattle.crs_commands.specs.AuditOutcomes.{most_checked, ground_of, AreTakenWhole, Audits, CompletesAudit}
use Rattle.crs_import.specs.Tables.{table_log}
use Rattle.std.specs.Prelude.{Result, Ok, Err}
use Rattle.crs_outcomes.proofs.Refused.{not_both, not_broken}

module _ (base now : ℕ) (cite : Bool) (tail : Tail) (most : Most) (old new : Told) (models log : List ℕ) (fault : Type 0) where
  abbrev Text : List ℕ
  Text = bytes_of old models

  pub completes : (status : Status) → Runs base now cite tail most old models log status new → (status ≡ ReadFault → fault) → (status ≡ WriteFault → fault) → Completes cite most old models log fault status
  completes Done r rf wf = record {
    accepted = λ f a l n. inl refl;
    too_long = λ f a l n. absurd (omega (arith, r.6.outcome.1, r.6.outcome.2, l));
    refused = λ line word h n. absurd (not_both cite most.symbols most.entries Text r.6.outcome.3.0 line word r.6.outcome.3.1 h);
  }
  completes Refusals r rf wf = record {
    accepted = λ f a l n. inr (inl refl);
    too_long = λ f a l n. absurd (omega (arith, r.6.outcome.1, r.6.outcome.2, l));
    refused = λ line word h n. absurd (not_both cite most.symbols most.entries Text r.6.outcome.3.0 line word r.6.outcome.3.1 h);
  }
  completes Memory r rf wf = record { accepted = λ f a l n. inr (inr refl); too_long = λ f a l n. inr refl; refused = λ line word h n. inr refl }
  completes Words r rf wf = record { accepted = λ f a l n. absurd r.6.outcome; too_long = λ f a l n. absurd r.6.outcome; refused = λ line word h n. absurd r.6.outcome }
  completes Rejected r rf wf =
      let o = r.6.outcome.2.1 in
      let no : (f : Frame) → IsAccepted cite most.symbols most.entries Text f → ⊥ = λ f a. not_both cite most.symbols most.entries Text f o.0 o.1 a o.2 in
      record { accepted = λ f a l n. absurd (no f a); too_long = λ f a l n. absurd (no f a); refused = λ line word h n. inl refl }
  completes ReadFault r rf wf = record { accepted = λ f a l n. absurd (n (rf refl)); too_long = λ f a l n. absurd (n (rf refl)); refused = λ line word h n. absurd (n (rf refl)) }
  completes WriteFault r rf wf = record { accepted = λ f a l n. absurd (n (wf refl)); too_long = λ f a l n. absurd (n (wf refl)); refused = λ line word h n. absurd (n (wf refl)) }
  completes TooLong r rf wf = record {
    accepted = λ f a l n. absurd (omega (arith, r.6.log_read.within, r.6.outcome.1, l));
    too_long = λ f a l n. inl refl;
    refused = λ line word h n. absurd (not_both cite most.symbols most.entries Text r.6.outcome.2.0 line word r.6.outcome.2.1 h);
  }

module _ (base now symbols : ℕ) (listing : Listing) (old new : Told) (models : List ℕ) (fault : Type 0) where
  pub completes_print : (status : Status) → Prints base now symbols listing old models status new → (status ≡ ReadFault → fault) → (status ≡ WriteFault → fault) → CompletesPrint symbols old models fault status
  completes_print Done p rf wf = record {
    accepted = λ m a n. inl refl;
    refused = λ line word h n. absurd (not_broken symbols (bytes_of old models) p.4.outcome.2.1.0 line word p.4.outcome.2.1.1 h);
  }
  completes_print Memory p rf wf = record { accepted = λ m a n. inr refl; refused = λ line word h n. inr refl }
  completes_print Rejected p rf wf = record {
    accepted = λ m a n. absurd (not_broken symbols (bytes_of old models) m p.4.outcome.2.1.0 p.4.outcome.2.1.1 a p.4.outcome.2.1.2);
    refused = λ line word h n. inl refl;
  }
  completes_print ReadFault p rf wf = record { accepted = λ m a n. absurd (n (rf refl)); refused = λ line word h n. absurd (n (rf refl)) }
  completes_print WriteFault p rf wf = record { accepted = λ m a n. absurd (n (wf refl)); refused = λ line word h n. absurd (n (wf refl)) }
  completes_print Words p rf wf = record { accepted = λ m a n. absurd p.4.outcome; refused = λ line word h n. absurd p.4.outcome }
  completes_print Refusals p rf wf = record { accepted = λ m a n. absurd p.4.outcome; refused = λ line word h n. absurd p.4.outcome }
  completes_print TooLong p rf wf = record { accepted = λ m a n. absurd p.4.outcome; refused = λ line word h n. absurd p.4.outcome }

one_log : {A E : Type 0} (r : Result A E) (log : A) (e : E) → r ≡ Ok log → r ≡ Err e → ⊥
one_log r log e a b = let c : Ok log ≡ Err e = sym a ∙ b in cc

module _ (base now : ℕ) (old new : Told) (table : List ℕ) (fault : Type 0) where
  pub completes_import : (status : Status) → Imports base now old table status new → (status ≡ ReadFault → fault) → (status ≡ WriteFault → fault) → CompletesImport old table fault status
  completes_import Done p rf wf = record {
    written = λ log e n. inl refl;
    refused = λ e h n. absurd (one_log (table_log (bytes_of old table)) p.4.outcome.2.0 e p.4.outcome.2.1 h);
  }
  completes_import Memory p rf wf = record { written = λ log e n. inr refl; refused = λ e h n. inr refl }
  completes_import Rejected p rf wf = record {
    written = λ log e n. absurd (one_log (table_log (bytes_of old table)) log p.4.outcome.2.1.0 e p.4.outcome.2.1.1);
    refused = λ e h n. inl refl;
  }
  completes_import ReadFault p rf wf = record { written = λ log e n. absurd (n (rf refl)); refused = λ e h n. absurd (n (rf refl)) }
  completes_import WriteFault p rf wf = record { written = λ log e n. absurd (n (wf refl)); refused = λ e h n. absurd (n (wf refl)) }
  completes_import Words p rf wf = record { written = λ log e n. absurd p.4.outcome; refused = λ e h n. absurd p.4.outcome }
  completes_import Refusals p rf wf = record { written = λ log e n. absurd p.4.outcome; refused = λ e h n. absurd p.4.outcome }
  completes_import TooLong p rf wf = record { written = λ log e n. absurd p.4.outcome; refused = λ e h n. absurd p.4.outcome }

-- two frames of the same text judge claims alike
one_ground : (cite : Bool) (symbols entries : ℕ) (text : List ℕ) (f g : Frame) → IsAccepted cite symbols entries text f → IsAccepted cite symbols entries text g
    → (log : List ℕ) → ground_of f log ≡ ground_of g log
one_ground cite symbols entries text f g a b log =
    ap (λ (x : Frame). ground_of x log) (one_frame cite symbols entries text f g a b)

-- what was taken whole isn't too long
not_too_long : (bytes : List ℕ) (k : ℕ) → AreTakenWhole bytes k → most_checked < length bytes → ⊥
not_too_long bytes k w lt = absurd (omega (arith, w.0, w.1, lt))

module _ (base now : ℕ) (most : Most) (old new : Told) (models log output : List ℕ) (fault : Type 0) where
  abbrev Accepted : Frame → Type 0
  Accepted f = IsAccepted true most.symbols most.entries (bytes_of old models) f

  -- the audit of the output by one frame is that by another
  moved : (f g : Frame) → Accepted f → Accepted g → (answer : Result ℕ (ℕ × AuditWord)) → IsAudit (ground_of f (bytes_of old log)) (bytes_of old output) answer
      → IsAudit (ground_of g (bytes_of old log)) (bytes_of old output) answer
  moved f g a b answer h = subst (λ (x : Ground). IsAudit x (bytes_of old output) answer) (one_ground true most.symbols most.entries (bytes_of old models) f g a b (bytes_of old log)) h

  one_too_long : (t u : ℕ) → AreTakenWhole (bytes_of old log) t → AreTakenWhole (bytes_of old output) u
      → (most_checked < length (bytes_of old log)) ⊎ (most_checked < length (bytes_of old output)) → ⊥
  one_too_long t u w v (inl lt) = not_too_long (bytes_of old log) t w lt
  one_too_long t u w v (inr lt) = not_too_long (bytes_of old output) u v lt

  unlike : (f : Frame) → Accepted f → (line : ℕ) (word : ModelWord) → IsFaulty most.symbols (bytes_of old models) line word → ⊥
  unlike f a line word h = not_both true most.symbols most.entries (bytes_of old models) f line word a h

  pub completes_audit : (status : Status) → Audits base now most old models log output status new → (status ≡ ReadFault → fault) → (status ≡ WriteFault → fault)
      → CompletesAudit most old models log output fault status
  completes_audit Done r rf wf =
      let o = r.8.outcome in
      let w = o.3 in
      record {
        faultless = λ f a l m none n. inl refl;
        faulty = λ f a l m none n. absurd (none w.3.1.0 (moved w.0 f w.1 a (Ok w.3.1.0) w.3.1.1));
        too_long = λ f a l n. absurd (one_too_long r.3 r.4 o.1 o.2 l);
        refused = λ line word h n. absurd (unlike w.0 w.1 line word h);
      }
  completes_audit Rejected r rf wf = elim r.8.outcome [
    | inl o ↦ (
        let q = o.2.1 in
        record {
          faultless = λ f a l m none n. absurd (unlike f a q.0 q.1 q.2);
          faulty = λ f a l m none n. absurd (unlike f a q.0 q.1 q.2);
          too_long = λ f a l n. absurd (unlike f a q.0 q.1 q.2);
          refused = λ line word h n. inl refl;
        })
    | inr o ↦ (
        let w = o.3 in
        record {
          faultless = λ f a l m none n. absurd (none w.3.1.0 w.3.1.1 (moved w.0 f w.1 a (Err (w.3.1.0, w.3.1.1)) w.3.1.2));
          faulty = λ f a l m none n. inl refl;
          too_long = λ f a l n. absurd (one_too_long r.3 r.4 o.1 o.2 l);
          refused = λ line word h n. absurd (unlike w.0 w.1 line word h);
        })
  ]
  completes_audit TooLong r rf wf =
      let d = r.8 in
      let short : length (bytes_of old log) ≤ most_checked → length (bytes_of old output) ≤ most_checked → ⊥ = λ l m. elim d.outcome.0 [
        | inl q ↦ absurd (omega (arith, d.log_read.within, q.1, l))
        | inr q ↦ absurd (omega (arith, d.output_read.within, q.1, m))
      ] in
      let reached : 1 < r.0 = elim d.outcome.0 [
        | inl q ↦ omega (arith, q.0)
        | inr q ↦ omega (arith, q.0)
      ] in
      record {
        faultless = λ f a l m none n. absurd (short l m);
        faulty = λ f a l m none n. absurd (short l m);
        too_long = λ f a l n. inl refl;
        refused = λ line word h n. absurd (let w = d.accepted reached in unlike w.0 w.1 line word h);
      }
  completes_audit Memory r rf wf = record { faultless = λ f a l m none n. inr refl; faulty = λ f a l m none n. inr refl; too_long = λ f a l n. inr refl; refused = λ line word h n. inr refl }
  completes_audit ReadFault r rf wf = record {
    faultless = λ f a l m none n. absurd (n (rf refl));
    faulty = λ f a l m none n. absurd (n (rf refl));
    too_long = λ f a l n. absurd (n (rf refl));
    refused = λ line word h n. absurd (n (rf refl));
  }
  completes_audit WriteFault r rf wf = record {
    faultless = λ f a l m none n. absurd (n (wf refl));
    faulty = λ f a l m none n. absurd (n (wf refl));
    too_long = λ f a l n. absurd (n (wf refl));
    refused = λ line word h n. absurd (n (wf refl));
  }
  completes_audit Refusals r rf wf = absurd r.8.outcome
  completes_audit Words r rf wf = absurd r.8.outcome
