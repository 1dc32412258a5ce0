-- A log that is opened and read.
use Rattle.std.proofs.Common.{◌≡◌, ◌∙◌, ap, refl, inl, inr, ℕ, ◌+◌, ◌<◌, List, [], ◌++◌, length, arith, Ok, Err}
use Rattle.crs_desk.specs.Desk.{Told, Stream, stream_at, Opens}
use Rattle.crs_desk.specs.declared.turn.Turn.{Turn}
use Rattle.crs_desk.specs.declared.desk.DeskError.TheVariants as errors
use Rattle.crs_outcomes.specs.declared.status.Status.{Status}
use Rattle.crs_outcomes.specs.declared.status.Status.TheVariants.{ReadFault, Memory}
use Rattle.crs_outcomes.specs.Inputs.{bytes_of}
use Rattle.crs_commands.specs.Logs.{Tail, HasReadLog}
use Rattle.crs_commands.specs.RunOutcomes.{Follows}
use Rattle.crs_frames.specs.Frames.{Frame}
use Rattle.crs_outcomes.proofs.Loads.{opened_stream, opened_left, failed_open, refused_open, nothing_read_of}

module _ (base now : ℕ) (tail : Tail) (f : Frame) (limit : ℕ) (old : Told) (log : List ℕ) where
  pub follow_failed : (new : Told) → now ≡ base → Opens old log (Err errors.Failed) new → Follows base now tail f limit old log ReadFault new
  follow_failed new e o = (
    1,
    0,
    0,
    [],
    record {
      did = failed_open base now old new log (bytes_of old log) e o;
      read = nothing_read_of base limit (0 < 1) (bytes_of old log);
      failed = λ _. refl;
      prompt = tt;
      outcome = inr (inl (refl, refl, refl, refl, o.written));
    },
  )

  pub follow_refused : (new : Told) → now ≡ base → Opens old log (Err errors.Memory) new → Follows base now tail f limit old log Memory new
  follow_refused new e o = (
    0,
    0,
    0,
    [],
    record {
      did = refused_open base now old new log (bytes_of old log) e o;
      read = nothing_read_of base limit (0 < 1) (bytes_of old log);
      failed = λ h. absurd (omega (arith, h));
      prompt = tt;
      outcome = inr (inr (refl, refl, o.written));
    },
  )

  -- the input was opened
  module _ (mid new : Told) (i : ℕ) (ie : i ≡ base) (be : base ≡ length old.left) (ne : now ≡ base + 1) (o : Opens old log (Ok i) mid) where
    log_is : (stream_at mid.left i).rest ≡ bytes_of old log
    log_is = ap (λ (x : Stream). x.rest) (opened_stream old mid log i (ie ∙ be) o)

    pub follow_read : (status : Status) → HasReadLog tail f mid i limit status new → Follows base now tail f limit old log status new
    follow_read status h =
        let s = h.2 in (
          1,
          1,
          h.0,
          h.1,
          record {
            did = record {
              files = s.files ∙ o.files;
              few = omega arith;
              opened = s.opened ∙ o.opened;
              least = omega arith;
              most = omega arith;
              counted = ne;
              left = s.left ∙ opened_left old mid log i h.0 (ie ∙ be) o;
              turns = s.turns ∙ ap (λ (x : List Turn). x ++ h.1) o.turns;
            };
            read = record { unread = λ z. absurd (omega arith); within = rw log_is at s.within; most = s.most; rises = rw ie at s.rises; rooms = s.rooms };
            failed = λ z. absurd (omega arith);
            prompt = rw (log_is, o.written) at s.prompt;
            outcome = inl (refl, refl, rw (log_is, o.written) at s.outcome);
          },
        )
