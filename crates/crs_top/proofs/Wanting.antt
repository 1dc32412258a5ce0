-- A call that does nothing for want of memory.
use Rattle.std.proofs.Common.{refl, sym, inl, inr, ℕ, ◌+◌, ◌<◌, ◌^◌, List, [], map, length, arith, append-nil}
use Rattle.std.specs.Prelude.{Option, Some, None}
use Rattle.crs_desk.specs.Desk.{Told}
use Rattle.crs_report.specs.Listeners.{Member, keep_members}
use Rattle.crs_words.specs.Kinds.{kinds_of}
use Rattle.crs_words.specs.Commands.{Command, Run, Print, Drill, Import, Audit, Feeds}
use Rattle.crs_outcomes.specs.declared.status.Status.TheVariants.{Memory}
use Rattle.crs_top.specs.CommandOutcomes.{Does, CompletesCommand}
use Rattle.crs_commands.specs.Imports.{IsTableLog, IsTableLine}
use Rattle.crs_outcomes.specs.Inputs.{bytes_of}
use Rattle.crs_commands.specs.Listings.{IsListed}
use Rattle.crs_outcomes.specs.Loads.{Loaded, IsModelLine}
use Rattle.crs_commands.specs.Logs.{tail_of}
use Rattle.crs_outcomes.specs.ModelTexts.{BreaksRule, IsFaulty, IsRunFaulty}
use Rattle.crs_rounds.specs.Opening.{none_taken}
use Rattle.crs_outcomes.specs.Most.{Most}
use Rattle.crs_commands.proofs.AuditRuns.{audit_ended}
use Rattle.crs_outcomes.proofs.Loads.{nothing_read_of, ends_wanting}
use Rattle.crs_rounds.proofs.RoundEnds.{nothing_read}
use Rattle.crs_commands.proofs.Runs.{run_ended}

none_loaded : (base limit : ℕ) (old : Told) (name : List ℕ) → Loaded base base limit old name 0 0 0 [] old
none_loaded base limit old name = record {
  did = record {
    files = refl;
    few = omega arith;
    opened = sym (append-nil old.opened);
    least = omega arith;
    most = omega arith;
    counted = omega arith;
    left = sym (append-nil old.left);
    turns = sym (append-nil old.turns);
  };
  read = nothing_read_of base (limit + 1) (0 < 1) (bytes_of old name);
  written = refl;
}

pub wants : (base : ℕ) (most : Most) (members : List Member) (old : Told) (command : Option Command) → Does base base most members old command Memory old
wants base most members old None =
    (inr (inr refl, (0, record { files = refl; opened = refl; left = refl; turns = refl; within = omega arith; written = sym (append-nil old.written) })), refl)
wants base most members old (Some (Run focus summary cite tally models log)) =
    run_ended base base cite (tail_of focus summary (keep_members (kinds_of tally) members)) most old old models log Memory
    (ends_wanting base base (2 ^ 20) (λ text. ⊥) (IsModelLine (IsRunFaulty cite most.symbols (bytes_of old models))) old models
    0 0 0 [] old (none_loaded base (2 ^ 20) old models) (omega arith))
wants base most members old (Some (Feeds focus models logs)) = (
  0,
  0,
  0,
  none_taken (map (bytes_of old) logs),
  [],
  [],
  record {
    did = record {
      files = refl;
      few = omega arith;
      opened = sym (append-nil old.opened);
      least = omega arith;
      most = omega arith;
      counted = omega arith;
      left = sym (append-nil old.left);
      turns = sym (append-nil old.turns);
    };
    models_read = nothing_read_of base (2 ^ 20 + 1) (0 < 1) (bytes_of old models);
    logs_read = nothing_read (base + 1) most.bytes (map (bytes_of old) logs) (0 < length logs + 1);
    failed = λ l. absurd (omega (arith, l));
    prompt = λ e. absurd (omega (arith, e));
    outcome = inl (inr refl, refl);
  },
)
wants base most members old (Some (Drill focus seed lines)) = (inr (inr (refl, refl)), refl)
wants base most members old (Some (Import table)) =
    ends_wanting base base (2 ^ 26) (IsTableLog (bytes_of old table)) (IsTableLine (bytes_of old table)) old table
    0 0 0 [] old (none_loaded base (2 ^ 26) old table) (omega arith)
wants base most members old (Some (Audit models log output)) =
    audit_ended base base most old old models log output Memory
    (ends_wanting base base (2 ^ 20) (λ text. ⊥) (IsModelLine (IsFaulty most.symbols (bytes_of old models))) old models
    0 0 0 [] old (none_loaded base (2 ^ 20) old models) (omega arith))
wants base most members old (Some (Print listing models)) =
    ends_wanting base base (2 ^ 20) (IsListed most.symbols listing (bytes_of old models)) (IsModelLine (BreaksRule most.symbols (bytes_of old models))) old models
    0 0 0 [] old (none_loaded base (2 ^ 20) old models) (omega arith)

-- want of memory is left of each command
pub wants_left : (most : Most) (old : Told) (command : Option Command) (fault : Type 0) → CompletesCommand most old command fault Memory
wants_left most old None fault = λ n. inr refl
wants_left most old (Some (Run focus summary cite tally models log)) fault =
    record { accepted = λ f a l n. inr (inr refl); too_long = λ f a l n. inr refl; refused = λ line word h n. inr refl }
wants_left most old (Some (Print listing models)) fault = record { accepted = λ m a n. inr refl; refused = λ line word h n. inr refl }
wants_left most old (Some (Drill focus seed lines)) fault =
    record { accepted = λ f a l n. inr refl; too_long = λ f a l n. inr refl; refused = λ line word h n. inr refl }
wants_left most old (Some (Import table)) fault = record { written = λ log e n. inr refl; refused = λ e h n. inr refl }
wants_left most old (Some (Audit models log output)) fault =
    record { faultless = λ f a l m none n. inr refl; faulty = λ f a l m none n. inr refl; too_long = λ f a l n. inr refl; refused = λ line word h n. inr refl }
wants_left most old (Some (Feeds focus models logs)) fault = record { accepted = λ f a l n. inr (inr refl); refused = λ line word h n. inr refl }
