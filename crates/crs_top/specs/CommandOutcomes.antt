-- What a call of the program does, by the command that its words are.
use Rattle.std.specs.Prelude.{◌≡◌, ◌⊎◌, ℕ, List, Option, Some, None}
use Rattle.crs_desk.specs.Desk.{Told}
use Rattle.crs_outcomes.specs.declared.status.Status.{Status}
use Rattle.crs_outcomes.specs.declared.status.Status.TheVariants.{Words, Memory}
use Rattle.crs_report.specs.Listeners.{Member, keep_members}
use Rattle.crs_words.specs.Kinds.{kinds_of}
use Rattle.crs_words.specs.Commands.{Command, Run, Print, Drill, Import, Audit, Feeds, usage_text}
use Rattle.crs_commands.specs.Logs.{tail_of}
use Rattle.crs_outcomes.specs.Writing.{Says}
use Rattle.crs_outcomes.specs.Most.{Most}
use Rattle.crs_commands.specs.RunOutcomes.{Runs, Completes}
use Rattle.crs_commands.specs.Listings.{Prints, CompletesPrint}
use Rattle.crs_commands.specs.Imports.{Imports, CompletesImport}
use Rattle.crs_commands.specs.AuditOutcomes.{Audits, CompletesAudit}
use Rattle.crs_commands.specs.Drills.{Drills, CompletesDrill, RefusesNothing}
use Rattle.crs_rounds.specs.FeedOutcomes.{RunsFeeds, CompletesFeeds}

-- what a call does to the desk, whose count of inputs was base and is now, with these listeners, of whom a run keeps those that are asked
-- for; whether levels are read decides of what is written only the numbers of a summary line; a drill opens nothing; with other words it
-- writes the usage text and nothing else
abbrev pub Does : ℕ → ℕ → Most → List Member → Told → Option Command → Status → Told → Type 0
Does base now most members old None status new = Says Words old usage_text status new × (now ≡ base)
Does base now most members old (Some (Run focus summary cite tally models log)) status new =
    Runs base now cite (tail_of focus summary (keep_members (kinds_of tally) members)) most old models log status new
Does base now most members old (Some (Print listing models)) status new = Prints base now most.symbols listing old models status new
Does base now most members old (Some (Drill focus seed lines)) status new = Drills focus most seed lines old status new × (now ≡ base)
Does base now most members old (Some (Import table)) status new = Imports base now old table status new
Does base now most members old (Some (Audit models log output)) status new = Audits base now most old models log output status new
Does base now most members old (Some (Feeds focus models logs)) status new = RunsFeeds base now most old models logs status new

-- without a fault of the outside it ends as its input says, unless memory is wanting
abbrev pub CompletesCommand : Most → Told → Option Command → Type 0 → Status → Type 0
CompletesCommand most old None fault status = (fault → ⊥) → (status ≡ Words) ⊎ (status ≡ Memory)
CompletesCommand most old (Some (Run focus summary cite tally models log)) fault status = Completes cite most old models log fault status
CompletesCommand most old (Some (Print listing models)) fault status = CompletesPrint most.symbols old models fault status
CompletesCommand most old (Some (Drill focus seed lines)) fault status = CompletesDrill most seed lines fault status
CompletesCommand most old (Some (Import table)) fault status = CompletesImport old table fault status
CompletesCommand most old (Some (Audit models log output)) fault status = CompletesAudit most old models log output fault status
CompletesCommand most old (Some (Feeds focus models logs)) fault status = CompletesFeeds most old models logs fault status

-- of a drill no line is refused, at the limits of the program
abbrev pub IsUnrefused : Told → Option Command → Status → Told → Type 0
IsUnrefused old None status new = Unit {0}
IsUnrefused old (Some (Run focus summary cite tally models log)) status new = Unit {0}
IsUnrefused old (Some (Print listing models)) status new = Unit {0}
IsUnrefused old (Some (Drill focus seed lines)) status new = RefusesNothing old status new
IsUnrefused old (Some (Import table)) status new = Unit {0}
IsUnrefused old (Some (Audit models log output)) status new = Unit {0}
IsUnrefused old (Some (Feeds focus models logs)) status new = Unit {0}
