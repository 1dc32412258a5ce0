-- Reading a log to its end, and writing as it comes.
use Rattle.std.specs.Prelude.{◌≡◌, ◌⊎◌, ℕ, ◌+◌, ◌<◌, ◌≤◌, nat_lt, Bool, true, false, List, [], ◌∷◌, ◌++◌, length, take, map, flat_map}
use Rattle.std.specs.List.{AllByRecursion}
use Rattle.crs_desk.specs.Desk.{Told, stream_at, advanced, Rises, HasRoom}
use Rattle.crs_desk.specs.declared.turn.Turn.{Turn}
use Rattle.crs_log.specs.Reading.{Reader}
use Rattle.crs_outcomes.specs.declared.status.Status.{Status}
use Rattle.crs_outcomes.specs.declared.status.Status.TheVariants.{Done, Refusals, Words, Rejected, ReadFault, WriteFault, Memory, TooLong}
use Rattle.crs_session.specs.declared.session.Session.{Session}
use Rattle.crs_layers.specs.LayerStates.{accepted_in, kept_in}
use Rattle.crs_report.specs.Listeners.{Notice, Member, notice_of, members_after, page_of}
use Rattle.crs_report.specs.Summaries.{summary_line}
use Rattle.crs_report.specs.declared.summary.Summary.{Summary}
use Rattle.crs_session.specs.Tallies.{capped, IsSummaryText}
use Rattle.crs_session.specs.Taking.{TakesPiece, TakesRest}
use Rattle.crs_session.specs.Notices.{AreLogNotices}
use Rattle.crs_frames.specs.Frames.{Frame}
use Rattle.crs_session.specs.Texts.{IsWholeText, IsLogText, SomeRefused}
use Rattle.crs_session.specs.Written.{Written}
use Rattle.crs_outcomes.specs.Writing.{Appends, AppendsFront, Says}
use Rattle.crs_outcomes.specs.Status.{ended_as}

-- what is to be written behind the text of a log whose end was met
abbrev pub Tail : Type 1
Tail = Frame → List ℕ → List ℕ → Type 0

-- the summary line where it is asked for, and nothing where it isn't
abbrev pub IsSummaryPart : (focus summary : Bool) → Tail
IsSummaryPart focus false f log text = text ≡ []
IsSummaryPart focus true f log text = IsSummaryText focus f log text

-- the pages of these listeners, as they stay and count through all recognitions of the log
abbrev pub ArePages : List Member → Tail
ArePages members f log text = (notices : List Notice) × AreLogNotices f log notices × (text ≡ flat_map page_of (members_after notices members))

-- the summary line, where it is asked for, and then the pages; only the numbers in the line depend on whether levels are read
abbrev pub tail_of : (focus summary : Bool) → List Member → Tail
tail_of focus summary members f log text =
    (line : List ℕ) × (pages : List ℕ) × IsSummaryPart focus summary f log line × ArePages members f log pages × (text ≡ line ++ pages)

-- the text of the whole log, and then the tail
abbrev pub IsEndedText : Tail → Frame → List ℕ → List ℕ → Type 0
IsEndedText tail f log text = (lines : List ℕ) × (rest : List ℕ) × IsLogText f log lines × tail f log rest × (text ≡ lines ++ rest)

-- At this turn the bytes written were the text of the whole lines among the log bytes read.
abbrev pub IsPromptAt : Frame → List ℕ → List ℕ → List ℕ → Turn → Type 0
IsPromptAt f old log written t = (t.written ≤ length written) × Appends (IsWholeText f (take t.taken log)) old (take t.written written)

abbrev pub IsPrompt : Frame → List ℕ → List ℕ → List ℕ → List Turn → Type 0
IsPrompt f old log written [] = Unit {0}
IsPrompt f old log written (t ∷ ts) = IsPromptAt f old log written t × IsPrompt f old log written ts

-- a front of the text of the whole lines among the first bytes, of which at most t were read; or, where the end was met, of the whole
-- log's text and the tail
abbrev pub IsCutShort : Tail → Frame → List ℕ → ℕ → List ℕ → List ℕ → Type 0
IsCutShort tail f log t old new =
    ((u : ℕ) × (u ≤ t) × AppendsFront (IsWholeText f (take u log)) old new)
    ⊎ ((t ≡ length log) × AppendsFront (IsEndedText tail f log) old new)

-- What holds at each status of a log that was opened, of which t bytes were read, and what was written.
abbrev pub LogOutcome : Tail → Frame → List ℕ → ℕ → ℕ → List ℕ → Status → List ℕ → Type 0
LogOutcome tail f log limit t old Done new =
    (t ≡ length log) × (t < limit) × Appends (IsEndedText tail f log) old new × SomeRefused f log false
LogOutcome tail f log limit t old Refusals new =
    (t ≡ length log) × (t < limit) × Appends (IsEndedText tail f log) old new × SomeRefused f log true
LogOutcome tail f log limit t old Words new = ⊥
LogOutcome tail f log limit t old Rejected new = ⊥
LogOutcome tail f log limit t old ReadFault new = (t < limit) × Appends (IsWholeText f (take t log)) old new
LogOutcome tail f log limit t old TooLong new = (t ≡ limit) × Appends (IsWholeText f (take t log)) old new
LogOutcome tail f log limit t old WriteFault new = IsCutShort tail f log t old new
LogOutcome tail f log limit t old Memory new = IsCutShort tail f log t old new

-- t bytes of a log that was just opened were read, in rising and prompt turns, each with the room that is left to the limit
pub record ReadsLog (tail : Tail) (f : Frame) (old : Told) (input limit t : ℕ) (more : List Turn) (status : Status)
    (new : Told) : Type 0 where
  pub files : new.files ≡ old.files
  pub opened : new.opened ≡ old.opened
  pub left : new.left ≡ advanced old.left input t
  pub within : t ≤ length (stream_at old.left input).rest
  pub turns : new.turns ≡ old.turns ++ more
  pub rises : Rises input 0 (t + 1) more
  pub rooms : AllByRecursion (HasRoom limit) more
  pub most : t ≤ limit
  pub prompt : IsPrompt f old.written (stream_at old.left input).rest new.written more
  pub outcome : LogOutcome tail f (stream_at old.left input).rest limit t old.written status new.written

abbrev pub HasReadLog : Tail → Frame → Told → ℕ → ℕ → Status → Told → Type 0
HasReadLog tail f old input limit status new = (t : ℕ) × (more : List Turn) × ReadsLog tail f old input limit t more status new

-- the lines that a piece completes are taken, and the listeners are told of the recognitions in their text
pub record TellsPiece (old_lines new_lines : Reader) (old new : Session) (was now : List Member) (piece text : List ℕ) : Type 0 where
  pub all : Written
  pub piece_is : TakesPiece old_lines new_lines old new piece all
  pub text_is : text ≡ all.text
  pub heard : now ≡ members_after (map notice_of all.found) was

-- the numbers of a session
abbrev pub summary_of : Session → Summary
summary_of x = record {
  entries = capped (accepted_in x.layers);
  refused = x.counts.refused;
  recognitions = x.counts.recognitions;
  kept = kept_in x.layers;
  peak = x.counts.peak;
}

-- the summary line of a session, where it is asked for
abbrev pub IsSummaryOf : Bool → Session → List ℕ → Type 0
IsSummaryOf false x text = text ≡ []
IsSummaryOf true x text = text ≡ summary_line (summary_of x)

-- what a session writes behind the text of its log, and the listeners behind that
abbrev pub IsTailOf : Bool → List Member → Session → List ℕ → Type 0
IsTailOf summary members x text = (line : List ℕ) × IsSummaryOf summary x line × (text ≡ line ++ flat_map page_of members)

-- the last line is taken, the listeners are told of the recognitions in its text, and that and the tail are made
abbrev pub TakesEnd : Bool → List Member → Reader → Session → Session → List ℕ → Type 0
TakesEnd summary members lines old new text =
    (last : Written) × (tail : List ℕ) × TakesRest lines old new last
    × IsTailOf summary (members_after (map notice_of last.found) members) new tail × (text ≡ last.text ++ tail)

-- whether some line was refused, or some given entry not accepted
abbrev pub has_refused : Session → Bool
has_refused x = nat_lt 0 x.counts.refused

-- the rest is taken, and its text written, or a front of it, or none of it
abbrev pub Finishes : Bool → List Member → Told → Session → Reader → Status → Told → Type 0
Finishes summary members old x lines status new =
    ((status ≡ Memory) × (new ≡ old))
    ⊎ ((y : Session) × (text : List ℕ) × TakesEnd summary members lines x y text × Says (ended_as (has_refused y)) old text status new)
