-- What is written for the lines of several logs.
use Rattle.std.specs.Prelude.{◌≡◌, ℕ, ◌+◌, Bool, true, false, List, [], ◌∷◌, ◌++◌, length, take, get_or, flat_map, codes, decimal}
use Rattle.std.specs.List.{list_any}
use Rattle.crs_model.specs.Models.{Chronicle}
use Rattle.crs_log.specs.Reading.{number_of, whole_lines}
use Rattle.crs_log.specs.Run.{Setting, Outcome, Passed, Refused, Accepted, Marked}
use Rattle.crs_log.specs.Trace.{Answer, AreNew}
use Rattle.crs_report.specs.declared.refusals.Fault.{Fault}
use Rattle.crs_report.specs.OutputLines.{refusal_line}
use Rattle.crs_feeds.specs.Merged.{Merged, Pair, at_start, after_pair, outcomes, has_risen, mark_of, view_of}
use Rattle.crs_rounds.specs.FeedRounds.{pairs_before, pairs_of, lines_in}
use Rattle.crs_frames.specs.Frames.{Frame, log_setting, fault_of, answer_line, is_refused}

-- the refusal of a line of feed n, which is printed counted from 1
abbrev pub feed_refusal : (n number : ℕ) → Fault → List ℕ
feed_refusal n number fault = codes "feed " ++ decimal (n + 1) ++ codes " " ++ refusal_line number fault

-- of a pair, where its line is refused
abbrev pub refusal_of : Pair → Outcome → List ℕ
refusal_of p Passed = []
refusal_of p (Refused fault) = feed_refusal p.feed (number_of p.line) (fault_of fault)
refusal_of p (Accepted entry) = []
refusal_of p (Marked mark) = []

-- where the common horizon rises, what is new is answered, and else nothing
abbrev pub AreRiseAnswers : List (Chronicle (List ℕ)) → Bool → Merged → Merged → List Answer → Type 0
AreRiseAnswers cs false was now answers = answers ≡ []
AreRiseAnswers cs true was now answers = AreNew 0 cs (view_of was) (view_of now) answers

-- what is written for a pair, by what becomes of it: its refusal, the lines of its rise, or nothing
abbrev pub IsPairText : List (Chronicle (List ℕ)) → Pair → Merged → Merged × Outcome → List ℕ → Type 0
IsPairText cs p was after text =
    (answers : List Answer) × AreRiseAnswers cs (has_risen was.feeds after.0.feeds) was after.0 answers
    × (text ≡ refusal_of p after.1 ++ flat_map (answer_line false (mark_of after.0.feeds)) answers)

-- for these pairs, of which the first is met in the merged run
abbrev pub IsPairsText : Setting → List (Chronicle (List ℕ)) → Merged → List Pair → List ℕ → Type 0
IsPairsText c cs m [] text = text ≡ []
IsPairsText c cs m (p ∷ ps) text =
    (first : List ℕ) × (rest : List ℕ) × IsPairText cs p m (after_pair c m p) first × IsPairsText c cs (after_pair c m p).0 ps rest
    × (text ≡ first ++ rest)

-- for these pairs of n feeds from the start
abbrev pub IsTextOfPairs : Frame → ℕ → List Pair → List ℕ → Type 0
IsTextOfPairs f n ps text = IsPairsText (log_setting f) f.models.chronicles (at_start f.texts n) ps text

-- for whole logs
abbrev pub IsFeedsText : Frame → List (List ℕ) → List ℕ → Type 0
IsFeedsText f logs text = IsTextOfPairs f (length logs) (pairs_of (lines_in logs)) text

-- for what was taken before the turn of feed n in a round
abbrev pub IsTextBefore : Frame → List (List ℕ) → (round n : ℕ) → List ℕ → Type 0
IsTextBefore f logs round n text = IsTextOfPairs f (length logs) (pairs_before round n (lines_in logs)) text

-- before the turn of feed n in which its log is read, of which so many bytes were read before: it has given the whole lines among them
abbrev pub IsTextAtRead : Frame → List (List ℕ) → (n taken : ℕ) → List ℕ → Type 0
IsTextAtRead f logs n taken text = IsTextBefore f logs (length (whole_lines (take taken (get_or logs n [])))) n text

-- whether some line of these pairs is refused
abbrev pub refuses_some : Frame → ℕ → List Pair → Bool
refuses_some f n ps = list_any is_refused (outcomes (log_setting f) (at_start f.texts n) ps)
