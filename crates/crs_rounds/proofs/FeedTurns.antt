-- Several logs, turn by turn.
use Rattle.std.proofs.Common.{◌≡◌, ◌⊎◌, ◌∙◌, ap, sym, refl, subst, inl, inr, ℕ, ◌+◌, ◌<◌, ◌≤◌, true, false, cond, nat_lt, List, [], ◌∷◌, ◌++◌, length, take, drop, get_or, set, slice_get, map}
use Rattle.std.proofs.Common.{arith, append-nil, append_assoc, lt-ltb, Some, Err}
use Rattle.std.specs.Prelude.{◌||◌}
use Rattle.std.proofs.lemmas.Bool.{cases_eq, cases_Bool, le-ltb, ltb-true, ltb-false}
use Rattle.std.proofs.lemmas.List.{length-set, get_or-set_same, get_or-set_other, get_or-map, length-map, length-drop, take-append-drop}
use Rattle.std.proofs.Math.Seq.{take-length, take-append-add, map-set_same}
use Rattle.crs_base.specs.Lines.{lines_of}
use Rattle.crs_desk.specs.Desk.{Told, Wrote, Rises}
use Rattle.crs_log.specs.Reading.{Given, Gives, HasNoLine, ahead, given, numbered}
use Rattle.crs_feeds.specs.Merged.{Pair, after_pair, at_start}
use Rattle.crs_feeds.specs.Standing.{run_behind}
use Rattle.crs_rounds.specs.declared.merged.MergedSession.{MergedSession}
use Rattle.crs_rounds.specs.declared.source.Source.{Source}
use Rattle.crs_outcomes.specs.declared.status.Status.{Status}
use Rattle.crs_outcomes.specs.declared.status.Status.TheVariants as stops
use Rattle.crs_rounds.specs.FeedOutcomes.{FeedsOutcome, IsFront, turns_of}
use Rattle.crs_rounds.specs.FeedRounds.{pairs_before, lines_in}
use Rattle.crs_outcomes.specs.Inputs.{bytes_of}
use Rattle.crs_rounds.specs.MergedSession.{StandsBehind, BringsLine, BringsPair, feeds_of}
use Rattle.crs_rounds.specs.PairTexts.{IsTextBefore, IsTextOfPairs, refuses_some}
use Rattle.crs_rounds.specs.Sources.{Follows, StandsAt, IsSourceOf, AreAt, HaveRead, HaveStopped, IsSpent, Flushes, source_at, taken_of, turns_before, new_source}
use Rattle.crs_frames.specs.Frames.{Frame, log_setting, is_refused}
use Rattle.crs_rounds.proofs.FeedOrder.{pair, turn_gives, turn_none, before_more}
use Rattle.crs_rounds.proofs.FeedReading.{have_written}
use Rattle.crs_rounds.proofs.PairTexts.{text_more, refused_more}
use Rattle.crs_rounds.proofs.SourcePlaces.{line_at, is_going, stand_given, stand_spent, all_told, few_told}

empty_by : (xs : List ℕ) → length xs ≡ 0 → xs ≡ []
empty_by [] e = refl
empty_by (x ∷ xs) e = absurd (omega (arith, e))

-- ---- places

pub turns_own : (round n : ℕ) → turns_before round n n ≡ round
turns_own round n = let e : nat_lt n n ≡ false = le-ltb n n (omega arith) in λ i. cond (e i) (round + 1) round

pub turns_done : (round n : ℕ) → turns_before round (n + 1) n ≡ round + 1
turns_done round n = let e : nat_lt n (n + 1) ≡ true = lt-ltb n (n + 1) (omega arith) in λ i. cond (e i) (round + 1) round

same_test : (j n : ℕ) → (j ≡ n → ⊥) → nat_lt j (n + 1) ≡ nat_lt j n
same_test j n d = elim (cases_Bool (nat_lt j n)) [
  | inl e ↦ (let l = ltb-true j n e in lt-ltb j (n + 1) (omega (arith, l)) ∙ sym e)
  | inr e ↦ (let l = ltb-false j n e in le-ltb j (n + 1) (let k : (j ≡ n → ⊥) = d in ne_lt j n l k) ∙ sym e)
]
  where
    ne_lt : (j n : ℕ) → n ≤ j → (j ≡ n → ⊥) → n + 1 ≤ j
    ne_lt j n l d = elim (cases_eq j n) [ inl e ↦ absurd (d e) | inr k ↦ grind arith ]

pub turns_other : (round n j : ℕ) → (j ≡ n → ⊥) → turns_before round (n + 1) j ≡ turns_before round n j
turns_other round n j d = ap (λ b. cond b (round + 1) round) (same_test j n d)

module _ (f : Frame) (base limit : ℕ) (old : Told) (names : List (List ℕ)) where
  abbrev logs : List (List ℕ)
  logs = map (bytes_of old) names

  pub count_logs : length logs ≡ length names
  count_logs = length-map names (bytes_of old)

  pub lines_is : (n : ℕ) → n < length names → get_or (lines_in logs) n [] ≡ numbered (lines_of (get_or logs n []))
  lines_is n l = get_or-map (λ log. numbered (lines_of log)) logs n [] [] (omega (arith, l, count_logs))

  pub count_lines : length (lines_in logs) ≡ length names
  count_lines = length-map logs (λ log. numbered (lines_of log)) ∙ count_logs

  module _ (round n : ℕ) (ss : List Source) (x : MergedSession) (out : List ℕ) (now : Told) (a : AreAt f base limit old names round n ss x out now) where
    -- the text before a turn, with as many feeds as the session has
    text_is : IsTextOfPairs f (feeds_of x) (pairs_before round n (lines_in logs)) (a.written ++ out)
    text_is = subst (λ k. IsTextOfPairs f k (pairs_before round n (lines_in logs)) (a.written ++ out)) (count_logs ∙ sym a.feeds) a.is_text

    front : (k : ℕ) → IsFront f logs old.written (old.written ++ take (length a.written + k) (a.written ++ out))
    front k = (round, n, (a.written ++ out, length a.written + k, a.is_text, refl))

    -- what is pending is written, or a front of it
    pub at_flushed : (new : Told) → Wrote now out (length out) new → AreAt f base limit old names round n ss x [] new
    at_flushed new w = record {
      count = a.count;
      turns = a.turns;
      read = have_written f base limit old names (taken_of ss) a.turns now new out (length out) a.read w;
      sources = a.sources;
      state = a.state;
      feeds = a.feeds;
      written = a.written ++ out;
      is_text = subst (IsTextBefore f logs round n) (sym (append-nil (a.written ++ out))) a.is_text;
      written_is = w.written ∙ (λ i. a.written_is i ++ take-length out i) ∙ append_assoc old.written a.written out;
      refused = a.refused;
    }

    stopped_by : (status : Status) → (status ≡ stops.WriteFault) ⊎ (status ≡ stops.Memory) → (ts : List ℕ) (new : List ℕ) → IsFront f logs old.written new
        → FeedsOutcome f logs limit ts old.written status new
    stopped_by status either ts new front = elim either [
      | inl e ↦ subst (λ (s : Status). FeedsOutcome f logs limit ts old.written s new) (sym e) front
      | inr e ↦ subst (λ (s : Status). FeedsOutcome f logs limit ts old.written s new) (sym e) front
    ]

    pub stop_flush : (status : Status) (new : Told) → Flushes now out (Err status) new → HaveStopped f base limit old names ss status new
    stop_flush status new h = record {
      turns = a.turns;
      read = have_written f base limit old names (taken_of ss) a.turns now new out h.1 a.read h.2;
      outcome = stopped_by status h.0 (taken_of ss) new.written
          (subst (IsFront f logs old.written)
          (sym (h.2.written ∙ (λ i. a.written_is i ++ take h.1 out) ∙ append_assoc old.written a.written (take h.1 out)
          ∙ ap (λ (t : List ℕ). old.written ++ t) (sym (take-append-add a.written out h.1)))) (front h.1));
    }

    -- memory was wanting
    pub stop_memory : HaveStopped f base limit old names ss stops.Memory now
    stop_memory = record {
      turns = a.turns;
      read = a.read;
      outcome = subst (IsFront f logs old.written)
          (ap (λ (t : List ℕ). old.written ++ t) (take-append-add a.written out 0 ∙ append-nil a.written) ∙ sym a.written_is) (front 0);
    }

    -- ---- the turn of feed n
    module _ (l : n < length names) where
      abbrev log : List ℕ
      log = get_or logs n []

      abbrev own : Source
      own = source_at ss n

      abbrev all : List Given
      all = numbered (lines_of log)

      pub few : n < length logs
      few = omega (arith, l, count_logs)

      pub within : n < length ss
      within = omega (arith, l, a.count)

      pub of : IsSourceOf base limit round a.turns n log own
      of = subst (λ k. IsSourceOf base limit k a.turns n log own) (turns_own round n) (a.sources n l)

      pub same_taken : (t : Source) → t.taken ≡ own.taken → taken_of (set ss n t) ≡ taken_of ss
      same_taken t e = map-set_same (λ (s : Source). s.taken) ss n t (new_source 0) e

      -- a source with the same input and the same bytes at its next place
      moved_on : (t : Source) → t.input ≡ own.input → t.taken ≡ own.taken → StandsAt limit (take own.taken log) (round + 1) t → t.finished ≡ own.finished
          → (j : ℕ) → j < length names → IsSourceOf base limit (turns_before round (n + 1) j) a.turns j (get_or logs j []) (source_at (set ss n t) j)
      moved_on t input taken stand finished j m = elim (cases_eq j n) [
        | inl e ↦ subst (λ k. IsSourceOf base limit (turns_before round (n + 1) k) a.turns k (get_or logs k []) (source_at (set ss n t) k)) (sym e)
            (subst (λ (s : Source). IsSourceOf base limit (turns_before round (n + 1) n) a.turns n log s) (sym (get_or-set_same ss n t (new_source 0) within))
            (subst (λ k. IsSourceOf base limit k a.turns n log t) (sym (turns_done round n))
            (record {
              input = input ∙ of.input;
              stands = subst (λ k. StandsAt limit (take k log) (round + 1) t) (sym taken) stand;
              whole = λ q. let w = of.whole (sym finished ∙ q) in (taken ∙ w.0, subst (λ k. k < limit) (sym taken) w.1);
              rises = λ q. subst (λ k. Rises (base + n) 0 k (turns_of (base + n) a.turns)) (sym taken) (of.rises (sym finished ∙ q));
            })))
        | inr d ↦ subst (λ (s : Source). IsSourceOf base limit (turns_before round (n + 1) j) a.turns j (get_or logs j []) s) (sym (get_or-set_other ss n j t (new_source 0) d))
            (subst (λ k. IsSourceOf base limit k a.turns j (get_or logs j []) (source_at ss j)) (sym (turns_other round n j d)) (a.sources j m))
      ]

      -- it gave a line
      module _ (t : Source) (y : MergedSession) (more : List ℕ) (g : Given) (gives : Gives own.lines g t.lines) (input : t.input ≡ own.input) (taken : t.taken ≡ own.taken)
          (finished : t.finished ≡ own.finished) (brings : BringsLine x y n g out more) where
        rest_is : all ≡ of.stands.told ++ g ∷ ahead t.lines (drop own.taken log)
        rest_is =
            let none : Follows own (drop own.taken log) = (λ q. let w = of.whole q in no_drop own.taken log w.0) in
            ap (given 4096 0) (sym (take-append-drop own.taken log)) ∙ of.stands.lines (drop own.taken log) none
            ∙ ap (λ (gs : List Given). of.stands.told ++ gs) (gives.ahead (drop own.taken log) (λ q. none (sym of.stands.ended ∙ q)))
          where
            no_drop : (k : ℕ) (xs : List ℕ) → k ≡ length xs → drop k xs ≡ []
            no_drop k xs e = let d = length-drop k xs in empty_by (drop k xs) (omega (arith, e, d))

        line_is : slice_get (get_or (lines_in logs) n []) round ≡ Some g
        line_is =
            ap (λ (gs : List Given). slice_get gs round) (lines_is n l ∙ rest_is)
            ∙ line_at of.stands.told (ahead t.lines (drop own.taken log)) g round (is_going limit round (take own.taken log) own t of.stands g gives)

        pairs_are : pairs_before round (n + 1) (lines_in logs) ≡ pairs_before round n (lines_in logs) ++ pair n g ∷ []
        pairs_are =
            before_more round n (lines_in logs) (omega (arith, l, count_lines))
            ∙ ap (λ (ps : List Pair). pairs_before round n (lines_in logs) ++ ps) (turn_gives n round (get_or (lines_in logs) n []) g line_is)

        b : BringsPair f x y (pairs_before round n (lines_in logs)) (pair n g) out more
        b = brings f (pairs_before round n (lines_in logs)) a.state

        text_now : IsTextOfPairs f (feeds_of x) (pairs_before round n (lines_in logs) ++ pair n g ∷ []) ((a.written ++ out) ++ b.text)
        text_now = text_more (log_setting f) f.models.chronicles (at_start f.texts (feeds_of x)) (pairs_before round n (lines_in logs)) (pair n g) (a.written ++ out) b.text text_is b.is_text

        pub turn_gave : AreAt f base limit old names round (n + 1) (set ss n t) y more now
        turn_gave = record {
          count = length-set ss n t ∙ a.count;
          turns = a.turns;
          read = subst (λ (ts : List ℕ). HaveRead f base limit old names ts a.turns now) (sym (same_taken t taken)) a.read;
          sources = moved_on t input taken (stand_given limit round (take own.taken log) own t of.stands g gives taken finished) finished;
          state = subst (StandsBehind f y) (sym pairs_are) b.state;
          feeds = b.count ∙ a.feeds;
          written = a.written;
          is_text = subst (λ (ps : List Pair). IsTextOfPairs f (length logs) ps (a.written ++ more)) (sym pairs_are)
              (subst (λ k. IsTextOfPairs f k (pairs_before round n (lines_in logs) ++ pair n g ∷ []) (a.written ++ more)) (a.feeds ∙ sym count_logs)
              (subst (IsTextOfPairs f (feeds_of x) (pairs_before round n (lines_in logs) ++ pair n g ∷ []))
              (append_assoc a.written out b.text ∙ ap (λ (t : List ℕ). a.written ++ t) (sym b.written)) text_now));
          written_is = a.written_is;
          refused =
              b.refused
              ∙ (λ i. a.refused i || is_refused (after_pair (log_setting f) (run_behind (log_setting f) f.texts (a.feeds i) (pairs_before round n (lines_in logs))) (pair n g)).1)
              ∙ sym (refused_more (log_setting f) (at_start f.texts (length names)) (pairs_before round n (lines_in logs)) (pair n g))
              ∙ ap (refuses_some f (length names)) (sym pairs_are);
        }

      -- it has no line left
      module _ (none : HasNoLine own.lines) (finished : own.finished ≡ true) where
        pub spent : IsSpent round log own
        spent = record {
          finished = finished;
          few =
              let w = of.whole finished in
              let is : given 4096 0 (take own.taken log) ≡ all = ap (λ k. given 4096 0 (take k log)) w.0 ∙ ap (given 4096 0) (take-length log) in
              let e = ap length (sym is ∙ all_told limit round (take own.taken log) own of.stands none finished) in
              omega (arith, e, few_told limit round (take own.taken log) own of.stands);
        }

        no_pair : pairs_before round (n + 1) (lines_in logs) ≡ pairs_before round n (lines_in logs)
        no_pair =
            before_more round n (lines_in logs) (omega (arith, l, count_lines))
            ∙ ap (λ (ps : List Pair). pairs_before round n (lines_in logs) ++ ps)
            (turn_none n round (get_or (lines_in logs) n []) (subst (λ (gs : List Given). length gs ≤ round) (sym (lines_is n l)) spent.few))
            ∙ append-nil (pairs_before round n (lines_in logs))

        pub turn_spent : AreAt f base limit old names round (n + 1) (set ss n own) x out now
        turn_spent = record {
          count = length-set ss n own ∙ a.count;
          turns = a.turns;
          read = subst (λ (ts : List ℕ). HaveRead f base limit old names ts a.turns now) (sym (same_taken own refl)) a.read;
          sources = moved_on own refl refl (stand_spent limit round (take own.taken log) own of.stands none finished) refl;
          state = subst (StandsBehind f x) (sym no_pair) a.state;
          feeds = a.feeds;
          written = a.written;
          is_text = subst (λ (ps : List Pair). IsTextOfPairs f (length logs) ps (a.written ++ out)) (sym no_pair) a.is_text;
          written_is = a.written_is;
          refused = a.refused ∙ ap (refuses_some f (length names)) (sym no_pair);
        }
