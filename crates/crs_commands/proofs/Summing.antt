-- Lines that were given, and the numbers of a log whose lines were all taken.
use Rattle.std.proofs.Common.{◌≡◌, ◌∙◌, ap, sym, refl, subst, ℕ, ◌+◌, nat_lt, zero-add, Bool, false, List, [], ◌∷◌, ◌++◌, length, append-nil}
use Rattle.std.proofs.Common.{append_assoc, length-append, map}
use Rattle.crs_base.specs.Lines.{lines_of}
use Rattle.crs_log.specs.Reading.{Reader, Given, HasGiven, HasNoLine, given, given_lines, ahead}
use Rattle.crs_layers.specs.Runs.{State, Effect, IsRun, views_of}
use Rattle.crs_report.specs.Listeners.{notice_of}
use Rattle.crs_report.specs.declared.summary.Summary.{Summary}
use Rattle.crs_session.specs.declared.session.Session.{Session}
use Rattle.crs_session.specs.declared.session.Counts.{Counts}
use Rattle.crs_commands.specs.Logs.{summary_of, has_refused as counts_refused}
use Rattle.crs_session.specs.Notices.{AreLogNotices}
use Rattle.crs_session.specs.Session.{Represents, IsUncounted}
use Rattle.crs_commands.specs.Summing.{TakesLog}
use Rattle.crs_session.specs.Taking.{Takes, TakesPiece, TakesRest}
use Rattle.crs_session.specs.Tallies.{AllLive, AreCounts, IsSummary, capped, started, together, tally_of, refused_in, recognitions_in}
use Rattle.crs_frames.specs.Frames.{Frame}
use Rattle.crs_session.specs.Texts.{setting_of, start_of, SomeRefused, IsTraceOf, IsLogText}
use Rattle.crs_session.specs.Written.{Written, unwritten, joined}
use Rattle.crs_session.proofs.Counting.{positive, some_counted}
use Rattle.crs_session.proofs.Living.{held_in, live_in, kept_is}
use Rattle.crs_session.proofs.Taken.{takes_none, takes_append}

-- the lines of the first t bytes were given, and the reader stands behind them
pub record IsAt (t : ℕ) (bytes : List ℕ) (lines : Reader) (told : List Given) : Type 0 where
  pub limit : lines.limit ≡ 4096
  pub open_still : lines.finished ≡ false
  pub fed : lines.fed ≡ t
  pub none : HasNoLine lines
  pub given : HasGiven 4096 bytes told lines

pub at_none : (lines : Reader) → lines ≡ record { limit = 4096; number = 0; rest = []; finished = false; fed = 0 } → IsAt 0 [] lines []
at_none lines new =
    subst (λ (l : Reader). IsAt 0 [] l []) (sym new) (record { limit = refl; open_still = refl; fed = refl; none = (refl, refl); given = λ m. refl })

-- the reader behind the next piece
pub at_more : (t n : ℕ) (lines now : Reader) (told : List Given) (bytes piece : List ℕ) (x y : Session) (all : Written) → length piece ≡ n
    → IsAt t bytes lines told → (p : TakesPiece lines now x y piece all) → IsAt (t + n) (bytes ++ piece) now (told ++ p.told)
at_more t n lines now told bytes piece x y all len a p = record {
  limit = p.limit ∙ a.limit;
  open_still = p.finished ∙ a.open_still;
  fed = p.fed ∙ (λ j. a.fed j + len j);
  none = p.none;
  given = λ m. ap (given 4096 0) (append_assoc bytes piece m) ∙ a.given (piece ++ m) ∙ ap (λ (gs : List Given). told ++ gs) (p.ahead_is m)
      ∙ sym (append_assoc told p.told (ahead now m));
}

-- the bytes that were given, of a log that is held whole, and what is taken of it so far
pub record HasTaken (log rest : List ℕ) (old : Session) (lines : Reader) (new : Session) : Type 0 where
  pub fed : List ℕ
  pub told : List Given
  pub all : Written
  pub whole : fed ++ rest ≡ log
  pub at : IsAt (length fed) fed lines told
  pub takes : (f : Frame) (s : State) → Represents f old s → Takes f old.layers.focus old.counts new s told unwritten all

pub taken_none : (log : List ℕ) (x : Session) (lines : Reader)
    → lines ≡ record { limit = 4096; number = 0; rest = []; finished = false; fed = 0 } → HasTaken log log x lines x
taken_none log x lines new = record {
  fed = [];
  told = [];
  all = unwritten;
  whole = refl;
  at = at_none lines new;
  takes = λ f s r. takes_none f x s unwritten r;
}

pub taken_more : (log piece rest : List ℕ) (old x y : Session) (lines now : Reader) (all : Written) → HasTaken log (piece ++ rest) old lines x
    → TakesPiece lines now x y piece all → HasTaken log rest old now y
taken_more log piece rest old x y lines now all h p = record {
  fed = h.fed ++ piece;
  told = h.told ++ p.told;
  all = joined h.all all;
  whole = append_assoc h.fed piece rest ∙ h.whole;
  at = subst (λ (n : ℕ). IsAt n (h.fed ++ piece) now (h.told ++ p.told)) (sym (length-append h.fed piece))
      (at_more (length h.fed) (length piece) lines now h.told h.fed piece x y all refl h.at p);
  takes = λ f s r.
      let t = h.takes f s r in
      takes_append f old.layers.focus old.counts x y s h.told p.told h.all all t (p.takes f t.last t.state);
}

-- all is given, and the last line is taken
pub taken_all : (log : List ℕ) (old x y : Session) (lines : Reader) (all : Written) → HasTaken log [] old lines x → TakesRest lines x y all
    → TakesLog log old y
taken_all log old x y lines all h p f s r =
    let t = h.takes f s r in
    let whole : h.fed ≡ log = sym (append-nil h.fed) ∙ h.whole in
    let told : given_lines 4096 0 (lines_of log) ≡ h.told ++ p.told =
    ap (λ (bs : List ℕ). given 4096 0 bs) (sym whole ∙ sym (append-nil h.fed)) ∙ h.at.given [] ∙ ap (λ (gs : List Given). h.told ++ gs) p.ahead_is in (
      joined h.all all,
      subst (λ (gs : List Given). Takes f old.layers.focus old.counts y s gs unwritten (joined h.all all)) (sym told)
          (takes_append f old.layers.focus old.counts x y s h.told p.told h.all all t (p.takes f t.last t.state)),
    )

-- what was counted before the first line
pub record HasBegun (f : Frame) (focus : Bool) (start : Counts) : Type 0 where
  pub first : ℕ
  pub at_first : AllLive focus f.placed (views_of (setting_of f) (start_of f)) first
  pub counts : AreCounts start (started first)

pub begun_by : (f : Frame) (x : Session) → Represents f x (start_of f) → IsUncounted x → HasBegun f x.layers.focus x.counts
begun_by f x r u = record {
  first = held_in x.layers.layers;
  at_first = live_in f x (start_of f) r;
  counts = record { refused = u.refused; recognitions = u.recognitions; peak = u.peak ∙ kept_is x.layers.layers };
}

-- some line is refused exactly where as many are counted
refused_of : (f : Frame) (log : List ℕ) (es : List Effect) (last : State) → IsTraceOf f (lines_of log) es last → SomeRefused f log (nat_lt 0 (capped (refused_in es)))
refused_of f log es last h = (es, last, h, positive (refused_in es) ∙ some_counted es)

-- all lines of the log were taken
module _ (f : Frame) (log : List ℕ) (focus : Bool) (start : Counts) (begun : HasBegun f focus start) (y : Session) (told : List Given)
    (all : Written)
    (all_told : given_lines 4096 0 (lines_of log) ≡ told) (takes : Takes f focus start y (start_of f) told unwritten all) where
  trace_of : IsTraceOf f (lines_of log) takes.effects takes.last
  trace_of = subst (λ (gs : List Given). IsRun (setting_of f) (start_of f) gs takes.effects takes.last) (sym all_told) takes.trace

  pub text_is : IsLogText f log all.text
  text_is = (takes.effects, takes.last, trace_of, takes.written)

  pub notices_are : AreLogNotices f log (map notice_of all.found)
  notices_are = (takes.effects, takes.last, trace_of, ap (map notice_of) takes.added ∙ takes.notices)

  counts_of : AreCounts y.counts (together (started begun.first) (tally_of takes.effects takes.live))
  counts_of = takes.counted (started begun.first) begun.counts

  pub summary_is : IsSummary focus f log (summary_of y)
  summary_is = record {
    effects = takes.effects;
    last = takes.last;
    trace = trace_of;
    live = begun.first ∷ takes.live;
    all_live = (begun.at_first, takes.all_live);
    left = held_in y.layers.layers;
    all_left = subst (λ (b : Bool). AllLive b f.placed (views_of (setting_of f) takes.last) (held_in y.layers.layers)) takes.same_focus
        (live_in f y takes.last takes.state);
    entries = ap capped (sym takes.state.count);
    refused = counts_of.refused ∙ ap capped (zero-add (refused_in takes.effects));
    recognitions = counts_of.recognitions ∙ ap capped (zero-add (recognitions_in takes.effects));
    kept = kept_is y.layers.layers;
    peak = counts_of.peak;
  }

  pub refused_is : SomeRefused f log (counts_refused y)
  refused_is =
      let counted : counts_refused y ≡ nat_lt 0 (capped (refused_in takes.effects)) =
      ap (nat_lt 0) (counts_of.refused ∙ ap capped (zero-add (refused_in takes.effects))) in
      subst (SomeRefused f log) (sym counted) (refused_of f log takes.effects takes.last trace_of)

-- a summary says whether a line was refused
pub refused_by : (focus : Bool) (f : Frame) (log : List ℕ) (s : Summary) → IsSummary focus f log s → SomeRefused f log (nat_lt 0 s.refused)
refused_by focus f log s h = subst (SomeRefused f log) (sym (ap (nat_lt 0) h.refused)) (refused_of f log h.effects h.last h.trace)
