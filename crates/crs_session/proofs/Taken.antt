-- One more line, and the lines that were taken.
use Rattle.std.proofs.Common.{◌≡◌, ℕ, Bool, true, List, [], ◌∷◌, ◌++◌, refl, sym, ap, subst, ◌∙◌, append-nil, append_assoc, map}
use Rattle.std.specs.List.{AllZip}
use Rattle.std.proofs.lemmas.Grind.{flat_map-append}
use Rattle.std.proofs.lemmas.List.{map-append}
use Rattle.crs_base.specs.Lines.{lines_of}
use Rattle.crs_base.proofs.Alls.{all_append}
use Rattle.crs_model.specs.declared.recognition.Recognition.{Recognition}
use Rattle.crs_log.specs.Reading.{Reader, Given, HasNoLine, given_lines, ahead, number_of}
use Rattle.crs_log.specs.Recognitions.{View}
use Rattle.crs_layers.specs.Runs.{State, Effect, IsStep, after_line}
use Rattle.crs_log.proofs.Walks.{walk_one, walk_append}
use Rattle.crs_report.specs.Listeners.{notice_of}
use Rattle.crs_session.specs.declared.session.Session.{Session}
use Rattle.crs_session.specs.declared.session.Counts.{Counts}
use Rattle.crs_session.specs.Notices.{notice_in, notices_of}
use Rattle.crs_session.specs.Session.{Represents, BringsAll, full_in}
use Rattle.crs_session.specs.Taking.{Takes}
use Rattle.crs_session.specs.Tallies.{AllLive, Counted, answers_in, views_in, tally_of}
use Rattle.crs_frames.specs.Frames.{Frame, log_setting}
use Rattle.crs_session.specs.Texts.{setting_of, effect_text, text_of}
use Rattle.crs_session.specs.Written.{Written, HasEntry, unwritten, joined}
use Rattle.crs_session.proofs.Counting.{counted_none, counted_more, tally_one, tally_append}
use Rattle.crs_frames.proofs.ShortLines.{no_rest}

-- ---- what lines bring, and then more lines

live_append : (R : List View → ℕ → Type 0) (vs ws : List (List View)) (xs ys : List ℕ) → AllZip R vs xs → AllZip R ws ys → AllZip R (vs ++ ws) (xs ++ ys)
live_append R [] ws [] ys a b = b
live_append R [] ws (x ∷ xs) ys a b = absurd a
live_append R (v ∷ vs) ws [] ys a b = absurd a
live_append R (v ∷ vs) ws (x ∷ xs) ys a b = (a.0, live_append R vs ws xs ys a.1 b)

text_append : (cite : Bool) (limit : ℕ) (es ds : List Effect) → text_of cite limit (es ++ ds) ≡ text_of cite limit es ++ text_of cite limit ds
text_append cite limit es ds = flat_map-append (effect_text cite limit) es ds

notices_append : (es ds : List Effect) → notices_of (es ++ ds) ≡ notices_of es ++ notices_of ds
notices_append es ds = ap (map notice_in) (flat_map-append (λ (e : Effect). e.answers) es ds) ∙ map-append notice_in (answers_in es) (answers_in ds)

pub takes_none : (f : Frame) (x : Session) (s : State) (out : Written) → Represents f x s → Takes f x.layers.focus x.counts x s [] out out
takes_none f x s out r = record {
  effects = [];
  last = s;
  trace = refl;
  state = r;
  same_focus = refl;
  written = sym (append-nil out.text);
  found = [];
  notices = refl;
  filled = tt;
  added = sym (append-nil out.found);
  live = [];
  all_live = tt;
  counted = counted_none x.counts;
}

takes_one : (f : Frame) (x new : Session) (s : State) (g : Given) (out more : Written) → Represents f x s
    → BringsAll x new (number_of g) (λ f s. after_line (log_setting f) (full_in f s) s.log g) out more
    → Takes f x.layers.focus x.counts new s (g ∷ []) out more
takes_one f x new s g out more r brings =
    let b = brings f s r in
    record {
      effects = b.effect ∷ [];
      last = b.next;
      trace = walk_one (IsStep (setting_of f)) s g b.effect b.next b.is;
      state = b.state;
      same_focus = b.same_focus;
      written = b.written ∙ ap (λ (t : List ℕ). out.text ++ t) (sym (append-nil (effect_text f.cite f.entries b.effect)));
      found = b.found;
      notices = b.notices ∙ ap (map notice_in) (sym (append-nil b.effect.answers));
      filled = b.filled;
      added = b.added;
      live = b.live ∷ [];
      all_live = (b.all_live, tt);
      counted = subst (Counted x.counts new.counts) (sym (tally_one b.effect b.live)) b.counted;
    }

takes_both : (f : Frame) (focus : Bool) (start : Counts) (x new : Session) (s : State) (xs ys : List Given) (out mid more : Written)
    → (t : Takes f focus start x s xs out mid) → Takes f x.layers.focus x.counts new t.last ys mid more
    → Takes f focus start new s (xs ++ ys) out more
takes_both f focus start x new s xs ys out mid more t u = record {
  effects = t.effects ++ u.effects;
  last = u.last;
  trace = walk_append (IsStep (setting_of f)) s t.last u.last xs ys t.effects u.effects t.trace u.trace;
  state = u.state;
  same_focus = u.same_focus ∙ t.same_focus;
  written = u.written ∙ ap (λ (w : List ℕ). w ++ text_of f.cite f.entries u.effects) t.written ∙ append_assoc out.text (text_of f.cite f.entries t.effects) (text_of f.cite f.entries u.effects)
      ∙ ap (λ (w : List ℕ). out.text ++ w) (sym (text_append f.cite f.entries t.effects u.effects));
  found = t.found ++ u.found;
  notices = map-append notice_of t.found u.found ∙ (λ i. t.notices i ++ u.notices i) ∙ sym (notices_append t.effects u.effects);
  filled = all_append HasEntry t.found u.found t.filled u.filled;
  added = u.added ∙ ap (λ (rs : List Recognition). rs ++ u.found) t.added ∙ append_assoc out.found t.found u.found;
  live = t.live ++ u.live;
  all_live = subst (λ (vs : List (List View)). AllZip (AllLive focus f.placed) vs (t.live ++ u.live))
      (sym (map-append (λ (e : Effect). e.now) t.effects u.effects))
      (live_append (AllLive focus f.placed) (views_in t.effects) (views_in u.effects) t.live u.live t.all_live
      (subst (λ (o : Bool). AllZip (AllLive o f.placed) (views_in u.effects) u.live) t.same_focus u.all_live));
  counted = subst (Counted start new.counts) (sym (tally_append t.effects u.effects t.live u.live))
      (counted_more start x.counts new.counts (tally_of t.effects t.live) (tally_of u.effects u.live) t.counted u.counted);
}

-- the same, written behind what was written before
takes_onto : (f : Frame) (focus : Bool) (start : Counts) (new : Session) (s : State) (ys : List Given) (a more : Written)
    → Takes f focus start new s ys unwritten more → Takes f focus start new s ys a (joined a more)
takes_onto f focus start new s ys a more u = record {
  effects = u.effects;
  last = u.last;
  trace = u.trace;
  state = u.state;
  same_focus = u.same_focus;
  written = ap (λ (t : List ℕ). a.text ++ t) u.written;
  found = u.found;
  notices = u.notices;
  filled = u.filled;
  added = ap (λ (rs : List Recognition). a.found ++ rs) u.added;
  live = u.live;
  all_live = u.all_live;
  counted = u.counted;
}

-- one more line
pub takes_more : (f : Frame) (focus : Bool) (start : Counts) (x new : Session) (s : State) (gs : List Given) (g : Given)
    (out mid more : Written)
    → Takes f focus start x s gs out mid
    → BringsAll x new (number_of g) (λ f s. after_line (log_setting f) (full_in f s) s.log g) mid more → Takes f focus start new s (gs ++ g ∷ []) out more
takes_more f focus start x new s gs g out mid more t brings =
    takes_both f focus start x new s gs (g ∷ []) out mid more t (takes_one f x new t.last g mid more t.state brings)

-- what was taken from the start, and then more
pub takes_append : (f : Frame) (focus : Bool) (start : Counts) (x new : Session) (s : State) (xs ys : List Given) (a more : Written)
    → (t : Takes f focus start x s xs unwritten a)
    → Takes f x.layers.focus x.counts new t.last ys unwritten more
    → Takes f focus start new s (xs ++ ys) unwritten (joined a more)
takes_append f focus start x new s xs ys a more t u =
    takes_both f focus start x new s xs ys unwritten a (joined a more) t (takes_onto f x.layers.focus x.counts new t.last ys a more u)

-- once the input ended and no line is held, all lines were given
pub all_given : (lines ended now : Reader) (told : List Given) → ended ≡ record lines { finished = true } → now.finished ≡ ended.finished → HasNoLine now → ahead ended [] ≡ told ++ ahead now [] → ahead lines [] ≡ told
all_given lines ended now told is same none given_is =
    let e : now.finished ≡ true = same ∙ ap (λ (r : Reader). r.finished) is in
    let r : now.rest ≡ [] = no_rest now.finished now.rest e none.0 in
    let last : ahead now [] ≡ [] = ap (λ (xs : List ℕ). given_lines now.limit now.number (lines_of (xs ++ []))) r in
    sym (ap (λ (r : Reader). ahead r []) is) ∙ given_is ∙ ap (λ (gs : List Given). told ++ gs) last ∙ append-nil told
