-- One turn of a round after another, and its end.
use Rattle.std.proofs.Common.{◌≡◌, ◌∙◌, ap, sym, refl, subst, inl, inr, ℕ, zero, suc, ◌+◌, ◌<◌, Bool, true, false, cond, nat_lt, List, [], ◌∷◌, ◌++◌, length, get_or, set, map}
use Rattle.std.proofs.Common.{arith, append-nil, append_assoc, true≢false, lt-ltb}
use Rattle.std.specs.Prelude.{◌||◌}
use Rattle.std.proofs.lemmas.Bool.{cases_eq, le-ltb}
use Rattle.std.proofs.lemmas.List.{length-set, get_or-set_same, get_or-set_other, get_or-map, length-map}
use Rattle.std.proofs.Math.Seq.{take-length, take-append-add}
use Rattle.crs_desk.specs.Desk.{Told, Stream}
use Rattle.crs_feeds.specs.Merged.{Pair}
use Rattle.crs_rounds.specs.declared.merged.MergedSession.{MergedSession}
use Rattle.crs_rounds.specs.declared.source.Source.{Source}
use Rattle.crs_outcomes.specs.declared.status.Status.{Status}
use Rattle.crs_rounds.specs.FeedOutcomes.{AreRead, AreWhole, FeedsOutcome, IsFront, FollowsFeeds, left_of}
use Rattle.crs_rounds.specs.FeedRounds.{pairs_before, pairs_of, first_rounds, lines_in}
use Rattle.crs_outcomes.specs.Inputs.{bytes_of, after, Opened, IsRead}
use Rattle.crs_outcomes.specs.Writing.{Says}
use Rattle.crs_outcomes.specs.Status.{ended_as}
use Rattle.crs_rounds.specs.MergedSession.{StandsBehind, feeds_of}
use Rattle.crs_rounds.specs.Opening.{HaveOpened, FailToOpen, none_taken}
use Rattle.crs_rounds.specs.PairTexts.{IsTextOfPairs, IsFeedsText, refuses_some}
use Rattle.crs_rounds.specs.Sources.{IsSourceAt, IsSourceOf, AreSourcesAt, AreAt, HaveStopped, IsSpent, source_at, taken_of, turns_before, new_source, new_sources}
use Rattle.crs_frames.specs.Frames.{Frame}
use Rattle.crs_rounds.proofs.FeedOrder.{before_next, longest_low, all_rounds}
use Rattle.crs_rounds.proofs.FeedReading.{have_written}
use Rattle.crs_rounds.proofs.FeedTurns.{turns_own, turns_done, turns_other, count_logs, count_lines, lines_is}
use Rattle.crs_outcomes.proofs.Loads.{nothing_read_of}
use Rattle.crs_rounds.proofs.SourcePlaces.{stand_new}
use Rattle.std.specs.Prelude.{take}

turns_below : (round n j : ℕ) → j < n → turns_before round n j ≡ round + 1
turns_below round n j l = let e : nat_lt j n ≡ true = lt-ltb j n l in λ i. cond (e i) (round + 1) round

turns_at_start : (round j : ℕ) → turns_before round 0 j ≡ round
turns_at_start round j = let e : nat_lt j 0 ≡ false = le-ltb j 0 (omega arith) in λ i. cond (e i) (round + 1) round

pub below_more : (k limit : ℕ) (some gave both : Bool) → both ≡ (some || gave) → (some ≡ true → k < limit) → (gave ≡ true → k < limit) → both ≡ true → k < limit
below_more k limit true gave both is h j e = h refl
below_more k limit false gave both is h j e = j (sym is ∙ e)

-- ---- inputs, whatever the desk tells

-- a source that was read at its place
pub place_is : (ss : List Source) (n : ℕ) (s d : Source) → n < length ss → s ≡ get_or ss n d → source_at ss n ≡ s
place_is [] n s d l e = absurd (omega (arith, l))
place_is (t ∷ ss) zero s d l e = sym e
place_is (t ∷ ss) (suc n) s d l e = place_is ss n s d (omega (arith, l)) e

module _ (inputs limit round n : ℕ) (ss : List Source) (a : AreSourcesAt inputs limit round n ss) where
  pub own_place : n < length ss → IsSourceAt inputs limit round (source_at ss n)
  own_place l = subst (λ k. IsSourceAt inputs limit k (source_at ss n)) (turns_own round n) (a n l)

  pub places_more : (t : Source) → n < length ss → IsSourceAt inputs limit (round + 1) t → AreSourcesAt inputs limit round (n + 1) (set ss n t)
  places_more t l p j m = elim (cases_eq j n) [
    | inl e ↦ subst (λ k. IsSourceAt inputs limit (turns_before round (n + 1) k) (source_at (set ss n t) k)) (sym e)
        (subst (λ (s : Source). IsSourceAt inputs limit (turns_before round (n + 1) n) s) (sym (get_or-set_same ss n t (new_source 0) l))
        (subst (λ k. IsSourceAt inputs limit k t) (sym (turns_done round n)) p))
    | inr d ↦ subst (λ (s : Source). IsSourceAt inputs limit (turns_before round (n + 1) j) s) (sym (get_or-set_other ss n j t (new_source 0) d))
        (subst (λ k. IsSourceAt inputs limit k (source_at ss j)) (sym (turns_other round n j d)) (a j (let e = length-set ss n t in omega (arith, m, e))))
  ]

  pub places_next : n ≡ length ss → AreSourcesAt inputs limit (round + 1) 0 ss
  places_next e j m = subst (λ k. IsSourceAt inputs limit k (source_at ss j)) (turns_below round n j (omega (arith, m, e)) ∙ sym (turns_at_start (round + 1) j)) (a j m)

new_at : (base j : ℕ) (names : List (List ℕ)) → j < length names → source_at (new_sources base names) j ≡ new_source (base + j)
new_at base j [] l = absurd (omega (arith, l))
new_at base zero (name ∷ names) l = let e : base ≡ base + 0 = omega arith in ap new_source e
new_at base (suc j) (name ∷ names) l =
    let e : base + 1 + j ≡ base + suc j = omega arith in
    new_at (base + 1) j names (omega (arith, l)) ∙ ap new_source e

pub count_new : (base : ℕ) (names : List (List ℕ)) → length (new_sources base names) ≡ length names
count_new base [] = refl
count_new base (name ∷ names) = ap suc (count_new (base + 1) names)

pub places_new : (base limit : ℕ) (names : List (List ℕ)) → AreSourcesAt (base + length names) limit 0 0 (new_sources base names)
places_new base limit names j m =
    let l : j < length names = (let e = count_new base names in omega (arith, m, e)) in
    subst (λ k. IsSourceAt (base + length names) limit k (source_at (new_sources base names) j)) (sym (turns_at_start 0 j))
    (subst (λ (s : Source). IsSourceAt (base + length names) limit 0 s) (sym (new_at base j names l)) (omega (arith, l), [], stand_new limit (base + j)))

none_at : (ls : List (List ℕ)) (n : ℕ) → get_or (none_taken ls) n 0 ≡ 0
none_at [] n = refl
none_at (log ∷ ls) zero = refl
none_at (log ∷ ls) (suc n) = none_at ls n

pub nothing_read : (base limit : ℕ) (ls : List (List ℕ)) (unopened : Type 0) → AreRead base limit unopened ls (none_taken ls) []
nothing_read base limit ls unopened = record {
  count = length-map ls (λ log. 0);
  unread = λ _. refl;
  each = λ n l. subst (λ k. IsRead (base + n) limit unopened (get_or ls n []) k []) (sym (none_at ls n)) (nothing_read_of (base + n) limit unopened (get_or ls n []));
}

module _ (f : Frame) (base limit : ℕ) (old : Told) (names : List (List ℕ)) where
  abbrev logs : List (List ℕ)
  logs = map (bytes_of old) names

  -- ---- the end of a round

  pub round_end : (round n : ℕ) (ss : List Source) (x : MergedSession) (out : List ℕ) (now : Told) → n ≡ length names → AreAt f base limit old names round n ss x out now
      → AreAt f base limit old names (round + 1) 0 ss x out now
  round_end round n ss x out now e a =
      let same : pairs_before round n (lines_in logs) ≡ pairs_before (round + 1) 0 (lines_in logs) =
      before_next round n (lines_in logs) (e ∙ sym (count_lines f base limit old names)) in
      record {
        count = a.count;
        turns = a.turns;
        read = a.read;
        sources = λ j m. subst (λ k. IsSourceOf base limit k a.turns j (get_or logs j []) (source_at ss j))
            (turns_below round n j (omega (arith, m, e)) ∙ sym (turns_at_start (round + 1) j)) (a.sources j m);
        state = subst (StandsBehind f x) same a.state;
        feeds = a.feeds;
        written = a.written;
        is_text = subst (λ (ps : List Pair). IsTextOfPairs f (length logs) ps (a.written ++ out)) same a.is_text;
        written_is = a.written_is;
        refused = a.refused ∙ ap (refuses_some f (length names)) same;
      }

  -- those that have no line left
  AllSpent : ℕ → ℕ → List Source → Type 0
  AllSpent round n ss = (j : ℕ) → j < n → IsSpent round (get_or logs j []) (source_at ss j)

  spent_by : (b c : Bool) → (b || c) ≡ false → (b ≡ false) × (c ≡ false)
  spent_by true c e = absurd (true≢false e)
  spent_by false c e = (refl, e)

  pub spent_more : (round n : ℕ) (ss : List Source) (t : Source) (some gave both : Bool) → n < length ss → both ≡ (some || gave)
      → (some ≡ false → (j : ℕ) → j < n → IsSpent round (get_or logs j []) (source_at ss j))
      → (gave ≡ false → IsSpent round (get_or logs n []) (source_at (set ss n t) n))
      → both ≡ false → (j : ℕ) → j < n + 1 → IsSpent round (get_or logs j []) (source_at (set ss n t) j)
  spent_more round n ss t some gave both l is h k e j m =
      let q = spent_by some gave (sym is ∙ e) in
      elim (cases_eq j n) [
        | inl z ↦ subst (λ i. IsSpent round (get_or logs i []) (source_at (set ss n t) i)) (sym z) (k q.1)
        | inr d ↦ subst (IsSpent round (get_or logs j [])) (sym (get_or-set_other ss n j t (new_source 0) d)) (h q.0 j (ne_below j n m d))
      ]
    where
      ne_below : (j n : ℕ) → j < n + 1 → (j ≡ n → ⊥) → j < n
      ne_below j n m d = elim (cases_eq j n) [ inl e ↦ absurd (d e) | inr k ↦ grind arith ]

  -- ---- the end of all logs

  module _ (round : ℕ) (ss : List Source) (x : MergedSession) (out : List ℕ) (now : Told) (a : AreAt f base limit old names (round + 1) 0 ss x out now)
      (spent : (j : ℕ) → j < length names → IsSpent round (get_or logs j []) (source_at ss j)) where
    all_pairs : pairs_before (round + 1) 0 (lines_in logs) ≡ pairs_of (lines_in logs)
    all_pairs =
        append-nil (first_rounds (round + 1) (lines_in logs))
        ∙ all_rounds (round + 1) (lines_in logs)
        (longest_low (round + 1) (lines_in logs) (λ n l.
        let m : n < length names = (let c = count_lines f base limit old names in omega (arith, l, c)) in
        let s = (spent n m).few in
        let e = ap length (lines_is f base limit old names n m) in omega (arith, s, e)))

    feeds_text : IsFeedsText f logs (a.written ++ out)
    feeds_text = subst (λ (ps : List Pair). IsTextOfPairs f (length logs) ps (a.written ++ out)) all_pairs a.is_text

    whole : AreWhole limit logs (taken_of ss)
    whole n l =
        let m : n < length names = (let c = count_logs f base limit old names in omega (arith, l, c)) in
        let w = (a.sources n m).whole (spent n m).finished in
        let e : get_or (taken_of ss) n 0 ≡ (source_at ss n).taken = get_or-map (λ (s : Source). s.taken) ss n (new_source 0) 0 (let c = a.count in omega (arith, m, c)) in
        (e ∙ w.0, subst (λ k. k < limit) (sym e) w.1)

    refused_is : x.refused ≡ refuses_some f (length logs) (pairs_of (lines_in logs))
    refused_is = a.refused ∙ (λ i. refuses_some f (sym (count_logs f base limit old names) i) (all_pairs i))

    done_by : (refused : Bool) → refused ≡ refuses_some f (length logs) (pairs_of (lines_in logs)) → (new : List ℕ) → new ≡ old.written ++ (a.written ++ out)
        → FeedsOutcome f logs limit (taken_of ss) old.written (ended_as refused) new
    done_by true e new w = (whole, (a.written ++ out, feeds_text, w), sym e)
    done_by false e new w = (whole, (a.written ++ out, feeds_text, w), sym e)

    front : (k : ℕ) (new : List ℕ) → new ≡ now.written ++ take k out → IsFront f logs old.written new
    front k new w = (
      round + 1,
      0,
      (
        a.written ++ out,
        length a.written + k,
        a.is_text,
        w ∙ (λ i. a.written_is i ++ take k out) ∙ append_assoc old.written a.written (take k out)
            ∙ ap (λ (t : List ℕ). old.written ++ t) (sym (take-append-add a.written out k)),
      ),
    )

    -- what is pending is written
    pub ends : (status : Status) (new : Told) → Says (ended_as x.refused) now out status new → HaveStopped f base limit old names ss status new
    ends status new (inl h) = record {
      turns = a.turns;
      read = have_written f base limit old names (taken_of ss) a.turns now new out (length out) a.read h.1;
      outcome = subst (λ (s : Status). FeedsOutcome f logs limit (taken_of ss) old.written s new.written) (sym h.0)
          (done_by x.refused refused_is new.written
          (h.1.written ∙ (λ i. a.written_is i ++ take-length out i) ∙ append_assoc old.written a.written out));
    }
    ends status new (inr h) = record {
      turns = a.turns;
      read = have_written f base limit old names (taken_of ss) a.turns now new out h.1.0 a.read h.1.1;
      outcome = elim h.0 [
        | inl e ↦ subst (λ (s : Status). FeedsOutcome f logs limit (taken_of ss) old.written s new.written) (sym e) (front h.1.0 new.written h.1.1.written)
        | inr e ↦ subst (λ (s : Status). FeedsOutcome f logs limit (taken_of ss) old.written s new.written) (sym e) (front h.1.0 new.written h.1.1.written)
      ];
    }

  -- ---- the start

  left_none : (ns : List (List ℕ)) → map (λ name. after (bytes_of old name) 0) ns ≡ left_of (map (bytes_of old) ns) (none_taken (map (bytes_of old) ns))
  left_none [] = refl
  left_none (name ∷ ns) = ap (λ (ss : List Stream). after (bytes_of old name) 0 ∷ ss) (left_none ns)

  taken_none : (i : ℕ) (ns : List (List ℕ)) → none_taken (map (bytes_of old) ns) ≡ taken_of (new_sources i ns)
  taken_none i [] = refl
  taken_none i (name ∷ ns) = ap (λ (ts : List ℕ). 0 ∷ ts) (taken_none (i + 1) ns)

  pub at_first : (x : MergedSession) (new : Told) → length old.left ≡ base → HaveOpened old names new → StandsBehind f x [] → feeds_of x ≡ length names → x.refused ≡ false
      → AreAt f base limit old names 0 0 (new_sources base names) x [] new
  at_first x new is o r feeds clean = record {
    count = count_new base names;
    turns = [];
    read = record {
      base_is = is;
      files = o.files;
      opened = o.opened;
      left = o.left ∙ ap (λ (ss : List Stream). old.left ++ ss) (left_none names ∙ ap (left_of logs) (taken_none base names));
      turns_are = o.turns ∙ sym (append-nil old.turns);
      read = subst (λ (ts : List ℕ). AreRead base limit ⊥ logs ts []) (taken_none base names) (nothing_read base limit logs ⊥);
      prompt = tt;
    };
    sources = λ j m. subst (λ k. IsSourceOf base limit k [] j (get_or logs j []) (source_at (new_sources base names) j)) (sym (turns_at_start 0 j))
        (subst (IsSourceOf base limit 0 [] j (get_or logs j [])) (sym (new_at base j names m))
        (record { input = refl; stands = stand_new limit (base + j); whole = λ q. absurd (true≢false (sym q)); rises = λ q. omega arith }));
    state = r;
    feeds = feeds;
    written = [];
    is_text = refl;
    written_is = o.written ∙ sym (append-nil old.written);
    refused = clean;
  }

  -- ---- the call over logs

  pub follow_stopped : (now : ℕ) (ss : List Source) (status : Status) (new : Told) → now ≡ base + length names → HaveStopped f base limit old names ss status new
      → FollowsFeeds base now f limit old names status new
  follow_stopped now ss status new count h = (
    length names,
    length names,
    taken_of ss,
    h.turns,
    record {
      did = record {
        files = h.read.files;
        few = omega arith;
        opened = h.read.opened ∙ ap (λ (ns : List (List ℕ)). old.opened ++ ns) (sym (take-length names));
        least = omega arith;
        most = omega arith;
        counted = count;
        left = h.read.left ∙ ap (λ (ss : List Stream). old.left ++ ss) (sym (take_left logs (taken_of ss) (length names) (sym (count_logs f base limit old names))));
        turns = h.read.turns_are;
      };
      read = record {
        count = h.read.read.count;
        unread = λ z. absurd (omega (arith, z));
        each = λ n l. let k = h.read.read.each n l in
            record { unread = λ z. absurd (omega (arith, z)); within = k.within; most = k.most; rises = k.rises; rooms = k.rooms };
      };
      failed = λ z. absurd (omega (arith, z));
      prompt = h.read.prompt;
      outcome = inr (refl, h.outcome);
    },
  )
    where
      left_long : (ls : List (List ℕ)) (ts : List ℕ) → length (left_of ls ts) ≡ length ls
      left_long [] ts = refl
      left_long (log ∷ ls) [] = ap suc (left_long ls [])
      left_long (log ∷ ls) (t ∷ ts) = ap suc (left_long ls ts)

      take_left : (ls : List (List ℕ)) (ts : List ℕ) (n : ℕ) → n ≡ length ls → take n (left_of ls ts) ≡ left_of ls ts
      take_left ls ts n e = ap (λ k. take k (left_of ls ts)) (e ∙ sym (left_long ls ts)) ∙ take-length (left_of ls ts)

  pub follow_unopened : (now n i : ℕ) (status : Status) (new : Told) → FailToOpen base now old names n i status new → FollowsFeeds base now f limit old names status new
  follow_unopened now n i status new h = (
    n,
    i,
    none_taken logs,
    [],
    record {
      did = subst (λ (ss : List Stream). Opened base now old names ss n i [] new) (left_none names) h.did;
      read = nothing_read base limit logs (i < length names);
      failed = h.failed;
      prompt = tt;
      outcome = inl (h.cause, h.written);
    },
  )
