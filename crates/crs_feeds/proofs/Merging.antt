-- What a merged run comes to, feed by feed.
use Rattle.std.proofs.Common.{◌≡◌, ◌≢◌, ℕ, zero, suc, ◌+◌, ◌<◌, false, cond, List, [], ◌∷◌, length, refl, sym, ap, subst, ◌∙◌}
use Rattle.std.proofs.Common.{arith, zero-add, Option, Some, None, set, slice_get, replicate, ne_eqb, eq-eqb}
use Rattle.std.specs.List.{list_any}
use Rattle.std.proofs.lemmas.Bool.{or_parts}
use Rattle.crs_base.specs.Entry.{Key}
use Rattle.crs_log.specs.Reading.{Given}
use Rattle.crs_model.proofs.Ties.{ties}
use Rattle.crs_log.specs.Run.{Setting, State, Outcome, after_line}
use Rattle.crs_log.proofs.ReadEntries.{AreAccepted}
use Rattle.crs_feeds.specs.declared.feed.Feed.{Feed}
use Rattle.crs_feeds.specs.Merged.{Merged, Pair, new_feed, seen_by, with_state, after_met, after_pair, after_pairs, outcomes, common}
use Rattle.crs_feeds.specs.Laws.{lines_from, ArePairsOf, is_out_of_room}
use Rattle.crs_feeds.proofs.Lone.{weight, lone_line, Tells, lone}
use Rattle.crs_feeds.proofs.Counting.{lone_run, lone_count, whole_count}

module _ (c : Setting) where
  -- the clocks of each feed behind its lines, and how often its entries say it; the first feed has the number n
  abbrev pub each_run : ℕ → List Feed → List Pair → List Feed
  each_run n [] ps = []
  each_run n (f ∷ fs) ps = lone_run c f (lines_from n ps) ∷ each_run (n + 1) fs ps

  abbrev pub each_count : Key → ℕ → List Feed → List Pair → ℕ
  each_count z n [] ps = 0
  each_count z n (f ∷ fs) ps = lone_count c z f (lines_from n ps) + each_count z (n + 1) fs ps

  -- a pair of another feed adds no line
  other_line : (n : ℕ) (p : Pair) (ps : List Pair) → p.feed ≢ n → lines_from n (p ∷ ps) ≡ lines_from n ps
  other_line n p ps q = ap (λ b. cond b (p.line ∷ lines_from n ps) (lines_from n ps)) (ne_eqb p.feed n q)

  own_line : (n : ℕ) (p : Pair) (ps : List Pair) → p.feed ≡ n → lines_from n (p ∷ ps) ≡ p.line ∷ lines_from n ps
  own_line n p ps q = ap (λ b. cond b (p.line ∷ lines_from n ps) (lines_from n ps)) (eq-eqb p.feed n q)

  -- a pair of none of the feeds changes nothing of them
  past_run : (n : ℕ) (fs : List Feed) (p : Pair) (ps : List Pair) → ((k : ℕ) → k < length fs → p.feed ≢ n + k) → each_run n fs (p ∷ ps) ≡ each_run n fs ps
  past_run n [] p ps q = refl
  past_run n (f ∷ fs) p ps q =
      let here = other_line n p ps (λ e. q 0 (omega arith) (omega (arith, e))) in
      let rest = past_run (n + 1) fs p ps (λ k l e. q (k + 1) (omega (arith, l)) (omega (arith, e))) in
      λ i. lone_run c f (here i) ∷ rest i

  past_count : (z : Key) (n : ℕ) (fs : List Feed) (p : Pair) (ps : List Pair) → ((k : ℕ) → k < length fs → p.feed ≢ n + k)
      → each_count z n fs (p ∷ ps) ≡ each_count z n fs ps
  past_count z n [] p ps q = refl
  past_count z n (f ∷ fs) p ps q =
      let here = other_line n p ps (λ e. q 0 (omega arith) (omega (arith, e))) in
      let rest = past_count z (n + 1) fs p ps (λ k l e. q (k + 1) (omega (arith, l)) (omega (arith, e))) in
      λ i. lone_count c z f (here i) + rest i

  -- a pair of one of the feeds is its next line
  step_run : (n j : ℕ) (fs : List Feed) (f : Feed) (p : Pair) (ps : List Pair) → p.feed ≡ n + j → slice_get fs j ≡ Some f
      → each_run n (set fs j (lone_line c f p.line).0) ps ≡ each_run n fs (p ∷ ps)
  step_run n j [] f p ps e g = absurd cc
  step_run n zero (d ∷ fs) f p ps e g =
      let same : d ≡ f = cc in
      let here : lone_run c (lone_line c f p.line).0 (lines_from n ps) ≡ lone_run c d (lines_from n (p ∷ ps)) =
      (λ i. lone_run c (sym same i) (p.line ∷ lines_from n ps)) ∙ ap (lone_run c d) (sym (own_line n p ps (omega (arith, e)))) in
      let rest = past_run (n + 1) fs p ps (λ k l q. omega (arith, e, q)) in
      λ i. here i ∷ sym rest i
  step_run n (suc j) (d ∷ fs) f p ps e g =
      let here = other_line n p ps (λ q. omega (arith, e, q)) in
      let rest = step_run (n + 1) j fs f p ps (omega (arith, e)) g in
      λ i. lone_run c d (sym here i) ∷ rest i

  step_count : (z : Key) (n j : ℕ) (fs : List Feed) (f : Feed) (p : Pair) (ps : List Pair) → p.feed ≡ n + j → slice_get fs j ≡ Some f
      → weight z (lone_line c f p.line).1 + each_count z n (set fs j (lone_line c f p.line).0) ps ≡ each_count z n fs (p ∷ ps)
  step_count z n j [] f p ps e g = absurd cc
  step_count z n zero (d ∷ fs) f p ps e g =
      let same : d ≡ f = cc in
      let here : weight z (lone_line c f p.line).1 + lone_count c z (lone_line c f p.line).0 (lines_from n ps) ≡ lone_count c z d (lines_from n (p ∷ ps)) =
      (λ i. lone_count c z (sym same i) (p.line ∷ lines_from n ps)) ∙ ap (lone_count c z d) (sym (own_line n p ps (omega (arith, e)))) in
      let rest = past_count z (n + 1) fs p ps (λ k l q. omega (arith, e, q)) in
      omega (arith, here, rest)
  step_count z n (suc j) (d ∷ fs) f p ps e g =
      let here = ap (lone_count c z d) (other_line n p ps (λ q. omega (arith, e, q))) in
      let rest = step_count z (n + 1) j fs f p ps (omega (arith, e)) g in
      omega (arith, here, rest)

  -- what a merged run comes to
  pub record Comes (m : Merged) (ps : List Pair) (after : Merged) : Type 0 where
    pub feeds : after.feeds ≡ each_run 0 m.feeds ps
    pub accepted : AreAccepted m.accepted → AreAccepted after.accepted
    pub ties : (z : Key) → ties z after.accepted ≡ ties z m.accepted + each_count z 0 m.feeds ps

  none_run : (n : ℕ) (fs : List Feed) → each_run n fs [] ≡ fs
  none_run n [] = refl
  none_run n (f ∷ fs) = ap (λ (gs : List Feed). f ∷ gs) (none_run (n + 1) fs)

  none_count : (z : Key) (n : ℕ) (fs : List Feed) → each_count z n fs [] ≡ 0
  none_count z n [] = refl
  none_count z n (f ∷ fs) = let r = none_count z (n + 1) fs in omega (arith, r)

  beyond : (fs : List Feed) (j k : ℕ) → slice_get fs j ≡ None → k < length fs → j ≢ 0 + k
  beyond [] j k g l e = omega (arith, l)
  beyond (f ∷ fs) zero k g l e = absurd cc
  beyond (f ∷ fs) (suc j) zero g l e = omega (arith, e)
  beyond (f ∷ fs) (suc j) (suc k) g l e = beyond fs j k g (omega (arith, l)) (omega (arith, e))

  pub merged : (m : Merged) (ps : List Pair) → list_any is_out_of_room (outcomes c m ps) ≡ false → Comes m ps (after_pairs c m ps)
  merged m [] r = record {
    feeds = sym (none_run 0 m.feeds);
    accepted = λ a. a;
    ties = λ z. let k = none_count z 0 m.feeds in omega (arith, k);
  }
  merged m (p ∷ ps) r = by (λ x k. merged x ps k) (slice_get m.feeds p.feed) refl
    where
      by : ((x : Merged) → list_any is_out_of_room (outcomes c x ps) ≡ false → Comes x ps (after_pairs c x ps))
          → (o : Option Feed) → slice_get m.feeds p.feed ≡ o → Comes m (p ∷ ps) (after_pairs c m (p ∷ ps))
      by on None g =
          let same : after_pair c m p ≡ after_met c m p.feed p.line None = ap (after_met c m p.feed p.line) g in
          let fine = or_parts (is_out_of_room (after_pair c m p).1) (list_any is_out_of_room (outcomes c (after_pair c m p).0 ps)) r in
          let rest = on (after_pair c m p).0 fine.1 in
          let kept : Comes m ps (after_pairs c (after_pair c m p).0 ps) =
          subst (λ (x : Merged). Comes x ps (after_pairs c (after_pair c m p).0 ps)) (ap (λ (q : Merged × Outcome). q.0) same) rest in
          record {
            feeds = kept.feeds ∙ sym (past_run 0 m.feeds p ps (λ k l. beyond m.feeds p.feed k g l));
            accepted = kept.accepted;
            ties = λ z. kept.ties z ∙ ap (λ n. ties z m.accepted + n) (sym (past_count z 0 m.feeds p ps (λ k l. beyond m.feeds p.feed k g l)));
          }
      by on (Some f) g =
          let same : after_pair c m p ≡ after_met c m p.feed p.line (Some f) = ap (after_met c m p.feed p.line) g in
          let fine = or_parts (is_out_of_room (after_pair c m p).1) (list_any is_out_of_room (outcomes c (after_pair c m p).0 ps)) r in
          let rest = on (after_pair c m p).0 fine.1 in
          let after : State × Outcome = after_line c (seen_by m f) p.line in
          let next : Merged = with_state m p.feed after.0 in
          let told : Tells c (seen_by m f) after.0 (lone_line c f p.line) =
          lone c (seen_by m f) p.line (ap (λ (q : Merged × Outcome). is_out_of_room q.1) (sym same) ∙ fine.0) in
          let kept : Comes next ps (after_pairs c (after_pair c m p).0 ps) =
          subst (λ (x : Merged). Comes x ps (after_pairs c (after_pair c m p).0 ps)) (ap (λ (q : Merged × Outcome). q.0) same) rest in
          let fed : next.feeds ≡ set m.feeds p.feed (lone_line c f p.line).0 = ap (set m.feeds p.feed) told.feed in
          let at : p.feed ≡ 0 + p.feed = sym (zero-add p.feed) in
          record {
            feeds = kept.feeds ∙ ap (λ (gs : List Feed). each_run 0 gs ps) fed ∙ step_run 0 p.feed m.feeds f p ps at g;
            accepted = λ a. kept.accepted (told.accepted a);
            ties = λ z.
                let one = kept.ties z in
                let two = told.ties z in
                let three = ap (λ (gs : List Feed). each_count z 0 gs ps) fed in
                let four = step_count z 0 p.feed m.feeds f p ps at g in
                omega (arith, one, two, three, four);
          }

  -- how often the whole logs say it
  abbrev pub total : Key → List (List Given) → ℕ
  total z [] = 0
  total z (log ∷ logs) = lone_count c z new_feed log + total z logs

  least_first : (z : Key) (f : Feed) (fs : List Feed) → z.date < common (f ∷ fs) → z.date < f.horizon
  least_first z f fs h = omega (arith, h)

  least_rest : (z : Key) (f : Feed) (fs : List Feed) → z.date < common (f ∷ fs) → z.date < common fs
  least_rest z f fs h = omega (arith, h)

  -- below the common horizon the first lines say all as often as the whole logs
  pub all_told : (z : Key) (n : ℕ) (logs : List (List Given)) (ps : List Pair) → ArePairsOf n logs ps
      → z.date < common (each_run n (replicate (length logs) new_feed) ps)
      → each_count z n (replicate (length logs) new_feed) ps ≡ total z logs
  all_told z n [] ps a h = refl
  all_told z n (log ∷ logs) ps a h =
      let f : Feed = lone_run c new_feed (lines_from n ps) in
      let fs : List Feed = each_run (n + 1) (replicate (length logs) new_feed) ps in
      let one = whole_count c z new_feed (lines_from n ps) log a.0 (least_first z f fs h) in
      let two = all_told z (n + 1) logs ps a.1 (least_rest z f fs h) in
      omega (arith, one, two)
