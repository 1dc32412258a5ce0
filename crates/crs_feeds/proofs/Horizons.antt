-- The clocks of all feeds, and their least horizon.
use Rattle.std.proofs.Common.{◌≡◌, ℕ, zero, suc, ◌-◌, ◌<◌, ◌≤◌, ◌^◌, Bool, true, false, List, [], ◌∷◌, length, get_or, set, replicate, min, max, refl, sym, ap, subst, ◌∙◌}
use Rattle.std.proofs.Common.{arith, true≢false, nat_lt, ◌==◌, Result, Ok, Some, None}
use Rattle.std.specs.Prelude.{if◌then◌else◌}
use Rattle.std.proofs.lemmas.Bool.{le-ltb, ltb-false}
use Rattle.std.specs.Prelude.{◌&&◌}
use Rattle.std.specs.List.{AllByRecursion, list_all}
use Rattle.crs_feeds.specs.declared.feed.Feed.{Feed}
use Rattle.crs_feeds.specs.Merged.{new_feed, common, clocked, closed}
use Rattle.crs_engine.specs.Engines.{EngineState}
use Rattle.crs_engine.specs.EngineRefusals.{answer_by, IsRefusedAs, accept_refusal as engine_refusal}
use Rattle.crs_engine.specs.declared.refused.Refused.{Refused}
use Rattle.crs_feeds.specs.States.{FeedsState, IsFeed, IsAt, AreFeeds, test_refusal, accept_refusal}

pub new_is_feed : IsFeed new_feed
new_is_feed = record { going = λ e. omega arith; done = λ e. absurd (true≢false (sym e)) }

pub each_new : (n : ℕ) → AllByRecursion IsFeed (replicate n new_feed)
each_new zero = tt
each_new (suc n) = (new_is_feed, each_new n)

pub common_new : (n : ℕ) → 0 < n → common (replicate n new_feed) ≡ 0
common_new zero l = omega (arith, l)
common_new (suc n) l = let k : min 0 (common (replicate n new_feed)) ≡ 0 = omega arith in k

pub length_new : (n : ℕ) → length (replicate n new_feed) ≡ n
length_new zero = refl
length_new (suc n) = ap suc (length_new n)

pub each_set : (fs : List Feed) (n : ℕ) (f : Feed) → AllByRecursion IsFeed fs → IsFeed f → AllByRecursion IsFeed (set fs n f)
each_set [] n f e k = tt
each_set (g ∷ fs) zero f e k = (k, e.1)
each_set (g ∷ fs) (suc n) f e k = (e.0, each_set fs n f e.1 k)

pub is_feed_at : (fs : List Feed) (n : ℕ) → AllByRecursion IsFeed fs → IsFeed (get_or fs n new_feed)
is_feed_at [] n e = new_is_feed
is_feed_at (f ∷ fs) zero e = e.0
is_feed_at (f ∷ fs) (suc n) e = is_feed_at fs n e.1

pub length_set : (fs : List Feed) (n : ℕ) (f : Feed) → length (set fs n f) ≡ length fs
length_set [] n f = refl
length_set (g ∷ fs) zero f = refl
length_set (g ∷ fs) (suc n) f = ap suc (length_set fs n f)

-- the common horizon isn't above any
pub common_low : (fs : List Feed) (n : ℕ) → n < length fs → common fs ≤ (get_or fs n new_feed).horizon
common_low [] n l = omega (arith, l)
common_low (f ∷ fs) zero l = let k : min f.horizon (common fs) ≤ f.horizon = omega arith in k
common_low (f ∷ fs) (suc n) l = let r = common_low fs n (omega (arith, l)) in let k : min f.horizon (common fs) ≤ common fs = omega arith in omega (arith, r, k)

-- it doesn't fall where that of one feed doesn't
pub common_up : (fs : List Feed) (n : ℕ) (f : Feed) → (get_or fs n new_feed).horizon ≤ f.horizon → common fs ≤ common (set fs n f)
common_up [] n f l = omega arith
common_up (g ∷ fs) zero f l = let k : min g.horizon (common fs) ≤ min f.horizon (common fs) = omega (arith, l) in k
common_up (g ∷ fs) (suc n) f l =
    let r = common_up fs n f l in
    let k : min g.horizon (common fs) ≤ min g.horizon (common (set fs n f)) = omega (arith, r) in k

-- it stays where that of one feed does
pub common_stays : (fs : List Feed) (n : ℕ) (f : Feed) → (get_or fs n new_feed).horizon ≡ f.horizon → common (set fs n f) ≡ common fs
common_stays [] n f e = refl
common_stays (g ∷ fs) zero f e = λ i. min (sym e i) (common fs)
common_stays (g ∷ fs) (suc n) f e = ap (min g.horizon) (common_stays fs n f e)

pub clocked_is_feed : (t : ℕ) (f : Feed) → IsFeed f → f.ended ≡ false → t < 2 ^ 40 → IsFeed (clocked t f)
clocked_is_feed t f k still l = record {
  going = λ e. let h = k.going still in let m : max f.horizon (t - f.delay) < 2 ^ 40 = omega (arith, h, l) in m;
  done = λ e. absurd (true≢false (sym e ∙ still));
}

pub closed_is_feed : (f : Feed) → IsFeed (closed f)
closed_is_feed f = record { going = λ e. absurd (true≢false e); done = λ e. refl }

pub delayed_is_feed : (d : ℕ) (f : Feed) → IsFeed f → IsFeed (record f { delay = d })
delayed_is_feed d f k = record { going = k.going; done = k.done }

pub low_feed : (f : Feed) → IsFeed f → f.horizon ≤ 2 ^ 42
low_feed f k = by f.ended refl
  where
    by : (b : Bool) → f.ended ≡ b → f.horizon ≤ 2 ^ 42
    by true e = let h = k.done e in omega (arith, h)
    by false e = let h = k.going e in omega (arith, h)

-- where all have ended it is that of the end
pub common_ended : (fs : List Feed) → AllByRecursion IsFeed fs → list_all (λ f. f.ended) fs ≡ true → common fs ≡ 2 ^ 42
common_ended [] e h = refl
common_ended (f ∷ fs) e h = by f.ended refl (list_all (λ f. f.ended) fs) refl h (common_ended fs e.1)
  where
    by : (b : Bool) → f.ended ≡ b → (c : Bool) → list_all (λ f. f.ended) fs ≡ c → (b && c) ≡ true → (list_all (λ f. f.ended) fs ≡ true → common fs ≡ 2 ^ 42)
        → min f.horizon (common fs) ≡ 2 ^ 42
    by true p true q h r = let a = (e.0).done p in let b = r q in omega (arith, a, b)
    by true p false q h r = absurd (true≢false (sym h))
    by false p c q h r = absurd (true≢false (sym h))

-- and else it is a date
pub common_open : (fs : List Feed) → AllByRecursion IsFeed fs → list_all (λ f. f.ended) fs ≡ false → common fs < 2 ^ 40
common_open [] e h = absurd (true≢false h)
common_open (f ∷ fs) e h = by f.ended refl (list_all (λ f. f.ended) fs) refl h (common_open fs e.1)
  where
    by : (b : Bool) → f.ended ≡ b → (c : Bool) → list_all (λ f. f.ended) fs ≡ c → (b && c) ≡ false → (list_all (λ f. f.ended) fs ≡ false → common fs < 2 ^ 40)
        → min f.horizon (common fs) < 2 ^ 40
    by true p true q h r = absurd (true≢false h)
    by true p false q h r = let b = r q in omega (arith, b)
    by false p c q h r = let a = (e.0).going p in omega (arith, a)

-- while the engine runs, its horizon isn't above that of any feed
pub within : (s : FeedsState) (n : ℕ) → AreFeeds s → n < length s.feeds → s.engine.stopped ≡ false → s.engine.horizon ≤ (get_or s.feeds n new_feed).horizon
within s n a l r = let h = (a.at r).horizon in let c = common_low s.feeds n l in omega (arith, h, c)

-- what a call that was taken by its feed is refused as is what the engine refuses it as
refused_by : {A : Type 0} (stopped late early full : Bool) (x y z w : Refused) (result : Result A Refused)
    → Ok tt ≡ answer_by (if stopped then Some x else (if late then Some y else None)) → (stopped ≡ false → late ≡ false → early ≡ false)
    → IsRefusedAs (if stopped then Some x else (if early then Some z else (if full then Some w else None))) result
    → IsRefusedAs (if stopped then Some x else (if late then Some y else (if full then Some w else None))) result
refused_by true late early full x y z w result e l h = absurd cc
refused_by false true early full x y z w result e l h = absurd cc
refused_by false false true full x y z w result e l h = absurd (true≢false (l refl refl))
refused_by false false false full x y z w result e l h = h

pub accept_refused : {A : Type 0} (s : FeedsState) (n date : ℕ) (result : Result A Refused) → AreFeeds s → n < length s.feeds
    → Ok tt ≡ answer_by (test_refusal s (get_or s.feeds n new_feed) date) → IsRefusedAs (engine_refusal s.engine date) result
    → IsRefusedAs (accept_refusal s (get_or s.feeds n new_feed) date) result
accept_refused s n date result a l e h =
    refused_by s.engine.stopped (nat_lt date (get_or s.feeds n new_feed).horizon) (nat_lt date s.engine.horizon) (s.engine.accepted == s.engine.limit) _ _ _ _ result e
    (λ r q. le-ltb date s.engine.horizon (let w = within s n a l r in let d : (get_or s.feeds n new_feed).horizon ≤ date = ltb-false date (get_or s.feeds n new_feed).horizon q in omega (arith, w, d)))
    h

-- feeds whose clocks moved on, over an engine that followed
pub moved_on : (s : FeedsState) (e : EngineState) (n : ℕ) (f : Feed) → AreFeeds s → IsFeed f → (e.stopped ≡ false → IsAt e (common (set s.feeds n f)))
    → AreFeeds (record { engine = e; feeds = set s.feeds n f })
moved_on s e n f a k at = record {
  each = each_set s.feeds n f a.each k;
  some = subst (λ (m : ℕ). 0 < m) (sym (length_set s.feeds n f)) a.some;
  few = subst (λ (m : ℕ). m ≤ 8) (sym (length_set s.feeds n f)) a.few;
  at = at;
}

-- a feed that was read at its place
pub read_at : (fs : List Feed) (n : ℕ) (f : Feed) → n < length fs → f ≡ get_or fs n f → f ≡ get_or fs n new_feed
read_at [] n f l e = absurd (omega (arith, l))
read_at (g ∷ fs) zero f l e = e
read_at (g ∷ fs) (suc n) f l e = read_at fs n f (omega (arith, l)) e

pub held_by : (s : FeedsState) (n : ℕ) (f : Feed) → AreFeeds s → n < length s.feeds → f ≡ get_or s.feeds n f → s.engine.stopped ≡ false
    → s.engine.horizon ≤ f.horizon
held_by s n f a l e r =
    subst (λ (g : Feed). s.engine.horizon ≤ g.horizon) (sym (read_at s.feeds n f l e)) (within s n a l r)

-- the common horizon isn't before the engine's once a feed's clocks moved on
pub later_by : (s : FeedsState) (n : ℕ) (f g : Feed) → AreFeeds s → n < length s.feeds → f ≡ get_or s.feeds n f → s.engine.stopped ≡ false
    → f.horizon ≤ g.horizon → s.engine.horizon ≤ common (set s.feeds n g)
later_by s n f g a l e r up =
    let at = (a.at r).horizon in
    let grows = common_up s.feeds n g (subst (λ (d : Feed). d.horizon ≤ g.horizon) (read_at s.feeds n f l e) up) in
    omega (arith, at, grows)

pub low_at : (s : FeedsState) (n : ℕ) (f : Feed) → AreFeeds s → n < length s.feeds → f ≡ get_or s.feeds n f → f.horizon ≤ 2 ^ 42
low_at s n f a l e = low_feed f (subst IsFeed (sym (read_at s.feeds n f l e)) (is_feed_at s.feeds n a.each))

-- feeds of which one has another delay
pub delayed_on : (s : FeedsState) (n d : ℕ) (f : Feed) → AreFeeds s → n < length s.feeds → f ≡ get_or s.feeds n f
    → AreFeeds (record { engine = s.engine; feeds = set s.feeds n (record f { delay = d }) })
delayed_on s n d f a l e =
    let here = read_at s.feeds n f l e in
    let is : IsFeed (record f { delay = d }) = delayed_is_feed d f (subst IsFeed (sym here) (is_feed_at s.feeds n a.each)) in
    let stays : common (set s.feeds n (record f { delay = d })) ≡ common s.feeds = common_stays s.feeds n (record f { delay = d }) (ap (λ (g : Feed). g.horizon) (sym here)) in
    moved_on s s.engine n (record f { delay = d }) a is (λ r. subst (IsAt s.engine) (sym stays) (a.at r))

-- a date that a feed takes isn't before its horizon
in_time_by : (stopped early : Bool) (x y : Refused) → Ok tt ≡ answer_by (if stopped then Some x else (if early then Some y else None)) → early ≡ false
in_time_by true early x y e = absurd cc
in_time_by false true x y e = absurd cc
in_time_by false false x y e = refl

pub in_time : (s : FeedsState) (f : Feed) (date : ℕ) → Ok tt ≡ answer_by (test_refusal s f date) → f.horizon ≤ date
in_time s f date e = ltb-false date f.horizon (in_time_by s.engine.stopped (nat_lt date f.horizon) _ _ e)
