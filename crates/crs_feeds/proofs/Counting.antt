-- How often the entries of one feed say something, and that what lies before its horizon grows no more.
use Rattle.std.proofs.Common.{◌≡◌, ◌⊎◌, inl, inr, ℕ, ◌+◌, ◌-◌, ◌<◌, ◌≤◌, Bool, true, false, cond, List, [], ◌∷◌, ◌++◌, nat_lt, refl, sym, ap, ◌∙◌}
use Rattle.std.proofs.Common.{arith, true≢false, Option, None}
use Rattle.std.proofs.Common.{Ordering, Less, Equal, Greater}
use Rattle.std.proofs.lemmas.Bool.{ltb-false}
use Rattle.std.proofs.Math.Nat.{le-max_left}
use Rattle.crs_base.specs.Entry.{Key, Entry, key_cmp}
use Rattle.crs_base.proofs.KeyOrder.{key_exact}
use Rattle.crs_model.specs.Open.{before}
use Rattle.crs_model.proofs.Ties.{tied, said, ties}
use Rattle.crs_log.specs.Items.{Item, Delay, Clock, Finish, Happens, Event}
use Rattle.crs_log.specs.ItemOf.{What, Empty, Is, Faulty, what_of}
use Rattle.crs_log.specs.Reading.{Given, Plain, Long}
use Rattle.crs_log.specs.Known.{Verdict, Other, Named, BadArity, BadValue, known_of, entry_of_event}
use Rattle.crs_log.specs.Run.{Setting}
use Rattle.crs_feeds.specs.declared.feed.Feed.{Feed}
use Rattle.crs_feeds.specs.Merged.{clocked}
use Rattle.crs_feeds.specs.Laws.{AreFirst}
use Rattle.crs_feeds.proofs.Lone.{weight, taken, lone_item, lone_what, lone_line}

tied_apart : (z k : Key) (o : Ordering) → key_cmp z k ≡ o → z.date < k.date → tied o ≡ 0
tied_apart z k Less e l = refl
tied_apart z k Equal e l = absurd (let same : z.date ≡ k.date = ap (λ (y : Key). y.date) (key_exact z k e) in omega (arith, same, l))
tied_apart z k Greater e l = refl

-- an event that is later doesn't say it
weightless : (z : Key) (e : Event) (v : Verdict) → z.date < e.date → weight z (taken e v) ≡ 0
weightless z e Other l = refl
weightless z e BadArity l = refl
weightless z e BadValue l = refl
weightless z e (Named place) l = let k : Key = said (entry_of_event 0 e) in tied_apart z k (key_cmp z k) refl l

module _ (c : Setting) where
  -- the clocks of a feed behind these lines, and how often its entries say it
  abbrev pub lone_run : Feed → List Given → Feed
  lone_run f [] = f
  lone_run f (l ∷ ls) = lone_run (lone_line c f l).0 ls

  abbrev pub lone_count : Key → Feed → List Given → ℕ
  lone_count z f [] = 0
  lone_count z f (l ∷ ls) = weight z (lone_line c f l).1 + lone_count z (lone_line c f l).0 ls

  count_append : (z : Key) (f : Feed) (xs ys : List Given) → lone_count z f (xs ++ ys) ≡ lone_count z f xs + lone_count z (lone_run f xs) ys
  count_append z f [] ys = omega arith
  count_append z f (x ∷ xs) ys = let r = count_append z (lone_line c f x).0 xs ys in omega (arith, r)

  -- nothing more comes of this date
  abbrev Spent : Key → Feed → Type 0
  Spent z f = (f.ended ≡ true) ⊎ (z.date < f.horizon)

  -- so it stays at a line, whose event doesn't say it
  abbrev Stays : Key → Feed × Option Event → Type 0
  Stays z o = Spent z o.0 × (weight z o.1 ≡ 0)

  either : (z : Key) (b : Bool) (o p : Feed × Option Event) → Stays z o → (b ≡ false → Stays z p) → Stays z (cond b o p)
  either z true o p h k = h
  either z false o p h k = k refl

  spent_item : (z : Key) (f : Feed) (item : Item) → z.date < f.horizon → Stays z (lone_item c f item)
  spent_item z f (Delay d) l = (inr l, refl)
  spent_item z f (Clock t) l =
      either z (nat_lt t f.last) (f, None) (clocked t f, None) (inr l, refl)
      (λ _. (inr (let up = le-max_left f.horizon (t - f.delay) in omega (arith, up, l)), refl))
  spent_item z f Finish l = (inl refl, refl)
  spent_item z f (Happens e) l =
      either z (nat_lt e.date f.horizon) (f, None) (f, taken e (known_of c.names e)) (inr l, refl)
      (λ q. (inr l, weightless z e (known_of c.names e) (let d : f.horizon ≤ e.date = ltb-false e.date f.horizon q in omega (arith, d, l))))

  spent_open : (z : Key) (f : Feed) (item : Item) → Spent z f → f.ended ≡ false → Stays z (lone_item c f item)
  spent_open z f item (inl e) q = absurd (true≢false (sym e ∙ q))
  spent_open z f item (inr l) q = spent_item z f item l

  spent_what : (z : Key) (f : Feed) (w : What) → Spent z f → Stays z (lone_what c f w)
  spent_what z f Empty h = (h, refl)
  spent_what z f Faulty h = (h, refl)
  spent_what z f (Is item) h = either z f.ended (f, None) (lone_item c f item) (h, refl) (spent_open z f item h)

  spent_line : (z : Key) (f : Feed) (g : Given) → Spent z f → Stays z (lone_line c f g)
  spent_line z f (Long number) h = (h, refl)
  spent_line z f (Plain number bytes) h = spent_what z f (what_of bytes) h

  none_more : (z : Key) (f : Feed) (ls : List Given) → Spent z f → lone_count z f ls ≡ 0
  none_more z f [] h = refl
  none_more z f (l ∷ ls) h =
      let k = spent_line z f l h in
      let r = none_more z (lone_line c f l).0 ls k.0 in
      let w = k.1 in
      omega (arith, r, w)

  -- what lies before the horizon behind the first lines of a log is said as often as in all of it
  pub whole_count : (z : Key) (f : Feed) (lines log : List Given) → AreFirst lines log → z.date < (lone_run f lines).horizon
      → lone_count z f lines ≡ lone_count z f log
  whole_count z f lines log a h =
      let both = ap (lone_count z f) a.1 ∙ count_append z f lines a.0 in
      let none = none_more z (lone_run f lines) a.0 (inr h) in
      omega (arith, both, none)

-- the entries before a date say what is dated before it as often as all, and nothing else
pub ties_before : {S : Type 0} (z : Key) (h : ℕ) (xs : List (Entry S)) → ties z (before h xs) ≡ cond (nat_lt z.date h) (ties z xs) 0
ties_before z h [] = by (nat_lt z.date h)
  where
    by : (b : Bool) → ◌≡◌ {A = ℕ} 0 (cond b 0 0)
    by true = refl
    by false = refl
ties_before z h (x ∷ xs) = by (key_cmp z (said x)) refl (nat_lt x.date h) refl (nat_lt z.date h) refl (ties_before z h xs)
  where
    same : key_cmp z (said x) ≡ Equal → nat_lt z.date h ≡ nat_lt x.date h
    same e = ap (λ (y : Key). nat_lt y.date h) (key_exact z (said x) e)

    by : (o : Ordering) → key_cmp z (said x) ≡ o → (b : Bool) → nat_lt x.date h ≡ b → (d : Bool) → nat_lt z.date h ≡ d
        → ties z (before h xs) ≡ cond d (ties z xs) 0
        → ties z (cond b (x ∷ before h xs) (before h xs)) ≡ cond d (tied (key_cmp z (said x)) + ties z xs) 0
    by Less e true p true q r = let k = ap tied e in omega (arith, k, r)
    by Less e true p false q r = let k = ap tied e in omega (arith, k, r)
    by Less e false p true q r = let k = ap tied e in omega (arith, k, r)
    by Less e false p false q r = r
    by Greater e true p true q r = let k = ap tied e in omega (arith, k, r)
    by Greater e true p false q r = let k = ap tied e in omega (arith, k, r)
    by Greater e false p true q r = let k = ap tied e in omega (arith, k, r)
    by Greater e false p false q r = r
    by Equal e true p true q r = ap (λ n. tied (key_cmp z (said x)) + n) r
    by Equal e false p false q r = r
    by Equal e true p false q r = absurd (true≢false (sym p ∙ sym (same e) ∙ q))
    by Equal e false p true q r = absurd (true≢false (sym q ∙ same e ∙ p))
