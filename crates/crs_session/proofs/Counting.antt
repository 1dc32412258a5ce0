-- What is counted line by line is the tally of the lines.
use Rattle.std.proofs.Common.{◌≡◌, ◌≤◌, ◌∙◌, ℕ, ◌+◌, min, max, Bool, true, false, cond, List, [], ◌∷◌, ◌++◌, nat_lt, refl, sym, ap, subst, arith}
use Rattle.std.proofs.Common.{append-nil, length, length-append, filter}
use Rattle.std.specs.Prelude.{◌||◌}
use Rattle.std.specs.List.{list_any}
use Rattle.std.proofs.lemmas.Grind.{flat_map-append}
use Rattle.std.proofs.lemmas.List.Elements.{filter-append}
use Rattle.crs_layers.specs.Runs.{Effect}
use Rattle.crs_session.specs.declared.session.Counts.{Counts}
use Rattle.crs_session.specs.Tallies.{Tally, nothing, together, capped, AreCounts, Counted, with_refused, with_flood, with_mark, answers_in, refused_in, recognitions_in, peak_of, tally_of, effect_tally}
use Rattle.crs_session.specs.Texts.{has_refused}

-- ---- numbers up to a limit

capped_add : (m a b : ℕ) → min (min a m + b) m ≡ min (a + b) m
capped_add m a b = omega arith

capped_max : (m a b : ℕ) → max (min a m) (min b m) ≡ min (max a b) m
capped_max m a b = omega arith

capped_stays : (m a b : ℕ) → min b m ≤ min a m → min a m ≡ min (max a b) m
capped_stays m a b l = omega arith

-- a number is positive exactly where it is up to a limit that is
pub positive : (n : ℕ) → nat_lt 0 (capped n) ≡ nat_lt 0 n
positive n = grind arith

-- ---- tallies together

none_together : (t : Tally) → together nothing t ≡ t
none_together t = let p : max 0 t.peak ≡ t.peak = omega arith in
    let r : 0 + t.refused ≡ t.refused = omega arith in
    let k : 0 + t.recognitions ≡ t.recognitions = omega arith in
    λ i. record { refused = r i; recognitions = k i; peak = p i }

together_none : (t : Tally) → together t nothing ≡ t
together_none t = let p : max t.peak 0 ≡ t.peak = omega arith in
    let r : t.refused + 0 ≡ t.refused = omega arith in
    let k : t.recognitions + 0 ≡ t.recognitions = omega arith in
    λ i. record { refused = r i; recognitions = k i; peak = p i }

together_assoc : (a b c : Tally) → together (together a b) c ≡ together a (together b c)
together_assoc a b c =
    let p : max (max a.peak b.peak) c.peak ≡ max a.peak (max b.peak c.peak) = omega arith in
    let r : a.refused + b.refused + c.refused ≡ a.refused + (b.refused + c.refused) = omega arith in
    let k : a.recognitions + b.recognitions + c.recognitions ≡ a.recognitions + (b.recognitions + c.recognitions) = omega arith in
    λ i. record { refused = r i; recognitions = k i; peak = p i }

-- ---- counts

pub counted_none : (c : Counts) → Counted c c nothing
counted_none c t h = subst (AreCounts c) (sym (together_none t)) h

pub counted_more : (a b c : Counts) (s t : Tally) → Counted a b s → Counted b c t → Counted a c (together s t)
counted_more a b c s t j k z h = subst (AreCounts c) (together_assoc z s t) (k (together z s) (j z h))

-- n live, and no more than that was counted
abbrev pub passed : ℕ → Tally
passed n = record { refused = 0; recognitions = 0; peak = n }

pub counted_passed : (c : Counts) (n : ℕ) → capped n ≤ c.peak → Counted c c (passed n)
counted_passed c n l t h = record {
  refused = h.refused ∙ ap capped (let e : t.refused ≡ t.refused + 0 = omega arith in e);
  recognitions = h.recognitions ∙ ap capped (let e : t.recognitions ≡ t.recognitions + 0 = omega arith in e);
  peak = h.peak ∙ capped_stays _ t.peak n (subst (λ k. capped n ≤ k) h.peak l);
}

pub counted_refused : (c : Counts) (n : ℕ) → capped n ≤ c.peak → Counted c (with_refused c) (record (passed n) { refused = 1 })
counted_refused c n l t h = record {
  refused = ap (λ k. capped (k + 1)) h.refused ∙ capped_add _ t.refused 1;
  recognitions = h.recognitions ∙ ap capped (let e : t.recognitions ≡ t.recognitions + 0 = omega arith in e);
  peak = h.peak ∙ capped_stays _ t.peak n (subst (λ k. capped n ≤ k) h.peak l);
}

pub counted_mark : (c : Counts) (k n : ℕ) → Counted c (with_mark c k (capped n)) (record (passed n) { recognitions = k })
counted_mark c k n t h = record {
  refused = h.refused ∙ ap capped (let e : t.refused ≡ t.refused + 0 = omega arith in e);
  recognitions = ap (λ m. capped (m + k)) h.recognitions ∙ capped_add _ t.recognitions k;
  peak = ap (λ m. max m (capped n)) h.peak ∙ capped_max _ t.peak n;
}

-- the peak after a mark is no less than what lives then
pub peak_after : (peak n : ℕ) → capped n ≤ max peak (capped n)
peak_after peak n = by peak (capped n)
  where
    by : (a b : ℕ) → b ≤ max a b
    by a b = omega arith

-- so behind a mark of which so many recognitions are told, and at which some stratum may not have accepted all
pub counted_marked : (c : Counts) (k n : ℕ) (flood : Bool) → Counted c (with_flood flood (with_mark c k (capped n))) (record { refused = cond flood 1 0; recognitions = k; peak = n })
counted_marked c k n false = counted_mark c k n
counted_marked c k n true = λ t h.
    let a = counted_mark c k n t h in
    record { refused = ap (λ (m : ℕ). capped (m + 1)) h.refused ∙ capped_add _ t.refused 1; recognitions = a.recognitions; peak = a.peak }

-- ---- lines behind others

peak_append : (xs ys : List ℕ) → peak_of (xs ++ ys) ≡ max (peak_of xs) (peak_of ys)
peak_append [] ys = omega arith
peak_append (x ∷ xs) ys = let r = peak_append xs ys in omega (arith, r)

pub tally_append : (es ds : List Effect) (xs ys : List ℕ) → tally_of (es ++ ds) (xs ++ ys) ≡ together (tally_of es xs) (tally_of ds ys)
tally_append es ds xs ys =
    let r : refused_in (es ++ ds) ≡ refused_in es + refused_in ds =
    ap length (filter-append has_refused es ds)
    ∙ length-append (filter has_refused es) (filter has_refused ds) in
    let k : recognitions_in (es ++ ds) ≡ recognitions_in es + recognitions_in ds =
    ap length (flat_map-append (λ (e : Effect). e.answers) es ds) ∙ length-append (answers_in es) (answers_in ds) in
    let p = peak_append xs ys in
    λ i. record { refused = r i; recognitions = k i; peak = p i }

refused_one : (e : Effect) (b : Bool) → length (cond b (e ∷ []) []) ≡ cond b 1 0
refused_one e true = refl
refused_one e false = refl

pub tally_one : (e : Effect) (n : ℕ) → tally_of (e ∷ []) (n ∷ []) ≡ effect_tally e n
tally_one e n =
    let r = refused_one e (has_refused e) in
    let k : length (e.answers ++ []) ≡ length e.answers = ap length (append-nil e.answers) in
    let p : max n 0 ≡ n = omega arith in
    λ i. record { refused = r i; recognitions = k i; peak = p i }

-- ---- some line is refused exactly where their number isn't 0

some_by : (e : Effect) (es : List Effect) (b : Bool) → nat_lt 0 (length (cond b (e ∷ es) es)) ≡ (b || nat_lt 0 (length es))
some_by e es true = grind arith
some_by e es false = refl

pub some_counted : (es : List Effect) → nat_lt 0 (refused_in es) ≡ list_any has_refused es
some_counted [] = refl
some_counted (e ∷ es) =
    some_by e (filter has_refused es) (has_refused e)
    ∙ ap (λ b. has_refused e || b) (some_counted es)
