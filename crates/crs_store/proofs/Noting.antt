-- Places that are noted, and handles that wait.
use Rattle.std.proofs.Common.{◌≡◌, ◌≢◌, ◌⊎◌, ℕ, zero, suc, ◌<◌, ◌≤◌, ◌+◌, List, [], ◌∷◌, ◌++◌, length, take, get_or, refl, sym, ap, subst, ◌∙◌, inl, inr, arith, true, nat_eq}
use Rattle.std.specs.Prelude.{slice_index_or, slice_get, IfSome}
use Rattle.std.specs.declared.option.Option.{Option}
use Rattle.std.specs.declared.option.Option.TheVariants.{None, Some}
use Rattle.std.proofs.lemmas.Bool.{cases_eq, cases_lt, lt-ltb}
use Rattle.std.proofs.lemmas.Bool.Decides.{nat_tests}
use Rattle.std.proofs.lemmas.List.{take_more, take_all}
use Rattle.crs_base.specs.Words.{IsIn}
use Rattle.crs_base.proofs.Words.{in_append, in_filter}
use Rattle.crs_agenda.specs.declared.timed.Handle.{Handle}
use Rattle.crs_agenda.specs.Freshness.{is_fresh}
use Rattle.crs_index.specs.declared.key.Key.{Key}
use Rattle.crs_index.specs.Indexes.{IndexState, Cleans, Sweeps, bucket_of, bucket_at, number_of, handles_at}
use Rattle.crs_base.specs.declared.symbols.Sym.{Sym}
use Rattle.crs_base.specs.Entry.{Entry}
use Rattle.crs_model.specs.declared.plan.Plan.{Plan}
use Rattle.crs_model.specs.Models.{Window}
use Rattle.crs_model.specs.Plans.{chronicle}
use Rattle.crs_waiting.specs.declared.hooks.Hook.{Hook}
use Rattle.crs_waiting.specs.Hooks.{Waits, KeepsFresh, key_with, picked_arguments}
use Rattle.crs_waiting.specs.Links.{hook_at}
use Rattle.crs_store.specs.Waiters.{HasWaiting, HasTouchedAt, HasTouched}
use Rattle.crs_waiting.specs.Refusing.{Refuses}
use Rattle.crs_living.specs.Slots.{SlotsState, handle_at}

-- ---- what is fresh

pub fresh_at : (serials : List ℕ) (p : ℕ) → p < length serials → is_fresh serials (record { place = p; serial = slice_index_or serials p 0 }) ≡ true
fresh_at serials p l = rw (lt-ltb p (length serials) l) (same (slice_index_or serials p 0))
  where
    same : (n : ℕ) → nat_eq n n ≡ true
    same n = grind (arith, nat_tests)

number_or_not : (o : Option ℕ) (n : ℕ) → (o ≡ Some n) ⊎ (o ≢ Some n)
number_or_not None n = inr (λ e. cc)
number_or_not (Some m) n = elim (cases_eq m n) [ inl e ↦ inl (ap Some e) | inr ne ↦ inr (λ e. ne (cc)) ]

pub cleans_keep : (old new : IndexState) (n : ℕ) (serials : List ℕ) → Cleans old new n serials → KeepsFresh serials old new
cleans_keep old new n serials c k h f i = elim (number_or_not (number_of old k) n) [
  | inl own ↦ subst (λ (l : List Handle). IsIn h l) (sym (c.own_key k own)) (in_filter (is_fresh serials) (bucket_of old k) h i f)
  | inr other ↦ subst (λ (l : List Handle). IsIn h l) (sym (c.other_keys k other)) i
]

pub sweeps_keep : (old new : IndexState) (serials : List ℕ) → Sweeps old new serials → KeepsFresh serials old new
sweeps_keep old new serials s k h f i = subst (λ (l : List Handle). IsIn h l) (sym (s k)) (in_filter (is_fresh serials) (bucket_of old k) h i f)

pub in_bucket : (s : IndexState) (k : Key) (n : ℕ) (h : Handle) → number_of s k ≡ Some n → Waits s k h → IsIn h (bucket_at s.buckets n)
in_bucket s k n h e i = subst (λ (o : Option ℕ). IsIn h (handles_at s.buckets o)) e i

-- ---- the handles of a bucket, one after another

pub record AreNoted (handles : List Handle) (old new : List ℕ) : Type 0 where
  pub noted : (h : Handle) → IsIn h handles → IsIn h.place new
  pub kept : (p : ℕ) → IsIn p old → IsIn p new

pub noted_more : (handles : List Handle) (k : ℕ) (h : Handle) (old now new : List ℕ) → k < length handles → h ≡ get_or handles k h → AreNoted (take k handles) old now → IsIn h.place new → ((p : ℕ) → IsIn p now → IsIn p new) → AreNoted (take (k + 1) handles) old new
noted_more handles k h old now new l e a i keeps = record {
  noted = λ g j. elim (in_append (take k handles) (h ∷ []) g (subst (λ (t : List Handle). IsIn g t) (take_more handles k h l ∙ ap (λ (t : Handle). take k handles ++ t ∷ []) (sym e)) j)) [
    | inl b ↦ keeps g.place (a.noted g b)
    | inr s ↦ elim s [ inl e ↦ subst (λ (t : Handle). IsIn t.place new) (sym e) i | inr never ↦ absurd never ]
  ];
  kept = λ p j. keeps p (a.kept p j);
}

pub noted_none : (old : List ℕ) → AreNoted [] old old
noted_none old = record { noted = λ h i. absurd i; kept = λ p i. i }

pub noted_whole : (handles : List Handle) (k : ℕ) (old new : List ℕ) → length handles ≤ k → AreNoted (take k handles) old new → AreNoted handles old new
noted_whole handles k old new l a = subst (λ (t : List Handle). AreNoted t old new) (take_all k handles l) a

-- what waits in a place is noted with its bucket
pub waits_noted : (slots : SlotsState) (old new : IndexState) (n : ℕ) (key : Key) → number_of old key ≡ Some n → Cleans old new n slots.serials → (handles : List Handle) → handles ≡ bucket_at new.buckets n → (was places : List ℕ) → AreNoted handles was places →
    (p : ℕ) → is_fresh slots.serials (handle_at slots p) ≡ true → Waits old key (handle_at slots p) → IsIn p places
waits_noted slots old new n key numbered cleans handles are was places noted p fresh w =
    noted.noted (handle_at slots p) (subst (λ (t : List Handle). IsIn (handle_at slots p) t) (sym are)
    (in_bucket new key n (handle_at slots p) (cleans.numbers key ∙ numbered) (cleans_keep old new n slots.serials cleans key (handle_at slots p) fresh w)))

pub get_any : {A : Type 0} (xs : List A) (k : ℕ) (d e : A) → k < length xs → get_or xs k d ≡ get_or xs k e
get_any [] k d e l = absurd (omega arith)
get_any (x ∷ xs) zero d e l = refl
get_any (x ∷ xs) (suc k) d e l = get_any xs k d e (omega arith)

pub noted_next : (handles : List Handle) (k : ℕ) (d : Handle) (old now new : List ℕ) → k < length handles → AreNoted (take k handles) old now → IsIn (get_or handles k d).place new → ((p : ℕ) → IsIn p now → IsIn p new) → AreNoted (take (k + 1) handles) old new
noted_next handles k d old now new l a i keeps = noted_more handles k (get_or handles k d) old now new l (get_any handles k d (get_or handles k d) l) a i keeps

-- ---- the hooks of windows

-- what waits in the first index does so in the second, so its places are among those
pub waiting_of : (slots : SlotsState) (old now : IndexState) (c : ℕ) (hook : Hook) (x : Entry Sym) (places : List ℕ) → KeepsFresh slots.serials old now → HasWaiting slots now c hook x places → HasWaiting slots old c hook x places
waiting_of slots old now c hook x places keeps has p fresh named w = has p fresh named (keeps (key_with c (picked_arguments hook x.args)) (handle_at slots p) fresh w)

-- ---- the windows, one after another

module _ (plan : Plan) (hooks : List Hook) (slots : SlotsState) (x : Entry Sym) where
  -- among more places
  touched_at : (index : IndexState) (k : ℕ) (places more : List ℕ) → ((p : ℕ) → IsIn p places → IsIn p more) → HasTouchedAt plan hooks slots index x k places → HasTouchedAt plan hooks slots index x k more
  touched_at index k places more kept = by (slice_get (chronicle plan).windows k)
    where
      by : (o : Option (Window Sym)) → IfSome o (λ w. Refuses w.body x ⊎ HasWaiting slots index (16 + k) (hook_at hooks k) x places) → IfSome o (λ w. Refuses w.body x ⊎ HasWaiting slots index (16 + k) (hook_at hooks k) x more)
      by None h = tt
      by (Some w) (inl r) = inl r
      by (Some w) (inr h) = inr (λ p fresh named u. kept p (h p fresh named u))

  pub touched_within : (index : IndexState) (n : ℕ) (places more : List ℕ) → ((p : ℕ) → IsIn p places → IsIn p more) → HasTouched plan hooks slots index x n places → HasTouched plan hooks slots index x n more
  touched_within index n places more kept has k l = touched_at index k places more kept (has k l)

  touched_before : (old now : IndexState) (k : ℕ) (places : List ℕ) → KeepsFresh slots.serials old now → HasTouchedAt plan hooks slots now x k places → HasTouchedAt plan hooks slots old x k places
  touched_before old now k places keeps = by (slice_get (chronicle plan).windows k)
    where
      by : (o : Option (Window Sym)) → IfSome o (λ w. Refuses w.body x ⊎ HasWaiting slots now (16 + k) (hook_at hooks k) x places) → IfSome o (λ w. Refuses w.body x ⊎ HasWaiting slots old (16 + k) (hook_at hooks k) x places)
      by None h = tt
      by (Some w) (inl r) = inl r
      by (Some w) (inr h) = inr (waiting_of slots old now (16 + k) (hook_at hooks k) x places keeps h)

  -- the entry is of another name than the window's hook
  pub other_touched : (index : IndexState) (k : ℕ) (places : List ℕ) → ((hook_at hooks k).name ≡ x.name → ⊥) → HasTouchedAt plan hooks slots index x k places
  other_touched index k places other = by (slice_get (chronicle plan).windows k)
    where
      by : (o : Option (Window Sym)) → IfSome o (λ w. Refuses w.body x ⊎ HasWaiting slots index (16 + k) (hook_at hooks k) x places)
      by None = tt
      by (Some w) = inr (λ p fresh named u. absurd (other named))

  -- the window refuses it
  pub refused_touched : (index : IndexState) (k : ℕ) (places : List ℕ) (w : Window Sym) → slice_get (chronicle plan).windows k ≡ Some w → Refuses w.body x → HasTouchedAt plan hooks slots index x k places
  refused_touched index k places w is r = by (slice_get (chronicle plan).windows k) is
    where
      by : (o : Option (Window Sym)) → o ≡ Some w → IfSome o (λ w. Refuses w.body x ⊎ HasWaiting slots index (16 + k) (hook_at hooks k) x places)
      by None e = cc
      by (Some v) e = let s : w ≡ v = cc in inl (subst (λ (t : Window Sym). Refuses t.body x) s r)

  -- all that wait for it are noted
  pub noted_touched : (index : IndexState) (k : ℕ) (places : List ℕ) → HasWaiting slots index (16 + k) (hook_at hooks k) x places → HasTouchedAt plan hooks slots index x k places
  noted_touched index k places h = by (slice_get (chronicle plan).windows k)
    where
      by : (o : Option (Window Sym)) → IfSome o (λ w. Refuses w.body x ⊎ HasWaiting slots index (16 + k) (hook_at hooks k) x places)
      by None = tt
      by (Some w) = inr h

  -- the first n windows
  pub record AreTouched (n : ℕ) (old now : IndexState) (was places : List ℕ) : Type 0 where
    pub fresh : KeepsFresh slots.serials old now
    pub kept : (p : ℕ) → IsIn p was → IsIn p places
    pub noted : HasTouched plan hooks slots old x n places

  pub touched_none : (old : IndexState) (was : List ℕ) → AreTouched 0 old old was was
  touched_none old was = record { fresh = λ k h f i. i; kept = λ p i. i; noted = λ k l. absurd (omega arith) }

  pub touched_more : (n : ℕ) (old now next : IndexState) (was places more : List ℕ) → AreTouched n old now was places → KeepsFresh slots.serials now next → ((p : ℕ) → IsIn p places → IsIn p more) → HasTouchedAt plan hooks slots now x n more → AreTouched (n + 1) old next was more
  touched_more n old now next was places more a keeps kept has = record {
    fresh = λ k h f i. keeps k h f (a.fresh k h f i);
    kept = λ p i. kept p (a.kept p i);
    noted = λ k l. elim (cases_lt k n) [
      | inl b ↦ touched_at old k places more kept (a.noted k b)
      | inr b ↦ subst (λ (j : ℕ). HasTouchedAt plan hooks slots old x j more) (omega arith) (touched_before old now n more a.fresh has)
    ];
  }
