-- The key order of entries.
use Rattle.std.proofs.Common.{◌≡◌, ℕ, ◌≤◌, ◌<◌, ◌==◌, Bool, cond, List, refl, ap, arith}
use Rattle.std.specs.Cmp.{IsTotalOrder}
use Rattle.std.specs.Ordering.{MatchOrdering, nat_cmp, ordering_then}
use Rattle.std.specs.Cmp.Lexicographic.{slice_cmp}
use Rattle.std.specs.declared.cmp.Ordering.{Ordering}
use Rattle.std.specs.declared.cmp.Ordering.TheVariants.{Less, Equal, Greater}
use Rattle.std.proofs.lemmas.Bool.{lt-ltb}
use Rattle.std.proofs.lemmas.Cmp.{ranked, nat_cmp_total, on_total, then_total, nat_list_cmp_total}
use Rattle.std.proofs.lemmas.Map.Lookups.{exact_unsigned, exact_bytes}
use Rattle.crs_base.specs.Words.{Ordered}
use Rattle.crs_base.specs.Entry.{Key, key_cmp, Entry, entry_cmp, IsInKeyOrder}
use Rattle.crs_base.proofs.Words.{ordered_to}

pub key_total : IsTotalOrder key_cmp
key_total = then_total (on_total (λ k. k.date) nat_cmp_total) (then_total (on_total (λ k. k.text) nat_list_cmp_total) (on_total (λ k. k.arrival) nat_cmp_total))

pub entry_total : {S : Type 0} → IsTotalOrder (entry_cmp {S = S})
entry_total = on_total (λ e. record { date = e.date; text = e.text; arrival = e.arrival }) key_total

-- both tie where the first and then the second does
pub both_tie : (r s : Ordering) → ordering_then r s ≡ Equal → (r ≡ Equal) × (s ≡ Equal)
both_tie Less s h = absurd (cc)
both_tie Equal s h = (refl, h)
both_tie Greater s h = absurd (cc)

same_key : (j k : Key) → j.date ≡ k.date → j.text ≡ k.text → j.arrival ≡ k.arrival → j ≡ k
same_key j k d t a = λ i. record { date = d i; text = t i; arrival = a i }

pub key_exact : (j k : Key) → key_cmp j k ≡ Equal → j ≡ k
key_exact j k h =
    let first = both_tie (nat_cmp j.date k.date) (ordering_then (slice_cmp nat_cmp j.text k.text) (nat_cmp j.arrival k.arrival)) h in
    let rest = both_tie (slice_cmp nat_cmp j.text k.text) (nat_cmp j.arrival k.arrival) first.1 in
    (same_key j k (exact_unsigned j.date k.date first.0) (exact_bytes j.text k.text rest.0) (exact_unsigned j.arrival k.arrival rest.1))

date_by : (a b : ℕ) (o r : Ordering) → MatchOrdering o (a < b) (a ≡ b) (b < a) → ordering_then o r ≡ Less → a ≤ b
date_by a b Less r m h = omega (arith, m)
date_by a b Equal r m h = omega (arith, m)
date_by a b Greater r m h = cc

module _ {S : Type 0} where
  -- what has a lesser key isn't dated later
  pub date_of_less : (a b : Entry S) → entry_cmp a b ≡ Less → a.date ≤ b.date
  date_of_less a b h = date_by a.date b.date (nat_cmp a.date b.date) _ (ranked a.date b.date (nat_cmp a.date b.date) refl) h

  pub less_by_date : (a b : Entry S) → a.date < b.date → entry_cmp a b ≡ Less
  less_by_date a b l = ap (λ (t : Bool). ordering_then (cond t Less (cond (a.date == b.date) Equal Greater)) (ordering_then (slice_cmp nat_cmp a.text b.text) (nat_cmp a.arrival b.arrival))) (lt-ltb a.date b.date l)

  -- entries in key order are in the order of their dates
  pub in_dates : (es : List (Entry S)) → IsInKeyOrder es → Ordered (λ d e. d.date ≤ e.date) es
  in_dates es h = ordered_to (λ d e. entry_cmp d e ≡ Less) (λ d e. d.date ≤ e.date) date_of_less es h
