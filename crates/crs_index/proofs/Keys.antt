-- Lemmas on keys that are compared.
use Rattle.std.proofs.Common.{◌≡◌, ◌⊎◌, inl, inr, refl, sym, ap, subst, ◌∙◌, Bool, true, false, true≢false}
use Rattle.std.specs.Prelude.{◌≢◌}
use Rattle.std.specs.Ordering.{nat_cmp, ordering_then, is_eq}
use Rattle.std.specs.Cmp.{IsTotalOrder}
use Rattle.std.specs.declared.cmp.Ordering.{Ordering}
use Rattle.std.specs.declared.cmp.Ordering.TheVariants.{Less, Equal, Greater}
use Rattle.std.proofs.lemmas.Cmp.{nat_cmp_total, on_total, then_total, tied_itself}
use Rattle.std.proofs.lemmas.Map.Lookups.{exact_unsigned}
use Rattle.crs_index.specs.declared.key.Key.{Key}
use Rattle.crs_index.specs.KeyNumbers.{compare_keys, is_key}

keys_total : IsTotalOrder compare_keys
keys_total = then_total (on_total (λ k. k.class) nat_cmp_total) (then_total (on_total (λ k. k.first) nat_cmp_total) (then_total (on_total (λ k. k.second) nat_cmp_total) (on_total (λ k. k.third) nat_cmp_total)))

equal_of : (o : Ordering) → is_eq o ≡ true → o ≡ Equal
equal_of Less h = absurd (cc)
equal_of Equal h = refl
equal_of Greater h = absurd (cc)

both_equal : (r s : Ordering) → ordering_then r s ≡ Equal → (r ≡ Equal) × (s ≡ Equal)
both_equal Less s h = absurd (cc)
both_equal Equal s h = (refl, h)
both_equal Greater s h = absurd (cc)

pub key_from : (k q : Key) → k.class ≡ q.class → k.first ≡ q.first → k.second ≡ q.second → k.third ≡ q.third → k ≡ q
key_from k q c f s t = λ i. record { class = c i; first = f i; second = s i; third = t i }

is_key-true : (k q : Key) → is_key k q ≡ true → k ≡ q
is_key-true k q e =
    let third = nat_cmp k.third q.third in
    let second = ordering_then (nat_cmp k.second q.second) third in
    let a = both_equal (nat_cmp k.class q.class) (ordering_then (nat_cmp k.first q.first) second) (equal_of (compare_keys k q) e) in
    let b = both_equal (nat_cmp k.first q.first) second a.1 in
    let d = both_equal (nat_cmp k.second q.second) third b.1 in key_from k q (exact_unsigned k.class q.class a.0)
    (exact_unsigned k.first q.first b.0) (exact_unsigned k.second q.second d.0) (exact_unsigned k.third q.third d.1)

is_key-from : (k q : Key) → k ≡ q → is_key k q ≡ true
is_key-from k q e = subst (λ (x : Key). is_key k x ≡ true) e (ap is_eq (tied_itself keys_total k))

key_by : (k q : Key) (b : Bool) → is_key k q ≡ b → (k ≡ q) ⊎ (is_key k q ≡ false)
key_by k q true e = inl (is_key-true k q e)
key_by k q false e = inr e

pub key_or_not : (k q : Key) → (k ≡ q) ⊎ (is_key k q ≡ false)
key_or_not k q = key_by k q (is_key k q) refl

pub apart_from : (k q : Key) → is_key k q ≡ false → k ≢ q
apart_from k q f = λ e. true≢false (sym (is_key-from k q e) ∙ f)
