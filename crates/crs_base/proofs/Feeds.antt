-- The first line feed of a text, as a search finds it.
use Rattle.std.proofs.Common.{◌≡◌, ℕ, Bool, true, false, not, ◌==◌, List, length, get_or, sym, refl, ap, le_refl, arith}
use Rattle.std.specs.List.{prefix_len}
use Rattle.std.proofs.lemmas.List.Sums.{prefix_len_is}
use Rattle.memchr.specs.Find.{Nowhere, NoneBefore, Passes, is_byte}
use Rattle.crs_base.specs.Lines.{is_no_feed}

-- a byte that the search passes is no line feed
other : (b : Bool) → (b ≡ true → ⊥) → not b ≡ true
other true h = absurd (h refl)
other false h = refl

pub none_is : (text : List ℕ) → Nowhere (Passes (is_byte 10) text) 0 (length text) → length text ≡ prefix_len is_no_feed text
none_is text h = sym (prefix_len_is is_no_feed text (length text) 0 (le_refl (length text)) (λ k l. other (get_or text k 0 == 10) (h k (omega arith) l)) (λ l. absurd (omega (arith, l))))

pub found_is : (text : List ℕ) (n : ℕ) → NoneBefore (Passes (is_byte 10) text) 0 (length text) n → Passes (is_byte 10) text n → n ≡ prefix_len is_no_feed text
found_is text n before at = sym (prefix_len_is is_no_feed text n 0 (omega (arith, before.high)) (λ k l. other (get_or text k 0 == 10) (before.before k (omega arith) l)) (λ _. ap not at))
