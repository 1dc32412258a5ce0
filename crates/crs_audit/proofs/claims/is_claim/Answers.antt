use Rattle.std.proofs.Common.{◌≡◌, ◌∙◌, ◌<◌, ◌+◌, ◌∷◌, drop, ap, sym, arith, length, take, List, ℕ}
use Rattle.std.specs.List.{prefix_len}
use Rattle.std.specs.Str.{bytes_eq}
use Rattle.crs_audit.specs.Claims.{is_inner, is_claim}
use Rattle.crs_audit.proofs.Parts.{none_second, words_cut, first_word}
use Rattle.crs_audit.proofs.claims.is_claim.Goals as goal

pub returns-then-n-bytes : goal.returns-then-n-bytes
returns-then-n-bytes c = sym (none_second c.args.bytes.now (sym c.word_len-n.ensures.value ∙ c.if-n-bytes.true))

pub returns : goal.returns
returns c =
    let bytes = c.args.bytes.now in
    let n = prefix_len is_inner bytes in
    let lt : n < length bytes = omega (arith, c.word_len-n.ensures.value, c.word_len-n.ensures.bound, c.if-n-bytes.false) in
    let behind : List ℕ = drop (n + 1) bytes in
    let same : c.split_at.result.1.now ≡ behind = c.split_at.ensures.back ∙ ap (λ k. drop (k + 1) bytes) c.word_len-n.ensures.value in
    let word : c.split_at-2.result.0.now ≡ take (prefix_len is_inner behind) behind =
    c.split_at-2.ensures.front ∙ ap (λ k. take k c.split_at.result.1.now) c.word_len.ensures.value ∙ ap (λ (bs : List ℕ). take (prefix_len is_inner bs) bs) same in
    c.eq.ensures ∙ (λ i. bytes_eq (word i) (c.as_slice.ensures i))
    ∙ sym (ap is_claim (words_cut bytes lt ∙ ap (λ ws. take n bytes ∷ ws) (first_word behind).1))
