-- A reader whose input ended.
use Rattle.std.proofs.Common.{◌≡◌, ℕ, true, List, [], ◌++◌, sym, ap, ◌∙◌, append-nil}
use Rattle.std.specs.Prelude.{if◌then◌else◌}
use Rattle.crs_log.specs.Reading.{Reader, ahead, given, HasNoLine, Given}

pub nothing_ahead : (r : Reader) → r.finished ≡ true → HasNoLine r → ahead r [] ≡ []
nothing_ahead r e h = ap (λ xs. given r.limit r.number (xs ++ [])) (sym h.0 ∙ (λ i. if e i then [] else r.rest))

pub all_told : (limit : ℕ) (all rest : List ℕ) (before after : List Given) (old ended new : Reader)
    → ((more : List ℕ) → before ++ ahead old (rest ++ more) ≡ given limit 0 (all ++ more)) → rest ≡ [] → ended ≡ record old { finished = true }
    → before ++ ahead ended [] ≡ after ++ ahead new [] → new.finished ≡ ended.finished → HasNoLine new → after ≡ given limit 0 all
all_told limit all rest before after old ended new told none is took fin h =
    let closed : new.finished ≡ true = fin ∙ ap (λ r. r.finished) is in
    sym (append-nil after) ∙ ap (λ xs. after ++ xs) (sym (nothing_ahead new closed h)) ∙ sym took
    ∙ ap (λ r. before ++ ahead r []) is ∙ ap (λ xs. before ++ ahead old (xs ++ [])) (sym none) ∙ told [] ∙ ap (given limit 0) (append-nil all)
