-- What is written for one more pair, and whether some line was refused.
use Rattle.std.proofs.Common.{◌≡◌, ◌∙◌, ap, sym, refl, ℕ, Bool, true, false, List, [], ◌∷◌, ◌++◌, append-nil, append_assoc}
use Rattle.std.specs.Prelude.{◌||◌}
use Rattle.std.specs.List.{list_any}
use Rattle.crs_model.specs.Models.{Chronicle}
use Rattle.crs_log.specs.Run.{Setting}
use Rattle.crs_feeds.specs.Merged.{Merged, Pair, after_pair, after_pairs, outcomes}
use Rattle.crs_rounds.specs.PairTexts.{IsPairText, IsPairsText}
use Rattle.crs_frames.specs.Frames.{is_refused}

pub text_more : (c : Setting) (cs : List (Chronicle (List ℕ))) (m : Merged) (ps : List Pair) (p : Pair) (a b : List ℕ) → IsPairsText c cs m ps a
    → IsPairText cs p (after_pairs c m ps) (after_pair c (after_pairs c m ps) p) b → IsPairsText c cs m (ps ++ p ∷ []) (a ++ b)
text_more c cs m [] p a b h k = (b, [], k, refl, ap (λ (t : List ℕ). t ++ b) h ∙ sym (append-nil b))
text_more c cs m (q ∷ ps) p a b h k =
    (h.0, h.1 ++ b, h.2, text_more c cs (after_pair c m q).0 ps p h.1 b h.3 k, ap (λ (t : List ℕ). t ++ b) h.4 ∙ append_assoc h.0 h.1 b)

or_assoc : (a b c : Bool) → (a || (b || c)) ≡ ((a || b) || c)
or_assoc true b c = refl
or_assoc false b c = refl

or_false : (a : Bool) → (a || false) ≡ a
or_false true = refl
or_false false = refl

pub refused_more : (c : Setting) (m : Merged) (ps : List Pair) (p : Pair)
    → list_any is_refused (outcomes c m (ps ++ p ∷ [])) ≡ (list_any is_refused (outcomes c m ps) || is_refused (after_pair c (after_pairs c m ps) p).1)
refused_more c m [] p = or_false (is_refused (after_pair c m p).1)
refused_more c m (q ∷ ps) p =
    ap (λ (b : Bool). is_refused (after_pair c m q).1 || b) (refused_more c (after_pair c m q).0 ps p)
    ∙ or_assoc (is_refused (after_pair c m q).1) (list_any is_refused (outcomes c (after_pair c m q).0 ps)) (is_refused (after_pair c (after_pairs c (after_pair c m q).0 ps) p).1)
