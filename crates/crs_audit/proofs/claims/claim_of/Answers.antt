use Rattle.std.proofs.Common.{◌≡◌, ◌<◌, ℕ, List, [], ◌∷◌, length, map, refl, sym, arith, None, Bor}
use Rattle.crs_audit.specs.Claims.{claim_in}
use Rattle.crs_audit.proofs.claims.claim_of.Goals as goal

few : (ws : List (Bor (List ℕ))) → length ws < 3 → claim_in (map (λ w. w.now) ws) ≡ None
few [] lt = refl
few (a ∷ []) lt = refl
few (a ∷ b ∷ []) lt = refl
few (a ∷ b ∷ d ∷ ws) lt = absurd (omega (arith, lt))

pub returns-in_default : goal.returns-in_default
returns-in_default c = sym (few c.args.words.now c.in_default.len_below)
