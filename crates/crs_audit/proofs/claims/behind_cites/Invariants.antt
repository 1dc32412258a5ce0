use Rattle.std.proofs.Common.{◌≡◌, ◌≤◌, drop, map, length}
use Rattle.std.specs.Prelude.{IfSome}
use Rattle.std.specs.Option.{option_or, option_map}
use Rattle.crs_audit.specs.Claims.{behind_cites}
use Rattle.crs_audit.proofs.claims.behind_cites.Given as goal

-- the last `cites` of the words that are left, or else of those so far
abbrev pub invariant-loop-i : goal.invariant-loop-i
invariant-loop-i l = record {
  told : option_or (behind_cites (map (λ w. w.now) (drop l.i l.words))) (option_map (λ n. map (λ w. w.now) (drop n l.words)) l.place) ≡ behind_cites (map (λ w. w.now) l.words);
  within : IfSome l.place (λ n. n ≤ length l.words);
}
