-- The last mark of a number, as it is kept and as the log has it.
use Rattle.std.proofs.Common.{◌≡◌, ◌∙◌, ℕ, Bool, true, false, List, [], ◌∷◌, map, refl, ap, Option, Some, None}
use Rattle.std.specs.Prelude.{◌==◌, option_map, if◌then◌else◌}
use Rattle.std.specs.Option.{option_or}
use Rattle.crs_base.specs.Entry.{Entry}
use Rattle.crs_log.specs.Recognitions.{View}
use Rattle.crs_audit.specs.declared.run.Stand.{Stand}
use Rattle.crs_audit.specs.Notes.{last_view}
use Rattle.crs_audit.specs.Runs.{stand_seen, last_numbered}

module _ (accepted : List (Entry (List ℕ))) where
  -- what recognition reads behind a mark that is kept
  abbrev pub view_seen : Stand → View
  view_seen s = (stand_seen accepted s).1

  joined : (o : Option Stand) (b : Bool) (s : Stand) → option_or (option_map view_seen o) (if b then Some (view_seen s) else None) ≡ option_map view_seen (option_or o (if b then Some s else None))
  joined None true s = refl
  joined None false s = refl
  joined (Some r) b s = refl

  pub view_is : (ss : List Stand) (n : ℕ) → last_view (map (stand_seen accepted) ss) n ≡ option_map view_seen (last_numbered ss n)
  view_is [] n = refl
  view_is (s ∷ ss) n =
      ap (λ (o : Option View). option_or o (if s.number == n then Some (view_seen s) else None)) (view_is ss n) ∙ joined (last_numbered ss n) (s.number == n) s
