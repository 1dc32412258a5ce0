-- The windows of a plan can be followed.
use Rattle.std.proofs.Common.{◌≡◌, ◌≤◌, ℕ, List, [], ◌∷◌, length, arith}
use Rattle.std.specs.List.{AllByRecursion}
use Rattle.crs_base.proofs.Words.{in_from_each}
use Rattle.crs_model.specs.declared.limits.TheConstants.{ARITY_LIMIT}
use Rattle.crs_model.specs.declared.plan.Plan.{Plan}
use Rattle.crs_model.specs.Models.{Body, NoEvent, Occurs, Hold, Window, Chronicle, Name}
use Rattle.crs_model.specs.ProperModels.{AreShort, IsProperBody, IsProperWindow}
use Rattle.crs_model.specs.Ready.{HoldsOne}
use Rattle.crs_model.specs.Plans.{chronicle, IsProper}

no_more : (n m limit : ℕ) → n ≡ m → n ≤ limit → m ≤ limit
no_more n m limit e l = omega arith

module _ {S : Type 0} (names : List (Name S)) (short : AreShort names) where
  holds_one : (n : ℕ) (b : Body S) → IsProperBody names n b → HoldsOne b
  holds_one n (NoEvent p) h = tt
  holds_one n (Occurs least most p) h = tt
  holds_one n (Hold name terms value) h =
      let d = h.0 in (
        h.2.1,
        h.2.0,
        no_more (d.0).arity (length terms) ARITY_LIMIT (d.1).arity (in_from_each (λ (x : Name S). x.arity ≤ ARITY_LIMIT) names short d.0 (d.1).among),
      )

  hold_one : (c : Chronicle S) (ws : List (Window S)) → AllByRecursion (IsProperWindow names c) ws → AllByRecursion (λ w. HoldsOne w.body) ws
  hold_one c [] h = tt
  hold_one c (w ∷ ws) h = (holds_one (length c.variables) w.body h.0.body, hold_one c ws h.1)

pub windows_hold : (p : Plan) → IsProper p → AllByRecursion (λ w. HoldsOne w.body) (chronicle p).windows
windows_hold p proper = let d = proper.declared in hold_one d.0 d.1 (chronicle p) (chronicle p).windows d.2.windows
