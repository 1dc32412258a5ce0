-- Floors of histories, and the reach of the plans.
use Rattle.std.proofs.Common.{◌≡◌, ℕ, ◌≤◌, List, [], ◌∷◌, map, refl, sym, subst, ◌∙◌, inl, inr, arith}
use Rattle.std.specs.Prelude.{ℤ, pos, ◌-ℤ◌, ◌≤ℤ◌, Option, Some, None, IfSome}
use Rattle.std.specs.Int.{int_max}
use Rattle.std.specs.List.{AllByRecursion}
use Rattle.std.proofs.lemmas.Int.{ints, int_max_is}
use Rattle.crs_base.specs.declared.symbols.Sym.{Sym}
use Rattle.crs_base.specs.Words.{IsIn}
use Rattle.crs_base.specs.Entry.{Entry}
use Rattle.crs_base.proofs.Words.{in_from_each, in_map_back}
use Rattle.crs_base.proofs.Alls.{all_each}
use Rattle.crs_model.specs.declared.plan.Plan.{Plan}
use Rattle.crs_model.specs.Reach.{Bounds, IsReachOfAll, IsSmallSpan}
use Rattle.crs_history.specs.Histories.{IsFarBack}
use Rattle.crs_engine.specs.Engines.{floor_at}

far_at : (all reach : Option ℤ) (h : ℕ) → Bounds all reach → IsFarBack reach h (floor_at all h)
far_at None reach h b = inl refl
far_at (Some d) None h b = absurd b
far_at (Some d) (Some x) h b = inr (omega (arith, ints))

-- the history still goes far enough back for each plan
pub all_far_at : (all : Option ℤ) (h : ℕ) (ps : List Plan) → ((s : Option ℤ) → IsIn s (map (λ p. p.reach) ps) → Bounds all s) → AllByRecursion (λ p. IsFarBack p.reach h (floor_at all h)) ps
all_far_at all h [] b = tt
all_far_at all h (p ∷ ps) b = (far_at all p.reach h (b p.reach (inl refl)), all_far_at all h ps (λ s i. b s (inr i)))

pub floor_later : (all : Option ℤ) (g h : ℕ) (floor : ℤ) → g ≤ h → floor ≤ℤ floor_at all g → floor ≤ℤ floor_at all h
floor_later None g h floor l k = k
floor_later (Some d) g h floor l k = omega (arith, ints)

pub from_zero : (all : Option ℤ) (reaches : List (Option ℤ)) → IsReachOfAll reaches all → IfSome all (λ d. pos 0 ≤ℤ d)
from_zero None reaches is = tt
from_zero (Some d) reaches is = is.bounds (Some (pos 0)) (inl refl)

pub floor_within : (all : Option ℤ) (h : ℕ) → IfSome all (λ d. pos 0 ≤ℤ d) → floor_at all h ≤ℤ pos h
floor_within None h k = omega (arith, ints)
floor_within (Some d) h k = omega (arith, ints)

pub small_span : (all : Option ℤ) (ps : List Plan) → IsReachOfAll (map (λ p. p.reach) ps) all → AllByRecursion (λ p. IsSmallSpan p.reach) ps → IsSmallSpan all
small_span all ps is each = elim is.one [
  | inl z ↦ subst IsSmallSpan (sym z) (omega (arith, ints))
  | inr i ↦ let m = in_map_back (λ (p : Plan). p.reach) ps all i in subst IsSmallSpan (sym m.2) (in_from_each (λ p. IsSmallSpan p.reach) ps each m.0 m.1)
]

-- what waits is not before the floor
pub from_floor : (floor : ℤ) (h : ℕ) (ws : List (Entry Sym)) → floor ≤ℤ pos h → AllByRecursion (λ x. h ≤ x.date) ws → AllByRecursion (λ x. floor ≤ℤ pos x.date) ws
from_floor floor h ws k due = all_each {P = λ x. h ≤ x.date} ws (λ x l. omega (arith, ints)) due

pub raised_to : (floor date : ℤ) → floor ≤ℤ date → int_max floor date ≡ date
raised_to floor date l = omega (arith, ints, int_max_is floor date)

-- the floor once it was raised to the horizon less the reach
pub raised : (all : Option ℤ) (h : ℕ) (reach old now : ℤ) → all ≡ Some reach → now ≡ int_max old (pos h -ℤ reach) → old ≤ℤ floor_at all h → now ≡ floor_at all h
raised None h reach old now e is l = absurd cc
raised (Some d) h reach old now e is l =
    let s : d ≡ reach = cc in
    subst (λ (r : ℤ). now ≡ (pos h -ℤ r)) (sym s) (is ∙ raised_to old (pos h -ℤ reach) (subst (λ (r : ℤ). old ≤ℤ (pos h -ℤ r)) s l))

pub not_lower : (low old now z : ℤ) → low ≤ℤ old → old ≤ℤ z → now ≡ z → low ≤ℤ now
not_lower low old now z l k e = omega (arith, ints, e)
