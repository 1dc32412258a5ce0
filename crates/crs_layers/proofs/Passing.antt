-- The strata above one, as it gives them entries at a mark.
use Rattle.std.proofs.Common.{Bool, ℕ, suc, ◌<◌, ◌≤◌, ◌^◌, List, [], ◌∷◌, map, ap, subst, ◌∙◌, arith}
use Rattle.std.specs.List.{AllByRecursion, AllZip}
use Rattle.crs_base.specs.declared.symbols.Sym.{Sym}
use Rattle.crs_base.specs.Entry.{Entry}
use Rattle.crs_base.proofs.Alls.{all_each}
use Rattle.crs_model.specs.declared.plan.Plan.{Plan}
use Rattle.crs_engine.specs.Engines.{plans_of}
use Rattle.crs_layers.specs.Strata.{Stratum, with_given}
use Rattle.crs_layers.specs.declared.layer.Layer.{Layer}
use Rattle.crs_layers.specs.LayerPlans.{AreLayersOf}
use Rattle.crs_layers.specs.Standing.{IsLayerAt, AreLayersAt}
use Rattle.crs_layers.specs.Giving.{IsGoing, AreDue, HasTaken}
use Rattle.crs_layers.proofs.Regiven.{given_to, AreFed}

pub going_at : (g : ℕ → ℕ) (last delay j : ℕ) (ss : List (Stratum Sym)) (ls : List Layer) → AreLayersAt g last delay j ss ls → AllByRecursion IsGoing ls
going_at g last delay j [] [] k = tt
going_at g last delay j [] (l ∷ ls) k = absurd k
going_at g last delay j (s ∷ ss) [] k = absurd k
going_at g last delay j (s ∷ ss) (l ∷ ls) k = (record { running = k.0.running; few = k.0.few }, going_at g last delay (suc j) ss ls k.1)

-- what they stand for then
pub taken_at : (g : ℕ → ℕ) (last delay j : ℕ) (focus : Bool) (limit : ℕ) (ps : List Plan) (ks : List ℕ) (ys : List (Entry Sym)) (ss : List (Stratum Sym)) (ls ms : List Layer)
    → AreLayersAt g last delay j ss ls → AreLayersOf ps ks focus limit j ls → AllZip (HasTaken ys) ls ms → AreLayersAt g last delay j (map (given_to limit ys) ss) ms
taken_at g last delay j focus limit ps ks ys [] [] [] k o z = tt
taken_at g last delay j focus limit ps ks ys [] [] (m ∷ ms) k o z = absurd z
taken_at g last delay j focus limit ps ks ys [] (l ∷ ls) ms k o z = absurd k
taken_at g last delay j focus limit ps ks ys (s ∷ ss) [] ms k o z = absurd k
taken_at g last delay j focus limit ps ks ys (s ∷ ss) (l ∷ ls) [] k o z = absurd z
taken_at g last delay j focus limit ps ks ys (s ∷ ss) (l ∷ ls) (m ∷ ms) k o z = (
  subst (λ (n : ℕ). IsLayerAt (g j) last delay (record s { accepted = with_given n s.accepted ys }) m) o.0.own_limit (z.0.at (g j) last delay s k.0),
  taken_at g last delay (suc j) focus limit ps ks ys ss ls ms k.1 o.1 z.1,
)

pub taken_of : (ps : List Plan) (ks : List ℕ) (focus : Bool) (limit j : ℕ) (ys : List (Entry Sym)) (ls ms : List Layer) → AreLayersOf ps ks focus limit j ls → AllZip (HasTaken ys) ls ms → AreLayersOf ps ks focus limit j ms
taken_of ps ks focus limit j ys [] [] o z = o
taken_of ps ks focus limit j ys [] (m ∷ ms) o z = absurd z
taken_of ps ks focus limit j ys (l ∷ ls) [] o z = absurd z
taken_of ps ks focus limit j ys (l ∷ ls) (m ∷ ms) o z =
    let near = o.0.near in
    let same = z.0.same.behind in (
      record {
        own_plans = ap plans_of z.0.same_plans ∙ o.0.own_plans;
        numbers = z.0.same.numbers ∙ o.0.numbers;
        own_behind = same ∙ o.0.own_behind;
        near = omega (arith, near, same);
        own_focus = z.0.same_focus ∙ o.0.own_focus;
        own_limit = z.0.same_limit ∙ o.0.own_limit;
      },
      taken_of ps ks focus limit (suc j) ys ls ms o.1 z.1,
    )

-- the horizons of higher strata aren't later
module _ (g : ℕ → ℕ) (fall : (i : ℕ) → g (suc i) ≤ g i) (ys : List (Entry Sym)) where
  pub fed_all : (last delay j : ℕ) (ss : List (Stratum Sym)) (ls : List Layer) → AreLayersAt g last delay j ss ls → AllByRecursion (λ e. g j ≤ e.date) ys → AreFed g j ys ss
  fed_all last delay j [] ls k due = tt
  fed_all last delay j (s ∷ ss) [] k due = absurd k
  fed_all last delay j (s ∷ ss) (l ∷ ls) k due =
      let counted = k.0.stands.counted in
      let count = k.0.count in
      let marked = k.0.marked in
      let step = fall j in (
        record { counted = omega (arith, counted, count, marked); due = due },
        fed_all last delay (suc j) ss ls k.1 (all_each {P = λ e. g j ≤ e.date} ys (λ e l. omega (arith, l, step)) due),
      )

  one_due : (last delay j : ℕ) (y : Entry Sym) → g j ≤ y.date → (ss : List (Stratum Sym)) (ls : List Layer) → AreLayersAt g last delay j ss ls → AllByRecursion (λ l. l.engine.horizon ≤ y.date) ls
  one_due last delay j y due [] [] k = tt
  one_due last delay j y due [] (l ∷ ls) k = absurd k
  one_due last delay j y due (s ∷ ss) [] k = absurd k
  one_due last delay j y due (s ∷ ss) (l ∷ ls) k =
      let at = k.0.horizon in
      let step = fall j in
      (omega (arith, at, due), one_due last delay (suc j) y (omega (arith, due, step)) ss ls k.1)

  pub due_all : (last delay j : ℕ) (ss : List (Stratum Sym)) (ls : List Layer) → AreLayersAt g last delay j ss ls → (zs : List (Entry Sym)) → AllByRecursion (λ e. (g j ≤ e.date) × (e.date < 2 ^ 40)) zs → AreDue ls zs
  due_all last delay j ss ls k [] due = tt
  due_all last delay j ss ls k (z ∷ zs) due = ((one_due last delay j z due.0.0 ss ls k, due.0.1), due_all last delay j ss ls k zs due.1)
