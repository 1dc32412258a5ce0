-- Stores that an entry doesn't concern, and are left as they are.
use Rattle.std.proofs.Common.{◌≡◌, ℕ, suc, ◌≤◌, ◌/◌, ◌%◌, List, [], ◌∷◌, map, refl, sym, subst, inl, inr, arith, Bool}
use Rattle.std.specs.List.{AllByRecursion}
use Rattle.crs_base.specs.declared.symbols.Sym.{Sym}
use Rattle.crs_base.specs.Entry.{Entry}
use Rattle.crs_model.specs.declared.plan.Plan.{Plan}
use Rattle.crs_history.specs.Histories.{HistoryState}
use Rattle.crs_store.specs.Stores.{StoreState, PassesOver}
use Rattle.crs_engine.specs.declared.concerned.Concerned.{Concerned}
use Rattle.crs_engine.specs.Concerns.{Concerns, Tells, TellsAll}
use Rattle.crs_engine.specs.Engines.{AreStoresOf}
use Rattle.crs_engine.specs.Moves.{AreSameStores, IsTakenIn, AreOffered}

pub passed : (s : StoreState) (history : HistoryState) (x : Entry Sym) (until : ℕ) (ahead : List (Entry Sym)) (beyond : ℕ) (behind : Bool) → x.date ≤ until → (Concerns x.name s.plan → ⊥) → PassesOver s → IsTakenIn s history x until ahead beyond behind s
passed s history x until ahead beyond behind up other over = record {
  plain = λ p. over history x until ahead beyond behind up (λ looked. other (inr looked));
  prompt = λ p. absurd (other (inl p));
}

-- where no bit is set
pub all_passed : (ss : List StoreState) (history : HistoryState) (x : Entry Sym) (until : ℕ) (ahead : List (Entry Sym)) (beyond : ℕ) (behind : Bool) → x.date ≤ until → (bits : ℕ) → bits ≡ 0 → Tells bits x.name (map (λ s. s.plan) ss) → AllByRecursion PassesOver ss
    → AreOffered ss history x until ahead beyond behind ss
all_passed [] history x until ahead beyond behind up bits none told over = tt
all_passed (s ∷ ss) history x until ahead beyond behind up bits none told over = (
  passed s history x until ahead beyond behind up (λ concerned. let odd : bits % 2 ≡ 1 = told.0 concerned in omega arith) over.0,
  all_passed ss history x until ahead beyond behind up (bits / 2) (omega arith) told.1 over.1,
)

-- ---- the plans of stores

same_plans : (olds news : List StoreState) → AreSameStores olds news → map (λ s. s.plan) news ≡ map (λ s. s.plan) olds
same_plans [] [] same = refl
same_plans [] (n ∷ news) same = absurd same
same_plans (o ∷ olds) [] same = absurd same
same_plans (o ∷ olds) (n ∷ news) same = rw ((same.0).plan, same_plans olds news same.1) refl

pub told_on : (c : Concerned) (olds news : List StoreState) → AreSameStores olds news → TellsAll c (map (λ s. s.plan) olds) → TellsAll c (map (λ s. s.plan) news)
told_on c olds news same told = subst (TellsAll c) (sym (same_plans olds news same)) told

plans_held : (focus : Bool) (ps : List Plan) (n : ℕ) (ss : List StoreState) → AreStoresOf focus ps n ss → map (λ s. s.plan) ss ≡ ps
plans_held focus [] n [] of = refl
plans_held focus [] n (s ∷ ss) of = absurd of
plans_held focus (p ∷ ps) n [] of = absurd of
plans_held focus (p ∷ ps) n (s ∷ ss) of = rw ((of.0).plan, plans_held focus ps (suc n) ss of.1) refl

pub told_of_stores : (c : Concerned) (focus : Bool) (ps : List Plan) (ss : List StoreState) → AreStoresOf focus ps 0 ss → TellsAll c ps → TellsAll c (map (λ s. s.plan) ss)
told_of_stores c focus ps ss of told = subst (TellsAll c) (sym (plans_held focus ps 0 ss of)) told
