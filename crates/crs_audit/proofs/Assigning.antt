-- The binding of cited entries makes an assignment, with the texts of the symbols, and no assignment has none.
use Rattle.std.proofs.Common.{◌≡◌, ◌<◌, ℕ, zero, suc, ℤ, pos, List, [], ◌∷◌, length, map, refl, sym, ap, subst, arith, Option, Some, None, inl, inr}
use Rattle.std.proofs.lemmas.List.Elements.{All-from_recursion}
use Rattle.std.specs.Prelude.{slice_get, IfSome, option_map}
use Rattle.std.specs.Option.{unwrap_or}
use Rattle.std.specs.List.{AllByRecursion}
use Rattle.crs_base.specs.declared.symbols.Sym.{Sym}
use Rattle.crs_base.specs.Words.{IsIn}
use Rattle.crs_base.specs.Entry.{Entry}
use Rattle.crs_base.proofs.Words.{each_from_in}
use Rattle.crs_stn.specs.Bound.{Keeps, MeetsInPart}
use Rattle.crs_model.specs.Models.{Chronicle}
use Rattle.crs_model.specs.Matching.{Binding, Assignment, IsAssignment, AreDistinct}
use Rattle.crs_model.specs.Bindings.{look_of}
use Rattle.crs_model.specs.Open.{IsRecognised, whole}
use Rattle.crs_model.specs.Partial.{dates_of}
use Rattle.crs_model.specs.Proper.{IsNamed}
use Rattle.crs_model.specs.Renaming.{renamed_chronicle, renamed_entry, IsChronicleOf, IsEntryOf}
use Rattle.crs_model.proofs.Renamed.{renamed_look, of_events, patterns_on}
use Rattle.crs_model.proofs.RenamedAssignments.{recognised_on, recognised_back, same_entry}
use Rattle.crs_audit.specs.Fit.{AreEqual, Fits}

agrees_one : (o : Option ℤ) → IfSome o (λ d. unwrap_or o (pos 0) ≡ d)
agrees_one None = tt
agrees_one (Some d) = refl

-- no bounds are met by any dates
no_bounds : (given : ℕ → Option ℤ) → MeetsInPart [] given
no_bounds given = ((λ p. unwrap_or (given p) (pos 0)), (λ p. agrees_one (given p)), All-from_recursion (Keeps (λ p. unwrap_or (given p) (pos 0))) [] tt)

-- what is bound everywhere
pub all_bound : (P : Sym → Type 0) (b : List (Option Sym)) → ((v : ℕ) → v < length b → (x : Sym) × P x × (look_of b v ≡ Some x))
    → (vs : List Sym) × (b ≡ map Some vs)
all_bound P [] h = ([], refl)
all_bound P (o ∷ b) h =
    let first = h zero (omega arith) in
    let rest = all_bound P b (λ v l. h (suc v) (omega (arith, l))) in
    let e : o ≡ Some first.0 = first.2 in
    (first.0 ∷ rest.0, λ i. e i ∷ rest.1 i)

pub looks_same : (vs : List Sym) (v : ℕ) → look_of (map Some vs) v ≡ slice_get vs v
looks_same [] v = refl
looks_same (x ∷ vs) zero = refl
looks_same (x ∷ vs) (suc v) = looks_same vs v

pub look_is : (vs : List Sym) → look_of (map Some vs) ≡ slice_get vs
look_is vs = λ i v. looks_same vs v i

in_itself : (es : List (Entry Sym)) → AllByRecursion (λ e. IsIn e es) es
in_itself es = each_from_in (λ e. IsIn e es) es (λ e i. i)

module _ (f : Sym → List ℕ) (P : Sym → Type 0) (apart : (x y : Sym) → P x → P y → f x ≡ f y → x ≡ y) (c : Chronicle Sym) (of : IsChronicleOf P c) (named : IsNamed c) where
  -- the chronicle without its bounds, its windows and what it gives
  abbrev bare : Chronicle Sym
  bare = record c { bounds = []; windows = []; emits = [] }

  of_bare : IsChronicleOf P bare
  of_bare = record { name = of.name; points = of.points; patterns = of.patterns; free = of.free; variables = of.variables; sets = of.sets; windows = tt; emits = tt }

  named_bare : IsNamed bare
  named_bare = record { stands = named.stands; below = named.below }

  -- the binding binds each variable
  pub each_bound : (es : List (Entry Sym)) (look : Binding Sym) → AllByRecursion (IsEntryOf P) es → AreEqual c.events es look
      → (v : ℕ) → v < length c.variables → (x : Sym) × P x × (look v ≡ Some x)
  each_bound es look known equal v lt =
      let stands = named.stands v lt in
      let g = of_events (λ (y : Sym). y) P (renamed_look (λ (y : Sym). y) look) v c.events es known (patterns_on (λ (y : Sym). y) look c.events es equal)
      stands.0 stands.1 stands.2 stands.3 in
      (g.0, g.1, unrenamed (look v) g.0 g.2)
    where
      unrenamed : (o : Option Sym) (y : Sym) → option_map (λ x. x) o ≡ Some y → o ≡ Some y
      unrenamed None y h = absurd cc
      unrenamed (Some x) y h = h

  -- entries that fit under values make an assignment, with the texts of the symbols
  pub assigned : (es : List (Entry Sym)) (vs : List Sym) → AllByRecursion (IsEntryOf P) es → AreDistinct es → length vs ≡ length c.variables
      → Fits c es (slice_get vs) → (pool : List (Entry (List ℕ))) → AllByRecursion (λ e. IsIn e pool) (map (renamed_entry f) es)
      → IsAssignment (renamed_chronicle f c) pool (record { entries = map (renamed_entry f) es; values = map f vs })
  assigned es vs known distinct many fits pool within =
      let b : Assignment Sym = record { entries = es; values = vs } in
      let a : IsAssignment bare es b = record { given = in_itself es; distinct = distinct; bound = many; equal = fits.0; allowed = record { sets = fits.1.sets; differs = fits.1.differs } } in
      let r : IsRecognised bare es [] 0 b = record { assignment = a; bounds = no_bounds (dates_of (whole b)); windows = λ w i. absurd i } in
      let t = (recognised_on f P apart bare of_bare named_bare tt es [] 0 b known tt r).assignment in
      record { given = within; distinct = t.distinct; bound = t.bound; equal = t.equal; allowed = record { sets = t.allowed.sets; differs = t.allowed.differs } }

  -- an assignment of these entries comes of values under which they fit
  pub unassigned : (es : List (Entry Sym)) (values : List (List ℕ)) (pool : List (Entry (List ℕ))) → AllByRecursion (IsEntryOf P) es
      → IsAssignment (renamed_chronicle f c) pool (record { entries = map (renamed_entry f) es; values = values })
      → (vs : List Sym) × Fits c es (slice_get vs) × (length vs ≡ length c.variables)
  unassigned es values pool known t =
      let d : Assignment (List ℕ) = record { entries = map (renamed_entry f) es; values = values } in
      let inside : AllByRecursion (λ e. IsIn e (map (renamed_entry f) es)) (map (renamed_entry f) es) = each_from_in _ (map (renamed_entry f) es) (λ e i. i) in
      let a : IsAssignment (renamed_chronicle f bare) (map (renamed_entry f) es) d =
      record { given = inside; distinct = t.distinct; bound = t.bound; equal = t.equal; allowed = record { sets = t.allowed.sets; differs = t.allowed.differs } } in
      let r : IsRecognised (renamed_chronicle f bare) (map (renamed_entry f) es) (map (renamed_entry f) []) 0 d =
      record { assignment = a; bounds = no_bounds (dates_of (whole d)); windows = λ w i. absurd i } in
      let b = recognised_back f P apart bare of_bare named_bare tt es [] 0 d known tt r in
      let rows : map (renamed_entry f) es ≡ map (renamed_entry f) b.0.entries = ap (λ z. z.entries) b.2 in
      let same : b.0.entries ≡ es = same_rows b.0.entries es (known_in es b.0.entries known b.1.assignment.given) known (sym rows) in (
        b.0.values,
        (
          subst (λ (xs : List (Entry Sym)). AreEqual c.events xs (slice_get b.0.values)) same b.1.assignment.equal,
          record { sets = b.1.assignment.allowed.sets; differs = b.1.assignment.allowed.differs },
        ),
        b.1.assignment.bound,
      )
    where
      known_in : (es xs : List (Entry Sym)) → AllByRecursion (IsEntryOf P) es → AllByRecursion (λ e. IsIn e es) xs → AllByRecursion (IsEntryOf P) xs
      known_in es [] k i = tt
      known_in es (x ∷ xs) k i = (one es x k i.0, known_in es xs k i.1)
        where
          one : (es : List (Entry Sym)) (x : Entry Sym) → AllByRecursion (IsEntryOf P) es → IsIn x es → IsEntryOf P x
          one [] x k i = absurd i
          one (e ∷ es) x k (inl q) = subst (IsEntryOf P) (sym q) k.0
          one (e ∷ es) x k (inr i) = one es x k.1 i

      same_rows : (xs ys : List (Entry Sym)) → AllByRecursion (IsEntryOf P) xs → AllByRecursion (IsEntryOf P) ys
          → map (renamed_entry f) xs ≡ map (renamed_entry f) ys → xs ≡ ys
      same_rows [] [] p q e = refl
      same_rows [] (y ∷ ys) p q e = absurd cc
      same_rows (x ∷ xs) [] p q e = absurd cc
      same_rows (x ∷ xs) (y ∷ ys) p q e =
          let first : renamed_entry f x ≡ renamed_entry f y = cc in
          let rest : map (renamed_entry f) xs ≡ map (renamed_entry f) ys = cc in
          let a : x ≡ y = same_entry f P apart bare of_bare named_bare tt x y p.0 q.0 first in
          let b : xs ≡ ys = same_rows xs ys p.1 q.1 rest in
          λ i. a i ∷ b i
