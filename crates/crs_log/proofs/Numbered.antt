-- Names found by the numbers of their texts.
use Rattle.std.proofs.Common.{◌≡◌, ℕ, ◌<◌, ◌≤◌, ◌+◌, ◌==◌, ◌&&◌, ◌||◌, Bool, true, false, cond, List, [], ◌∷◌, map, drop, length, get_or, refl, sym, ap, subst, ◌∙◌, Option, Some, None, option_map, true≢false, eqb-true, eq-eqb, ne_eqb, position, drop-cons, add-one, suc, zero, arith}
use Rattle.std.proofs.lemmas.Bool.{eqb-false}
use Rattle.std.specs.Prelude.{bytes_eq, is_some}
use Rattle.std.specs.List.{AllByRecursion, list_any}
use Rattle.std.proofs.lemmas.List.Folds.{list_any_at}
use Rattle.std.proofs.lemmas.Slice.Eq.{bytes_eq-Decides}
use Rattle.crs_base.specs.Symbols.{is_known, text_at, AreDistinct}
use Rattle.crs_base.specs.declared.symbols.Sym.{Sym}
use Rattle.crs_base.proofs.Texts.{bytes_same}
use Rattle.crs_model.specs.declared.models.Name.{Name as CodeName}
use Rattle.crs_log.specs.Items.{Event}
use Rattle.crs_log.specs.Known.{Verdict, Other, Named, BadArity, BadValue, judged, is_of_kind, change_stands, known_from}
use Rattle.crs_model.specs.Renaming.{text_in}
use Rattle.crs_model.specs.Renaming.{AreKnown}
use Rattle.crs_log.specs.SeenNames.{name_seen, IsNameIn, AreNamesIn, IsNumberOf}
use Rattle.crs_log.proofs.Parts.{number_within}

module _ (T : List (List ℕ)) (t : List ℕ) where
  not_there : is_known T t ≡ false → (n : ℕ) → n < length T → (b : Bool) → bytes_eq t (text_at T n) ≡ b → b ≡ false
  not_there h n lt false e = refl
  not_there h n lt true e = absurd (true≢false (sym (list_any_at (bytes_eq t) T n [] lt e) ∙ h))

  one_number : AreDistinct T → (n m : ℕ) → n < length T → text_at T n ≡ t → m < length T → (b : Bool) → (m == n) ≡ b → bytes_eq t (text_at T m) ≡ b
  one_number distinct n m lt is within true e = (bytes_eq-Decides t (text_at T m)).1 (sym is ∙ ap (text_at T) (sym (eqb-true m n e)))
  one_number distinct n m lt is within false e = other (bytes_eq t (text_at T m)) refl
    where
      other : (b : Bool) → bytes_eq t (text_at T m) ≡ b → b ≡ false
      other false f = refl
      other true f = absurd (eqb-false m n e (distinct m n within lt (sym (bytes_same t (text_at T m) f) ∙ sym is)))

  -- the number that the table gives for a text
  pub number_found : (o : Option Sym) → AreDistinct T → option_map (λ s. s.0) o ≡ position (bytes_eq t) T → is_some o ≡ is_known T t → IsNumberOf T t o
  number_found None distinct place known = λ s lt. not_there (sym known) s.0 lt (bytes_eq t (text_at T s.0)) refl
  number_found (Some n) distinct place known = λ s lt.
      let k = number_within T t n (sym known) place in one_number distinct n.0 s.0 k.0 k.1 lt (s.0 == n.0) refl

  -- a text without a number is that of no symbol
  pub none_among : (ss : List Sym) → AreKnown T ss → IsNumberOf T t None → list_any (bytes_eq t) (map (text_in T) ss) ≡ false
  none_among [] h k = refl
  none_among (s ∷ ss) h k = (λ i. k s h.0 i || list_any (bytes_eq t) (map (text_in T) ss)) ∙ none_among ss h.1 k

-- and of no name
pub none_named : (T : List (List ℕ)) (e : Event) (names : List CodeName) (place : ℕ) → AreNamesIn T names → IsNumberOf T e.name None → known_from place (map (name_seen T) names) e ≡ Other
none_named T e [] place h k = refl
none_named T e (n ∷ ns) place h k = (λ i. cond (k n.name h.0.name i) (judged place (name_seen T n) e) (known_from (place + 1) (map (name_seen T) ns) e)) ∙ none_named T e ns (place + 1) h.1 k

-- the name at a place
pub name_at : (T : List (List ℕ)) (names : List CodeName) (i : ℕ) (d : CodeName) → i < length names → AreNamesIn T names → IsNameIn T (get_or names i d)
name_at T [] i d lt h = absurd (omega arith)
name_at T (n ∷ ns) zero d lt h = h.0
name_at T (n ∷ ns) (suc i) d lt h = name_at T ns i d (omega arith) h.1

-- one name, where the event's name has this number
module _ (T : List (List ℕ)) (e : Event) (names : List CodeName) (i : ℕ) (n : CodeName) (number : Sym) (at : n ≡ get_or names i n) (lt : i < length names)
    (h : AreNamesIn T names) (k : IsNumberOf T e.name (Some number)) where
  abbrev Behind : Verdict
  Behind = known_from (i + 1) (map (name_seen T) (drop (i + 1) names)) e

  named_step : known_from i (map (name_seen T) (drop i names)) e ≡ cond (n.name.0 == number.0) (judged i (name_seen T n) e) Behind
  named_step =
      ap (λ ns. known_from i (map (name_seen T) ns) e) (drop-cons names i n lt ∙ (λ j. sym at j ∷ drop (suc i) names) ∙ ap (λ j. n ∷ drop j names) (sym (add-one i)))
      ∙ ap (λ s. cond s (judged i (name_seen T n) e) Behind) (k n.name (subst (IsNameIn T) (sym at) (name_at T names i n lt h)).name)

  pub named_here : n.name.0 ≡ number.0 → known_from i (map (name_seen T) (drop i names)) e ≡ judged i (name_seen T n) e
  named_here same = named_step ∙ (λ j. cond (eq-eqb n.name.0 number.0 same j) (judged i (name_seen T n) e) Behind)

  pub named_later : (n.name.0 ≡ number.0 → ⊥) → known_from i (map (name_seen T) (drop i names)) e ≡ Behind
  named_later differs = named_step ∙ (λ j. cond (ne_eqb n.name.0 number.0 differs j) (judged i (name_seen T n) e) Behind)

abbrev CanBeMade : List (List ℕ) → Event → Type 0
CanBeMade T e = (is_known T e.name ≡ true) × (length e.args ≤ 8)

judged_fits : (place i : ℕ) (n : CodeName) (T : List (List ℕ)) (e : Event) → n.arity ≤ 8 → judged place (name_seen T n) e ≡ Named i → length e.args ≤ 8
judged_fits place i n T e h is = by (length e.args == n.arity) refl is
  where
    by : (b : Bool) → (length e.args == n.arity) ≡ b → cond (b && change_stands e.change (name_seen T n).kind) (cond (is_of_kind e.change (name_seen T n).kind) (Named place) BadValue) BadArity ≡ Named i → length e.args ≤ 8
    by true eq is = let same : length e.args ≡ n.arity = eqb-true (length e.args) n.arity eq in omega (arith, same, h)
    by false eq is = cc

-- what is named can be made
pub named_fits : (T : List (List ℕ)) (e : Event) (names : List CodeName) (place i : ℕ) → AreNamesIn T names → AllByRecursion (λ n. n.arity ≤ 8) names → known_from place (map (name_seen T) names) e ≡ Named i → CanBeMade T e
named_fits T e [] place i h a is = cc
named_fits T e (n ∷ ns) place i h a is = by (bytes_eq e.name (text_in T n.name)) refl is (named_fits T e ns (place + 1) i h.1 a.1)
  where
    by : (b : Bool) → bytes_eq e.name (text_in T n.name) ≡ b → cond b (judged place (name_seen T n) e) (known_from (place + 1) (map (name_seen T) ns) e) ≡ Named i
        → (known_from (place + 1) (map (name_seen T) ns) e ≡ Named i → CanBeMade T e) → CanBeMade T e
    by true eq is rest = (list_any_at (bytes_eq e.name) T n.name.0 [] h.0.name eq, judged_fits place i n T e a.0 is)
    by false eq is rest = rest is
