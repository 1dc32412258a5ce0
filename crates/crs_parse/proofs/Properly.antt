-- The models of a reading are proper.
use Rattle.std.proofs.Common.{◌≡◌, ℕ, ℤ, pos, zero, suc, ◌+◌, ◌≤◌, ◌<◌, ◌≤ℤ◌, ◌+ℤ◌, ◌^◌, ◌==◌, Bool, true, false, cond, not, ◌||◌, List, [], ◌∷◌, ◌++◌, map, length, Option, Some, None, option_map, refl, sym, ap, subst, ◌∙◌, arith, true≢false, eqb-true, one-add, inl, inr}
use Rattle.std.specs.Prelude.{IfSome, bytes_eq, neg_ℤ, slice_get}
use Rattle.std.specs.List.{AllByRecursion, flat_map, list_any}
use Rattle.std.proofs.lemmas.Int.{ints}
use Rattle.std.proofs.lemmas.List.{length-map}
use Rattle.std.proofs.lemmas.List.Elements.{All-from_recursion}
use Rattle.std.proofs.lemmas.List.Folds.{list_any-append}
use Rattle.std.proofs.lemmas.Bool.{or_left, or_right, or_parts}
use Rattle.crs_base.specs.Symbols.{is_known, text_at}
use Rattle.crs_base.specs.Words.{IsIn}
use Rattle.crs_base.proofs.Words.{in_map, in_append, in_append_left, in_append_right}
use Rattle.crs_base.proofs.Texts.{bytes_same, same_bytes}
use Rattle.crs_base.proofs.Alls.{all_append, all_each, all_left, all_right, all_both}
use Rattle.crs_stn.specs.declared.bound.Bound.{Bound}
use Rattle.crs_stn.specs.Bound.{IsBoundBelow}
use Rattle.crs_model.specs.Models as m
use Rattle.crs_model.specs.Bindings.{TermIsBelow, PatternIsBelow}
use Rattle.crs_model.specs.Proper.{term_has, terms_have, change_has, pattern_has, IsNamed}
use Rattle.crs_grammar.specs.Statements.{Term, Value, Variable, Any, Pattern, Event, Shift, Here, Later, Earlier, Anchor, Body, NoEvent, Occurs, Hold, Distance}
use Rattle.crs_parse.specs.Faults.{Kind, OfMessage, OfAttribute, OfDerived, is_derived, Name, Written, Reading, is_of, suits, is_attribute, is_point, is_any, event_points, variable_in, variables_in, variables_of, change_terms, lacks, change_lacks, pattern_lacks, body_lacks, shift_size}
use Rattle.crs_parse.specs.Meant.{place_in, points_of, term_of, change_of, pattern_of, body_of, event_of, offset_of, anchor_of, window_of, emit_of, names_that, bounds_of, set_of, differ_of, chronicle_of, kind_of, name_of, models_in}
use Rattle.crs_parse.specs.HeldStatements.{IsNear, AreNear, IsHeldEvent, IsHeldWindow, IsHeldEmission, IsHeldName, IsFirmBody, IsHeldChronicle, IsHeldReading}
use Rattle.crs_model.specs.ProperModels as p
use Rattle.crs_parse.proofs.Faultless.{not_false}
use Rattle.crs_parse.proofs.Apart.{AreApart, apart_in_order}
use Rattle.crs_parse.proofs.Numbered.{each_made, all_that}
use Rattle.crs_parse.proofs.Places.{place_within}
use Rattle.crs_parse.proofs.Points.{points_count}
use Rattle.crs_parse.proofs.Sound.{Declares, IsDeclared, IsDeclaredBody, IsEmitted, AreOf, stands_in, IsSound, IsWhole}
use Rattle.crs_parse.proofs.SoundReading.{IsSoundSoFar}
use Rattle.crs_base.proofs.DistinctTexts.{Distinct, known_at}

-- Variables.

module _ (variables : List (List ℕ)) where
  term_below : (t : Term) → AreOf variables (variable_in t) → TermIsBelow (length variables) (term_of variables t)
  term_below (Value s) h = tt
  term_below (Variable x) h = place_within variables x h.0
  term_below Any h = tt

  terms_below : (ts : List Term) → AreOf variables (variables_in ts) → AllByRecursion (TermIsBelow (length variables)) (map (term_of variables) ts)
  terms_below [] h = tt
  terms_below (t ∷ ts) h = (term_below t (all_left (λ x. is_of variables x ≡ true) (variable_in t) (variables_in ts) h), terms_below ts (all_right (λ x. is_of variables x ≡ true) (variable_in t) (variables_in ts) h))

  change_below : (c : Option (Term × Term)) → AreOf variables (variables_in (change_terms c)) → IfSome (change_of variables c) (λ c. TermIsBelow (length variables) c.0 × TermIsBelow (length variables) c.1)
  change_below None h = tt
  change_below (Some c) h =
      let P : List ℕ → Type 0 = λ x. is_of variables x ≡ true in
      (term_below c.0 (all_left P (variable_in c.0) (variable_in c.1 ++ []) h), term_below c.1 (all_left P (variable_in c.1) [] (all_right P (variable_in c.0) (variable_in c.1 ++ []) h)))

  pattern_below : (q : Pattern) → AreOf variables (variables_of q) → PatternIsBelow (length variables) (pattern_of variables q)
  pattern_below q h =
      let P : List ℕ → Type 0 = λ x. is_of variables x ≡ true in
      (terms_below q.terms (all_left P (variables_in q.terms) (variables_in (change_terms q.change)) h), change_below q.change (all_right P (variables_in q.terms) (variables_in (change_terms q.change)) h))

  -- and where none lacks
  term_there : (t : Term) → lacks variables t ≡ false → AreOf variables (variable_in t)
  term_there (Value s) h = tt
  term_there (Variable x) h = (not_false (is_of variables x) h, tt)
  term_there Any h = tt

  all_there : (xs ys : List (List ℕ)) → AreOf variables xs → AreOf variables ys → AreOf variables (xs ++ ys)
  all_there [] ys h k = k
  all_there (x ∷ xs) ys h k = (h.0, all_there xs ys h.1 k)

  terms_there : (ts : List Term) → list_any (lacks variables) ts ≡ false → AreOf variables (variables_in ts)
  terms_there [] h = tt
  terms_there (t ∷ ts) h = let k = or_parts (lacks variables t) (list_any (lacks variables) ts) h in all_there (variable_in t) (variables_in ts) (term_there t k.0) (terms_there ts k.1)

  change_there : (c : Option (Term × Term)) → change_lacks variables c ≡ false → AreOf variables (variables_in (change_terms c))
  change_there None h = tt
  change_there (Some c) h = let k = or_parts (lacks variables c.0) (lacks variables c.1) h in all_there (variable_in c.0) (variable_in c.1 ++ []) (term_there c.0 k.0) (all_there (variable_in c.1) [] (term_there c.1 k.1) tt)

  pattern_there : (q : Pattern) → pattern_lacks variables q ≡ false → AreOf variables (variables_of q)
  pattern_there q h = let k = or_parts (list_any (lacks variables) q.terms) (change_lacks variables q.change) h in all_there (variables_in q.terms) (variables_in (change_terms q.change)) (terms_there q.terms k.0) (change_there q.change k.1)

  -- a variable that stands in a pattern
  or_either : (a b : Bool) (C : Type 0) → (a ≡ true → C) → (b ≡ true → C) → (a || b) ≡ true → C
  or_either true b C f g h = f refl
  or_either false b C f g h = g h

  below_has : (n v : ℕ) (t : m.Term (List ℕ)) → TermIsBelow n t → term_has v t ≡ true → v < n
  below_has n v (m.Value s) h e = cc
  below_has n v (m.Var u) h e = subst (λ w. w < n) (eqb-true u v e) h
  below_has n v m.Any h e = cc

  below_have : (n v : ℕ) (ts : List (m.Term (List ℕ))) → AllByRecursion (TermIsBelow n) ts → terms_have v ts ≡ true → v < n
  below_have n v [] h e = cc
  below_have n v (t ∷ ts) h e = or_either (term_has v t) (terms_have v ts) (v < n) (below_has n v t h.0) (below_have n v ts h.1) e

  below_change : (n v : ℕ) (c : Option (m.Term (List ℕ) × m.Term (List ℕ))) → IfSome c (λ c. TermIsBelow n c.0 × TermIsBelow n c.1) → change_has v c ≡ true → v < n
  below_change n v None h e = cc
  below_change n v (Some c) h e = or_either (term_has v c.0) (term_has v c.1) (v < n) (below_has n v c.0 h.0) (below_has n v c.1 h.1) e

  below_pattern : (n v : ℕ) (q : m.Pattern (List ℕ)) → PatternIsBelow n q → pattern_has v q ≡ true → v < n
  below_pattern n v q h e = or_either (terms_have v q.terms) (change_has v q.change) (v < n) (below_have n v q.terms h.0) (below_change n v q.change h.1) e

  same_place : (x y : List ℕ) → bytes_eq x y ≡ true → (place_in variables y == place_in variables x) ≡ true
  same_place x y e = ap (λ z. place_in variables z == place_in variables x) (sym (bytes_same x y e)) ∙ same_number (place_in variables x)
    where
      same_number : (n : ℕ) → (n == n) ≡ true
      same_number n = grind (arith)

  has_term : (x : List ℕ) (t : Term) → is_of (variable_in t) x ≡ true → term_has (place_in variables x) (term_of variables t) ≡ true
  has_term x (Value s) h = cc
  has_term x (Variable y) h = or_either (bytes_eq x y) false ((place_in variables y == place_in variables x) ≡ true) (same_place x y) (λ e. absurd (true≢false (sym e))) h
  has_term x Any h = cc

  of_append : (x : List ℕ) (xs ys : List (List ℕ)) → is_of (xs ++ ys) x ≡ true → (is_of xs x || is_of ys x) ≡ true
  of_append x xs ys h = sym (list_any-append (bytes_eq x) xs ys) ∙ h

  has_terms : (x : List ℕ) (ts : List Term) → is_of (variables_in ts) x ≡ true → terms_have (place_in variables x) (map (term_of variables) ts) ≡ true
  has_terms x [] h = cc
  has_terms x (t ∷ ts) h =
      or_either (is_of (variable_in t) x) (is_of (variables_in ts) x) (terms_have (place_in variables x) (map (term_of variables) (t ∷ ts)) ≡ true)
      (λ e. or_left (term_has (place_in variables x) (term_of variables t)) _ (has_term x t e))
      (λ e. or_right (term_has (place_in variables x) (term_of variables t)) _ (has_terms x ts e)) (of_append x (variable_in t) (variables_in ts) h)

  has_change : (x : List ℕ) (c : Option (Term × Term)) → is_of (variables_in (change_terms c)) x ≡ true → change_has (place_in variables x) (change_of variables c) ≡ true
  has_change x None h = cc
  has_change x (Some c) h =
      or_either (is_of (variable_in c.0) x) (is_of (variable_in c.1 ++ []) x) (change_has (place_in variables x) (change_of variables (Some c)) ≡ true)
      (λ e. or_left (term_has (place_in variables x) (term_of variables c.0)) _ (has_term x c.0 e))
      (λ e. or_right (term_has (place_in variables x) (term_of variables c.0)) _
      (has_term x c.1 (or_either (is_of (variable_in c.1) x) false (is_of (variable_in c.1) x ≡ true) (λ q. q) (λ q. absurd (true≢false (sym q))) (of_append x (variable_in c.1) [] e))))
      (of_append x (variable_in c.0) (variable_in c.1 ++ []) h)

  has_pattern : (x : List ℕ) (q : Pattern) → is_of (variables_of q) x ≡ true → pattern_has (place_in variables x) (pattern_of variables q) ≡ true
  has_pattern x q h =
      or_either (is_of (variables_in q.terms) x) (is_of (variables_in (change_terms q.change)) x) (pattern_has (place_in variables x) (pattern_of variables q) ≡ true)
      (λ e. or_left (terms_have (place_in variables x) (map (term_of variables) q.terms)) _ (has_terms x q.terms e))
      (λ e. or_right (terms_have (place_in variables x) (map (term_of variables) q.terms)) _ (has_change x q.change e))
      (of_append x (variables_in q.terms) (variables_in (change_terms q.change)) h)

  -- an event of these in which the variable of a number stands
  abbrev StandsAt : List Event → ℕ → Type 0
  StandsAt es v = (e : ℕ) × (def : m.EventDef (List ℕ)) × (slice_get (map (event_of variables) es) e ≡ Some def) × (pattern_has v def.pattern ≡ true)

  stands_at : (x : List ℕ) (es : List Event) → stands_in es x ≡ true → StandsAt es (place_in variables x)
  stands_at x [] h = cc
  stands_at x (v ∷ es) h = or_either (is_of (variables_of v.pattern) x) (stands_in es x) (StandsAt (v ∷ es) (place_in variables x))
      (λ q. (zero, event_of variables v, refl, has_pattern x v.pattern q)) (λ q. let r = stands_at x es q in (suc r.0, r.1, r.2, r.3)) h

at_index : (P : List ℕ → Type 0) (xs : List (List ℕ)) (v : ℕ) → v < length xs → AllByRecursion P xs → P (text_at xs v)
at_index P [] v l h = absurd (omega arith)
at_index P (x ∷ xs) zero l h = h.0
at_index P (x ∷ xs) (suc v) l h = at_index P xs v (omega arith) h.1

place_next : (b : Bool) (n v : ℕ) → b ≡ false → n ≡ v → cond (not b) (1 + n) 0 ≡ suc v
place_next true n v h e = absurd (true≢false h)
place_next false n v h e = one-add n ∙ ap suc e

other : (x t : List ℕ) (xs : List (List ℕ)) (b : Bool) → bytes_eq t x ≡ b → is_known xs t ≡ true → is_known xs x ≡ false → b ≡ false
other x t xs true e k h = absurd (true≢false (sym k ∙ ap (is_known xs) (bytes_same t x e) ∙ h))
other x t xs false e k h = refl

-- the place of a text, where none stands twice
place_at : (xs : List (List ℕ)) (v : ℕ) → Distinct xs → v < length xs → place_in xs (text_at xs v) ≡ v
place_at [] v d l = absurd (omega arith)
place_at (x ∷ xs) zero d l = λ i. cond (not (same_bytes x i)) (1 + place_in xs x) 0
place_at (x ∷ xs) (suc v) d l =
    (place_next (bytes_eq (text_at xs v) x) (place_in xs (text_at xs v)) v (other x (text_at xs v) xs (bytes_eq (text_at xs v) x) refl (known_at xs v (omega arith)) d.0) (place_at xs v d.1 (omega arith)))

at_slice : {A : Type 0} (P : A → Type 0) (xs : List A) (e : ℕ) (y : A) → AllByRecursion P xs → slice_get xs e ≡ Some y → P y
at_slice P [] e y h k = cc
at_slice P (x ∷ xs) zero y h k = let same : x ≡ y = cc in subst P same h.0
at_slice P (x ∷ xs) (suc e) y h k = at_slice P xs e y h.1 k

-- the variables are those of the events' patterns
named_in : (d : ℕ × Written) (names : List Name) → IsSound names d.1 → IsNamed (chronicle_of d)
named_in d names k = record {
  stands = λ v l. subst (StandsAt d.1.variables d.1.events) (place_at d.1.variables v k.distinct l)
      (stands_at d.1.variables (text_at d.1.variables v) d.1.events (at_index (λ x. stands_in d.1.events x ≡ true) d.1.variables v l k.stand));
  below = λ v e def g h. below_pattern d.1.variables (length d.1.variables) v def.pattern
      (at_slice (λ (def : m.EventDef (List ℕ)). PatternIsBelow (length d.1.variables) def.pattern) (map (event_of d.1.variables) d.1.events) e def
      (each_made _ _ (event_of d.1.variables) d.1.events (λ ev q. pattern_below d.1.variables ev.pattern q.1) k.events) g) h;
}

-- Declared names.

suits_meant : (variables : List (List ℕ)) (k : Kind) (c : Option (Term × Term)) → suits k c ≡ true → p.Suits (kind_of k) (change_of variables c)
suits_meant variables OfMessage None h = tt
suits_meant variables OfMessage (Some c) h = cc
suits_meant variables OfDerived None h = tt
suits_meant variables OfDerived (Some c) h = cc
suits_meant variables (OfAttribute vs) None h = cc
suits_meant variables (OfAttribute vs) (Some c) h = tt

attribute_meant : (k : Kind) → is_attribute k ≡ true → p.IsAttribute (kind_of k)
attribute_meant OfMessage h = cc
attribute_meant (OfAttribute vs) h = tt
attribute_meant OfDerived h = cc

declares_meant : (variables : List (List ℕ)) (names : List Name) (name : List ℕ) (ts : List Term) (n : Name) → Declares names name (length ts) n → p.Declares (map name_of names) name (length (map (term_of variables) ts)) (name_of n)
declares_meant variables names name ts n h = record { among = in_map name_of names n h.among; same = h.same; arity = h.arity ∙ sym (length-map ts (term_of variables)) }

declared_meant : (variables : List (List ℕ)) (names : List Name) (q : Pattern) → IsDeclared names q → p.IsDeclared (map name_of names) (pattern_of variables q)
declared_meant variables names q h = (name_of h.0, declares_meant variables names q.name q.terms h.0 h.1, suits_meant variables h.0.kind q.change h.2)

plain_meant : (variables : List (List ℕ)) (c : Option (Term × Term)) → c ≡ None → change_of variables c ≡ None
plain_meant variables c e = ap (change_of variables) e

-- a `*` comes of none but a `*`
term_definite : (variables : List (List ℕ)) (t : Term) → is_any t ≡ false → p.IsDefinite (term_of variables t)
term_definite variables (Value s) h = tt
term_definite variables (Variable x) h = tt
term_definite variables Any h = cc

body_meant : (variables : List (List ℕ)) (names : List Name) (b : Body) → IsDeclaredBody names b → body_lacks variables b ≡ false
    → IsFirmBody b
    → p.IsProperBody (map name_of names) (length variables) (body_of variables b)
body_meant variables names (NoEvent q) h k f = (declared_meant variables names q h, pattern_below variables q (pattern_there variables q k))
body_meant variables names (Occurs least most q) h k f = (
  declared_meant variables names q h,
  pattern_below variables q
      (pattern_there variables q k),
  f,
)
body_meant variables names (Hold name terms value) h k f =
    let o = or_parts (list_any (lacks variables) terms) (lacks variables value) k in (
      (name_of h.0, declares_meant variables names name terms h.0 h.1, attribute_meant h.0.kind h.2),
      (term_below variables value (term_there variables value o.1), terms_below variables terms (terms_there variables terms o.0)),
      each_made _ _ (term_of variables) (value ∷ terms) (term_definite variables) f,
    )

-- Points.

first_step : (b r : Bool) (n l : ℕ) → (b || r) ≡ true → (r ≡ true → n < l) → cond (not b) (1 + n) 0 < suc l
first_step true r n l h k = omega arith
first_step false r n l h k = let q = k h in omega (arith, q)

-- a place among the first
place_first : (xs ys : List (List ℕ)) (t : List ℕ) → is_of xs t ≡ true → place_in (xs ++ ys) t < length xs
place_first [] ys t h = cc
place_first (x ∷ xs) ys t h = first_step (bytes_eq t x) (is_of xs t) (place_in (xs ++ ys) t) (length xs) h (place_first xs ys t)

event_below : (c : Written) (t : List ℕ) → is_of (event_points c) t ≡ true → place_in (points_of c) t < length c.events
event_below c t h = subst (λ n. place_in (points_of c) t < n) (length-map c.events (λ e. e.point)) (place_first (event_points c) c.free t h)

point_below : (c : Written) (t : List ℕ) → is_point c t ≡ true → place_in (points_of c) t < length c.events + length c.free
point_below c t h = subst (λ n. place_in (points_of c) t < n) (points_count c) (place_within (points_of c) t (list_any-append (bytes_eq t) (event_points c) c.free ∙ h))

offset_near : (s : Shift) → shift_size s ≤ 2 ^ 40 → IsNear (offset_of s)
offset_near Here h = record { not_large = omega (arith, ints); not_small = omega (arith, ints) }
offset_near (Later n) h = record { not_large = omega (arith, ints); not_small = omega (arith, ints) }
offset_near (Earlier n) h = record { not_large = omega (arith, ints); not_small = omega (arith, ints) }

anchor_meant : (c : Written) (a : Anchor) (n : ℕ) → n ≡ length c.events → is_of (event_points c) a.point ≡ true → shift_size a.shift ≤ 2 ^ 40 → p.IsProperAnchor n (anchor_of (points_of c) a)
anchor_meant c a n e h k = let o = offset_near a.shift k in record { event = subst (λ n. place_in (points_of c) a.point < n) (sym e) (event_below c a.point h); not_large = o.not_large; not_small = o.not_small }

negated_near : (z : ℤ) → IsNear z → IsNear (neg_ℤ z)
negated_near z h = let a = h.not_large in let b = h.not_small in record { not_large = omega (arith, ints, a, b); not_small = omega (arith, ints, a, b) }

bound_meant : (n : ℕ) (b : Bound) → b.from < n → b.to < n → IfSome b.most IsNear → IsBoundBelow n b
bound_meant n b f t h = record { from_below = f; to_below = t; not_large = large b.most h; not_small = small b.most h }
  where
    large : (o : Option ℤ) → IfSome o IsNear → IfSome o (λ m. m ≤ℤ pos (2 ^ 40))
    large None h = tt
    large (Some z) h = h.not_large

    small : (o : Option ℤ) → IfSome o IsNear → IfSome o (λ m. pos 0 ≤ℤ (m +ℤ pos (2 ^ 40)))
    small None h = tt
    small (Some z) h = h.not_small

low_near : (o : Option ℤ) → IfSome o IsNear → IfSome (option_map neg_ℤ o) IsNear
low_near None h = tt
low_near (Some z) h = negated_near z h

bounds_meant : (c : Written) (n : ℕ) (ds : List Distance) → n ≡ length c.events + length c.free → AllByRecursion (λ d. (is_point c d.to ≡ true) × (is_point c d.from ≡ true)) ds → AllByRecursion AreNear ds
    → AllByRecursion (IsBoundBelow n) (flat_map (bounds_of (points_of c)) ds)
bounds_meant c n [] e h k = tt
bounds_meant c n (d ∷ ds) e h k =
    let to : place_in (points_of c) d.to < n = subst (λ n. place_in (points_of c) d.to < n) (sym e) (point_below c d.to h.0.0) in
    let from : place_in (points_of c) d.from < n = subst (λ n. place_in (points_of c) d.from < n) (sym e) (point_below c d.from h.0.1) in (
      (bound_meant n (record { from = place_in (points_of c) d.from; to = place_in (points_of c) d.to; most = d.high }) from to k.0.high),
      (
        bound_meant n (record { from = place_in (points_of c) d.to; to = place_in (points_of c) d.from; most = option_map neg_ℤ d.low }) to from (low_near d.low k.0.low),
        bounds_meant c n ds e h.1 k.1,
      ),
    )

bounds_count : (points : List (List ℕ)) (ds : List Distance) → length (flat_map (bounds_of points) ds) ≡ length ds + length ds
bounds_count points [] = refl
bounds_count points (d ∷ ds) = let k = bounds_count points ds in omega (arith, k)

-- Chronicles and models.

module _ (texts : List (List ℕ)) (names : List Name) (d : ℕ × Written) (h : IsHeldChronicle texts d.1) (w : IsWhole names d.1) where
  events_count : length (map (event_of d.1.variables) d.1.events) ≡ length d.1.events
  events_count = length-map d.1.events (event_of d.1.variables)

  windows_count : length (map (window_of d.1.variables (points_of d.1)) d.1.windows) ≡ length d.1.windows
  windows_count = length-map d.1.windows (window_of d.1.variables (points_of d.1))

  emits_count : length (map (emit_of d.1.variables (points_of d.1)) d.1.emits) ≡ length d.1.emits
  emits_count = length-map d.1.emits (emit_of d.1.variables (points_of d.1))

  points_same : length (map (event_of d.1.variables) d.1.events) + length d.1.free ≡ length d.1.events + length d.1.free
  points_same = ap (λ n. n + length d.1.free) events_count

  pub chronicle_proper : p.IsProperChronicle (map name_of names) (chronicle_of d)
  chronicle_proper = record {
    events_some = subst (λ n. 0 < n) (sym events_count) w.some;
    events_few = subst (λ n. n ≤ 16) (sym events_count) w.sound.events_few;
    points_few = subst (λ n. n ≤ 24) (sym points_same) h.few_points;
    bounds_few = let a = bounds_count (points_of d.1) d.1.bounds in let b = w.sound.bounds_few in omega (arith, a, b);
    variables_few = h.few_variables;
    windows_few = subst (λ n. n ≤ 16) (sym windows_count) w.sound.windows_few;
    emits_few = subst (λ n. n ≤ 8) (sym emits_count) w.sound.emits_few;
    within = All-from_recursion _ _ (bounds_meant d.1 (length (map (event_of d.1.variables) d.1.events) + length d.1.free) d.1.bounds points_same w.sound.bounds h.bounds);
    events = each_made _ _ (event_of d.1.variables) d.1.events
        (λ e q. record { declared = declared_meant d.1.variables names e.pattern q.0.0; below = pattern_below d.1.variables e.pattern q.0.1; level = q.1.level })
        (all_both (λ e. IsDeclared names e.pattern × AreOf d.1.variables (variables_of e.pattern)) (IsHeldEvent texts) d.1.events w.sound.events h.events);
    named = named_in d names w.sound;
    sets = each_made _ _ (set_of d.1.variables) d.1.sets (λ s q. place_within d.1.variables s.0 q) w.sound.sets;
    differs = each_made _ _ (differ_of d.1.variables) d.1.differs (λ x q. (place_within d.1.variables x.0 q.0, place_within d.1.variables x.1 q.1)) w.sound.differs;
    windows = each_made _ _ (window_of d.1.variables (points_of d.1)) d.1.windows
        (λ v q. record {
          body = body_meant d.1.variables names v.body q.0.0 q.1.0 q.1.1.firm;
          from = anchor_meant d.1 v.from (length (map (event_of d.1.variables) d.1.events)) events_count q.0.1 q.1.1.from;
          to = anchor_meant d.1 v.to (length (map (event_of d.1.variables) d.1.events)) events_count q.0.2 q.1.1.to;
        })
        (all_both (λ v. IsDeclaredBody names v.body × (is_of (event_points d.1) v.from.point ≡ true) × (is_of (event_points d.1) v.to.point ≡ true)) (λ v. (body_lacks d.1.variables v.body ≡ false) × IsHeldWindow texts v) d.1.windows w.sound.windows
        (all_both (λ v. body_lacks d.1.variables v.body ≡ false) (IsHeldWindow texts) d.1.windows w.bound h.windows));
    emits = each_made _ _ (emit_of d.1.variables (points_of d.1)) d.1.emits
        (λ e q. record {
          declared = declared_meant d.1.variables names e.pattern q.0.0.0;
          plain = plain_meant d.1.variables e.pattern.change q.0.0.1;
          below = pattern_below d.1.variables e.pattern (pattern_there d.1.variables e.pattern q.1.0);
          definite = each_made _ _ (term_of d.1.variables) e.pattern.terms (term_definite d.1.variables) q.1.1.firm;
          event = subst (λ n. place_in (points_of d.1) e.point < n) (sym events_count) (event_below d.1 e.point q.0.1);
        })
        (all_both (λ e. IsEmitted names e.pattern × (is_of (event_points d.1) e.point ≡ true)) (λ e. (pattern_lacks d.1.variables e.pattern ≡ false) × IsHeldEmission texts e) d.1.emits w.sound.emits
        (all_both (λ e. pattern_lacks d.1.variables e.pattern ≡ false) (IsHeldEmission texts) d.1.emits w.bound_emits h.emits));
  }

-- Names, the derived ones behind the others.

module _ {S : Type 0} (names more : List (m.Name S)) (there : (n : m.Name S) → IsIn n names → IsIn n more) where
  declares_more : (name : S) (terms : ℕ) (n : m.Name S) → p.Declares names name terms n → p.Declares more name terms n
  declares_more name terms n h = record { among = there n h.among; same = h.same; arity = h.arity }

  declared_more : (q : m.Pattern S) → p.IsDeclared names q → p.IsDeclared more q
  declared_more q h = (h.0, declares_more q.name (length q.terms) h.0 h.1, h.2)

  body_more : (n : ℕ) (b : m.Body S) → p.IsProperBody names n b → p.IsProperBody more n b
  body_more n (m.NoEvent q) h = (declared_more q h.0, h.1)
  body_more n (m.Occurs least most q) h = (declared_more q h.0, h.1, h.2)
  body_more n (m.Hold name terms value) h = ((h.0.0, declares_more name (length terms) h.0.0 h.0.1, h.0.2), h.1, h.2)

  chronicle_more : (c : m.Chronicle S) → p.IsProperChronicle names c → p.IsProperChronicle more c
  chronicle_more c h = record {
    events_some = h.events_some;
    events_few = h.events_few;
    points_few = h.points_few;
    bounds_few = h.bounds_few;
    variables_few = h.variables_few;
    windows_few = h.windows_few;
    emits_few = h.emits_few;
    within = h.within;
    events = all_each {P = p.IsProperEvent names c} c.events (λ e k. record { declared = declared_more e.pattern k.declared; below = k.below; level = k.level }) h.events;
    named = h.named;
    sets = h.sets;
    differs = h.differs;
    windows = all_each {P = p.IsProperWindow names c} c.windows (λ w k. record { body = body_more (length c.variables) w.body k.body; from = k.from; to = k.to }) h.windows;
    emits = all_each {P = p.IsProperEmit names c} c.emits (λ e k. record { declared = declared_more e.pattern k.declared; plain = k.plain; below = k.below; definite = k.definite; event = k.event }) h.emits;
  }

-- the derived names and the others are all names
abbrev parted : List Name → List (m.Name (List ℕ))
parted ns = map name_of (names_that false ns) ++ map name_of (names_that true ns)

behind_first : {A : Type 0} (xs ys : List A) (y x : A) → IsIn x (xs ++ ys) → IsIn x (xs ++ y ∷ ys)
behind_first xs ys y x h = elim (in_append xs ys x h) [ inl i ↦ in_append_left xs (y ∷ ys) x i | inr i ↦ in_append_right xs (y ∷ ys) x (inr i) ]

parted_in : (ns : List Name) (x : m.Name (List ℕ)) → IsIn x (map name_of ns) → IsIn x (parted ns)
parted_in [] x h = h
parted_in (n ∷ ns) x h = by (is_derived n.kind) (λ i. parted_in ns x i) h
  where
    by : (b : Bool) → (IsIn x (map name_of ns) → IsIn x (parted ns)) → IsIn x (map name_of (n ∷ ns)) → IsIn x (map name_of (cond b [] (n ∷ []) ++ names_that false ns) ++ map name_of (cond b (n ∷ []) [] ++ names_that true ns))
    by true more (inl q) = in_append_right (map name_of (names_that false ns)) (name_of n ∷ map name_of (names_that true ns)) x (inl q)
    by true more (inr i) = behind_first (map name_of (names_that false ns)) (map name_of (names_that true ns)) (name_of n) x (more i)
    by false more (inl q) = inl q
    by false more (inr i) = inr (more i)

parted_count : (ns : List Name) → length (map name_of (names_that false ns)) + length (map name_of (names_that true ns)) ≡ length ns
parted_count [] = refl
parted_count (n ∷ ns) = by (is_derived n.kind) (parted_count ns)
  where
    by : (b : Bool) → length (map name_of (names_that false ns)) + length (map name_of (names_that true ns)) ≡ length ns
        → length (map name_of (cond b [] (n ∷ []) ++ names_that false ns)) + length (map name_of (cond b (n ∷ []) [] ++ names_that true ns)) ≡ length (n ∷ ns)
    by true e = omega (arith, e)
    by false e = omega (arith, e)

pub reading_proper : (texts : List (List ℕ)) (r : Reading) → IsHeldReading texts r → IsSoundSoFar r → AreApart (map (λ d. d.1) r.done) → p.AreProper (models_in r)
reading_proper texts r h k apart = record {
  in_order = apart_in_order r.done apart;
  names_few = subst (λ n. n ≤ 256) (sym (parted_count r.names)) k.names_few;
  arities = all_append (λ n. n.arity ≤ 8) (map name_of (names_that false r.names)) (map name_of (names_that true r.names)) (short false) (short true);
  chronicles_few = subst (λ n. n ≤ 64) (sym (length-map r.done chronicle_of)) k.done_few;
  chronicles = each_made _ _ chronicle_of r.done (λ d q. chronicle_more (map name_of r.names) (parted r.names) (parted_in r.names) (chronicle_of d) (chronicle_proper texts r.names d q.0 q.1)) (all_both (λ d. IsHeldChronicle texts d.1) (λ d. IsWhole r.names d.1) r.done h.done k.done);
}
  where
    short : (b : Bool) → AllByRecursion (λ n. n.arity ≤ 8) (map name_of (names_that b r.names))
    short b = each_made _ _ name_of (names_that b r.names) (λ n q. q.arity) (all_that (IsHeldName texts) b r.names h.names)
