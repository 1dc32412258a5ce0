-- Chronicles without variables.
use Rattle.std.proofs.Common.{◌≡◌, ◌⊎◌, ◌∙◌, ◌<◌, ◌≤◌, ◌+◌, inl, inr, refl, ap, sym, subst, ℕ, zero, suc, List, [], ◌∷◌, ◌++◌, true, length, map, Option, Some, None, arith}
use Rattle.std.specs.Prelude.{slice_get}
use Rattle.std.specs.List.{AllByRecursion}
use Rattle.std.proofs.lemmas.List.{append-nil, length-map}
use Rattle.crs_base.specs.declared.symbols.Sym.{Sym}
use Rattle.crs_stn.specs.Bound.{IsWithin}
use Rattle.crs_model.specs.declared.chronicle.Chronicle.{Chronicle as CodeChronicle}
use Rattle.crs_model.specs.declared.chronicle.EventDef.{EventDef as CodeEvent}
use Rattle.crs_model.specs.declared.pattern.Pattern.{Pattern as CodePattern}
use Rattle.crs_model.specs.declared.models.Kind.{Kind as CodeKind}
use Rattle.crs_model.specs.declared.models.Kind.TheVariants.{Message}
use Rattle.crs_model.specs.declared.models.Name.{Name as CodeName}
use Rattle.crs_model.specs.declared.models.Models.{Models as CodeModels}
use Rattle.crs_model.specs.Models.{Name, Term, EventDef, Pattern, Window, Chronicle}
use Rattle.crs_base.specs.Words.{IsIn}
use Rattle.crs_base.proofs.Words.{in_map_back, in_from_each}
use Rattle.crs_model.specs.Hierarchy.{Feeds, AreInOrder, emitted}
use Rattle.crs_model.specs.Bindings.{PatternIsBelow}
use Rattle.crs_model.specs.Proper.{pattern_has}
use Rattle.crs_model.specs.ProperModels.{Suits, IsDeclared, IsProperAnchor, IsProperBody, IsProperWindow, IsProperEvent, IsProperChronicle, AreProper}
use Rattle.crs_model.specs.SeenModels.{kind_of, name_of, pattern_of, event_of, window_of, chronicle_of, models_of}
use Rattle.crs_compile.specs.Minimal.{IsPrintable}

-- two messages without terms
pub record AreTwo (names : List CodeName) : Type 0 where
  pub symbols : map (λ n. n.name.0) names ≡ 1 ∷ 2 ∷ []
  pub plain : AllByRecursion (λ n. (n.arity ≡ 0) × (n.kind ≡ Message)) names

abbrev pub IsPlain : CodeEvent → Type 0
IsPlain v = (v.pattern.terms ≡ []) × (v.pattern.change ≡ None)

-- the window is proper where there are two events and no variables
abbrev pub IsNearWindow : List CodeName → Window Sym → Type 0
IsNearWindow names w = IsProperBody (map name_of names) 0 w.body × IsProperAnchor 2 w.from × IsProperAnchor 2 w.to

-- two events of the two messages without variables, and a free point
pub record IsNear (names : List CodeName) (c : CodeChronicle) : Type 0 where
  pub name : c.name.0 ≡ 0
  pub names_two : AreTwo names
  pub symbols : map (λ v. v.pattern.name.0) c.events ≡ 1 ∷ 2 ∷ []
  pub points : map (λ v. v.point.0) c.events ≡ 3 ∷ 4 ∷ []
  pub levels : AllByRecursion (λ v. v.level ≤ 7) c.events
  pub plain : AllByRecursion IsPlain c.events
  pub free : map (λ s. s.0) c.free ≡ 5 ∷ []
  pub variables : c.variables ≡ []
  pub sets : c.sets ≡ []
  pub differs : c.differs ≡ []
  pub emits : c.emits ≡ []
  pub few : length c.bounds ≤ 4
  pub bounds : IsWithin 3 c.bounds
  pub windows_few : length c.windows ≤ 1
  pub windows : AllByRecursion (IsNearWindow names) (map window_of c.windows)

-- what is declared
same_sym : (x y : Sym) → x.0 ≡ y.0 → x ≡ y
same_sym x y e = λ i. record { 0 = e i }

suits : (k : CodeKind) (change : Option (Term Sym × Term Sym)) → k ≡ Message → change ≡ None → Suits (kind_of k) change
suits k change e f = subst (λ (k : CodeKind). Suits (kind_of k) change) (sym e) (subst (λ (x : Option (Term Sym × Term Sym)). Suits (kind_of Message) x) (sym f) tt)

pub declared : (names : List CodeName) (p : Pattern Sym) → AreTwo names → (p.name.0 ≡ 1) ⊎ (p.name.0 ≡ 2) → length p.terms ≡ 0 → p.change ≡ None → IsDeclared (map name_of names) p
declared [] p two which none change = let e = two.symbols in cc
declared (x ∷ []) p two which none change = let e = two.symbols in cc
declared (x ∷ y ∷ names) p two (inl is) none change =
    let e = two.symbols in
    let one : x.name.0 ≡ 1 = cc in
    (name_of x, record { among = inl refl; same = same_sym x.name p.name (one ∙ sym is); arity = two.plain.0.0 ∙ sym none }, suits x.kind p.change two.plain.0.1 change)
declared (x ∷ y ∷ names) p two (inr is) none change =
    let e = two.symbols in
    let other : y.name.0 ≡ 2 = cc in
    (name_of y, record { among = inr (inl refl); same = same_sym y.name p.name (other ∙ sym is); arity = two.plain.1.0.0 ∙ sym none }, suits y.kind p.change two.plain.1.0.1 change)

pub plain_declared : (names : List CodeName) (p : CodePattern) → AreTwo names → (p.name.0 ≡ 1) ⊎ (p.name.0 ≡ 2) → p.terms ≡ [] → p.change ≡ None → IsDeclared (map name_of names) (pattern_of p)
plain_declared names p two which none change = declared names (pattern_of p) two which (rw none refl) (rw change refl)

pub plain_below : (n : ℕ) (p : CodePattern) → p.terms ≡ [] → p.change ≡ None → PatternIsBelow n (pattern_of p)
plain_below n p none change = rw (none, change) (tt, tt)

each_by : {A : Type 0} (F : ℕ → Type 0) (f : A → ℕ) (xs : List A) → AllByRecursion F (map f xs) → AllByRecursion (λ x. F (f x)) xs
each_by F f [] h = tt
each_by F f (x ∷ xs) h = (h.0, each_by F f xs h.1)

-- the chronicle's parts
events_proper : (names : List CodeName) (c : Chronicle Sym) (vs : List CodeEvent) → AreTwo names → AllByRecursion (λ v. (v.pattern.name.0 ≡ 1) ⊎ (v.pattern.name.0 ≡ 2)) vs → AllByRecursion IsPlain vs → AllByRecursion (λ v. v.level ≤ 7) vs
    → AllByRecursion (IsProperEvent (map name_of names) c) (map event_of vs)
events_proper names c [] two which plain low = tt
events_proper names c (v ∷ vs) two which plain low = (
  record { declared = plain_declared names v.pattern two which.0 plain.0.0 plain.0.1; below = plain_below (length c.variables) v.pattern plain.0.0 plain.0.1; level = low.0 },
  events_proper names c vs two which.1 plain.1 low.1,
)

windows_proper : (names : List CodeName) (c : Chronicle Sym) (ws : List (Window Sym)) → length c.events ≡ 2 → length c.variables ≡ 0 → AllByRecursion (IsNearWindow names) ws → AllByRecursion (IsProperWindow (map name_of names) c) ws
windows_proper names c [] two none h = tt
windows_proper names c (w ∷ ws) two none h = (
  record {
    body = subst (λ n. IsProperBody (map name_of names) n w.body) (sym none) h.0.0;
    from = subst (λ n. IsProperAnchor n w.from) (sym two) h.0.1;
    to = subst (λ n. IsProperAnchor n w.to) (sym two) h.0.2;
  },
  windows_proper names c ws two none h.1,
)

has_none : (v : ℕ) (e : CodeEvent) → IsPlain e → pattern_has v (event_of e).pattern ≡ true → ⊥
has_none v e h = rw (h.0, h.1) (λ k. cc)

none_has : (v : ℕ) (es : List CodeEvent) (i : ℕ) (def : EventDef Sym) → AllByRecursion IsPlain es → slice_get (map event_of es) i ≡ Some def → pattern_has v def.pattern ≡ true → ⊥
none_has v [] i def h e k = cc
none_has v (x ∷ xs) zero def h e k = let same : event_of x ≡ def = cc in has_none v x h.0 (subst (λ d. pattern_has v d.pattern ≡ true) (sym same) k)
none_has v (x ∷ xs) (suc i) def h e k = none_has v xs i def h.1 e k

two_events : (names : List CodeName) (c : CodeChronicle) → IsNear names c → length (map event_of c.events) ≡ 2
two_events names c h = let n = simp length-map at (ap length h.points) in rw length-map n

one_point : (names : List CodeName) (c : CodeChronicle) → IsNear names c → length c.free ≡ 1
one_point names c h = simp length-map at (ap length h.free)

pub near_proper : (names : List CodeName) (c : CodeChronicle) → IsNear names c → IsProperChronicle (map name_of names) (chronicle_of c)
near_proper names c h =
    let two : length (map event_of c.events) ≡ 2 = two_events names c h in
    let one : length c.free ≡ 1 = one_point names c h in
    let none : length c.variables ≡ 0 = ap length h.variables in
    let three : length (map event_of c.events) + length c.free ≡ 3 = omega arith in
    record {
      events_some = omega arith;
      events_few = omega arith;
      points_few = omega arith;
      bounds_few = omega arith;
      variables_few = omega arith;
      windows_few = rw length-map (omega arith);
      emits_few = rw h.emits (omega arith);
      within = subst (λ n. IsWithin n c.bounds) (sym three) h.bounds;
      events = events_proper names (chronicle_of c) c.events h.names_two
          (each_by (λ k. (k ≡ 1) ⊎ (k ≡ 2)) (λ v. v.pattern.name.0) c.events (subst (AllByRecursion (λ k. (k ≡ 1) ⊎ (k ≡ 2))) (sym h.symbols) (inl refl, (inr refl, tt)))) h.plain h.levels;
      named = record { stands = λ v l. absurd (omega arith); below = λ v i def g k. absurd (none_has v c.events i def h.plain g k) };
      sets = rw h.sets tt;
      differs = rw h.differs tt;
      windows = windows_proper names (chronicle_of c) (map window_of c.windows) two none h.windows;
      emits = rw h.emits tt;
    }

points_below : (n : ℕ) (vs : List CodeEvent) (free : List Sym) → AllByRecursion (λ v. v.point.0 < n) vs → AllByRecursion (λ s. s.0 < n) free → AllByRecursion (λ s. s.0 < n) (map (λ v. v.point) (map event_of vs) ++ free)
points_below n [] free h k = k
points_below n (v ∷ vs) free h k = (h.0, points_below n vs free h.1 k)

pub near_printable : (names : List CodeName) (c : CodeChronicle) → IsNear names c → (texts : List (List ℕ)) → 5 < length texts → IsPrintable texts (chronicle_of c)
near_printable names c h texts l = record {
  name = omega (arith, h.name);
  points = points_below (length texts) c.events c.free
      (each_by (λ k. k < length texts) (λ v. v.point.0) c.events (subst (AllByRecursion (λ k. k < length texts)) (sym h.points) (omega arith, (omega arith, tt))))
      (each_by (λ k. k < length texts) (λ s. s.0) c.free (subst (AllByRecursion (λ k. k < length texts)) (sym h.free) (omega arith, tt)));
}

-- models of these two messages
arities_none : (names : List CodeName) → AllByRecursion (λ n. (n.arity ≡ 0) × (n.kind ≡ Message)) names → AllByRecursion (λ n. n.arity ≤ 8) (map name_of names)
arities_none [] h = tt
arities_none (n ∷ names) h = (omega (arith, h.0.0), arities_none names h.1)

-- chronicles without emits are in order
none_in : {A : Type 0} (x : A) (xs : List A) → xs ≡ [] → IsIn x xs → ⊥
none_in x xs e i = subst (IsIn x) e i

quiet_in_order : (cs : List CodeChronicle) → AllByRecursion (λ c. c.emits ≡ []) cs → AreInOrder (map chronicle_of cs)
quiet_in_order [] h = tt
quiet_in_order (c ∷ cs) h = (
  (λ d i feeds.
      let r = in_map_back chronicle_of (c ∷ cs) d i in
      let quiet = in_from_each (λ c. c.emits ≡ []) (c ∷ cs) h r.0 r.1 in
      let fed : Feeds (chronicle_of r.0) (chronicle_of c) = subst (λ (z : Chronicle Sym). Feeds z (chronicle_of c)) r.2 feeds in
      none_in fed.0 (emitted (chronicle_of r.0)) (rw quiet refl) fed.1),
  quiet_in_order cs h.1,
)

pub together_proper : (m : CodeModels) → AreTwo m.names → m.derived ≡ [] → length m.chronicles ≤ 64 → AllByRecursion (λ c. c.emits ≡ []) m.chronicles → AllByRecursion (IsProperChronicle (map name_of m.names)) (map chronicle_of m.chronicles) → AreProper (models_of m)
together_proper m two none few quiet h =
    let n : length (map (λ n. n.name.0) m.names) ≡ 2 = ap length two.symbols in
    let k = simp length-map at n in
    let a : length (map name_of m.names) ≡ 2 = rw length-map k in
    let d : length (map name_of m.derived) ≡ 0 = ap (λ ns. length (map name_of ns)) none in
    let one : map name_of m.names ++ map name_of m.derived ≡ map name_of m.names = rw none (append-nil (map name_of m.names)) in
    record {
      names_few = omega (arith, a, d);
      arities = subst (AllByRecursion (λ (n : Name Sym). n.arity ≤ 8)) (sym one) (arities_none m.names two.plain);
      chronicles_few = rw length-map (omega arith);
      chronicles = subst (λ ns. AllByRecursion (IsProperChronicle ns) (map chronicle_of m.chronicles)) (sym one) h;
      in_order = quiet_in_order m.chronicles quiet;
    }
