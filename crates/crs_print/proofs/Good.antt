-- What is kept of a chronicle that is read without fault, in words that don't depend on the order of its lines.
use Rattle.std.proofs.Common.{◌≡◌, ℕ, ◌+◌, ◌≤◌, Bool, true, false, cond, not, ◌&&◌, ◌==◌, nat_lt, ◌||◌, List, [], ◌∷◌, ◌++◌, map, length, Option, Some, None, refl, ap, ◌∙◌, true≢false}
use Rattle.std.specs.List.{AllByRecursion, flat_map}
use Rattle.std.proofs.lemmas.Bool.{or_left, or_right}
use Rattle.crs_base.specs.Symbols.{is_known, with_texts}
use Rattle.crs_base.proofs.Alls.{all_put, all_each}
use Rattle.crs_parse.specs.Faults.{Name, Written, is_of, event_points, is_point, name_of, variables_of, is_unnamed, is_misfit, is_beyond, is_not_derived, is_no_attribute, has_other_arity, holds_beyond, is_above, has_no_name, has_wrong_arity, has_wrong_value, has_no_variable, has_no_point, is_out_of_bounds, has_any, is_unbound, body_has_no_name, body_has_wrong_arity, body_has_wrong_value, symbols_of, with_statement}
use Rattle.crs_parse.specs.Meant.{points_of}
use Rattle.crs_base.proofs.DistinctTexts.{Distinct}
use Rattle.crs_grammar.specs.Statements.{Body, NoEvent, Occurs, Hold, Heading, Statement, Message, Attribute, Derived, Begin, Happens, Point, Between, Among, Differ, Over, Emits, Close}
use Rattle.crs_print.proofs.Lines.{Writable}

-- the statement can be written, and its symbols are among these texts
pub record IsFit (texts : List (List ℕ)) (s : Statement) : Type 0 where
  pub writable : Writable s
  pub known : AllByRecursion (λ t. is_known texts t ≡ true) (symbols_of s)

-- no word that looks at the declared names applies
pub record IsSuited (names : List Name) (s : Statement) : Type 0 where
  pub name : has_no_name names s ≡ false
  pub arity : has_wrong_arity names s ≡ false
  pub value : has_wrong_value names s ≡ false

-- a level or a list of values past its limit
abbrev pub is_large : Statement → Bool
is_large (Happens e) = is_above 7 e.level
is_large (Among x values) = nat_lt 64 (length values)
is_large _ = false

-- no word applies to the statement in the chronicle, apart from those that count, or that look for the same once more
pub record IsFine (texts : List (List ℕ)) (names : List Name) (c : Written) (s : Statement) : Type 0 where
  pub fit : IsFit texts s
  pub suited : IsSuited names s
  pub variable : has_no_variable c s ≡ false
  pub point : has_no_point c s ≡ false
  pub bound : is_out_of_bounds s ≡ false
  pub window : has_any s ≡ false
  pub large : is_large s ≡ false

-- what holds of each statement of a chronicle
pub record AreAll (P : Statement → Type 0) (c : Written) : Type 0 where
  pub events : AllByRecursion (λ e. P (Happens e)) c.events
  pub free : AllByRecursion (λ t. P (Point t)) c.free
  pub bounds : AllByRecursion (λ d. P (Between d)) c.bounds
  pub sets : AllByRecursion (λ s. P (Among s.0 s.1)) c.sets
  pub differs : AllByRecursion (λ d. P (Differ d.0 d.1)) c.differs
  pub windows : AllByRecursion (λ w. P (Over w)) c.windows
  pub emits : AllByRecursion (λ e. P (Emits e)) c.emits

pub record IsFew (c : Written) : Type 0 where
  pub events : length c.events ≤ 16
  pub points : length c.events + length c.free ≤ 24
  pub variables : length c.variables ≤ 16
  pub bounds : length c.bounds ≤ 256
  pub differs : length c.differs ≤ 64
  pub windows : length c.windows ≤ 16
  pub emits : length c.emits ≤ 8

-- the first line of a chronicle
abbrev pub heading_of : Written → Heading
heading_of c = record { prompt = c.prompt; name = c.name }

pub record IsGood (texts : List (List ℕ)) (names : List Name) (c : Written) : Type 0 where
  pub begins : IsFit texts (Begin (heading_of c))
  pub all : AreAll (IsFine texts names c) c
  pub points : Distinct (points_of c)
  pub sets : Distinct (map (λ s. s.0) c.sets)
  pub variables : c.variables ≡ with_texts [] (flat_map (λ e. variables_of e.pattern) c.events)
  pub few : IsFew c

-- a closed one
pub record IsDone (texts : List (List ℕ)) (names : List Name) (c : Written) : Type 0 where
  pub good : IsGood texts names c
  pub some : (length c.events == 0) ≡ false
  pub bound : is_unbound c Close ≡ false

pub each_of : (P Q : Statement → Type 0) (c : Written) → ((s : Statement) → P s → Q s) → AreAll P c → AreAll Q c
each_of P Q c f h = record {
  events = all_each c.events (λ e k. f (Happens e) k) h.events;
  free = all_each c.free (λ t k. f (Point t) k) h.free;
  bounds = all_each c.bounds (λ d k. f (Between d) k) h.bounds;
  sets = all_each c.sets (λ s k. f (Among s.0 s.1) k) h.sets;
  differs = all_each c.differs (λ d k. f (Differ d.0 d.1) k) h.differs;
  windows = all_each c.windows (λ w k. f (Over w) k) h.windows;
  emits = all_each c.emits (λ e k. f (Emits e) k) h.emits;
}

pub one_more_of : (P : Statement → Type 0) (c : Written) (s : Statement) → AreAll P c → P s → AreAll P (with_statement c s)
one_more_of P c (Message name arity) h p = h
one_more_of P c (Attribute name arity values) h p = h
one_more_of P c (Derived name arity) h p = h
one_more_of P c (Begin heading) h p = h
one_more_of P c Close h p = h
one_more_of P c (Happens e) h p = record { events = all_put (λ e. P (Happens e)) c.events e h.events p; free = h.free; bounds = h.bounds; sets = h.sets; differs = h.differs; windows = h.windows; emits = h.emits }
one_more_of P c (Point t) h p = record { events = h.events; free = all_put (λ t. P (Point t)) c.free t h.free p; bounds = h.bounds; sets = h.sets; differs = h.differs; windows = h.windows; emits = h.emits }
one_more_of P c (Between d) h p = record { events = h.events; free = h.free; bounds = all_put (λ d. P (Between d)) c.bounds d h.bounds p; sets = h.sets; differs = h.differs; windows = h.windows; emits = h.emits }
one_more_of P c (Among x vs) h p = record { events = h.events; free = h.free; bounds = h.bounds; sets = all_put (λ s. P (Among s.0 s.1)) c.sets (x, vs) h.sets p; differs = h.differs; windows = h.windows; emits = h.emits }
one_more_of P c (Differ x y) h p = record { events = h.events; free = h.free; bounds = h.bounds; sets = h.sets; differs = all_put (λ d. P (Differ d.0 d.1)) c.differs (x, y) h.differs p; windows = h.windows; emits = h.emits }
one_more_of P c (Over w) h p = record { events = h.events; free = h.free; bounds = h.bounds; sets = h.sets; differs = h.differs; windows = all_put (λ w. P (Over w)) c.windows w h.windows p; emits = h.emits }
one_more_of P c (Emits e) h p = record { events = h.events; free = h.free; bounds = h.bounds; sets = h.sets; differs = h.differs; windows = h.windows; emits = all_put (λ e. P (Emits e)) c.emits e h.emits p }

-- With more names.

found_by : (b : Bool) (m : Name) (o p : Option Name) → is_unnamed (cond b (Some m) o) ≡ false → (is_unnamed o ≡ false → p ≡ o) → cond b (Some m) p ≡ cond b (Some m) o
found_by true m o p h rest = refl
found_by false m o p h rest = rest h

found_more : (names more : List Name) (t : List ℕ) → is_unnamed (name_of names t) ≡ false → name_of (names ++ more) t ≡ name_of names t
found_more [] more t h = absurd (true≢false h)
found_more (m ∷ ms) more t h = found_by _ m (name_of ms t) (name_of (ms ++ more) t) h (found_more ms more t)

attribute_named : (o : Option Name) → is_no_attribute o ≡ false → is_unnamed o ≡ false
attribute_named None h = h
attribute_named (Some n) h = refl

derived_named : (o : Option Name) → is_not_derived o ≡ false → is_unnamed o ≡ false
derived_named None h = h
derived_named (Some n) h = refl

suited_body : (names more : List Name) (b : Body) → body_has_no_name names b ≡ false → body_has_wrong_arity names b ≡ false → body_has_wrong_value names b ≡ false
    → (body_has_no_name (names ++ more) b ≡ false) × (body_has_wrong_arity (names ++ more) b ≡ false) × (body_has_wrong_value (names ++ more) b ≡ false)
suited_body names more (NoEvent p) h k l =
    let same = found_more names more p.name h in (ap is_unnamed same ∙ h, ap (λ o. is_misfit o p) same ∙ k, ap (λ o. is_beyond o p.change) same ∙ l)
suited_body names more (Occurs least most p) h k l =
    let same = found_more names more p.name h in (ap is_unnamed same ∙ h, ap (λ o. is_misfit o p) same ∙ k, ap (λ o. is_beyond o p.change) same ∙ l)
suited_body names more (Hold name terms value) h k l =
    let same = found_more names more name (attribute_named (name_of names name) h) in
    (ap is_no_attribute same ∙ h, ap (λ o. has_other_arity o terms) same ∙ k, ap (λ o. holds_beyond o value) same ∙ l)

suited_more : (names more : List Name) (s : Statement) → IsSuited names s → IsSuited (names ++ more) s
suited_more names more (Happens e) h =
    let same = found_more names more e.pattern.name h.name in
    record { name = ap is_unnamed same ∙ h.name; arity = ap (λ o. is_misfit o e.pattern) same ∙ h.arity; value = ap (λ o. is_beyond o e.pattern.change) same ∙ h.value }
suited_more names more (Over w) h = let k = suited_body names more w.body h.name h.arity h.value in record { name = k.0; arity = k.1; value = k.2 }
suited_more names more (Emits e) h =
    let same = found_more names more e.pattern.name (derived_named (name_of names e.pattern.name) h.name) in
    record { name = ap is_not_derived same ∙ h.name; arity = ap (λ o. is_misfit o e.pattern) same ∙ h.arity; value = refl }
suited_more names more _ h = record { name = refl; arity = refl; value = refl }

-- In a chronicle with more points and variables.

pub record Grows (c d : Written) : Type 0 where
  pub points : (t : List ℕ) → is_of (event_points c) t ≡ true → is_of (event_points d) t ≡ true
  pub free : (t : List ℕ) → is_of c.free t ≡ true → is_of d.free t ≡ true
  pub variables : (t : List ℕ) → is_of c.variables t ≡ true → is_of d.variables t ≡ true

both_true : (a b c d : Bool) → (a ≡ true → c ≡ true) → (b ≡ true → d ≡ true) → not (a && b) ≡ false → not (c && d) ≡ false
both_true true true c d f g h = λ i. not (f refl i && g refl i)
both_true true false c d f g h = absurd (true≢false h)
both_true false b c d f g h = absurd (true≢false h)

either_true : (a b c d : Bool) → (a ≡ true → c ≡ true) → (b ≡ true → d ≡ true) → (a || b) ≡ true → (c || d) ≡ true
either_true true b c d f g h = or_left c d (f refl)
either_true false b c d f g h = or_right c d (g h)

point_more : (c d : Written) → Grows c d → (t : List ℕ) → is_point c t ≡ true → is_point d t ≡ true
point_more c d g t h = either_true (is_of (event_points c) t) (is_of c.free t) (is_of (event_points d) t) (is_of d.free t) (g.points t) (g.free t) h

placed : (c d : Written) (s : Statement) → Grows c d → has_no_point c s ≡ false → has_no_point d s ≡ false
placed c d (Between b) g h = both_true (is_point c b.to) (is_point c b.from) (is_point d b.to) (is_point d b.from) (point_more c d g b.to) (point_more c d g b.from) h
placed c d (Over w) g h = both_true (is_of (event_points c) w.from.point) (is_of (event_points c) w.to.point) (is_of (event_points d) w.from.point) (is_of (event_points d) w.to.point) (g.points w.from.point) (g.points w.to.point) h
placed c d (Emits e) g h = by (is_of (event_points c) e.point) (is_of (event_points d) e.point) (g.points e.point) h
  where
    by : (a b : Bool) → (a ≡ true → b ≡ true) → not a ≡ false → not b ≡ false
    by true b f h = ap not (f refl)
    by false b f h = absurd (true≢false h)
placed c d _ g h = refl

bound_in : (c d : Written) (s : Statement) → Grows c d → has_no_variable c s ≡ false → has_no_variable d s ≡ false
bound_in c d (Among x vs) g h = by (is_of c.variables x) (is_of d.variables x) (g.variables x) h
  where
    by : (a b : Bool) → (a ≡ true → b ≡ true) → not a ≡ false → not b ≡ false
    by true b f h = ap not (f refl)
    by false b f h = absurd (true≢false h)
bound_in c d (Differ x y) g h = both_true (is_of c.variables x) (is_of c.variables y) (is_of d.variables x) (is_of d.variables y) (g.variables x) (g.variables y) h
bound_in c d _ g h = refl

pub fine_in : (texts : List (List ℕ)) (names : List Name) (c d : Written) (s : Statement) → Grows c d → IsFine texts names c s → IsFine texts names d s
fine_in texts names c d s g h = record { fit = h.fit; suited = h.suited; variable = bound_in c d s g h.variable; point = placed c d s g h.point; bound = h.bound; window = h.window; large = h.large }

fine_named : (texts : List (List ℕ)) (names more : List Name) (c : Written) (s : Statement) → IsFine texts names c s → IsFine texts (names ++ more) c s
fine_named texts names more c s h = record { fit = h.fit; suited = suited_more names more s h.suited; variable = h.variable; point = h.point; bound = h.bound; window = h.window; large = h.large }

pub good_named : (texts : List (List ℕ)) (names more : List Name) (c : Written) → IsGood texts names c → IsGood texts (names ++ more) c
good_named texts names more c h = record { begins = h.begins; all = each_of (IsFine texts names c) (IsFine texts (names ++ more) c) c (fine_named texts names more c) h.all; points = h.points; sets = h.sets; variables = h.variables; few = h.few }

pub done_named : (texts : List (List ℕ)) (names more : List Name) (c : Written) → IsDone texts names c → IsDone texts (names ++ more) c
done_named texts names more c h = record { good = good_named texts names more c h.good; some = h.some; bound = h.bound }
