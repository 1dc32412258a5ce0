-- What holds of each chronicle of a reading to which no word applied.
use Rattle.std.proofs.Common.{◌≡◌, ℕ, zero, suc, ◌+◌, ◌≤◌, ◌<◌, ◌==◌, Bool, true, false, cond, not, ◌||◌, ◌&&◌, List, [], ◌∷◌, ◌++◌, map, length, Option, Some, None, refl, sym, ap, ◌∙◌, arith, length-append, true≢false, eqb-true, inl, inr}
use Rattle.std.specs.Prelude.{bytes_eq}
use Rattle.std.specs.List.{AllByRecursion, list_any}
use Rattle.std.proofs.lemmas.List.{map-append}
use Rattle.std.proofs.lemmas.List.Folds.{list_any-append}
use Rattle.std.proofs.lemmas.Bool.{or_left, or_parts, and_parts}
use Rattle.crs_base.specs.Words.{IsIn}
use Rattle.crs_base.specs.Symbols.{with_texts}
use Rattle.crs_base.proofs.Words.{in_append_left}
use Rattle.crs_base.proofs.Texts.{bytes_same, same_bytes}
use Rattle.crs_base.proofs.Alls.{all_put, all_each}
use Rattle.crs_grammar.specs.Statements.{Term, Pattern, Event, Body, NoEvent, Occurs, Hold, Heading, Statement, Message, Attribute, Derived, Begin, Happens, Point, Between, Among, Differ, Over, Emits, Close}
use Rattle.crs_parse.specs.Faults.{Kind, OfMessage, OfAttribute, OfDerived, Name, Written, is_of, name_of, suits, is_attribute, is_derived, is_unnamed, is_not_derived, is_misfit, is_no_attribute, has_other_arity, is_point, event_points, variables_of, pattern_lacks, body_lacks, with_statement, begun, body_has_no_name, body_has_wrong_arity}
use Rattle.crs_base.proofs.WithTexts.{all_with, known_behind, known_put, known_left}
use Rattle.crs_parse.proofs.Faultless.{IsFaultless, not_false, not_le}
use Rattle.crs_parse.proofs.HeldParts.{room_of}
use Rattle.crs_base.proofs.DistinctTexts.{Distinct, with_distinct}

found_step : (b : Bool) (n m : Name) (o : Option Name) (t : List ℕ) (ms : List Name) → bytes_eq t m.name ≡ b → cond b (Some m) o ≡ Some n → (o ≡ Some n → IsIn n ms × (n.name ≡ t)) → IsIn n (m ∷ ms) × (n.name ≡ t)
found_step true n m o t ms h e rest = let same : n ≡ m = cc in (inl same, ap (λ x. x.name) same ∙ sym (bytes_same t m.name h))
found_step false n m o t ms h e rest = let k = rest e in (inr k.0, k.1)

-- a declaration that is found
found_name : (names : List Name) (t : List ℕ) (n : Name) → name_of names t ≡ Some n → IsIn n names × (n.name ≡ t)
found_name [] t n e = cc
found_name (m ∷ ms) t n e = found_step (bytes_eq t m.name) n m (name_of ms t) t ms refl e (found_name ms t n)

-- a declaration of a name with a count of terms
pub record Declares (names : List Name) (name : List ℕ) (terms : ℕ) (n : Name) : Type 0 where
  pub among : IsIn n names
  pub same : n.name ≡ name
  pub arity : n.arity ≡ terms

abbrev pub IsDeclared : List Name → Pattern → Type 0
IsDeclared names p = (n : Name) × Declares names p.name (length p.terms) n × (suits n.kind p.change ≡ true)

abbrev pub IsDeclaredBody : List Name → Body → Type 0
IsDeclaredBody names (NoEvent p) = IsDeclared names p
IsDeclaredBody names (Occurs least most p) = IsDeclared names p
IsDeclaredBody names (Hold name terms value) = (n : Name) × Declares names name (length terms) n × (is_attribute n.kind ≡ true)

declared_by : (names : List Name) (p : Pattern) (o : Option Name) → name_of names p.name ≡ o → is_unnamed o ≡ false → is_misfit o p ≡ false → IsDeclared names p
declared_by names p None e h k = absurd (true≢false h)
declared_by names p (Some n) e h k =
    let f = found_name names p.name n e in
    let a = or_parts (not (length p.terms == n.arity)) (not (suits n.kind p.change)) k in
    (n, record { among = f.0; same = f.1; arity = sym (eqb-true (length p.terms) n.arity (not_false (length p.terms == n.arity) a.0)) }, not_false (suits n.kind p.change) a.1)

pattern_declared : (names : List Name) (p : Pattern) → is_unnamed (name_of names p.name) ≡ false → is_misfit (name_of names p.name) p ≡ false → IsDeclared names p
pattern_declared names p h k = declared_by names p (name_of names p.name) refl h k

-- an `emit`'s pattern is of a declared name, and has no change
abbrev pub IsEmitted : List Name → Pattern → Type 0
IsEmitted names p = IsDeclared names p × (p.change ≡ None)

plain_change : (k : Kind) (c : Option (Term × Term)) → is_derived k ≡ true → suits k c ≡ true → c ≡ None
plain_change OfMessage c h e = absurd (true≢false (sym h))
plain_change (OfAttribute values) c h e = absurd (true≢false (sym h))
plain_change OfDerived None h e = refl
plain_change OfDerived (Some c) h e = absurd (true≢false (sym e))

emitted_by : (names : List Name) (p : Pattern) (o : Option Name) → name_of names p.name ≡ o → is_not_derived o ≡ false → is_misfit o p ≡ false → IsEmitted names p
emitted_by names p None e h k = absurd (true≢false h)
emitted_by names p (Some n) e h k =
    let d = declared_by names p (Some n) e refl k in
    (d, plain_change n.kind p.change (not_false (is_derived n.kind) h) (not_false (suits n.kind p.change) (or_parts (not (length p.terms == n.arity)) (not (suits n.kind p.change)) k).1))

pattern_emitted : (names : List Name) (p : Pattern) → is_not_derived (name_of names p.name) ≡ false → is_misfit (name_of names p.name) p ≡ false → IsEmitted names p
pattern_emitted names p h k = emitted_by names p (name_of names p.name) refl h k

hold_declared : (names : List Name) (name : List ℕ) (terms : List Term) (value : Term) (o : Option Name) → name_of names name ≡ o → is_no_attribute o ≡ false → has_other_arity o terms ≡ false → IsDeclaredBody names (Hold name terms value)
hold_declared names name terms value None e h k = absurd (true≢false h)
hold_declared names name terms value (Some n) e h k =
    let f = found_name names name n e in
    (n, record { among = f.0; same = f.1; arity = sym (eqb-true (length terms) n.arity (not_false (length terms == n.arity) k)) }, not_false (is_attribute n.kind) h)

body_declared : (names : List Name) (b : Body) → body_has_no_name names b ≡ false → body_has_wrong_arity names b ≡ false → IsDeclaredBody names b
body_declared names (NoEvent p) h k = pattern_declared names p h k
body_declared names (Occurs least most p) h k = pattern_declared names p h k
body_declared names (Hold name terms value) h k = hold_declared names name terms value (name_of names name) refl h k

more_declares : (names more : List Name) (name : List ℕ) (terms : ℕ) (n : Name) → Declares names name terms n → Declares (names ++ more) name terms n
more_declares names more name terms n h = record { among = in_append_left names more n h.among; same = h.same; arity = h.arity }

more_declared : (names more : List Name) (p : Pattern) → IsDeclared names p → IsDeclared (names ++ more) p
more_declared names more p h = (h.0, more_declares names more p.name (length p.terms) h.0 h.1, h.2)

more_body : (names more : List Name) (b : Body) → IsDeclaredBody names b → IsDeclaredBody (names ++ more) b
more_body names more (NoEvent p) h = more_declared names more p h
more_body names more (Occurs least most p) h = more_declared names more p h
more_body names more (Hold name terms value) h = (h.0, more_declares names more name (length terms) h.0 h.1, h.2)

-- these texts are all there
abbrev pub AreOf : List (List ℕ) → List (List ℕ) → Type 0
AreOf texts ts = AllByRecursion (λ t. is_of texts t ≡ true) ts

-- a text stands among the variables of some event
abbrev pub stands_in : List Event → List ℕ → Bool
stands_in es t = list_any (λ e. is_of (variables_of e.pattern) t) es

-- a chronicle on the way
pub record IsSound (names : List Name) (c : Written) : Type 0 where
  pub events_few : length c.events ≤ 16
  pub bounds_few : length c.bounds ≤ 256
  pub windows_few : length c.windows ≤ 16
  pub emits_few : length c.emits ≤ 8
  pub distinct : Distinct c.variables
  pub events : AllByRecursion (λ e. IsDeclared names e.pattern × AreOf c.variables (variables_of e.pattern)) c.events
  pub stand : AllByRecursion (λ x. stands_in c.events x ≡ true) c.variables
  pub bounds : AllByRecursion (λ d. (is_point c d.to ≡ true) × (is_point c d.from ≡ true)) c.bounds
  pub sets : AllByRecursion (λ s. is_of c.variables s.0 ≡ true) c.sets
  pub differs : AllByRecursion (λ d. (is_of c.variables d.0 ≡ true) × (is_of c.variables d.1 ≡ true)) c.differs
  pub windows : AllByRecursion (λ w. IsDeclaredBody names w.body × (is_of (event_points c) w.from.point ≡ true) × (is_of (event_points c) w.to.point ≡ true)) c.windows
  pub emits : AllByRecursion (λ e. IsEmitted names e.pattern × (is_of (event_points c) e.point ≡ true)) c.emits

-- a closed one
pub record IsWhole (names : List Name) (c : Written) : Type 0 where
  pub sound : IsSound names c
  pub some : 0 < length c.events
  pub bound : AllByRecursion (λ w. body_lacks c.variables w.body ≡ false) c.windows
  pub bound_emits : AllByRecursion (λ e. pattern_lacks c.variables e.pattern ≡ false) c.emits

-- Texts that are put behind others.

-- a list's own texts
own_more : (u : List ℕ) (us ts : List (List ℕ)) → AreOf us ts → AreOf (u ∷ us) ts
own_more u us [] h = tt
own_more u us (t ∷ ts) h = (or_right (bytes_eq t u) (is_of us t) h.0, own_more u us ts h.1)
  where
    or_right : (a b : Bool) → b ≡ true → (a || b) ≡ true
    or_right true b e = refl
    or_right false b e = e

pub own : (ts : List (List ℕ)) → AreOf ts ts
own [] = tt
own (t ∷ ts) = (ap (λ b. b || is_of ts t) (same_bytes t), own_more t ts ts (own ts))

or_last : (a b : Bool) → b ≡ true → (a || (b || false)) ≡ true
or_last true b e = refl
or_last false true e = refl
or_last false false e = e

-- a text of the points, where each of these is one of those
both_points : (a b x y : Bool) → (a ≡ true → x ≡ true) → (b ≡ true → y ≡ true) → (a || b) ≡ true → (x || y) ≡ true
both_points true b x y f g h = ap (λ z. z || y) (f refl)
both_points false b true y f g h = refl
both_points false b false y f g h = g h

points_more : (c d : Written) → ((t : List ℕ) → is_of (event_points c) t ≡ true → is_of (event_points d) t ≡ true) → ((t : List ℕ) → is_of c.free t ≡ true → is_of d.free t ≡ true)
    → (t : List ℕ) → is_point c t ≡ true → is_point d t ≡ true
points_more c d f g t h = both_points (is_of (event_points c) t) (is_of c.free t) (is_of (event_points d) t) (is_of d.free t) (f t) (g t) h

pub event_points_more : (es : List Event) (e : Event) (t : List ℕ) → is_of (map (λ v. v.point) es) t ≡ true → is_of (map (λ v. v.point) (es ++ e ∷ [])) t ≡ true
event_points_more es e t h = ap (λ l. is_of l t) (map-append (λ (v : Event). v.point) es (e ∷ [])) ∙ known_left (map (λ v. v.point) es) (e.point ∷ []) t h

module _ (full : Bool) (names : List Name) (done : List (ℕ × Written)) (c : Written) where
  happens_sound : (e : Event) → IsFaultless full names done c (Happens e) → IsSound names c → IsSound names (with_statement c (Happens e))
  happens_sound e f k =
      let room = room_of [] (record c { variables = with_texts c.variables (variables_of e.pattern) }) e.level f.count in
      let few = room.events in
      let more : length (c.events ++ e ∷ []) ≡ length c.events + 1 = length-append c.events (e ∷ []) in
      let old : (t : List ℕ) → is_of c.variables t ≡ true → is_of (with_texts c.variables (variables_of e.pattern)) t ≡ true = known_behind c.variables (variables_of e.pattern) in
      record {
        events_few = omega (arith, more, few);
        bounds_few = k.bounds_few;
        windows_few = k.windows_few;
        distinct = with_distinct c.variables (variables_of e.pattern) k.distinct;
        events = all_put (λ v. IsDeclared names v.pattern × AreOf (with_texts c.variables (variables_of e.pattern)) (variables_of v.pattern)) c.events e
            (all_each c.events (λ v h. (h.0, all_each (variables_of v.pattern) old h.1)) k.events)
            (pattern_declared names e.pattern f.name f.arity, known_put c.variables (variables_of e.pattern));
        stand = all_with (λ x. stands_in (c.events ++ e ∷ []) x ≡ true) c.variables (variables_of e.pattern)
            (all_each c.variables (λ x h. list_any-append (λ v. is_of (variables_of v.pattern) x) c.events (e ∷ []) ∙ or_left (stands_in c.events x) (is_of (variables_of e.pattern) x || false) h) k.stand)
            (all_each (variables_of e.pattern) (λ x h. list_any-append (λ v. is_of (variables_of v.pattern) x) c.events (e ∷ []) ∙ or_last (stands_in c.events x) (is_of (variables_of e.pattern) x) h) (own (variables_of e.pattern)));
        bounds = all_each c.bounds (λ d h. (point_more d.to h.0, point_more d.from h.1)) k.bounds;
        sets = all_each c.sets (λ s h. old s.0 h) k.sets;
        differs = all_each c.differs (λ d h. (old d.0 h.0, old d.1 h.1)) k.differs;
        windows = all_each c.windows (λ w h. (h.0, event_points_more c.events e w.from.point h.1, event_points_more c.events e w.to.point h.2)) k.windows;
        emits_few = k.emits_few;
        emits = all_each c.emits (λ x h. (h.0, event_points_more c.events e x.point h.1)) k.emits;
      }
    where
      point_more : (t : List ℕ) → is_point c t ≡ true → is_point (with_statement c (Happens e)) t ≡ true
      point_more = points_more c (with_statement c (Happens e)) (event_points_more c.events e) (λ t h. h)

  pub sound_next : (s : Statement) → IsFaultless full names done c s → IsSound names c → IsSound names (with_statement c s)
  sound_next (Message name arity) f k = k
  sound_next (Attribute name arity values) f k = k
  sound_next (Begin heading) f k = k
  sound_next (Derived name arity) f k = k
  sound_next Close f k = k
  sound_next (Happens e) f k = happens_sound e f k
  sound_next (Point name) f k = record {
    events_few = k.events_few;
    bounds_few = k.bounds_few;
    windows_few = k.windows_few;
    distinct = k.distinct;
    events = k.events;
    stand = k.stand;
    bounds = all_each c.bounds (λ d h. (point_more d.to h.0, point_more d.from h.1)) k.bounds;
    sets = k.sets;
    differs = k.differs;
    windows = k.windows;
    emits_few = k.emits_few;
    emits = k.emits;
  }
    where
      point_more : (t : List ℕ) → is_point c t ≡ true → is_point (with_statement c (Point name)) t ≡ true
      point_more = points_more c (with_statement c (Point name)) (λ t h. h) (λ t h. known_left c.free (name ∷ []) t h)
  sound_next (Between d) f k =
      let more : length (c.bounds ++ d ∷ []) ≡ length c.bounds + 1 = length-append c.bounds (d ∷ []) in
      let few = not_le 256 (length c.bounds) f.count in
      record {
        events_few = k.events_few;
        bounds_few = omega (arith, more, few);
        windows_few = k.windows_few;
        distinct = k.distinct;
        events = k.events;
        stand = k.stand;
        bounds = all_put (λ d. (is_point c d.to ≡ true) × (is_point c d.from ≡ true)) c.bounds d k.bounds (and_parts (is_point c d.to) (is_point c d.from) (not_false (is_point c d.to && is_point c d.from) f.point));
        sets = k.sets;
        differs = k.differs;
        windows = k.windows;
        emits_few = k.emits_few;
        emits = k.emits;
      }
  sound_next (Among x values) f k = record {
    events_few = k.events_few;
    bounds_few = k.bounds_few;
    windows_few = k.windows_few;
    distinct = k.distinct;
    events = k.events;
    stand = k.stand;
    bounds = k.bounds;
    sets = all_put (λ s. is_of c.variables s.0 ≡ true) c.sets (x, values) k.sets (not_false (is_of c.variables x) f.variable);
    differs = k.differs;
    windows = k.windows;
    emits_few = k.emits_few;
    emits = k.emits;
  }
  sound_next (Differ x y) f k = record {
    events_few = k.events_few;
    bounds_few = k.bounds_few;
    windows_few = k.windows_few;
    distinct = k.distinct;
    events = k.events;
    stand = k.stand;
    bounds = k.bounds;
    sets = k.sets;
    differs = all_put (λ d. (is_of c.variables d.0 ≡ true) × (is_of c.variables d.1 ≡ true)) c.differs (x, y) k.differs (and_parts (is_of c.variables x) (is_of c.variables y) (not_false (is_of c.variables x && is_of c.variables y) f.variable));
    windows = k.windows;
    emits_few = k.emits_few;
    emits = k.emits;
  }
  sound_next (Over w) f k =
      let more : length (c.windows ++ w ∷ []) ≡ length c.windows + 1 = length-append c.windows (w ∷ []) in
      let few = not_le 16 (length c.windows) f.count in
      let ends = and_parts (is_of (event_points c) w.from.point) (is_of (event_points c) w.to.point) (not_false (is_of (event_points c) w.from.point && is_of (event_points c) w.to.point) f.point) in
      record {
        events_few = k.events_few;
        bounds_few = k.bounds_few;
        windows_few = omega (arith, more, few);
        distinct = k.distinct;
        events = k.events;
        stand = k.stand;
        bounds = k.bounds;
        sets = k.sets;
        differs = k.differs;
        windows = all_put (λ v. IsDeclaredBody names v.body × (is_of (event_points c) v.from.point ≡ true) × (is_of (event_points c) v.to.point ≡ true)) c.windows w k.windows (body_declared names w.body f.name f.arity, ends.0, ends.1);
        emits_few = k.emits_few;
        emits = k.emits;
      }
  sound_next (Emits e) f k =
      let more : length (c.emits ++ e ∷ []) ≡ length c.emits + 1 = length-append c.emits (e ∷ []) in
      let few = not_le 8 (length c.emits) f.count in
      record {
        events_few = k.events_few;
        bounds_few = k.bounds_few;
        windows_few = k.windows_few;
        emits_few = omega (arith, more, few);
        distinct = k.distinct;
        events = k.events;
        stand = k.stand;
        bounds = k.bounds;
        sets = k.sets;
        differs = k.differs;
        windows = k.windows;
        emits = all_put (λ v. IsEmitted names v.pattern × (is_of (event_points c) v.point ≡ true)) c.emits e k.emits (pattern_emitted names e.pattern f.name f.arity, not_false (is_of (event_points c) e.point) f.point);
      }

  not_zero : (n : ℕ) → (n == 0) ≡ false → 0 < n
  not_zero zero e = cc
  not_zero (suc n) e = omega arith

  none_of : {A : Type 0} (p : A → Bool) (xs : List A) → list_any p xs ≡ false → AllByRecursion (λ x. p x ≡ false) xs
  none_of p [] h = tt
  none_of p (x ∷ xs) h = let k = or_parts (p x) (list_any p xs) h in (k.0, none_of p xs k.1)

  unbound_parts : IsFaultless full names done c Close → (list_any (λ w. body_lacks c.variables w.body) c.windows ≡ false) × (list_any (λ e. pattern_lacks c.variables e.pattern) c.emits ≡ false)
  unbound_parts f = or_parts (list_any (λ w. body_lacks c.variables w.body) c.windows) (list_any (λ e. pattern_lacks c.variables e.pattern) c.emits) f.unbound

  pub closed_whole : IsFaultless full names done c Close → IsSound names c → IsWhole names c
  closed_whole f k = record { sound = k; some = not_zero (length c.events) f.events; bound = none_of (λ w. body_lacks c.variables w.body) c.windows (unbound_parts f).0; bound_emits = none_of (λ e. pattern_lacks c.variables e.pattern) c.emits (unbound_parts f).1 }

pub begun_sound : (names : List Name) (heading : Heading) → IsSound names (begun heading)
begun_sound names heading = record { events_few = omega arith; bounds_few = omega arith; windows_few = omega arith; emits_few = omega arith; distinct = tt; events = tt; stand = tt; bounds = tt; sets = tt; differs = tt; windows = tt; emits = tt }

-- with more names
pub more_sound : (names more : List Name) (c : Written) → IsSound names c → IsSound (names ++ more) c
more_sound names more c k = record {
  events_few = k.events_few;
  bounds_few = k.bounds_few;
  windows_few = k.windows_few;
  distinct = k.distinct;
  stand = k.stand;
  bounds = k.bounds;
  sets = k.sets;
  differs = k.differs;
  events = all_each c.events (λ e h. (more_declared names more e.pattern h.0, h.1)) k.events;
  windows = all_each c.windows (λ w h. (more_body names more w.body h.0, h.1, h.2)) k.windows;
  emits_few = k.emits_few;
  emits = all_each c.emits (λ e h. ((more_declared names more e.pattern h.0.0, h.0.1), h.1)) k.emits;
}

pub more_whole : (names more : List Name) (c : Written) → IsWhole names c → IsWhole (names ++ more) c
more_whole names more c k = record { sound = more_sound names more c k.sound; some = k.some; bound = k.bound; bound_emits = k.bound_emits }
