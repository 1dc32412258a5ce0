-- The chronicle that a canonical text writes: level 0 and offset 0 aren't written.
use Rattle.std.proofs.Common.{◌≡◌, ℕ, zero, suc, ◌+◌, ◌≤◌, false, ◌||◌, ◌==◌, nat_lt, List, [], ◌∷◌, ◌++◌, map, length, Option, Some, None, refl, sym, ap, subst, ◌∙◌}
use Rattle.std.specs.List.{AllByRecursion, flat_map, list_any}
use Rattle.std.proofs.lemmas.List.{length-map}
use Rattle.crs_parse.specs.Faults.{Name, Written, is_of, is_above, shift_size, variables_of, uses, body_names, body_lacks, pattern_lacks, has_wrong_counts}
use Rattle.crs_grammar.specs.Forms.{Part, Sign, Gap, Symbol, pattern_form, level_form, shift_form, anchor_form, body_form, span_form}
use Rattle.crs_grammar.specs.GrammarLaws.{IsWritable}
use Rattle.crs_parse.specs.Meant.{level_of, offset_of, points_of, event_of, anchor_of, window_of, emit_of, bounds_of, chronicle_of}
use Rattle.crs_print.specs.CanonicalText.{level_from, shift_from}
use Rattle.crs_grammar.specs.Statements.{Event, Shift, Here, Later, Earlier, Anchor, Window, Statement, Happens, Point, Between, Among, Differ, Over, Emits}
use Rattle.crs_parse.proofs.Apart.{IsApart, AreApart}
use Rattle.crs_parse.proofs.Numbered.{each_made}
use Rattle.crs_base.proofs.DistinctTexts.{Distinct}
use Rattle.crs_print.proofs.Good.{IsFit, IsFine, IsGood, IsDone, Grows, fine_in}
use Rattle.crs_base.proofs.Alls.{all_append, all_left, all_right, all_each}
use Rattle.crs_base.specs.Symbols.{with_texts}

abbrev pub normal_event : Event → Event
normal_event e = record { pattern = e.pattern; point = e.point; level = level_from (level_of e.level) }

abbrev pub normal_anchor : Anchor → Anchor
normal_anchor a = record { point = a.point; shift = shift_from (offset_of a.shift) }

abbrev pub normal_window : Window → Window
normal_window w = record { body = w.body; from = normal_anchor w.from; to = normal_anchor w.to }

abbrev pub normal : Written → Written
normal c = record c { events = map normal_event c.events; windows = map normal_window c.windows }

-- It is as good.

level_writable : (l : Option ℕ) → AllByRecursion IsWritable (level_form l) → AllByRecursion IsWritable (level_form (level_from (level_of l)))
level_writable None h = tt
level_writable (Some zero) h = tt
level_writable (Some (suc n)) h = h

level_small : (l : Option ℕ) → is_above 7 l ≡ false → is_above 7 (level_from (level_of l)) ≡ false
level_small None h = refl
level_small (Some zero) h = refl
level_small (Some (suc n)) h = h

shift_writable : (s : Shift) → AllByRecursion IsWritable (shift_form s) → AllByRecursion IsWritable (shift_form (shift_from (offset_of s)))
shift_writable Here h = tt
shift_writable (Later zero) h = tt
shift_writable (Later (suc n)) h = h
shift_writable (Earlier zero) h = tt
shift_writable (Earlier (suc n)) h = h

same_size : (s : Shift) → shift_size (shift_from (offset_of s)) ≡ shift_size s
same_size Here = refl
same_size (Later zero) = refl
same_size (Later (suc n)) = refl
same_size (Earlier zero) = refl
same_size (Earlier (suc n)) = refl

same_offset : (s : Shift) → offset_of (shift_from (offset_of s)) ≡ offset_of s
same_offset Here = refl
same_offset (Later zero) = refl
same_offset (Later (suc n)) = refl
same_offset (Earlier zero) = refl
same_offset (Earlier (suc n)) = refl

same_level : (l : Option ℕ) → level_of (level_from (level_of l)) ≡ level_of l
same_level None = refl
same_level (Some zero) = refl
same_level (Some (suc n)) = refl

module _ (texts : List (List ℕ)) where
  event_fit : (e : Event) → IsFit texts (Happens e) → IsFit texts (Happens (normal_event e))
  event_fit e h =
      let k = h.writable.1.1 in
      let behind : Option ℕ → List Part = λ l. Sign 44 ∷ Gap ∷ Symbol e.point ∷ Sign 41 ∷ level_form l in
      let b = all_right IsWritable (pattern_form e.pattern) (behind e.level) k in
      record {
        writable = (tt, (tt, all_append IsWritable (pattern_form e.pattern) (behind (level_from (level_of e.level))) (all_left IsWritable (pattern_form e.pattern) (behind e.level) k) (tt, (tt, (b.1.1.0, (tt, level_writable e.level b.1.1.1.1))))));
        known = h.known;
      }

  window_fit : (w : Window) → IsFit texts (Over w) → IsFit texts (Over (normal_window w))
  window_fit w h =
      let last : List Part = Sign 41 ∷ Sign 41 ∷ [] in
      let second : Anchor → List Part = λ t. Sign 44 ∷ Gap ∷ anchor_form t in
      let s = (all_right IsWritable (body_form w.body) (span_form w.from w.to) h.writable).1.1.1 in
      let a = all_left IsWritable (anchor_form w.from ++ second w.to) last s in
      let f = all_left IsWritable (anchor_form w.from) (second w.to) a in
      let t = (all_right IsWritable (anchor_form w.from) (second w.to) a).1.1 in
      let from : Anchor = normal_anchor w.from in
      let to : Anchor = normal_anchor w.to in
      record {
        writable = all_append IsWritable (body_form w.body) (span_form from to) (all_left IsWritable (body_form w.body) (span_form w.from w.to) h.writable)
            (tt, (tt, (tt, all_append IsWritable (anchor_form from ++ second to) last (all_append IsWritable (anchor_form from) (second to) (f.0, shift_writable w.from.shift f.1) (tt, (tt, (t.0, shift_writable w.to.shift t.1)))) (tt, (tt, tt)))));
        known = h.known;
      }

  event_fine : (names : List Name) (c d : Written) (e : Event) → IsFine texts names c (Happens e) → IsFine texts names d (Happens (normal_event e))
  event_fine names c d e h = record { fit = event_fit e h.fit; suited = record { name = h.suited.name; arity = h.suited.arity; value = h.suited.value }; variable = refl; point = refl; bound = refl; window = refl; large = level_small e.level h.large }

  window_fine : (names : List Name) (c : Written) (w : Window) → IsFine texts names c (Over w) → IsFine texts names c (Over (normal_window w))
  window_fine names c w h = record {
    fit = window_fit w h.fit;
    suited = record { name = h.suited.name; arity = h.suited.arity; value = h.suited.value };
    variable = refl;
    point = h.point;
    bound = (λ i. nat_lt 1099511627776 (same_size w.from.shift i) || nat_lt 1099511627776 (same_size w.to.shift i) || has_wrong_counts w.body) ∙ h.bound;
    window = h.window;
    large = refl;
  }

event_points_same : (es : List Event) → map (λ e. e.point) (map normal_event es) ≡ map (λ e. e.point) es
event_points_same [] = refl
event_points_same (e ∷ es) = ap (λ l. e.point ∷ l) (event_points_same es)

variables_same : (es : List Event) → flat_map (λ e. variables_of e.pattern) (map normal_event es) ≡ flat_map (λ e. variables_of e.pattern) es
variables_same [] = refl
variables_same (e ∷ es) = ap (λ l. variables_of e.pattern ++ l) (variables_same es)

lacks_same : (variables : List (List ℕ)) (ws : List Window) → list_any (λ w. body_lacks variables w.body) (map normal_window ws) ≡ list_any (λ w. body_lacks variables w.body) ws
lacks_same variables [] = refl
lacks_same variables (w ∷ ws) = ap (λ b. body_lacks variables w.body || b) (lacks_same variables ws)

pub points_same : (c : Written) → points_of (normal c) ≡ points_of c
points_same c = ap (λ l. l ++ c.free) (event_points_same c.events)

normal_grows : (c : Written) → Grows c (normal c)
normal_grows c = record { points = λ t h. ap (λ l. is_of l t) (event_points_same c.events) ∙ h; free = λ t h. h; variables = λ t h. h }

pub good_normal : (texts : List (List ℕ)) (names : List Name) (c : Written) → IsGood texts names c → IsGood texts names (normal c)
good_normal texts names c h =
    let events : length (map normal_event c.events) ≡ length c.events = length-map c.events normal_event in
    let windows : length (map normal_window c.windows) ≡ length c.windows = length-map c.windows normal_window in
    let moved : (s : Statement) → IsFine texts names c s → IsFine texts names (normal c) s = λ s k. fine_in texts names c (normal c) s (normal_grows c) k in
    record {
      begins = h.begins;
      all = record {
        events = each_made _ _ normal_event c.events (λ e k. event_fine texts names c (normal c) e k) h.all.events;
        free = all_each c.free (λ t k. moved (Point t) k) h.all.free;
        bounds = all_each c.bounds (λ d k. moved (Between d) k) h.all.bounds;
        sets = all_each c.sets (λ s k. moved (Among s.0 s.1) k) h.all.sets;
        differs = all_each c.differs (λ d k. moved (Differ d.0 d.1) k) h.all.differs;
        windows = each_made _ _ normal_window c.windows (λ w k. window_fine texts names (normal c) w (moved (Over w) k)) h.all.windows;
        emits = all_each c.emits (λ e k. moved (Emits e) k) h.all.emits;
      };
      points = subst Distinct (sym (points_same c)) h.points;
      sets = h.sets;
      variables = h.variables ∙ ap (with_texts []) (sym (variables_same c.events));
      few = record {
        events = subst (λ n. n ≤ 16) (sym events) h.few.events;
        points = subst (λ n. n + length c.free ≤ 24) (sym events) h.few.points;
        variables = h.few.variables;
        bounds = h.few.bounds;
        differs = h.few.differs;
        windows = subst (λ n. n ≤ 16) (sym windows) h.few.windows;
        emits = h.few.emits;
      };
    }

pub done_normal : (texts : List (List ℕ)) (names : List Name) (c : Written) → IsDone texts names c → IsDone texts names (normal c)
done_normal texts names c h = record { good = good_normal texts names c h.good; some = ap (λ n. n == 0) (length-map c.events normal_event) ∙ h.some; bound = ap (λ b. b || list_any (λ e. pattern_lacks c.variables e.pattern) c.emits) (lacks_same c.variables c.windows) ∙ h.bound }

-- It uses the same names.

event_names_same : (es : List Event) → map (λ e. e.pattern.name) (map normal_event es) ≡ map (λ e. e.pattern.name) es
event_names_same [] = refl
event_names_same (e ∷ es) = ap (λ l. e.pattern.name ∷ l) (event_names_same es)

window_names_same : (ws : List Window) (t : List ℕ) → list_any (λ w. is_of (body_names w.body) t) (map normal_window ws) ≡ list_any (λ w. is_of (body_names w.body) t) ws
window_names_same [] t = refl
window_names_same (w ∷ ws) t = ap (λ b. is_of (body_names w.body) t || b) (window_names_same ws t)

uses_same : (c : Written) (t : List ℕ) → uses (normal c) t ≡ uses c t
uses_same c t = λ i. is_of (event_names_same c.events i) t || window_names_same c.windows t i

apart_normal : (c d : Written) → IsApart c d → IsApart (normal c) (normal d)
apart_normal c d k t given used = k t given (sym (uses_same c t) ∙ used)

-- chronicles of which none emits what it or one above it uses
pub all_apart_normal : (done : List (ℕ × Written)) → AreApart (map (λ d. d.1) done) → AreApart (map (λ d. normal d.1) done)
all_apart_normal [] k = tt
all_apart_normal (d ∷ done) k = ((apart_normal d.1 d.1 k.0.0, each done k.0.1), all_apart_normal done k.1)
  where
    each : (ds : List (ℕ × Written)) → AllByRecursion (IsApart d.1) (map (λ d. d.1) ds) → AllByRecursion (IsApart (normal d.1)) (map (λ d. normal d.1) ds)
    each [] k = tt
    each (e ∷ ds) k = (apart_normal d.1 e.1 k.0, each ds k.1)

-- It means the same.

event_meant : (variables : List (List ℕ)) (e : Event) → event_of variables (normal_event e) ≡ event_of variables e
event_meant variables e = ap (λ n. record (event_of variables e) { level = n }) (same_level e.level)

anchor_meant : (points : List (List ℕ)) (a : Anchor) → anchor_of points (normal_anchor a) ≡ anchor_of points a
anchor_meant points a = ap (λ z. record (anchor_of points a) { offset = z }) (same_offset a.shift)

window_meant : (variables points : List (List ℕ)) (w : Window) → window_of variables points (normal_window w) ≡ window_of variables points w
window_meant variables points w = λ i. record (window_of variables points w) { from = anchor_meant points w.from i; to = anchor_meant points w.to i }

each_same : {A B : Type 0} (f : A → B) (n : A → A) → ((x : A) → f (n x) ≡ f x) → (xs : List A) → map f (map n xs) ≡ map f xs
each_same f n e [] = refl
each_same f n e (x ∷ xs) = λ i. e x i ∷ each_same f n e xs i

pub chronicle_meant : (line : ℕ) (c : Written) → chronicle_of (line, normal c) ≡ chronicle_of (line, c)
chronicle_meant line c =
    let windows : map (window_of c.variables (points_of (normal c))) (map normal_window c.windows) ≡ map (window_of c.variables (points_of c)) c.windows =
    ap (λ p. map (window_of c.variables p) (map normal_window c.windows)) (points_same c) ∙ each_same (window_of c.variables (points_of c)) normal_window (window_meant c.variables (points_of c)) c.windows in
    λ i. record (chronicle_of (line, c)) {
      emits = map (emit_of c.variables (points_same c i)) c.emits;
      events = each_same (event_of c.variables) normal_event (event_meant c.variables) c.events i;
      bounds = flat_map (bounds_of (points_same c i)) c.bounds;
      windows = windows i;
    }
