-- No chronicle of a reading uses a name that it or a later one emits.
use Rattle.std.proofs.Common.{◌≡◌, ℕ, Bool, true, false, ◌||◌, ◌+◌, List, [], ◌∷◌, ◌++◌, map, Option, Some, None, Ok, is_some, refl, sym, ap, subst, ◌∙◌, true≢false, inl, inr}
use Rattle.std.specs.Prelude.{bytes_eq, IfSome}
use Rattle.std.specs.List.{AllByRecursion, list_any, flat_map}
use Rattle.std.proofs.lemmas.Bool.{or_parts}
use Rattle.std.proofs.lemmas.List.{map-append}
use Rattle.std.proofs.lemmas.List.Folds.{list_any-append}
use Rattle.crs_base.specs.Lines.{Line}
use Rattle.crs_base.specs.Words.{IsIn}
use Rattle.crs_base.proofs.Alls.{all_each, all_put}
use Rattle.crs_base.proofs.Texts.{bytes_same, same_bytes}
use Rattle.crs_base.proofs.Words.{in_append, in_map_back, in_from_each}
use Rattle.crs_grammar.specs.Statements.{Event, Emission, Body, NoEvent, Occurs, Hold, Window, Heading, Statement, Message, Attribute, Derived, Begin, Happens, Point, Between, Among, Differ, Over, Emits, Close, is_inside}
use Rattle.crs_model.specs.Hierarchy as h
use Rattle.crs_model.specs.Models as m
use Rattle.crs_parse.specs.Faults.{Written, Reading, is_of, uses, emits, body_names, is_looped, opened, with_statement, begun, after, after_line, after_lines, nothing_read}
use Rattle.crs_parse.specs.Meant.{chronicle_of, event_of, window_of, body_of, emit_of, points_of}
use Rattle.crs_parse.proofs.Faultless.{IsFaultless}
use Rattle.crs_parse.proofs.HeldReading.{by_line, next_of, last_of}

-- d emits no name that c uses
abbrev pub IsApart : Written → Written → Type 0
IsApart c d = (t : List ℕ) → emits d t ≡ true → uses c t ≡ true → ⊥

abbrev pub AreApart : List Written → Type 0
AreApart [] = Unit {0}
AreApart (c ∷ cs) = AllByRecursion (IsApart c) (c ∷ cs) × AreApart cs

-- the open one emits nothing that it or one above it uses
abbrev IsApartFrom : List Written → Written → Type 0
IsApartFrom done c = IsApart c c × AllByRecursion (λ d. IsApart d c) done

abbrev written : List (ℕ × Written) → List Written
written done = map (λ d. d.1) done

record IsApartSoFar (r : Reading) : Type 0 where
  done : AreApart (written r.done)
  current : IfSome r.current (IsApartFrom (written r.done))

apart_put : (cs : List Written) (c : Written) → AreApart cs → AllByRecursion (λ d. IsApart d c) cs → IsApart c c → AreApart (cs ++ c ∷ [])
apart_put [] c h k own = ((own, tt), tt)
apart_put (d ∷ ds) c h k own = ((h.0.0, all_put (IsApart d) ds c h.0.1 k.0), apart_put ds c h.1 k.1 own)

either : (a b : Bool) → (a || b) ≡ true → (a ≡ true → ⊥) → (b ≡ true → ⊥) → ⊥
either true b h f g = f refl
either false b h f g = g h

last_only : (a : Bool) → (a || false) ≡ true → a ≡ true
last_only true h = refl
last_only false h = h

not_both : (a : Bool) → a ≡ true → a ≡ false → ⊥
not_both a p q = true≢false (sym p ∙ q)

-- a text among others with one more
among_put : (xs : List (List ℕ)) (x t : List ℕ) → is_of (xs ++ x ∷ []) t ≡ true → (is_of xs t || bytes_eq t x) ≡ true
among_put xs x t h = by (is_of xs t) (bytes_eq t x) (sym (list_any-append (bytes_eq t) xs (x ∷ [])) ∙ h)
  where
    by : (a b : Bool) → (a || (b || false)) ≡ true → (a || b) ≡ true
    by true b k = refl
    by false b k = last_only b k

module _ (done : List (ℕ × Written)) (c : Written) where
  event_apart : (e : Event) → is_looped done c (Happens e) ≡ false → IsApart c c → IsApart (with_statement c (Happens e)) (with_statement c (Happens e))
  event_apart e f k t em us = either (is_of (map (λ v. v.pattern.name) (c.events ++ e ∷ [])) t) (list_any (λ w. is_of (body_names w.body) t) c.windows) us
      (λ q. either (is_of (map (λ v. v.pattern.name) c.events) t) (bytes_eq t e.pattern.name) (among_put (map (λ v. v.pattern.name) c.events) e.pattern.name t (ap (λ l. is_of l t) (sym (map-append (λ (v : Event). v.pattern.name) c.events (e ∷ []))) ∙ q))
      (λ old. k t em (first (is_of (map (λ v. v.pattern.name) c.events) t) (list_any (λ w. is_of (body_names w.body) t) c.windows) old))
      (λ new. not_both (emits c e.pattern.name) (ap (emits c) (sym (bytes_same t e.pattern.name new)) ∙ em) f))
      (λ q. k t em (second (is_of (map (λ v. v.pattern.name) c.events) t) (list_any (λ w. is_of (body_names w.body) t) c.windows) q))
    where
      first : (a b : Bool) → a ≡ true → (a || b) ≡ true
      first true b h = refl
      first false b h = absurd (true≢false (sym h))

      second : (a b : Bool) → b ≡ true → (a || b) ≡ true
      second true b h = refl
      second false b h = h

  names_apart : (t : List ℕ) (ns : List (List ℕ)) → list_any (emits c) ns ≡ false → emits c t ≡ true → is_of ns t ≡ true → ⊥
  names_apart t [] f em us = true≢false (sym us)
  names_apart t (n ∷ ns) f em us =
      let p = or_parts (emits c n) (list_any (emits c) ns) f in
      either (bytes_eq t n) (is_of ns t) us (λ q. not_both (emits c n) (ap (emits c) (sym (bytes_same t n q)) ∙ em) p.0) (λ q. names_apart t ns p.1 em q)

  window_apart : (w : Window) → is_looped done c (Over w) ≡ false → IsApart c c → IsApart (with_statement c (Over w)) (with_statement c (Over w))
  window_apart w f k t em us = by (is_of (map (λ v. v.pattern.name) c.events) t) (list_any (λ v. is_of (body_names v.body) t) c.windows) (is_of (body_names w.body) t)
      (ap (λ b. is_of (map (λ v. v.pattern.name) c.events) t || b) (sym (list_any-append (λ v. is_of (body_names v.body) t) c.windows (w ∷ []))) ∙ us) (k t em) (names_apart t (body_names w.body) f em)
    where
      by : (a b d : Bool) → (a || (b || (d || false))) ≡ true → ((a || b) ≡ true → ⊥) → (d ≡ true → ⊥) → ⊥
      by true b d h f g = f refl
      by false true d h f g = f refl
      by false false d h f g = g (last_only d h)

  none_uses : (t : List ℕ) (ds : List (ℕ × Written)) → list_any (λ d. uses d.1 t) ds ≡ false → AllByRecursion (λ d. uses d t ≡ false) (written ds)
  none_uses t [] f = tt
  none_uses t (d ∷ ds) f = let p = or_parts (uses d.1 t) (list_any (λ d. uses d.1 t) ds) f in (p.0, none_uses t ds p.1)

  -- an emit is apart from one that doesn't use its name
  emit_apart : (e : Emission) (d : Written) → uses d e.pattern.name ≡ false → IsApart d c → IsApart d (with_statement c (Emits e))
  emit_apart e d f k t em us = either (emits c t) (bytes_eq t e.pattern.name) (among_put (map (λ v. v.pattern.name) c.emits) e.pattern.name t (ap (λ l. is_of l t) (sym (map-append (λ (v : Emission). v.pattern.name) c.emits (e ∷ []))) ∙ em))
      (λ old. k t old us) (λ new. not_both (uses d e.pattern.name) (ap (uses d) (sym (bytes_same t e.pattern.name new)) ∙ us) f)

  all_apart : (e : Emission) (ds : List Written) → AllByRecursion (λ d. uses d e.pattern.name ≡ false) ds → AllByRecursion (λ d. IsApart d c) ds → AllByRecursion (λ d. IsApart d (with_statement c (Emits e))) ds
  all_apart e [] f k = tt
  all_apart e (d ∷ ds) f k = (emit_apart e d f.0 k.0, all_apart e ds f.1 k.1)

  -- the open chronicle with a statement more
  grown_apart : (s : Statement) → is_looped done c s ≡ false → IsApartFrom (written done) c → IsApartFrom (written done) (with_statement c s)
  grown_apart (Happens e) f k = (event_apart e f k.0, all_each {P = λ d. IsApart d c} (written done) (λ d q. q) k.1)
  grown_apart (Over w) f k = (window_apart w f k.0, all_each {P = λ d. IsApart d c} (written done) (λ d q. q) k.1)
  grown_apart (Emits e) f k =
      let p = or_parts (uses c e.pattern.name) (list_any (λ d. uses d.1 e.pattern.name) done) f in
      (emit_apart e c p.0 k.0, all_apart e (written done) (none_uses e.pattern.name done p.1) k.1)
  grown_apart (Message name arity) f k = k
  grown_apart (Attribute name arity values) f k = k
  grown_apart (Derived name arity) f k = k
  grown_apart (Begin heading) f k = k
  grown_apart (Point name) f k = k
  grown_apart (Between d) f k = k
  grown_apart (Among x values) f k = k
  grown_apart (Differ x y) f k = k
  grown_apart Close f k = k

begun_apart : (done : List Written) (heading : Heading) → IsApartFrom done (begun heading)
begun_apart done heading = ((λ t em us. absurd (true≢false (sym em))), each done)
  where
    each : (ds : List Written) → AllByRecursion (λ d. IsApart d (begun heading)) ds
    each [] = tt
    each (d ∷ ds) = ((λ t em us. absurd (true≢false (sym em))), each ds)

opened_apart : (done : List Written) (o : Option Written) → true ≡ is_some o → IfSome o (IsApartFrom done) → IsApartFrom done (opened o)
opened_apart done None e k = absurd (true≢false e)
opened_apart done (Some c) e k = k

module _ (line : ℕ) (r : Reading) (full : Bool) (k : IsApartSoFar r) where
  grown : (s : Statement) → IsFaultless full r.names r.done (opened r.current) s → true ≡ is_some r.current → IsApartFrom (written r.done) (with_statement (opened r.current) s)
  grown s f p = grown_apart r.done (opened r.current) s f.unlooped (opened_apart (written r.done) r.current p k.current)

  next_apart : (s : Statement) → IsFaultless full r.names r.done (opened r.current) s → is_inside s ≡ is_some r.current → IsApartSoFar (after line r s)
  next_apart (Message name arity) f p = record { done = k.done; current = k.current }
  next_apart (Attribute name arity values) f p = record { done = k.done; current = k.current }
  next_apart (Derived name arity) f p = record { done = k.done; current = k.current }
  next_apart (Begin heading) f p = record { done = k.done; current = begun_apart (written r.done) heading }
  next_apart (Happens e) f p = record { done = k.done; current = grown (Happens e) f p }
  next_apart (Point name) f p = record { done = k.done; current = grown (Point name) f p }
  next_apart (Between d) f p = record { done = k.done; current = grown (Between d) f p }
  next_apart (Among x values) f p = record { done = k.done; current = grown (Among x values) f p }
  next_apart (Differ x y) f p = record { done = k.done; current = grown (Differ x y) f p }
  next_apart (Over w) f p = record { done = k.done; current = grown (Over w) f p }
  next_apart (Emits e) f p = record { done = k.done; current = grown (Emits e) f p }
  next_apart Close f p =
      let o = opened_apart (written r.done) r.current p k.current in
      record { done = subst AreApart (sym (map-append (λ (d : ℕ × Written). d.1) r.done ((line, opened r.current) ∷ []))) (apart_put (written r.done) (opened r.current) k.done o.1 o.0); current = tt }

line_apart : (limit line : ℕ) (r next : Reading) (l : Line) → after_line limit line r l ≡ Ok next → IsApartSoFar r → IsApartSoFar next
line_apart limit line r next l e = by_line limit (λ line r next. IsApartSoFar r → IsApartSoFar next) (λ line r k. k) (λ line r next s h k. subst IsApartSoFar h.is (next_apart line r _ k s h.faultless h.place)) line r next l e

lines_apart : (limit line : ℕ) (r all : Reading) (ls : List Line) → after_lines limit line r ls ≡ Ok all → IsApartSoFar r → IsApartSoFar all
lines_apart limit line r all [] e k = subst IsApartSoFar (last_of (is_some r.current) line r all e).same k
lines_apart limit line r all (l ∷ ls) e k =
    let n = next_of (after_line limit line r l) (λ next. after_lines limit (line + 1) next ls) all e in
    lines_apart limit (line + 1) n.0 all ls n.2 (line_apart limit line r n.0 l n.1 k)

pub read_apart : (limit line : ℕ) (texts : List (List ℕ)) (all : Reading) (ls : List Line) → after_lines limit line (nothing_read texts) ls ≡ Ok all → AreApart (map (λ d. d.1) all.done)
read_apart limit line texts all ls e = (lines_apart limit line (nothing_read texts) all ls e (record { done = tt; current = tt })).done

-- What is meant is in order.

of_in : (xs : List (List ℕ)) (t : List ℕ) → IsIn t xs → is_of xs t ≡ true
of_in [] t i = absurd i
of_in (x ∷ xs) t (inl q) = by (bytes_eq t x) (is_of xs t) (ap (bytes_eq t) (sym q) ∙ same_bytes t)
  where
    by : (a b : Bool) → a ≡ true → (a || b) ≡ true
    by true b h = refl
    by false b h = absurd (true≢false (sym h))
of_in (x ∷ xs) t (inr i) = by (bytes_eq t x) (is_of xs t) (of_in xs t i)
  where
    by : (a b : Bool) → b ≡ true → (a || b) ≡ true
    by true b h = refl
    by false b h = h

same_wanted : (variables : List (List ℕ)) (b : Body) → h.wanted (body_of variables b) ≡ body_names b
same_wanted variables (NoEvent p) = refl
same_wanted variables (Occurs least most p) = refl
same_wanted variables (Hold name terms value) = refl

event_names : (variables : List (List ℕ)) (es : List Event) → map (λ v. v.pattern.name) (map (event_of variables) es) ≡ map (λ e. e.pattern.name) es
event_names variables [] = refl
event_names variables (e ∷ es) = ap (λ l. e.pattern.name ∷ l) (event_names variables es)

emit_names : (variables points : List (List ℕ)) (es : List Emission) → map (λ v. v.pattern.name) (map (emit_of variables points) es) ≡ map (λ e. e.pattern.name) es
emit_names variables points [] = refl
emit_names variables points (e ∷ es) = ap (λ l. e.pattern.name ∷ l) (emit_names variables points es)

window_names : (variables points : List (List ℕ)) (ws : List Window) (t : List ℕ) → IsIn t (flat_map (λ w. h.wanted w.body) (map (window_of variables points) ws)) → list_any (λ w. is_of (body_names w.body) t) ws ≡ true
window_names variables points [] t i = absurd i
window_names variables points (w ∷ ws) t i = elim (in_append (h.wanted (body_of variables w.body)) (flat_map (λ w. h.wanted w.body) (map (window_of variables points) ws)) t i) [
  | inl a ↦ first (is_of (body_names w.body) t) (list_any (λ w. is_of (body_names w.body) t) ws) (of_in (body_names w.body) t (subst (IsIn t) (same_wanted variables w.body) a))
  | inr a ↦ second (is_of (body_names w.body) t) (list_any (λ w. is_of (body_names w.body) t) ws) (window_names variables points ws t a)
]
  where
    first : (a b : Bool) → a ≡ true → (a || b) ≡ true
    first true b h = refl
    first false b h = absurd (true≢false (sym h))

    second : (a b : Bool) → b ≡ true → (a || b) ≡ true
    second true b h = refl
    second false b h = h

uses_of : (d : ℕ × Written) (t : List ℕ) → IsIn t (h.used (chronicle_of d)) → uses d.1 t ≡ true
uses_of d t i = elim (in_append (map (λ v. v.pattern.name) (map (event_of d.1.variables) d.1.events)) (flat_map (λ w. h.wanted w.body) (map (window_of d.1.variables (points_of d.1)) d.1.windows)) t i) [
  | inl a ↦ first (is_of (map (λ e. e.pattern.name) d.1.events) t) (list_any (λ w. is_of (body_names w.body) t) d.1.windows) (of_in (map (λ e. e.pattern.name) d.1.events) t (subst (IsIn t) (event_names d.1.variables d.1.events) a))
  | inr a ↦ second (is_of (map (λ e. e.pattern.name) d.1.events) t) (list_any (λ w. is_of (body_names w.body) t) d.1.windows) (window_names d.1.variables (points_of d.1) d.1.windows t a)
]
  where
    first : (a b : Bool) → a ≡ true → (a || b) ≡ true
    first true b h = refl
    first false b h = absurd (true≢false (sym h))

    second : (a b : Bool) → b ≡ true → (a || b) ≡ true
    second true b h = refl
    second false b h = h

emits_of : (d : ℕ × Written) (t : List ℕ) → IsIn t (h.emitted (chronicle_of d)) → emits d.1 t ≡ true
emits_of d t i = of_in (map (λ e. e.pattern.name) d.1.emits) t (subst (IsIn t) (emit_names d.1.variables (points_of d.1) d.1.emits) i)

pub apart_in_order : (done : List (ℕ × Written)) → AreApart (map (λ d. d.1) done) → h.AreInOrder (map chronicle_of done)
apart_in_order [] k = tt
apart_in_order (c ∷ cs) k = (
  (λ d i feeds.
      let r = in_map_back chronicle_of (c ∷ cs) d i in
      let fed : h.Feeds (chronicle_of r.0) (chronicle_of c) = subst (λ (z : m.Chronicle (List ℕ)). h.Feeds z (chronicle_of c)) r.2 feeds in
      in_from_each (IsApart c.1) (map (λ d. d.1) (c ∷ cs)) k.0 (r.0).1 (in_written r.0 (c ∷ cs) r.1) fed.0 (emits_of r.0 fed.0 fed.1) (uses_of c fed.0 fed.2)),
  apart_in_order cs k.1,
)
  where
    in_written : (d : ℕ × Written) (ds : List (ℕ × Written)) → IsIn d ds → IsIn d.1 (map (λ d. d.1) ds)
    in_written d [] i = absurd i
    in_written d (e ∷ ds) (inl q) = inl (ap (λ z. z.1) q)
    in_written d (e ∷ ds) (inr i) = inr (in_written d ds i)
