-- A chronicle stays good with each statement to which no word applies.
use Rattle.std.proofs.Common.{◌≡◌, ℕ, ◌+◌, ◌≤◌, ◌<◌, Bool, false, ◌||◌, nat_lt, nat_le, List, [], ◌∷◌, ◌++◌, map, length, refl, sym, ap, subst, ◌∙◌, append_assoc, length-append, arith}
use Rattle.std.specs.List.{flat_map}
use Rattle.std.proofs.lemmas.Grind.{flat_map-append}
use Rattle.std.proofs.lemmas.List.{map-append, append-nil}
use Rattle.std.proofs.lemmas.List.Folds.{list_any-append}
use Rattle.std.specs.Prelude.{bytes_eq}
use Rattle.std.proofs.lemmas.Bool.{or_parts}
use Rattle.crs_parse.specs.Faults.{Name, Written, event_points, variables_of, is_above, is_full, with_statement, begun, passes_count}
use Rattle.crs_parse.specs.Meant.{points_of}
use Rattle.crs_grammar.specs.Statements.{Event, Heading, Statement, Message, Attribute, Derived, Begin, Happens, Point, Between, Among, Differ, Over, Emits, Close}
use Rattle.crs_base.proofs.WithTexts.{known_behind, known_left}
use Rattle.crs_parse.proofs.Faultless.{IsFaultless, not_le, not_lt}
use Rattle.crs_parse.proofs.Texts.{with_texts_append}
use Rattle.crs_base.proofs.DistinctTexts.{Distinct, between_distinct, last_distinct}
use Rattle.crs_parse.proofs.Sound.{event_points_more}
use Rattle.crs_print.proofs.Good.{IsFit, is_large, IsFine, IsFew, IsGood, each_of, one_more_of, Grows, fine_in, heading_of}
use Rattle.crs_base.specs.Symbols.{with_texts}

pub record IsRoom (c : Written) (e : Event) : Type 0 where
  pub events : length c.events < 16
  pub points : length c.events + length c.free < 24
  pub level : is_above 7 e.level ≡ false
  pub variables : length (with_texts c.variables (variables_of e.pattern)) ≤ 16

pub room_of : (c : Written) (e : Event) → is_full (record c { variables = with_texts c.variables (variables_of e.pattern) }) e.level ≡ false → IsRoom c e
room_of c e h =
    let vs : List (List ℕ) = with_texts c.variables (variables_of e.pattern) in
    let a = or_parts (nat_le 16 (length c.events) || nat_le 24 (length c.events + length c.free) || is_above 7 e.level) (nat_lt 16 (length vs)) h in
    let b = or_parts (nat_le 16 (length c.events) || nat_le 24 (length c.events + length c.free)) (is_above 7 e.level) a.0 in
    let d = or_parts (nat_le 16 (length c.events)) (nat_le 24 (length c.events + length c.free)) b.0 in
    record { events = not_le 16 (length c.events) d.0; points = not_le 24 (length c.events + length c.free) d.1; level = b.1; variables = not_lt 16 (length vs) a.1 }

pub grows_same : (c : Written) → Grows c c
grows_same c = record { points = λ t h. h; free = λ t h. h; variables = λ t h. h }

grows_next : (c : Written) (s : Statement) → Grows c (with_statement c s)
grows_next c (Happens e) = record { points = event_points_more c.events e; free = λ t h. h; variables = known_behind c.variables (variables_of e.pattern) }
grows_next c (Point t) = record { points = λ t h. h; free = known_left c.free (t ∷ []); variables = λ t h. h }
grows_next c (Between d) = record { points = λ t h. h; free = λ t h. h; variables = λ t h. h }
grows_next c (Among x vs) = record { points = λ t h. h; free = λ t h. h; variables = λ t h. h }
grows_next c (Differ x y) = record { points = λ t h. h; free = λ t h. h; variables = λ t h. h }
grows_next c (Over w) = record { points = λ t h. h; free = λ t h. h; variables = λ t h. h }
grows_next c (Emits e) = record { points = λ t h. h; free = λ t h. h; variables = λ t h. h }
grows_next c _ = grows_same c

module _ (texts : List (List ℕ)) (full : Bool) (names : List Name) (done : List (ℕ × Written)) (c : Written) where
  large_of : (s : Statement) → passes_count names done c s ≡ false → is_large s ≡ false
  large_of (Happens e) h = (room_of c e h).level
  large_of (Among x vs) h = h
  large_of _ h = refl

  fine_of : (s : Statement) → IsFaultless full names done c s → IsFit texts s → IsFine texts names c s
  fine_of s f k = record { fit = k; suited = record { name = f.name; arity = f.arity; value = f.value }; variable = f.variable; point = f.point; bound = f.bound; window = f.window; large = large_of s f.count }

  one_more : {A : Type 0} (n : ℕ) (xs : List A) (x : A) → length xs < n → length (xs ++ x ∷ []) ≤ n
  one_more n xs x h = let k = length-append xs (x ∷ []) in omega (arith, k)

  few_next : (s : Statement) → passes_count names done c s ≡ false → IsFew c → IsFew (with_statement c s)
  few_next (Happens e) f k =
      let r = room_of c e f in
      let n = length-append c.events (e ∷ []) in
      record { events = one_more 16 c.events e r.events; points = (let p = r.points in omega (arith, n, p)); variables = r.variables; bounds = k.bounds; differs = k.differs; windows = k.windows; emits = k.emits }
  few_next (Point t) f k =
      let n = length-append c.free (t ∷ []) in
      let p = not_le 24 (length c.events + length c.free) f in
      record { events = k.events; points = omega (arith, n, p); variables = k.variables; bounds = k.bounds; differs = k.differs; windows = k.windows; emits = k.emits }
  few_next (Between d) f k = record { events = k.events; points = k.points; variables = k.variables; bounds = one_more 256 c.bounds d (not_le 256 (length c.bounds) f); differs = k.differs; windows = k.windows; emits = k.emits }
  few_next (Differ x y) f k = record { events = k.events; points = k.points; variables = k.variables; bounds = k.bounds; differs = one_more 64 c.differs (x, y) (not_le 64 (length c.differs) f); windows = k.windows; emits = k.emits }
  few_next (Over w) f k = record { events = k.events; points = k.points; variables = k.variables; bounds = k.bounds; differs = k.differs; windows = one_more 16 c.windows w (not_le 16 (length c.windows) f); emits = k.emits }
  few_next (Emits e) f k = record { events = k.events; points = k.points; variables = k.variables; bounds = k.bounds; differs = k.differs; windows = k.windows; emits = one_more 8 c.emits e (not_le 8 (length c.emits) f) }
  few_next (Among x vs) f k = record { events = k.events; points = k.points; variables = k.variables; bounds = k.bounds; differs = k.differs; windows = k.windows; emits = k.emits }
  few_next (Message name arity) f k = k
  few_next (Attribute name arity vs) f k = k
  few_next (Derived name arity) f k = k
  few_next (Begin heading) f k = k
  few_next Close f k = k

  points_next : (s : Statement) → IsFaultless full names done c s → Distinct (points_of c) → Distinct (points_of (with_statement c s))
  points_next (Happens e) f d =
      let moved : map (λ v. v.point) (c.events ++ e ∷ []) ++ c.free ≡ event_points c ++ e.point ∷ c.free = ap (λ l. l ++ c.free) (map-append (λ (v : Event). v.point) c.events (e ∷ [])) ∙ append_assoc (event_points c) (e.point ∷ []) c.free in
      subst Distinct (sym moved) (between_distinct (event_points c) c.free e.point d (list_any-append (bytes_eq e.point) (event_points c) c.free ∙ f.twice))
  points_next (Point t) f d = subst Distinct (append_assoc (event_points c) c.free (t ∷ [])) (last_distinct (points_of c) t d (list_any-append (bytes_eq t) (event_points c) c.free ∙ f.twice))
  points_next (Between b) f d = d
  points_next (Differ x y) f d = d
  points_next (Over w) f d = d
  points_next (Among x vs) f d = d
  points_next (Message name arity) f d = d
  points_next (Attribute name arity vs) f d = d
  points_next (Derived name arity) f d = d
  points_next (Emits e) f d = d
  points_next (Begin heading) f d = d
  points_next Close f d = d

  sets_next : (s : Statement) → IsFaultless full names done c s → Distinct (map (λ s. s.0) c.sets) → Distinct (map (λ s. s.0) (with_statement c s).sets)
  sets_next (Among x vs) f d = subst Distinct (sym (map-append (λ (s : List ℕ × List (List ℕ)). s.0) c.sets ((x, vs) ∷ []))) (last_distinct (map (λ s. s.0) c.sets) x d f.twice)
  sets_next (Happens e) f d = d
  sets_next (Point t) f d = d
  sets_next (Between b) f d = d
  sets_next (Differ x y) f d = d
  sets_next (Over w) f d = d
  sets_next (Message name arity) f d = d
  sets_next (Attribute name arity vs) f d = d
  sets_next (Derived name arity) f d = d
  sets_next (Emits e) f d = d
  sets_next (Begin heading) f d = d
  sets_next Close f d = d

  abbrev variables_from : List Event → List (List ℕ)
  variables_from es = flat_map (λ e. variables_of e.pattern) es

  variables_next : (s : Statement) → c.variables ≡ with_texts [] (variables_from c.events) → (with_statement c s).variables ≡ with_texts [] (variables_from (with_statement c s).events)
  variables_next (Happens e) h =
      let one : variables_from (c.events ++ e ∷ []) ≡ variables_from c.events ++ variables_of e.pattern =
      flat_map-append (λ (v : Event). variables_of v.pattern) c.events (e ∷ []) ∙ ap (λ l. variables_from c.events ++ l) (append-nil (variables_of e.pattern)) in
      ap (λ l. with_texts l (variables_of e.pattern)) h ∙ sym (with_texts_append [] (variables_from c.events) (variables_of e.pattern)) ∙ ap (with_texts []) (sym one)
  variables_next (Point t) h = h
  variables_next (Between b) h = h
  variables_next (Differ x y) h = h
  variables_next (Over w) h = h
  variables_next (Among x vs) h = h
  variables_next (Message name arity) h = h
  variables_next (Attribute name arity vs) h = h
  variables_next (Derived name arity) h = h
  variables_next (Emits e) h = h
  variables_next (Begin heading) h = h
  variables_next Close h = h

  same_heading : (s : Statement) → heading_of (with_statement c s) ≡ heading_of c
  same_heading (Happens e) = refl
  same_heading (Point t) = refl
  same_heading (Between b) = refl
  same_heading (Differ x y) = refl
  same_heading (Over w) = refl
  same_heading (Among x vs) = refl
  same_heading (Emits e) = refl
  same_heading _ = refl

  same_name : (s : Statement) → (with_statement c s).name ≡ c.name
  same_name (Happens e) = refl
  same_name (Point t) = refl
  same_name (Between b) = refl
  same_name (Differ x y) = refl
  same_name (Over w) = refl
  same_name (Among x vs) = refl
  same_name (Emits e) = refl
  same_name _ = refl

  pub good_next : (s : Statement) → IsFaultless full names done c s → IsFit texts s → IsGood texts names c → IsGood texts names (with_statement c s)
  good_next s f k h =
      let grown = grows_next c s in
      record {
        begins = subst (λ n. IsFit texts (Begin n)) (sym (same_heading s)) h.begins;
        all = each_of (IsFine texts names c) (IsFine texts names (with_statement c s)) (with_statement c s) (λ t q. fine_in texts names c (with_statement c s) t grown q)
            (one_more_of (IsFine texts names c) c s h.all (fine_of s f k));
        points = points_next s f h.points;
        sets = sets_next s f h.sets;
        variables = variables_next s h.variables;
        few = few_next s f.count h.few;
      }

pub name_stays : (c : Written) (s : Statement) → (with_statement c s).name ≡ c.name
name_stays c s = same_name [] false [] [] c s

pub good_begun : (texts : List (List ℕ)) (names : List Name) (heading : Heading) → IsFit texts (Begin heading) → IsGood texts names (begun heading)
good_begun texts names heading h = record {
  begins = h;
  all = record { events = tt; free = tt; bounds = tt; sets = tt; differs = tt; windows = tt; emits = tt };
  points = tt;
  sets = tt;
  variables = refl;
  few = record { events = omega arith; points = omega arith; variables = omega arith; bounds = omega arith; differs = omega arith; windows = omega arith; emits = omega arith };
}
