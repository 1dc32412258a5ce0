-- The parts of a statement whose symbols are held.
use Rattle.std.proofs.Common.{◌≡◌, ℕ, ◌+◌, ◌≤◌, ◌<◌, Bool, false, ◌||◌, nat_le, nat_lt, List, [], ◌∷◌, ◌++◌, length, Option, Some, None, arith, length-append}
use Rattle.std.specs.Prelude.{IfSome}
use Rattle.std.specs.List.{AllByRecursion, list_any}
use Rattle.std.proofs.lemmas.Bool.{or_parts}
use Rattle.crs_grammar.specs.Statements.{Term, Value, Variable, Any, Pattern, Event, Emission, Body, NoEvent, Occurs, Hold, Window, Distance, Heading, Statement, Message, Attribute, Derived, Begin, Happens, Point, Between, Among, Differ, Over, Emits, Close}
use Rattle.crs_parse.specs.Faults.{Name, Written, symbols_of, term_symbols, terms_symbols, change_symbols, pattern_symbols, body_symbols, values_symbols, variable_in, variables_in, variables_of, change_terms, with_statement, is_full, is_above, is_below, is_any, body_has_any, has_any, has_wrong_counts, is_out_of_bounds, is_far, are_crossed, shift_size, begun, message_named, attribute_named, derived_named}
use Rattle.crs_parse.specs.Meant.{level_of}
use Rattle.crs_parse.specs.HeldStatements.{IsHeld, AreHeld, IsHeldTerm, AreHeldTerms, IsHeldPattern, IsHeldEvent, IsHeldBody, IsFirmBody, IsHeldWindow, IsHeldEmission, IsHeldSet, AreNear, IsHeldChronicle, IsHeldName}
use Rattle.crs_base.proofs.WithTexts.{all_with}
use Rattle.crs_parse.proofs.Faultless.{IsFaultless, not_le, not_lt, not_above, not_far}
use Rattle.crs_base.proofs.Alls.{all_append, all_put, all_left, all_right}
use Rattle.crs_base.specs.Symbols.{with_texts}

module _ (texts : List (List ℕ)) where
  term_held : (t : Term) → AreHeld texts (term_symbols t) → IsHeldTerm texts t
  term_held (Value s) h = h.0
  term_held (Variable x) h = tt
  term_held Any h = tt

  terms_held : (ts : List Term) → AreHeld texts (terms_symbols ts) → AreHeldTerms texts ts
  terms_held [] h = tt
  terms_held (t ∷ ts) h = (term_held t (all_left (IsHeld texts) (term_symbols t) (terms_symbols ts) h), terms_held ts (all_right (IsHeld texts) (term_symbols t) (terms_symbols ts) h))

  change_held : (c : Option (Term × Term)) → AreHeld texts (change_symbols c) → IfSome c (λ c. IsHeldTerm texts c.0 × IsHeldTerm texts c.1)
  change_held None h = tt
  change_held (Some c) h = (term_held c.0 (all_left (IsHeld texts) (term_symbols c.0) (term_symbols c.1) h), term_held c.1 (all_right (IsHeld texts) (term_symbols c.0) (term_symbols c.1) h))

  pattern_held : (p : Pattern) → AreHeld texts (pattern_symbols p) → IsHeldPattern texts p
  pattern_held p h = record {
    name = h.0;
    terms = terms_held p.terms (all_left (IsHeld texts) (terms_symbols p.terms) (change_symbols p.change) h.1);
    change = change_held p.change (all_right (IsHeld texts) (terms_symbols p.terms) (change_symbols p.change) h.1);
  }

  body_held : (b : Body) → AreHeld texts (body_symbols b) → has_wrong_counts b ≡ false → IsHeldBody texts b
  body_held (NoEvent p) h k = pattern_held p h
  body_held (Occurs least most p) h k =
      let first = or_parts (nat_lt 4294967295 least || is_above 4294967295 most) (is_below most least) k in
      let second = or_parts (nat_lt 4294967295 least) (is_above 4294967295 most) first.0 in
      (pattern_held p h, not_lt 4294967295 least second.0, not_above 4294967295 most second.1)
  body_held (Hold name terms value) h k =
      (h.0, terms_held terms (all_left (IsHeld texts) (terms_symbols terms) (term_symbols value) h.1), term_held value (all_right (IsHeld texts) (terms_symbols terms) (term_symbols value) h.1))

  -- what the tests of bounds and of `*` say of a window's body
  not_below : (least : ℕ) (most : Option ℕ) → is_below most least ≡ false → IfSome most (λ m. least ≤ m)
  not_below least None h = tt
  not_below least (Some m) h = not_lt m least h

  none_any : (ts : List Term) → list_any is_any ts ≡ false → AllByRecursion (λ t. is_any t ≡ false) ts
  none_any [] h = tt
  none_any (t ∷ ts) h = let k = or_parts (is_any t) (list_any is_any ts) h in (k.0, none_any ts k.1)

  body_firm : (b : Body) → has_wrong_counts b ≡ false → body_has_any b ≡ false → IsFirmBody b
  body_firm (NoEvent p) h k = tt
  body_firm (Occurs least most p) h k = not_below least most (or_parts (nat_lt 4294967295 least || is_above 4294967295 most)
      (is_below most least) h).1
  body_firm (Hold name terms value) h k = let o = or_parts (list_any is_any terms) (is_any value) k in (o.1, none_any terms o.0)

  window_held : (w : Window) → AreHeld texts (symbols_of (Over w)) → is_out_of_bounds (Over w) ≡ false → has_any (Over w) ≡ false
      → IsHeldWindow texts w
  window_held w h k any =
      let first = or_parts (nat_lt 1099511627776 (shift_size w.from.shift) || nat_lt 1099511627776 (shift_size w.to.shift)) (has_wrong_counts w.body) k in
      let second = or_parts (nat_lt 1099511627776 (shift_size w.from.shift)) (nat_lt 1099511627776 (shift_size w.to.shift)) first.0 in
      record {
        body = body_held w.body (all_left (IsHeld texts) (body_symbols w.body) (w.from.point ∷ w.to.point ∷ []) h) first.1;
        firm = body_firm w.body first.1 any;
        from = not_lt 1099511627776 (shift_size w.from.shift) second.0;
        to = not_lt 1099511627776 (shift_size w.to.shift) second.1;
      }

  variable_held : (t : Term) → AreHeld texts (term_symbols t) → AreHeld texts (variable_in t)
  variable_held (Value s) h = tt
  variable_held (Variable x) h = h
  variable_held Any h = tt

  variables_held : (ts : List Term) → AreHeld texts (terms_symbols ts) → AreHeld texts (variables_in ts)
  variables_held [] h = tt
  variables_held (t ∷ ts) h = all_append (IsHeld texts) (variable_in t) (variables_in ts) (variable_held t (all_left (IsHeld texts) (term_symbols t) (terms_symbols ts) h)) (variables_held ts (all_right (IsHeld texts) (term_symbols t) (terms_symbols ts) h))

  change_variables : (c : Option (Term × Term)) → AreHeld texts (change_symbols c) → AreHeld texts (variables_in (change_terms c))
  change_variables None h = tt
  change_variables (Some c) h =
      all_append (IsHeld texts) (variable_in c.0) (variable_in c.1 ++ []) (variable_held c.0 (all_left (IsHeld texts) (term_symbols c.0) (term_symbols c.1) h))
      (all_append (IsHeld texts) (variable_in c.1) [] (variable_held c.1 (all_right (IsHeld texts) (term_symbols c.0) (term_symbols c.1) h)) tt)

  pattern_variables : (p : Pattern) → AreHeld texts (pattern_symbols p) → AreHeld texts (variables_of p)
  pattern_variables p h = all_append (IsHeld texts) (variables_in p.terms) (variables_in (change_terms p.change))
      (variables_held p.terms (all_left (IsHeld texts) (terms_symbols p.terms) (change_symbols p.change) h.1))
      (change_variables p.change (all_right (IsHeld texts) (terms_symbols p.terms) (change_symbols p.change) h.1))

  -- what a test of an event's limits says
  pub record IsRoom (c : Written) (level : Option ℕ) : Type 0 where
    pub events : length c.events < 16
    pub points : length c.events + length c.free < 24
    pub low : level_of level ≤ 7
    pub variables : length c.variables ≤ 16

  level_low : (level : Option ℕ) → is_above 7 level ≡ false → level_of level ≤ 7
  level_low None h = omega arith
  level_low (Some n) h = not_lt 7 n h

  pub room_of : (c : Written) (level : Option ℕ) → is_full c level ≡ false → IsRoom c level
  room_of c level h =
      let a = or_parts (nat_le 16 (length c.events) || nat_le 24 (length c.events + length c.free) || is_above 7 level) (nat_lt 16 (length c.variables)) h in
      let b = or_parts (nat_le 16 (length c.events) || nat_le 24 (length c.events + length c.free)) (is_above 7 level) a.0 in
      let d = or_parts (nat_le 16 (length c.events)) (nat_le 24 (length c.events + length c.free)) b.0 in
      record { events = not_le 16 (length c.events) d.0; points = not_le 24 (length c.events + length c.free) d.1; low = level_low level b.1; variables = not_lt 16 (length c.variables) a.1 }

  pub begun_held : (heading : Heading) → IsHeld texts heading.name → IsHeldChronicle texts (begun heading)
  begun_held heading h = record { name = h; events = tt; free = tt; bounds = tt; variables = tt; sets = tt; windows = tt; emits = tt; few_variables = omega arith; few_points = omega arith }

  event_held : (e : Event) → AreHeld texts (symbols_of (Happens e)) → level_of e.level ≤ 7 → IsHeldEvent texts e
  event_held e h k = record { pattern = pattern_held e.pattern (all_left (IsHeld texts) (pattern_symbols e.pattern) (e.point ∷ []) h); point = (all_right (IsHeld texts) (pattern_symbols e.pattern) (e.point ∷ []) h).0; level = k }

  emission_held : (e : Emission) → AreHeld texts (symbols_of (Emits e)) → has_any (Emits e) ≡ false → IsHeldEmission texts e
  emission_held e h k = record {
    pattern = pattern_held e.pattern (all_left (IsHeld texts) (pattern_symbols e.pattern) (e.point ∷ []) h);
    point = (all_right (IsHeld texts) (pattern_symbols e.pattern) (e.point ∷ []) h).0;
    firm = none_any e.pattern.terms k;
  }

  distance_held : (d : Distance) → is_out_of_bounds (Between d) ≡ false → AreNear d
  distance_held d k =
      let a = or_parts (is_far d.low || is_far d.high) (are_crossed d.low d.high) k in
      let b = or_parts (is_far d.low) (is_far d.high) a.0 in
      record { low = not_far d.low b.0; high = not_far d.high b.1 }

  -- the open chronicle behind a statement to which no word applies
  pub chronicle_held : (full : Bool) (names : List Name) (done : List (ℕ × Written)) (c : Written) (s : Statement) → IsFaultless full names done c s → AreHeld texts (symbols_of s)
      → IsHeldChronicle texts c → IsHeldChronicle texts (with_statement c s)
  chronicle_held full names done c (Message name arity) f h k = k
  chronicle_held full names done c (Attribute name arity values) f h k = k
  chronicle_held full names done c (Begin heading) f h k = k
  chronicle_held full names done c Close f h k = k
  chronicle_held full names done c (Happens e) f h k =
      let room = room_of (record c { variables = with_texts c.variables (variables_of e.pattern) }) e.level f.count in
      let more : length (c.events ++ e ∷ []) ≡ length c.events + 1 = length-append c.events (e ∷ []) in
      record { name = k.name; events = all_put (IsHeldEvent texts) c.events e k.events (event_held e h room.low); free = k.free; bounds = k.bounds; variables = all_with (IsHeld texts) c.variables (variables_of e.pattern) k.variables (pattern_variables e.pattern (all_left (IsHeld texts) (pattern_symbols e.pattern) (e.point ∷ []) h)); sets = k.sets; windows = k.windows; emits = k.emits; few_variables = room.variables; few_points = (let p = room.points in omega (arith, more, p)) }
  chronicle_held full names done c (Point name) f h k =
      let more : length (c.free ++ name ∷ []) ≡ length c.free + 1 = length-append c.free (name ∷ []) in
      let p = not_le 24 (length c.events + length c.free) f.count in
      record { name = k.name; events = k.events; free = all_put (IsHeld texts) c.free name k.free h.0; bounds = k.bounds; variables = k.variables; sets = k.sets; windows = k.windows; emits = k.emits; few_variables = k.few_variables; few_points = omega (arith, more, p) }
  chronicle_held full names done c (Between d) f h k = record { name = k.name; events = k.events; free = k.free; bounds = all_put AreNear c.bounds d k.bounds (distance_held d f.bound); variables = k.variables; sets = k.sets; windows = k.windows; emits = k.emits; few_variables = k.few_variables; few_points = k.few_points }
  chronicle_held full names done c (Among x values) f h k = record { name = k.name; events = k.events; free = k.free; bounds = k.bounds; variables = k.variables; sets = all_put (IsHeldSet texts) c.sets (x, values) k.sets (record { variable = h.0; values = h.1 }); windows = k.windows; emits = k.emits; few_variables = k.few_variables; few_points = k.few_points }
  chronicle_held full names done c (Differ x y) f h k = record { name = k.name; events = k.events; free = k.free; bounds = k.bounds; variables = k.variables; sets = k.sets; windows = k.windows; emits = k.emits; few_variables = k.few_variables; few_points = k.few_points }
  chronicle_held full names done c (Over w) f h k = record {
    name = k.name;
    events = k.events;
    free = k.free;
    bounds = k.bounds;
    variables = k.variables;
    sets = k.sets;
    windows = all_put (IsHeldWindow texts) c.windows w k.windows
        (window_held w h f.bound f.window);
    emits = k.emits;
    few_variables = k.few_variables;
    few_points = k.few_points;
  }
  chronicle_held full names done c (Derived name arity) f h k = k
  chronicle_held full names done c (Emits e) f h k = record {
    name = k.name;
    events = k.events;
    free = k.free;
    bounds = k.bounds;
    variables = k.variables;
    sets = k.sets;
    windows = k.windows;
    emits = all_put (IsHeldEmission texts) c.emits e k.emits (emission_held e h f.window);
    few_variables = k.few_variables;
    few_points = k.few_points;
  }

  kind_held : (values : Option (List (List ℕ))) → AreHeld texts (values_symbols values) → IfSome values (AreHeld texts)
  kind_held None h = tt
  kind_held (Some vs) h = h

  pub message_held : (full : Bool) (names : List Name) (done : List (ℕ × Written)) (c : Written) (name : List ℕ) (arity : ℕ) → IsFaultless full names done c (Message name arity) → AreHeld texts (name ∷ []) → IsHeldName texts (message_named name arity)
  message_held full names done c name arity f h = let a = or_parts (nat_le 256 (length names)) (nat_lt 8 arity) f.count in record { name = h.0; arity = not_lt 8 arity a.1; kind = tt }

  pub derived_held : (full : Bool) (names : List Name) (done : List (ℕ × Written)) (c : Written) (name : List ℕ) (arity : ℕ) → IsFaultless full names done c (Derived name arity) → AreHeld texts (name ∷ []) → IsHeldName texts (derived_named name arity)
  derived_held full names done c name arity f h = let a = or_parts (nat_le 256 (length names)) (nat_lt 8 arity) f.count in record { name = h.0; arity = not_lt 8 arity a.1; kind = tt }

  pub attribute_held : (full : Bool) (names : List Name) (done : List (ℕ × Written)) (c : Written) (name : List ℕ) (arity : ℕ) (values : Option (List (List ℕ))) → IsFaultless full names done c (Attribute name arity values)
      → AreHeld texts (name ∷ values_symbols values) → IsHeldName texts (attribute_named name arity values)
  attribute_held full names done c name arity values f h =
      let a = or_parts (nat_le 256 (length names) || nat_lt 8 arity) _ f.count in
      let b = or_parts (nat_le 256 (length names)) (nat_lt 8 arity) a.0 in
      record { name = h.0; arity = not_lt 8 arity b.1; kind = kind_held values h.1 }
