-- The lines of a canonical text are read without fault.
use Rattle.std.proofs.Common.{◌≡◌, ℕ, ◌+◌, ◌≤◌, true, false, ◌||◌, nat_le, List, [], ◌∷◌, ◌++◌, map, length, None, Ok, is_some, refl, sym, ap, subst, ◌∙◌, true≢false, append_assoc, arith}
use Rattle.std.specs.List.{AllByRecursion, flat_map}
use Rattle.std.proofs.lemmas.Bool.{le-ltb}
use Rattle.std.proofs.lemmas.List.{map-append, append-nil, length-map}
use Rattle.crs_base.specs.Lines.{Line, is_long}
use Rattle.crs_base.specs.Symbols.{is_known, with_texts}
use Rattle.crs_base.proofs.Alls.{all_left, all_right}
use Rattle.crs_model.specs.declared.models.ModelWord.TheVariants.{Twice, Name as NameWord, Arity as ArityWord, Value as ValueWord, Variable as VariableWord, Point as PointWord, Bound as BoundWord, Window as WindowWord, Limit as LimitWord, Emit as EmitWord, Events as EventsWord, Unbound as UnboundWord}
use Rattle.crs_grammar.specs.Canon.{is_indented}
use Rattle.crs_parse.specs.Faults.{Kind, OfMessage, OfAttribute, OfDerived, Name, Written, Reading, is_of, first_of, faults_of, is_looped, passes_symbols, symbols_of, opened, begun, with_statement, after, answered, after_lines, unless_refused}
use Rattle.crs_grammar.specs.Statements.{Statement, Message, Attribute, Derived, Begin, Close, is_inside}
use Rattle.crs_parse.specs.ModelSteps.{reading_in, reading_out}
use Rattle.crs_parse.proofs.Apart.{IsApart, AreApart}
use Rattle.crs_parse.proofs.Faultless.{IsFaultless}
use Rattle.crs_print.proofs.Distinct.{IsTable, table_more, table_few}
use Rattle.crs_print.proofs.Good.{IsFit, IsDone, heading_of}
use Rattle.crs_print.proofs.GoodReading.{said_kind, said, AreDeclared, AreBegun, called}
use Rattle.crs_print.proofs.Lines.{line_of, line_read}
use Rattle.crs_print.proofs.Steps.{with_all, body_of, Steps, good_leads}

none_applies : (names : List Name) (done : List (ℕ × Written)) (c : Written) (s : Statement) → IsFaultless false names done c s → first_of (faults_of false (is_looped done c s) names done c s) ≡ None
none_applies names done c s h =
    let twice = h.twice in
    let name = h.name in
    let arity = h.arity in
    let value = h.value in
    let variable = h.variable in
    let point = h.point in
    let bound = h.bound in
    let window = h.window in
    let count = h.count in
    let looped = h.unlooped in
    let events = h.events in
    let unbound = h.unbound in
    λ i. first_of ((Twice, twice i) ∷ (NameWord, name i) ∷ (ArityWord, arity i) ∷ (ValueWord, value i) ∷ (VariableWord, variable i) ∷ (PointWord, point i) ∷ (BoundWord, bound i)
    ∷ (WindowWord, window i) ∷ (LimitWord, count i || false) ∷ (EmitWord, looped i) ∷ (EventsWord, events i) ∷ (UnboundWord, unbound i) ∷ [])

-- no line of these statements is long
abbrev pub AreShort : List Statement → Type 0
AreShort ss = AllByRecursion (λ s. is_long (line_of s) ≡ false) ss

abbrev pub lines : List Statement → List Line
lines ss = map line_of ss

-- the statements of a chronicle
abbrev pub statements_of : Written → List Statement
statements_of c = Begin (heading_of c) ∷ (body_of c ++ Close ∷ [])

module _ (texts : List (List ℕ)) (limit : ℕ) (few : length texts ≤ limit) where
  no_symbol : (s : Statement) (table : List (List ℕ)) → AllByRecursion (λ t. is_known texts t ≡ true) (symbols_of s) → IsTable texts table → passes_symbols limit table s ≡ false
  no_symbol s table k h =
      let more = table_more texts table (symbols_of s) k h in
      let n = table_few (with_texts table (symbols_of s)) texts more.distinct more.within in
      le-ltb limit (length (with_texts table (symbols_of s))) (omega (arith, n, few))

  -- a line without fault
  one_line : (line : ℕ) (r : Reading) (s : Statement) (ls : List Line) → IsFit texts s → is_long (line_of s) ≡ false → is_inside s ≡ is_some r.current → IsFaultless false r.names r.done (opened r.current) s → IsTable texts r.texts
      → after_lines limit line r (line_of s ∷ ls) ≡ after_lines limit (line + 1) (after line r s) ls
  one_line line r s ls fit short place f table =
      let full : passes_symbols limit r.texts s ≡ false = no_symbol s r.texts fit.known table in
      ap (λ x. unless_refused x (λ next. after_lines limit (line + 1) next ls))
      (line_read limit line r s fit.writable short place
      ∙ ap (λ b. answered line (after line r s) (first_of (faults_of b (is_looped r.done (opened r.current) s) r.names r.done (opened r.current) s))) full
      ∙ ap (answered line (after line r s)) (none_applies r.names r.done (opened r.current) s f))

  -- the same reading goes on at a later line
  pub record GoesOn (line : ℕ) (r : Reading) (ls : List Line) (to : List (List ℕ) → Reading) (rest : List Line) : Type 0 where
    pub line_behind : ℕ
    pub table : List (List ℕ)
    pub is_table : IsTable texts table
    pub same : after_lines limit line r ls ≡ after_lines limit line_behind (to table) rest

  plain_place : (s : Statement) → is_indented s ≡ true → is_inside s ≡ true
  plain_place Close h = refl
  plain_place (Message name arity) h = h
  plain_place (Attribute name arity values) h = h
  plain_place (Derived name arity) h = h
  plain_place (Begin heading) h = h
  plain_place _ h = refl

  plain_after : (line : ℕ) (names : List Name) (done : List (ℕ × Written)) (c : Written) (table : List (List ℕ)) (s : Statement) → is_indented s ≡ true
      → after line (reading_in names done c table) s ≡ reading_in names done (with_statement c s) (with_texts table (symbols_of s))
  plain_after line names done c table (Message name arity) h = absurd (true≢false (sym h))
  plain_after line names done c table (Attribute name arity values) h = absurd (true≢false (sym h))
  plain_after line names done c table (Derived name arity) h = absurd (true≢false (sym h))
  plain_after line names done c table (Begin heading) h = absurd (true≢false (sym h))
  plain_after line names done c table Close h = absurd (true≢false (sym h))
  plain_after line names done c table _ h = refl

  -- statements inside a chronicle
  steps_go : (names : List Name) (done : List (ℕ × Written)) (ss : List Statement) (line : ℕ) (c : Written) (table : List (List ℕ)) (ls : List Line) → Steps texts names done c ss → AreShort ss → IsTable texts table
      → GoesOn line (reading_in names done c table) (lines ss ++ ls) (reading_in names done (with_all c ss)) ls
  steps_go names done [] line c table ls h short t = record { line_behind = line; table = table; is_table = t; same = refl }
  steps_go names done (s ∷ ss) line c table ls h short t =
      let r = steps_go names done ss (line + 1) (with_statement c s) (with_texts table (symbols_of s)) ls h.3 short.1 (table_more texts table (symbols_of s) h.0.known t) in
      record {
        line_behind = r.line_behind;
        table = r.table;
        is_table = r.is_table;
        same = one_line line (reading_in names done c table) s (lines ss ++ ls) h.0 short.0 (plain_place s h.2) h.1 t
            ∙ ap (λ x. after_lines limit (line + 1) x (lines ss ++ ls)) (plain_after line names done c table s h.2) ∙ r.same;
      }

  said_place : (n : Name) → is_inside (said n) ≡ false
  said_place n = by n.name n.arity n.kind
    where
      by : (name : List ℕ) (arity : ℕ) (k : Kind) → is_inside (said_kind name arity k) ≡ false
      by name arity OfMessage = refl
      by name arity (OfAttribute values) = refl
      by name arity OfDerived = refl

  said_after : (line : ℕ) (names : List Name) (table : List (List ℕ)) (n : Name) → after line (reading_out names [] table) (said n) ≡ reading_out (names ++ n ∷ []) [] (with_texts table (symbols_of (said n)))
  said_after line names table n = by n.name n.arity n.kind
    where
      by : (name : List ℕ) (arity : ℕ) (k : Kind) → after line (reading_out names [] table) (said_kind name arity k) ≡ reading_out (names ++ record { name = name; arity = arity; kind = k } ∷ []) [] (with_texts table (symbols_of (said_kind name arity k)))
      by name arity OfMessage = refl
      by name arity (OfAttribute values) = refl
      by name arity OfDerived = refl

  -- declarations
  names_go : (ns before : List Name) (line : ℕ) (table : List (List ℕ)) (ls : List Line) → AreDeclared texts before ns → AreShort (map said ns) → IsTable texts table
      → GoesOn line (reading_out before [] table) (lines (map said ns) ++ ls) (reading_out (before ++ ns) []) ls
  names_go [] before line table ls h short t = record { line_behind = line; table = table; is_table = t; same = ap (λ l. after_lines limit line (reading_out l [] table) ls) (sym (append-nil before)) }
  names_go (n ∷ ns) before line table ls h short t =
      let r = names_go ns (before ++ n ∷ []) (line + 1) (with_texts table (symbols_of (said n))) ls h.2 short.1 (table_more texts table (symbols_of (said n)) h.0.known t) in
      record {
        line_behind = r.line_behind;
        table = r.table;
        is_table = r.is_table;
        same = one_line line (reading_out before [] table) (said n) (lines (map said ns) ++ ls) h.0 short.0 (said_place n) h.1 t
            ∙ ap (λ x. after_lines limit (line + 1) x (lines (map said ns) ++ ls)) (said_after line before table n) ∙ r.same
            ∙ ap (λ l. after_lines limit r.line_behind (reading_out l [] r.table) ls) (append_assoc before (n ∷ []) ns);
      }

  -- a whole chronicle
  chronicle_go : (names : List Name) (done : List (ℕ × Written)) (c : Written) (line : ℕ) (table : List (List ℕ)) (ls : List Line) → IsDone texts names c → IsApart c c → AllByRecursion (λ d. IsApart d c) (map (λ d. d.1) done) → is_of (called done) c.name ≡ false → nat_le 64 (length done) ≡ false
      → AreShort (statements_of c) → IsTable texts table
      → (closed : ℕ) × GoesOn line (reading_out names done table) (lines (statements_of c) ++ ls) (reading_out names (done ++ (closed, c) ∷ [])) ls
  chronicle_go names done c line table ls h own above new room short t =
      let lead = good_leads texts names done c h.good own above in
      let begun_table = table_more texts table (c.name ∷ []) h.good.begins.known t in
      let inside = steps_go names done (body_of c) (line + 1) (begun (heading_of c)) (with_texts table (c.name ∷ [])) (line_of Close ∷ ls) lead.steps (all_left (λ s. is_long (line_of s) ≡ false) (body_of c) (Close ∷ []) short.1) begun_table in
      let parts : lines (statements_of c) ++ ls ≡ line_of (Begin (heading_of c)) ∷ (lines (body_of c) ++ line_of Close ∷ ls) =
      ap (λ l. line_of (Begin (heading_of c)) ∷ (l ++ ls)) (map-append line_of (body_of c) (Close ∷ [])) ∙ ap (λ l. line_of (Begin (heading_of c)) ∷ l) (append_assoc (lines (body_of c)) (line_of Close ∷ []) ls) in
      let begin : after_lines limit line (reading_out names done table) (line_of (Begin (heading_of c)) ∷ (lines (body_of c) ++ line_of Close ∷ ls)) ≡ after_lines limit (line + 1) (reading_in names done (begun (heading_of c)) (with_texts table (c.name ∷ []))) (lines (body_of c) ++ line_of Close ∷ ls) =
      one_line line (reading_out names done table) (Begin (heading_of c)) (lines (body_of c) ++ line_of Close ∷ ls) h.good.begins short.0 refl
      (record { twice = new; name = refl; arity = refl; value = refl; variable = refl; point = refl; bound = refl; window = refl; count = room; room = refl; unlooped = refl; events = refl; unbound = refl }) t in
      let close : after_lines limit inside.line_behind (reading_in names done c inside.table) (line_of Close ∷ ls) ≡ after_lines limit (inside.line_behind + 1) (reading_out names (done ++ (inside.line_behind, c) ∷ []) inside.table) ls =
      one_line inside.line_behind (reading_in names done c inside.table) Close ls (record { writable = (tt, tt); known = tt }) (all_right (λ s. is_long (line_of s) ≡ false) (body_of c) (Close ∷ []) short.1).0 refl
      (record { twice = refl; name = refl; arity = refl; value = refl; variable = refl; point = refl; bound = refl; window = refl; count = refl; room = refl; unlooped = refl; events = h.some; unbound = h.bound }) inside.is_table in (
        inside.line_behind,
        record {
          line_behind = inside.line_behind + 1;
          table = inside.table;
          is_table = inside.is_table;
          same = ap (after_lines limit line (reading_out names done table)) parts ∙ begin ∙ inside.same
              ∙ ap (λ x. after_lines limit inside.line_behind (reading_in names done x inside.table) (line_of Close ∷ ls)) lead.end ∙ close;
        },
      )

  -- what comes of chronicles behind those that are done
  pub record AreDone (names : List Name) (done : List (ℕ × Written)) (cs : List Written) (line : ℕ) (table : List (List ℕ)) : Type 0 where
    pub all : List (ℕ × Written)
    pub texts_behind : List (List ℕ)
    pub are : map (λ d. d.1) all ≡ map (λ d. d.1) done ++ cs
    pub same : after_lines limit line (reading_out names done table) (lines (flat_map statements_of cs)) ≡ Ok (reading_out names all texts_behind)

  called_put : (done : List (ℕ × Written)) (n : ℕ) (c : Written) → called (done ++ (n, c) ∷ []) ≡ called done ++ c.name ∷ []
  called_put done n c = map-append (λ (d : ℕ × Written). d.1.name) done ((n, c) ∷ [])

  one_then : (names : List Name) (c : Written) (cs : List Written) (done : List (ℕ × Written)) (line closed : ℕ) (table : List (List ℕ))
      (g : GoesOn line (reading_out names done table) (lines (statements_of c) ++ lines (flat_map statements_of cs)) (reading_out names (done ++ (closed, c) ∷ [])) (lines (flat_map statements_of cs)))
      → AreDone names (done ++ (closed, c) ∷ []) cs g.line_behind g.table → AreDone names done (c ∷ cs) line table
  one_then names c cs done line closed table g rest = record {
    all = rest.all;
    texts_behind = rest.texts_behind;
    are = rest.are ∙ ap (λ l. l ++ cs) (map-append (λ (d : ℕ × Written). d.1) done ((closed, c) ∷ [])) ∙ append_assoc (map (λ d. d.1) done) (c ∷ []) cs;
    same = ap (after_lines limit line (reading_out names done table)) (map-append line_of (statements_of c) (flat_map statements_of cs)) ∙ g.same ∙ rest.same;
  }

  -- each is apart from those above it, and from itself
  apart_at : (ds : List Written) (c : Written) (cs : List Written) → AreApart (ds ++ c ∷ cs) → IsApart c c × AllByRecursion (λ d. IsApart d c) ds
  apart_at [] c cs k = (k.0.0, tt)
  apart_at (d ∷ ds) c cs k = let r = apart_at ds c cs k.1 in (r.0, ((all_right (IsApart d) ds (c ∷ cs) k.0.1).0, r.1))

  chronicles_go : (names : List Name) (cs : List Written) (done : List (ℕ × Written)) (line : ℕ) (table : List (List ℕ)) → AllByRecursion (IsDone texts names) cs → AreApart (map (λ d. d.1) done ++ cs) → AreBegun (called done) (map (λ c. c.name) cs)
      → AreShort (flat_map statements_of cs) → IsTable texts table → AreDone names done cs line table
  chronicles_go names [] done line table h apart begins short t = record { all = done; texts_behind = table; are = sym (append-nil (map (λ d. d.1) done)); same = refl }
  chronicles_go names (c ∷ cs) done line table h apart begins short t =
      let a = apart_at (map (λ d. d.1) done) c cs apart in
      let one = chronicle_go names done c line table (lines (flat_map statements_of cs)) h.0 a.0 a.1 begins.0 (ap (nat_le 64) (sym (length-map done (λ d. d.1.name))) ∙ begins.1)
      (all_left (λ s. is_long (line_of s) ≡ false) (statements_of c) (flat_map statements_of cs) short) t in
      (one_then names c cs done line one.0 table one.1)
      (chronicles_go names cs (done ++ (one.0, c) ∷ []) one.1.line_behind one.1.table h.1 (moved one.0) (subst (λ l. AreBegun l (map (λ c. c.name) cs)) (sym (called_put done one.0 c)) begins.2)
      (all_right (λ s. is_long (line_of s) ≡ false) (statements_of c) (flat_map statements_of cs) short) one.1.is_table)
    where
      moved : (n : ℕ) → AreApart (map (λ d. d.1) (done ++ (n, c) ∷ []) ++ cs)
      moved n = subst (λ l. AreApart l) (sym (ap (λ l. l ++ cs) (map-append (λ (d : ℕ × Written). d.1) done ((n, c) ∷ [])) ∙ append_assoc (map (λ d. d.1) done) (c ∷ []) cs)) apart

  -- declarations, and then chronicles
  pub all_go : (names : List Name) (cs : List Written) (table : List (List ℕ)) → AreDeclared texts [] names → AllByRecursion (IsDone texts names) cs → AreApart cs → AreBegun [] (map (λ c. c.name) cs)
      → AreShort (map said names ++ flat_map statements_of cs) → IsTable texts table
      → (all : List (ℕ × Written)) × (behind : List (List ℕ)) × (map (λ d. d.1) all ≡ cs) × (after_lines limit 1 (reading_out [] [] table) (lines (map said names ++ flat_map statements_of cs)) ≡ Ok (reading_out names all behind))
  all_go names cs table declared done apart begins short t =
      let a = names_go names [] 1 table (lines (flat_map statements_of cs)) declared (all_left (λ s. is_long (line_of s) ≡ false) (map said names) (flat_map statements_of cs) short) t in
      let b = chronicles_go names cs [] a.line_behind a.table done apart begins (all_right (λ s. is_long (line_of s) ≡ false) (map said names) (flat_map statements_of cs) short) a.is_table in (
        b.all,
        b.texts_behind,
        b.are,
        ap (after_lines limit 1 (reading_out [] [] table)) (map-append line_of (map said names) (flat_map statements_of cs)) ∙ a.same ∙ b.same,
      )
