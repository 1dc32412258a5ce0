-- The fold over all lines, by the steps of the program.
use Rattle.std.proofs.Common.{◌≡◌, ℕ, ◌+◌, Bool, true, false, cond, ◌||◌, List, [], ◌∷◌, ◌++◌, Option, Some, None, Result, Ok, Err, refl, sym, ap, ◌∙◌, true≢false}
use Rattle.crs_grammar.specs.Statements.{Heading, Statement, Message, Attribute, Derived, Begin, Happens, Point, Between, Among, Differ, Over, Emits, Close, is_inside}
use Rattle.crs_base.specs.Lines.{Line, is_long, bytes_of, is_passed_over}
use Rattle.crs_base.specs.Tokens.{Token, tokens_of, is_model_mark}
use Rattle.crs_base.specs.Symbols.{with_texts}
use Rattle.crs_grammar.specs.TokenReading.{◌>>=◌, inside_of, outside_of}
use Rattle.crs_parse.specs.Faults.{Name, Written, Reading, Fault, first_of, faults_of, own_fault, is_twice, has_no_name, has_wrong_arity, has_wrong_value, has_no_variable, has_no_point, is_out_of_bounds, has_any, passes_count, is_looped, with_statement, symbols_of, begun, after, answered, after_statement, after_line, after_lines, unless_refused, nameless}
use Rattle.crs_model.specs.declared.models.ModelWord.{ModelWord}
use Rattle.crs_model.specs.declared.models.ModelWord.TheVariants.{Twice, Name as NameWord, Arity as ArityWord, Value as ValueWord, Variable as VariableWord, Point as PointWord, Bound as BoundWord, Window as WindowWord, Limit as LimitWord, Emit as EmitWord, Events as EventsWord, Unbound as UnboundWord}
use Rattle.crs_model.specs.declared.models.ModelRefused.{ModelRefused}
use Rattle.crs_model.specs.declared.models.ModelRefused.TheVariants as halts
use Rattle.crs_parse.specs.ModelSteps.{HaltsWith, reading_in, reading_out, IsInside, IsOutside, Declaring, declaring_of, declaring_outcome, with_name, begins, outside_line, passes, inside_line, Outcome, unless_fault, step_of, is_close, line_outcome, Closing, onward, until_close}

abbrev or_fault : Option ModelWord → Option ModelWord → Option ModelWord
or_fault None o = o
or_fault (Some w) o = Some w

peel : (b : Bool) (w : ModelWord) (x y z : Option ModelWord) → x ≡ or_fault y z → cond b (Some w) x ≡ or_fault (cond b (Some w) y) z
peel true w x y z e = refl
peel false w x y z e = e

-- what is wrong beside a statement's own words: its symbols pass the limit, or a chronicle emits what it or an earlier one uses
abbrev late_fault : Bool → Bool → Option ModelWord
late_fault full looped = cond full (Some LimitWord) (cond looped (Some EmitWord) None)

last_peel : (l full looped : Bool) → cond (l || full) (Some LimitWord) (cond looped (Some EmitWord) None) ≡ or_fault (cond (l || false) (Some LimitWord) None) (late_fault full looped)
last_peel true full looped = refl
last_peel false full looped = refl

chain : (t n a v x p b w l full looped : Bool)
    → first_of ((Twice, t) ∷ (NameWord, n) ∷ (ArityWord, a) ∷ (ValueWord, v) ∷ (VariableWord, x) ∷ (PointWord, p) ∷ (BoundWord, b) ∷ (WindowWord, w) ∷ (LimitWord, l || full) ∷ (EmitWord, looped) ∷ (EventsWord, false) ∷ (UnboundWord, false) ∷ [])
    ≡ or_fault (first_of ((Twice, t) ∷ (NameWord, n) ∷ (ArityWord, a) ∷ (ValueWord, v) ∷ (VariableWord, x) ∷ (PointWord, p) ∷ (BoundWord, b) ∷ (WindowWord, w) ∷ (LimitWord, l || false) ∷ (EmitWord, false) ∷ (EventsWord, false) ∷ (UnboundWord, false) ∷ [])) (late_fault full looped)
chain t n a v x p b w l full looped = peel t Twice _ _ _ (peel n NameWord _ _ _ (peel a ArityWord _ _ _ (peel v ValueWord _ _ _ (peel x VariableWord _ _ _ (peel p PointWord _ _ _ (peel b BoundWord _ _ _ (peel w WindowWord _ _ _ (last_peel l full looped))))))))

or_none : (o : Option ModelWord) → o ≡ or_fault o None
or_none None = refl
or_none (Some w) = refl

module _ (names : List Name) (done : List (ℕ × Written)) (c : Written) where
  plain_split : (full : Bool) (s : Statement) → is_inside s ≡ true → is_close s ≡ false → first_of (faults_of full (is_looped done c s) names done c s) ≡ or_fault (own_fault names [] c s) (late_fault full (is_looped done c s))
  plain_split full (Message name arity) h k = absurd (true≢false (sym h))
  plain_split full (Attribute name arity values) h k = absurd (true≢false (sym h))
  plain_split full (Begin heading) h k = absurd (true≢false (sym h))
  plain_split full (Happens e) h k = chain (is_twice names [] c (Happens e)) (has_no_name names (Happens e)) (has_wrong_arity names (Happens e)) (has_wrong_value names (Happens e)) false false false false (passes_count names [] c (Happens e)) full (is_looped done c (Happens e))
  plain_split full (Point n) h k = chain (is_twice names [] c (Point n)) false false false false false false false (passes_count names [] c (Point n)) full (is_looped done c (Point n))
  plain_split full (Between d) h k = chain false false false false false (has_no_point c (Between d)) (is_out_of_bounds (Between d)) false (passes_count names [] c (Between d)) full (is_looped done c (Between d))
  plain_split full (Among x vs) h k = chain (is_twice names [] c (Among x vs)) false false false (has_no_variable c (Among x vs)) false false false (passes_count names [] c (Among x vs)) full (is_looped done c (Among x vs))
  plain_split full (Differ x y) h k = chain false false false false (has_no_variable c (Differ x y)) false false false (passes_count names [] c (Differ x y)) full (is_looped done c (Differ x y))
  plain_split full (Over w) h k = chain false (has_no_name names (Over w)) (has_wrong_arity names (Over w)) (has_wrong_value names (Over w)) false (has_no_point c (Over w)) (is_out_of_bounds (Over w)) (has_any (Over w)) (passes_count names [] c (Over w)) full (is_looped done c (Over w))
  plain_split full (Derived name arity) h k = absurd (true≢false (sym h))
  plain_split full (Emits e) h k = chain false (has_no_name names (Emits e)) (has_wrong_arity names (Emits e)) false false (has_no_point c (Emits e)) false (has_any (Emits e)) (passes_count names [] c (Emits e)) full (is_looped done c (Emits e))
  plain_split full Close h k = absurd (true≢false k)

-- the reading behind a step inside a chronicle
abbrev behind : ℕ → List Name → List (ℕ × Written) → Outcome → Reading
behind line names done o = cond o.closes (record { names = names; done = done ++ (line, o.chronicle) ∷ []; current = None; texts = o.texts }) (reading_in names done o.chronicle o.texts)

abbrev carried : ℕ → List Name → List (ℕ × Written) → Result Outcome ModelWord → Result Reading Fault
carried line names done (Ok o) = Ok (behind line names done o)
carried line names done (Err w) = Err (line, w)

by_fault : (own : Option ModelWord) (full looped : Bool) (line : ℕ) (names : List Name) (done : List (ℕ × Written)) (o : Outcome) (next : Reading) → next ≡ behind line names done o
    → answered line next (or_fault own (late_fault full looped)) ≡ carried line names done (unless_fault own (cond full (Err LimitWord) (cond looped (Err EmitWord) (Ok o))))
by_fault (Some w) full looped line names done o next e = refl
by_fault None true looped line names done o next e = refl
by_fault None false true line names done o next e = refl
by_fault None false false line names done o next e = ap Ok e

plain_next : (line : ℕ) (names : List Name) (done : List (ℕ × Written)) (c : Written) (texts : List (List ℕ)) (s : Statement) → is_inside s ≡ true
    → after line (reading_in names done c texts) s ≡ behind line names done (record { chronicle = with_statement c s; texts = with_texts texts (symbols_of s); closes = is_close s })
plain_next line names done c texts (Message name arity) h = absurd (true≢false (sym h))
plain_next line names done c texts (Attribute name arity values) h = absurd (true≢false (sym h))
plain_next line names done c texts (Begin heading) h = absurd (true≢false (sym h))
plain_next line names done c texts (Happens e) h = refl
plain_next line names done c texts (Point n) h = refl
plain_next line names done c texts (Between d) h = refl
plain_next line names done c texts (Among x vs) h = refl
plain_next line names done c texts (Differ x y) h = refl
plain_next line names done c texts (Over w) h = refl
plain_next line names done c texts (Derived name arity) h = absurd (true≢false (sym h))
plain_next line names done c texts (Emits e) h = refl
plain_next line names done c texts Close h = refl

-- one statement inside a chronicle, where the table is within its limit
pub statement_step : (limit line : ℕ) (names : List Name) (done : List (ℕ × Written)) (c : Written) (texts : List (List ℕ)) (s : Statement) → is_inside s ≡ true → passes limit texts ≡ false
    → after_statement limit line (reading_in names done c texts) (Some s) ≡ carried line names done (step_of limit names done c texts (Some s))
statement_step limit line names done c texts s h room = by (is_close s) refl
  where
    o : Outcome
    o = record { chronicle = with_statement c s; texts = with_texts texts (symbols_of s); closes = is_close s }

    close_split : (t : Statement) → is_close t ≡ true → first_of (faults_of (passes limit (with_texts texts (symbols_of t))) (is_looped done c t) names done c t) ≡ or_fault (own_fault names [] c t) (late_fault (passes limit (with_texts texts (symbols_of t))) (is_looped done c t))
    close_split Close k = (λ i. first_of (faults_of (room i) false names done c Close)) ∙ or_none (own_fault names [] c Close) ∙ sym (λ i. or_fault (own_fault names [] c Close) (late_fault (room i) false))
    close_split (Message name arity) k = absurd (true≢false (sym k))
    close_split (Attribute name arity values) k = absurd (true≢false (sym k))
    close_split (Derived name arity) k = absurd (true≢false (sym k))
    close_split (Begin heading) k = absurd (true≢false (sym k))
    close_split (Happens e) k = absurd (true≢false (sym k))
    close_split (Point n) k = absurd (true≢false (sym k))
    close_split (Between d) k = absurd (true≢false (sym k))
    close_split (Among x vs) k = absurd (true≢false (sym k))
    close_split (Differ x y) k = absurd (true≢false (sym k))
    close_split (Over w) k = absurd (true≢false (sym k))
    close_split (Emits e) k = absurd (true≢false (sym k))

    finish : first_of (faults_of (passes limit (with_texts texts (symbols_of s))) (is_looped done c s) names done c s) ≡ or_fault (own_fault names [] c s) (late_fault (passes limit (with_texts texts (symbols_of s))) (is_looped done c s))
        → after_statement limit line (reading_in names done c texts) (Some s) ≡ carried line names done (step_of limit names done c texts (Some s))
    finish e = ap (answered line (after line (reading_in names done c texts) s)) e
        ∙ by_fault (own_fault names [] c s) (passes limit (with_texts texts (symbols_of s))) (is_looped done c s) line names done o (after line (reading_in names done c texts) s) (plain_next line names done c texts s h)

    by : (b : Bool) → is_close s ≡ b → after_statement limit line (reading_in names done c texts) (Some s) ≡ carried line names done (step_of limit names done c texts (Some s))
    by true k = finish (close_split s k)
    by false k = finish (plain_split names done c (passes limit (with_texts texts (symbols_of s))) s h k)

read_step : (limit line : ℕ) (names : List Name) (done : List (ℕ × Written)) (c : Written) (texts : List (List ℕ)) (o : Option Statement) → ((s : Statement) → o ≡ Some s → is_inside s ≡ true) → passes limit texts ≡ false
    → after_statement limit line (reading_in names done c texts) o ≡ carried line names done (step_of limit names done c texts o)
read_step limit line names done c texts None h room = refl
read_step limit line names done c texts (Some s) h room = statement_step limit line names done c texts s (h s refl) room

read_inside_is : IsInside → (o : Option (List Token)) (s : Statement) → (o >>= inside_of) ≡ Some s → is_inside s ≡ true
read_inside_is known None s e = cc
read_inside_is known (Some ts) s e = known ts s e

carried_cond : (b : Bool) (line : ℕ) (names : List Name) (done : List (ℕ × Written)) (x y : Result Outcome ModelWord) → cond b (carried line names done x) (carried line names done y) ≡ carried line names done (cond b x y)
carried_cond true line names done x y = refl
carried_cond false line names done x y = refl

-- one line inside a chronicle
pub line_step : IsInside → (limit line : ℕ) (names : List Name) (done : List (ℕ × Written)) (c : Written) (texts : List (List ℕ)) (l : Line) → passes limit texts ≡ false
    → after_line limit line (reading_in names done c texts) l ≡ carried line names done (line_outcome limit names done c texts l)
line_step known limit line names done c texts l room =
    ap (λ x. cond (is_long l) (Err (line, LimitWord)) (cond (is_passed_over (bytes_of l)) (Ok (reading_in names done c texts)) x))
    (read_step limit line names done c texts (inside_line (bytes_of l)) (λ s e. read_inside_is known (tokens_of is_model_mark (bytes_of l)) s e) room)
    ∙ ap (cond (is_long l) (Err (line, LimitWord))) (carried_cond (is_passed_over (bytes_of l)) line names done (Ok (record { chronicle = c; texts = texts; closes = false })) (step_of limit names done c texts (inside_line (bytes_of l))))
    ∙ carried_cond (is_long l) line names done (Err LimitWord) (cond (is_passed_over (bytes_of l)) (Ok (record { chronicle = c; texts = texts; closes = false })) (step_of limit names done c texts (inside_line (bytes_of l))))

fault_ok : (own : Option ModelWord) (full looped : Bool) (o p : Outcome) → unless_fault own (cond full (Err LimitWord) (cond looped (Err EmitWord) (Ok o))) ≡ Ok p → (full ≡ false) × (o ≡ p)
fault_ok (Some w) full looped o p e = cc
fault_ok None true looped o p e = cc
fault_ok None false true o p e = cc
fault_ok None false false o p e = (refl, cc)

step_room : (limit : ℕ) (names : List Name) (done : List (ℕ × Written)) (c : Written) (texts : List (List ℕ)) (s : Option Statement) (o : Outcome) → step_of limit names done c texts s ≡ Ok o → passes limit o.texts ≡ false
step_room limit names done c texts None o e = cc
step_room limit names done c texts (Some s) o e =
    let made : Outcome = record { chronicle = with_statement c s; texts = with_texts texts (symbols_of s); closes = is_close s } in
    let q = fault_ok (own_fault names [] c s) (passes limit (with_texts texts (symbols_of s))) (is_looped done c s) made o e in
    ap (λ p. passes limit p.texts) (sym q.1) ∙ q.0

kept_ok : (o p : Outcome) → ◌≡◌ {A = Result Outcome ModelWord} (Ok o) (Ok p) → o ≡ p
kept_ok o p e = cc

outcome_room : (limit : ℕ) (names : List Name) (done : List (ℕ × Written)) (c : Written) (texts : List (List ℕ)) (long passed : Bool) (s : Option Statement) (o : Outcome) → passes limit texts ≡ false
    → cond long (Err LimitWord) (cond passed (Ok (record { chronicle = c; texts = texts; closes = false })) (step_of limit names done c texts s)) ≡ Ok o → passes limit o.texts ≡ false
outcome_room limit names done c texts true passed s o room e = cc
outcome_room limit names done c texts false true s o room e = ap (λ p. passes limit p.texts) (sym (kept_ok (record { chronicle = c; texts = texts; closes = false }) o e)) ∙ room
outcome_room limit names done c texts false false s o room e = step_room limit names done c texts s o e

-- the rest of the fold behind a chronicle
abbrev pub finished : ℕ → List Name → List (ℕ × Written) → Result Closing Fault → Result Reading Fault
finished limit names done (Ok k) = after_lines limit (k.line + 1) (record { names = names; done = done ++ (k.line, k.chronicle) ∷ []; current = None; texts = k.texts }) k.rest
finished limit names done (Err f) = Err f

-- the fold over the lines of a chronicle, up to its close and behind it
pub close_step : IsInside → (limit : ℕ) (names : List Name) (done : List (ℕ × Written)) (ls : List Line) (line : ℕ) (c : Written) (texts : List (List ℕ)) → passes limit texts ≡ false
    → after_lines limit line (reading_in names done c texts) ls ≡ finished limit names done (until_close limit names done line c texts ls)
close_step known limit names done [] line c texts room = refl
close_step known limit names done (l ∷ ls) line c texts room =
    ap (λ x. unless_refused x (λ next. after_lines limit (line + 1) next ls)) (line_step known limit line names done c texts l room)
    ∙ by (line_outcome limit names done c texts l) refl (λ o e. close_step known limit names done ls (line + 1) o.chronicle o.texts (outcome_room limit names done c texts (is_long l) (is_passed_over (bytes_of l)) (inside_line (bytes_of l)) o room e))
  where
    by_close : (o : Outcome) (b : Bool) → after_lines limit (line + 1) (reading_in names done o.chronicle o.texts) ls ≡ finished limit names done (until_close limit names done (line + 1) o.chronicle o.texts ls)
        → after_lines limit (line + 1) (cond b (record { names = names; done = done ++ (line, o.chronicle) ∷ []; current = None; texts = o.texts }) (reading_in names done o.chronicle o.texts)) ls
        ≡ finished limit names done (cond b (Ok (record { chronicle = o.chronicle; texts = o.texts; line = line; rest = ls })) (until_close limit names done (line + 1) o.chronicle o.texts ls))
    by_close o true e = refl
    by_close o false e = e

    by : (out : Result Outcome ModelWord) → line_outcome limit names done c texts l ≡ out
        → ((o : Outcome) → line_outcome limit names done c texts l ≡ Ok o → after_lines limit (line + 1) (reading_in names done o.chronicle o.texts) ls ≡ finished limit names done (until_close limit names done (line + 1) o.chronicle o.texts ls))
        → unless_refused (carried line names done out) (λ next. after_lines limit (line + 1) next ls)
        ≡ finished limit names done (onward line out (λ o. cond o.closes (Ok (record { chronicle = o.chronicle; texts = o.texts; line = line; rest = ls })) (until_close limit names done (line + 1) o.chronicle o.texts ls)))
    by (Err w) e more = refl
    by (Ok o) e more = by_close o o.closes (more o e)

-- The same outside all chronicles.

abbrev pub begun_or : List Name → List (ℕ × Written) → List (List ℕ) → Option Heading → Reading
begun_or names done texts None = reading_out names done texts
begun_or names done texts (Some heading) = reading_in names done (begun heading) texts

abbrev pub carried_out : ℕ → List (ℕ × Written) → Result Declaring ModelWord → Result Reading Fault
carried_out line done (Ok d) = Ok (begun_or d.names done d.texts d.begun)
carried_out line done (Err w) = Err (line, w)

out_split : (names : List Name) (done : List (ℕ × Written)) (full : Bool) (s : Statement) → is_inside s ≡ false → first_of (faults_of full (is_looped done (begun nameless) s) names done (begun nameless) s) ≡ or_fault (own_fault names done (begun nameless) s) (late_fault full (is_looped done (begun nameless) s))
out_split names done full (Message name arity) h = chain (is_twice names done (begun nameless) (Message name arity)) false false false false false false false (passes_count names done (begun nameless) (Message name arity)) full false
out_split names done full (Attribute name arity values) h = chain (is_twice names done (begun nameless) (Attribute name arity values)) false false false false false false false (passes_count names done (begun nameless) (Attribute name arity values)) full false
out_split names done full (Derived name arity) h = chain (is_twice names done (begun nameless) (Derived name arity)) false false false false false false false (passes_count names done (begun nameless) (Derived name arity)) full false
out_split names done full (Begin heading) h = chain (is_twice names done (begun nameless) (Begin heading)) false false false false false false false (passes_count names done (begun nameless) (Begin heading)) full false
out_split names done full (Happens e) h = absurd (true≢false h)
out_split names done full (Point n) h = absurd (true≢false h)
out_split names done full (Between d) h = absurd (true≢false h)
out_split names done full (Among x vs) h = absurd (true≢false h)
out_split names done full (Differ x y) h = absurd (true≢false h)
out_split names done full (Over w) h = absurd (true≢false h)
out_split names done full (Emits e) h = absurd (true≢false h)
out_split names done full Close h = absurd (true≢false h)

out_next : (line : ℕ) (names : List Name) (done : List (ℕ × Written)) (texts : List (List ℕ)) (s : Statement) → is_inside s ≡ false
    → after line (reading_out names done texts) s ≡ begun_or (with_name names s) done (with_texts texts (symbols_of s)) (begins s)
out_next line names done texts (Message name arity) h = refl
out_next line names done texts (Attribute name arity values) h = refl
out_next line names done texts (Derived name arity) h = refl
out_next line names done texts (Begin heading) h = refl
out_next line names done texts (Happens e) h = absurd (true≢false h)
out_next line names done texts (Point n) h = absurd (true≢false h)
out_next line names done texts (Between d) h = absurd (true≢false h)
out_next line names done texts (Among x vs) h = absurd (true≢false h)
out_next line names done texts (Differ x y) h = absurd (true≢false h)
out_next line names done texts (Over w) h = absurd (true≢false h)
out_next line names done texts (Emits e) h = absurd (true≢false h)
out_next line names done texts Close h = absurd (true≢false h)

by_out : (own : Option ModelWord) (full looped : Bool) (line : ℕ) (done : List (ℕ × Written)) (d : Declaring) (next : Reading) → looped ≡ false → next ≡ begun_or d.names done d.texts d.begun
    → answered line next (or_fault own (late_fault full looped)) ≡ carried_out line done (unless_fault own (cond full (Err LimitWord) (Ok d)))
by_out (Some w) full looped line done d next u e = refl
by_out None true looped line done d next u e = refl
by_out None false true line done d next u e = absurd (true≢false u)
by_out None false false line done d next u e = ap Ok e

out_unlooped : (done : List (ℕ × Written)) (s : Statement) → is_inside s ≡ false → is_looped done (begun nameless) s ≡ false
out_unlooped done (Message name arity) h = refl
out_unlooped done (Attribute name arity values) h = refl
out_unlooped done (Derived name arity) h = refl
out_unlooped done (Begin heading) h = refl
out_unlooped done (Happens e) h = absurd (true≢false h)
out_unlooped done (Point n) h = absurd (true≢false h)
out_unlooped done (Between d) h = absurd (true≢false h)
out_unlooped done (Among x vs) h = absurd (true≢false h)
out_unlooped done (Differ x y) h = absurd (true≢false h)
out_unlooped done (Over w) h = absurd (true≢false h)
out_unlooped done (Emits e) h = absurd (true≢false h)
out_unlooped done Close h = absurd (true≢false h)

out_step : (limit line : ℕ) (names : List Name) (done : List (ℕ × Written)) (texts : List (List ℕ)) (o : Option Statement) → ((s : Statement) → o ≡ Some s → is_inside s ≡ false)
    → after_statement limit line (reading_out names done texts) o ≡ carried_out line done (declaring_of limit names done texts o)
out_step limit line names done texts None h = refl
out_step limit line names done texts (Some s) h =
    let d : Declaring = record { names = with_name names s; texts = with_texts texts (symbols_of s); begun = begins s } in
    ap (answered line (after line (reading_out names done texts) s)) (out_split names done (passes limit (with_texts texts (symbols_of s))) s (h s refl))
    ∙ by_out (own_fault names done (begun nameless) s) (passes limit (with_texts texts (symbols_of s))) (is_looped done (begun nameless) s) line done d (after line (reading_out names done texts) s) (out_unlooped done s (h s refl)) (out_next line names done texts s (h s refl))

read_outside_is : IsOutside → (o : Option (List Token)) (s : Statement) → (o >>= outside_of) ≡ Some s → is_inside s ≡ false
read_outside_is known None s e = cc
read_outside_is known (Some ts) s e = known ts s e

carried_out_cond : (b : Bool) (line : ℕ) (done : List (ℕ × Written)) (x y : Result Declaring ModelWord) → cond b (carried_out line done x) (carried_out line done y) ≡ carried_out line done (cond b x y)
carried_out_cond true line done x y = refl
carried_out_cond false line done x y = refl

-- one line outside all chronicles
pub out_line_step : IsOutside → (limit line : ℕ) (names : List Name) (done : List (ℕ × Written)) (texts : List (List ℕ)) (l : Line)
    → after_line limit line (reading_out names done texts) l ≡ carried_out line done (declaring_outcome limit names done texts l)
out_line_step known limit line names done texts l =
    ap (λ x. cond (is_long l) (Err (line, LimitWord)) (cond (is_passed_over (bytes_of l)) (Ok (reading_out names done texts)) x))
    (out_step limit line names done texts (outside_line (bytes_of l)) (λ s e. read_outside_is known (tokens_of is_model_mark (bytes_of l)) s e))
    ∙ ap (cond (is_long l) (Err (line, LimitWord))) (carried_out_cond (is_passed_over (bytes_of l)) line done (Ok (record { names = names; texts = texts; begun = None })) (declaring_of limit names done texts (outside_line (bytes_of l))))
    ∙ carried_out_cond (is_long l) line done (Err LimitWord) (cond (is_passed_over (bytes_of l)) (Ok (record { names = names; texts = texts; begun = None })) (declaring_of limit names done texts (outside_line (bytes_of l))))

-- a chronicle that was read to its close, in the fold
pub chronicle_ok : IsInside → (limit : ℕ) (names : List Name) (done : List (ℕ × Written)) (ls : List Line) (line : ℕ) (c d : Written) (texts : List (List ℕ)) (k : Closing) (all : List (ℕ × Written))
    → passes limit texts ≡ false → d ≡ c → until_close limit names done line d texts ls ≡ Ok k → all ≡ done ++ (k.line, k.chronicle) ∷ []
    → after_lines limit line (reading_in names done c texts) ls ≡ after_lines limit (k.line + 1) (reading_out names all k.texts) k.rest
chronicle_ok known limit names done ls line c d texts k all room is e pushed =
    close_step known limit names done ls line c texts room
    ∙ ap (λ x. finished limit names done (until_close limit names done line x texts ls)) (sym is)
    ∙ ap (finished limit names done) e
    ∙ ap (λ a. after_lines limit (k.line + 1) (reading_out names a k.texts) k.rest) (sym pushed)

pub chronicle_err : IsInside → (limit : ℕ) (names : List Name) (done : List (ℕ × Written)) (ls : List Line) (line : ℕ) (c d : Written) (texts : List (List ℕ)) (e : ModelRefused)
    → passes limit texts ≡ false → d ≡ c → HaltsWith e (until_close limit names done line d texts ls) → HaltsWith e (after_lines limit line (reading_in names done c texts) ls)
chronicle_err known limit names done ls line c d texts halts.Memory room is h = tt
chronicle_err known limit names done ls line c d texts (halts.At n w) room is h =
    close_step known limit names done ls line c texts room
    ∙ ap (λ x. finished limit names done (until_close limit names done line x texts ls)) (sym is)
    ∙ ap (finished limit names done) h
