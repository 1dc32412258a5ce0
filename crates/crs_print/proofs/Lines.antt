-- The lines of the canonical text of statements, and how they are read.
use Rattle.std.proofs.Common.{◌≡◌, ℕ, zero, suc, Bool, true, false, cond, ◌==◌, List, [], ◌∷◌, ◌++◌, map, length, get_or, Option, Some, None, option_map, is_some, Ok, Err, refl, sym, ap, subst, ◌∙◌, eqb-true, append_assoc, ◌-◌}
use Rattle.std.specs.List.{AllByRecursion}
use Rattle.std.specs.Str.Lines.{strip_carriage_return}
use Rattle.std.proofs.Math.ListN.{take}
use Rattle.crs_base.specs.Lines.{Line, lines_of, onto, is_blank, bytes_of, is_long, is_passed_over}
use Rattle.crs_base.specs.Symbols.{is_symbol_byte}
use Rattle.crs_base.specs.Tokens.{Token, tokens_behind, tokens_of, is_model_mark, begins_word, lengthened, Word, Mark}
use Rattle.crs_base.proofs.LineSteps.{whole}
use Rattle.crs_model.specs.declared.models.ModelWord.TheVariants.{Limit as LimitWord}
use Rattle.crs_grammar.specs.Canon.{statement_text, is_indented, statement_line, statements_text}
use Rattle.crs_parse.specs.Faults.{Reading, after_line, after_statement}
use Rattle.crs_grammar.specs.Forms.{Part, AreWritten, body_form, span_form, form_of, begin_form}
use Rattle.crs_grammar.specs.GrammarLaws.{IsWritable}
use Rattle.crs_grammar.specs.TokenReading.{◌>>=◌, statement_of}
use Rattle.crs_grammar.specs.Statements.{Body, NoEvent, Occurs, Hold, Statement, Message, Attribute, Derived, Begin, Happens, Point, Between, Among, Differ, Over, Emits, Close, is_inside}
use Rattle.crs_grammar.proofs.CanonTokens.{canonical_is_read}
use Rattle.crs_grammar.proofs.GivesStatements.{read_is_meant}

abbrev pub Writable : Statement → Type 0
Writable s = AllByRecursion IsWritable (form_of s)

-- neither a line feed nor a carriage return
record IsFine (b : ℕ) : Type 0 where
  no_feed : (b == 10) ≡ false
  no_return : (b == 13) ≡ false

abbrev read : Bool → List ℕ → Option (List Token)
read half bs = tokens_behind is_model_mark half bs

no_tokens : (half : Bool) (b : ℕ) (bs : List ℕ) (ts : List Token) (m : ℕ) (t : Bool) → (b == m) ≡ t → ((half : Bool) → read half (m ∷ bs) ≡ Some ts → ⊥) → read half (b ∷ bs) ≡ Some ts → t ≡ false
no_tokens half b bs ts m true e none h = absurd (none half (subst (λ x. read half (x ∷ bs) ≡ Some ts) (eqb-true b m e) h))
no_tokens half b bs ts m false e none h = refl

no_feed_read : (half : Bool) (bs : List ℕ) (ts : List Token) → read half (10 ∷ bs) ≡ Some ts → ⊥
no_feed_read true bs ts h = cc
no_feed_read false bs ts h = cc

no_return_read : (half : Bool) (bs : List ℕ) (ts : List Token) → read half (13 ∷ bs) ≡ Some ts → ⊥
no_return_read true bs ts h = cc
no_return_read false bs ts h = cc

fine_byte : (half : Bool) (b : ℕ) (bs : List ℕ) (ts : List Token) → read half (b ∷ bs) ≡ Some ts → IsFine b
fine_byte half b bs ts h = record {
  no_feed = no_tokens half b bs ts 10 (b == 10) refl (λ half k. no_feed_read half bs ts k) h;
  no_return = no_tokens half b bs ts 13 (b == 13) refl (λ half k. no_return_read half bs ts k) h;
}

-- some tokens are read from these bytes
abbrev IsRead : List ℕ → Type 0
IsRead bs = (half : Bool) × (ts : List Token) × (read half bs ≡ Some ts)

mapped : (half : Bool) (bs : List ℕ) (f : List Token → List Token) (o : Option (List Token)) (ts : List Token) → read half bs ≡ o → option_map f o ≡ Some ts → IsRead bs
mapped half bs f None ts e h = cc
mapped half bs f (Some us) ts e h = (half, us, e)

behind : (a b c half : Bool) (bs : List ℕ) (f g : List Token → List Token) (ts : List Token)
    → cond a (read false bs) (cond b (option_map f (read false bs)) (cond c (option_map g (read half bs)) None)) ≡ Some ts → IsRead bs
behind true b c half bs f g ts h = (false, ts, h)
behind false true c half bs f g ts h = mapped false bs f (read false bs) ts refl h
behind false false true half bs f g ts h = mapped half bs g (read half bs) ts refl h
behind false false false half bs f g ts h = cc

behind_equals : (a : Bool) (bs : List ℕ) (ts : List Token) → cond a (read false bs) None ≡ Some ts → IsRead bs
behind_equals true bs ts h = (false, ts, h)
behind_equals false bs ts h = cc

rest_read : (half : Bool) (b : ℕ) (bs : List ℕ) (ts : List Token) → read half (b ∷ bs) ≡ Some ts → IsRead bs
rest_read true b bs ts h = behind_equals (b == 61) bs ts h
rest_read false b bs ts h = behind (is_blank b) (is_symbol_byte b) (is_model_mark b) (b == 33) bs (λ ts. cond (begins_word bs) (lengthened b ts) (Word (b ∷ []) ∷ ts)) (λ ts. Mark b ∷ ts) ts h

all_fine : (bs : List ℕ) (half : Bool) (ts : List Token) → read half bs ≡ Some ts → AllByRecursion IsFine bs
all_fine [] half ts h = tt
all_fine (b ∷ bs) half ts h = let r = rest_read half b bs ts h in (fine_byte half b bs ts h, all_fine bs r.0 r.1 r.2)

-- nothing but blanks and a comment has no tokens
no_comment : (b : ℕ) (bs : List ℕ) (ts : List Token) → (b == 35) ≡ true → read false (b ∷ bs) ≡ Some ts → ⊥
no_comment b bs ts e h = none (subst (λ x. read false (x ∷ bs) ≡ Some ts) (eqb-true b 35 e) h)
  where
    none : read false (35 ∷ bs) ≡ Some ts → ⊥
    none h = cc

passed_by : (b : ℕ) (bs : List ℕ) (ts : List Token) (a : Bool) → is_blank b ≡ a → ((ts : List Token) → read false bs ≡ Some ts → is_passed_over bs ≡ true → ts ≡ []) → read false (b ∷ bs) ≡ Some ts → cond a (is_passed_over bs) (b == 35) ≡ true → ts ≡ []
passed_by b bs ts true e rest h q =
    rest ts (sym (λ i. cond (e i) (read false bs) (cond (is_symbol_byte b) (option_map (λ ts. cond (begins_word bs) (lengthened b ts) (Word (b ∷ []) ∷ ts)) (read false bs)) (cond (is_model_mark b) (option_map (λ ts. Mark b ∷ ts) (read (b == 33) bs)) None))) ∙ h) q
passed_by b bs ts false e rest h q = absurd (no_comment b bs ts q h)

passed_empty : (bs : List ℕ) (ts : List Token) → read false bs ≡ Some ts → is_passed_over bs ≡ true → ts ≡ []
passed_empty [] ts h k = cc
passed_empty (b ∷ bs) ts h k = passed_by b bs ts (is_blank b) refl (passed_empty bs) h k

body_writes : (b : Body) (ps : List Part) → AreWritten (body_form b ++ ps) [] → ⊥
body_writes (NoEvent p) ps h = h
body_writes (Occurs least most p) ps h = h
body_writes (Hold name terms value) ps h = h

begin_writes : (prompt : Bool) (name : List ℕ) → AreWritten (begin_form prompt name) [] → ⊥
begin_writes false name h = h
begin_writes true name h = h

-- a statement has tokens
writes : (s : Statement) → AreWritten (form_of s) [] → ⊥
writes (Message name arity) h = h
writes (Attribute name arity values) h = h
writes (Derived name arity) h = h
writes (Begin heading) h = begin_writes heading.prompt heading.name h
writes (Happens e) h = h
writes (Point name) h = h
writes (Between d) h = h
writes (Among x values) h = h
writes (Differ x y) h = h
writes (Over w) h = body_writes w.body (span_form w.from w.to) h
writes (Emits e) h = h
writes Close h = h

not_empty : (inside : Bool) (s : Statement) → statement_of inside [] ≡ Some s → ⊥
not_empty inside s h = writes s (read_is_meant inside [] s h).1

-- One line.

no_feeds : (bs : List ℕ) → AllByRecursion IsFine bs → (more : List ℕ) → lines_of (bs ++ 10 ∷ more) ≡ whole bs ∷ lines_of more
no_feeds [] h more = refl
no_feeds (b ∷ bs) h more =
    let k = h.0.no_feed in
    (λ i. cond (k i) (whole [] ∷ lines_of (bs ++ 10 ∷ more)) (onto b (lines_of (bs ++ 10 ∷ more)))) ∙ ap (onto b) (no_feeds bs h.1 more)

at_fine : (bs : List ℕ) (n : ℕ) → AllByRecursion IsFine bs → (get_or bs n 0 == 13) ≡ false
at_fine [] n h = refl
at_fine (b ∷ bs) zero h = h.0.no_return
at_fine (b ∷ bs) (suc n) h = at_fine bs n h.1

stays : (bs : List ℕ) → AllByRecursion IsFine bs → strip_carriage_return bs ≡ bs
stays bs h = let k = at_fine bs (length bs - 1) h in λ i. cond (k i) (take (length bs - 1) bs) bs

-- the line of a statement
abbrev pub indented : Statement → List ℕ
indented s = cond (is_indented s) (32 ∷ 32 ∷ []) [] ++ statement_text s

abbrev pub line_of : Statement → Line
line_of s = whole (indented s)

same_tokens : (b : Bool) (bs : List ℕ) → tokens_of is_model_mark (cond b (32 ∷ 32 ∷ []) [] ++ bs) ≡ tokens_of is_model_mark bs
same_tokens true bs = refl
same_tokens false bs = refl

not_passed : (b inside : Bool) (bs : List ℕ) (ts : List Token) (s : Statement) → is_passed_over bs ≡ b → read false bs ≡ Some ts → statement_of inside ts ≡ Some s → b ≡ false
not_passed true inside bs ts s e h k = absurd (not_empty inside s (ap (statement_of inside) (sym (passed_empty bs ts h e)) ∙ k))
not_passed false inside bs ts s e h k = refl

-- what is known of the line of a statement
record IsReady (s : Statement) : Type 0 where
  fine : AllByRecursion IsFine (indented s)
  passed : is_passed_over (indented s) ≡ false
  means : (tokens_of is_model_mark (indented s) >>= statement_of (is_inside s)) ≡ Some s

ready : (s : Statement) → Writable s → IsReady s
ready s h =
    let r = canonical_is_read s h in
    let tokens : read false (indented s) ≡ Some r.0 = same_tokens (is_indented s) (statement_text s) ∙ r.1 in
    record {
      fine = all_fine (indented s) false r.0 tokens;
      passed = not_passed (is_passed_over (indented s)) (is_inside s) (indented s) r.0 s refl tokens r.2;
      means = ap (λ o. o >>= statement_of (is_inside s)) tokens ∙ r.2;
    }

-- the line is read as the statement
pub line_read : (limit line : ℕ) (r : Reading) (s : Statement) → Writable s → is_long (line_of s) ≡ false → is_inside s ≡ is_some r.current → after_line limit line r (line_of s) ≡ after_statement limit line r (Some s)
line_read limit line r s h short place =
    let k = ready s h in
    let bytes : bytes_of (line_of s) ≡ indented s = stays (indented s) k.fine in
    let passed = k.passed in
    (λ i. cond (short i) (Err (line, LimitWord)) (cond (is_passed_over (bytes i)) (Ok r) (after_statement limit line r (tokens_of is_model_mark (bytes i) >>= statement_of (is_some r.current)))))
    ∙ (λ i. cond (passed i) (Ok r) (after_statement limit line r (tokens_of is_model_mark (indented s) >>= statement_of (sym place i))))
    ∙ ap (after_statement limit line r) k.means

statement_lines : (s : Statement) (more : List ℕ) → Writable s → lines_of (statement_line s ++ more) ≡ line_of s ∷ lines_of more
statement_lines s more h =
    let k = ready s h in
    let parts : statement_line s ++ more ≡ indented s ++ 10 ∷ more = simp append_assoc in
    ap lines_of parts ∙ no_feeds (indented s) k.fine more

-- the lines of a text of statements
pub text_lines : (ss : List Statement) → AllByRecursion Writable ss → lines_of (statements_text ss) ≡ map line_of ss
text_lines [] h = refl
text_lines (s ∷ ss) h = statement_lines s (statements_text ss) h.0 ∙ ap (λ l. line_of s ∷ l) (text_lines ss h.1)
