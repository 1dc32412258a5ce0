-- What holds of a reading of all lines.
use Rattle.std.proofs.Common.{◌≡◌, ℕ, ◌+◌, Bool, true, false, cond, List, [], ◌∷◌, Option, Some, None, Result, Ok, Err, is_some, refl, subst, sym}
use Rattle.std.specs.Prelude.{IfSome}
use Rattle.std.specs.List.{AllByRecursion}
use Rattle.crs_base.specs.Symbols.{is_known, is_symbol, with_texts}
use Rattle.crs_model.specs.declared.models.ModelWord.{ModelWord}
use Rattle.crs_model.specs.declared.models.ModelWord.TheVariants.{Form as FormWord, Limit as LimitWord}
use Rattle.crs_base.specs.Lines.{Line, bytes_of, is_long, is_passed_over}
use Rattle.crs_base.specs.Tokens.{Token, tokens_of, is_model_mark}
use Rattle.crs_base.proofs.Alls.{all_put, all_each}
use Rattle.crs_grammar.specs.TokenReading.{◌>>=◌, statement_of}
use Rattle.crs_grammar.specs.Statements.{Statement, Message, Attribute, Derived, Begin, Happens, Point, Between, Among, Differ, Over, Emits, Close, is_inside}
use Rattle.crs_parse.specs.Faults.{Written, Reading, Fault, first_of, faults_of, passes_symbols, is_looped, symbols_of, message_named, attribute_named, derived_named, opened, after, answered, after_statement, after_line, after_lines, unless_refused, nothing_read}
use Rattle.crs_parse.specs.HeldStatements.{AreHeld, IsHeldChronicle, IsHeldName, IsHeldReading}
use Rattle.crs_parse.specs.ModelSteps.{HasSymbols}
use Rattle.crs_base.proofs.WithTexts.{known_behind, known_put}
use Rattle.crs_parse.proofs.Faultless.{IsFaultless, faultless}
use Rattle.crs_parse.proofs.HeldParts.{chronicle_held, message_held, attribute_held, derived_held, begun_held}
use Rattle.crs_grammar.proofs.GivesStatements.{read_is_meant}
use Rattle.crs_grammar.specs.Forms.{AreWritten, form_of}
use Rattle.crs_parse.proofs.Premises.{are_read, are_declared}

-- each of these texts is one of those
abbrev pub Within : List (List ℕ) → List (List ℕ) → Type 0
Within texts more = (t : List ℕ) → is_known texts t ≡ true → is_known more t ≡ true

-- tokens that write the statement
abbrev pub IsWritten : Statement → Type 0
IsWritten s = (ts : List Token) × AreWritten (form_of s) ts

-- what a line may give: the reading as it is, or with one statement more
pub record IsNext (line : ℕ) (r next : Reading) (s : Statement) (full : Bool) : Type 0 where
  pub symbols : AllByRecursion (λ t. is_symbol t ≡ true) (symbols_of s)
  pub faultless : IsFaultless full r.names r.done (opened r.current) s
  pub is : after line r s ≡ next
  pub place : is_inside s ≡ is_some r.current
  pub written : IsWritten s

-- what is shown of the reading behind each line, by the reading itself and by a statement more
module _ (limit : ℕ) (G : ℕ → Reading → Reading → Type 0) (kept : (line : ℕ) (r : Reading) → G line r r)
    (more : (line : ℕ) (r next : Reading) (s : Statement) → IsNext line r next s (passes_symbols limit r.texts s) → G line r next) where
  answered_is : (line : ℕ) (r next : Reading) (s : Statement) (o : Option ModelWord) → first_of (faults_of (passes_symbols limit r.texts s) (is_looped r.done (opened r.current) s) r.names r.done (opened r.current) s) ≡ o
      → AllByRecursion (λ t. is_symbol t ≡ true) (symbols_of s) → (is_inside s ≡ is_some r.current) × IsWritten s → answered line (after line r s) o ≡ Ok next → G line r next
  answered_is line r next s (Some w) e h p k = cc
  answered_is line r next s None e h p k =
      more line r next s (record { symbols = h; faultless = faultless (passes_symbols limit r.texts s) r.names r.done (opened r.current) s e; is = cc; place = p.0; written = p.1 })

  statement_is : (line : ℕ) (r next : Reading) (o : Option Statement) → HasSymbols o → ((s : Statement) → o ≡ Some s → (is_inside s ≡ is_some r.current) × IsWritten s) → after_statement limit line r o ≡ Ok next → G line r next
  statement_is line r next None h p e = cc
  statement_is line r next (Some s) h p e = answered_is line r next s (first_of (faults_of (passes_symbols limit r.texts s) (is_looped r.done (opened r.current) s) r.names r.done (opened r.current) s)) refl h (p s refl) e

  line_read : (line : List ℕ) (b : Bool) → HasSymbols (tokens_of is_model_mark line >>= statement_of b)
  line_read line true = are_read line
  line_read line false = are_declared line

  meant : (o : Option (List Token)) (b : Bool) (s : Statement) → (o >>= statement_of b) ≡ Some s → (is_inside s ≡ b) × IsWritten s
  meant None b s e = cc
  meant (Some ts) b s e = let m = read_is_meant b ts s e in (m.0, (ts, m.1))

  line_is : (line : ℕ) (r next : Reading) (l : Line) (long passed : Bool) → cond long (Err (line, LimitWord)) (cond passed (Ok r) (after_statement limit line r (tokens_of is_model_mark (bytes_of l) >>= statement_of (is_some r.current)))) ≡ Ok next → G line r next
  line_is line r next l true passed e = cc
  line_is line r next l false true e = let same : r ≡ next = cc in subst (G line r) same (kept line r)
  line_is line r next l false false e = statement_is line r next (tokens_of is_model_mark (bytes_of l) >>= statement_of (is_some r.current)) (line_read (bytes_of l) (is_some r.current)) (λ s q. meant (tokens_of is_model_mark (bytes_of l)) (is_some r.current) s q) e

  pub by_line : (line : ℕ) (r next : Reading) (l : Line) → after_line limit line r l ≡ Ok next → G line r next
  by_line line r next l e = line_is line r next l (is_long l) (is_passed_over (bytes_of l)) e

pub next_of : (x : Result Reading Fault) (f : Reading → Result Reading Fault) (r : Reading) → unless_refused x f ≡ Ok r → (next : Reading) × (x ≡ Ok next) × (f next ≡ Ok r)
next_of (Ok next) f r e = (next, refl, e)
next_of (Err w) f r e = cc

pub record IsLast (b : Bool) (r all : Reading) : Type 0 where
  pub outside : b ≡ false
  pub same : r ≡ all

pub last_of : (b : Bool) (line : ℕ) (r all : Reading) → cond {A = Result Reading Fault} b (Err (line, FormWord)) (Ok r) ≡ Ok all → IsLast b r all
last_of true line r all e = cc
last_of false line r all e = record { outside = refl; same = cc }

-- its symbols are put into the table
pub table_after : (line : ℕ) (r : Reading) (s : Statement) → (after line r s).texts ≡ with_texts r.texts (symbols_of s)
table_after line r (Message name arity) = refl
table_after line r (Attribute name arity values) = refl
table_after line r (Begin heading) = refl
table_after line r (Happens e) = refl
table_after line r (Point name) = refl
table_after line r (Between d) = refl
table_after line r (Among x values) = refl
table_after line r (Differ x y) = refl
table_after line r (Over w) = refl
table_after line r (Derived name arity) = refl
table_after line r (Emits e) = refl
table_after line r Close = refl

-- no text is lost
after_texts : (line : ℕ) (r : Reading) (s : Statement) → Within r.texts (after line r s).texts
after_texts line r s t h = subst (λ l. is_known l t ≡ true) (sym (table_after line r s)) (known_behind r.texts (symbols_of s) t h)

-- its symbols are among texts that have that table's
pub symbols_known : (texts : List (List ℕ)) (line : ℕ) (r : Reading) (s : Statement) → Within (after line r s).texts texts → AllByRecursion (λ t. is_known texts t ≡ true) (symbols_of s)
symbols_known texts line r s w = all_each (symbols_of s) w (subst (λ l. AllByRecursion (λ t. is_known l t ≡ true) (symbols_of s)) (sym (table_after line r s)) (known_put r.texts (symbols_of s)))

texts_next : (limit line : ℕ) (r next : Reading) (l : Line) → after_line limit line r l ≡ Ok next → Within r.texts next.texts
texts_next limit line r next l e = by_line limit (λ line r next. Within r.texts next.texts) (λ line r t h. h) (λ line r next s h. subst (λ x. Within r.texts x.texts) h.is (after_texts line r s)) line r next l e

pub texts_within : (limit line : ℕ) (r all : Reading) (ls : List Line) → after_lines limit line r ls ≡ Ok all → Within r.texts all.texts
texts_within limit line r all [] e = let h = last_of (is_some r.current) line r all e in λ t k. subst (λ x. is_known x.texts t ≡ true) h.same k
texts_within limit line r all (l ∷ ls) e =
    let n = next_of (after_line limit line r l) (λ next. after_lines limit (line + 1) next ls) all e in
    λ t k. texts_within limit (line + 1) n.0 all ls n.2 t (texts_next limit line r n.0 l n.1 t k)

-- what is held of a reading on the way, in the texts of the whole one
pub record IsHeldSoFar (texts : List (List ℕ)) (r : Reading) : Type 0 where
  pub names : AllByRecursion (IsHeldName texts) r.names
  pub done : AllByRecursion (λ d. IsHeldChronicle texts d.1) r.done
  pub current : IfSome r.current (IsHeldChronicle texts)

-- the open chronicle, where there is one
abbrev HeldOr : List (List ℕ) → Option Written → Type 0
HeldOr texts o = IfSome o (IsHeldChronicle texts)

held_each : (texts ts : List (List ℕ)) → AllByRecursion (λ t. is_symbol t ≡ true) ts → AllByRecursion (λ t. is_known texts t ≡ true) ts → AreHeld texts ts
held_each texts [] h k = tt
held_each texts (t ∷ ts) h k = (record { known = k.0; symbol = h.0 }, held_each texts ts h.1 k.1)

module _ (texts : List (List ℕ)) where
  -- the open chronicle is held
  opened_held : (o : Option Written) → true ≡ is_some o → HeldOr texts o → IsHeldChronicle texts (opened o)
  opened_held None e h = cc
  opened_held (Some c) e h = h

  next_held : (line : ℕ) (r : Reading) (s : Statement) (full : Bool) → IsFaultless full r.names r.done (opened r.current) s → is_inside s ≡ is_some r.current → AreHeld texts (symbols_of s) → IsHeldSoFar texts r
      → IsHeldSoFar texts (after line r s)
  next_held line r (Message name arity) full f p h k = record { names = all_put (IsHeldName texts) r.names (message_named name arity) k.names (message_held texts full r.names r.done (opened r.current) name arity f h); done = k.done; current = k.current }
  next_held line r (Attribute name arity values) full f p h k = record { names = all_put (IsHeldName texts) r.names (attribute_named name arity values) k.names (attribute_held texts full r.names r.done (opened r.current) name arity values f h); done = k.done; current = k.current }
  next_held line r (Derived name arity) full f p h k = record { names = all_put (IsHeldName texts) r.names (derived_named name arity) k.names (derived_held texts full r.names r.done (opened r.current) name arity f h); done = k.done; current = k.current }
  next_held line r (Begin heading) full f p h k = record { names = k.names; done = k.done; current = begun_held texts heading h.0 }
  next_held line r (Happens e) full f p h k = record { names = k.names; done = k.done; current = chronicle_held texts full r.names r.done (opened r.current) (Happens e) f h (opened_held r.current p k.current) }
  next_held line r (Point name) full f p h k = record { names = k.names; done = k.done; current = chronicle_held texts full r.names r.done (opened r.current) (Point name) f h (opened_held r.current p k.current) }
  next_held line r (Between d) full f p h k = record { names = k.names; done = k.done; current = chronicle_held texts full r.names r.done (opened r.current) (Between d) f h (opened_held r.current p k.current) }
  next_held line r (Among x values) full f p h k = record { names = k.names; done = k.done; current = chronicle_held texts full r.names r.done (opened r.current) (Among x values) f h (opened_held r.current p k.current) }
  next_held line r (Differ x y) full f p h k = record { names = k.names; done = k.done; current = chronicle_held texts full r.names r.done (opened r.current) (Differ x y) f h (opened_held r.current p k.current) }
  next_held line r (Over w) full f p h k = record { names = k.names; done = k.done; current = chronicle_held texts full r.names r.done (opened r.current) (Over w) f h (opened_held r.current p k.current) }
  next_held line r (Emits e) full f p h k = record { names = k.names; done = k.done; current = chronicle_held texts full r.names r.done (opened r.current) (Emits e) f h (opened_held r.current p k.current) }
  next_held line r Close full f p h k = record { names = k.names; done = all_put (λ d. IsHeldChronicle texts d.1) r.done (line, opened r.current) k.done (opened_held r.current p k.current); current = tt }

line_held : (limit : ℕ) (texts : List (List ℕ)) (line : ℕ) (r next : Reading) (l : Line) → after_line limit line r l ≡ Ok next → Within next.texts texts → IsHeldSoFar texts r → IsHeldSoFar texts next
line_held limit texts line r next l e = by_line limit (λ line r next. Within next.texts texts → IsHeldSoFar texts r → IsHeldSoFar texts next) (λ line r w k. k)
    (λ line r next s h w k.
    let known = symbols_known texts line r s (subst (λ x. Within x.texts texts) (sym h.is) w) in
    let held : AreHeld texts (symbols_of s) = held_each texts (symbols_of s) h.symbols known in
    subst (IsHeldSoFar texts) h.is (next_held texts line r s (passes_symbols limit r.texts s) h.faultless h.place held k)) line r next l e

lines_held : (limit line : ℕ) (r all : Reading) (ls : List Line) → after_lines limit line r ls ≡ Ok all → IsHeldSoFar all.texts r → IsHeldSoFar all.texts all
lines_held limit line r all [] e h = subst (IsHeldSoFar all.texts) (last_of (is_some r.current) line r all e).same h
lines_held limit line r all (l ∷ ls) e h =
    let n = next_of (after_line limit line r l) (λ next. after_lines limit (line + 1) next ls) all e in
    lines_held limit (line + 1) n.0 all ls n.2 (line_held limit all.texts line r n.0 l n.1 (texts_within limit (line + 1) n.0 all ls n.2) h)

-- a reading of all lines
pub lines_read : (limit line : ℕ) (texts : List (List ℕ)) (all : Reading) (ls : List Line) → after_lines limit line (nothing_read texts) ls ≡ Ok all → IsHeldReading all.texts all
lines_read limit line texts all ls e = let h = lines_held limit line (nothing_read texts) all ls e (record { names = tt; done = tt; current = tt }) in record { names = h.names; done = h.done }
