-- Of accepted models each emit is of symbols, and so is what a recognition gives by it.
use Rattle.std.proofs.Common.{◌≡◌, ◌∙◌, ap, sym, refl, subst, ℕ, zero, suc, ◌<◌, ◌||◌, Bool, true, false, true≢false, eqb-true, List, [], ◌∷◌, length, Option, Some, None, Ok, inl, inr, nat_lt, arith}
use Rattle.std.specs.Prelude.{◌⊎◌, slice_get, option_map, flat_map}
use Rattle.std.specs.List.{AllByRecursion, AllZip}
use Rattle.std.specs.Option.{option_to_list}
use Rattle.std.proofs.lemmas.List.{map-id}
use Rattle.crs_base.specs.Entry.{Entry, canonical}
use Rattle.crs_base.specs.Lines.{lines_of}
use Rattle.crs_base.specs.Symbols.{is_symbol}
use Rattle.crs_base.specs.Words.{IsIn}
use Rattle.crs_base.proofs.Alls.{all_append, all_both}
use Rattle.crs_base.proofs.Words.{in_from_each}
use Rattle.crs_grammar.specs.Statements as w
use Rattle.crs_log.specs.Items.{Event, AreSymbols, IsChange}
use Rattle.crs_log.specs.Known.{entry_of_event}
use Rattle.crs_log.proofs.Canonicals.{IsOfSymbols}
use Rattle.crs_log.proofs.ReadEntries.{IsRead}
use Rattle.crs_parse.specs.Faults.{Name, Written, Reading, after_lines, nothing_read, reading_of}
use Rattle.crs_parse.specs.HeldStatements.{IsHeldChronicle, IsHeldTerm}
use Rattle.crs_parse.specs.Meant.{term_of, emit_of, points_of, chronicle_of, models_read}
use Rattle.crs_parse.proofs.HeldReading.{lines_read}
use Rattle.crs_parse.proofs.Numbered.{each_made}
use Rattle.crs_parse.proofs.Properly.{chronicle_proper}
use Rattle.crs_parse.proofs.Sound.{IsWhole}
use Rattle.crs_parse.proofs.SoundReading.{read_sound}
use Rattle.crs_print.proofs.Law.{by_reading, sized}
use Rattle.crs_model.specs.Models.{Term, Value, Var, Any, Pattern, EventDef, Emit, Chronicle, Models}
use Rattle.crs_model.specs.Matching.{Binding, TermIs, ChangeIs, PatternIs, Assignment, IsAssignment}
use Rattle.crs_model.specs.Proper.{IsNamed, term_has, terms_have, change_has, pattern_has}
use Rattle.crs_layers.specs.Strata.{symbols_at, entry_by, given_by, gives}

-- ---- the models

abbrev IsSymbolTerm : Term (List ℕ) → Type 0
IsSymbolTerm (Value x) = is_symbol x ≡ true
IsSymbolTerm (Var v) = Unit {0}
IsSymbolTerm Any = Unit {0}

-- the emits are of symbols, and each variable stands in an event
pub record IsEmitting (c : Chronicle (List ℕ)) : Type 0 where
  pub named : IsNamed c
  pub names : AllByRecursion (λ e. is_symbol e.pattern.name ≡ true) c.emits
  pub terms : AllByRecursion (λ e. AllByRecursion IsSymbolTerm e.pattern.terms) c.emits

symbol_term : (texts variables : List (List ℕ)) (t : w.Term) → IsHeldTerm texts t → IsSymbolTerm (term_of variables t)
symbol_term texts variables (w.Value x) h = h.symbol
symbol_term texts variables (w.Variable x) h = tt
symbol_term texts variables w.Any h = tt

emitting : (texts : List (List ℕ)) (names : List Name) (d : ℕ × Written) → IsHeldChronicle texts d.1 → IsWhole names d.1 → IsEmitting (chronicle_of d)
emitting texts names d h whole = record {
  named = (chronicle_proper texts names d h whole).named;
  names = each_made _ _ (emit_of d.1.variables (points_of d.1)) d.1.emits (λ e q. q.pattern.name.symbol) h.emits;
  terms = each_made _ _ (emit_of d.1.variables (points_of d.1)) d.1.emits
      (λ e q. each_made _ _ (term_of d.1.variables) e.pattern.terms (symbol_term texts d.1.variables) q.pattern.terms) h.emits;
}

pub models_emitting : (symbols : ℕ) (text : List ℕ) (m : Models (List ℕ)) (texts : List (List ℕ)) → models_read symbols [] text ≡ Ok (m, texts)
    → AllByRecursion IsEmitting m.chronicles
models_emitting symbols text m texts read =
    let b = by_reading (reading_of [] symbols text) m texts read in
    let r : Reading = b.0 in
    let e = sized (nat_lt 1048576 (length text)) (after_lines symbols 1 (nothing_read []) (lines_of text)) r b.1 in
    let held = lines_read symbols 1 [] r (lines_of text) e in
    let sound = read_sound symbols 1 [] r (lines_of text) e in
    subst (λ (n : Models (List ℕ)). AllByRecursion IsEmitting n.chronicles) b.2
    (each_made _ _ chronicle_of r.done (λ d q. emitting r.texts r.names d q.0 q.1)
    (all_both (λ d. IsHeldChronicle r.texts d.1) (λ d. IsWhole r.names d.1) r.done held.done sound.done))

-- ---- the symbols of an assignment

or_true : (a b : Bool) → (a || b) ≡ true → (a ≡ true) ⊎ (b ≡ true)
or_true true b e = inl refl
or_true false b e = inr e

-- the variable is bound to a symbol
abbrev IsSymbolAt : Binding (List ℕ) → ℕ → Type 0
IsSymbolAt look v = (x : List ℕ) × (look v ≡ Some x) × (is_symbol x ≡ true)

at_term : (look : Binding (List ℕ)) (v : ℕ) (t : Term (List ℕ)) (x : List ℕ) → term_has v t ≡ true → TermIs look t x → is_symbol x ≡ true → IsSymbolAt look v
at_term look v (Value y) x e h s = absurd (true≢false (sym e))
at_term look v (Var u) x e h s = (x, subst (λ (n : ℕ). look n ≡ Some x) (eqb-true u v e) h, s)
at_term look v Any x e h s = absurd (true≢false (sym e))

at_terms : (look : Binding (List ℕ)) (v : ℕ) (ts : List (Term (List ℕ))) (xs : List (List ℕ)) → terms_have v ts ≡ true → AllZip (TermIs look) ts xs → AreSymbols xs → IsSymbolAt look v
at_terms look v [] xs e h s = absurd (true≢false (sym e))
at_terms look v (t ∷ ts) [] e h s = absurd h
at_terms look v (t ∷ ts) (x ∷ xs) e h s = elim (or_true (term_has v t) (terms_have v ts) e) [
  | inl here ↦ at_term look v t x here h.0 s.0
  | inr there ↦ at_terms look v ts xs there h.1 s.1
]

at_change : (look : Binding (List ℕ)) (v : ℕ) (t : Option (Term (List ℕ) × Term (List ℕ))) (e : Event) → IsOfSymbols e → change_has v t ≡ true → ChangeIs look t e.change → IsSymbolAt look v
at_change look v None e s has h = absurd (true≢false (sym has))
at_change look v (Some t) e s has h = by e.change s.change h
  where
    by : (c : Option (List ℕ × List ℕ)) → IsChange c → ChangeIs look (Some t) c → IsSymbolAt look v
    by None s h = absurd h
    by (Some x) s h = elim (or_true (term_has v t.0) (term_has v t.1) has) [
      | inl here ↦ at_term look v t.0 x.0 here h.0 s.0
      | inr there ↦ at_term look v t.1 x.1 there h.1 s.1
    ]

at_event : (look : Binding (List ℕ)) (v : ℕ) (p : Pattern (List ℕ)) (x : Entry (List ℕ)) → pattern_has v p ≡ true → PatternIs look p x → IsRead x → IsSymbolAt look v
at_event look v p x e h (ev, s, is) = elim (or_true (terms_have v p.terms) (change_has v p.change) e) [
  | inl here ↦ at_terms look v p.terms ev.args here (subst (λ (y : Entry (List ℕ)). AllZip (TermIs look) p.terms y.args) is h.terms) s.args
  | inr there ↦ at_change look v p.change ev s there (subst (λ (y : Entry (List ℕ)). ChangeIs look p.change y.change) is h.change)
]

at_place : (look : Binding (List ℕ)) (v : ℕ) (defs : List (EventDef (List ℕ))) (es : List (Entry (List ℕ))) (n : ℕ) (def : EventDef (List ℕ)) → slice_get defs n ≡ Some def
    → pattern_has v def.pattern ≡ true → AllZip (λ d x. PatternIs look d.pattern x) defs es → AllByRecursion IsRead es → IsSymbolAt look v
at_place look v [] es n def e has h r = absurd cc
at_place look v (d ∷ defs) [] n def e has h r = absurd h
at_place look v (d ∷ defs) (x ∷ es) zero def e has h r =
    let same : d ≡ def = cc in
    at_event look v d.pattern x (subst (λ (q : EventDef (List ℕ)). pattern_has v q.pattern ≡ true) (sym same) has) h.0 r.0
at_place look v (d ∷ defs) (x ∷ es) (suc n) def e has h r = at_place look v defs es n def e has h.1 r.1

-- all values of an assignment over entries that were read, or given, are symbols
values_symbols : (c : Chronicle (List ℕ)) → IsNamed c → (a : Assignment (List ℕ)) (pool : List (Entry (List ℕ))) → IsAssignment c pool a → AllByRecursion IsRead pool
    → (v : ℕ) (x : List ℕ) → slice_get a.values v ≡ Some x → is_symbol x ≡ true
values_symbols c named a pool h read v x e =
    let below : v < length a.values = place_below a.values v x e in
    let n = named.stands v (subst (λ (k : ℕ). v < k) h.bound below) in
    let at = at_place (slice_get a.values) v c.events a.entries n.0 n.1 n.2 n.3 h.equal (each_read a.entries h.given) in
    let same : at.0 ≡ x = (let q : Some at.0 ≡ Some x = sym at.1 ∙ e in cc) in
    subst (λ (y : List ℕ). is_symbol y ≡ true) same at.2
  where
    each_read : (es : List (Entry (List ℕ))) → AllByRecursion (λ y. IsIn y pool) es → AllByRecursion IsRead es
    each_read [] g = tt
    each_read (y ∷ es) g = (in_from_each IsRead pool read y g.0, each_read es g.1)

    place_below : (xs : List (List ℕ)) (n : ℕ) (y : List ℕ) → slice_get xs n ≡ Some y → n < length xs
    place_below [] n y e = absurd cc
    place_below (z ∷ xs) zero y e = omega arith
    place_below (z ∷ xs) (suc n) y e = let l = place_below xs n y e in omega (arith, l)

-- ---- what a recognition gives

-- an entry of symbols that isn't numbered yet
abbrev pub IsGiven : Entry (List ℕ) → Type 0
IsGiven x = (e : Event) × IsOfSymbols e × (x ≡ entry_of_event 0 e)

args_symbols : (values : List (List ℕ)) (ts : List (Term (List ℕ))) → AllByRecursion IsSymbolTerm ts → ((v : ℕ) (x : List ℕ) → slice_get values v ≡ Some x → is_symbol x ≡ true)
    → AreSymbols (flat_map (symbols_at values) ts)
args_symbols values [] h k = tt
args_symbols values (t ∷ ts) h k = all_append (λ x. is_symbol x ≡ true) (symbols_at values t) (flat_map (symbols_at values) ts) (here t h.0) (args_symbols values ts h.1 k)
  where
    here : (t : Term (List ℕ)) → IsSymbolTerm t → AreSymbols (symbols_at values t)
    here (Value x) s = (s, tt)
    here (Var v) s = by (slice_get values v) (λ x e. k v x e)
      where
        by : (o : Option (List ℕ)) → ((x : List ℕ) → o ≡ Some x → is_symbol x ≡ true) → AreSymbols (option_to_list o)
        by None q = tt
        by (Some x) q = (q x refl, tt)
    here Any s = tt

pub gives_read : (c : Chronicle (List ℕ)) → IsEmitting c → (a : Assignment (List ℕ)) (pool : List (Entry (List ℕ))) → IsAssignment c pool a → AllByRecursion IsRead pool
    → AllByRecursion IsGiven (gives (λ x. x) c a)
gives_read c emitting a pool h read = each c.emits emitting.names emitting.terms
  where
    symbols : (v : ℕ) (x : List ℕ) → slice_get a.values v ≡ Some x → is_symbol x ≡ true
    symbols = values_symbols c emitting.named a pool h read

    one : (e : Emit (List ℕ)) (x : Entry (List ℕ)) → is_symbol e.pattern.name ≡ true → AllByRecursion IsSymbolTerm e.pattern.terms → IsGiven (entry_by (λ x. x) a.values e x)
    one e x name terms =
        let args : List (List ℕ) = flat_map (symbols_at a.values) e.pattern.terms in
        let event : Event = record { date = x.date; name = e.pattern.name; args = args; change = None } in (
          event,
          record { name = name; args = args_symbols a.values e.pattern.terms terms symbols; change = tt },
          ap (λ (ts : List (List ℕ)). record { arrival = 0; date = x.date; name = e.pattern.name; args = args; change = None; text = canonical e.pattern.name ts None }) (map-id args),
        )

    by : (e : Emit (List ℕ)) (o : Option (Entry (List ℕ))) → is_symbol e.pattern.name ≡ true → AllByRecursion IsSymbolTerm e.pattern.terms
        → AllByRecursion IsGiven (option_to_list (option_map (entry_by (λ x. x) a.values e) o))
    by e None name terms = tt
    by e (Some x) name terms = (one e x name terms, tt)

    each : (es : List (Emit (List ℕ))) → AllByRecursion (λ e. is_symbol e.pattern.name ≡ true) es → AllByRecursion (λ e. AllByRecursion IsSymbolTerm e.pattern.terms) es
        → AllByRecursion IsGiven (flat_map (given_by (λ x. x) a) es)
    each [] n t = tt
    each (e ∷ es) n t = all_append IsGiven (given_by (λ x. x) a e) (flat_map (given_by (λ x. x) a) es) (by e (slice_get a.entries e.event) n.0 t.0) (each es n.1 t.1)
