-- Two renamings that agree on the symbols of something rename it to the same.
use Rattle.std.proofs.Common.{◌≡◌, List, [], ◌∷◌, map, refl, ap}
use Rattle.std.specs.Prelude.{Option, Some, None, IfSome, option_map}
use Rattle.std.specs.List.{AllByRecursion}
use Rattle.crs_base.specs.Entry.{Entry}
use Rattle.crs_base.proofs.Alls.{all_each}
use Rattle.crs_model.specs.Models.{Term, Value, Var, Any, Pattern, EventDef, VarSet, Body, NoEvent, Occurs, Hold, Window, Emit, Chronicle, Kind, Message, Attribute, Name}
use Rattle.crs_model.specs.Renaming.{renamed_term, renamed_pattern, renamed_event, renamed_set, renamed_body, renamed_window, renamed_emit, renamed_chronicle, renamed_kind, renamed_name, renamed_entry, IsTermOf, IsPatternOf, IsBodyOf, IsChronicleOf, IsKindOf, IsNameOf, IsEntryOf}

-- each of a list
pub all_same : {A B : Type 0} (f g : A → B) (Q : A → Type 0) (xs : List A) → ((x : A) → Q x → f x ≡ g x) → AllByRecursion Q xs → map f xs ≡ map g xs
all_same f g Q [] e h = refl
all_same f g Q (x ∷ xs) e h = λ i. e x h.0 i ∷ all_same f g Q xs e h.1 i

module _ {S T : Type 0} (f g : S → T) (P : S → Type 0) (same : (s : S) → P s → f s ≡ g s) where
  same_term : (t : Term S) → IsTermOf P t → renamed_term f t ≡ renamed_term g t
  same_term (Value s) h = ap Value (same s h)
  same_term (Var v) h = refl
  same_term Any h = refl

  same_terms : (ts : List (Term S)) → AllByRecursion (IsTermOf P) ts → map (renamed_term f) ts ≡ map (renamed_term g) ts
  same_terms ts h = all_same (renamed_term f) (renamed_term g) (IsTermOf P) ts same_term h

  same_symbols : (xs : List S) → AllByRecursion P xs → map f xs ≡ map g xs
  same_symbols xs h = all_same f g P xs same h

  abbrev pair_by : (S → T) → S × S → T × T
  pair_by k c = (k c.0, k c.1)

  abbrev terms_by : (S → T) → Term S × Term S → Term T × Term T
  terms_by k c = (renamed_term k c.0, renamed_term k c.1)

  same_terms_change : (c : Option (Term S × Term S)) → IfSome c (λ c. IsTermOf P c.0 × IsTermOf P c.1) → option_map (terms_by f) c ≡ option_map (terms_by g) c
  same_terms_change None h = refl
  same_terms_change (Some c) h = λ i. Some (same_term c.0 h.0 i, same_term c.1 h.1 i)

  same_change : (c : Option (S × S)) → IfSome c (λ c. P c.0 × P c.1) → option_map (pair_by f) c ≡ option_map (pair_by g) c
  same_change None h = refl
  same_change (Some c) h = λ i. Some (same c.0 h.0 i, same c.1 h.1 i)

  same_pattern : (p : Pattern S) → IsPatternOf P p → renamed_pattern f p ≡ renamed_pattern g p
  same_pattern p h = λ i. record { name = same p.name h.name i; terms = same_terms p.terms h.terms i; change = same_terms_change p.change h.change i }

  same_events : (vs : List (EventDef S)) → AllByRecursion (λ v. P v.point) vs → AllByRecursion (λ v. IsPatternOf P v.pattern) vs → map (renamed_event f) vs ≡ map (renamed_event g) vs
  same_events [] p q = refl
  same_events (v ∷ vs) p q = λ i. record { pattern = same_pattern v.pattern q.0 i; point = same v.point p.0 i; level = v.level } ∷ same_events vs p.1 q.1 i

  same_sets : (ss : List (VarSet S)) → AllByRecursion (λ s. AllByRecursion P s.values) ss → map (renamed_set f) ss ≡ map (renamed_set g) ss
  same_sets ss h = all_same (renamed_set f) (renamed_set g) (λ s. AllByRecursion P s.values) ss (λ s k i. record { variable = s.variable; values = same_symbols s.values k i }) h

  same_body : (b : Body S) → IsBodyOf P b → renamed_body f b ≡ renamed_body g b
  same_body (NoEvent p) h = ap NoEvent (same_pattern p h)
  same_body (Occurs least most p) h = ap (Occurs least most) (same_pattern p h)
  same_body (Hold name terms value) h = λ i. Hold (same name h.0 i) (same_terms terms h.1 i) (same_term value h.2 i)

  same_windows : (ws : List (Window S)) → AllByRecursion (λ w. IsBodyOf P w.body) ws → map (renamed_window f) ws ≡ map (renamed_window g) ws
  same_windows ws h = all_same (renamed_window f) (renamed_window g) (λ w. IsBodyOf P w.body) ws (λ w k i. record { body = same_body w.body k i; from = w.from; to = w.to }) h

  same_emits : (es : List (Emit S)) → AllByRecursion (λ e. IsPatternOf P e.pattern) es → map (renamed_emit f) es ≡ map (renamed_emit g) es
  same_emits es h = all_same (renamed_emit f) (renamed_emit g) (λ e. IsPatternOf P e.pattern) es (λ e k i. record { pattern = same_pattern e.pattern k i; event = e.event }) h

  pub same_chronicle : (c : Chronicle S) → IsChronicleOf P c → renamed_chronicle f c ≡ renamed_chronicle g c
  same_chronicle c h = λ i. record {
    name = same c.name h.name i;
    prompt = c.prompt;
    line = c.line;
    events = same_events c.events h.points h.patterns i;
    free = same_symbols c.free h.free i;
    bounds = c.bounds;
    variables = same_symbols c.variables h.variables i;
    sets = same_sets c.sets h.sets i;
    differs = c.differs;
    windows = same_windows c.windows h.windows i;
    emits = same_emits c.emits h.emits i;
  }

  same_kind : (k : Kind S) → IsKindOf P k → renamed_kind f k ≡ renamed_kind g k
  same_kind Message h = refl
  same_kind (Attribute None) h = refl
  same_kind (Attribute (Some values)) h = λ i. Attribute (Some (same_symbols values h i))

  pub same_name : (n : Name S) → IsNameOf P n → renamed_name f n ≡ renamed_name g n
  same_name n h = λ i. record { name = same n.name h.name i; arity = n.arity; kind = same_kind n.kind h.kind i }

  same_entry : (e : Entry S) → IsEntryOf P e → renamed_entry f e ≡ renamed_entry g e
  same_entry e h = λ i. record { arrival = e.arrival; date = e.date; name = same e.name h.name i; args = same_symbols e.args h.args i; change = same_change e.change h.change i; text = e.text }

  pub same_entries : (es : List (Entry S)) → AllByRecursion (IsEntryOf P) es → map (renamed_entry f) es ≡ map (renamed_entry g) es
  same_entries es h = all_same (renamed_entry f) (renamed_entry g) (IsEntryOf P) es same_entry h

-- what is of symbols of which P holds is of symbols of which Q holds, where P implies Q
module _ {S : Type 0} (P Q : S → Type 0) (more : (s : S) → P s → Q s) where
  if_more : {A : Type 0} (F G : A → Type 0) (o : Option A) → ((x : A) → F x → G x) → IfSome o F → IfSome o G
  if_more F G None e h = tt
  if_more F G (Some x) e h = e x h

  term_more : (t : Term S) → IsTermOf P t → IsTermOf Q t
  term_more (Value s) h = more s h
  term_more (Var v) h = tt
  term_more Any h = tt

  terms_more : (ts : List (Term S)) → AllByRecursion (IsTermOf P) ts → AllByRecursion (IsTermOf Q) ts
  terms_more ts h = all_each {P = IsTermOf P} ts term_more h

  symbols_more : (xs : List S) → AllByRecursion P xs → AllByRecursion Q xs
  symbols_more xs h = all_each {P = P} xs more h

  pattern_more : (p : Pattern S) → IsPatternOf P p → IsPatternOf Q p
  pattern_more p h = record {
    name = more p.name h.name;
    terms = terms_more p.terms h.terms;
    change = if_more (λ c. IsTermOf P c.0 × IsTermOf P c.1) (λ c. IsTermOf Q c.0 × IsTermOf Q c.1) p.change (λ c k. (term_more c.0 k.0, term_more c.1 k.1)) h.change;
  }

  body_more : (b : Body S) → IsBodyOf P b → IsBodyOf Q b
  body_more (NoEvent p) h = pattern_more p h
  body_more (Occurs least most p) h = pattern_more p h
  body_more (Hold name terms value) h = (more name h.0, terms_more terms h.1, term_more value h.2)

  pub chronicle_more : (c : Chronicle S) → IsChronicleOf P c → IsChronicleOf Q c
  chronicle_more c h = record {
    name = more c.name h.name;
    points = all_each {P = λ v. P v.point} c.events (λ v k. more v.point k) h.points;
    patterns = all_each {P = λ v. IsPatternOf P v.pattern} c.events (λ v k. pattern_more v.pattern k) h.patterns;
    free = symbols_more c.free h.free;
    variables = symbols_more c.variables h.variables;
    sets = all_each {P = λ s. AllByRecursion P s.values} c.sets (λ s k. symbols_more s.values k) h.sets;
    windows = all_each {P = λ w. IsBodyOf P w.body} c.windows (λ w k. body_more w.body k) h.windows;
    emits = all_each {P = λ e. IsPatternOf P e.pattern} c.emits (λ e k. pattern_more e.pattern k) h.emits;
  }

  entry_more : (e : Entry S) → IsEntryOf P e → IsEntryOf Q e
  entry_more e h = record {
    name = more e.name h.name;
    args = symbols_more e.args h.args;
    change = if_more (λ c. P c.0 × P c.1) (λ c. Q c.0 × Q c.1) e.change (λ c k. (more c.0 k.0, more c.1 k.1)) h.change;
  }

  pub entries_more : (es : List (Entry S)) → AllByRecursion (IsEntryOf P) es → AllByRecursion (IsEntryOf Q) es
  entries_more es h = all_each {P = IsEntryOf P} es entry_more h
