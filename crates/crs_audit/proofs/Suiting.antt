-- What a proper plan gives to judge entries by.
use Rattle.std.proofs.Common.{◌≡◌, ◌∙◌, ◌<◌, ℕ, List, [], ◌∷◌, length, sym, subst, arith, Option, Some, None}
use Rattle.std.specs.Prelude.{IsSomeAnd, IfSome, option_map}
use Rattle.std.proofs.lemmas.List.{length-map}
use Rattle.std.specs.List.{AllByRecursion}
use Rattle.crs_base.specs.declared.symbols.Sym.{Sym}
use Rattle.crs_base.specs.Entry.{Entry}
use Rattle.crs_base.proofs.Words.{each_from_in, in_from_each}
use Rattle.crs_stn.specs.Bound.{IsWithin}
use Rattle.crs_model.specs.declared.plan.Plan.{Plan}
use Rattle.crs_model.specs.Models.{Term, Value, Var, Any, Pattern, Body, NoEvent, Occurs, Hold, Chronicle, Name}
use Rattle.crs_model.specs.Matching.{Binding}
use Rattle.crs_model.specs.Bindings.{look_of, TermIsBelow, PatternIsBelow}
use Rattle.crs_model.specs.Plans.{chronicle, IsProper}
use Rattle.crs_model.specs.Proper.{IsNamed}
use Rattle.crs_model.specs.ProperModels.{IsProperBody, IsProperWindow, IsProperAnchor}
use Rattle.crs_model.specs.Ready.{HoldsOne}
use Rattle.crs_model.specs.Renaming.{IsEntryOf}
use Rattle.crs_model.specs.Verdicts.{TermIsBound, PatternIsBound, BodyIsBound}
use Rattle.crs_model.proofs.Renamed.{renamed_look, of_events, patterns_on}
use Rattle.crs_model.proofs.Holding.{windows_hold}
use Rattle.crs_audit.specs.Fit.{AreEqual, IsBindingOf}
use Rattle.crs_audit.specs.ClaimWindows.{CanBeMet}

-- ---- variables

abbrev Any_symbol : Sym → Type 0
Any_symbol s = Unit {0}

each_any : (xs : List Sym) → AllByRecursion Any_symbol xs
each_any [] = tt
each_any (x ∷ xs) = (tt, each_any xs)

pair_any : (o : Option (Sym × Sym)) → IfSome o (λ c. Any_symbol c.0 × Any_symbol c.1)
pair_any None = tt
pair_any (Some c) = (tt, tt)

all_any : (es : List (Entry Sym)) → AllByRecursion (IsEntryOf Any_symbol) es
all_any [] = tt
all_any (e ∷ es) = (record { name = tt; args = each_any e.args; change = pair_any e.change }, all_any es)

-- entries that fit bind each variable
pub bound_each : (c : Chronicle Sym) → IsNamed c → (es : List (Entry Sym)) (look : Binding Sym) → AreEqual c.events es look → (v : ℕ) → v < length c.variables → IsSomeAnd (look v) (λ _. Unit {0})
bound_each c named es look equal v lt =
    let stands = named.stands v lt in
    let g = of_events (λ (y : Sym). y) Any_symbol (renamed_look (λ (y : Sym). y) look) v c.events es (all_any es) (patterns_on (λ (y : Sym). y) look c.events es equal)
    stands.0 stands.1 stands.2 stands.3 in
    some_of (look v) g.0 g.2
  where
    some_of : (o : Option Sym) (y : Sym) → option_map (λ x. x) o ≡ Some y → IsSomeAnd o (λ _. Unit {0})
    some_of None y h = absurd cc
    some_of (Some x) y h = tt

module _ (look : Binding Sym) (n : ℕ) (each : (v : ℕ) → v < n → IsSomeAnd (look v) (λ _. Unit {0})) where
  term_bound : (t : Term Sym) → TermIsBelow n t → TermIsBound look t
  term_bound (Value x) h = tt
  term_bound (Var v) h = each v h
  term_bound Any h = tt

  terms_bound : (ts : List (Term Sym)) → AllByRecursion (TermIsBelow n) ts → AllByRecursion (TermIsBound look) ts
  terms_bound [] h = tt
  terms_bound (t ∷ ts) h = (term_bound t h.0, terms_bound ts h.1)

  pattern_bound : (p : Pattern Sym) → PatternIsBelow n p → PatternIsBound look p
  pattern_bound p h = (terms_bound p.terms h.0, changed p.change h.1)
    where
      changed : (o : Option (Term Sym × Term Sym)) → IfSome o (λ c. TermIsBelow n c.0 × TermIsBelow n c.1) → IfSome o (λ c. TermIsBound look c.0 × TermIsBound look c.1)
      changed None h = tt
      changed (Some c) h = (term_bound c.0 h.0, term_bound c.1 h.1)

  body_bound : (names : List (Name Sym)) (b : Body Sym) → IsProperBody names n b → BodyIsBound look b
  body_bound names (NoEvent p) h = pattern_bound p h.1
  body_bound names (Occurs least most p) h = pattern_bound p h.1
  body_bound names (Hold name terms value) h = (terms_bound terms h.1.1, term_bound value h.1.0)

-- ---- windows and bounds

module _ (p : Plan) (proper : IsProper p) where
  pub windows_able : (es : List (Entry Sym)) (b : List (Option Sym)) (events : ℕ) → IsBindingOf (chronicle p) es (Some b) → events ≡ length p.chronicle.events
      → AllByRecursion (CanBeMet (look_of b) events) (chronicle p).windows
  windows_able es b events of many =
      let d = proper.declared in
      each_from_in (CanBeMet (look_of b) events) (chronicle p).windows (λ w i.
      let w_proper = in_from_each (IsProperWindow d.0 (chronicle p)) (chronicle p).windows d.2.windows w i in
      let here : length (chronicle p).events ≡ events = length-map p.chronicle.events _ ∙ sym many in
      record {
        bound = body_bound (look_of b) (length (chronicle p).variables) (bound_each (chronicle p) proper.named es (look_of b) of.0.0) d.0 w.body w_proper.body;
        plain = in_from_each (λ w. HoldsOne w.body) (chronicle p).windows (windows_hold p proper) w i;
        from = subst (λ (n : ℕ). IsProperAnchor n w.from) here w_proper.from;
        to = subst (λ (n : ℕ). IsProperAnchor n w.to) here w_proper.to;
      })

  pub within_all : IsWithin 24 p.chronicle.bounds
  within_all k d l = let b = proper.within k d l in let few = proper.few in
      record {
        from_below = (let m = b.from_below in omega arith);
        to_below = (let m = b.to_below in omega arith);
        not_large = b.not_large;
        not_small = b.not_small;
      }
