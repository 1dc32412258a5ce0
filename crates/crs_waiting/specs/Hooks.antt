-- Under which keys instances wait for entries.
use Rattle.std.specs.Prelude.{◌≡◌, ◌⊎◌, ◌+◌, ◌*◌, ◌/◌, ◌%◌, ◌<◌, ◌==◌, ℕ, true, cond, List, [], ◌∷◌, ◌++◌, get_or, map, Option, Some, None, IfSome, slice_get}
use Rattle.std.specs.List.{AllZip}
use Rattle.crs_agenda.specs.declared.timed.Handle.{Handle}
use Rattle.crs_agenda.specs.Freshness.{is_fresh}
use Rattle.crs_base.specs.declared.symbols.Sym.{Sym}
use Rattle.crs_base.specs.Words.{IsIn}
use Rattle.crs_index.specs.declared.key.Key.{Key}
use Rattle.crs_index.specs.Indexes.{IndexState, bucket_of}
use Rattle.crs_model.specs.declared.plan.Plan.{Plan}
use Rattle.crs_model.specs.Models.{Chronicle, Body, NoEvent, Occurs, Hold, EventDef, Window, Term, Var}
use Rattle.crs_model.specs.Plans.{chronicle}
use Rattle.crs_waiting.specs.declared.hooks.Hook.{Hook}
use Rattle.crs_waiting.specs.declared.hooks.Pick.{Pick}
use Rattle.crs_waiting.specs.declared.hooks.Symbols.{Symbols}

-- the name and the terms of the entries that a body looks for
abbrev pub name_of : Body Sym → Sym
name_of (NoEvent p) = p.name
name_of (Occurs least most p) = p.name
name_of (Hold name terms value) = name

-- an event or a window of the chronicle looks for entries of the name
abbrev pub LooksFor : Chronicle Sym → Sym → Type 0
LooksFor c s = IsIn s (map (λ v. v.pattern.name) c.events) ⊎ IsIn s (map (λ w. name_of w.body) c.windows)

abbrev pub terms_of : Body Sym → List (Term Sym)
terms_of (NoEvent p) = p.terms
terms_of (Occurs least most p) = p.terms
terms_of (Hold name terms value) = terms

-- what is picked is a variable, from its place among the terms
abbrev pub Picks : List (Term Sym) → Option Pick → Type 0
Picks terms o = IfSome o (λ p. slice_get terms p.argument ≡ Some (Var p.variable))

-- the hook has the name, and picks variables of the terms
pub record IsHookOf (name : Sym) (terms : List (Term Sym)) (h : Hook) : Type 0 where
  pub named : h.name ≡ name
  pub first : Picks terms h.first
  pub second : Picks terms h.second
  pub third : Picks terms h.third

abbrev pub IsHookOfEvent : EventDef Sym → Hook → Type 0
IsHookOfEvent v h = IsHookOf v.pattern.name v.pattern.terms h

-- the hook of the event of this number
abbrev pub IsHookAt : Plan → ℕ → Hook → Type 0
IsHookAt plan e h = IfSome (slice_get (chronicle plan).events e) (λ v. IsHookOfEvent v h)

abbrev pub IsHookOfWindow : Window Sym → Hook → Type 0
IsHookOfWindow w h = IsHookOf (name_of w.body) (terms_of w.body) h

-- a hook for each event, and one for each window
pub record AreHooks (plan : Plan) (events windows : List Hook) : Type 0 where
  pub of_events : AllZip IsHookOfEvent (chronicle plan).events events
  pub of_windows : AllZip IsHookOfWindow (chronicle plan).windows windows

-- 1 where it is known
abbrev pub digit : Option Sym → ℕ
digit None = 0
digit (Some s) = 1

-- the number of the symbol, where it is known
abbrev pub number : Option Sym → List ℕ
number None = []
number (Some s) = s.0 ∷ []

-- the numbers of the known symbols, in their order
abbrev pub numbers : Symbols → List ℕ
numbers s = number s.first ++ number s.second ++ number s.third

-- the key of a class, for those that know these symbols: its own class tells which are known
unfoldable pub key_with : ℕ → Symbols → Key
key_with c s = record { class = c + 32 * (digit s.first + 2 * digit s.second + 4 * digit s.third); first = get_or (numbers s) 0 0; second = get_or (numbers s) 1 0; third = get_or (numbers s) 2 0 }

-- the symbol that a binding gives the picked variable
abbrev pub picked_symbol : Option Pick → (ℕ → Option Sym) → Option Sym
picked_symbol None look = None
picked_symbol (Some p) look = look p.variable

-- the entry's argument at the picked place
abbrev pub picked_argument : Option Pick → List Sym → Option Sym
picked_argument None args = None
picked_argument (Some p) args = slice_get args p.argument

-- the symbols that a binding gives the hook's variables
abbrev pub picked_symbols : Hook → (ℕ → Option Sym) → Symbols
picked_symbols h look = record { first = picked_symbol h.first look; second = picked_symbol h.second look; third = picked_symbol h.third look }

-- the symbols that the hook's variables have in an entry
abbrev pub picked_arguments : Hook → List Sym → Symbols
picked_arguments h args = record { first = picked_argument h.first args; second = picked_argument h.second args; third = picked_argument h.third args }

-- under which key those with the binding wait
abbrev pub key_of : ℕ → Hook → (ℕ → Option Sym) → Key
key_of c h look = key_with c (picked_symbols h look)

-- each of them is unknown, or as in the other
pub record IsPart (part all : Symbols) : Type 0 where
  pub first : (part.first ≡ None) ⊎ (part.first ≡ all.first)
  pub second : (part.second ≡ None) ⊎ (part.second ≡ all.second)
  pub third : (part.third ≡ None) ⊎ (part.third ≡ all.third)

-- those of the symbols whose binary digit in the number is 1
abbrev pub part_of : Symbols → ℕ → Symbols
part_of s n = record { first = cond (n % 2 == 1) s.first None; second = cond (n / 2 % 2 == 1) s.second None; third = cond (n / 4 % 2 == 1) s.third None }

-- it is the part of one of the numbers below n
abbrev pub IsAmong : Symbols → Symbols → ℕ → Type 0
IsAmong all part n = (k : ℕ) × (k < n) × (part ≡ part_of all k)

-- the handle waits under the key
abbrev pub Waits : IndexState → Key → Handle → Type 0
Waits index k handle = IsIn handle (bucket_of index k)

-- what is fresh and waited still waits
abbrev pub KeepsFresh : List ℕ → IndexState → IndexState → Type 0
KeepsFresh serials old new = (k : Key) (h : Handle) → is_fresh serials h ≡ true → Waits old k h → Waits new k h
