-- Models. S is the type of symbols: texts in the theorems of the program, numbers of a table in the crates below.
use Rattle.std.specs.Prelude.{ℕ, ℤ, Bool, List, Option}
use Rattle.crs_stn.specs.declared.bound.Bound.{Bound}

-- a symbol itself, a variable, or `*`
pub data Term (S : Type 0) : Type 0 where
  Value : S → Term S
  Var : ℕ → Term S
  Any : Term S

pub record Pattern (S : Type 0) : Type 0 where
  pub name : S
  pub terms : List (Term S)
  pub change : Option (Term S × Term S)

pub record EventDef (S : Type 0) : Type 0 where
  pub pattern : Pattern S
  pub point : S
  pub level : ℕ

pub record VarSet (S : Type 0) : Type 0 where
  pub variable : ℕ
  pub values : List S

-- the date of an event, and a number of ticks
pub record Anchor : Type 0 where
  pub event : ℕ
  pub offset : ℤ

-- what a window wants: no entry of the pattern; from least to most of them; or the value of the attribute at each date
pub data Body (S : Type 0) : Type 0 where
  NoEvent : Pattern S → Body S
  Occurs : ℕ → Option ℕ → Pattern S → Body S
  Hold : S → List (Term S) → Term S → Body S

pub record Window (S : Type 0) : Type 0 where
  pub body : Body S
  pub from : Anchor
  pub to : Anchor

-- an entry that each recognition gives: of the pattern's name, with its terms' symbols, dated as the event
pub record Emit (S : Type 0) : Type 0 where
  pub pattern : Pattern S
  pub event : ℕ

-- Point i is event i's point, and the free points follow. Variables are numbered by first occurrence in the events' patterns.
-- Its line is the one that closes it in the text. A prompt one takes entries as soon as they are accepted.
pub record Chronicle (S : Type 0) : Type 0 where
  pub name : S
  pub prompt : Bool
  pub line : ℕ
  pub events : List (EventDef S)
  pub free : List S
  pub bounds : List Bound
  pub variables : List S
  pub sets : List (VarSet S)
  pub differs : List (ℕ × ℕ)
  pub windows : List (Window S)
  pub emits : List (Emit S)

-- a declared name is of a message, or of an attribute whose new values may be listed
pub data Kind (S : Type 0) : Type 0 where
  Message : Kind S
  Attribute : Option (List S) → Kind S

pub record Name (S : Type 0) : Type 0 where
  pub name : S
  pub arity : ℕ
  pub kind : Kind S

-- what a models text means: its declared names, its derived names and its chronicles, each in file order
pub record Models (S : Type 0) : Type 0 where
  pub names : List (Name S)
  pub derived : List (Name S)
  pub chronicles : List (Chronicle S)
