-- What linked entries give to the events.
use Rattle.std.specs.Prelude.{◌≡◌, ◌<◌, ◌^◌, ℕ, List, map, replicate, Some, None, is_some, true}
use Rattle.std.specs.List.{list_all}
use Rattle.std.specs.declared.rc.Rc.{Rc}
use Rattle.std.proofs.Common.{Global}
use Rattle.crs_base.specs.declared.symbols.Sym.{Sym}
use Rattle.crs_base.specs.declared.entry.Entry.{Entry as CodeEntry}
use Rattle.crs_base.specs.Entry.{Entry}
use Rattle.crs_base.specs.Seen.{entry_of}
use Rattle.crs_model.specs.Partial.{Partial, at, put}
use Rattle.crs_instance.specs.declared.links.Known.{Known}
use Rattle.crs_instance.specs.declared.links.Links.{Links, End, Link'}

-- the partial assignment of n events that the links give
abbrev pub partial_of : ℕ → Links → Partial Sym
partial_of n (End known) = replicate n None
partial_of n (Link' known event entry p rest) = put (partial_of n rest) event (entry_of entry.value)

-- the links are of events below n, each once
abbrev pub AreLinked : ℕ → Links → Type 0
AreLinked n (End known) = Unit
AreLinked n (Link' known event entry p rest) = (event < n) × (at (partial_of n rest) event ≡ None) × AreLinked n rest

-- the entries are dated before 2^40
abbrev pub AreEarly : Links → Type 0
AreEarly (End known) = Unit
AreEarly (Link' known event entry p rest) = (entry.value.date < 2 ^ 40) × AreEarly rest

-- entries as contracts see them
abbrev pub seen_entries : List (Rc CodeEntry Global) → List (Entry Sym)
seen_entries es = map (λ r. entry_of r.value) es

-- the entries of the events, where each is bound
abbrev pub AreListed : Partial Sym → List (Rc CodeEntry Global) → Type 0
AreListed a es = list_all (λ o. is_some o) a ≡ true → a ≡ map (λ r. Some (entry_of r.value)) es

-- what the entries tell
abbrev pub known_in : Links → Known
known_in (End known) = known
known_in (Link' known event entry p rest) = known

-- the links with one more
pub record IsLink (n : ℕ) (old : Links) (event : ℕ) (entry : CodeEntry) (known : Known) (new : Links) : Type 0 where
  pub knows : known_in new ≡ known
  pub gives : partial_of n new ≡ put (partial_of n old) event (entry_of entry)
  pub linked : event < n → at (partial_of n old) event ≡ None → AreLinked n old → AreLinked n new
  pub early : entry.date < 2 ^ 40 → AreEarly old → AreEarly new
