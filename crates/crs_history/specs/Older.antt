-- The older changes, as the tracks tell them: no list of them is kept.
use Rattle.std.specs.Prelude.{Bool, true, List, [], ◌∷◌, filter}
use Rattle.std.specs.List.{flat_map}
use Rattle.std.specs.Ordering.{is_lt}
use Rattle.std.specs.BTreeSet.{insert_key}
use Rattle.crs_base.specs.declared.symbols.Sym.{Sym}
use Rattle.crs_base.specs.Entry.{Entry, entry_cmp}

-- the entry comes before the ring
abbrev pub is_ahead : List (Entry Sym) → Entry Sym → Bool
is_ahead [] e = true
is_ahead (x ∷ ring) e = is_lt (entry_cmp e x)

-- the entries by their keys, each key once
abbrev pub by_key : List (Entry Sym) → List (Entry Sym)
by_key [] = []
by_key (e ∷ es) = insert_key entry_cmp (by_key es) e

-- those of all tracks' changes that come before the ring, in key order
unfoldable pub older_of : List (List (Entry Sym)) → List (Entry Sym) → List (Entry Sym)
older_of tracks ring = by_key (filter (is_ahead ring) (flat_map (λ track. track) tracks))
