-- The order of held entries.
use Rattle.std.specs.Prelude.{List, map}
use Rattle.std.specs.Ordering.{on}
use Rattle.std.specs.declared.cmp.Ordering.{Ordering}
use Rattle.std.specs.Cmp.{IsTotalOrder, on_total, then_total, nat_cmp_total}
use Rattle.std.specs.Cmp.Lexicographic.{nat_list_cmp_total}
use Rattle.crs_base.specs.declared.symbols.Sym.{Sym}
use Rattle.crs_base.specs.Entry.{Entry, key_of, entry_cmp}
use Rattle.crs_base.specs.Seen.{entry_of}
use Rattle.crs_buffer.specs.declared.held.Held.{Held}

abbrev pub entry_in : Held → Entry Sym
entry_in h = entry_of h.entry.value

abbrev pub held_cmp : Held → Held → Ordering
held_cmp = on entry_in entry_cmp

abbrev pub entries_of : List Held → List (Entry Sym)
entries_of hs = map entry_in hs

-- the order is total
pub held_total : IsTotalOrder held_cmp
held_total = on_total (λ h. key_of (entry_in h)) (then_total (on_total (λ k. k.date) nat_cmp_total) (then_total (on_total (λ k. k.text) nat_list_cmp_total) (on_total (λ k. k.arrival) nat_cmp_total)))
