-- The table behind a reading without fault.
use Rattle.std.proofs.Common.{◌≡◌, ℕ, ◌+◌, ◌≤◌, true, List, [], ◌∷◌, length, Ok, is_some, sym, subst}
use Rattle.std.specs.List.{AllByRecursion}
use Rattle.crs_base.specs.Lines.{Line}
use Rattle.crs_base.specs.Symbols.{is_known, AreDistinct, with_texts}
use Rattle.crs_base.proofs.Alls.{all_each}
use Rattle.crs_parse.specs.Faults.{Reading, symbols_of, after_line, after_lines, nothing_read}
use Rattle.crs_parse.proofs.Faultless.{not_lt}
use Rattle.crs_parse.proofs.HeldReading.{Within, next_of, last_of, texts_within, by_line, table_after, symbols_known}
use Rattle.crs_base.proofs.DistinctTexts.{distinct_by, apart}
use Rattle.crs_parse.proofs.Sound.{own}
use Rattle.crs_print.specs.CanonicalLaws.{IsTableWithin}
use Rattle.crs_print.proofs.Distinct.{IsTable, table_more}

-- It keeps to its limit.

few_next : (limit line : ℕ) (r next : Reading) (l : Line) → after_line limit line r l ≡ Ok next → length r.texts ≤ limit → length next.texts ≤ limit
few_next limit line r next l e = by_line limit (λ line r next. length r.texts ≤ limit → length next.texts ≤ limit) (λ line r h. h)
    (λ line r next s h few. subst (λ x. length x.texts ≤ limit) h.is (subst (λ l. length l ≤ limit) (sym (table_after line r s)) (not_lt limit (length (with_texts r.texts (symbols_of s))) h.faultless.room))) line r next l e

lines_few : (limit line : ℕ) (r all : Reading) (ls : List Line) → after_lines limit line r ls ≡ Ok all → length r.texts ≤ limit → length all.texts ≤ limit
lines_few limit line r all [] e h = subst (λ x. length x.texts ≤ limit) (last_of (is_some r.current) line r all e).same h
lines_few limit line r all (l ∷ ls) e h =
    let n = next_of (after_line limit line r l) (λ next. after_lines limit (line + 1) next ls) all e in
    lines_few limit (line + 1) n.0 all ls n.2 (few_next limit line r n.0 l n.1 h)

pub read_few : (limit line : ℕ) (texts : List (List ℕ)) (all : Reading) (ls : List Line) → length texts ≤ limit → after_lines limit line (nothing_read texts) ls ≡ Ok all → length all.texts ≤ limit
read_few limit line texts all ls few e = lines_few limit line (nothing_read texts) all ls e few

-- Its texts are distinct.

line_table : (limit : ℕ) (texts : List (List ℕ)) (line : ℕ) (r next : Reading) (l : Line) → after_line limit line r l ≡ Ok next → Within next.texts texts → IsTable texts r.texts → IsTable texts next.texts
line_table limit texts line r next l e = by_line limit (λ line r next. Within next.texts texts → IsTable texts r.texts → IsTable texts next.texts) (λ line r w k. k)
    (λ line r next s h w k.
    let known = symbols_known texts line r s (subst (λ x. Within x.texts texts) (sym h.is) w) in
    subst (λ x. IsTable texts x.texts) h.is (subst (IsTable texts) (sym (table_after line r s)) (table_more texts r.texts (symbols_of s) known k))) line r next l e

lines_table : (limit line : ℕ) (r all : Reading) (ls : List Line) → after_lines limit line r ls ≡ Ok all → IsTable all.texts r.texts → IsTable all.texts all.texts
lines_table limit line r all [] e h = subst (λ x. IsTable all.texts x.texts) (last_of (is_some r.current) line r all e).same h
lines_table limit line r all (l ∷ ls) e h =
    let n = next_of (after_line limit line r l) (λ next. after_lines limit (line + 1) next ls) all e in
    lines_table limit (line + 1) n.0 all ls n.2 (line_table limit all.texts line r n.0 l n.1 (texts_within limit (line + 1) n.0 all ls n.2) h)

-- the texts that were there before, and all that are there behind it
pub read_tables : (limit line : ℕ) (was : List (List ℕ)) (all : Reading) (ls : List Line) → AreDistinct was → after_lines limit line (nothing_read was) ls ≡ Ok all → IsTableWithin all.texts was × IsTableWithin all.texts all.texts
read_tables limit line was all ls distinct e =
    let within : AllByRecursion (λ t. is_known all.texts t ≡ true) was = all_each was (texts_within limit line (nothing_read was) all ls e) (own was) in
    let behind = lines_table limit line (nothing_read was) all ls e (record { distinct = distinct_by was distinct; within = within }) in
    (record { distinct = distinct; within = within }, record { distinct = apart all.texts behind.distinct; within = behind.within })
