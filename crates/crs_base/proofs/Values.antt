-- What later entries leave of the value of an attribute.
use Rattle.std.proofs.Common.{◌≤◌, ℕ, List, ◌++◌, inl, inr, arith}
use Rattle.std.specs.Prelude.{ℤ, pos, ◌≤ℤ◌, ◌<ℤ◌}
use Rattle.std.proofs.lemmas.Int.{ints}
use Rattle.crs_base.specs.Words.{IsIn}
use Rattle.crs_base.specs.Entry.{Entry}
use Rattle.crs_base.specs.Values.{Attribute, IsChange, NewIs, IsLastChange, HasValue}
use Rattle.crs_base.proofs.Words.{in_append, in_append_left}

too_late : (t : ℤ) (d : ℕ) → t <ℤ pos d → pos d ≤ℤ t → ⊥
too_late t d h k = omega (arith, ints)

same_date : (d : ℕ) → pos d ≤ℤ pos d
same_date d = omega (arith, ints)

not_after : (d e : ℕ) → pos d ≤ℤ pos e → d ≤ e
not_after d e h = omega (arith, ints)

module _ {S : Type 0} (a : Attribute S) (entries more : List (Entry S)) (t : ℤ) (late : (e : Entry S) → IsIn e more → t <ℤ pos e.date) where
  pub last_forth : (e : Entry S) → IsLastChange a entries t e → IsLastChange a (entries ++ more) t e
  last_forth e l = record {
    given = in_append_left entries more e l.given;
    change = l.change;
    by_then = l.by_then;
    greatest = λ d i c k. elim (in_append entries more d i) [ inl j ↦ l.greatest d j c k | inr j ↦ absurd (too_late t d.date (late d j) k) ];
  }

  pub last_back : (e : Entry S) → IsLastChange a (entries ++ more) t e → IsLastChange a entries t e
  last_back e l = record {
    given = elim (in_append entries more e l.given) [ inl i ↦ i | inr i ↦ absurd (too_late t e.date (late e i) l.by_then) ];
    change = l.change;
    by_then = l.by_then;
    greatest = λ d i c k. l.greatest d (in_append_left entries more d i) c k;
  }

  pub value_forth : (v : S) → HasValue a entries t v → HasValue a (entries ++ more) t v
  value_forth v h = record {
    changed = (h.changed.0, last_forth h.changed.0 h.changed.1);
    agreed = λ e l. h.agreed e (last_back e l);
  }

  pub value_back : (v : S) → HasValue a (entries ++ more) t v → HasValue a entries t v
  value_back v h = record {
    changed = (h.changed.0, last_back h.changed.0 h.changed.1);
    agreed = λ e l. h.agreed e (last_forth e l);
  }

-- a change agrees with the value at its date
pub change_agrees : {S : Type 0} (a : Attribute S) (entries : List (Entry S)) (v : S) (e : Entry S) → IsIn e entries → IsChange a e → HasValue a entries (pos e.date) v → NewIs v e
change_agrees a entries v e i c h = h.agreed e (record { given = i; change = c; by_then = same_date e.date; greatest = λ d j k l. not_after d.date e.date l })
