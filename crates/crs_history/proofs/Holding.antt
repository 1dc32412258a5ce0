-- What is held of the entries, and what is found of them in a stretch.
use Rattle.std.proofs.Common.{◌≡◌, Bool, true, false, cond, ℕ, List, [], ◌∷◌, ◌++◌, filter, refl, sym, subst, ◌∙◌, inl, inr, arith, true≢false}
use Rattle.std.specs.Prelude.{ℤ, pos, ◌≤ℤ◌, ◌<ℤ◌, ◌-ℤ◌}
use Rattle.std.proofs.lemmas.Int.{ints, int_max_is}
use Rattle.std.specs.Int.{int_max}
use Rattle.crs_base.specs.declared.symbols.Sym.{Sym}
use Rattle.crs_base.specs.Entry.{Entry}
use Rattle.crs_base.specs.Sifted.{Sifts}
use Rattle.crs_base.specs.Words.{IsIn}
use Rattle.crs_base.specs.Values.{Attribute, IsChange, IsLastChange, HasValue}
use Rattle.crs_base.proofs.Sifted.{sifts_twice, sifts_append, sifts_iff, in_sifted, sifted_in}
use Rattle.crs_history.specs.Histories.{IsKept}
use Rattle.crs_history.specs.Dates.{nat_of}
use Rattle.crs_history.specs.Holdings.{IsSplitAt}
use Rattle.crs_base.proofs.Words.{in_append}
use Rattle.crs_history.specs.Looking.{is_before, is_since, IsBetween, Finds, AreChanges, HasValueOver}
use Rattle.crs_history.specs.Dropping.{Drops}
use Rattle.crs_history.proofs.Finding.{drops_filter}
use Rattle.crs_history.proofs.Dates.{before_of, of_before, since_of, of_since}
use Rattle.crs_history.proofs.Kept.{last_held, last_held_back}

-- a filter gives those of which P holds, where it tells P
sifts_filter : {A : Type 0} (P : A → Type 0) (p : A → Bool) (xs : List A) → ((x : A) → p x ≡ true → P x) → ((x : A) → p x ≡ false → P x → ⊥) → Sifts P xs (filter p xs)
sifts_filter P p [] f g = refl
sifts_filter {A} P p (x ∷ xs) f g = by (p x) refl (sifts_filter P p xs f g)
  where
    by : (b : Bool) → p x ≡ b → Sifts P xs (filter p xs) → Sifts P (x ∷ xs) (cond b (x ∷ filter p xs) (filter p xs))
    by true e h = inl (f x e, filter p xs, refl, h)
    by false e h = inr (g x e, h)

value_held : (s held : List (Entry Sym)) (floor : ℤ) → Sifts (IsKept s floor) s held → (a : Attribute Sym) (t : ℤ) (v : Sym) → (floor -ℤ pos 1) ≤ℤ t → HasValue a s t v → HasValue a held t v
value_held s held floor stands a t v late h = record {
  changed = ((h.changed).0, last_held s held floor stands a t (h.changed).0 late (h.changed).1);
  agreed = λ e l. h.agreed e (last_held_back s held floor stands a t e late l);
}

value_held_back : (s held : List (Entry Sym)) (floor : ℤ) → Sifts (IsKept s floor) s held → (a : Attribute Sym) (t : ℤ) (v : Sym) → (floor -ℤ pos 1) ≤ℤ t → HasValue a held t v → HasValue a s t v
value_held_back s held floor stands a t v late h = record {
  changed = ((h.changed).0, last_held_back s held floor stands a t (h.changed).0 late (h.changed).1);
  agreed = λ e l. h.agreed e (last_held s held floor stands a t e late l);
}

false_not : {P : Type 0} (b : Bool) → b ≡ false → (P → b ≡ true) → P → ⊥
false_not b e h p = true≢false (sym (h p) ∙ e)

sifts_none : {A : Type 0} (P : A → Type 0) (xs : List A) → ((x : A) → IsIn x xs → P x → ⊥) → Sifts P xs []
sifts_none P [] f = refl
sifts_none P (x ∷ xs) f = inr (f x (inl refl), sifts_none P xs (λ y i. f y (inr i)))

max_over : (a b t : ℤ) → a ≤ℤ t → b ≤ℤ t → int_max a b ≤ℤ t
max_over a b t h k = omega (arith, ints, int_max_is a b)

max_first : (a b t : ℤ) → int_max a b ≤ℤ t → a ≤ℤ t
max_first a b t h = omega (arith, ints, int_max_is a b)

max_second : (a b t : ℤ) → int_max a b ≤ℤ t → b ≤ℤ t
max_second a b t h = omega (arith, ints, int_max_is a b)

not_under : (d : ℕ) (floor : ℤ) → pos d <ℤ floor → floor ≤ℤ pos d → ⊥
not_under d floor h k = omega (arith, ints)

-- what is found in a stretch: of the ring, of those that are held, and of those that they stand for
module _ (P : Entry Sym → Type 0) (from to floor : ℤ) (older ring found : List (Entry Sym)) (early : (e : Entry Sym) → IsIn e older → pos e.date <ℤ floor) (late : (e : Entry Sym) → IsIn e ring → floor ≤ℤ pos e.date)
    (drops : Drops (λ e. P e → ⊥) ring found) where
  abbrev pub part : List (Entry Sym) → List (Entry Sym)
  part es = filter (is_before (nat_of to)) (filter (is_since (nat_of from)) es)

  part_drops : Drops (λ e. P e → ⊥) (part ring) (part found)
  part_drops = drops_filter (λ e. P e → ⊥) (is_before (nat_of to)) (filter (is_since (nat_of from)) ring) (filter (is_since (nat_of from)) found)
      (drops_filter (λ e. P e → ⊥) (is_since (nat_of from)) ring found drops)

  ring_part : Sifts (IsBetween from to) ring (part ring)
  ring_part =
      let Since : Entry Sym → Type 0 = λ e. from ≤ℤ pos e.date in
      let Before : Entry Sym → Type 0 = λ e. pos e.date <ℤ to in
      let since = filter (is_since (nat_of from)) ring in
      sifts_twice Since Before (IsBetween from to) ring since (filter (is_before (nat_of to)) since)
      (λ e i p q. record { since = p; before = q }) (λ e i r. (r.since, r.before))
      (sifts_filter Since (is_since (nat_of from)) ring (λ e h. of_since e.date from h) (λ e h. false_not (is_since (nat_of from) e) h (since_of e.date from)))
      (sifts_filter Before (is_before (nat_of to)) since (λ e h. of_before e.date to h) (λ e h. false_not (is_before (nat_of to) e) h (before_of e.date to)))

  -- where the stretch begins at the floor or at from, whichever is later
  pub found_held : Finds P (int_max floor from) to (older ++ ring) (part found)
  found_held = (
    part ring,
    sifts_append (IsBetween (int_max floor from) to) older [] ring (part ring)
        (sifts_none (IsBetween (int_max floor from) to) older (λ e i r. not_under e.date floor (early e i) (max_first floor from (pos e.date) r.since)))
        (sifts_iff (IsBetween from to) (IsBetween (int_max floor from) to) ring (part ring)
        (λ e i r. record { since = max_over floor from (pos e.date) (late e i) r.since; before = r.before })
        (λ e i r. record { since = max_second floor from (pos e.date) r.since; before = r.before }) ring_part),
    part_drops,
  )

  part_from : floor ≤ℤ from → Sifts (IsBetween from to) (older ++ ring) (part ring)
  part_from le = sifts_append (IsBetween from to) older [] ring (part ring)
      (sifts_none (IsBetween from to) older (λ e i r. not_under e.date floor (early e i) (let h : from ≤ℤ pos e.date = r.since in omega (arith, ints))))
      ring_part

  pub found_stands : (s : List (Entry Sym)) → floor ≤ℤ from → Sifts (IsKept s floor) s (older ++ ring) → Finds P from to s (part found)
  found_stands s le stands = (
    part ring,
    sifts_twice (IsKept s floor) (IsBetween from to) (IsBetween from to) s (older ++ ring) (part ring)
        (λ e i p q. q) (λ e i q. (inl (let h : from ≤ℤ pos e.date = q.since in omega (arith, ints)), q))
        stands (part_from le),
    part_drops,
  )

-- the changes of an attribute tell its values
module _ (a : Attribute Sym) (held track : List (Entry Sym)) (tracked : Sifts (IsChange a) held track) where
  last_tracked : (t : ℤ) (e : Entry Sym) → IsLastChange a held t e → IsLastChange a track t e
  last_tracked t e l = record {
    given = in_sifted (IsChange a) held track e tracked l.given l.change;
    change = l.change;
    by_then = l.by_then;
    greatest = λ d j c k. l.greatest d ((sifted_in (IsChange a) held track d tracked j).0) c k;
  }

  last_untracked : (t : ℤ) (e : Entry Sym) → IsLastChange a track t e → IsLastChange a held t e
  last_untracked t e l = record {
    given = (sifted_in (IsChange a) held track e tracked l.given).0;
    change = l.change;
    by_then = l.by_then;
    greatest = λ d j c k. l.greatest d (in_sifted (IsChange a) held track d tracked j c) c k;
  }

  pub over_tracked : (v : Sym) (from to : ℤ) → HasValueOver a held v from to → HasValueOver a track v from to
  over_tracked v from to h t i j =
      let k = h t i j in
      record { changed = (k.changed.0, last_tracked t k.changed.0 k.changed.1); agreed = λ e l. k.agreed e (last_untracked t e l) }

  pub over_untracked : (v : Sym) (from to : ℤ) → HasValueOver a track v from to → HasValueOver a held v from to
  over_untracked v from to h t i j =
      let k = h t i j in
      record { changed = (k.changed.0, last_untracked t k.changed.0 k.changed.1); agreed = λ e l. k.agreed e (last_tracked t e l) }

  pub all_changes : AreChanges a track
  all_changes e i = (sifted_in (IsChange a) held track e tracked i).1

from_below : (f from t : ℤ) → f ≤ℤ from → from ≤ℤ t → (f -ℤ pos 1) ≤ℤ t
from_below f from t h k = omega (arith, ints)

pub over_stands : (a : Attribute Sym) (v : Sym) (from to floor : ℤ) (s held : List (Entry Sym)) → floor ≤ℤ from → Sifts (IsKept s floor) s held → HasValueOver a held v from to → HasValueOver a s v from to
over_stands a v from to floor s held le stands h t i j = value_held_back s held floor stands a t v (from_below floor from t le i) (h t i j)

pub over_stands_back : (a : Attribute Sym) (v : Sym) (from to floor : ℤ) (s held : List (Entry Sym)) → floor ≤ℤ from → Sifts (IsKept s floor) s held → HasValueOver a s v from to → HasValueOver a held v from to
over_stands_back a v from to floor s held le stands h t i j = value_held s held floor stands a t v (from_below floor from t le i) (h t i j)

-- an entry from the floor on is added to the ring
pub split_pushed : (floor : ℤ) (older ring : List (Entry Sym)) (e : Entry Sym) → IsSplitAt floor (record { older = older; ring = ring }) → floor ≤ℤ pos e.date → IsSplitAt floor (record { older = older; ring = ring ++ e ∷ [] })
split_pushed floor older ring e s late = record {
  before = s.before;
  since = λ d i. elim (in_append ring (e ∷ []) d i) [ inl j ↦ s.since d j | inr k ↦ elim k [ inl q ↦ subst (λ (w : Entry Sym). floor ≤ℤ pos w.date) (sym q) late | inr z ↦ absurd z ] ];
}
