-- What is kept of a list of entries from a floor on.
use Rattle.std.proofs.Common.{ℕ, ◌≤◌, List, [], ◌∷◌, ◌++◌, refl, sym, ◌∙◌, subst, inl, inr, arith}
use Rattle.std.specs.Prelude.{ℤ, pos, ◌≤ℤ◌, ◌<ℤ◌, ◌-ℤ◌}
use Rattle.std.proofs.lemmas.Int.{ints, by_lt_z}
use Rattle.crs_base.specs.Words.{IsIn}
use Rattle.crs_base.specs.Sifted.{Sifts}
use Rattle.crs_base.specs.Entry.{Entry}
use Rattle.crs_base.specs.Values.{Attribute, IsChange, IsLastChange}
use Rattle.crs_base.proofs.Sifted.{sifts_append, sifts_iff, sifts_twice, sifted_in, in_sifted}
use Rattle.crs_base.proofs.Values.{last_forth, last_back}
use Rattle.crs_history.specs.Histories.{attribute_of, IsKept}

before_floor : (f : ℤ) (d : ℕ) → pos d <ℤ f → pos d ≤ℤ (f -ℤ pos 1)
before_floor f d h = omega (arith, ints)

later_than : (f : ℤ) (d e : ℕ) → pos d <ℤ f → f ≤ℤ pos e → d ≤ e
later_than f d e h k = omega (arith, ints)

by_floor : (f t : ℤ) (d : ℕ) → pos d ≤ℤ (f -ℤ pos 1) → (f -ℤ pos 1) ≤ℤ t → pos d ≤ℤ t
by_floor f t d h k = omega (arith, ints)

raised : (f g : ℤ) → f ≤ℤ g → (f -ℤ pos 1) ≤ℤ (g -ℤ pos 1)
raised f g h = omega (arith, ints)

over : (f g : ℤ) (d : ℕ) → f ≤ℤ g → g ≤ℤ pos d → f ≤ℤ pos d
over f g d h k = omega (arith, ints)

module _ {S : Type 0} where
  own : (a : Attribute S) (e : Entry S) → IsChange a e → IsChange (attribute_of e) e
  own a e c = record { named = refl; of = refl; change = c.change }

  -- a change of what e changes changes a, where e changes a
  of_same : (a : Attribute S) (e d : Entry S) → IsChange a e → IsChange (attribute_of e) d → IsChange a d
  of_same a e d c k = record { named = k.named ∙ c.named; of = k.of ∙ c.of; change = k.change }

  to_same : (a : Attribute S) (e d : Entry S) → IsChange a e → IsChange a d → IsChange (attribute_of e) d
  to_same a e d c k = record { named = k.named ∙ sym c.named; of = k.of ∙ sym c.of; change = k.change }

  module _ (s : List (Entry S)) (e : Entry S) (floor : ℤ) (late : floor ≤ℤ pos e.date) where
    after : (x : Entry S) → IsIn x (e ∷ []) → (floor -ℤ pos 1) <ℤ pos x.date
    after x (inl q) = subst (λ (w : Entry S). (floor -ℤ pos 1) <ℤ pos w.date) (sym q) (omega (arith, ints))
    after x (inr i) = absurd i

    kept_with : (x : Entry S) → IsIn x s → IsKept s floor x → IsKept (s ++ e ∷ []) floor x
    kept_with x i (inl h) = inl h
    kept_with x i (inr l) = inr (last_forth (attribute_of x) s (e ∷ []) (floor -ℤ pos 1) after x l)

    kept_without : (x : Entry S) → IsIn x s → IsKept (s ++ e ∷ []) floor x → IsKept s floor x
    kept_without x i (inl h) = inl h
    kept_without x i (inr l) = inr (last_back (attribute_of x) s (e ∷ []) (floor -ℤ pos 1) after x l)

    -- one more entry, dated at or after the floor, is kept too
    pub kept_push : (held : List (Entry S)) → Sifts (IsKept s floor) s held → Sifts (IsKept (s ++ e ∷ []) floor) (s ++ e ∷ []) (held ++ e ∷ [])
    kept_push held h = sifts_append (IsKept (s ++ e ∷ []) floor) s held (e ∷ []) (e ∷ [])
        (sifts_iff (IsKept s floor) (IsKept (s ++ e ∷ []) floor) s held kept_with kept_without h) (inl (inl late, [], refl, refl))

  module _ (s held : List (Entry S)) (floor : ℤ) (stands : Sifts (IsKept s floor) s held) where
    -- the last changes at a date from the floor on, or right before it, are the same
    pub last_held : (a : Attribute S) (t : ℤ) (e : Entry S) → (floor -ℤ pos 1) ≤ℤ t → IsLastChange a s t e → IsLastChange a held t e
    last_held a t e from l = record {
      given = in_sifted (IsKept s floor) s held e stands l.given (by_lt_z (pos e.date) floor
          (λ before. inr (record {
            given = l.given;
            change = own a e l.change;
            by_then = before_floor floor e.date before;
            greatest = λ d j c k. l.greatest d j (of_same a e d l.change c) (by_floor floor t d.date k from);
          }))
          (λ after. inl after));
      change = l.change;
      by_then = l.by_then;
      greatest = λ d j c k. l.greatest d ((sifted_in (IsKept s floor) s held d stands j).0) c k;
    }

    kept_greatest : (a : Attribute S) (e d : Entry S) → IsChange a e → IsKept s floor e → IsIn d s → IsChange a d → pos d.date <ℤ floor → d.date ≤ e.date
    kept_greatest a e d c (inl h) j k before = later_than floor d.date e.date before h
    kept_greatest a e d c (inr l) j k before = l.greatest d j (to_same a e d c k) (before_floor floor d.date before)

    pub last_held_back : (a : Attribute S) (t : ℤ) (e : Entry S) → (floor -ℤ pos 1) ≤ℤ t → IsLastChange a held t e → IsLastChange a s t e
    last_held_back a t e from l =
        let there = sifted_in (IsKept s floor) s held e stands l.given in
        record {
          given = there.0;
          change = l.change;
          by_then = l.by_then;
          greatest = λ d j c k. by_lt_z (pos d.date) floor
              (λ before. kept_greatest a e d l.change there.1 j c before)
              (λ after. l.greatest d (in_sifted (IsKept s floor) s held d stands j (inl after)) c k);
        }

    -- what is kept of what is kept, from a higher floor on
    module _ (higher : ℤ) (up : floor ≤ℤ higher) where
      kept_to : (x : Entry S) → IsIn x s → IsKept s floor x → IsKept held higher x → IsKept s higher x
      kept_to x i p (inl h) = inl h
      kept_to x i p (inr l) = inr (last_held_back (attribute_of x) (higher -ℤ pos 1) x (raised floor higher up) l)

      kept_from : (x : Entry S) → IsIn x s → IsKept s higher x → IsKept s floor x × IsKept held higher x
      kept_from x i (inl h) = (inl (over floor higher x.date up h), inl h)
      kept_from x i (inr l) =
          let m = last_held (attribute_of x) (higher -ℤ pos 1) x (raised floor higher up) l in
          ((sifted_in (IsKept s floor) s held x stands m.given).1, inr m)

      pub kept_raised : (rest : List (Entry S)) → Sifts (IsKept held higher) held rest → Sifts (IsKept s higher) s rest
      kept_raised rest h = sifts_twice (IsKept s floor) (IsKept held higher) (IsKept s higher) s held rest kept_to kept_from stands h
