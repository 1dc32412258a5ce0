-- What a line's item becomes, by whether it stands in order.
use Rattle.std.proofs.Common.{◌≡◌, Bool, true, false, cond, List, ℕ, refl, sym, ap, ◌∙◌, true≢false}
use Rattle.std.specs.Prelude.{Option, Some, None}
use Rattle.crs_log.specs.Reading.{Plain}
use Rattle.crs_log.specs.SeenItems.{IsFaulty}
use Rattle.crs_log.specs.ItemOf.{What, Empty, Is, Faulty, what_is, item_of}
use Rattle.crs_log.proofs.ItemLaw.{item_sound}
use Rattle.crs_log.specs.Run as run
use Rattle.crs_log.specs.Run.{Setting, State}
use Rattle.crs_layers.specs.Runs.{after_ordered, after_what, after_line}
use Rattle.crs_session.specs.Session.{ordered_what}
use Rattle.crs_frames.specs.TableTexts.{is_blank_what}

module _ (c : Setting) (full : Bool) (s : State) where
  -- an item that doesn't stand behind the end becomes what it does in order
  pub in_order : (w : What) → is_blank_what w ≡ false → s.ended ≡ false → (w ≡ Faulty → ⊥) → ordered_what c full s w ≡ after_what c full s w
  in_order Empty b o n = absurd (true≢false b)
  in_order (Is item) b o n = λ i. cond (sym o i) (s, run.Refused run.Order) (after_ordered c full s item)
  in_order Faulty b o n = absurd (n refl)

  -- an item behind the end is refused
  pub out_of_order : (w : What) → is_blank_what w ≡ false → s.ended ≡ true → (w ≡ Faulty → ⊥) → after_what c full s w ≡ (s, run.Refused run.Order)
  out_of_order Empty b o n = absurd (true≢false b)
  out_of_order (Is item) b o n = λ i. cond (o i) (s, run.Refused run.Order) (after_ordered c full s item)
  out_of_order Faulty b o n = absurd (n refl)

  pub blank_passed : (w : What) → is_blank_what w ≡ true → after_what c full s w ≡ (s, run.Passed)
  blank_passed Empty b = refl
  blank_passed (Is item) b = absurd (true≢false (sym b))
  blank_passed Faulty b = absurd (true≢false (sym b))

  no_item : (bytes : List ℕ) (o : Option _) → item_of bytes ≡ o → IsFaulty bytes → o ≡ None
  no_item bytes None e h = refl
  no_item bytes (Some item) e h = absurd (h.1 item (item_sound bytes item e))

  -- a line that is no item is faulty
  pub given_faulty : (n : ℕ) (bytes : List ℕ) → IsFaulty bytes → after_line c full s (Plain n bytes) ≡ (s, run.Refused run.Form)
  given_faulty n bytes h =
      (λ i. after_what c full s (cond (h.0 i) Empty (what_is (item_of bytes)))) ∙ ap (λ o. after_what c full s (what_is o)) (no_item bytes (item_of bytes) refl h)
