-- What an item of a feed's line becomes, by whether it stands in order.
use Rattle.std.proofs.Common.{◌≡◌, true, false, cond, List, ℕ, refl, ap, ◌∙◌, true≢false}
use Rattle.std.specs.Prelude.{Option, Some, None}
use Rattle.crs_log.specs.Reading.{Plain}
use Rattle.crs_log.specs.SeenItems.{IsFaulty}
use Rattle.crs_log.specs.ItemOf.{What, Empty, Is, Faulty, what_is, item_of}
use Rattle.crs_log.proofs.ItemLaw.{item_sound}
use Rattle.crs_log.specs.Run as run
use Rattle.crs_log.specs.Run.{Setting, State, after_what, after_line}
use Rattle.crs_frames.specs.TableTexts.{is_blank_what}

-- an item behind the end is refused
pub out_of_order : (c : Setting) (s : State) (w : What) → is_blank_what w ≡ false → s.ended ≡ true → (w ≡ Faulty → ⊥) → after_what c s w ≡ (s, run.Refused run.Order)
out_of_order c s Empty b o n = absurd (true≢false b)
out_of_order c s (Is item) b o n = λ i. cond (o i) (s, run.Refused run.Order) (run.after_ordered c s item)
out_of_order c s Faulty b o n = absurd (n refl)

no_item : (bytes : List ℕ) (o : Option _) → item_of bytes ≡ o → IsFaulty bytes → o ≡ None
no_item bytes None e h = refl
no_item bytes (Some item) e h = absurd (h.1 item (item_sound bytes item e))

-- a line that is no item is faulty
pub given_faulty : (c : Setting) (s : State) (n : ℕ) (bytes : List ℕ) → IsFaulty bytes → after_line c s (Plain n bytes) ≡ (s, run.Refused run.Form)
given_faulty c s n bytes h =
    (λ i. after_what c s (cond (h.0 i) Empty (what_is (item_of bytes)))) ∙ ap (λ o. after_what c s (what_is o)) (no_item bytes (item_of bytes) refl h)
