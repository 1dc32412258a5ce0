-- What was read, and the relation between lines and items.
use Rattle.std.proofs.Common.{◌≡◌, ℕ, Bool, true, false, cond, List, refl, sym, ap, ◌∙◌, Option, Some, None}
use Rattle.crs_log.specs.declared.items.Item.{Item as CodeItem}
use Rattle.crs_log.specs.declared.items.Item.TheVariants.{Blank as CodeBlank, Delay as CodeDelay, Clock as CodeClock, Finish as CodeFinish, Event as CodeEvent}
use Rattle.crs_log.specs.declared.items.ItemRefused.{ItemRefused}
use Rattle.crs_log.specs.declared.items.ItemRefused.TheVariants.{Form, Memory}
use Rattle.crs_base.specs.Lines.{is_passed_over}
use Rattle.crs_log.specs.Items.{Item, Delay, Clock, Finish, Happens, IsItem}
use Rattle.crs_log.specs.ItemOf.{Empty, Is, Faulty, what_is, what_of, item_of}
use Rattle.crs_log.specs.SeenItems.{event_seen, what_seen, IsRead, IsFaulty, Refuses, IsFormOrMemory}
use Rattle.crs_log.proofs.ItemLaw.{item_sound, item_again}

item_is : (i : Item) (o : Option Item) → Is i ≡ what_is o → o ≡ Some i
item_is i None e = cc
item_is i (Some j) e = ap Some (sym (same i j e))
  where
    same : (x y : Item) → Is x ≡ Is y → x ≡ y
    same x y e = cc

not_passed : (o : Option Item) → Empty ≡ what_is o → ⊥
not_passed None e = cc
not_passed (Some j) e = cc

some_item : (line : List ℕ) (i : Item) (b : Bool) → is_passed_over line ≡ b → Is i ≡ cond b Empty (what_is (item_of line)) → (is_passed_over line ≡ false) × IsItem line i
some_item line i true p e = cc
some_item line i false p e = (p, item_sound line i (item_is i (item_of line) e))

blank_item : (line : List ℕ) (b : Bool) → is_passed_over line ≡ b → Empty ≡ cond b Empty (what_is (item_of line)) → is_passed_over line ≡ true
blank_item line true p e = p
blank_item line false p e = absurd (not_passed (item_of line) e)

pub read_is : (line : List ℕ) (item : CodeItem) → what_seen line item ≡ what_of line → IsRead line item
read_is line CodeBlank e = blank_item line (is_passed_over line) refl e
read_is line (CodeDelay n) e = some_item line (Delay n) (is_passed_over line) refl e
read_is line (CodeClock n) e = some_item line (Clock n) (is_passed_over line) refl e
read_is line CodeFinish e = some_item line Finish (is_passed_over line) refl e
read_is line (CodeEvent raw) e = some_item line (Happens (event_seen line raw)) (is_passed_over line) refl e

faulty_by : (line : List ℕ) (b : Bool) → is_passed_over line ≡ b → cond b Empty (what_is (item_of line)) ≡ Faulty → IsFaulty line
faulty_by line true p e = cc
faulty_by line false p e = (p, λ item h. never item (ap what_is (sym (item_again line item h)) ∙ e))
  where
    never : (i : Item) → Is i ≡ Faulty → ⊥
    never i e = cc

pub refused_is : (line : List ℕ) (e : ItemRefused) → Refuses line e → IsFormOrMemory line e
refused_is line Form h = faulty_by line (is_passed_over line) refl h
refused_is line Memory h = tt
