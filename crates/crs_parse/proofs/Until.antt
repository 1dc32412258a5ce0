-- One line of a chronicle that doesn't close it, and a part of a text, in the folds.
use Rattle.std.proofs.Common.{◌≡◌, ℕ, ◌+◌, Bool, false, cond, List, ◌∷◌, Ok, sym, ap, ◌∙◌}
use Rattle.crs_base.specs.Lines.{Line}
use Rattle.crs_parse.specs.Faults.{Name, Written}
use Rattle.crs_parse.specs.ModelSteps.{line_outcome, onward, until_close}

pub until_step : (limit more : ℕ) (names : List Name) (done : List (ℕ × Written)) (number : ℕ) (c d : Written) (texts new : List (List ℕ)) (l : Line) (ls lines : List Line) (b : Bool) → more ≡ limit → lines ≡ l ∷ ls
    → line_outcome limit names done c texts l ≡ Ok (record { chronicle = d; texts = new; closes = b }) → b ≡ false
    → until_close more names done (number + 1) d new ls ≡ until_close limit names done number c texts lines
until_step limit more names done number c d texts new l ls lines b same is e f =
    ap (λ k. until_close k names done (number + 1) d new ls) same
    ∙ sym (ap (until_close limit names done number c texts) is
    ∙ ap (λ x. onward number x (λ o. cond o.closes (Ok (record { chronicle = o.chronicle; texts = o.texts; line = number; rest = ls })) (until_close limit names done (number + 1) o.chronicle o.texts ls))) e
    ∙ ap (λ t. cond t (Ok (record { chronicle = d; texts = new; line = number; rest = ls })) (until_close limit names done (number + 1) d new ls)) f)
