-- One line outside all chronicles, in the fold.
use Rattle.std.proofs.Common.{◌≡◌, ℕ, ◌+◌, List, ◌∷◌, Option, Some, None, Result, Ok, Err, sym, ap, ◌∙◌, subst}
use Rattle.crs_model.specs.declared.models.ModelWord.{ModelWord}
use Rattle.crs_model.specs.declared.models.ModelRefused.{ModelRefused}
use Rattle.crs_parse.specs.declared.builder.Refused.{Refused}
use Rattle.crs_parse.specs.declared.builder.Refused.TheVariants as refused
use Rattle.crs_base.specs.Lines.{Line}
use Rattle.crs_grammar.specs.Statements.{Heading}
use Rattle.crs_parse.specs.Faults.{Name, Written, Fault, after_lines, unless_refused, begun}
use Rattle.crs_parse.specs.ModelSteps.{HaltsWith, FailsWith, halt_of, Moves, reading_out, reading_in, Declaring, declaring_outcome}
use Rattle.crs_parse.proofs.Folds.{begun_or, carried_out, out_line_step}
use Rattle.crs_parse.proofs.Premises.{is_outside_read}

module _ (limit line : ℕ) (names : List Name) (done : List (ℕ × Written)) (texts : List (List ℕ)) (l : Line) (ls lines : List Line) where
  part_step : (out : Result Declaring ModelWord) → lines ≡ l ∷ ls → declaring_outcome limit names done texts l ≡ out
      → after_lines limit line (reading_out names done texts) lines ≡ unless_refused (carried_out line done out) (λ next. after_lines limit (line + 1) next ls)
  part_step out is e =
      ap (after_lines limit line (reading_out names done texts)) is
      ∙ ap (λ x. unless_refused x (λ next. after_lines limit (line + 1) next ls)) (out_line_step is_outside_read limit line names done texts l ∙ ap (carried_out line done) e)

  pub part_ok : (d : Declaring) → lines ≡ l ∷ ls → declaring_outcome limit names done texts l ≡ Ok d
      → after_lines limit line (reading_out names done texts) lines ≡ after_lines limit (line + 1) (begun_or d.names done d.texts d.begun) ls
  part_ok d is e = part_step (Ok d) is e

  pub part_err : (w : ModelWord) → lines ≡ l ∷ ls → declaring_outcome limit names done texts l ≡ Err w → after_lines limit line (reading_out names done texts) lines ≡ Err (line, w)
  part_err w is e = part_step (Err w) is e

-- what is wanted may be named otherwise
pub moves_along : {X Y : Type 0} (f g : X → Result Y Fault) (r : Result X ModelRefused) (a b : Result Y Fault) → ((x : X) → f x ≡ g x) → b ≡ a → Moves f r a → Moves g r b
moves_along f g (Ok x) a b same e h = e ∙ h ∙ same x
moves_along {X} {Y} f g (Err x) a b same e h = subst (HaltsWith x) (sym e) h

-- the same, where the program's values are seen
module _ (limit line : ℕ) (names names2 : List Name) (done done2 : List (ℕ × Written)) (texts texts2 : List (List ℕ)) (l : Line) (ls lines : List Line) (b : Option Heading) where
  abbrev Declares : Type 0
  Declares = declaring_outcome limit names done2 texts l ≡ Ok (record { names = names2; texts = texts2; begun = b })

  part_begun : done2 ≡ done → lines ≡ l ∷ ls → Declares → after_lines limit line (reading_out names done texts) lines ≡ after_lines limit (line + 1) (begun_or names2 done texts2 b) ls
  part_begun same is e = part_ok limit line names done texts l ls lines (record { names = names2; texts = texts2; begun = b }) is (ap (λ d. declaring_outcome limit names d texts l) (sym same) ∙ e)

  pub part_none : done2 ≡ done → lines ≡ l ∷ ls → Declares → b ≡ None → after_lines limit line (reading_out names done texts) lines ≡ after_lines limit (line + 1) (reading_out names2 done texts2) ls
  part_none same is e none = part_begun same is e ∙ ap (λ o. after_lines limit (line + 1) (begun_or names2 done texts2 o) ls) none

  pub part_some : (heading : Heading) → done2 ≡ done → lines ≡ l ∷ ls → Declares → b ≡ Some heading → after_lines limit line (reading_out names done texts) lines ≡ after_lines limit (line + 1) (reading_in names2 done (begun heading) texts2) ls
  part_some heading same is e some = part_begun same is e ∙ ap (λ o. after_lines limit (line + 1) (begun_or names2 done texts2 o) ls) some

pub part_fault : (limit line : ℕ) (names : List Name) (done done2 : List (ℕ × Written)) (texts : List (List ℕ)) (l : Line) (ls lines : List Line) (w : ModelWord) → done2 ≡ done → lines ≡ l ∷ ls
    → declaring_outcome limit names done2 texts l ≡ Err w → after_lines limit line (reading_out names done texts) lines ≡ Err (line, w)
part_fault limit line names done done2 texts l ls lines w same is e = part_err limit line names done texts l ls lines w is (ap (λ d. declaring_outcome limit names d texts l) (sym same) ∙ e)

pub part_refused : (limit line : ℕ) (names : List Name) (done done2 : List (ℕ × Written)) (texts : List (List ℕ)) (l : Line) (ls lines : List Line) (e : Refused) (h : ModelRefused) → done2 ≡ done → lines ≡ l ∷ ls
    → FailsWith e (declaring_outcome limit names done2 texts l) → h ≡ halt_of line e → HaltsWith h (after_lines limit line (reading_out names done texts) lines)
part_refused limit line names done done2 texts l ls lines refused.Memory h same is f to = subst (λ x. HaltsWith x (after_lines limit line (reading_out names done texts) lines)) (sym to) tt
part_refused limit line names done done2 texts l ls lines (refused.Word w) h same is f to =
    subst (λ x. HaltsWith x (after_lines limit line (reading_out names done texts) lines)) (sym to) (part_fault limit line names done done2 texts l ls lines w same is f)
