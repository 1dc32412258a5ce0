-- An entry that is taken back, since it can't be held.
use Rattle.std.proofs.Common.{◌≡◌, ◌<◌, ℕ, List, ap, ◌∙◌, arith}
use Rattle.std.proofs.lemmas.Bool.{eq-eqb, ne_eqb}
use Rattle.std.specs.List.{AllByRecursion}
use Rattle.crs_base.specs.declared.symbols.Sym.{Sym}
use Rattle.crs_base.specs.Entry.{Entry}
use Rattle.crs_buffer.specs.Entries.{IsNewKey, without_arrival}
use Rattle.crs_buffer.proofs.Dropped.{put_taken_back}
use Rattle.crs_buffer.proofs.Inserted.{new_arrival}
use Rattle.crs_model.specs.Order.{put_in_order}
use Rattle.crs_base.proofs.Alls.{all_each}

-- those that arrived before are left
pub taken_back : (n : ℕ) (e : Entry Sym) (fs put after : List (Entry Sym)) → e.arrival ≡ n → (IsNewKey e fs → put ≡ put_in_order e fs) → after ≡ without_arrival n put → AllByRecursion (λ x. x.arrival < n) fs → after ≡ fs
taken_back n e fs put after is ok left earlier =
    let new : IsNewKey e fs = new_arrival e fs (all_each {P = λ x. x.arrival < n} fs (λ x l s. absurd (omega (arith, is, s))) earlier) in
    left
    ∙ ap (without_arrival n) (ok new)
    ∙ put_taken_back n e fs (eq-eqb e.arrival n is) (all_each {P = λ x. x.arrival < n} fs (λ x l. ne_eqb x.arrival n (λ s. absurd (omega (arith, s)))) earlier)
