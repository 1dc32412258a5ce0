-- The accepted entries of a run are those of events that were read, and what they say tells what they are.
use Rattle.std.proofs.Common.{◌≡◌, ◌≢◌, ℕ, ◌+◌, ◌<◌, Bool, true, false, cond, List, [], ◌∷◌, ◌++◌, length, refl, sym, ap, subst, ◌∙◌}
use Rattle.std.proofs.Common.{arith, Option, Some, None, inl, inr, length-append}
use Rattle.std.specs.List.{AllByRecursion}
use Rattle.crs_base.specs.Entry.{Key, Entry, canonical}
use Rattle.crs_base.specs.Lines.{is_passed_over}
use Rattle.crs_base.proofs.Words.{each_from_in, in_from_each, in_append, ordered_append}
use Rattle.crs_model.specs.Matching.{AreDistinct}
use Rattle.crs_model.proofs.Ties.{Says}
use Rattle.crs_model.proofs.Twins.{Same}
use Rattle.crs_log.specs.Items.{Item, Happens, Event}
use Rattle.crs_log.specs.ItemOf.{Empty, Is, what_of, what_is, item_of}
use Rattle.crs_log.specs.Known.{entry_of_event}
use Rattle.crs_log.proofs.Canonicals.{IsOfSymbols, read_of_symbols, same_event}

-- the entry is that of an event that was read
abbrev pub IsRead : Entry (List ℕ) → Type 0
IsRead x = (e : Event) × IsOfSymbols e × (x ≡ entry_of_event x.arrival e)

-- what the accepted entries of a run are
pub record AreAccepted (xs : List (Entry (List ℕ))) : Type 0 where
  pub distinct : AreDistinct xs
  pub below : AllByRecursion (λ x. x.arrival < length xs) xs
  pub read : AllByRecursion IsRead xs

pub none_accepted : AreAccepted []
none_accepted = record { distinct = tt; below = tt; read = tt }

pub one_accepted : (e : Event) (xs : List (Entry (List ℕ))) → IsOfSymbols e → AreAccepted xs → AreAccepted (xs ++ entry_of_event (length xs) e ∷ [])
one_accepted e xs s a =
    let new : Entry (List ℕ) = entry_of_event (length xs) e in
    let long : length (xs ++ new ∷ []) ≡ length xs + 1 = length-append xs (new ∷ []) in
    record {
      distinct = ordered_append (λ d e. d.arrival ≢ e.arrival) xs (new ∷ []) a.distinct (tt, tt) (λ x y i j. elim j [
        | inl q ↦ (λ m.
            let b = in_from_each (λ x. x.arrival < length xs) xs a.below x i in
            let k : y.arrival ≡ length xs = ap (λ z. z.arrival) q in
            absurd (omega (arith, b, k, m)))
        | inr n ↦ absurd n
      ]);
      below = each_from_in (λ x. x.arrival < length (xs ++ new ∷ [])) (xs ++ new ∷ []) (λ x i. elim (in_append xs (new ∷ []) x i) [
        | inl k ↦ (let b = in_from_each (λ x. x.arrival < length xs) xs a.below x k in omega (arith, b, long))
        | inr k ↦ (elim k [
          | inl q ↦ (let m : x.arrival ≡ length xs = ap (λ z. z.arrival) q in omega (arith, m, long))
          | inr n ↦ absurd n
        ])
      ]);
      read = each_from_in IsRead (xs ++ new ∷ []) (λ x i. elim (in_append xs (new ∷ []) x i) [
        | inl k ↦ in_from_each IsRead xs a.read x k
        | inr k ↦ (elim k [ inl q ↦ subst IsRead (sym q) (e, s, refl) | inr n ↦ absurd n ])
      ]);
    }

-- entries that were read, and say the same, are the same but for their arrival numbers
pub same_read : (x y : Entry (List ℕ)) → IsRead x → IsRead y → Says x y → Same x y
same_read x y a b s =
    let date : a.0.date ≡ b.0.date = sym (ap (λ z. z.date) a.2) ∙ ap (λ (k : Key). k.date) s ∙ ap (λ z. z.date) b.2 in
    let text : canonical a.0.name a.0.args a.0.change ≡ canonical b.0.name b.0.args b.0.change =
    sym (ap (λ z. z.text) a.2) ∙ ap (λ (k : Key). k.text) s ∙ ap (λ z. z.text) b.2 in
    let e : a.0 ≡ b.0 = same_event a.0 b.0 a.1 b.1 date text in
    record {
      date = ap (λ (k : Key). k.date) s;
      name = ap (λ z. z.name) a.2 ∙ ap (λ (v : Event). v.name) e ∙ sym (ap (λ z. z.name) b.2);
      args = ap (λ z. z.args) a.2 ∙ ap (λ (v : Event). v.args) e ∙ sym (ap (λ z. z.args) b.2);
      change = ap (λ z. z.change) a.2 ∙ ap (λ (v : Event). v.change) e ∙ sym (ap (λ z. z.change) b.2);
    }

item_read : (line : List ℕ) (o : Option Item) → item_of line ≡ o → (e : Event) → what_is o ≡ Is (Happens e) → IsOfSymbols e
item_read line None k e h = cc
item_read line (Some item) k e h = let same : item ≡ Happens e = cc in read_of_symbols line e (k ∙ ap Some same)

-- an event that a line is was read
pub line_read : (line : List ℕ) (e : Event) → what_of line ≡ Is (Happens e) → IsOfSymbols e
line_read line e = by (is_passed_over line)
  where
    by : (b : Bool) → cond b Empty (what_is (item_of line)) ≡ Is (Happens e) → IsOfSymbols e
    by true h = cc
    by false h = item_read line (item_of line) refl e h
