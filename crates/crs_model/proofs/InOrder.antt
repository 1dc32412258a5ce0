-- Entries put in key order.
use Rattle.std.proofs.Common.{◌≡◌, ◌≢◌, Bool, true, false, cond, List, [], ◌∷◌, refl, sym, ap, subst, ◌∙◌, inl, inr, true≢false, Ordering, Less, Equal, Greater}
use Rattle.std.specs.List.{AllByRecursion}
use Rattle.std.specs.Ordering.{is_lt, ordering_reverse}
use Rattle.std.specs.Cmp.{IsTotalOrder}
use Rattle.crs_base.specs.Words.{IsIn, Ordered}
use Rattle.crs_base.proofs.Words.{each_from_in, in_from_each}
use Rattle.crs_base.specs.Entry.{Entry, entry_cmp}
use Rattle.crs_model.specs.Order.{put_in_order}

module _ {S : Type 0} (total : IsTotalOrder (entry_cmp {S = S})) where
  abbrev Below : Entry S → Entry S → Type 0
  Below a b = entry_cmp a b ≡ Less

  in_put_step : (e x y : Entry S) (ys : List (Entry S)) (b : Bool) → (IsIn x (put_in_order e ys) → IsIn x (e ∷ ys)) → IsIn x (cond b (e ∷ y ∷ ys) (y ∷ put_in_order e ys)) → IsIn x (e ∷ y ∷ ys)
  in_put_step e x y ys true rest h = h
  in_put_step e x y ys false rest (inl q) = inr (inl q)
  in_put_step e x y ys false rest (inr k) = elim (rest k) [ inl q ↦ inl q | inr i ↦ inr (inr i) ]

  -- what is in the list after a put is e or was there
  pub in_put : (e x : Entry S) (ys : List (Entry S)) → IsIn x (put_in_order e ys) → IsIn x (e ∷ ys)
  in_put e x [] h = h
  in_put e x (y ∷ ys) h = in_put_step e x y ys (is_lt (entry_cmp e y)) (in_put e x ys) h

  greater : (e y : Entry S) (o : Ordering) → entry_cmp e y ≡ o → is_lt o ≡ false → o ≢ Equal → Below y e
  greater e y Less k h n = absurd (true≢false h)
  greater e y Equal k h n = absurd (n refl)
  greater e y Greater k h n = total.antisymm y e ∙ ap ordering_reverse k

  below_all : (e y : Entry S) (ys : List (Entry S)) → Below e y → AllByRecursion (Below y) ys → AllByRecursion (Below e) ys
  below_all e y ys h all = each_from_in (Below e) ys (λ z i. total.trans e y z h (in_from_each (Below y) ys all z i))

  -- a put keeps the order, where no key is the same
  pub ordered_put : (e : Entry S) (ys : List (Entry S)) → AllByRecursion (λ y. entry_cmp e y ≢ Equal) ys → Ordered Below ys → Ordered Below (put_in_order e ys)
  ordered_put e [] other h = (tt, tt)
  ordered_put e (y ∷ ys) other h = by (is_lt (entry_cmp e y)) refl (ordered_put e ys other.1 h.1)
    where
      lower : (o : Ordering) → is_lt o ≡ true → o ≡ Less
      lower Less k = refl
      lower Equal k = absurd (true≢false (sym k))
      lower Greater k = absurd (true≢false (sym k))

      by : (b : Bool) → is_lt (entry_cmp e y) ≡ b → Ordered Below (put_in_order e ys) → Ordered Below (cond b (e ∷ y ∷ ys) (y ∷ put_in_order e ys))
      by true k rest = let less : Below e y = lower (entry_cmp e y) k in ((less, below_all e y ys less h.0), h)
      by false k rest = (
        each_from_in (Below y) (put_in_order e ys) (λ z i. elim (in_put e z ys i) [
          | inl q ↦ subst (Below y) (sym q) (greater e y (entry_cmp e y) refl k other.0)
          | inr j ↦ in_from_each (Below y) ys h.0 z j
        ]),
        rest,
      )
