-- Lemmas on places of keys.
use Rattle.std.proofs.Common.{◌≡◌, ℕ, ◌<◌, ◌≤◌, ◌⊎◌, inl, inr, List, length, refl, sym, ap, ◌∙◌, get_or, arith, Bool, true, false}
use Rattle.std.specs.Prelude.{◌==◌, ◌&&◌, ◌||◌, cond, None}
use Rattle.std.proofs.Math.ListN.{set}
use Rattle.std.proofs.lemmas.List.{get_or-set_same, get_or-set_other, get_or_default, get_or_past}
use Rattle.std.proofs.lemmas.Bool.{cases_eq, cases_lt, eqb-true}
use Rattle.crs_index.specs.declared.key.Key.{Key}
use Rattle.crs_index.specs.declared.numbers.Place.{Place}
use Rattle.crs_index.specs.KeyNumbers.{is_equal, is_key, is_open, free, in_place, named, place, placed}
use Rattle.crs_index.proofs.Keys.{apart_from, key_from}

both_true : (a b : Bool) → a && b ≡ true → (a ≡ true) × (b ≡ true)
both_true true b e = (refl, e)
both_true false b e = absurd (cc)

pub equal_same : (k q : Key) → is_equal k q ≡ true → k ≡ q
equal_same k q e =
    let a = both_true (k.first == q.first) (k.second == q.second && (k.third == q.third && k.class == q.class)) e in
    let b = both_true (k.second == q.second) (k.third == q.third && k.class == q.class) a.1 in
    let c = both_true (k.third == q.third) (k.class == q.class) b.1 in
    key_from k q (eqb-true k.class q.class c.1) (eqb-true k.first q.first a.0) (eqb-true k.second q.second b.0) (eqb-true k.third q.third c.0)

true_or_false : (b : Bool) → (b ≡ true) ⊎ (b ≡ false)
true_or_false true = inl refl
true_or_false false = inr refl

-- no number stands there for a key that isn't its own
placed_apart : (p : Place) (k : Key) → (k ≡ p.key → ⊥) → placed p k ≡ None
placed_apart p k apart = elim (true_or_false (is_equal k p.key)) [
  | inl t ↦ absurd (apart (equal_same k p.key t))
  | inr f ↦ ap (λ b. cond b (named p.content) None) f
]

placed_free : (p : Place) (k : Key) → p.content ≡ 0 → placed p k ≡ None
placed_free p k e = ap (λ (n : ℕ). cond (is_equal k p.key) (named n) None) e ∙ either_way (is_equal k p.key)
  where
    either_way : (b : Bool) → cond b (named 0) None ≡ None
    either_way true = refl
    either_way false = refl

-- so where one key can stand, there is none for another
placed_other : (p : Place) (key k : Key) → is_key key k ≡ false → is_open p key ≡ true → placed p k ≡ None
placed_other p key k other opens = elim (true_or_false (p.content == 0)) [
  | inl z ↦ placed_free p k (eqb-true p.content 0 z)
  | inr n ↦
      let own : is_equal key p.key ≡ true = sym (ap (λ b. b || is_equal key p.key) n) ∙ opens in
      placed_apart p k (λ e. apart_from key k other (equal_same key p.key own ∙ sym e))
]

-- what is written where the key can stand changes nothing for others, where it is none of theirs
pub written_others : (places : List Place) (n : ℕ) (p v : Place) (key k : Key) → n < length places → p ≡ get_or places n p → is_open p key ≡ true → placed v k ≡ None → is_key key k ≡ false → in_place (set places n v) k ≡ in_place places k
written_others places n p v key k l is opens none other = elim (cases_eq (place k) n) [
  | inl e ↦
      ap (λ (m : ℕ). placed (get_or (set places n v) m free) k) e ∙ (ap (λ (q : Place). placed q k) (get_or-set_same places n v free l) ∙ (none ∙ sym
      (ap (λ (m : ℕ). placed (get_or places m free) k) e ∙ (ap (λ (q : Place). placed q k) (get_or_default places n free p l ∙ sym is) ∙ placed_other p key k other opens))))
  | inr ne ↦ ap (λ (q : Place). placed q k) (get_or-set_other places n (place k) v free ne)
]

pub key_other : (key k : Key) (content : ℕ) → is_key key k ≡ false → placed (record { key = key; content = content }) k ≡ None
key_other key k content other = placed_apart (record { key = key; content = content }) k (λ e. apart_from key k other (sym e))

pub free_other : (k : Key) → placed free k ≡ None
free_other k = placed_free free k refl

pub own_open : (p : Place) (key : Key) → is_equal key p.key ≡ true → is_open p key ≡ true
own_open p key e = elim (true_or_false (p.content == 0)) [
  | inl z ↦ ap (λ b. b || is_equal key p.key) z
  | inr n ↦ ap (λ b. b || is_equal key p.key) n ∙ e
]

-- more places that are free change no read
pub places_grown : (old new : List Place) (m : ℕ) → length new ≡ m → ((k : ℕ) (d : Place) → k < m → k < length old → get_or new k d ≡ get_or old k d) → ((k : ℕ) (d : Place) → length old ≤ k → k < m → get_or new k d ≡ free) → length old ≤ m → (n : ℕ) → get_or new n free ≡ get_or old n free
places_grown old new m long below rest fewer n = elim (cases_lt n m) [
  | inl l ↦ elim (cases_lt n (length old)) [
    | inl b ↦ below n free l b
    | inr b ↦ rest n free (omega arith) l ∙ sym (get_or_past old n free (omega arith))
  ]
  | inr g ↦ get_or_past new n free (omega arith) ∙ sym (get_or_past old n free (omega arith))
]
