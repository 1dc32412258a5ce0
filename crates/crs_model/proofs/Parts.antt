-- Binding one event, and what is open with less bound, fewer entries and an earlier horizon.
use Rattle.std.proofs.Common.{◌≡◌, ◌≢◌, ℕ, zero, suc, ◌≤◌, ◌<◌, List, [], ◌∷◌, ◌++◌, length, refl, sym, ap, subst, ◌∙◌, inl, inr, arith, get_or-set_same, get_or-set_other}
use Rattle.std.specs.Prelude.{ℤ, pos, ◌≤ℤ◌, Option, Some, None, option_map, IfSome, slice_set}
use Rattle.std.proofs.lemmas.Int.{ints}
use Rattle.std.proofs.lemmas.Bool.Decides.{eqb_tells}
use Rattle.crs_base.specs.Words.{IsIn}
use Rattle.crs_stn.specs.Bound.{Agrees}
use Rattle.crs_base.specs.Entry.{Entry}
use Rattle.crs_model.specs.Models.{Chronicle}
use Rattle.crs_model.specs.Partial.{Partial, at, put, GivesNoneTwice, IsLevelClosed, IsAwaited, dates_of, CanGoOn}
use Rattle.crs_model.specs.Open.{IsOpen}
use Rattle.crs_model.proofs.Options.{of_some, some_if, cases_of}
use Rattle.crs_model.proofs.Least.{Extends, restricted, restricted_looser, restricted_least, allowed_looser}
use Rattle.crs_model.proofs.Lost.{lost_grows, lost_up}

module _ {S : Type 0} where
  abbrev pub clear : Partial S → ℕ → Partial S
  clear a e = slice_set a e None

  pub at_within : (a : Partial S) (e : ℕ) (x : Entry S) → at a e ≡ Some x → e < length a
  at_within [] e x h = absurd cc
  at_within (o ∷ a) zero x h = omega arith
  at_within (o ∷ a) (suc e) x h = let l = at_within a e x h in omega arith

  pub put_same : (a : Partial S) (e : ℕ) (x : Entry S) → e < length a → at (put a e x) e ≡ Some x
  put_same a e x l = get_or-set_same a e (Some x) None l

  pub put_other : (a : Partial S) (e f : ℕ) (x : Entry S) → f ≢ e → at (put a e x) f ≡ at a f
  put_other a e f x n = get_or-set_other a e f (Some x) None n

  pub extends_put : (a : Partial S) (e : ℕ) (x : Entry S) → at a e ≡ None → Extends a (put a e x)
  extends_put a e x free f y h = elim (eqb_tells f e) [
    | inl s ↦ let t = s.1 in let i : at a e ≡ Some y = rw (← t) h in absurd (cc)
    | inr o ↦ put_other a e f x o.1 ∙ h
  ]

  pub put_cleared : (a : Partial S) (e : ℕ) (x : Entry S) → at a e ≡ Some x → put (clear a e) e x ≡ a
  put_cleared [] e x h = absurd cc
  put_cleared (o ∷ a) zero x h = ap (λ (t : Option (Entry S)). t ∷ a) (sym h)
  put_cleared (o ∷ a) (suc e) x h = ap (λ (t : Partial S). o ∷ t) (put_cleared a e x h)

  pub clear_put : (a : Partial S) (e : ℕ) (x : Entry S) → at a e ≡ None → clear (put a e x) e ≡ a
  clear_put [] e x h = refl
  clear_put (o ∷ a) zero x h = ap (λ (t : Option (Entry S)). t ∷ a) (sym h)
  clear_put (o ∷ a) (suc e) x h = ap (λ (t : Partial S). o ∷ t) (clear_put a e x h)

  pub none_back : (a b : Partial S) (e : ℕ) → Extends a b → at b e ≡ None → at a e ≡ None
  none_back a b e part h = elim (cases_of (at a e)) [ inl n ↦ n | inr s ↦ let i = part e s.0 s.1 in absurd (cc) ]

  mapped_some : (o : Option (Entry S)) (x : Entry S) (f : Entry S → ℤ) (Q : ℤ → Type 0) → o ≡ Some x → IfSome (option_map f o) Q → Q (f x)
  mapped_some None x f Q e h = absurd cc
  mapped_some (Some y) x f Q e h = let s : y ≡ x = cc in subst (λ z. Q (f z)) s h

  mapped_part : (o p : Option (Entry S)) (f : Entry S → ℤ) (Q : ℤ → Type 0) → ((x : Entry S) → o ≡ Some x → p ≡ Some x) → IfSome (option_map f p) Q → IfSome (option_map f o) Q
  mapped_part None p f Q m h = tt
  mapped_part (Some x) p f Q m h = mapped_some p x f Q (m x refl) h

  pub agrees_part : (a b : Partial S) (t : ℕ → ℤ) → Extends a b → Agrees (dates_of b) t → Agrees (dates_of a) t
  agrees_part a b t part h p = mapped_part (at a p) (at b p) (λ e. pos e.date) (λ d. t p ≡ d) (part p) (h p)

  pub agrees_at : (a : Partial S) (t : ℕ → ℤ) (p : ℕ) (x : Entry S) → Agrees (dates_of a) t → at a p ≡ Some x → t p ≡ pos x.date
  agrees_at a t p x h e = mapped_some (at a p) x (λ e. pos e.date) (λ d. t p ≡ d) e (h p)

  pub twice_part : (a b : Partial S) → Extends a b → GivesNoneTwice b → GivesNoneTwice a
  twice_part a b part h e f n = some_if (at a e) _ (λ x i. some_if (at a f) _ (λ y j. of_some (at b f) y _ (part f y j) (of_some (at b e) x _ (part e x i) (h e f n))))

  module _ (c : Chronicle S) (level : ℕ → ℕ) (h g : ℕ) (later : h ≤ g) (a b : Partial S) (part : Extends a b) (same : length a ≡ length b)
      (gone : (f : ℕ) (x : Entry S) → IsAwaited level a f → at b f ≡ Some x → h ≤ x.date) where
    still_awaited : (f : ℕ) → IsAwaited level a f → at b f ≡ None → IsAwaited level b f
    still_awaited f w n = record {
      within = let l = w.within in omega (arith, same);
      unbound = n;
      least = λ e l m. w.least e (omega (arith, same)) (none_back a b e part m);
    }

    from_date : (t : ℤ) (d : ℕ) → h ≤ d → t ≡ pos d → pos h ≤ℤ t
    from_date t d l e = omega (arith, ints)

    earlier : (t : ℤ) → pos g ≤ℤ t → pos h ≤ℤ t
    earlier t l = omega (arith, ints)

    pub go_on_back : CanGoOn c level b g → CanGoOn c level a h
    go_on_back k = (
      k.0,
      (agrees_part a b k.0 part k.1),
      k.2,
      λ f w. elim (cases_of (at b f)) [
        | inl n ↦ earlier (k.0 f) (k.3 f (still_awaited f w n))
        | inr s ↦ from_date (k.0 f) (s.0).date (gone f s.0 w s.1) (agrees_at b k.0 f s.0 k.1 s.1)
      ],
    )

    module _ (small_pool pool entries more : List (Entry S)) (late : (e : Entry S) → IsIn e more → h ≤ e.date) (given : (e : ℕ) (x : Entry S) → at a e ≡ Some x → IsIn x small_pool) (closed : IsLevelClosed level a) where
      pub open_back : IsOpen c level pool (entries ++ more) g b → IsOpen c level small_pool entries h a
      open_back k =
          let p = k.partial in
          let small = restricted c a b k.look p.binding.equal part in
          let looser = restricted_looser c a b k.look p.binding.equal part in
          record {
            look = small;
            partial = record {
              len = same ∙ p.len;
              given = λ e. some_if (at a e) _ (λ x i. given e x i);
              distinct = twice_part a b part p.distinct;
              binding = restricted_least c a b k.look p.binding.equal part;
              allowed = allowed_looser c small k.look looser p.allowed;
            };
            closed = closed;
            dates = go_on_back k.dates;
            windows = λ w i l. k.windows w i (lost_grows entries more h g later late k.look b w (lost_up small k.look looser a b entries h w part l));
          }
