-- What a scan gives, put together from its loops: over the entries for one event, over the events, over the held partial assignments.
use Rattle.std.proofs.Common.{◌≡◌, ℕ, List, ◌++◌, refl, sym, ap, ◌∙◌, inl, inr}
use Rattle.std.specs.Prelude.{Some}
use Rattle.std.proofs.lemmas.Bool.Decides.{eqb_tells}
use Rattle.crs_base.specs.Words.{IsIn}
use Rattle.crs_base.proofs.Words.{in_append, in_append_left, in_append_right, ordered_append}
use Rattle.crs_base.specs.Entry.{Entry}
use Rattle.crs_model.specs.Partial.{Partial, at, GivesNoneTwice, IsLevelClosed}
use Rattle.crs_model.specs.Images.{IsImage}
use Rattle.crs_model.specs.Steps.{GoesOn}
use Rattle.crs_model.specs.Scans.{StartsAt, IsForkByLevel, GoesOnByLevel}
use Rattle.crs_model.proofs.Parts.{put_same}
use Rattle.crs_model.proofs.Rests.{rest, only_rest}
use Rattle.crs_model.proofs.ByLevel.{one_event}

module _ {S : Type 0} (level : ℕ → ℕ) (Fine : Partial S → Type 0) (closed : (b : Partial S) → Fine b → IsLevelClosed level b)
    (apart : (b : Partial S) → Fine b → GivesNoneTwice b) where
  module _ (x : Entry S) where
    pub has_x : (a b : Partial S) (e : ℕ) → StartsAt level Fine x a e b → at b e ≡ Some x
    has_x a b e s = (s.1).part e x (put_same a e x (s.0).within)

    pub same_event : (a b y : Partial S) (e f : ℕ) → StartsAt level Fine x a e y → StartsAt level Fine x b f y → e ≡ f
    same_event a b y e f s t = elim (eqb_tells e f) [ inl q ↦ q.1 | inr o ↦ absurd (one_event y (apart y s.2) e f x x (has_x a y e s) (has_x b y f t) o.1 refl) ]

    -- the loop over the held ones: what has x comes of one of them
    pub one_parent : (a b y : Partial S) → IsLevelClosed level a → IsLevelClosed level b → IsForkByLevel level Fine x a y
        → IsForkByLevel level Fine x b y → a ≡ b
    one_parent a b y ca cb s t =
        only_rest level s.0 a y x ca (s.1).0 (s.1).1
        ∙ ap (λ (e : ℕ). rest level e y) (same_event a b y s.0 t.0 s.1 t.1)
        ∙ sym (only_rest level t.0 b y x cb (t.1).0 (t.1).1)

    -- those that stay, and what has x
    pub both_by_level : (held kept forks : List (Partial S)) → ((a : Partial S) → IsIn a held → (e : ℕ) → at a e ≡ Some x → ⊥)
        → IsImage (GoesOn Fine) held kept → IsImage (IsForkByLevel level Fine x) held forks
        → IsImage (GoesOnByLevel level Fine x) held (kept ++ forks)
    both_by_level held kept forks free h k = record {
      distinct = ordered_append (λ p q. p ≡ q → ⊥) kept forks h.distinct k.distinct (λ p q i j e.
          let r = h.sound p i in
          let s = k.sound q j in
          free r.0 r.1 (s.2).0 (ap (λ (t : Partial S). at t (s.2).0) (sym (r.2).0 ∙ e) ∙ has_x s.0 q (s.2).0 (s.2).1));
      sound = λ b i. elim (in_append kept forks b i) [
        | inl j ↦ (let r = h.sound b j in (r.0, r.1, inl r.2))
        | inr j ↦ (let s = k.sound b j in (s.0, s.1, inr ((s.2).0, ((s.2).1).0, ((s.2).1).1, ((s.2).1).2)))
      ];
      complete = λ a b i s. elim s [
        | inl t ↦ in_append_left kept forks b (h.complete a b i t)
        | inr t ↦ in_append_right kept forks b (k.complete a b i (t.0, (t.1, t.2, t.3)))
      ];
    }
