-- The least level of the events whose bits aren't set, and what it is of the unbound ones.
use Rattle.std.proofs.Common.{◌≡◌, ℕ, zero, suc, List, [], ◌∷◌, map, Bool, true, false, ◌≤◌, ◌<◌, ◌+◌, ◌/◌, ◌%◌, ◌^◌, refl, sym, subst, ◌∙◌, inl, inr, arith, below_more}
use Rattle.std.specs.Prelude.{◌⊎◌, Option, Some, None, IfSome, length, slice_index_or, MatchOption}
use Rattle.crs_base.specs.declared.symbols.Sym.{Sym}
use Rattle.crs_base.specs.Entry.{Entry}
use Rattle.crs_model.specs.Bits.{bit_of, HasBits}
use Rattle.crs_model.specs.Partial.{Partial, at}
use Rattle.crs_model.specs.declared.chronicle.EventDef.{EventDef as CodeEvent}
use Rattle.crs_model.specs.Levels.{level_in}
use Rattle.crs_model.specs.SeenModels.{event_of}
use Rattle.crs_focus.specs.Current.{AreAllBound, IsCurrent, IsUnset, IsLeastAt, IsLeastUnset}

module _ (level : ℕ → ℕ) (bits n : ℕ) where
  -- one more event, which is bound
  pub least_bound : (o : Option ℕ) → (IsUnset bits n → ⊥) → IsLeastUnset level bits n o → IsLeastUnset level bits (n + 1) o
  least_bound None shut h = below_more (λ e. IsUnset bits e → ⊥) n h shut
  least_bound (Some l) shut h = record {
    some = (h.some.0, let k = h.some.1 in omega arith, h.some.2, h.some.3);
    least = below_more (λ e. IsUnset bits e → l ≤ level e) n h.least (λ b. absurd (shut b));
  }

  -- one more event, which is unbound
  pub least_unbound : (o : Option ℕ) (m : ℕ) → IsUnset bits n → m ≤ level n → IfSome o (λ l. m ≤ l) → (m ≡ level n) ⊎ (o ≡ Some m) → IsLeastUnset level bits n o → IsLeastAt level bits (n + 1) m
  least_unbound None m clear le low (inl e) h = record {
    some = (n, omega arith, clear, sym e);
    least = below_more (λ k. IsUnset bits k → m ≤ level k) n (λ k i b. absurd (h k i b)) (λ b. le);
  }
  least_unbound None m clear le low (inr e) h = absurd cc
  least_unbound (Some l) m clear le low (inl e) h = record {
    some = (n, omega arith, clear, sym e);
    least = below_more (λ k. IsUnset bits k → m ≤ level k) n (λ k i b. let x = h.least k i b in omega arith) (λ b. le);
  }
  least_unbound (Some l) m clear le low (inr e) h =
      let same : l ≡ m = cc in
      record {
        some = (h.some.0, let k = h.some.1 in omega arith, h.some.2, h.some.3 ∙ same);
        least = below_more (λ k. IsUnset bits k → m ≤ level k) n (λ k i b. let x = h.least k i b in omega arith) (λ b. le);
      }

unbound_of : (o : Option (Entry Sym)) → bit_of o ≡ 0 → o ≡ None
unbound_of None h = refl
unbound_of (Some x) h = absurd (omega arith)

module _ (level : ℕ → ℕ) (bits : ℕ) (a : Partial Sym) (has : HasBits a bits) where
  clear_of : (e : ℕ) → at a e ≡ None → IsUnset bits e
  clear_of e h = subst (λ (o : Option (Entry Sym)). bits / 2 ^ e % 2 ≡ bit_of o) h (has e)

  none_at : (e : ℕ) → IsUnset bits e → at a e ≡ None
  none_at e h = unbound_of (at a e) (sym (has e) ∙ h)

  -- what is least is current
  pub current_is : (o : Option ℕ) → IsLeastUnset level bits (length a) o → MatchOption o (AreAllBound a) (IsCurrent level a)
  current_is None h = λ e l b. h e l (clear_of e b)
  current_is (Some l) h =
      let f = h.some.0 in
      let is = h.some.3 in
      record {
        some = (f, record { within = h.some.1; unbound = none_at f h.some.2; least = λ e i b. (let x = h.least e i (clear_of e b) in omega arith) }, is);
        only = λ g w. (let x = h.least g w.within (clear_of g w.unbound) in let y = w.least f h.some.1 (none_at f h.some.2) in omega arith);
      }

level_listed : (events : List CodeEvent) (e : ℕ) (d : CodeEvent) → e < length events → (slice_index_or events e d).level ≡ slice_index_or (map (λ v. v.level) (map event_of events)) e 0
level_listed [] e d l = absurd (omega arith)
level_listed (v ∷ events) zero d l = refl
level_listed (v ∷ events) (suc e) d l = level_listed events e d (omega arith)

pub level_is : (events : List CodeEvent) (e : ℕ) (d : CodeEvent) (focus : Bool) → focus ≡ true → e < length events → (slice_index_or events e d).level ≡ level_in (map event_of events) focus e
level_is events e d true t l = level_listed events e d l
level_is events e d false t l = absurd cc
