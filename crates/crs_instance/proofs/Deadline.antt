-- The least of the greatest dates is the deadline.
use Rattle.std.proofs.Common.{◌≡◌, ℕ, zero, suc, ◌<◌, Bool, true, false, List, [], ◌∷◌, length, map, refl, sym, ap, subst, ◌∙◌, arith}
use Rattle.std.specs.Prelude.{ℤ, ◌≤ℤ◌, ◌==◌, Option, Some, None, IfSome, IsSomeAnd, slice_index_or, is_some}
use Rattle.std.proofs.lemmas.Bool.{eqb-true, eq-eqb}
use Rattle.crs_base.specs.declared.symbols.Sym.{Sym}
use Rattle.crs_base.specs.Entry.{Entry}
use Rattle.crs_stn.specs.DateWindow.{least_of}
use Rattle.crs_stn.proofs.Partial.{least_of_is_below, least_of_is_reached}
use Rattle.crs_model.specs.declared.chronicle.EventDef.{EventDef as CodeEvent}
use Rattle.crs_model.specs.declared.date_window.DateWindow.{DateWindow}
use Rattle.crs_model.specs.Levels.{level_in}
use Rattle.crs_model.specs.Partial.{at}
use Rattle.crs_model.specs.SeenModels.{event_of}
use Rattle.crs_model.specs.Bits.{HasBits, is_set}
use Rattle.crs_model.specs.Steps.{flat}
use Rattle.crs_instance.specs.Instances.{InstanceState, IsDeadline, window_at}
use Rattle.crs_instance.specs.Deadlines.{end_if}
use Rattle.crs_instance.specs.Stored.{last_of}
use Rattle.crs_model.specs.Models.{EventDef}
use Rattle.crs_instance.proofs.Masks.{set_is_some}

-- the level of an event of the code
level_listed : (events : List CodeEvent) (e : ℕ) (d : CodeEvent) → e < length events → (slice_index_or events e d).level ≡ slice_index_or (map (λ v. v.level) (map event_of events)) e 0
level_listed [] e d l = absurd (omega arith)
level_listed (v ∷ events) zero d l = refl
level_listed (v ∷ events) (suc e) d l = level_listed events e d (omega arith)

pub level_is : (events : List CodeEvent) (e : ℕ) (d : CodeEvent) (focus : Bool) → focus ≡ true → e < length events → (slice_index_or events e d).level ≡ level_in (map event_of events) focus e
level_is events e d true t l = level_listed events e d l
level_is events e d false t l = absurd cc

end_at : (b c : Bool) (o : Option (Entry Sym)) (w : DateWindow) → b ≡ true → c ≡ is_some o → o ≡ None → end_if b c w ≡ w.most
end_at true false o w t s e = refl
end_at true true None w t s e = absurd cc
end_at true true (Some x) w t s e = absurd cc
end_at false c o w t s e = absurd cc

pub is_unbound : (o : Option (Entry Sym)) → is_some o ≡ false → o ≡ None
is_unbound None e = refl
is_unbound (Some x) e = absurd cc

end_parts : (b c : Bool) (o : Option (Entry Sym)) (w : DateWindow) (v : ℤ) → c ≡ is_some o → end_if b c w ≡ Some v → (b ≡ true) × (o ≡ None) × (w.most ≡ Some v)
end_parts true false o w v s e = (refl, is_unbound o (sym s), e)
end_parts true true o w v s e = absurd cc
end_parts false false o w v s e = absurd cc
end_parts false true o w v s e = absurd cc

-- what tells which events are bound tells the deadline
module _ (i : InstanceState) (level : ℕ → ℕ) (n count : ℕ) (len : length i.partial ≡ count) (set : ℕ → Bool) (told : (e : ℕ) → set e ≡ is_some (at i.partial e)) where
  abbrev ends : ℕ → Option ℤ
  ends e = end_if (level e == n) (set e) (window_at i.windows e)

  never_some : (o : Option ℤ) → IfSome o (λ x. IsSomeAnd None (λ v. v ≤ℤ x)) → o ≡ None
  never_some None h = refl
  never_some (Some x) h = absurd h

  below_each : (d : Option ℤ) (e : ℕ) → least_of ends count ≡ d → e < length i.partial → at i.partial e ≡ None → level e ≡ n → IfSome (window_at i.windows e).most (λ x. IsSomeAnd d (λ v. v ≤ℤ x))
  below_each d e s l free same =
      subst (λ (o : Option ℤ). IfSome (window_at i.windows e).most (λ x. IsSomeAnd o (λ v. v ≤ℤ x))) s
      (subst (λ (o : Option ℤ). IfSome o (λ x. IsSomeAnd (least_of ends count) (λ v. v ≤ℤ x)))
      (end_at (level e == n) (set e) (at i.partial e) (window_at i.windows e) (eq-eqb (level e) n same) (told e) free)
      (least_of_is_below ends count e (omega arith)))

  deadline_from : (d : Option ℤ) → least_of ends count ≡ d → IsDeadline level n i d
  deadline_from None s = λ e l free same. never_some (window_at i.windows e).most (below_each None e s l free same)
  deadline_from (Some d) s =
      let r = least_of_is_reached ends count d s in
      let p = end_parts (level r.0 == n) (set r.0) (at i.partial r.0) (window_at i.windows r.0) d (told r.0) r.2 in
      (λ e l free same. below_each (Some d) e s l free same, r.0, (let q = r.1 in omega arith), p.1, eqb-true (level r.0) n p.0, p.2)

pub deadline_by : (i : InstanceState) (level : ℕ → ℕ) (n : ℕ) (d : Option ℤ) → least_of (λ e. end_if (level e == n) (is_some (at i.partial e)) (window_at i.windows e)) (length i.partial) ≡ d → IsDeadline level n i d
deadline_by i level n d s = deadline_from i level n (length i.partial) refl (λ e. is_some (at i.partial e)) (λ e. refl) d s

-- the same, where bits tell which events are bound
pub deadline_is : (i : InstanceState) (level : ℕ → ℕ) (n bound count : ℕ) → length i.partial ≡ count → HasBits i.partial bound → (d : Option ℤ) → d ≡ least_of (λ e. end_if (level e == n) (is_set bound e) (window_at i.windows e)) count → IsDeadline level n i d
deadline_is i level n bound count len bits d s = deadline_from i level n count len (is_set bound) (λ e. set_is_some i.partial bound e bits) d (sym s)

-- where levels aren't read
pub unread : (i : InstanceState) (events : List (EventDef Sym)) (focus : Bool) (n : ℕ) (d : Option ℤ) → focus ≡ false → IsDeadline flat n i d → IsDeadline (level_in events focus) n i d
unread i events true n d s h = absurd cc
unread i events false n d s h = h

pub unread_least : (i : InstanceState) (events : List (EventDef Sym)) (focus : Bool) (n : ℕ) (d : Option ℤ) → focus ≡ false → n ≡ 0 → IsDeadline flat 0 i d → IsDeadline (level_in events focus) n i d
unread_least i events focus n d s t h = unread i events focus n d s (subst (λ (k : ℕ). IsDeadline flat k i d) (sym t) h)

-- where they are
pub read : (i : InstanceState) (events all : List CodeEvent) (focus : Bool) (n bound count : ℕ) (ws : List DateWindow) (d : Option ℤ) → length i.partial ≡ count → HasBits i.partial bound → focus ≡ true → events ≡ all → ws ≡ i.windows
    → d ≡ least_of (λ e. end_if (level_in (map event_of events) true e == n) (is_set bound e) (window_at ws e)) count → IsDeadline (level_in (map event_of all) focus) n i d
read i events all focus n bound count ws d len bits t s w is =
    subst (λ (b : Bool). IsDeadline (level_in (map event_of all) b) n i d) (sym t)
    (deadline_is i (level_in (map event_of all) true) n bound count len bits d (is
    ∙ ap (λ (es : List CodeEvent). least_of (λ e. end_if (level_in (map event_of es) true e == n) (is_set bound e) (window_at ws e)) count) s
    ∙ ap (λ (vs : List DateWindow). least_of (λ e. end_if (level_in (map event_of all) true e == n) (is_set bound e) (window_at vs e)) count) w))

-- the least of the greatest dates of the unbound events
pub last_is : (i : InstanceState) (bound count : ℕ) (ws : List DateWindow) (d : Option ℤ) → length i.partial ≡ count → HasBits i.partial bound → ws ≡ i.windows → d ≡ last_of bound count ws → IsDeadline flat 0 i d
last_is i bound count ws d len bits w is = deadline_is i flat 0 bound count len bits d (is ∙ ap (λ (vs : List DateWindow). last_of bound count vs) w)
