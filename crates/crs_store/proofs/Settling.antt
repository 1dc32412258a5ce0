-- As what stands in places is found again, one place after another.
use Rattle.std.proofs.Common.{Bool, ◌≡◌, ◌≢◌, ◌⊎◌, ℕ, List, [], ◌∷◌, ◌++◌, refl, sym, ap, subst, ◌∙◌, inl, inr, Vec, Global}
use Rattle.std.specs.Prelude.{Option, Some, None}
use Rattle.std.specs.List.Sorted.{IsStrictlySortedBy}
use Rattle.std.specs.Ordering.{nat_cmp}
use Rattle.std.proofs.lemmas.Bool.{cases_eq}
use Rattle.std.proofs.lemmas.Map.Keys.{sorted_tail}
use Rattle.crs_agenda.specs.declared.timed.Handle.{Handle}
use Rattle.crs_base.specs.Words.{IsIn}
use Rattle.crs_base.proofs.Words.{in_append_left, in_append_right}
use Rattle.crs_index.specs.Indexes.{IndexState}
use Rattle.crs_instance.specs.Instances.{InstanceState}
use Rattle.crs_model.specs.declared.plan.Plan.{Plan}
use Rattle.crs_store.specs.declared.holding.Holding.{Holding}
use Rattle.crs_waiting.specs.declared.hooks.Hooks.{Hooks}
use Rattle.crs_waiting.specs.Dues.{AreDue}
use Rattle.crs_waiting.specs.Links.{linked_by, Grows, IsLinkedAnew, IsArmedAnew}
use Rattle.crs_living.specs.Slots.{SlotsState, slot_at, handle_at, Renumbers}
use Rattle.crs_living.specs.Done.{IsDone}
use Rattle.crs_store.specs.Tidy.{IsFoundAgain, IsFoundAnew, IsFoundWhole, Keeps, Registers, SettlesPlace, SettlesPlaces}
use Rattle.crs_waiting.proofs.Linked.{linked_still, armed_still}
use Rattle.crs_living.proofs.Walked.{IsEachBut, first_apart}

one : {a b : InstanceState} → Some a ≡ Some b → a ≡ b
one e = cc

keeps_all : (old : Holding) → Keeps old old
keeps_all old = record { stands = refl; grown = λ k g w. w; due = λ t i. i; stood = refl; ripe = λ p i. i }

keeps_both : (old now new : Holding) → Keeps old now → Keeps now new → Keeps old new
keeps_both old now new a b = record {
  stands = b.stands ∙ a.stands;
  grown = λ k g w. b.grown k g (a.grown k g w);
  due = λ t i. b.due t (a.due t i);
  stood = b.stood ∙ a.stood;
  ripe = λ p i. b.ripe p (a.ripe p i);
}

-- what stands there is all that is looked at
pub stands_at : (s t : SlotsState) (p : ℕ) → t.slots ≡ s.slots → slot_at t p ≡ slot_at s p
stands_at s t p e = ap (λ (xs : List (Option InstanceState)). slot_at (record { slots = xs; serials = s.serials }) p) e

module _ (plan : Plan) (focus : Bool) (hooks : Hooks) (since h : ℕ) where
  -- ---- one place

  pub settled_none : (place : ℕ) (old : Holding) → slot_at old.slots place ≡ None → SettlesPlace plan focus hooks place since h old old
  settled_none place old none = record { keeps = keeps_all old; others = λ p n. refl; found = λ i is. absurd (never (sym none ∙ is)) }
    where
      never : {i : InstanceState} → None ≡ Some i → ⊥
      never e = cc

  pub settled_done : (place : ℕ) (old : Holding) (ripe : Vec ℕ Global) (i : InstanceState) → slot_at old.slots place ≡ Some i → IsDone plan h i → ripe.items ≡ old.ripe.items ++ place ∷ [] → SettlesPlace plan focus hooks place since h old (record { slots = old.slots; waiting = old.waiting; dues = old.dues; ripe = ripe; room = old.room })
  settled_done place old ripe i is done named = record {
    keeps = record { stands = refl; grown = λ k g w. w; due = λ t j. j; stood = refl; ripe = λ p j. subst (IsIn p) (sym named) (in_append_left old.ripe.items (place ∷ []) p j) };
    others = λ p n. refl;
    found = λ j at_j. inl (subst (IsDone plan h) (one (sym is ∙ at_j)) done, subst (IsIn place) (sym named) (in_append_right old.ripe.items (place ∷ []) place (inl refl)));
  }

  pub settled_found : (place : ℕ) (old : Holding) (index : IndexState) (i : InstanceState) → slot_at old.slots place ≡ Some i → (IsDone plan h i → ⊥) → Grows old.waiting index → IsLinkedAnew plan focus hooks.events.items index (handle_at old.slots place) (Some (linked_by plan since)) (linked_by plan h) i → IsArmedAnew plan hooks.windows.items index (handle_at old.slots place) (Some since) h i
      → SettlesPlace plan focus hooks place since h old (record { slots = old.slots; waiting = index; dues = old.dues; ripe = old.ripe; room = old.room })
  settled_found place old index i is undone grown linked armed = record {
    keeps = record { stands = refl; grown = grown; due = λ t j. j; stood = refl; ripe = λ p j. j };
    others = λ p n. refl;
    found = λ j at_j. inr (subst (λ (t : InstanceState). (IsDone plan h t → ⊥) × (IsFoundAnew plan focus hooks old.slots (record { slots = old.slots; waiting = index; dues = old.dues; ripe = old.ripe; room = old.room }) since h place t ⊎ IsFoundWhole plan focus hooks (record { slots = old.slots; waiting = index; dues = old.dues; ripe = old.ripe; room = old.room }) h place t)) (one (sym is ∙ at_j)) (undone, inl (refl, linked, armed)));
  }

  -- it has another handle, and is registered by that
  pub settled_renewed : (place : ℕ) (old : Holding) (slots : SlotsState) (new : Holding) (i : InstanceState) → slot_at old.slots place ≡ Some i → (IsDone plan h i → ⊥) → Renumbers old.slots slots place → Registers plan focus hooks h place (record { slots = slots; waiting = old.waiting; dues = old.dues; ripe = old.ripe; room = old.room }) new → SettlesPlace plan focus hooks place since h old new
  settled_renewed place old slots new i is undone n r = record {
    keeps = record { stands = ap (λ (s : SlotsState). s.slots) r.slots ∙ n.stands; grown = r.grown; due = r.kept; stood = r.stood; ripe = λ p j. subst (IsIn p) (sym r.ripe) j };
    others = λ p other. ap (λ (s : SlotsState). handle_at s p) r.slots ∙ n.others p other;
    found = λ j at_j.
        let there : slot_at slots place ≡ Some j = stands_at old.slots slots place n.stands ∙ at_j in
        let same : handle_at slots place ≡ handle_at new.slots place = ap (λ (s : SlotsState). handle_at s place) (sym r.slots) in
        inr (subst (λ (t : InstanceState). IsDone plan h t → ⊥) (one (sym is ∙ at_j)) undone, inr (subst (λ (g : Handle). IsLinkedAnew plan focus hooks.events.items new.waiting g None (linked_by plan h) j × IsArmedAnew plan hooks.windows.items new.waiting g None h j × AreDue plan focus j g h new.dues.pairs) same (r.linked j there, r.armed j there, r.due j there)));
  }

  -- ---- the places, but for those that are left

  pub record IsSettledBut (places rest : List ℕ) (old now : Holding) : Type 0 where
    pub keeps : Keeps old now
    pub others : (p : ℕ) → (IsIn p places → ⊥) → handle_at now.slots p ≡ handle_at old.slots p
    pub left : (p : ℕ) → IsIn p rest → IsIn p places × (handle_at now.slots p ≡ handle_at old.slots p)
    pub found : IsEachBut (IsFoundAgain plan focus hooks old.slots now since h) places rest
    pub ordered : IsStrictlySortedBy nat_cmp rest

  -- what was found is still
  found_still : (was : SlotsState) (now new : Holding) → Keeps now new → (p : ℕ) → handle_at new.slots p ≡ handle_at now.slots p → IsFoundAgain plan focus hooks was now since h p → IsFoundAgain plan focus hooks was new since h p
  found_still was now new k p same found i is = elim (found i is) [
    | inl d ↦ inl (d.0, k.ripe p d.1)
    | inr f ↦ inr (
      f.0,
      elim f.1 [
        | inl a ↦ inl (
          same ∙ a.0,
          subst (λ (g : Handle). IsLinkedAnew plan focus hooks.events.items new.waiting g (Some (linked_by plan since)) (linked_by plan h) i) (sym same) (linked_still plan focus hooks.events.items now.waiting new.waiting (handle_at now.slots p) (Some (linked_by plan since)) (linked_by plan h) i k.grown a.1),
          subst (λ (g : Handle). IsArmedAnew plan hooks.windows.items new.waiting g (Some since) h i) (sym same) (armed_still plan hooks.windows.items now.waiting new.waiting (handle_at now.slots p) (Some since) h i k.grown a.2),
        )
        | inr w ↦ inr (subst (λ (g : Handle). IsLinkedAnew plan focus hooks.events.items new.waiting g None (linked_by plan h) i × IsArmedAnew plan hooks.windows.items new.waiting g None h i × AreDue plan focus i g h new.dues.pairs) (sym same)
            (linked_still plan focus hooks.events.items now.waiting new.waiting (handle_at now.slots p) None (linked_by plan h) i k.grown w.0, armed_still plan hooks.windows.items now.waiting new.waiting (handle_at now.slots p) None h i k.grown w.1, λ t due l m. k.due _ (w.2 t due l m)))
      ],
    )
  ]

  -- what is found now is as it was at first, where the handle was the same till then
  found_here : (was now : SlotsState) (new : Holding) (p : ℕ) → now.slots ≡ was.slots → handle_at now p ≡ handle_at was p → IsFoundAgain plan focus hooks now new since h p → IsFoundAgain plan focus hooks was new since h p
  found_here was now new p stands same found i is = elim (found i (stands_at was now p stands ∙ is)) [
    | inl d ↦ inl d
    | inr f ↦ inr (f.0, elim f.1 [ inl a ↦ inl (a.0 ∙ same, a.1, a.2) | inr w ↦ inr w ])
  ]

  pub settled_begin : (places : List ℕ) (old : Holding) → IsStrictlySortedBy nat_cmp places → IsSettledBut places places old old
  settled_begin places old ordered = record { keeps = keeps_all old; others = λ p n. refl; left = λ p i. (i, refl); found = λ p i. inl i; ordered = ordered }

  module _ (places left : List ℕ) (x : ℕ) (old now new : Holding) (b : IsSettledBut places (x ∷ left) old now) (s : SettlesPlace plan focus hooks x since h now new) where
    found_next : (p : ℕ) → (p ≡ x) ⊎ (p ≢ x) → IsIn p (x ∷ left) ⊎ IsFoundAgain plan focus hooks old.slots now since h p → IsIn p left ⊎ IsFoundAgain plan focus hooks old.slots new since h p
    found_next p (inl e) f = inr (subst (λ (q : ℕ). IsFoundAgain plan focus hooks old.slots new since h q) (sym e) (found_here old.slots now.slots new x (b.keeps).stands ((b.left x (inl refl)).1) s.found))
    found_next p (inr n) (inl (inl e)) = absurd (n e)
    found_next p (inr n) (inl (inr i)) = inl i
    found_next p (inr n) (inr f) = inr (found_still old.slots now new s.keeps p (s.others p n) f)

    settled_one : IsSettledBut places left old new
    settled_one = record {
      keeps = keeps_both old now new b.keeps s.keeps;
      others = λ p n. s.others p (λ e. n (subst (λ (q : ℕ). IsIn q places) (sym e) ((b.left x (inl refl)).0))) ∙ b.others p n;
      left = λ p i. let l = b.left p (inr i) in (l.0, s.others p (first_apart x left b.ordered p i) ∙ l.1);
      found = λ p i. found_next p (cases_eq p x) (b.found p i);
      ordered = sorted_tail nat_cmp x left b.ordered;
    }

  pub settled_next : (places rest left : List ℕ) (x : ℕ) (old now new : Holding) → rest ≡ x ∷ left → IsSettledBut places rest old now → SettlesPlace plan focus hooks x since h now new → IsSettledBut places left old new
  settled_next places rest left x old now new e b s = settled_one places left x old now new (subst (λ (t : List ℕ). IsSettledBut places t old now) e b) s

  pub settled_whole : (places rest : List ℕ) (old now : Holding) → rest ≡ [] → IsSettledBut places rest old now → SettlesPlaces plan focus hooks places since h old now
  settled_whole places rest old now e b = record {
    keeps = b.keeps;
    others = b.others;
    found = λ p i. elim (b.found p i) [ inl j ↦ (let never : IsIn p [] = subst (IsIn p) e j in absurd never) | inr f ↦ f ];
  }
