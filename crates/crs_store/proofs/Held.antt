-- What is held after what is due, and what an entry touches, was judged anew.
use Rattle.std.proofs.Common.{arith, Bool, ◌≡◌, ℕ, ◌≤◌, ◌^◌, List, length, refl, sym, subst, ◌∙◌, inl, inr}
use Rattle.std.specs.Prelude.{Option, Some, None, All}
use Rattle.crs_agenda.specs.Schedule.{Schedule}
use Rattle.crs_base.specs.declared.symbols.Sym.{Sym}
use Rattle.crs_base.specs.Entry.{Entry}
use Rattle.crs_base.specs.Words.{IsIn}
use Rattle.crs_history.specs.Histories.{HistoryState}
use Rattle.crs_index.specs.Indexes.{IndexState}
use Rattle.crs_instance.specs.Instances.{InstanceState, IsOf}
use Rattle.crs_model.specs.declared.plan.Plan.{Plan}
use Rattle.crs_model.specs.Plans.{chronicle, IsProper}
use Rattle.std.specs.Prelude.{slice_get}
use Rattle.std.proofs.Common.{◌+◌, ◌++◌, ◌∷◌, [], Vec, Global}
use Rattle.crs_model.specs.Bindings.{look_of}
use Rattle.crs_model.proofs.Options.{of_some, some_if}
use Rattle.crs_store.specs.declared.holding.Holding.{Holding}
use Rattle.crs_waiting.specs.declared.hooks.Hooks.{Hooks}
use Rattle.crs_waiting.specs.Dues.{AreCollected, IsUndue, IsUntouched, KeepsFreshPairs}
use Rattle.crs_waiting.specs.Hooks.{KeepsFresh, key_of}
use Rattle.crs_store.specs.Joins.{Renews}
use Rattle.crs_waiting.specs.Links.{hook_at}
use Rattle.crs_living.specs.Slots.{SlotsState, slot_at, handle_at, members, Becomes}
use Rattle.crs_store.specs.Tidy.{IsTidy, IsTidyHolding, SettlesPlaces}
use Rattle.crs_living.specs.PlaceWalks.{Walks}
use Rattle.crs_living.specs.Windows.{IsAble, IsFollowed, IsPassed, IsSameInstance, Gains}
use Rattle.crs_living.proofs.Progress.{still_of}
use Rattle.crs_store.proofs.Renewing.{renewed_tidy, apart_undue, fresh_place}
use Rattle.crs_store.proofs.Unmoved.{undue_follows, untouched_follows, undue_able}
use Rattle.crs_living.proofs.Walked.{walk_lists, in_or_not}

-- what stands in the places is still of the plan
pub walked_of : (plan : Plan) (R : InstanceState → InstanceState → Type 0) (Able : InstanceState → Type 0) → ((i j : InstanceState) → R i j → IsSameInstance i j) → (places : List ℕ) (old new : SlotsState) → Walks R Able places old new → ((p : ℕ) (i : InstanceState) → slot_at old p ≡ Some i → IsOf plan i) → (p : ℕ) (j : InstanceState) → slot_at new p ≡ Some j → IsOf plan j
walked_of plan R Able same places old new walks all p j is = elim (in_or_not p places) [
  | inl there ↦ by (slot_at old p) (slot_at new p) (walks.at p there) refl is
  | inr apart ↦ all p j (sym (walks.others p apart) ∙ is)
]
  where
    by : (o q : Option InstanceState) → Becomes R Able o q → slot_at old p ≡ o → q ≡ Some j → IsOf plan j
    by None None b e f = absurd cc
    by None (Some k) b e f = absurd b
    by (Some i) None b e f = absurd cc
    by (Some i) (Some k) b e f = let s : k ≡ j = cc in subst (IsOf plan) s (still_of plan i k (same i k b.0) (all p i e))

module _ (plan : Plan) (focus : Bool) (proper : IsProper plan) (hooks : Hooks) (d h : ℕ) (later : d ≤ h) (small : h ≤ 2 ^ 42) (old : Holding) (len : length old.slots.serials ≡ length old.slots.slots) (tidy : IsTidyHolding plan focus hooks old d) (dues : Schedule) (between : IndexState) (keeps : KeepsFresh old.slots.serials old.waiting between) (first places : List ℕ)
    (collected : AreCollected h old.dues.pairs dues.pairs first) (noted : (p : ℕ) → IsIn p first → IsIn p places) (all : All (λ t. h ≤ t.date) dues.pairs) (stood : dues.date ≤ h) (slots : SlotsState) (new : Holding) (settles : SettlesPlaces plan focus hooks places d h (record { slots = slots; waiting = between; dues = dues; ripe = old.ripe; room = old.room }) new) where
  collected_all : AreCollected h old.dues.pairs dues.pairs places
  collected_all t i = elim (collected t i) [ inl j ↦ inl j | inr j ↦ inr (j.0, noted t.handle.place j.1) ]

  pub undue_there : (p : ℕ) (i : InstanceState) → (IsIn p places → ⊥) → slot_at old.slots p ≡ Some i → IsUndue plan focus i d h
  undue_there p i apart is = apart_undue plan focus proper hooks.events.items hooks.windows.items d h later small old.slots slots len old.waiting between new.waiting keeps (settles.keeps).grown old.dues dues places collected_all all old.ripe.items new.ripe.items (settles.keeps).ripe tidy p i is apart

  module _ (R : InstanceState → InstanceState → Type 0) (same : (i j : InstanceState) → R i j → IsSameInstance i j × Gains i j) (walks : Walks R (IsAble plan focus h) places old.slots slots) where
    pub all_tidy : IsTidyHolding plan focus hooks new h
    all_tidy =
        renewed_tidy plan focus proper hooks.events.items hooks.windows.items d h later small old.slots slots len old.waiting between new.waiting keeps (settles.keeps).grown old.dues dues places collected_all all old.ripe.items new.ripe.items (settles.keeps).ripe tidy R same walks.at walks.others walks.handles
        new.slots (settles.keeps).stands settles.others new.dues (settles.keeps).due (λ p there j is. settles.found p there j is) (subst (λ (n : ℕ). n ≤ h) (sym (settles.keeps).stood) stood)

    pub all_renew : ((p : ℕ) (i : InstanceState) → (IsIn p places → ⊥) → slot_at old.slots p ≡ Some i → R i i) → Renews R (IsAble plan focus h) (members old.slots.slots) (members new.slots.slots)
    all_renew stays =
        subst (λ (s : List (Option InstanceState)). Renews R (IsAble plan focus h) (members old.slots.slots) (members s)) (sym (settles.keeps).stands)
        (walk_lists R (IsAble plan focus h) places old.slots slots walks (λ p i apart is. (
          stays p i apart is,
          undue_able plan focus i d h (apart_undue plan focus proper hooks.events.items hooks.windows.items d h later small old.slots slots len old.waiting between new.waiting keeps (settles.keeps).grown old.dues dues places collected_all all old.ripe.items new.ripe.items (settles.keeps).ripe tidy p i is apart) later proper (tidy.known p i is).of (tidy.known p i is).able,
        )))

-- where there is no place to walk
pub settles_none : (plan : Plan) (focus : Bool) (hooks : Hooks) (d h : ℕ) (held : Holding) → SettlesPlaces plan focus hooks [] d h held held
settles_none plan focus hooks d h held = record { keeps = record { stands = refl; grown = λ k g w. w; due = λ t i. i; stood = refl; ripe = λ p i. i }; others = λ p apart. refl; found = λ p there. absurd there }

pub walks_none : (R : InstanceState → InstanceState → Type 0) (Able : InstanceState → Type 0) (slots : SlotsState) → Walks R Able [] slots slots
walks_none R Able slots = record { at = λ p there. absurd there; others = λ p apart. refl; handles = λ p j is. refl; places = refl }

-- what is stale was dropped
pub swept_tidy : (plan : Plan) (focus : Bool) (hooks : Hooks) (d : ℕ) (old new : Holding) → new.slots ≡ old.slots → new.ripe ≡ old.ripe → length old.slots.serials ≡ length old.slots.slots → KeepsFresh old.slots.serials old.waiting new.waiting → KeepsFreshPairs old.slots.serials old.dues.pairs new.dues.pairs → new.dues.date ≡ old.dues.date → IsTidyHolding plan focus hooks old d → IsTidyHolding plan focus hooks new d
swept_tidy plan focus hooks d old new slots ripe len keeps pairs stood tidy =
    subst (λ (s : SlotsState). IsTidy plan focus hooks.events.items hooks.windows.items s new.waiting new.dues new.ripe.items d) (sym slots) (record {
      known = λ p i is.
          let k = tidy.known p i is in
          let fresh = fresh_place old.slots p i len is in
          record {
            of = k.of;
            able = k.able;
            linked = λ e w can. keeps (key_of e (hook_at hooks.events.items e) (look_of i.binding)) (handle_at old.slots p) fresh (k.linked e w can);
            armed = λ n. some_if (slice_get (chronicle plan).windows n) _ (λ w at_n from to stretch bound wants near far. keeps (key_of (16 + n) (hook_at hooks.windows.items n) (look_of i.binding)) (handle_at old.slots p) fresh (of_some (slice_get (chronicle plan).windows n) w _ at_n (k.armed n) from to stretch bound wants near far));
            due = λ t due l m. pairs (record { date = t; handle = handle_at old.slots p }) fresh (k.due t due l m);
            done = λ done. subst (λ (r : Vec ℕ Global). IsIn p r.items) (sym ripe) (k.done done);
          };
      stood = subst (λ (n : ℕ). n ≤ d) (sym stood) tidy.stood;
    })

-- nothing is due for the instance, and the entry doesn't touch it
pub stays_followed : (plan : Plan) (focus : Bool) (history : HistoryState) (x : Entry Sym) (d : ℕ) → d ≤ x.date → (i : InstanceState) → IsUndue plan focus i d x.date → IsUntouched plan i x → IsFollowed plan history x d i i
stays_followed plan focus history x d later i undue apart = record {
  same = record { same = refl; len = refl };
  gains = λ k. omega arith;
  follows = λ settled up read low f. undue_follows plan focus i d x.date undue later (settled ++ x ∷ []) (untouched_follows plan i x d later settled apart f);
}

pub stays_passed : (plan : Plan) (focus : Bool) (history : HistoryState) (d h : ℕ) → d ≤ h → (i : InstanceState) → IsUndue plan focus i d h → IsPassed plan history d h i i
stays_passed plan focus history d h later i undue = record {
  same = record { same = refl; len = refl };
  gains = λ k. omega arith;
  follows = λ settled up read low f. undue_follows plan focus i d h undue later settled f;
}
