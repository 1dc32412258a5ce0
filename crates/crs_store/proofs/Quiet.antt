-- A mark at which nothing is due, nothing is done and nothing was kept: all stays as it is.
use Rattle.std.proofs.Common.{arith, Bool, ◌≡◌, ℕ, ◌≤◌, ◌^◌, List, [], length, refl, sym, ap, subst, ◌∙◌, inl, append-nil}
use Rattle.std.specs.Prelude.{All}
use Rattle.std.proofs.lemmas.List.Sorted.{IsPermutation-refl}
use Rattle.crs_history.specs.Histories.{HistoryState}
use Rattle.crs_instance.specs.Instances.{InstanceState}
use Rattle.crs_model.specs.declared.plan.Plan.{Plan}
use Rattle.crs_model.specs.declared.recognition.Mark.{Mark}
use Rattle.crs_model.specs.declared.recognition.Recognition.{Recognition}
use Rattle.crs_model.specs.Plans.{IsProper}
use Rattle.crs_store.specs.declared.holding.Holding.{Holding}
use Rattle.crs_waiting.specs.declared.hooks.Hooks.{Hooks}
use Rattle.crs_store.specs.Answers.{MovesOn}
use Rattle.crs_store.specs.Found.{held_in}
use Rattle.crs_store.specs.Joins.{Renews}
use Rattle.crs_living.specs.Slots.{members}
use Rattle.crs_store.specs.Tidy.{IsTidyHolding}
use Rattle.crs_living.specs.Windows.{Gains, IsAble, IsPassed, IsSameInstance}
use Rattle.crs_store.proofs.Held.{all_renew, all_tidy, settles_none, stays_passed, undue_there, walks_none}
use Rattle.crs_store.proofs.Ripened.{AreAmongRipe, all_found, all_left, left_sifts, taken_none}

module _ (plan : Plan) (focus : Bool) (proper : IsProper plan) (hooks : Hooks) (d h : ℕ) (later : d ≤ h) (small : h ≤ 2 ^ 42) (held : Holding) (len : length held.slots.serials ≡ length held.slots.slots) (tidy : IsTidyHolding plan focus hooks held d) (undue : All (λ t. h ≤ t.date) held.dues.pairs) where
  stands : held.dues.date ≤ h
  stands = let s = tidy.stood in omega arith

  pub quiet_tidy : IsTidyHolding plan focus hooks held h
  quiet_tidy =
      all_tidy plan focus proper hooks d h later small held len tidy held.dues held.waiting (λ k g f w. w) [] [] (λ t i. inl i) (λ p i. i) undue stands held.slots held (settles_none plan focus hooks d h held)
      (λ i j. IsSameInstance i j × Gains i j) (λ i j r. r) (walks_none (λ i j. IsSameInstance i j × Gains i j) (IsAble plan focus h) held.slots)

  module _ (history : HistoryState) where
    quiet_renews : Renews (IsPassed plan history d h) (IsAble plan focus h) (members held.slots.slots) (members held.slots.slots)
    quiet_renews =
        all_renew plan focus proper hooks d h later small held len tidy held.dues held.waiting (λ k g f w. w) [] [] (λ t i. inl i) (λ p i. i) undue stands held.slots held (settles_none plan focus hooks d h held)
        (IsPassed plan history d h) (λ i j r. (r.same, r.gains)) (walks_none (IsPassed plan history d h) (IsAble plan focus h) held.slots)
        (λ p i apart is. stays_passed plan focus history d h later i (undue_there plan focus proper hooks d h later small held len tidy held.dues held.waiting (λ k g f w. w) [] [] (λ t i. inl i) (λ p i. i) undue stands held.slots held (settles_none plan focus hooks d h held) p i apart is))

    module _ (number : ℕ) (mark : Mark) (none : held.ripe.items ≡ []) where
      named : AreAmongRipe plan h held.slots held.ripe.items
      named p i is done = (quiet_tidy.known p i is).done done

      quiet_moves_all : MovesOn plan focus history d h number mark (members held.slots.slots) (members held.slots.slots) []
      quiet_moves_all = record {
        able = members held.slots.slots;
        passed = quiet_renews;
        found = record {
          found = [];
          are = all_found plan h number mark held.slots held.slots [] held.ripe.items (taken_none plan h number mark held.slots) named none;
          moved = IsPermutation-refl [];
          sorted = λ k x low high. absurd (omega arith);
        };
        left = left_sifts plan h held.slots.slots held.slots.slots refl ((all_left plan h number mark held.slots held.slots [] held.ripe.items (taken_none plan h number mark held.slots) named none).each);
      }

      -- nothing is answered
      pub quiet_moves : (found : List Recognition) → found ≡ [] → MovesOn plan focus history d h number mark (held_in plan held.slots found) (held_in plan held.slots found) []
      quiet_moves found e = subst (λ (is : List InstanceState). MovesOn plan focus history d h number mark is is []) (sym (ap (held_in plan held.slots) e ∙ append-nil (members held.slots.slots))) quiet_moves_all
