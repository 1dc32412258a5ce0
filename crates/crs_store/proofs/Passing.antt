-- What a store stands for where it passes over an entry that its chronicle doesn't look for.
use Rattle.std.proofs.Common.{Bool, ◌≡◌, ℕ, ◌<◌, ◌≤◌, List, [], ◌∷◌, ◌++◌, length, map, refl, sym, subst, ◌∙◌, inl, inr, arith}
use Rattle.std.specs.Prelude.{ℤ, Some, slice_get, Result, OnOk}
use Rattle.std.proofs.lemmas.Result.{on_ok_weaker}
use Rattle.crs_base.specs.declared.symbols.Sym.{Sym}
use Rattle.crs_base.specs.Words.{IsIn, Ordered}
use Rattle.crs_base.specs.Entry.{Entry}
use Rattle.crs_base.proofs.Words.{each_from_in, in_from_each, in_map, in_map_back, in_append_left}
use Rattle.crs_history.specs.Histories.{HistoryState}
use Rattle.crs_model.specs.declared.plan.Plan.{Plan}
use Rattle.crs_model.specs.Models.{Body, NoEvent, Occurs, Hold, EventDef, Window}
use Rattle.crs_model.specs.Matching.{Binding, PatternIs}
use Rattle.crs_model.specs.Bindings.{look_of}
use Rattle.crs_model.specs.Images.{IsImage}
use Rattle.crs_model.specs.Partial.{Partial, put}
use Rattle.crs_model.specs.Plans.{chronicle}
use Rattle.crs_model.specs.Scans.{GrowsTo, GoesOnByLevel}
use Rattle.crs_model.specs.Steps.{IsFresh}
use Rattle.crs_model.specs.HasProgress.{Hits, Spares}
use Rattle.crs_model.proofs.Opened.{in_place}
use Rattle.crs_model.proofs.Options.{of_some, some_if}
use Rattle.crs_model.proofs.Parts.{at_within, put_same}
use Rattle.crs_instance.specs.Instances.{InstanceState, IsOf}
use Rattle.crs_instance.specs.Followed.{Follows}
use Rattle.crs_waiting.specs.Dues.{IsUntouched}
use Rattle.crs_waiting.specs.Hooks.{name_of, LooksFor}
use Rattle.crs_focus.specs.PlanLevels.{levels_in}
use Rattle.crs_store.specs.Stores.{StoreState, IsStore, StandsAhead, levels_of, IsOfferedAt, IsOfferedUntil}
use Rattle.crs_living.specs.Parts.{parts}
use Rattle.crs_living.specs.Windows.{IsOver, IsOpenAt}
use Rattle.crs_living.proofs.Hopeless.{item_at}
use Rattle.crs_store.proofs.Overtaken.{goes_but}
use Rattle.crs_living.proofs.Overs.{open_able}
use Rattle.crs_store.proofs.Ahead.{offered_ahead}
use Rattle.crs_store.proofs.Standing.{over_of, given_ahead, closed_ahead}
use Rattle.crs_store.proofs.Unmoved.{untouched_follows}

-- ---- an entry of another name

no_hit : (look : Binding Sym) (body : Body Sym) (from to : ℤ) (x : Entry Sym) → (name_of body ≡ x.name → ⊥) → Hits look body from to x → ⊥
no_hit look (NoEvent p) from to x other h = other (h.1).name
no_hit look (Occurs least most p) from to x other h = other (h.1).name
no_hit look (Hold name terms value) from to x other h = h

spared : (look : Binding Sym) (body : Body Sym) (from to : ℤ) (x : Entry Sym) → (name_of body ≡ x.name → ⊥) → Spares look body from to x
spared look (NoEvent p) from to x other = tt
spared look (Occurs least most p) from to x other = tt
spared look (Hold name terms value) from to x other = λ a v is change dated. absurd (other (sym (change.named ∙ is.name_is)))

module _ (plan : Plan) (x : Entry Sym) (other : LooksFor (chronicle plan) x.name → ⊥) where
  no_event : (e : ℕ) (v : EventDef Sym) → slice_get (chronicle plan).events e ≡ Some v → v.pattern.name ≡ x.name → ⊥
  no_event e v is n = other (inl (subst (λ (s : Sym). IsIn s (map (λ u. u.pattern.name) (chronicle plan).events)) n (in_map (λ u. u.pattern.name) (chronicle plan).events v (in_place (chronicle plan).events e v is))))

  no_window : (k : ℕ) (w : Window Sym) → slice_get (chronicle plan).windows k ≡ Some w → name_of w.body ≡ x.name → ⊥
  no_window k w is n = other (inr (subst (λ (s : Sym). IsIn s (map (λ u. name_of u.body) (chronicle plan).windows)) n (in_map (λ u. name_of u.body) (chronicle plan).windows w (in_place (chronicle plan).windows k w is))))

  untouched : (i : InstanceState) → IsUntouched plan i x
  untouched i k = some_if (slice_get (chronicle plan).windows k) _ (λ w is from to stretch bound.
      inr (no_hit (look_of i.binding) w.body from to x (no_window k w is), spared (look_of i.binding) w.body from to x (no_window k w is)))

  module _ (focus : Bool) (pool entries : List (Entry Sym)) (n : ℕ) where
    -- nothing that is open has the entry at an event
    no_fork : (l e : ℕ) (a b : Partial Sym) → e < length a → GrowsTo (levels_in plan focus) l (put a e x) b → IsOpenAt plan focus pool entries n b → ⊥
    no_fork l e a b within grows fine =
        let has = grows.part e x (put_same a e x within) in
        let inside : e < length (chronicle plan).events = let m = at_within b e x has in let c = fine.partial.len in omega arith in
        let v = item_at (chronicle plan).events e inside in
        let equal = of_some (slice_get (chronicle plan).events e) v.0 _ v.1 (fine.partial.binding.equal e) in
        let same = (of_some _ x (λ y. PatternIs fine.look (v.0).pattern y) has equal).name in no_event e v.0 v.1 same

    same_image : (held : List (Partial Sym)) → Ordered (λ a b. a ≡ b → ⊥) held → ((a : Partial Sym) → IsIn a held → IsOpenAt plan focus pool entries n a) → IsImage (GoesOnByLevel (levels_in plan focus) (IsOpenAt plan focus pool entries n) x) held held
    same_image held distinct fine = record {
      distinct = distinct;
      sound = λ y i. (y, i, inl (refl, fine y i));
      complete = λ a y i g. elim g [ inl s ↦ subst (λ (z : Partial Sym). IsIn z held) (sym s.0) i | inr f ↦ absurd (no_fork _ f.0 a y (f.1).within f.2 f.3) ];
    }

-- ---- the store

-- what is held stands for the entry too, judged at the same date
passed_over : (s : StoreState) → IsStore s → (x : Entry Sym) → (LooksFor (chronicle s.plan) x.name → ⊥) → (was settled later : List (Entry Sym)) (d g h : ℕ) → StandsAhead s was settled settled (x ∷ later) d g h → IsFresh settled x → d ≤ x.date
    → StandsAhead s was (settled ++ x ∷ []) (settled ++ x ∷ []) later d g h
passed_over s is x other was settled later d g h stands fresh dated =
    let plan = s.plan in
    let focus = s.focus in
    let now = settled ++ x ∷ [] in
    let one = stands.stands in
    let over = over_of plan focus settled settled d s.held (given_ahead (chronicle plan) (levels_of s) (parts s.held) was settled settled (x ∷ later) d g h one) (closed_ahead (chronicle plan) (levels_of s) (parts s.held) was settled settled (x ∷ later) d g h one) stands.follows in
    let follows : (i : InstanceState) → IsIn i s.held → Follows plan now d i = (λ i j. untouched_follows plan i x d dated settled (untouched plan x other i) (in_from_each (Follows plan settled d) s.held stands.follows i j)) in
    let fine : (a : Partial Sym) → IsIn a (parts s.held) → IsOpenAt plan focus now now d a = (λ a j.
    let r = in_map_back (λ (i : InstanceState). i.partial) s.held a j in
    let of = in_from_each (IsOf plan) s.held is.instances r.0 r.1 in
    let was_over = in_from_each (IsOver plan focus settled settled d) s.held over r.0 r.1 in
    let is_over : IsOver plan focus now now d r.0 = record { given = λ e y k. in_append_left settled (x ∷ []) y (was_over.given e y k); closed = was_over.closed; follows = follows r.0 r.1 } in
    subst (IsOpenAt plan focus now now d) (sym r.2) ((open_able plan focus now now d r.0 of is_over).1 ((open_able plan focus settled settled d r.0 of was_over).0 (subst (IsOpenAt plan focus settled settled d) r.2 (one.each a j).0)))) in
    record {
      stands = offered_ahead (chronicle plan) (levels_of s) settled settled was later d d g h (omega arith) x dated fresh (parts s.held) (parts s.held) one (λ a. ⊥) (λ a k w o. o) (goes_but (levels_of s) (IsOpenAt plan focus now now d) (λ a. ⊥) x (parts s.held) (parts s.held) (λ a o. o) (same_image plan x other focus now now d (parts s.held) one.distinct fine));
      follows = each_from_in (Follows plan now d) s.held follows;
      judged = stands.judged;
    }

-- so it was offered the entry
pub offered_other : (seen old : StoreState) (history : HistoryState) (x : Entry Sym) (until : ℕ) (ahead : List (Entry Sym)) (beyond : ℕ) (behind : Bool) → x.date ≤ until → seen ≡ old → IsStore seen → (LooksFor (chronicle seen.plan) x.name → ⊥) → IsOfferedUntil old history x until ahead beyond behind old
offered_other seen old history x until ahead beyond behind up view is other =
    subst (λ (o : StoreState). IsOfferedUntil o history x until ahead beyond behind o) view
    (λ was settled later d g h stands coming after kept far few fresh dated. (d, omega arith, omega arith, λ looked. absurd (other looked), passed_over seen is x other was settled later d g h stands fresh dated))

-- what was judged at `until` was offered the entry
pub offered_so : {E : Type 0} (r : Result Unit E) (old new : StoreState) (history : HistoryState) (x : Entry Sym) (until : ℕ) (ahead : List (Entry Sym)) (beyond : ℕ) (behind : Bool) → x.date ≤ until → OnOk r (IsOfferedAt old history x until ahead beyond behind new) → OnOk r (IsOfferedUntil old history x until ahead beyond behind new)
offered_so r old new history x until ahead beyond behind up = on_ok_weaker r (λ k was settled later d g h stands coming after kept far few fresh dated. (until, omega arith, omega arith, λ looked. refl, k was settled later d g h stands coming after kept far few fresh dated))
