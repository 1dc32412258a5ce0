-- The stretch of a window, from the dates of its anchors.
use Rattle.std.proofs.Common.{◌≡◌, ℕ, zero, suc, ◌<◌, List, [], ◌∷◌, length, map, refl, sym, ap, subst, ◌∙◌, arith}
use Rattle.std.specs.Prelude.{ℤ, pos, ◌+ℤ◌, Option, Some, None, option_map, IfSome, IsSomeAnd, slice_get, slice_index_or}
use Rattle.crs_base.specs.declared.symbols.Sym.{Sym}
use Rattle.crs_base.specs.Entry.{Entry}
use Rattle.crs_model.specs.declared.plan.Plan.{Plan}
use Rattle.crs_model.specs.Models.{Window}
use Rattle.crs_model.specs.Bindings.{look_of}
use Rattle.crs_model.specs.Partial.{at}
use Rattle.crs_model.specs.Plans.{chronicle, IsProper}
use Rattle.crs_model.specs.ProperModels.{IsProperAnchor, IsProperWindow}
use Rattle.crs_model.specs.declared.chronicle.Window.{Window as CodeWindow}
use Rattle.crs_model.specs.SeenModels.{window_of}
use Rattle.crs_model.proofs.Opened.{in_place}
use Rattle.crs_base.proofs.Words.{in_from_each}
use Rattle.crs_model.specs.Verdicts.{IsStretch, BodyIsBound}
use Rattle.crs_model.proofs.Options.{some_if}
use Rattle.crs_instance.specs.Instances.{InstanceState}
use Rattle.crs_instance.specs.Followed.{IsStretchAt}

pub mapped_at : {A B : Type 0} (f : A → B) (xs : List A) (k : ℕ) (d : A) → k < length xs → slice_get (map f xs) k ≡ Some (f (slice_index_or xs k d))
mapped_at f [] k d l = absurd (omega arith)
mapped_at f (x ∷ xs) zero d l = refl
mapped_at f (x ∷ xs) (suc k) d l = mapped_at f xs k d (omega arith)

pub window_as : (ws all : List CodeWindow) (k : ℕ) (d : CodeWindow) → ws ≡ all → k < length all → d ≡ slice_index_or ws k d → slice_get (map window_of all) k ≡ Some (window_of d)
window_as ws all k d s l e = mapped_at window_of all k d l ∙ ap (λ (t : CodeWindow). Some (window_of t)) (ap (λ (t : List CodeWindow). slice_index_or t k d) (sym s) ∙ sym e)

-- the anchors of a plan's window are proper
pub anchors_of : (plan : Plan) → IsProper plan → (k : ℕ) (w : Window Sym) → slice_get (chronicle plan).windows k ≡ Some w → IsProperAnchor (length (chronicle plan).events) w.from × IsProperAnchor (length (chronicle plan).events) w.to
anchors_of plan proper k w is =
    let p = in_from_each (IsProperWindow (proper.declared).0 (chronicle plan)) (chronicle plan).windows (proper.declared).2.windows w (in_place (chronicle plan).windows k w is) in
    (p.from, p.to)

-- the date of an anchor
abbrev pub anchored : Option (Entry Sym) → ℤ → Option ℤ
anchored o offset = option_map (λ x. pos x.date +ℤ offset) o

no_date : (o : Option (Entry Sym)) (offset d : ℤ) → anchored o offset ≡ None → IsSomeAnd o (λ x. d ≡ pos x.date +ℤ offset) → ⊥
no_date None offset d e h = h
no_date (Some x) offset d e h = absurd cc

is_date : (o : Option (Entry Sym)) (offset d : ℤ) → anchored o offset ≡ Some d → IsSomeAnd o (λ x. d ≡ pos x.date +ℤ offset)
is_date None offset d e = absurd cc
is_date (Some x) offset d e = same e
  where
    same : {a b : ℤ} → Some a ≡ Some b → b ≡ a
    same e = cc

module _ (plan : Plan) (i : InstanceState) (k : ℕ) (w : Window Sym) (is : slice_get (chronicle plan).windows k ≡ Some w) where
  same : (v : Window Sym) → slice_get (chronicle plan).windows k ≡ Some v → w ≡ v
  same v e = of_two (sym is ∙ e)
    where
      of_two : {a b : Window Sym} → Some a ≡ Some b → a ≡ b
      of_two e = cc

  -- what holds of the window of this number
  pub at_window : (P : Window Sym → Type 0) → P w → IfSome (slice_get (chronicle plan).windows k) P
  at_window P h = some_if (slice_get (chronicle plan).windows k) P (λ v e. subst P (same v e) h)

  pub stretch_unstarted : anchored (at i.partial w.from.event) w.from.offset ≡ None → IsStretchAt plan i k None
  stretch_unstarted none = at_window (λ w. (from to : ℤ) → IsStretch i.partial w from to → BodyIsBound (look_of i.binding) w.body → ⊥) (λ from to s b. no_date (at i.partial w.from.event) w.from.offset from none s.starts)

  pub stretch_unended : anchored (at i.partial w.to.event) w.to.offset ≡ None → IsStretchAt plan i k None
  stretch_unended none = at_window (λ w. (from to : ℤ) → IsStretch i.partial w from to → BodyIsBound (look_of i.binding) w.body → ⊥) (λ from to s b. no_date (at i.partial w.to.event) w.to.offset to none s.ends)

  pub stretch_bound : (from to : ℤ) → BodyIsBound (look_of i.binding) w.body → anchored (at i.partial w.from.event) w.from.offset ≡ Some from → anchored (at i.partial w.to.event) w.to.offset ≡ Some to → IsStretchAt plan i k (Some (record { from = from; to = to }))
  stretch_bound from to b f t = at_window (λ w. IsStretch i.partial w from to × BodyIsBound (look_of i.binding) w.body)
      (record { starts = is_date (at i.partial w.from.event) w.from.offset from f; ends = is_date (at i.partial w.to.event) w.to.offset to t }, b)
