use Rattle.std.proofs.Common.{◌≡◌, ℕ, Bool, List, sym, subst, true, false}
use Rattle.std.specs.List.{AllZip}
use Rattle.std.specs.Vec.{with_items}
use Rattle.crs_layers.specs.declared.layer.Layer.{Layer}
use Rattle.crs_layers.specs.Accepting.{IsSameLayer}
use Rattle.crs_layers.specs.LayerStates.{LayersState}
use Rattle.crs_layers.specs.Passing.{Passing, AreReadyFor, HavePassed, IsTimely}
use Rattle.crs_layers.specs.Standing.{AreLayers, KnowSymbols}
use Rattle.crs_layers.specs.Takes.{GoOnBy, TakeMark, item_of}
use Rattle.crs_layers.proofs.Logging.{written_back, layers_stopped}
use Rattle.crs_layers.proofs.MarkTaken.{alone, ready_alone, moved, layers_moved, goes_on, mark_taken}
use Rattle.crs_layers.proofs.layers.Layers.mark.Goals as goal

pub mark_all-requires : goal.mark_all-requires
mark_all-requires g c =
    let x : LayersState = record { plans = c.self.inside.plans; layers = c.self.inside.layers.items; focus = c.self.inside.focus; limit = c.self.inside.limit; last = c.self.inside.last; ended = c.self.inside.ended; stopped = c.self.inside.stopped } in
    let T = c.args.symbols.now.texts in
    let is : x ≡ c.args.self.now = c.self.view_is in
    let running : x.stopped ≡ false = subst (λ (s : LayersState). s.stopped ≡ false) (sym is) c.requires.running in
    let going : x.ended ≡ false = subst (λ (s : LayersState). s.ended ≡ false) (sym is) c.requires.not_ended in
    let timely : IsTimely c.args.mark x.last = subst (λ (s : LayersState). IsTimely c.args.mark s.last) (sym is) c.requires.timely in
    let known : KnowSymbols T x = subst (KnowSymbols T) (sym is) c.requires.known in
    record { ready = (alone T c.args.mark x c.self.invariant running going timely known, subst (AreReadyFor T c.args.mark (alone T c.args.mark x c.self.invariant running going timely known)) (sym c.deref_mut.ensures.value) (ready_alone T c.args.mark x c.self.invariant running going timely known)) }

pub invariant_of-self : goal.invariant_of-self
invariant_of-self g c =
    let x : LayersState = record { plans = c.self.inside.plans; layers = c.self.inside.layers.items; focus = c.self.inside.focus; limit = c.self.inside.limit; last = c.self.inside.last; ended = c.self.inside.ended; stopped = c.self.inside.stopped } in
    let T = c.args.symbols.now.texts in
    let is : x ≡ c.args.self.now = c.self.view_is in
    let running : x.stopped ≡ false = subst (λ (s : LayersState). s.stopped ≡ false) (sym is) c.requires.running in
    let going : x.ended ≡ false = subst (λ (s : LayersState). s.ended ≡ false) (sym is) c.requires.not_ended in
    let timely : IsTimely c.args.mark x.last = subst (λ (s : LayersState). IsTimely c.args.mark s.last) (sym is) c.requires.timely in
    let known : KnowSymbols T x = subst (KnowSymbols T) (sym is) c.requires.known in
    let ms : List Layer = c.mark_all.new.layers in
    let same : AllZip IsSameLayer x.layers ms = subst (λ (ls : List Layer). AllZip IsSameLayer ls ms) c.deref_mut.ensures.value c.mark_all.ensures.same in
    let p = c.in-Ok.ensures.passed in
    let passed : (w : Passing) → AreReadyFor T c.args.mark w x.layers → HavePassed T c.args.mark w ms p.0 c.in-Ok.marked.flood =
    subst (λ (ls : List Layer). (w : Passing) → AreReadyFor T c.args.mark w ls → HavePassed T c.args.mark w ms p.0 c.in-Ok.marked.flood) c.deref_mut.ensures.value p.2 in
    let back = written_back c.self.inside.layers ms same in
    let to : ℕ → Bool → List Layer → LayersState = λ t b ls. record x { layers = ls; last = t; ended = b } in
    let now : moved T c.args.mark x c.self.invariant running going timely known ms p.0 c.in-Ok.marked.flood same passed ≡ to c.clock_at-clock.result c.is_end-ended.result (with_items c.self.inside.layers ms).items =
    (λ i. to (sym c.clock_at-clock.ensures i) (sym c.is_end-ended.ensures i) (sym back i)) in
    subst AreLayers now (layers_moved T c.args.mark x c.self.invariant running going timely known ms p.0 c.in-Ok.marked.flood same passed)

pub invariant_of-self-in-Err : goal.invariant_of-self-in-Err
invariant_of-self-in-Err g c =
    let x : LayersState = record { plans = c.self.inside.plans; layers = c.self.inside.layers.items; focus = c.self.inside.focus; limit = c.self.inside.limit; last = c.self.inside.last; ended = c.self.inside.ended; stopped = c.self.inside.stopped } in
    let ms : List Layer = c.mark_all.new.layers in
    let same : AllZip IsSameLayer x.layers ms = subst (λ (ls : List Layer). AllZip IsSameLayer ls ms) c.deref_mut.ensures.value c.mark_all.ensures.same in
    subst (λ (ls : List Layer). AreLayers (record x { layers = ls; stopped = true })) (sym (written_back c.self.inside.layers ms same)) (layers_stopped x ms same c.self.invariant)

pub returns-in-Ok-clause-goes_on : goal.returns-in-Ok-clause-goes_on
returns-in-Ok-clause-goes_on g c =
    let x : LayersState = record { plans = c.self.inside.plans; layers = c.self.inside.layers.items; focus = c.self.inside.focus; limit = c.self.inside.limit; last = c.self.inside.last; ended = c.self.inside.ended; stopped = c.self.inside.stopped } in
    let T = c.args.symbols.now.texts in
    let is : x ≡ c.args.self.now = c.self.view_is in
    let running : x.stopped ≡ false = subst (λ (s : LayersState). s.stopped ≡ false) (sym is) c.requires.running in
    let going : x.ended ≡ false = subst (λ (s : LayersState). s.ended ≡ false) (sym is) c.requires.not_ended in
    let timely : IsTimely c.args.mark x.last = subst (λ (s : LayersState). IsTimely c.args.mark s.last) (sym is) c.requires.timely in
    let known : KnowSymbols T x = subst (KnowSymbols T) (sym is) c.requires.known in
    let ms : List Layer = c.mark_all.new.layers in
    let same : AllZip IsSameLayer x.layers ms = subst (λ (ls : List Layer). AllZip IsSameLayer ls ms) c.deref_mut.ensures.value c.mark_all.ensures.same in
    let p = c.in-Ok.ensures.passed in
    let passed : (w : Passing) → AreReadyFor T c.args.mark w x.layers → HavePassed T c.args.mark w ms p.0 c.in-Ok.marked.flood =
    subst (λ (ls : List Layer). (w : Passing) → AreReadyFor T c.args.mark w ls → HavePassed T c.args.mark w ms p.0 c.in-Ok.marked.flood) c.deref_mut.ensures.value p.2 in
    let back = written_back c.self.inside.layers ms same in
    let to : ℕ → Bool → List Layer → LayersState = λ t b ls. record x { layers = ls; last = t; ended = b } in
    let now : moved T c.args.mark x c.self.invariant running going timely known ms p.0 c.in-Ok.marked.flood same passed ≡ to c.clock_at-clock.result c.is_end-ended.result (with_items c.self.inside.layers ms).items =
    (λ i. to (sym c.clock_at-clock.ensures i) (sym c.is_end-ended.ensures i) (sym back i)) in
    subst (λ (s : LayersState). GoOnBy 0 c.args.self.now s) now
    (subst (λ (old : LayersState). GoOnBy 0 old (moved T c.args.mark x c.self.invariant running going timely known ms p.0 c.in-Ok.marked.flood same passed)) is (goes_on T c.args.mark x c.self.invariant running going timely known ms p.0 c.in-Ok.marked.flood same passed))

pub returns-in-Ok-clause-stands : goal.returns-in-Ok-clause-stands
returns-in-Ok-clause-stands g c =
    let x : LayersState = record { plans = c.self.inside.plans; layers = c.self.inside.layers.items; focus = c.self.inside.focus; limit = c.self.inside.limit; last = c.self.inside.last; ended = c.self.inside.ended; stopped = c.self.inside.stopped } in
    let T = c.args.symbols.now.texts in
    let is : x ≡ c.args.self.now = c.self.view_is in
    let running : x.stopped ≡ false = subst (λ (s : LayersState). s.stopped ≡ false) (sym is) c.requires.running in
    let going : x.ended ≡ false = subst (λ (s : LayersState). s.ended ≡ false) (sym is) c.requires.not_ended in
    let timely : IsTimely c.args.mark x.last = subst (λ (s : LayersState). IsTimely c.args.mark s.last) (sym is) c.requires.timely in
    let known : KnowSymbols T x = subst (KnowSymbols T) (sym is) c.requires.known in
    let ms : List Layer = c.mark_all.new.layers in
    let same : AllZip IsSameLayer x.layers ms = subst (λ (ls : List Layer). AllZip IsSameLayer ls ms) c.deref_mut.ensures.value c.mark_all.ensures.same in
    let p = c.in-Ok.ensures.passed in
    let passed : (w : Passing) → AreReadyFor T c.args.mark w x.layers → HavePassed T c.args.mark w ms p.0 c.in-Ok.marked.flood =
    subst (λ (ls : List Layer). (w : Passing) → AreReadyFor T c.args.mark w ls → HavePassed T c.args.mark w ms p.0 c.in-Ok.marked.flood) c.deref_mut.ensures.value p.2 in
    let back = written_back c.self.inside.layers ms same in
    let to : ℕ → Bool → List Layer → LayersState = λ t b ls. record x { layers = ls; last = t; ended = b } in
    let now : moved T c.args.mark x c.self.invariant running going timely known ms p.0 c.in-Ok.marked.flood same passed ≡ to c.clock_at-clock.result c.is_end-ended.result (with_items c.self.inside.layers ms).items =
    (λ i. to (sym c.clock_at-clock.ensures i) (sym c.is_end-ended.ensures i) (sym back i)) in
    subst (λ (s : LayersState). TakeMark T (item_of c.args.mark) c.args.mark c.args.self.now s c.in-Ok.marked.list c.in-Ok.marked.flood) now
    (subst (λ (old : LayersState). TakeMark T (item_of c.args.mark) c.args.mark old (moved T c.args.mark x c.self.invariant running going timely known ms p.0 c.in-Ok.marked.flood same passed) c.in-Ok.marked.list c.in-Ok.marked.flood) is (mark_taken T c.args.mark x c.self.invariant running going timely known ms p.0 c.in-Ok.marked.flood same passed c.in-Ok.marked.list p.1))
