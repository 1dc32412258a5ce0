use Rattle.std.proofs.Common.{rules, get_or, ◌≡◌, ◌<◌, ◌+◌, ◌-◌, ◌*◌, ◌^◌, ◌++◌, ◌∷◌, [], Bool, true, false, List, ℕ, length, refl, sym, ap, subst, ◌∙◌, inl, arith, length-append, append_assoc, append-nil}
use Rattle.std.specs.Prelude.{Option, Some, None, map}
use Rattle.std.proofs.lemmas.Result.{on_ok_weaker}
use Rattle.crs_base.specs.declared.symbols.Sym.{Sym}
use Rattle.crs_base.specs.Entry.{Entry}
use Rattle.crs_base.specs.Seen.{entry_of}
use Rattle.crs_base.specs.Words.{IsIn}
use Rattle.crs_base.proofs.Sifted.{sifted_in}
use Rattle.crs_base.proofs.Words.{in_append_right}
use Rattle.crs_focus.specs.Candidacy.{IsHeldFor}
use Rattle.crs_focus.proofs.KnownSymbols.{candidate_held}
use Rattle.crs_model.specs.Bindings.{look_of}
use Rattle.crs_model.specs.SeenModels.{term_of}
use Rattle.crs_watch.specs.Known.{AreTold}
use Rattle.crs_history.specs.Histories.{IsKept}
use Rattle.crs_instance.specs.Instances.{InstanceState, IsForked}
use Rattle.crs_focus.specs.PlanLevels.{levels_in, AreToDecide, AreAwaited, IsLevelAbove, IsNoLevelAbove}
use Rattle.crs_living.specs.Scannings.{Adds, IsKeptIfAble, IsDecided, IsDecidedAt, AreDecidedWith}
use Rattle.crs_instance.proofs.Forks.{made_of}
use Rattle.crs_living.proofs.Scanned.{adds_none, adds_as, adds_both, none_above, last_awaited, rest_to_decide, bound_to_decide, unbound_with, bound_with, none_with, more_with, enough_at, decided_both, never_decided, ended, gone_up, to_decide, fresh_next, told_as}
use Rattle.crs_living.proofs.deciding.+deciding.Goals as goal

no_both : (b : Bool) → b ≡ true → b ≡ false → ⊥
no_both b t f = absurd cc

-- where some event is to be decided on levels are read
reads : (b : Bool) (xs rest : List ℕ) (e : ℕ) → (b ≡ false → xs ≡ []) → xs ≡ rest ++ e ∷ [] → b ≡ true
reads true xs rest e f s = refl
reads false xs rest e f s = absurd (none rest (sym (f refl) ∙ s))
  where
    none : (rest : List ℕ) → [] ≡ rest ++ e ∷ [] → ⊥
    none [] q = cc
    none (r ∷ rest) q = cc

-- ---- decide

pub decide-can_be_left-requires-clause-event : goal.decide-can_be_left-requires-clause-event
decide-can_be_left-requires-clause-event g t c =
    let split : c.args.todo.items ≡ c.pop.new.self.items ++ c.in-Some.event ∷ [] = search rules in
    let todo = subst (AreToDecide (levels_in c.args.scan.now.plan.now c.args.scan.now.focus) c.args.next.partial c.args.level) split c.requires.todo in
    let w = last_awaited (levels_in c.args.scan.now.plan.now c.args.scan.now.focus) c.args.next.partial c.args.level c.pop.new.self.items c.in-Some.event todo in
    let a = w.within in
    let b = c.requires.next.len in
    let d = c.requires.next.window_count in
    let e = c.requires.scan.proper.points in omega arith

pub decide-decide-requires : goal.decide-decide-requires
decide-decide-requires g t c = λ κs le.
    let split : c.args.todo.items ≡ c.pop.new.self.items ++ c.in-Some.event ∷ [] = search rules in
    let todo = subst (AreToDecide (levels_in c.args.scan.now.plan.now c.args.scan.now.focus) c.args.next.partial c.args.level) split c.requires.todo in
    let fewer : 4 * ((256 - c.args.level) * 17 + length c.pop.new.self.items) + 1 < t = omega (arith, c.decreases, ap length split, length-append c.pop.new.self.items (c.in-Some.event ∷ [])) in
    (fewer, (le, (c.requires.scan, (c.requires.next, (rest_to_decide (levels_in c.args.scan.now.plan.now c.args.scan.now.focus) c.args.next.partial c.args.level c.pop.new.self.items c.in-Some.event todo, λ flat. absurd (no_both c.args.scan.now.focus (reads c.args.scan.now.focus c.args.todo.items c.pop.new.self.items c.in-Some.event c.requires.levels split) flat))))))

pub decide-returns-in_ok-decide-clause-decided : goal.decide-returns-in_ok-decide-clause-decided
decide-returns-in_ok-decide-clause-decided g t c =
    let split : c.args.todo.items ≡ c.pop.new.self.items ++ c.in-Some.event ∷ [] = search rules in
    let todo = subst (AreToDecide (levels_in c.args.scan.now.plan.now c.args.scan.now.focus) c.args.next.partial c.args.level) split c.requires.todo in
    subst (λ (ts : List ℕ). Adds c.args.scan.now.plan.now c.args.scan.now.focus c.args.scan.now.until (IsDecided c.args.scan.now.plan.now c.args.scan.now.focus c.args.scan.now.history.now (entry_of c.args.scan.now.entry.now) c.args.scan.now.since c.args.scan.now.until c.args.scan.now.parent.now c.args.next c.args.level ts) c.args.out.now.items c.decide.new.out.items) (sym split)
    (adds_both c.args.scan.now.plan.now c.args.scan.now.focus c.args.scan.now.until (IsDecidedAt c.args.scan.now.plan.now c.args.scan.now.focus c.args.scan.now.history.now (entry_of c.args.scan.now.entry.now) c.args.scan.now.since c.args.scan.now.until c.args.scan.now.parent.now c.args.next c.args.level c.pop.new.self.items c.in-Some.event) (IsDecided c.args.scan.now.plan.now c.args.scan.now.focus c.args.scan.now.history.now (entry_of c.args.scan.now.entry.now) c.args.scan.now.since c.args.scan.now.until c.args.scan.now.parent.now c.args.next c.args.level c.pop.new.self.items)
    (IsDecided c.args.scan.now.plan.now c.args.scan.now.focus c.args.scan.now.history.now (entry_of c.args.scan.now.entry.now) c.args.scan.now.since c.args.scan.now.until c.args.scan.now.parent.now c.args.next c.args.level (c.pop.new.self.items ++ c.in-Some.event ∷ [])) c.args.out.now.items c.decide_at.new.out.items c.decide.new.out.items
    (λ one two a b. decided_both c.args.scan.now.plan.now c.args.scan.now.focus c.requires.scan.proper c.args.scan.now.history.now (entry_of c.args.scan.now.entry.now) c.args.scan.now.since c.args.scan.now.until c.args.scan.now.parent.now c.args.next c.args.level c.pop.new.self.items c.in-Some.event c.requires.next todo one two a b)
    ((c.in_ok-decide_at.ensures {u = tt}).decided) ((c.in_ok-decide.ensures {u = tt}).decided))

pub decide-returns-else-can_be_left-clause-decided : goal.decide-returns-else-can_be_left-clause-decided
decide-returns-else-can_be_left-clause-decided g t c =
    let split : c.args.todo.items ≡ c.pop.new.self.items ++ c.in-Some.event ∷ [] = search rules in
    let todo = subst (AreToDecide (levels_in c.args.scan.now.plan.now c.args.scan.now.focus) c.args.next.partial c.args.level) split c.requires.todo in
    let never = never_decided c.args.scan.now.plan.now c.args.scan.now.focus c.requires.scan.proper c.args.scan.now.history.now (entry_of c.args.scan.now.entry.now) c.args.scan.now.since c.args.scan.now.until c.args.scan.now.parent.now c.args.next c.args.level c.pop.new.self.items c.in-Some.event c.requires.next todo (λ l. no_both c.can_be_left.result (c.can_be_left.ensures.1 l) c.if-can_be_left.false) in
    subst (λ (ts : List ℕ). Adds c.args.scan.now.plan.now c.args.scan.now.focus c.args.scan.now.until (IsDecided c.args.scan.now.plan.now c.args.scan.now.focus c.args.scan.now.history.now (entry_of c.args.scan.now.entry.now) c.args.scan.now.since c.args.scan.now.until c.args.scan.now.parent.now c.args.next c.args.level ts) c.args.out.now.items c.decide_at.new.out.items) (sym split)
    (adds_both c.args.scan.now.plan.now c.args.scan.now.focus c.args.scan.now.until (IsDecidedAt c.args.scan.now.plan.now c.args.scan.now.focus c.args.scan.now.history.now (entry_of c.args.scan.now.entry.now) c.args.scan.now.since c.args.scan.now.until c.args.scan.now.parent.now c.args.next c.args.level c.pop.new.self.items c.in-Some.event) (IsDecided c.args.scan.now.plan.now c.args.scan.now.focus c.args.scan.now.history.now (entry_of c.args.scan.now.entry.now) c.args.scan.now.since c.args.scan.now.until c.args.scan.now.parent.now c.args.next c.args.level c.pop.new.self.items)
    (IsDecided c.args.scan.now.plan.now c.args.scan.now.focus c.args.scan.now.history.now (entry_of c.args.scan.now.entry.now) c.args.scan.now.since c.args.scan.now.until c.args.scan.now.parent.now c.args.next c.args.level (c.pop.new.self.items ++ c.in-Some.event ∷ [])) c.args.out.now.items c.decide_at.new.out.items c.decide_at.new.out.items
    (λ one two a b. decided_both c.args.scan.now.plan.now c.args.scan.now.focus c.requires.scan.proper c.args.scan.now.history.now (entry_of c.args.scan.now.entry.now) c.args.scan.now.since c.args.scan.now.until c.args.scan.now.parent.now c.args.next c.args.level c.pop.new.self.items c.in-Some.event c.requires.next todo one two a b)
    ((c.in_ok-decide_at.ensures {u = tt}).decided) (adds_none c.args.scan.now.plan.now c.args.scan.now.focus c.args.scan.now.until _ c.decide_at.new.out.items never))

-- ---- decide_at

pub decide_at-bounds-as_slice-event : goal.decide_at-bounds-as_slice-event
decide_at-bounds-as_slice-event g t c =
    let w = last_awaited (levels_in c.args.scan.now.plan.now c.args.scan.now.focus) c.args.next.now.partial c.args.choice.now.level c.args.choice.now.rest.now.items c.args.choice.now.event c.requires.todo in
    let a = w.within in
    let b = c.requires.next.len in
    let d = ap length c.as_slice.ensures in omega arith

pub decide_at-date_window-window-requires : goal.decide_at-date_window-window-requires
decide_at-date_window-window-requires g t c =
    let w = last_awaited (levels_in c.args.scan.now.plan.now c.args.scan.now.focus) c.args.next.now.partial c.args.choice.now.level c.args.choice.now.rest.now.items c.args.choice.now.event c.requires.todo in
    let a = w.within in
    let b = c.requires.next.len in
    let d = c.requires.next.window_count in
    let e = c.requires.scan.proper.points in omega arith

pub decide_at-loop-candidate-init : goal.decide_at-loop-candidate-init
decide_at-loop-candidate-init g t c = record {
  done = [];
  split = refl;
  adds = adds_none c.args.scan.now.plan.now c.args.scan.now.focus c.args.scan.now.until (AreDecidedWith c.args.scan.now.plan.now c.args.scan.now.focus c.args.scan.now.history.now (entry_of c.args.scan.now.entry.now) c.args.scan.now.since c.args.scan.now.until c.args.scan.now.parent.now c.args.next.now c.args.choice.now.level c.args.choice.now.rest.now.items c.args.choice.now.event []) c.args.out.now.items
      (none_with c.args.scan.now.plan.now c.args.scan.now.focus c.requires.scan.proper c.args.scan.now.history.now (entry_of c.args.scan.now.entry.now) c.args.scan.now.since c.args.scan.now.until c.args.scan.now.parent.now c.args.next.now c.args.choice.now.level c.args.choice.now.rest.now.items c.args.choice.now.event c.requires.next c.requires.todo);
}

pub decide_at-decide_with-requires : goal.decide_at-decide_with-requires
decide_at-decide_with-requires g t c = λ κs le.
    let x = entry_of c.in-Some.candidate.now.value in
    let step : c.loop-candidate.candidate-iterator ≡ x ∷ c.next.new.self = c.in-Some.ensures.steps in
    let iter : c.into_iter-candidate-iterator.result ≡ c.candidates_with-candidate-items.result = search rules in
    let there : IsIn x c.candidates_with-candidate-items.result = subst (IsIn x) (sym (c.loop-candidate.invariant.split ∙ ap (λ (ys : List (Entry Sym)). c.loop-candidate.invariant.done ++ ys) step) ∙ iter) (in_append_right c.loop-candidate.invariant.done (x ∷ c.next.new.self) x (inl refl)) in
    let s = candidate_held _ _ _ _ (entry_of c.args.scan.now.entry.now) _ _ c.candidates_with-candidate-items.ensures.held x there in
    let early : x.date < 2 ^ 40 = (let a = (s.1).by in let b = c.requires.scan.date in omega arith) in
    let fewer : 4 * ((256 - c.args.choice.now.level) * 17 + length c.args.choice.now.rest.now.items) + 2 < t = omega (arith, c.decreases) in
    (fewer, (le, (c.requires.scan, (c.requires.next, (c.requires.todo, (c.requires.read, (early, s.0)))))))

pub decide_at-loop-candidate-preserved : goal.decide_at-loop-candidate-preserved
decide_at-loop-candidate-preserved g t c =
    let x = entry_of c.in-Some.candidate.now.value in
    let step : c.loop-candidate.candidate-iterator ≡ x ∷ c.next.new.self = c.in-Some.ensures.steps in
    let iter : c.into_iter-candidate-iterator.result ≡ c.candidates_with-candidate-items.result = search rules in
    let split : c.into_iter-candidate-iterator.result ≡ c.loop-candidate.invariant.done ++ x ∷ c.next.new.self = c.loop-candidate.invariant.split ∙ ap (λ (ys : List (Entry Sym)). c.loop-candidate.invariant.done ++ ys) step in
    record {
      done = c.loop-candidate.invariant.done ++ x ∷ [];
      split = split ∙ sym (append_assoc c.loop-candidate.invariant.done (x ∷ []) c.next.new.self);
      adds = adds_both c.args.scan.now.plan.now c.args.scan.now.focus c.args.scan.now.until (AreDecidedWith c.args.scan.now.plan.now c.args.scan.now.focus c.args.scan.now.history.now (entry_of c.args.scan.now.entry.now) c.args.scan.now.since c.args.scan.now.until c.args.scan.now.parent.now c.args.next.now c.args.choice.now.level c.args.choice.now.rest.now.items c.args.choice.now.event c.loop-candidate.invariant.done)
          (AreDecidedWith c.args.scan.now.plan.now c.args.scan.now.focus c.args.scan.now.history.now (entry_of c.args.scan.now.entry.now) c.args.scan.now.since c.args.scan.now.until c.args.scan.now.parent.now c.args.next.now c.args.choice.now.level c.args.choice.now.rest.now.items c.args.choice.now.event (x ∷ []))
          (AreDecidedWith c.args.scan.now.plan.now c.args.scan.now.focus c.args.scan.now.history.now (entry_of c.args.scan.now.entry.now) c.args.scan.now.since c.args.scan.now.until c.args.scan.now.parent.now c.args.next.now c.args.choice.now.level c.args.choice.now.rest.now.items c.args.choice.now.event (c.loop-candidate.invariant.done ++ x ∷ [])) c.args.out.now.items c.loop-candidate.out.items c.decide_with.new.out.items
          (λ one two a b. more_with c.args.scan.now.plan.now c.args.scan.now.focus c.requires.scan.proper c.args.scan.now.history.now (entry_of c.args.scan.now.entry.now) c.args.scan.now.since c.args.scan.now.until c.args.scan.now.parent.now c.args.next.now c.args.choice.now.level c.args.choice.now.rest.now.items c.args.choice.now.event c.requires.next c.requires.todo c.loop-candidate.invariant.done x one two
          (fresh_next c.loop-candidate.invariant.done x c.next.new.self c.candidates_with-candidate-items.result (sym iter ∙ split) c.candidates_with-candidate-items.ensures.in_order) a b)
          c.loop-candidate.invariant.adds ((c.in_ok-decide_with.ensures {u = tt}).decided);
    }

pub decide_at-returns : goal.decide_at-returns
decide_at-returns g t c =
    let iter : c.into_iter-candidate-iterator.result ≡ c.candidates_with-candidate-items.result = search rules in
    let all : c.candidates_with-candidate-items.result ≡ c.loop-candidate.invariant.done = sym iter ∙ c.loop-candidate.invariant.split ∙ ap (λ (ys : List (Entry Sym)). c.loop-candidate.invariant.done ++ ys) c.in-None.ensures.steps.0 ∙ append-nil c.loop-candidate.invariant.done in
    let w = last_awaited (levels_in c.args.scan.now.plan.now c.args.scan.now.focus) c.args.next.now.partial c.args.choice.now.level c.args.choice.now.rest.now.items c.args.choice.now.event c.requires.todo in
    let inside : c.args.choice.now.event < length c.args.scan.now.plan.now.chronicle.events = (let a = w.within in let b = c.requires.next.len in omega arith) in
    let def = get_or c.as_slice.result.now c.args.choice.now.event c.index-as_slice-event.result in
    let told : AreTold (look_of c.args.next.now.binding) (map term_of def.pattern.terms) c.known_of-known.result =
    subst (λ b. AreTold (look_of b) (map term_of def.pattern.terms) c.known_of-known.result) c.binding.ensures
    (subst (λ ts. AreTold (look_of c.binding.result.now) (map term_of ts) c.known_of-known.result) c.as_slice-2.ensures c.known_of-known.ensures) in
    record {
      decided = adds_as c.args.scan.now.plan.now c.args.scan.now.focus c.args.scan.now.until (AreDecidedWith c.args.scan.now.plan.now c.args.scan.now.focus c.args.scan.now.history.now (entry_of c.args.scan.now.entry.now) c.args.scan.now.since c.args.scan.now.until c.args.scan.now.parent.now c.args.next.now c.args.choice.now.level c.args.choice.now.rest.now.items c.args.choice.now.event c.loop-candidate.invariant.done)
          (IsDecidedAt c.args.scan.now.plan.now c.args.scan.now.focus c.args.scan.now.history.now (entry_of c.args.scan.now.entry.now) c.args.scan.now.since c.args.scan.now.until c.args.scan.now.parent.now c.args.next.now c.args.choice.now.level c.args.choice.now.rest.now.items c.args.choice.now.event) c.args.out.now.items c.loop-candidate.out.items
          (λ more are. record {
            ys = c.loop-candidate.invariant.done;
            enough = λ pool entries now way. enough_at c.args.scan.now.plan.now c.args.scan.now.focus c.requires.scan.proper c.args.scan.now.history.now (entry_of c.args.scan.now.entry.now) c.args.scan.now.since c.args.scan.now.until c.args.scan.now.parent.now c.args.next.now c.args.choice.now.level c.args.choice.now.rest.now.items c.args.choice.now.event c.requires.next c.requires.todo c.requires.read pool entries now way
                c.loop-candidate.invariant.done (get_or c.as_slice.result.now c.args.choice.now.event c.index-as_slice-event.result).pattern.name c.known_of-known.result (λ def there. told_as c.args.scan.now.plan.now c.args.choice.now.event c.as_slice.result.now c.as_slice.ensures inside c.index-as_slice-event.result (look_of c.args.next.now.binding) c.known_of-known.result def there told)
                (λ y i h has. subst (IsIn y) all (c.candidates_with-candidate-items.ensures.up_to_last (c.requires.scan.last c.requires.read) y i (subst (λ w. IsHeldFor c.args.scan.now.history.now.floor (get_or c.as_slice.result.now c.args.choice.now.event c.index-as_slice-event.result).pattern.name w y) (sym c.date_window-window.ensures) h) has));
            decided = are;
          }) c.loop-candidate.invariant.adds;
    }

-- ---- decide_higher

pub decide_higher-returns-in_default-clause-decided : goal.decide_higher-returns-in_default-clause-decided
decide_higher-returns-in_default-clause-decided g t c =
    let is : c.next_level.result ≡ None = search rules in
    let ends : IsNoLevelAbove (levels_in c.args.scan.now.plan.now c.args.scan.now.focus) c.args.next.partial c.args.level = search rules in
    on_ok_weaker c.keep_if_able.result
    (adds_as c.args.scan.now.plan.now c.args.scan.now.focus c.args.scan.now.until (IsKeptIfAble c.args.scan.now.plan.now c.args.scan.now.focus c.args.scan.now.history.now (entry_of c.args.scan.now.entry.now) c.args.scan.now.since c.args.scan.now.until c.args.scan.now.parent.now c.args.next) (IsDecided c.args.scan.now.plan.now c.args.scan.now.focus c.args.scan.now.history.now (entry_of c.args.scan.now.entry.now) c.args.scan.now.since c.args.scan.now.until c.args.scan.now.parent.now c.args.next c.args.level []) c.args.out.now.items c.keep_if_able.new.out.items
    (λ more kept. ended c.args.scan.now.plan.now c.args.scan.now.focus c.args.scan.now.history.now (entry_of c.args.scan.now.entry.now) c.args.scan.now.since c.args.scan.now.until c.args.scan.now.parent.now c.args.next c.args.level ends more kept))
    c.keep_if_able.ensures

pub decide_higher-returns-clause-decided : goal.decide_higher-returns-clause-decided
decide_higher-returns-clause-decided g t c =
    let above : IsLevelAbove (levels_in c.args.scan.now.plan.now c.args.scan.now.focus) c.args.next.partial c.args.level c.in-Some.higher = search rules in
    let are : AreAwaited (levels_in c.args.scan.now.plan.now c.args.scan.now.focus) c.args.next.partial (length c.args.scan.now.plan.now.chronicle.events) c.put_fewest_last.new.todo.items = (c.in_ok-put_fewest_last.ensures {u = tt}) (levels_in c.args.scan.now.plan.now c.args.scan.now.focus) c.args.next.partial (length c.args.scan.now.plan.now.chronicle.events) (c.in_ok-todo.ensures {u = tt}) in
    let long : length c.args.scan.now.plan.now.chronicle.events ≡ length c.args.next.partial = sym c.requires.next.len in
    on_ok_weaker c.decide.result
    (adds_as c.args.scan.now.plan.now c.args.scan.now.focus c.args.scan.now.until (IsDecided c.args.scan.now.plan.now c.args.scan.now.focus c.args.scan.now.history.now (entry_of c.args.scan.now.entry.now) c.args.scan.now.since c.args.scan.now.until c.args.scan.now.parent.now c.args.next c.in-Some.higher c.put_fewest_last.new.todo.items) (IsDecided c.args.scan.now.plan.now c.args.scan.now.focus c.args.scan.now.history.now (entry_of c.args.scan.now.entry.now) c.args.scan.now.since c.args.scan.now.until c.args.scan.now.parent.now c.args.next c.args.level []) c.args.out.now.items c.decide.new.out.items
    (λ more decided. gone_up c.args.scan.now.plan.now c.args.scan.now.focus c.args.scan.now.history.now (entry_of c.args.scan.now.entry.now) c.args.scan.now.since c.args.scan.now.until c.args.scan.now.parent.now c.args.next c.args.level c.in-Some.higher above (length c.args.scan.now.plan.now.chronicle.events) long c.put_fewest_last.new.todo.items are more decided))
    c.decide.ensures.decided

pub decide_higher-decide-requires : goal.decide_higher-decide-requires
decide_higher-decide-requires g t c = λ κs le.
    let above : IsLevelAbove (levels_in c.args.scan.now.plan.now c.args.scan.now.focus) c.args.next.partial c.args.level c.in-Some.higher = search rules in
    let are : AreAwaited (levels_in c.args.scan.now.plan.now c.args.scan.now.focus) c.args.next.partial (length c.args.scan.now.plan.now.chronicle.events) c.put_fewest_last.new.todo.items = (c.in_ok-put_fewest_last.ensures {u = tt}) (levels_in c.args.scan.now.plan.now c.args.scan.now.focus) c.args.next.partial (length c.args.scan.now.plan.now.chronicle.events) (c.in_ok-todo.ensures {u = tt}) in
    let todo = to_decide c.args.scan.now.plan.now c.args.scan.now.focus c.args.scan.now.history.now (entry_of c.args.scan.now.entry.now) c.args.scan.now.since c.args.scan.now.until c.args.scan.now.parent.now c.args.next c.args.level c.in-Some.higher above (length c.args.scan.now.plan.now.chronicle.events) c.requires.scan.proper.events_few c.put_fewest_last.new.todo.items are in
    let few = todo.few in
    let up = above.above in
    let small : c.in-Some.higher < 256 = search rules in
    let fewer : 4 * ((256 - c.in-Some.higher) * 17 + length c.put_fewest_last.new.todo.items) + 1 < t = omega (arith, c.decreases) in
    (fewer, (le, (c.requires.scan, (c.requires.next, (todo, λ flat. absurd (none_above c.args.scan.now.plan.now c.args.scan.now.focus c.args.next.partial c.args.level c.in-Some.higher above flat))))))

pub decide_higher-put_fewest_last-requires-clause-todo : goal.decide_higher-put_fewest_last-requires-clause-todo
decide_higher-put_fewest_last-requires-clause-todo g t c = (c.in_ok-todo.ensures {u = tt}).below

-- ---- decide_with

pub decide_with-fork-requires-clause-event : goal.decide_with-fork-requires-clause-event
decide_with-fork-requires-clause-event g t c =
    let w = last_awaited (levels_in c.args.scan.now.plan.now c.args.scan.now.focus) c.args.next.now.partial c.args.choice.now.level c.args.choice.now.rest.now.items c.args.choice.now.event c.requires.todo in
    let a = w.within in
    let b = c.requires.next.len in omega arith

pub decide_with-fork-requires-clause-unbound : goal.decide_with-fork-requires-clause-unbound
decide_with-fork-requires-clause-unbound g t c = (last_awaited (levels_in c.args.scan.now.plan.now c.args.scan.now.focus) c.args.next.now.partial c.args.choice.now.level c.args.choice.now.rest.now.items c.args.choice.now.event c.requires.todo).unbound

pub decide_with-returns-in_default : goal.decide_with-returns-in_default
decide_with-returns-in_default g t c =
    let is : c.fork.result ≡ None = search rules in
    let none : IsForked c.args.scan.now.plan.now c.args.next.now c.args.choice.now.event (entry_of c.args.candidate.now.value) None = subst (λ (o : Option InstanceState). IsForked c.args.scan.now.plan.now c.args.next.now c.args.choice.now.event (entry_of c.args.candidate.now.value) o) is (c.fork.ensures.fork) in
    record {
      decided = adds_none c.args.scan.now.plan.now c.args.scan.now.focus c.args.scan.now.until (AreDecidedWith c.args.scan.now.plan.now c.args.scan.now.focus c.args.scan.now.history.now (entry_of c.args.scan.now.entry.now) c.args.scan.now.since c.args.scan.now.until c.args.scan.now.parent.now c.args.next.now c.args.choice.now.level c.args.choice.now.rest.now.items c.args.choice.now.event (entry_of c.args.candidate.now.value ∷ [])) c.args.out.now.items
          (unbound_with c.args.scan.now.plan.now c.args.scan.now.focus c.requires.scan.proper c.args.scan.now.history.now (entry_of c.args.scan.now.entry.now) c.args.scan.now.since c.args.scan.now.until c.args.scan.now.parent.now c.args.next.now c.args.choice.now.level c.args.choice.now.rest.now.items c.args.choice.now.event c.requires.next c.requires.todo (entry_of c.args.candidate.now.value) none);
    }

pub decide_with-decide-requires : goal.decide_with-decide-requires
decide_with-decide-requires g t c = λ κs le.
    let is : c.fork.result ≡ Some c.in-Some.fork = search rules in
    let some : IsForked c.args.scan.now.plan.now c.args.next.now c.args.choice.now.event (entry_of c.args.candidate.now.value) (Some c.in-Some.fork) = subst (λ (o : Option InstanceState). IsForked c.args.scan.now.plan.now c.args.next.now c.args.choice.now.event (entry_of c.args.candidate.now.value) o) is (c.fork.ensures.fork) in
    let progress : c.in_ok-bound.bound ≡ record c.in-Some.fork { progress = c.all_progress.result.now } = c.in_ok-bound.ensures {u = tt} in
    let made : IsForked c.args.scan.now.plan.now c.args.next.now c.args.choice.now.event (entry_of c.args.candidate.now.value) (Some c.in_ok-bound.bound) = made_of c.args.scan.now.plan.now c.args.next.now c.args.choice.now.event (entry_of c.args.candidate.now.value) c.in-Some.fork c.in_ok-bound.bound c.all_progress.result.now progress c.all_progress.ensures some in
    let items : c.in_ok-todo.todo.items ≡ c.args.choice.now.rest.now.items = search rules in
    let todo : AreToDecide (levels_in c.args.scan.now.plan.now c.args.scan.now.focus) c.in_ok-bound.bound.partial c.args.choice.now.level c.in_ok-todo.todo.items = subst (AreToDecide (levels_in c.args.scan.now.plan.now c.args.scan.now.focus) c.in_ok-bound.bound.partial c.args.choice.now.level) (sym items) (bound_to_decide (levels_in c.args.scan.now.plan.now c.args.scan.now.focus) c.args.next.now.partial c.args.choice.now.level c.args.choice.now.rest.now.items c.args.choice.now.event c.requires.todo c.in_ok-bound.bound.partial (entry_of c.args.candidate.now.value) made.1) in
    let fewer : 4 * ((256 - c.args.choice.now.level) * 17 + length c.in_ok-todo.todo.items) + 1 < t = omega (arith, c.decreases, ap length items) in
    (fewer, (le, (c.requires.scan, (made.0, (todo, λ flat. absurd (no_both c.args.scan.now.focus c.requires.read flat))))))

pub decide_with-returns : goal.decide_with-returns
decide_with-returns g t c =
    let is : c.fork.result ≡ Some c.in-Some.fork = search rules in
    let some : IsForked c.args.scan.now.plan.now c.args.next.now c.args.choice.now.event (entry_of c.args.candidate.now.value) (Some c.in-Some.fork) = subst (λ (o : Option InstanceState). IsForked c.args.scan.now.plan.now c.args.next.now c.args.choice.now.event (entry_of c.args.candidate.now.value) o) is (c.fork.ensures.fork) in
    let progress : c.in_ok-bound.bound ≡ record c.in-Some.fork { progress = c.all_progress.result.now } = c.in_ok-bound.ensures {u = tt} in
    let made : IsForked c.args.scan.now.plan.now c.args.next.now c.args.choice.now.event (entry_of c.args.candidate.now.value) (Some c.in_ok-bound.bound) = made_of c.args.scan.now.plan.now c.args.next.now c.args.choice.now.event (entry_of c.args.candidate.now.value) c.in-Some.fork c.in_ok-bound.bound c.all_progress.result.now progress c.all_progress.ensures some in
    let items : c.in_ok-todo.todo.items ≡ c.args.choice.now.rest.now.items = search rules in
    record {
      decided = on_ok_weaker c.decide.result
          (adds_as c.args.scan.now.plan.now c.args.scan.now.focus c.args.scan.now.until (IsDecided c.args.scan.now.plan.now c.args.scan.now.focus c.args.scan.now.history.now (entry_of c.args.scan.now.entry.now) c.args.scan.now.since c.args.scan.now.until c.args.scan.now.parent.now c.in_ok-bound.bound c.args.choice.now.level c.in_ok-todo.todo.items) (AreDecidedWith c.args.scan.now.plan.now c.args.scan.now.focus c.args.scan.now.history.now (entry_of c.args.scan.now.entry.now) c.args.scan.now.since c.args.scan.now.until c.args.scan.now.parent.now c.args.next.now c.args.choice.now.level c.args.choice.now.rest.now.items c.args.choice.now.event (entry_of c.args.candidate.now.value ∷ [])) c.args.out.now.items c.decide.new.out.items
          (λ more decided. bound_with c.args.scan.now.plan.now c.args.scan.now.focus c.requires.scan.proper c.args.scan.now.history.now (entry_of c.args.scan.now.entry.now) c.args.scan.now.since c.args.scan.now.until c.args.scan.now.parent.now c.args.next.now c.args.choice.now.level c.args.choice.now.rest.now.items c.args.choice.now.event c.requires.next c.requires.todo (entry_of c.args.candidate.now.value) c.in_ok-bound.bound more
          (λ pool entries now. now.inside (entry_of c.args.candidate.now.value) ((sifted_in (IsKept entries c.args.scan.now.history.now.floor) entries c.args.scan.now.history.now.entries (entry_of c.args.candidate.now.value) now.read.kept c.requires.held).0)) made.1
          (subst (λ (ts : List ℕ). IsDecided c.args.scan.now.plan.now c.args.scan.now.focus c.args.scan.now.history.now (entry_of c.args.scan.now.entry.now) c.args.scan.now.since c.args.scan.now.until c.args.scan.now.parent.now c.in_ok-bound.bound c.args.choice.now.level ts more) items decided)))
          c.decide.ensures.decided;
    }
