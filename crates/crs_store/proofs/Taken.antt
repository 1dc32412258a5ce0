-- What comes of the instances where an entry is offered, and those that can't go on are dropped.
use Rattle.std.proofs.Common.{Bool, ◌≡◌, ℕ, ◌≤◌, List, [], ◌∷◌, ◌++◌, length, refl, sym, ap, subst, ◌∙◌, inl, inr, arith, append-nil, length-set}
use Rattle.std.specs.Prelude.{Some, None}
use Rattle.std.specs.List.{AllByRecursion}
use Rattle.std.proofs.lemmas.List.{map-append}
use Rattle.crs_base.specs.declared.symbols.Sym.{Sym}
use Rattle.crs_base.specs.Sifted.{Sifts}
use Rattle.crs_base.specs.Words.{IsIn, Ordered}
use Rattle.crs_base.specs.Entry.{Entry}
use Rattle.crs_base.proofs.Alls.{all_both}
use Rattle.crs_base.proofs.Sifted.{sifted_in, in_sifted}
use Rattle.crs_base.proofs.Words.{in_append, in_append_left, in_append_right, in_from_each, each_from_in, in_map, in_map_back}
use Rattle.crs_history.specs.Histories.{HistoryState}
use Rattle.crs_history.proofs.FarBack.{far_later}
use Rattle.crs_model.specs.declared.plan.Plan.{Plan}
use Rattle.crs_model.specs.Images.{IsImage}
use Rattle.crs_model.specs.Partial.{Partial, at, IsAwaited, IsLevelClosed}
use Rattle.crs_model.specs.Plans.{chronicle, IsProper}
use Rattle.crs_model.specs.Scans.{GoesOnByLevel, IsForkByLevel}
use Rattle.crs_model.specs.Steps.{GoesOn}
use Rattle.crs_model.specs.Open.{IsOpen}
use Rattle.crs_model.proofs.Least.{Extends}
use Rattle.crs_model.proofs.Parts.{open_back, put_same, put_other}
use Rattle.crs_model.proofs.ScanImages.{both_by_level}
use Rattle.std.proofs.lemmas.Bool.{cases_eq}
use Rattle.crs_instance.specs.Instances.{InstanceState, IsOf}
use Rattle.crs_store.specs.Forkings.{AreForksOfAll}
use Rattle.crs_store.specs.Joins.{AreApart, Joins, Renews}
use Rattle.crs_focus.specs.PlanLevels.{levels_in}
use Rattle.crs_living.specs.Parts.{parts, AllOf}
use Rattle.crs_living.specs.Windows.{IsAble, IsOver, IsOpenAt, IsOpenBut, IsFollowed, IsPassed}
use Rattle.crs_store.specs.Sweeps.{IsReady, IsFree, TakesIn}
use Rattle.crs_living.specs.Now.{IsNow}
use Rattle.crs_store.proofs.Gathered.{widen}
use Rattle.crs_living.proofs.Leaving.{leaves_image, leaves_each}
use Rattle.crs_store.proofs.Overtaken.{stays_but}
use Rattle.crs_living.proofs.Overs.{open_able, floor_early}
use Rattle.crs_store.proofs.Standing.{zip_all, parts_same, zip_of}

module _ (plan : Plan) (focus : Bool) (Out : Partial Sym → Type 0) (x : Entry Sym) (until : ℕ) (later : x.date ≤ until) (entries : List (Entry Sym)) where
  -- what is open at the date is so at that of x
  open_now : (a : Partial Sym) → ((e : ℕ) (y : Entry Sym) → at a e ≡ Some y → IsIn y entries) → IsOpenAt plan focus entries entries until a → IsOpenAt plan focus entries entries x.date a
  open_now a given k =
      open_back (chronicle plan) (levels_in plan focus) x.date until later a a (λ e y i. i) refl (λ g y w is. absurd (never (at a g) y w.unbound is)) entries entries entries [] (λ y i. absurd i) given k.closed
      (subst (λ (es : List (Entry Sym)). IsOpen (chronicle plan) (levels_in plan focus) entries es until a) (sym (append-nil entries)) k)
    where
      never : (o : _) (y : Entry Sym) → o ≡ None → o ≡ Some y → ⊥
      never o y n s = cc

  -- what a fork comes of is so too
  parent_open : (a b : Partial Sym) → ((e : ℕ) (y : Entry Sym) → at a e ≡ Some y → IsIn y entries) → IsLevelClosed (levels_in plan focus) a → IsForkByLevel (levels_in plan focus) (IsOpenBut plan focus Out entries entries until) x a b → IsOpenAt plan focus entries entries x.date a
  parent_open a b given closed f =
      open_back (chronicle plan) (levels_in plan focus) x.date until later a b part same gone entries entries entries [] (λ y i. absurd i) given closed
      (subst (λ (es : List (Entry Sym)). IsOpen (chronicle plan) (levels_in plan focus) entries es until b) (sym (append-nil entries)) ((f.1).2).0)
    where
      e : ℕ
      e = f.0

      awaited : IsAwaited (levels_in plan focus) a f.0
      awaited = (f.1).0

      not_both : (o : _) (y : Entry Sym) → o ≡ Some y → o ≡ None → ⊥
      not_both o y s n = cc

      part : Extends a b
      part g y i = ((f.1).1).part g y (elim (cases_eq g f.0) [
        | inl s ↦ absurd (not_both (at a f.0) y (subst (λ (n : ℕ). at a n ≡ Some y) s i) awaited.unbound)
        | inr n ↦ put_other a f.0 g x n ∙ i
      ])

      same : length a ≡ length b
      same = sym (length-set a f.0 (Some x)) ∙ ((f.1).1).len

      one : {y z : Entry Sym} → Some y ≡ Some z → y ≡ z
      one s = cc

      gone : (g : ℕ) (y : Entry Sym) → IsAwaited (levels_in plan focus) a g → at b g ≡ Some y → x.date ≤ y.date
      gone g y w is = elim (cases_eq g f.0) [
        | inl s ↦
            let there : at b g ≡ Some x = subst (λ (n : ℕ). at b n ≡ Some x) (sym s) (((f.1).1).part f.0 x (put_same a f.0 x awaited.within)) in
            subst (λ (t : Entry Sym). x.date ≤ t.date) (one (sym there ∙ is)) (omega arith)
        | inr n ↦
            let higher = ((f.1).1).beyond g y (put_other a f.0 g x n ∙ w.unbound) is in
            let low = w.least f.0 awaited.within awaited.unbound in absurd (omega arith)
      ]

-- those of a sifted list are enough, where what something comes of is able
narrowed : (From : Partial Sym → Partial Sym → Type 0) (Able : InstanceState → Type 0) (mid kept : List InstanceState) (out : List (Partial Sym)) → Sifts Able mid kept → ((i : InstanceState) → IsIn i mid → (b : Partial Sym) → From i.partial b → Able i) → IsImage From (parts kept) out → IsImage From (parts mid) out
narrowed From Able mid kept out left able im = widen From (parts kept) (parts mid) out
    (λ a j. let k = in_map_back (λ (t : InstanceState). t.partial) kept a j in subst (λ (t : Partial Sym). IsIn t (parts mid)) (sym k.2) (in_map (λ (t : InstanceState). t.partial) mid k.0 ((sifted_in Able mid kept k.0 left k.1).0)))
    (λ a b j f. let m = in_map_back (λ (t : InstanceState). t.partial) mid a j in subst (λ (t : Partial Sym). IsIn t (parts kept)) (sym m.2) (in_map (λ (t : InstanceState). t.partial) kept m.0 (in_sifted Able mid kept m.0 left m.1 (able m.0 m.1 b (subst (λ (t : Partial Sym). From t b) m.2 f)))))
    im

module _ (plan : Plan) (focus : Bool) (Out : Partial Sym → Type 0) (proper : IsProper plan) (history : HistoryState) (x : Entry Sym) (until since : ℕ) (held kept more stay new : List InstanceState) (all : AllOf plan held) (renews : Renews (IsFollowed plan history x since) (IsAble plan focus x.date) held kept) (never : (a : Partial Sym) → IsFree x a → Out a → ⊥) (forks : AreForksOfAll plan focus Out history x x.date until kept more)
    (passes : Renews (IsPassed plan history x.date until) (IsAble plan focus until) kept stay) (joins : Joins stay more new) where
  pub taken_anew : TakesIn plan focus Out history x until since held new
  taken_anew settled up later read low over ready =
      let entries : List (Entry Sym) = settled ++ x ∷ [] in
      let level = levels_in plan focus in
      let Open = IsOpenAt plan focus entries entries until in
      let Fine = IsOpenBut plan focus Out entries entries until in
      let mid : List InstanceState = renews.0 in
      let followed = renews.1 in
      let left = renews.2 in
      let far = far_later plan.reach since x.date history.floor up read.far in
      let now : IsNow plan focus history x x.date entries entries = record { read = record { kept = read.kept; few = read.few; far = far }; there = in_append_right settled (x ∷ []) x (inl refl); early = omega arith; inside = λ e i. i; whole = λ _. refl } in
      let same : parts mid ≡ parts held = parts_same (IsFollowed plan history x since) (λ a b r. r.same) held mid followed in
      let over_mid : AllByRecursion (IsOver plan focus entries entries x.date) mid = zip_all (IsFollowed plan history x since) (IsOver plan focus settled settled since) (IsOver plan focus entries entries x.date) (λ a b r o. record {
        given = λ e y k. in_append_left settled (x ∷ []) y (o.given e y (sym (ap (λ (t : InstanceState). at t.partial e) r.same.same) ∙ k));
        closed = subst (λ (t : InstanceState). IsLevelClosed (levels_in plan focus) t.partial) (sym r.same.same) o.closed;
        follows = r.follows settled up read low o.follows;
      }) held mid followed over in
      let of_mid : AllOf plan mid = zip_of plan (IsFollowed plan history x since) (λ a b r. r.same) held mid followed all in
      let ready_mid : IsReady x (parts mid) = subst (IsReady x) (sym same) ready in
      let of_kept : AllOf plan kept = leaves_each (IsAble plan focus x.date) (IsOf plan) mid kept of_mid left in
      let over_kept : AllByRecursion (IsOver plan focus entries entries x.date) kept = leaves_each (IsAble plan focus x.date) (IsOver plan focus entries entries x.date) mid kept over_mid left in
      let ready_kept : IsReady x (parts kept) = (
        each_from_in (IsFree x) (parts kept) (λ a i. let m = in_map_back (λ (t : InstanceState). t.partial) kept a i in in_from_each (IsFree x) (parts mid) ready_mid.0 a (subst (λ (t : Partial Sym). IsIn t (parts mid)) (sym m.2) (in_map (λ (t : InstanceState). t.partial) mid m.0 ((sifted_in (IsAble plan focus x.date) mid kept m.0 left m.1).0)))),
        (leaves_image (IsAble plan focus x.date) (λ i. IsOf plan i × IsOver plan focus entries entries x.date i) (IsOpenAt plan focus entries entries x.date)
            (λ i q p. (open_able plan focus entries entries x.date i q.0 q.1).1 p) (λ i q f. (open_able plan focus entries entries x.date i q.0 q.1).0 f) mid kept (all_both (IsOf plan) (IsOver plan focus entries entries x.date) mid of_mid over_mid) ready_mid.1 left).distinct,
      ) in
      let aft : List InstanceState = passes.0 in
      let passed = passes.1 in
      let same_aft : parts aft ≡ parts kept = parts_same (IsPassed plan history x.date until) (λ a b r. r.same) kept aft passed in
      let floor_now = floor_early plan proper x.date history.floor far in
      let over_aft : AllByRecursion (IsOver plan focus entries entries until) aft = zip_all (IsPassed plan history x.date until) (IsOver plan focus entries entries x.date) (IsOver plan focus entries entries until) (λ a b r o. record {
        given = λ e y k. o.given e y (sym (ap (λ (t : InstanceState). at t.partial e) r.same.same) ∙ k);
        closed = subst (λ (t : InstanceState). IsLevelClosed (levels_in plan focus) t.partial) (sym r.same.same) o.closed;
        follows = r.follows entries later now.read floor_now o.follows;
      }) kept aft passed over_kept in
      let of_aft : AllOf plan aft = zip_of plan (IsPassed plan history x.date until) (λ a b r. r.same) kept aft passed of_kept in
      let left_aft = passes.2 in
      let stays_kept : IsImage (GoesOn Open) (parts kept) (parts stay) = subst (λ (t : List (Partial Sym)). IsImage (GoesOn Open) t (parts stay)) same_aft
      (leaves_image (IsAble plan focus until) (λ i. IsOf plan i × IsOver plan focus entries entries until i) Open
      (λ i q p. (open_able plan focus entries entries until i q.0 q.1).1 p) (λ i q f. (open_able plan focus entries entries until i q.0 q.1).0 f) aft stay (all_both (IsOf plan) (IsOver plan focus entries entries until) aft of_aft over_aft)
      (subst (Ordered (λ a b. a ≡ b → ⊥)) (sym same_aft) ready_kept.1) left_aft) in
      let over_stay : AllByRecursion (IsOver plan focus entries entries until) stay = leaves_each (IsAble plan focus until) (IsOver plan focus entries entries until) aft stay over_aft left_aft in
      let able_from : (i : InstanceState) → IsIn i mid → IsOpenAt plan focus entries entries x.date i.partial → IsAble plan focus x.date i = (λ i j o. (open_able plan focus entries entries x.date i (in_from_each (IsOf plan) mid of_mid i j) (in_from_each (IsOver plan focus entries entries x.date) mid over_mid i j)).0 o) in
      let stays_mid : IsImage (GoesOn Open) (parts mid) (parts stay) = narrowed (GoesOn Open) (IsAble plan focus x.date) mid kept (parts stay) left (λ i j b g.
      able_from i j (open_now plan focus Out x until later entries i.partial (in_from_each (IsOver plan focus entries entries x.date) mid over_mid i j).given (subst (λ (t : Partial Sym). Open t) g.0 g.1))) stays_kept in
      let stays : IsImage (GoesOn Fine) (parts mid) (parts stay) = stays_but Open Out (parts mid) (parts stay) (λ a i. never a (in_from_each (IsFree x) (parts mid) ready_mid.0 a i)) stays_mid in
      let made = forks entries entries now later over_kept ready_kept in
      let born : IsImage (IsForkByLevel level Fine x) (parts mid) (parts more) = narrowed (IsForkByLevel level Fine x) (IsAble plan focus x.date) mid kept (parts more) left (λ i j b g.
      let one = in_from_each (IsOver plan focus entries entries x.date) mid over_mid i j in
      able_from i j (parent_open plan focus Out x until later entries i.partial b one.given one.closed g)) made.0 in
      let im = both_by_level level Fine (λ b o. (o.0).closed) (λ b o. (o.0).partial.distinct) x (parts mid) (parts stay) (parts more) (λ a i. in_from_each (IsFree x) (parts mid) ready_mid.0 a i) stays born in
      let whole : AreApart (stay ++ more) = subst (λ (t : List (Partial Sym)). Ordered (λ a b. a ≡ b → ⊥) t) (sym (map-append (λ (i : InstanceState). i.partial) stay more)) im.distinct in (
        subst (λ (t : List (Partial Sym)). IsImage (GoesOnByLevel level Fine x) t (parts new)) same (record {
          distinct = joins.apart whole;
          sound = λ b i.
              let m = in_map_back (λ (t : InstanceState). t.partial) new b i in
              im.sound b (subst (λ (t : Partial Sym). IsIn t (parts stay ++ parts more)) (sym m.2) (elim (joins.back m.0 m.1) [
                | inl k ↦ in_append_left (parts stay) (parts more) (m.0).partial (in_map (λ (t : InstanceState). t.partial) stay m.0 k)
                | inr k ↦ in_append_right (parts stay) (parts more) (m.0).partial (in_map (λ (t : InstanceState). t.partial) more m.0 k)
              ]));
          complete = λ a b i g. elim (in_append (parts stay) (parts more) b (im.complete a b i g)) [
            | inl k ↦ (let m = in_map_back (λ (t : InstanceState). t.partial) stay b k in subst (λ (t : Partial Sym). IsIn t (parts new)) (sym m.2) (in_map (λ (t : InstanceState). t.partial) new m.0 (joins.first m.0 m.1)))
            | inr k ↦ (let m = in_map_back (λ (t : InstanceState). t.partial) more b k in subst (λ (t : Partial Sym). IsIn t (parts new)) (sym m.2) (in_map (λ (t : InstanceState). t.partial) new m.0 (joins.second m.0 m.1)))
          ];
        }),
        each_from_in (IsOver plan focus entries entries until) new (λ i k. elim (joins.back i k) [
          | inl j ↦ in_from_each (IsOver plan focus entries entries until) stay over_stay i j
          | inr j ↦ in_from_each (IsOver plan focus entries entries until) more made.1 i j
        ]),
      )
