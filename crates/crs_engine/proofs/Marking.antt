-- What an engine stands for after a mark, and its answer.
use Rattle.std.proofs.Common.{◌≡◌, ◌≢◌, ℕ, zero, suc, ◌<◌, ◌≤◌, ◌^◌, List, [], ◌∷◌, ◌++◌, length, refl, sym, ap, subst, ◌∙◌, inl, inr, arith, append_assoc, append-nil, length-append, take, drop, Bool, true, not, nat_lt}
use Rattle.std.specs.List.{AllByRecursion, AllZip, list_any}
use Rattle.std.proofs.lemmas.Bool.{true≢false, or_parts}
use Rattle.std.specs.declared.cmp.Ordering.TheVariants.{Less}
use Rattle.std.proofs.lemmas.List.{take_all}
use Rattle.crs_history.proofs.FarBack.{far_later}
use Rattle.std.proofs.Math.Nat.{max-eq_right}
use Rattle.crs_base.specs.declared.symbols.Sym.{Sym}
use Rattle.crs_base.specs.Words.{IsIn, Ordered}
use Rattle.crs_base.specs.Entry.{Entry, entry_cmp, IsInKeyOrder}
use Rattle.crs_base.proofs.Words.{in_from_each, each_from_in, in_append_left, in_append_right, in_filter_back, in_map}
use Rattle.crs_base.proofs.Alls.{all_left, all_right, all_append, all_each}
use Rattle.crs_base.proofs.KeyOrder.{in_dates}
use Rattle.crs_model.specs.declared.plan.Plan.{Plan}
use Rattle.crs_model.specs.declared.recognition.Mark.{Mark}
use Rattle.crs_model.specs.declared.recognition.Recognition.{Recognition}
use Rattle.crs_model.specs.Matching.{AreDistinct}
use Rattle.crs_model.specs.Steps.{IsFresh}
use Rattle.crs_model.specs.Open.{before, pool_among}
use Rattle.crs_model.specs.Order.{arrived}
use Rattle.crs_model.specs.Scopes.{Scope, scope_of}
use Rattle.crs_model.specs.Plans.{chronicle}
use Rattle.crs_store.specs.Ahead.{AreAhead}
use Rattle.crs_store.specs.Orders.{AreBehind}
use Rattle.crs_store.specs.Stores.{StoreState, Stands, StandsAhead, StandsComing, IsSameStore}
use Rattle.crs_store.proofs.Standing.{ahead_of, coming_of, last_of}
use Rattle.crs_store.specs.Answers.{IsAnswer, IsMarked, IsAdvanced}
use Rattle.std.specs.Prelude.{ℤ, ◌≤ℤ◌, false, Result, Ok, Err, IfOk, OnOk}
use Rattle.crs_history.specs.Histories.{HistoryState, lowest, IsFarBack, StandsFor as HistoryStandsFor}
use Rattle.crs_model.specs.Models.{Chronicle}
use Rattle.crs_engine.specs.declared.refused.Refused.{Refused}
use Rattle.crs_engine.specs.Engines.{HasMoved, EngineState, StandsFor, HaveNumbersBelow, IsStoreAt, IsStoreOf, AreStoresOf, IsWaiting, IsEngine, plans_of, scope_at, has_prompt, not_arrived, floor_at, since}
use Rattle.crs_engine.proofs.Floors.{floor_later}
use Rattle.crs_engine.specs.Marks.{ListsAllNew, AfterMark}
use Rattle.crs_engine.specs.Moves.{AreSameStores, IsTakenIn, IsGivenFresh, AreGivenOne, AreGivenFresh, AreOffered, AreTold, HasPut, AreOfferedAll, AreAdvanced, AreMarked, IsRestOf, date_after}
use Rattle.crs_engine.proofs.Settling.{date_within, offered_without}
use Rattle.crs_engine.proofs.Pools.{arrived_all, arrived_none, pool_to, pool_from, pool_apart, stands_alike, among_plain, among_prompt}
use Rattle.crs_engine.proofs.Order.{numbers_few, ordered_left, ordered_right, ordered_cross, before_parts, since_parts}

-- A store while those accepted since the last mark come to the pools. Of a prompt chronicle some are still coming, which make its pool whole, and all entries are settled by h.
pub record StandsFresh (s : StoreState) (whole all coming settled was pool : List (Entry Sym)) (g h : ℕ) : Type 0 where
  pub plain : s.plan.chronicle.prompt ≡ false → Stands s settled settled settled g g
  pub prompt : s.plan.chronicle.prompt ≡ true → StandsComing s whole all coming was pool settled g g h

abbrev pub AllFresh : List StoreState → List (Entry Sym) → List (Entry Sym) → List (Entry Sym) → List (Entry Sym) → List (Entry Sym) → List (Entry Sym) → ℕ → ℕ → Type 0
AllFresh ss whole all coming settled was pool g h = AllByRecursion (λ s. StandsFresh s whole all coming settled was pool g h) ss

-- A store that was judged at a date that isn't after d. The later entries come next, up to h. Of a plain chronicle the pool is what is settled, and was what had been settled; of a prompt one it is what came, and was what had come.
pub record StandsBy (s : StoreState) (was had settled came later : List (Entry Sym)) (d g h : ℕ) : Type 0 where
  pub date : ℕ
  pub within : date ≤ d
  pub plain : s.plan.chronicle.prompt ≡ false → StandsAhead s was settled settled later date g h
  pub prompt : s.plan.chronicle.prompt ≡ true → StandsComing s came (settled ++ later) [] had came settled date g h

abbrev pub AllStandBy : List StoreState → List (Entry Sym) → List (Entry Sym) → List (Entry Sym) → List (Entry Sym) → List (Entry Sym) → ℕ → ℕ → ℕ → Type 0
AllStandBy ss was had settled came later d g h = AllByRecursion (λ s. StandsBy s was had settled came later d g h) ss

-- each plan's store stands for its pool
abbrev pub AllStand : List Plan → List StoreState → List (Entry Sym) → List (Entry Sym) → ℕ → Type 0
AllStand ps ss settled came h = AllZip (λ p s. Stands s (pool_among (chronicle p) settled came) (pool_among (chronicle p) settled came) settled h h) ps ss

abbrev pub AllFar : List StoreState → ℕ → ℤ → Type 0
AllFar ss g floor = AllByRecursion (λ s. IsFarBack s.plan.reach g floor) ss

-- ---- the history goes far enough back

plans_later : (g h : ℕ) (floor : ℤ) → g ≤ h → (ps : List Plan) → AllByRecursion (λ p. IsFarBack p.reach g floor) ps → AllByRecursion (λ p. IsFarBack p.reach h floor) ps
plans_later g h floor l [] k = tt
plans_later g h floor l (p ∷ ps) k = (far_later p.reach g h floor l k.0, plans_later g h floor l ps k.1)

stores_far : (g : ℕ) (floor : ℤ) (focus : Bool) (ps : List Plan) (n : ℕ) (ss : List StoreState) → AreStoresOf focus ps n ss
    → AllByRecursion (λ p. IsFarBack p.reach g floor) ps → AllFar ss g floor
stores_far g floor focus [] n [] of k = tt
stores_far g floor focus [] n (s ∷ ss) of k = absurd of
stores_far g floor focus (p ∷ ps) n [] of k = absurd of
stores_far g floor focus (p ∷ ps) n (s ∷ ss) of k = (subst (λ (q : Plan). IsFarBack q.reach g floor) (sym (of.0).plan) k.0, stores_far g floor focus ps (suc n) ss of.1 k.1)

same_far : (g : ℕ) (floor : ℤ) (olds news : List StoreState) → AreSameStores olds news → AllFar olds g floor → AllFar news g floor
same_far g floor [] [] s k = tt
same_far g floor [] (n ∷ news) s k = absurd s
same_far g floor (o ∷ olds) [] s k = absurd s
same_far g floor (o ∷ olds) (n ∷ news) s k = (subst (λ (q : Plan). IsFarBack q.reach g floor) (sym (s.0).plan) k.0, same_far g floor olds news s.1 k.1)

-- ---- what came to the pools

prompt_same : (o n : StoreState) → IsSameStore o n → (b : Bool) → n.plan.chronicle.prompt ≡ b → o.plan.chronicle.prompt ≡ b
prompt_same o n same b e = sym (ap (λ (p : Plan). p.chronicle.prompt) same.plan) ∙ e

never_both : (b : Bool) → b ≡ true → b ≡ false → ⊥
never_both b t f = true≢false (sym t ∙ f)

module _ (history : HistoryState) (settled was whole all : List (Entry Sym)) (g h : ℕ) (kept : HistoryStandsFor settled history) (few : length settled < 2 ^ 32) where
  fresh_one : (o n : StoreState) (x : Entry Sym) (ahead : List (Entry Sym)) (beyond : ℕ) (coming pool : List (Entry Sym)) → StandsFresh o whole all (x ∷ coming) settled was pool g h → AreAhead ahead beyond coming h → IsGivenFresh o history x ahead beyond n → IsFarBack o.plan.reach g history.floor → IsFresh pool x → g ≤ x.date → StandsFresh n whole all coming settled was (pool ++ x ∷ []) g h
  fresh_one o n x ahead beyond coming pool st near k far fresh dated = record {
    plain = λ e. (let f = prompt_same o n k.same false e in subst (λ (t : StoreState). Stands t settled settled settled g g) (sym (k.plain f)) (st.plain f));
    prompt = λ e. (let f = prompt_same o n k.same true e in (k.prompt f) whole all coming was pool settled g h (st.prompt f) near kept far few fresh dated);
  }

  fresh_each : (olds news : List StoreState) (x : Entry Sym) (ahead : List (Entry Sym)) (beyond : ℕ) (coming pool : List (Entry Sym)) → AllFresh olds whole all (x ∷ coming) settled was pool g h → AreAhead ahead beyond coming h → AreGivenOne olds history x ahead beyond news → AllFar olds g history.floor → IsFresh pool x → g ≤ x.date → AllFresh news whole all coming settled was (pool ++ x ∷ []) g h
  fresh_each [] [] x ahead beyond coming pool st near k far fresh dated = tt
  fresh_each [] (n ∷ news) x ahead beyond coming pool st near k far fresh dated = absurd k
  fresh_each (o ∷ olds) [] x ahead beyond coming pool st near k far fresh dated = absurd k
  fresh_each (o ∷ olds) (n ∷ news) x ahead beyond coming pool st near k far fresh dated = (fresh_one o n x ahead beyond coming pool st.0 near k.0 far.0 fresh dated, fresh_each olds news x ahead beyond coming pool st.1 near k.1 far.1 fresh dated)

  given_same : (olds news : List StoreState) (x : Entry Sym) (ahead : List (Entry Sym)) (beyond : ℕ) → AreGivenOne olds history x ahead beyond news → AreSameStores olds news
  given_same [] [] x ahead beyond k = tt
  given_same [] (n ∷ news) x ahead beyond k = absurd k
  given_same (o ∷ olds) [] x ahead beyond k = absurd k
  given_same (o ∷ olds) (n ∷ news) x ahead beyond k = ((k.0).same, given_same olds news x ahead beyond k.1)

  fresh_all : (xs : List (Entry Sym)) (olds news : List StoreState) (pool : List (Entry Sym)) → AllFresh olds whole all xs settled was pool g h → AllFar olds g history.floor → AreGivenFresh h history xs olds news → AreDistinct (pool ++ xs) → AllByRecursion (λ x. g ≤ x.date) xs → AllFresh news whole all [] settled was (pool ++ xs) g h
  fresh_all [] olds news pool st far k apart dated = subst (λ (t : List (Entry Sym)). AllFresh news whole all [] settled was t g h) (sym (append-nil pool)) (subst (λ (t : List StoreState). AllFresh t whole all [] settled was pool g h) (sym k) st)
  fresh_all (x ∷ xs) olds news pool st far k apart dated =
      let joined : (pool ++ x ∷ []) ++ xs ≡ pool ++ x ∷ xs = append_assoc pool (x ∷ []) xs in
      let one = fresh_each olds k.0 x k.1 k.2 xs pool st k.3 k.4 far (λ e i. ordered_cross (λ a b. a.arrival ≢ b.arrival) pool (x ∷ xs) apart e x i (inl refl)) dated.0 in
      subst (λ (t : List (Entry Sym)). AllFresh news whole all [] settled was t g h) joined
      (fresh_all xs k.0 news (pool ++ x ∷ []) one (same_far g history.floor olds k.0 (given_same olds k.0 x k.1 k.2 k.4) far) k.5 (subst AreDistinct (sym joined) apart) dated.1)

-- where no chronicle is prompt, nothing changes
abbrev pub ArePlain : List StoreState → Type 0
ArePlain ss = AllByRecursion (λ s. s.plan.chronicle.prompt ≡ false) ss

plain_each : (history : HistoryState) (x : Entry Sym) (ahead : List (Entry Sym)) (beyond : ℕ) (olds news : List StoreState) → ArePlain olds → AreGivenOne olds history x ahead beyond news → news ≡ olds
plain_each history x ahead beyond [] [] p k = refl
plain_each history x ahead beyond [] (n ∷ news) p k = absurd k
plain_each history x ahead beyond (o ∷ olds) [] p k = absurd k
plain_each history x ahead beyond (o ∷ olds) (n ∷ news) p k = ap (λ (t : StoreState). t ∷ news) ((k.0).plain p.0) ∙ ap (λ (t : List StoreState). o ∷ t) (plain_each history x ahead beyond olds news p.1 k.1)

plain_all : (h : ℕ) (history : HistoryState) (xs : List (Entry Sym)) (olds news : List StoreState) → ArePlain olds → AreGivenFresh h history xs olds news → news ≡ olds
plain_all h history [] olds news p k = k
plain_all h history (x ∷ xs) olds news p k =
    let one = plain_each history x k.1 k.2 olds k.0 p k.4 in
    plain_all h history xs k.0 news (subst ArePlain (sym one) p) k.5 ∙ one

stores_plain : (focus : Bool) (ps : List Plan) (n : ℕ) (ss : List StoreState) → AreStoresOf focus ps n ss → list_any (λ p. p.chronicle.prompt) ps ≡ false → ArePlain ss
stores_plain focus [] n [] of e = tt
stores_plain focus [] n (s ∷ ss) of e = absurd of
stores_plain focus (p ∷ ps) n [] of e = absurd of
stores_plain focus (p ∷ ps) n (s ∷ ss) of e =
    let parts = or_parts p.chronicle.prompt (list_any (λ q. q.chronicle.prompt) ps) e in
    (ap (λ (q : Plan). q.chronicle.prompt) (of.0).plan ∙ parts.0, stores_plain focus ps (suc n) ss of.1 parts.1)

fresh_plain : (whole all coming settled was pool other : List (Entry Sym)) (g h : ℕ) (ss : List StoreState) → ArePlain ss → AllFresh ss whole all coming settled was pool g h → AllFresh ss whole all coming settled was other g h
fresh_plain whole all coming settled was pool other g h [] p k = tt
fresh_plain whole all coming settled was pool other g h (s ∷ ss) p k = (record { plain = (k.0).plain; prompt = λ e. absurd (never_both s.plan.chronicle.prompt e p.0) }, fresh_plain whole all coming settled was pool other g h ss p.1 k.1)

fresh_alike : (whole all coming settled was pool other : List (Entry Sym)) (g h : ℕ) → ((e : Entry Sym) → IsIn e pool → IsIn e other) → ((e : Entry Sym) → IsIn e other → IsIn e pool) → (ss : List StoreState) → AllFresh ss whole all coming settled was pool g h → AllFresh ss whole all coming settled was other g h
fresh_alike whole all coming settled was pool other g h there back [] k = tt
fresh_alike whole all coming settled was pool other g h there back (s ∷ ss) k = (record { plain = (k.0).plain; prompt = λ e. stands_alike s whole all coming was pool other settled g g h there back ((k.0).prompt e) }, fresh_alike whole all coming settled was pool other g h there back ss k.1)

begin_each : (settled was pool later : List (Entry Sym)) (g h : ℕ) (ss : List StoreState) → AllFresh ss pool (settled ++ later) [] settled was pool g h → AllStandBy ss settled was settled pool later g g h
begin_each settled was pool later g h [] k = tt
begin_each settled was pool later g h (s ∷ ss) k = (record { date = g; within = omega arith; plain = λ e. ahead_of s settled settled settled later g g h ((k.0).plain e); prompt = (k.0).prompt }, begin_each settled was pool later g h ss k.1)

-- ---- offered

taken_one : (o n : StoreState) (put : HistoryState) (x : Entry Sym) (until : ℕ) (ahead : List (Entry Sym)) (beyond : ℕ) (behind : Bool) (was had settled came later : List (Entry Sym)) (d g h : ℕ) → IsSameStore o n → StandsBy o was had settled came (x ∷ later) d g h → AreAhead ahead beyond later h → (behind ≡ true → AreBehind o.ranks x later h) → IsTakenIn o put x until ahead beyond behind n
    → HistoryStandsFor (settled ++ x ∷ []) put → IsFarBack o.plan.reach g put.floor → length (settled ++ x ∷ []) < 2 ^ 32 → IsFresh settled x → IsIn x came → d ≤ x.date → x.date ≤ until → StandsBy n was had (settled ++ x ∷ []) came later until g h
taken_one o n put x until ahead beyond behind was had settled came later d g h same st coming after k kept far few fresh inside dated ends = by o.plan.chronicle.prompt refl
  where
    after_d : st.date ≤ x.date
    after_d = let w = st.within in omega arith

    by : (b : Bool) → o.plan.chronicle.prompt ≡ b → StandsBy n was had (settled ++ x ∷ []) came later until g h
    by false e = let r = (k.plain e) was settled later st.date g h (st.plain e) coming after kept far few fresh after_d in record {
      date = r.0;
      within = r.2;
      plain = λ f. r.4;
      prompt = λ f. absurd (never_both o.plan.chronicle.prompt (prompt_same o n same true f) e);
    }
    by true e = record {
      date = x.date;
      within = ends;
      plain = λ f. absurd (never_both o.plan.chronicle.prompt e (prompt_same o n same false f));
      prompt = λ f. subst (λ (t : List (Entry Sym)). StandsComing n came t [] had came (settled ++ x ∷ []) x.date g h) (sym (append_assoc settled (x ∷ []) later))
          ((k.prompt e) came (settled ++ x ∷ later) [] had came settled st.date g h (st.prompt e) kept far few inside after_d);
    }

offered_one : (olds news : List StoreState) (put : HistoryState) (x : Entry Sym) (until : ℕ) (ahead : List (Entry Sym)) (beyond : ℕ) (behind : Bool) (was had settled came later : List (Entry Sym)) (d g h : ℕ)
    → AreSameStores olds news → AllStandBy olds was had settled came (x ∷ later) d g h → AreTold olds x ahead beyond behind later h → AreOffered olds put x until ahead beyond behind news → HistoryStandsFor (settled ++ x ∷ []) put → AllFar olds g put.floor
    → length (settled ++ x ∷ []) < 2 ^ 32 → IsFresh settled x → IsIn x came → d ≤ x.date → x.date ≤ until →
    AllStandBy news was had (settled ++ x ∷ []) came later until g h
offered_one [] [] put x until ahead beyond behind was had settled came later d g h same stand told k kept far few fresh inside dated ends = tt
offered_one [] (n ∷ news) put x until ahead beyond behind was had settled came later d g h same stand told k kept far few fresh inside dated ends = absurd k
offered_one (o ∷ olds) [] put x until ahead beyond behind was had settled came later d g h same stand told k kept far few fresh inside dated ends = absurd k
offered_one (o ∷ olds) (n ∷ news) put x until ahead beyond behind was had settled came later d g h same stand told k kept far few fresh inside dated ends =
    (taken_one o n put x until ahead beyond behind was had settled came later d g h same.0 stand.0 told.coming (λ b. (told.after b).0) k.0 kept far.0 few fresh inside dated ends, offered_one olds news put x until ahead beyond behind was had settled came later d g h same.1 stand.1 (record { coming = told.coming; after = λ b. (told.after b).1 }) k.1 kept far.1 few fresh inside dated ends)

-- the stores and the history stand for what is settled, and the history goes far enough back
pub record StandTogether (ss : List StoreState) (past : HistoryState) (was had settled came later : List (Entry Sym)) (d g h : ℕ) : Type 0 where
  pub stores : AllStandBy ss was had settled came later d g h
  pub history : HistoryStandsFor settled past
  pub far : AllFar ss g past.floor

stand_offered : (olds next : List StoreState) (past put : HistoryState) (x : Entry Sym) (until : ℕ) (ahead : List (Entry Sym)) (beyond : ℕ) (behind : Bool) (was had settled came later : List (Entry Sym)) (d g h : ℕ)
    → StandTogether olds past was had settled came (x ∷ later) d g h → AreTold olds x ahead beyond behind later h → HasPut past x put → AreSameStores olds next → AreOffered olds put x until ahead beyond behind next
    → length (settled ++ x ∷ []) < 2 ^ 32 → IsFresh settled x → IsIn x came → d ≤ x.date → x.date ≤ until → StandTogether next put was had (settled ++ x ∷ []) came later until g h
stand_offered olds next past put x until ahead beyond behind was had settled came later d g h stand told has same k few fresh inside dated ends =
    let far : AllFar olds g put.floor = subst (AllFar olds g) (sym has.floor) stand.far in
    record {
      stores = offered_one olds next put x until ahead beyond behind was had settled came later d g h same stand.stores told k (has.stands settled stand.history) far few fresh inside dated ends;
      history = has.stands settled stand.history;
      far = same_far g put.floor olds next same far;
    }

-- no entry that is still to come is before the date of the next one
none_before : (h : ℕ) (xs : List (Entry Sym)) → Ordered (λ x y. x.date ≤ y.date) xs → AllByRecursion (λ x. date_after h xs ≤ x.date) xs
none_before h [] dates = tt
none_before h (x ∷ xs) dates = (omega arith, all_each {P = λ y. x.date ≤ y.date} xs (λ y l. omega arith) dates.0)

not_after : (h : ℕ) (x : Entry Sym) (xs : List (Entry Sym)) → x.date < h → AllByRecursion (λ y. x.date ≤ y.date) xs → x.date ≤ date_after h xs
not_after h x [] l all = omega arith
not_after h x (y ∷ xs) l all = let d = all.0 in omega arith

offered_all : (h : ℕ) (xs : List (Entry Sym)) (olds news : List StoreState) (past now : HistoryState) (was had settled came : List (Entry Sym))
    (d g : ℕ)
    → StandTogether olds past was had settled came xs d g h → AreOfferedAll h [] olds past xs news now → AreDistinct (settled ++ xs)
    → AllByRecursion (λ x. d ≤ x.date) xs → AllByRecursion (λ x. x.date < h) xs → ((x : Entry Sym) → IsIn x xs → IsIn x came)
    → Ordered (λ x y. x.date ≤ y.date) xs → d ≤ h → length (settled ++ xs) < 2 ^ 32 →
    (e : ℕ) × StandTogether news now was had (settled ++ xs) came [] e g h × (e ≤ h)
offered_all h [] olds news past now was had settled came d g stand k apart later due inside dates low few = (
  d,
  subst (λ (t : List (Entry Sym)). StandTogether news now was had t came [] d g h) (sym (append-nil settled))
      (subst (λ (t : List StoreState). StandTogether t now was had settled came [] d g h) (sym k.0) (subst (λ (t : HistoryState). StandTogether olds t was had settled came [] d g h) (sym k.1) stand)),
  low,
)
offered_all h (x ∷ xs) olds news past now was had settled came d g stand k apart later due inside dates low few =
    let next = k.0 in
    let put = k.1 in
    let joined : (settled ++ x ∷ []) ++ xs ≡ settled ++ x ∷ xs = append_assoc settled (x ∷ []) xs in
    let few_one : length (settled ++ x ∷ []) < 2 ^ 32 = let a = length-append settled (x ∷ []) in let b = length-append settled (x ∷ xs) in omega arith in
    let told : AreTold olds x k.2 k.3 k.4 xs h = subst (λ (t : List (Entry Sym)). AreTold olds x k.2 k.3 k.4 t h) (append-nil xs) k.5 in
    let offered : AreOffered olds put x (date_after h xs) k.2 k.3 k.4 next = subst (λ (t : List (Entry Sym)). AreOffered olds put x (date_after h t) k.2 k.3 k.4 next) (append-nil xs) k.8 in
    let one = stand_offered olds next past put x (date_after h xs) k.2 k.3 k.4 was had settled came xs d g h stand told k.6 k.7 offered few_one (λ e i. ordered_cross (λ a b. a.arrival ≢ b.arrival) settled (x ∷ xs) apart e x i (inl refl)) (inside x (inl refl)) later.0 (not_after h x xs due.0 dates.0) in
    let r = offered_all h xs next news put now was had (settled ++ x ∷ []) came (date_after h xs) g one k.9 (subst AreDistinct (sym joined) apart) (none_before h xs dates.1) due.1 (λ y i. inside y (inr i)) dates.1 (date_within h xs)
    (subst (λ (t : List (Entry Sym)). length t < 2 ^ 32) (sym joined) few) in
    (r.0, subst (λ (t : List (Entry Sym)). StandTogether news now was had t came [] r.0 g h) joined r.1, r.2)

-- ---- advanced

answer_as : (p : Plan) (n : ℕ) (o : StoreState) (mark : Mark) (was_pool was pool now : List (Entry Sym)) (g h : ℕ) (first : List Recognition) → o.plan ≡ p → o.number ≡ n
    → before g now ≡ was
    → IsAnswer (chronicle o.plan) o.number mark (record { pool = was_pool; settled = before g now; horizon = g })
    (record { pool = pool; settled = now; horizon = h }) first
    → IsAnswer (chronicle p) n mark (record { pool = was_pool; settled = was; horizon = g }) (record { pool = pool; settled = now; horizon = h }) first
answer_as p n o mark was_pool was pool now g h first sp sn sw a =
    let then : Scope Sym = record { pool = pool; settled = now; horizon = h } in
    subst (λ (t : List (Entry Sym)). IsAnswer (chronicle p) n mark (record { pool = was_pool; settled = t; horizon = g }) then first) sw
    (subst (λ (q : Plan). IsAnswer (chronicle q) n mark (record { pool = was_pool; settled = before g now; horizon = g }) then first) sp
    (subst (λ (m : ℕ). IsAnswer (chronicle o.plan) m mark (record { pool = was_pool; settled = before g now; horizon = g }) then first) sn a))

module _ (history : HistoryState) (mark : Mark) (was had settled came : List (Entry Sym)) (d g h : ℕ) (sw : before g settled ≡ was) (kept : HistoryStandsFor settled history) (few : length settled < 2 ^ 32) (apart : AreDistinct settled) (apart_came : AreDistinct came) (later : d ≤ h) (dated : (e : Entry Sym) → IsIn e settled → e.date < h) (dates : Ordered (λ x y. x.date ≤ y.date) settled) where
  -- what a mark makes of one store
  abbrev Advanced : Plan → ℕ → StoreState → List Recognition → Type 0
  Advanced p n x first =
      Stands x (pool_among (chronicle p) settled came) (pool_among (chronicle p) settled came) settled h h
      × IsAnswer (chronicle p) n mark (scope_of (chronicle p) was had g) (scope_of (chronicle p) settled came h) first

  advanced_one : (p : Plan) (n : ℕ) (o x : StoreState) (first : List Recognition) → o.plan ≡ p → o.number ≡ n → StandsBy o was had settled came [] d g h → IsFarBack o.plan.reach g history.floor → IsAdvanced o history h mark x first → Advanced p n x first
  advanced_one p n o x first sp sn st far k = by o.plan.chronicle.prompt refl
    where
      at_most : st.date ≤ h
      at_most = let w = st.within in omega arith

      by : (b : Bool) → o.plan.chronicle.prompt ≡ b → Advanced p n x first
      by false e =
          let m : IsMarked o x mark was settled settled g h first = k was settled settled st.date g (st.plain e) kept far few apart at_most dated dates in
          let pools = among_plain p o.plan sp e settled came in (
            subst (λ (t : List (Entry Sym)). Stands x t t settled h h) (sym pools) m.stands,
            subst (λ (t : List (Entry Sym)). IsAnswer (chronicle p) n mark (record { pool = t; settled = was; horizon = g }) (scope_of (chronicle p) settled came h) first) (sym (among_plain p o.plan sp e was had))
                (subst (λ (t : List (Entry Sym)). IsAnswer (chronicle p) n mark (record { pool = was; settled = was; horizon = g }) (record { pool = t; settled = settled; horizon = h }) first) (sym pools) (answer_as p n o mark was was settled settled g h first sp sn sw m.answers)),
          )
      by true e =
          let m : IsMarked o x mark had came settled g h first = k had came settled st.date g (last_of o had came settled st.date g h (st.prompt e)) kept far few apart_came at_most dated dates in
          let pools = among_prompt p o.plan sp e settled came in (
            subst (λ (t : List (Entry Sym)). Stands x t t settled h h) (sym pools) m.stands,
            subst (λ (t : List (Entry Sym)). IsAnswer (chronicle p) n mark (record { pool = t; settled = was; horizon = g }) (scope_of (chronicle p) settled came h) first) (sym (among_prompt p o.plan sp e was had))
                (subst (λ (t : List (Entry Sym)). IsAnswer (chronicle p) n mark (record { pool = had; settled = was; horizon = g }) (record { pool = t; settled = settled; horizon = h }) first) (sym pools) (answer_as p n o mark had was came settled g h first sp sn sw m.answers)),
          )

  advanced_all : (focus : Bool) (ps : List Plan) (n : ℕ) (olds news : List StoreState) (answer : List Recognition)
      → AreStoresOf focus ps n olds → AllStandBy olds was had settled came [] d g h → AllFar olds g history.floor → AreAdvanced history h mark olds news answer
      → AllStand ps news settled came h × ListsAllNew ps n mark (λ p. scope_of (chronicle p) was had g) (λ p. scope_of (chronicle p) settled came h) answer
  advanced_all focus [] n [] news answer of stand far k = (subst (λ (t : List StoreState). AllStand [] t settled came h) (sym k.0) tt, k.1)
  advanced_all focus [] n (o ∷ olds) news answer of stand far k = absurd of
  advanced_all focus (p ∷ ps) n [] news answer of stand far k = absurd of
  advanced_all focus (p ∷ ps) n (o ∷ olds) news answer of stand far k =
      let new_one = k.0 in
      let rest = k.1 in
      let first = k.2 in
      let more = k.3 in
      let one = advanced_one p n o new_one first (of.0).plan (of.0).number stand.0 far.0 k.6 in
      let r = advanced_all focus ps (suc n) olds rest more of.1 stand.1 far.1 k.7 in (
        subst (λ (t : List StoreState). AllStand (p ∷ ps) t settled came h) (sym k.4) (one.0, r.0),
        (first, more, k.5, one.1, r.1),
      )

-- ---- the stores of the plans

same_store_of : (focus : Bool) (p : Plan) (n : ℕ) (o x : StoreState) → IsStoreOf focus p n o → IsSameStore o x → IsStoreOf focus p n x
same_store_of focus p n o x h k = record { plan = k.plan ∙ h.plan; number = k.number ∙ h.number; focus_is = k.focus ∙ h.focus_is }

pub stores_same : (focus : Bool) (ps : List Plan) (n : ℕ) (olds news : List StoreState) → AreStoresOf focus ps n olds
    → AreSameStores olds news → AreStoresOf focus ps n news
stores_same focus [] n [] [] h k = tt
stores_same focus [] n [] (x ∷ news) h k = absurd k
stores_same focus [] n (o ∷ olds) news h k = absurd h
stores_same focus (p ∷ ps) n [] news h k = absurd h
stores_same focus (p ∷ ps) n (o ∷ olds) [] h k = absurd k
stores_same focus (p ∷ ps) n (o ∷ olds) (x ∷ news) h k = (same_store_of focus p n o x h.0 k.0, stores_same focus ps (suc n) olds news h.1 k.1)

fresh_at : (focus : Bool) (m : ℕ) (settled waiting : List (Entry Sym)) (h : ℕ) (p : Plan) (s : StoreState) → IsStoreAt focus m settled waiting h p s → (whole all coming : List (Entry Sym)) (k : ℕ) → StandsFresh s whole all coming settled (arrived m (settled ++ waiting)) (arrived m (settled ++ waiting)) h k
fresh_at focus m settled waiting h p s z whole all coming k = record {
  plain = λ e. subst (λ (t : List (Entry Sym)). Stands s t t settled h h) (among_plain p s.plan z.plan e settled (arrived m (settled ++ waiting))) z.stands;
  prompt = λ e. coming_of s whole all coming (arrived m (settled ++ waiting)) (arrived m (settled ++ waiting)) settled h h k (subst (λ (t : List (Entry Sym)). Stands s t t settled h h) (among_prompt p s.plan z.plan e settled (arrived m (settled ++ waiting))) z.stands);
}

all_fresh : (focus : Bool) (m : ℕ) (settled waiting : List (Entry Sym)) (h : ℕ) (ps : List Plan) (ss : List StoreState) → AllZip (IsStoreAt focus m settled waiting h) ps ss → (whole all coming : List (Entry Sym)) (k : ℕ) → AllFresh ss whole all coming settled (arrived m (settled ++ waiting)) (arrived m (settled ++ waiting)) h k
all_fresh focus m settled waiting h [] [] z whole all coming k = tt
all_fresh focus m settled waiting h [] (s ∷ ss) z whole all coming k = absurd z
all_fresh focus m settled waiting h (p ∷ ps) [] z whole all coming k = absurd z
all_fresh focus m settled waiting h (p ∷ ps) (s ∷ ss) z whole all coming k = (fresh_at focus m settled waiting h p s z.0 whole all coming k, all_fresh focus m settled waiting h ps ss z.1 whole all coming k)

pub stores_at : (focus : Bool) (m : ℕ) (settled waiting : List (Entry Sym)) (h : ℕ) (ps : List Plan) (n : ℕ) (ss : List StoreState)
    → AreStoresOf focus ps n ss → AllStand ps ss settled (arrived m (settled ++ waiting)) h → AllZip (IsStoreAt focus m settled waiting h) ps ss
stores_at focus m settled waiting h [] n [] of stand = tt
stores_at focus m settled waiting h [] n (s ∷ ss) of stand = absurd of
stores_at focus m settled waiting h (p ∷ ps) n [] of stand = absurd of
stores_at focus m settled waiting h (p ∷ ps) n (s ∷ ss) of stand =
    (record { plan = (of.0).plan; focus_is = (of.0).focus_is; stands = stand.0 }, stores_at focus m settled waiting h ps (suc n) ss of.1 stand.1)

-- ---- a mark

module _ (seen new : EngineState) (mark : Mark) (answer : List Recognition) (same_plans : new.plans ≡ seen.plans)
    (same_focus : new.focus ≡ seen.focus) (same_count : new.accepted ≡ seen.accepted) (all_marked : new.marked ≡ seen.accepted) (none : new.fresh ≡ []) (floor : new.history.floor ≡ seen.history.floor)
    (few : seen.accepted < 2 ^ 32) (of : AreStoresOf seen.focus (plans_of seen.plans) 0 seen.stores) (later : seen.horizon ≤ new.horizon)
    (marked : AreMarked new.horizon mark seen.stores seen.history seen.waiting seen.fresh new.stores new.history new.waiting answer) (same : AreSameStores seen.stores new.stores) (s w : List (Entry Sym)) (stands : StandsFor seen s w) where
  parted : w ≡ (marked.settled).done ++ new.waiting
  parted = sym stands.held ∙ (marked.settled).taken.parted

  now_before : before new.horizon w ≡ (marked.settled).done
  now_before = ap (before new.horizon) parted ∙ before_parts new.horizon (marked.settled).done new.waiting (marked.settled).taken.before marked.after

  now_since : since new.horizon w ≡ new.waiting
  now_since = ap (since new.horizon) parted ∙ since_parts new.horizon (marked.settled).done new.waiting (marked.settled).taken.before marked.after

  whole : (s ++ (marked.settled).done) ++ new.waiting ≡ s ++ w
  whole = append_assoc s (marked.settled).done new.waiting ∙ ap (λ (t : List (Entry Sym)). s ++ t) (sym parted)

  up : Ordered (λ x y. entry_cmp x y ≡ Less) ((s ++ (marked.settled).done) ++ new.waiting)
  up = subst (λ (t : List (Entry Sym)). Ordered (λ x y. entry_cmp x y ≡ Less) t) (sym whole) stands.in_order

  up_now : Ordered (λ x y. entry_cmp x y ≡ Less) (s ++ (marked.settled).done)
  up_now = ordered_left (λ x y. entry_cmp x y ≡ Less) (s ++ (marked.settled).done) new.waiting up

  numbered : HaveNumbersBelow seen.accepted ((s ++ (marked.settled).done) ++ new.waiting)
  numbered = subst (λ (t : List (Entry Sym)). HaveNumbersBelow seen.accepted t) (sym whole) stands.numbered

  apart : AreDistinct (s ++ (marked.settled).done)
  apart = ordered_left (λ a b. a.arrival ≢ b.arrival) (s ++ (marked.settled).done) new.waiting numbered.distinct

  done_after : AllByRecursion (λ x. seen.horizon ≤ x.date) (marked.settled).done
  done_after = all_left (λ x. seen.horizon ≤ x.date) (marked.settled).done new.waiting (subst (λ (t : List (Entry Sym)). AllByRecursion (λ x. seen.horizon ≤ x.date) t) parted stands.waiting_after)

  all_before : AllByRecursion (λ x. x.date < new.horizon) (s ++ (marked.settled).done)
  all_before = all_append (λ x. x.date < new.horizon) s (marked.settled).done (all_each {P = λ x. x.date < seen.horizon} s (λ x l. omega arith) stands.settled_before) (marked.settled).taken.before

  few_settled : length (s ++ (marked.settled).done) < 2 ^ 32
  few_settled = let a = numbers_few seen.accepted ((s ++ (marked.settled).done) ++ new.waiting) numbered in let b = length-append (s ++ (marked.settled).done) new.waiting in omega arith

  -- all that was accepted by the last mark
  abbrev had : List (Entry Sym)
  had = arrived seen.marked (s ++ w)

  fresh_after : AllByRecursion (λ x. seen.horizon ≤ x.date) (not_arrived seen.marked w)
  fresh_after = each_from_in (λ x. seen.horizon ≤ x.date) (not_arrived seen.marked w) (λ x i. in_from_each (λ x. seen.horizon ≤ x.date) w stands.waiting_after x (in_filter_back (λ (t : Entry Sym). not (nat_lt t.arrival seen.marked)) w x i).0)

  few_before : length s < 2 ^ 32
  few_before = let a = length-append s (marked.settled).done in let b = few_settled in omega arith

  far_before : AllFar seen.stores seen.horizon seen.history.floor
  far_before = stores_far seen.horizon seen.history.floor seen.focus (plans_of seen.plans) 0 seen.stores of stands.far_back

  old_fresh : (coming : List (Entry Sym)) → AllFresh seen.stores (s ++ w) (s ++ (marked.settled).done) coming s had had seen.horizon new.horizon
  old_fresh coming = all_fresh seen.focus seen.marked s w seen.horizon (plans_of seen.plans) seen.stores stands.stores (s ++ w) (s ++ (marked.settled).done) coming new.horizon

  all_apart : AreDistinct (s ++ w)
  all_apart = stands.numbered.distinct

  pooled_fresh : (b : Bool) → has_prompt seen.plans ≡ b → AllFresh marked.pooled (s ++ w) (s ++ (marked.settled).done) [] s had (s ++ w) seen.horizon new.horizon
  pooled_fresh true e =
      let given : AreGivenFresh new.horizon seen.history (not_arrived seen.marked w) seen.stores marked.pooled = subst (λ (t : List (Entry Sym)). AreGivenFresh new.horizon seen.history t seen.stores marked.pooled) (stands.fresh_is e) marked.given in
      fresh_alike (s ++ w) (s ++ (marked.settled).done) [] s had (had ++ not_arrived seen.marked w) (s ++ w) seen.horizon new.horizon (pool_to s w seen.marked stands.arrived_settled) (pool_from s w seen.marked stands.arrived_settled) marked.pooled
      (fresh_all seen.history s had (s ++ w) (s ++ (marked.settled).done) seen.horizon new.horizon stands.history few_before (not_arrived seen.marked w) seen.stores marked.pooled had (old_fresh (not_arrived seen.marked w)) far_before given (pool_apart s w seen.marked stands.arrived_settled all_apart) fresh_after)
  pooled_fresh false e =
      let plain = stores_plain seen.focus (plans_of seen.plans) 0 seen.stores of e in
      subst (λ (t : List StoreState). AllFresh t (s ++ w) (s ++ (marked.settled).done) [] s had (s ++ w) seen.horizon new.horizon) (sym (plain_all new.horizon seen.history seen.fresh seen.stores marked.pooled plain marked.given))
      (fresh_plain (s ++ w) (s ++ (marked.settled).done) [] s had had (s ++ w) seen.horizon new.horizon seen.stores plain (old_fresh []))

  together : StandTogether marked.pooled seen.history s had s (s ++ w) (marked.settled).done seen.horizon seen.horizon new.horizon
  together = record {
    stores = begin_each s had (s ++ w) (marked.settled).done seen.horizon new.horizon marked.pooled (pooled_fresh (has_prompt seen.plans) refl);
    history = stands.history;
    far = same_far seen.horizon seen.history.floor seen.stores marked.pooled marked.same_pooled far_before;
  }

  done_inside : (x : Entry Sym) → IsIn x (marked.settled).done → IsIn x (s ++ w)
  done_inside x i = in_append_right s w x (subst (IsIn x) (sym parted) (in_append_left (marked.settled).done new.waiting x i))

  offers : (e : ℕ) × StandTogether marked.between new.history s had (s ++ (marked.settled).done) (s ++ w) [] e seen.horizon new.horizon × (e ≤ new.horizon)
  offers = offered_all new.horizon (marked.settled).done marked.pooled marked.between seen.history new.history s had s (s ++ w) seen.horizon seen.horizon together (offered_without new.horizon (marked.settled).done new.waiting marked.pooled marked.between seen.history new.history marked.after (marked.settled).offered) apart done_after (marked.settled).taken.before done_inside
      (ordered_right (λ x y. x.date ≤ y.date) s (marked.settled).done (in_dates (s ++ (marked.settled).done) up_now)) later few_settled

  of_pooled : AreStoresOf seen.focus (plans_of seen.plans) 0 marked.pooled
  of_pooled = stores_same seen.focus (plans_of seen.plans) 0 seen.stores marked.pooled of marked.same_pooled

  after : AllStand (plans_of seen.plans) new.stores (s ++ (marked.settled).done) (s ++ w) new.horizon × ListsAllNew (plans_of seen.plans) 0 mark (λ p. scope_of (chronicle p) s had seen.horizon) (λ p. scope_of (chronicle p) (s ++ (marked.settled).done) (s ++ w) new.horizon) answer
  after = advanced_all new.history mark s had (s ++ (marked.settled).done) (s ++ w) offers.0 seen.horizon new.horizon (before_parts seen.horizon s (marked.settled).done stands.settled_before done_after) (offers.1).history few_settled apart all_apart offers.2
      (λ e i. in_from_each (λ x. x.date < new.horizon) (s ++ (marked.settled).done) all_before e i) (in_dates (s ++ (marked.settled).done) up_now)
      seen.focus (plans_of seen.plans) 0 marked.between new.stores answer (stores_same seen.focus (plans_of seen.plans) 0 marked.pooled marked.between of_pooled (marked.settled).same) (offers.1).stores (offers.1).far marked.advanced

  -- ---- all has arrived by now

  each_arrived : AllByRecursion (λ x. x.arrival < new.marked) ((s ++ (marked.settled).done) ++ new.waiting)
  each_arrived = subst (λ (n : ℕ). AllByRecursion (λ x. x.arrival < n) ((s ++ (marked.settled).done) ++ new.waiting)) (sym all_marked)
      (each_from_in (λ x. x.arrival < seen.accepted) ((s ++ (marked.settled).done) ++ new.waiting) (λ x i. (numbered.numbers x.arrival).1 (in_map (λ (e : Entry Sym). e.arrival) ((s ++ (marked.settled).done) ++ new.waiting) x i)))

  now_arrived : arrived new.marked ((s ++ (marked.settled).done) ++ new.waiting) ≡ s ++ w
  now_arrived = arrived_all new.marked ((s ++ (marked.settled).done) ++ new.waiting) each_arrived ∙ whole

  far_back : AllByRecursion (λ p. IsFarBack p.reach new.horizon new.history.floor) (plans_of seen.plans)
  far_back = subst (λ (z : ℤ). AllByRecursion (λ p. IsFarBack p.reach new.horizon z) (plans_of seen.plans)) (sym floor) (plans_later seen.horizon new.horizon seen.history.floor later (plans_of seen.plans) stands.far_back)

  stands_parted : StandsFor new (s ++ (marked.settled).done) new.waiting
  stands_parted = record {
    settled_before = all_before;
    waiting_after = marked.after;
    in_order = up;
    numbered = subst (λ (n : ℕ). HaveNumbersBelow n ((s ++ (marked.settled).done) ++ new.waiting)) (sym same_count) numbered;
    held = refl;
    counted = (let a = all_marked in let b = same_count in omega (arith, a, b));
    arrived_settled = all_left (λ x. x.arrival < new.marked) (s ++ (marked.settled).done) new.waiting each_arrived;
    fresh_is = λ e. none ∙ sym (arrived_none new.marked new.waiting (all_right (λ x. x.arrival < new.marked) (s ++ (marked.settled).done) new.waiting each_arrived));
    history = (offers.1).history;
    far_back = subst (λ (ps : List Plan). AllByRecursion (λ p. IsFarBack p.reach new.horizon new.history.floor) ps) (sym (ap plans_of same_plans)) far_back;
    stores = subst (λ (b : Bool). AllZip (IsStoreAt b new.marked (s ++ (marked.settled).done) new.waiting new.horizon) (plans_of new.plans) new.stores) (sym same_focus)
        (subst (λ (ps : List Plan). AllZip (IsStoreAt seen.focus new.marked (s ++ (marked.settled).done) new.waiting new.horizon) ps new.stores) (sym (ap plans_of same_plans))
        (stores_at seen.focus new.marked (s ++ (marked.settled).done) new.waiting new.horizon (plans_of seen.plans) 0 new.stores (stores_same seen.focus (plans_of seen.plans) 0 seen.stores new.stores of same)
        (subst (λ (t : List (Entry Sym)). AllStand (plans_of seen.plans) new.stores (s ++ (marked.settled).done) t new.horizon) (sym now_arrived) after.0)));
  }

  pub after_mark : AfterMark seen new mark s w answer
  after_mark = record {
    stands = subst (λ (t : List (Entry Sym)). StandsFor new (s ++ t) (since new.horizon w)) (sym now_before) (subst (λ (t : List (Entry Sym)). StandsFor new (s ++ (marked.settled).done) t) (sym now_since) stands_parted);
    answers = subst (λ (t : List (Entry Sym)). ListsAllNew (plans_of seen.plans) 0 mark (scope_at seen.marked s w seen.horizon) (scope_at new.marked (s ++ t) (since new.horizon w) new.horizon) answer) (sym now_before)
        (subst (λ (t : List (Entry Sym)). ListsAllNew (plans_of seen.plans) 0 mark (scope_at seen.marked s w seen.horizon) (scope_at new.marked (s ++ (marked.settled).done) t new.horizon) answer) (sym now_since)
        (subst (λ (t : List (Entry Sym)). ListsAllNew (plans_of seen.plans) 0 mark (scope_at seen.marked s w seen.horizon) (λ p. scope_of (chronicle p) (s ++ (marked.settled).done) t new.horizon) answer) (sym now_arrived) after.1));
  }

-- ---- the engine's fields

same_length : (olds news : List StoreState) → AreSameStores olds news → length news ≡ length olds
same_length [] [] h = refl
same_length [] (n ∷ news) h = absurd h
same_length (o ∷ olds) [] h = absurd h
same_length (o ∷ olds) (n ∷ news) h = ap suc (same_length olds news h.1)

drop_all : (xs : List StoreState) (n : ℕ) → n ≡ length xs → drop n xs ≡ []
drop_all [] zero e = refl
drop_all [] (suc n) e = refl
drop_all (x ∷ xs) zero e = absurd (omega arith)
drop_all (x ∷ xs) (suc n) e = drop_all xs n (omega arith)

-- the history once the settled entries are added
pub history_before : (h g : ℕ) (past now : HistoryState) (olds news : List StoreState) (held fresh rest : List (Entry Sym)) (mark : Mark) (answer : List Recognition) → AllByRecursion (λ x. x.date < g) past.entries → g ≤ h → AreMarked h mark olds past held fresh news now rest answer → AllByRecursion (λ x. x.date < h) now.entries
history_before h g past now olds news held fresh rest mark answer before_g later m =
    subst (λ (t : List (Entry Sym)). AllByRecursion (λ x. x.date < h) t) (sym (m.settled).kept)
    (all_append (λ x. x.date < h) past.entries (m.settled).done (all_each {P = λ x. x.date < g} past.entries (λ x l. omega arith) before_g) (m.settled).taken.before)

-- a slice of all stores is written back whole
pub written_back : (olds news : List StoreState) (n : ℕ) → n ≡ length olds → AreSameStores olds news → take n (news ++ drop (length news) olds) ≡ news
written_back olds news n e same =
    let l = same_length olds news same in
    ap (λ (t : List StoreState). take n (news ++ t)) (drop_all olds (length news) l) ∙ ap (take n) (append-nil news) ∙ take_all n news (let q : n ≡ length news = e ∙ sym l in omega (arith, q))

pub rest_waiting : (n : ℕ) (held rest : List (Entry Sym)) → AllByRecursion (IsWaiting n) held → IsRestOf held rest → AllByRecursion (IsWaiting n) rest
rest_waiting n held rest h r = all_right (IsWaiting n) r.0 rest (subst (AllByRecursion (IsWaiting n)) r.1 h)

pub engine_on : (seen : EngineState) (news : List StoreState) (now : HistoryState) (rest fresh : List (Entry Sym)) (t h m : ℕ) (stopped : Bool) → IsEngine seen → AreSameStores seen.stores news → IsRestOf seen.waiting rest → h ≤ 2 ^ 42 →
    IsInKeyOrder (now.entries ++ rest) → now.floor ≡ seen.history.floor → (stopped ≡ false → AllByRecursion (λ x. x.date < h) now.entries) →
    seen.horizon ≤ h → AllByRecursion (λ x. h ≤ x.date) rest → (stopped ≡ false → fresh ≡ []) →
    IsEngine (record { plans = seen.plans; stores = news; history = now; waiting = rest; fresh = fresh; delay = seen.delay; last = t; horizon = h; accepted = seen.accepted; marked = m; limit = seen.limit; focus = seen.focus; stopped = stopped })
engine_on seen news now rest fresh t h m stopped is same r low order floor settled later due none = record {
  stores = stores_same seen.focus (plans_of seen.plans) 0 seen.stores news is.stores same;
  waiting = rest_waiting seen.accepted seen.waiting rest is.waiting r;
  few = is.few;
  limited = is.limited;
  not_late = low;
  in_order = order;
  reach = is.reach;
  small = is.small;
  due = due;
  least = subst (λ (z : ℤ). lowest ≤ℤ z) (sym floor) is.least;
  needed = subst (λ (z : ℤ). z ≤ℤ floor_at seen.plans.reach h) (sym floor) (floor_later seen.plans.reach seen.horizon h seen.history.floor later is.needed);
  settled = settled;
  fresh = λ running. subst (λ (t : List (Entry Sym)). AllByRecursion (IsWaiting seen.accepted) t) (sym (none running)) tt;
}

pub rest_due : (h : ℕ) (held rest : List (Entry Sym)) → AllByRecursion (λ x. h ≤ x.date) held → IsRestOf held rest → AllByRecursion (λ x. h ≤ x.date) rest
rest_due h held rest all r = all_right (λ x. h ≤ x.date) r.0 rest (subst (AllByRecursion (λ x. h ≤ x.date)) r.1 all)

pub marked_from : (seen old : EngineState) (news : List StoreState) (now : HistoryState) (rest fresh : List (Entry Sym)) (t h : ℕ) (stopped : Bool) (mark : Mark) (answer : List Recognition) → seen ≡ old → IsEngine seen → seen.horizon ≤ h → AreMarked h mark seen.stores seen.history seen.waiting seen.fresh news now rest answer → AreSameStores seen.stores news → now.floor ≡ seen.history.floor → fresh ≡ [] →
    (s w : List (Entry Sym)) → StandsFor old s w → AfterMark old (record { plans = seen.plans; stores = news; history = now; waiting = rest; fresh = fresh; delay = seen.delay; last = t; horizon = h; accepted = seen.accepted; marked = seen.accepted; limit = seen.limit; focus = seen.focus; stopped = stopped }) mark s w answer
marked_from seen old news now rest fresh t h stopped mark answer view is later marked same floor none s w stands =
    let new : EngineState = record { plans = seen.plans; stores = news; history = now; waiting = rest; fresh = fresh; delay = seen.delay; last = t; horizon = h; accepted = seen.accepted; marked = seen.accepted; limit = seen.limit; focus = seen.focus; stopped = stopped } in
    subst (λ (o : EngineState). AfterMark o new mark s w answer) view
    (after_mark seen new mark answer refl refl refl refl none floor (let a = is.few in let b = is.limited in omega arith) is.stores later marked same s w (subst (λ (o : EngineState). StandsFor o s w) (sym view) stands))

-- ---- the end again

none_newly : (c : Chronicle Sym) (n : ℕ) (mark : Mark) (scope : Scope Sym) (answer : List Recognition) → IsAnswer c n mark scope scope answer → answer ≡ []
none_newly c n mark scope [] l = refl
none_newly c n mark scope (r ∷ answer) l = let k = (l.listed).each in absurd ((k.0).1 (k.0).0)

none_new : (ps : List Plan) (n : ℕ) (mark : Mark) (scope : Plan → Scope Sym) (answer : List Recognition) → ListsAllNew ps n mark scope scope answer → answer ≡ []
none_new [] n mark scope answer k = k
none_new (p ∷ ps) n mark scope answer k =
    k.2 ∙ ap (λ (t : List Recognition). t ++ k.1) (none_newly (chronicle p) n mark (scope p) k.0 k.3) ∙ none_new ps (suc n) mark scope k.1 k.4

none_waiting : (n : ℕ) (ws : List (Entry Sym)) → AllByRecursion (IsWaiting n) ws → AllByRecursion (λ x. 2 ^ 42 ≤ x.date) ws → ws ≡ []
none_waiting n [] h k = refl
none_waiting n (x ∷ ws) h k = let d = (h.0).dated in let e = k.0 in absurd (omega arith)

end_again : (old new : EngineState) → AllByRecursion (IsWaiting old.accepted) old.waiting → old.horizon ≡ 2 ^ 42 → new.horizon ≡ 2 ^ 42 → (mark : Mark) (s w : List (Entry Sym)) (answer : List Recognition) → StandsFor old s w → AfterMark old new mark s w answer → answer ≡ []
end_again old new small at now mark s w answer stands m =
    let none : w ≡ [] = none_waiting old.accepted w (subst (AllByRecursion (IsWaiting old.accepted)) stands.held small) (subst (λ (h : ℕ). AllByRecursion (λ x. h ≤ x.date) w) at stands.waiting_after) in
    let whole : s ++ before new.horizon w ≡ s = ap (λ (t : List (Entry Sym)). s ++ before new.horizon t) none ∙ append-nil s in
    let none_since : since new.horizon w ≡ [] = ap (since new.horizon) none in
    let settled_then : arrived old.marked (s ++ w) ≡ s = ap (λ (t : List (Entry Sym)). arrived old.marked (s ++ t)) none ∙ ap (arrived old.marked) (append-nil s) ∙ arrived_all old.marked s stands.arrived_settled in
    let by_now : AllByRecursion (λ x. x.arrival < new.marked) s = subst (AllByRecursion (λ x. x.arrival < new.marked)) whole (m.stands).arrived_settled in
    let settled_now : arrived new.marked ((s ++ before new.horizon w) ++ since new.horizon w) ≡ s = ap (λ (t : List (Entry Sym)). arrived new.marked (t ++ since new.horizon w)) whole ∙ ap (λ (t : List (Entry Sym)). arrived new.marked (s ++ t)) none_since ∙ ap (arrived new.marked) (append-nil s) ∙ arrived_all new.marked s by_now in
    none_new (plans_of old.plans) 0 mark (λ p. scope_of (chronicle p) s s old.horizon) answer
    (subst (λ (h : ℕ). ListsAllNew (plans_of old.plans) 0 mark (λ p. scope_of (chronicle p) s s old.horizon) (λ p. scope_of (chronicle p) s s h) answer) (now ∙ sym at)
    (subst (λ (t : List (Entry Sym)). ListsAllNew (plans_of old.plans) 0 mark (λ p. scope_of (chronicle p) s s old.horizon) (λ p. scope_of (chronicle p) t s new.horizon) answer) whole
    (subst (λ (t : List (Entry Sym)). ListsAllNew (plans_of old.plans) 0 mark (λ p. scope_of (chronicle p) s s old.horizon) (λ p. scope_of (chronicle p) (s ++ before new.horizon w) t new.horizon) answer) settled_now
    (subst (λ (t : List (Entry Sym)). ListsAllNew (plans_of old.plans) 0 mark (λ p. scope_of (chronicle p) s t old.horizon) (scope_at new.marked (s ++ before new.horizon w) (since new.horizon w) new.horizon) answer) settled_then m.answers))))

pub again_by : (r : Result (List Recognition) Refused) (seen old new : EngineState) (mark : Mark) → seen ≡ old → IsEngine seen → OnOk r (HasMoved old new (2 ^ 42) (2 ^ 42)) → IfOk r (λ a. (s w : List (Entry Sym)) → StandsFor old s w → AfterMark old new mark s w a) → old.horizon ≡ 2 ^ 42 → IfOk r (λ a. (s w : List (Entry Sym)) → StandsFor old s w → a ≡ [])
again_by (Ok a) seen old new mark view is moved marked at = λ s w stands.
    (end_again old new (subst (λ (o : EngineState). AllByRecursion (IsWaiting o.accepted) o.waiting) view is.waiting) at (moved.moved ∙ max-eq_right (let e = at in omega arith)) mark s w a stands (marked s w stands))
again_by (Err e) seen old new mark view is moved marked at = tt

-- a delay changes nothing of what an engine stands for
pub delayed : (seen old : EngineState) (d : ℕ) → seen ≡ old → (s w : List (Entry Sym)) → StandsFor old s w →
    StandsFor (record { plans = seen.plans; stores = seen.stores; history = seen.history; waiting = seen.waiting; fresh = seen.fresh; delay = d; last = seen.last; horizon = seen.horizon; accepted = seen.accepted; marked = seen.marked; limit = seen.limit; focus = seen.focus; stopped = seen.stopped }) s w
delayed seen old d view s w stands =
    let so : StandsFor seen s w = subst (λ (o : EngineState). StandsFor o s w) (sym view) stands in
    record { settled_before = so.settled_before; waiting_after = so.waiting_after; in_order = so.in_order; numbered = so.numbered; held = so.held; counted = so.counted; arrived_settled = so.arrived_settled; fresh_is = so.fresh_is; history = so.history; far_back = so.far_back; stores = so.stores }

-- the horizon moves where that is forward
pub moved_forward : (old new : EngineState) (t h : ℕ) → HasMoved old new t h → old.horizon ≤ h → new.horizon ≡ h
moved_forward old new t h m l = m.moved ∙ max-eq_right l
