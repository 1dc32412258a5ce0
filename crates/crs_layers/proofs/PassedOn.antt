-- A mark goes on through the strata above one.
use Rattle.std.proofs.Common.{◌≡◌, ℕ, suc, ◌+◌, ◌≤◌, ◌||◌, Bool, true, false, nat_lt, cond, List, [], ◌∷◌, ◌++◌, length, map, refl, sym, ap, subst, ◌∙◌, arith, inl, inr, length-append, lt-ltb}
use Rattle.std.specs.List.{AllByRecursion, AllZip, list_any, flat_map}
use Rattle.std.proofs.lemmas.Bool.{cases_lt, le-ltb}
use Rattle.crs_base.specs.declared.symbols.Sym.{Sym}
use Rattle.crs_base.specs.Entry.{Entry}
use Rattle.crs_base.proofs.Alls.{all_append}
use Rattle.crs_model.specs.declared.plan.Plan.{Plan}
use Rattle.crs_model.specs.declared.recognition.Mark.{Mark}
use Rattle.crs_model.specs.declared.recognition.Recognition.{Recognition}
use Rattle.crs_model.specs.Plans.{chronicle}
use Rattle.crs_model.specs.Renaming.{text_in, IsEntryOf, IsChronicleOf, IsPatternOf}
use Rattle.crs_model.specs.Scopes.{Scope}
use Rattle.crs_engine.specs.Engines.{EngineState, plans_of}
use Rattle.crs_engine.specs.Marks.{ListsAllNew}
use Rattle.crs_layers.specs.Strata.{Placed, Stratum, taken, with_given, is_flooded, scope_in, IsMarkFrom}
use Rattle.crs_layers.specs.Runs.{some_flooded}
use Rattle.crs_layers.specs.LayerPlans.{placed_of, picked, IsLayerOf, AreLayersOf}
use Rattle.crs_layers.specs.Accepting.{IsSameLayer}
use Rattle.crs_layers.specs.Giving.{is_flooded_by, HasTaken, HaveTaken, IsGoing, AreDue, IsWhole, given_of}
use Rattle.crs_layers.specs.Marks.{HasMarked, IsInTime}
use Rattle.crs_model.specs.declared.recognition.Mark.TheVariants.{Clock, Finish}
use Rattle.crs_layers.specs.Passing.{Passing, next_horizon, AreReadyFor, AnswerFrom, HavePassed, IsTimely}
use Rattle.crs_layers.specs.Standing.{HasText, AreLayersAt}
use Rattle.crs_layers.specs.declared.layer.Layer.{Layer}
use Rattle.crs_layers.proofs.Beginning.{picked_each}
use Rattle.crs_layers.proofs.Passing.{taken_at, taken_of, fed_all, going_at}
use Rattle.crs_layers.proofs.Passed.{whole, due_above, come, gift, gift_is, gift_known, gift_due, stands_next, answers_here}
use Rattle.crs_layers.proofs.Regiven.{given_to, AreFed, scope_same, first_marked}

-- ---- what is taken has texts

taken_known : (texts : List (List ℕ)) (limit n : ℕ) (ys : List (Entry Sym)) → AllByRecursion (IsEntryOf (HasText texts)) ys → AllByRecursion (IsEntryOf (HasText texts)) (taken limit n ys)
taken_known texts limit n [] h = tt
taken_known texts limit n (y ∷ ys) h = by (nat_lt n limit) (taken_known texts limit (n + 1) ys h.1)
  where
    by : (b : Bool) → AllByRecursion (IsEntryOf (HasText texts)) (taken limit (n + 1) ys) → AllByRecursion (IsEntryOf (HasText texts)) (cond b (record y { arrival = n } ∷ taken limit (n + 1) ys) [])
    by true k = (record { name = h.0.name; args = h.0.args; change = h.0.change }, k)
    by false k = tt

pub given_known : (texts : List (List ℕ)) (limit : ℕ) (ys : List (Entry Sym)) → AllByRecursion (IsEntryOf (HasText texts)) ys → (ss : List (Stratum Sym))
    → AllByRecursion (λ s. AllByRecursion (IsEntryOf (HasText texts)) s.accepted) ss → AllByRecursion (λ s. AllByRecursion (IsEntryOf (HasText texts)) s.accepted) (map (given_to limit ys) ss)
given_known texts limit ys h [] k = tt
given_known texts limit ys h (s ∷ ss) k =
    (all_append (IsEntryOf (HasText texts)) s.accepted (taken limit (length s.accepted) ys) k.0 (taken_known texts limit (length s.accepted) ys h), given_known texts limit ys h ss k.1)

-- ---- the answers are read by what the strata were before they were given more

answers_back : (plans : List Plan) (numbers : List ℕ) (mark : Mark) (g h : ℕ → ℕ) (limit j : ℕ) (ys : List (Entry Sym)) (ss ts : List (Stratum Sym)) (answers : List (List Recognition)) → AreFed g j ys ss
    → AnswerFrom plans numbers mark g h j (map (given_to limit ys) ss) ts answers → AnswerFrom plans numbers mark g h j ss ts answers
answers_back plans numbers mark g h limit j ys [] ts answers f k = k
answers_back plans numbers mark g h limit j ys (s ∷ ss) [] answers f k = absurd k
answers_back plans numbers mark g h limit j ys (s ∷ ss) (t ∷ ts) answers f k = (
  k.0,
  k.1,
  k.2,
  subst (λ (q : Plan → Scope Sym). ListsAllNew (picked j plans numbers) 0 mark q (λ p. scope_in t (h j) (chronicle p)) k.0) (λ i p. scope_same limit (g j) ys s f.0 (chronicle p) i) k.3,
  answers_back plans numbers mark g h limit (suc j) ys ss ts k.1 f.1 k.4,
)

-- ---- floods

one_flood : (limit : ℕ) (ys us : List (Entry Sym)) (s : Stratum Sym) (l t : Layer) → l.engine.limit ≡ limit → l.engine.accepted ≡ length s.accepted → t.engine.accepted ≡ length (with_given limit s.accepted ys) → HasTaken ys l t
    → (is_flooded_by (length ys) l || is_flooded limit (given_to limit ys s) us) ≡ is_flooded limit s (ys ++ us)
one_flood limit ys us s l t e a b z = elim (cases_lt l.engine.limit (l.engine.accepted + length ys)) [
  | inl k ↦ (let long = length-append ys us in
      (λ i. lt-ltb l.engine.limit (l.engine.accepted + length ys) k i || is_flooded limit (given_to limit ys s) us)
      ∙ sym (lt-ltb limit (length s.accepted + length (ys ++ us)) (omega (arith, k, e, a, long))))
  | inr k ↦ (let long = length-append ys us in
      let count = z.count in
      let sum : length (with_given limit s.accepted ys) + length us ≡ length s.accepted + length (ys ++ us) = omega (arith, long, count, a, b, k) in
      (λ i. le-ltb l.engine.limit (l.engine.accepted + length ys) k i || nat_lt limit (sum i)))
]

swap : (a b c d : Bool) → ((a || b) || (c || d)) ≡ ((a || c) || (b || d))
swap true b c d = refl
swap false true true d = refl
swap false true false true = refl
swap false true false false = refl
swap false false true d = refl
swap false false false d = refl

module _ (text_of : Sym → List ℕ) (cs : List (Placed Sym)) (limit : ℕ) (g h : ℕ → ℕ) (last delay : ℕ) (ps : List Plan) (ks : List ℕ) (focus : Bool) (ys : List (Entry Sym)) where
  all_floods : (j : ℕ) (given : List (Entry Sym)) (ss news : List (Stratum Sym)) (all : List (List (Entry Sym))) (ls ts : List Layer) → AreLayersAt g last delay j ss ls → AreLayersOf ps ks focus limit j ls
      → AreLayersAt g last delay j (map (given_to limit ys) ss) ts → AllZip (HasTaken ys) ls ts → IsMarkFrom text_of cs limit g h j given (map (given_to limit ys) ss) news all
      → (list_any (is_flooded_by (length ys)) ls || some_flooded limit (map (given_to limit ys) ss) all) ≡ some_flooded limit ss (map (λ us. ys ++ us) all)
  all_floods j given [] news all [] ts k o q z m = refl
  all_floods j given [] news all (l ∷ ls) ts k o q z m = absurd k
  all_floods j given (s ∷ ss) news all [] ts k o q z m = absurd k
  all_floods j given (s ∷ ss) news all (l ∷ ls) [] k o q z m = absurd z
  all_floods j given (s ∷ ss) news all (l ∷ ls) (t ∷ ts) k o q z m =
      let others = m.1 in
      (λ i. (is_flooded_by (length ys) l || list_any (is_flooded_by (length ys)) ls) || some_flooded limit (given_to limit ys s ∷ map (given_to limit ys) ss) (m.4 i))
      ∙ swap (is_flooded_by (length ys) l) (list_any (is_flooded_by (length ys)) ls) (is_flooded limit (given_to limit ys s) given) (some_flooded limit (map (given_to limit ys) ss) others)
      ∙ (λ i. one_flood limit ys given s l t o.0.own_limit k.0.count q.0.count z.0 i || all_floods (suc j) (given ++ m.2) ss m.0 others ls ts k.1 o.1 q.1 z.1 m.6 i)
      ∙ (λ i. some_flooded limit (s ∷ ss) (map (λ us. ys ++ us) (sym m.4 i)))

-- ---- one more stratum

module _ (texts : List (List ℕ)) (mark : Mark) (w : Passing) (s : Stratum Sym) (ss : List (Stratum Sym)) (l m : Layer) (ls ts : List Layer) (answer : List Recognition)
    (first : w.strata ≡ s ∷ ss) (r : AreReadyFor texts mark (record w { strata = s ∷ ss }) (l ∷ ls)) (same : IsSameLayer l m) (z : HasMarked mark l.engine m.engine answer) where
  abbrev gifts : List (Entry Sym)
  gifts = gift texts mark w s ss l m ls answer first r same z

  -- the strata above it, once they were given that
  abbrev pub above_it : Passing
  above_it = record w { stratum = suc w.stratum; strata = map (given_to w.limit gifts) ss }

  falls : (i : ℕ) → w.horizons (suc i) ≤ w.horizons i
  falls i = let b = r.behind i in omega (arith, b)

  fed : AreFed w.horizons (suc w.stratum) gifts ss
  fed = fed_all w.horizons falls gifts w.last w.delay (suc w.stratum) ss ls r.at.1 (gift_due texts mark w s ss l m ls answer first r same z)

  module _ (f : Bool) (t : HaveTaken gifts ls ts f) where
    pub ready_above : AreReadyFor texts mark above_it ts
    ready_above = record {
      distinct = r.distinct;
      proper = r.proper;
      known_plans = r.known_plans;
      placed = r.placed;
      behind = r.behind;
      of = taken_of w.plans w.numbers w.focus w.limit (suc w.stratum) gifts ls ts r.of.1 t.taken;
      at = taken_at w.horizons w.last w.delay (suc w.stratum) w.focus w.limit w.plans w.numbers gifts ss ls ts r.at.1 r.of.1 t.taken;
      known = given_known texts w.limit gifts (gift_known texts mark w s ss l m ls answer first r same z) ss r.known.1;
      timely = r.timely;
    }

    pub passed_on : (us : List Layer) (answers : List (List Recognition)) (f2 : Bool) → HavePassed texts mark above_it us answers f2 → HavePassed texts mark (record w { strata = s ∷ ss }) (m ∷ us) (answer ∷ answers) (f || f2)
    passed_on us answers f2 p =
        let few = r.at.0.few in
        let count = r.at.0.count in
        let limit = r.of.0.own_limit in
        let near = r.of.0.near in
        let lies = same.behind in
        record {
          news = come texts mark w s ss l m ls answer first r same z ∷ p.news;
          given = [] ∷ map (λ xs. gifts ++ xs) p.given;
          is = first_marked (text_in texts) (placed_of w.plans w.numbers) w.limit w.horizons (next_horizon mark w) gifts w.stratum s ss p.news p.given fed (gift_is texts mark w s ss l m ls answer first r same z) p.is;
          of = (
            record {
              own_plans = ap plans_of z.moved.same_plans ∙ r.of.0.own_plans;
              numbers = same.numbers ∙ r.of.0.numbers;
              own_behind = lies ∙ r.of.0.own_behind;
              near = omega (arith, near, lies);
              own_focus = z.moved.same_focus ∙ r.of.0.own_focus;
              own_limit = z.moved.same_limit ∙ limit;
            },
            p.of,
          );
          at = (stands_next texts mark w s ss l m ls answer first r same z, p.at);
          known = (r.known.0, p.known);
          answered = (answer, answers, refl, answers_here texts mark w s ss l m ls answer first r same z, answers_back w.plans w.numbers mark w.horizons (next_horizon mark w) w.limit (suc w.stratum) gifts ss p.news answers fed p.answered);
          flooded =
              (λ i. t.flood_is i || p.flooded i)
              ∙ all_floods (text_in texts) (placed_of w.plans w.numbers) w.limit w.horizons (next_horizon mark w) w.last w.delay w.plans w.numbers w.focus gifts (suc w.stratum) [] ss p.news p.given ls ts r.at.1 r.of.1 ready_above.at t.taken p.is
              ∙ (λ i. sym (le-ltb w.limit (length s.accepted + 0) (omega (arith, few, count, limit))) i || some_flooded w.limit ss (map (λ xs. gifts ++ xs) p.given));
        }

-- ---- the layers as they are

same_gift : (texts : List (List ℕ)) (mark : Mark) (w : Passing) (j : ℕ) (l m : Layer) (answer : List Recognition) → IsLayerOf w.plans w.numbers w.focus w.limit j l → HasMarked mark l.engine m.engine answer
    → plans_of m.engine.plans ≡ picked j w.plans w.numbers
same_gift texts mark w j l m answer o z = ap plans_of z.moved.same_plans ∙ o.own_plans

emits_have_texts : (texts : List (List ℕ)) (ps : List Plan) → AllByRecursion (λ p. IsChronicleOf (HasText texts) (chronicle p)) ps → AllByRecursion (λ p. AllByRecursion (λ e. IsPatternOf (HasText texts) e.pattern) (chronicle p).emits) ps
emits_have_texts texts [] h = tt
emits_have_texts texts (p ∷ ps) h = (h.0.emits, emits_have_texts texts ps h.1)

-- what giving wants, what the strata above it are ready for, and what becomes of all
pub record GoesOn (texts : List (List ℕ)) (mark : Mark) (w : Passing) (l m : Layer) (ls : List Layer) (answer : List Recognition) : Type 0 where
  pub going : AllByRecursion IsGoing ls
  pub due : AreDue ls (flat_map (given_of (text_in texts) (plans_of m.engine.plans)) answer)
  pub whole : AllByRecursion (IsWhole texts) answer
  pub patterns : AllByRecursion (λ p. AllByRecursion (λ e. IsPatternOf (HasText texts) e.pattern) (chronicle p).emits) (plans_of m.engine.plans)
  pub ready : (f : Bool) (ts : List Layer) → HaveTaken (flat_map (given_of (text_in texts) (plans_of m.engine.plans)) answer) ls ts f → (v : Passing) × AreReadyFor texts mark v ts
  pub passed : (f f2 : Bool) (ts us : List Layer) (answers : List (List Recognition)) → HaveTaken (flat_map (given_of (text_in texts) (plans_of m.engine.plans)) answer) ls ts f
      → ((v : Passing) → AreReadyFor texts mark v ts → HavePassed texts mark v us answers f2) → HavePassed texts mark w (m ∷ us) (answer ∷ answers) (f || f2)

pub goes_on : (texts : List (List ℕ)) (mark : Mark) (w : Passing) (l m : Layer) (ls : List Layer) (answer : List Recognition) → AreReadyFor texts mark w (l ∷ ls) → IsSameLayer l m → HasMarked mark l.engine m.engine answer → GoesOn texts mark w l m ls answer
goes_on texts mark w l m ls answer ready same z = by w.strata refl (ready.at)
  where
    by : (strata : List (Stratum Sym)) → w.strata ≡ strata → AreLayersAt w.horizons w.last w.delay w.stratum strata (l ∷ ls) → GoesOn texts mark w l m ls answer
    by [] e k = absurd k
    by (s ∷ ss) e k =
        let r : AreReadyFor texts mark (record w { strata = s ∷ ss }) (l ∷ ls) = subst (λ (xs : List (Stratum Sym)). AreReadyFor texts mark (record w { strata = xs }) (l ∷ ls)) e ready in
        let own : plans_of m.engine.plans ≡ picked w.stratum w.plans w.numbers = same_gift texts mark w w.stratum l m answer ready.of.0 z in
        let to : (ps : List Plan) → List (Entry Sym) = λ ps. flat_map (given_of (text_in texts) ps) answer in
        record {
          going = going_at w.horizons w.last w.delay (suc w.stratum) ss ls r.at.1;
          due = subst (λ (ps : List Plan). AreDue ls (to ps)) (sym own) (due_above texts mark w s ss l m ls answer e r same z);
          whole = whole texts mark w s ss l m ls answer e r same z;
          patterns = subst (λ (ps : List Plan). AllByRecursion (λ p. AllByRecursion (λ e. IsPatternOf (HasText texts) e.pattern) (chronicle p).emits) ps) (sym own)
              (emits_have_texts texts (picked w.stratum w.plans w.numbers) (picked_each (λ p. IsChronicleOf (HasText texts) (chronicle p)) w.stratum w.plans w.numbers ready.known_plans));
          ready = λ f ts t. (above_it texts mark w s ss l m ls ts answer e r same z, ready_above texts mark w s ss l m ls ts answer e r same z f (subst (λ (ps : List Plan). HaveTaken (to ps) ls ts f) own t));
          passed = λ f f2 ts us answers t p.
              (let given = subst (λ (ps : List Plan). HaveTaken (to ps) ls ts f) own t in
              subst (λ (xs : List (Stratum Sym)). HavePassed texts mark (record w { strata = xs }) (m ∷ us) (answer ∷ answers) (f || f2)) (sym e)
              (passed_on texts mark w s ss l m ls ts answer e r same z f given us answers f2
              (p (above_it texts mark w s ss l m ls ts answer e r same z) (ready_above texts mark w s ss l m ls ts answer e r same z f given))));
        }

pub passed_none : (texts : List (List ℕ)) (mark : Mark) (w : Passing) → AreReadyFor texts mark w [] → HavePassed texts mark w [] [] false
passed_none texts mark w ready = by w.strata refl ready.at
  where
    by : (strata : List (Stratum Sym)) → w.strata ≡ strata → AreLayersAt w.horizons w.last w.delay w.stratum strata [] → HavePassed texts mark w [] [] false
    by (s ∷ ss) e k = absurd k
    by [] e k = subst (λ (xs : List (Stratum Sym)). HavePassed texts mark (record w { strata = xs }) [] [] false) (sym e)
        (record { news = []; given = []; is = (refl, refl); of = ready.of; at = tt; known = tt; answered = refl; flooded = refl })

in_time_at : (mark : Mark) (last : ℕ) (e : EngineState) → e.last ≡ last → IsTimely mark last → IsInTime mark e
in_time_at (Clock t) last e q k = (k.0, let l = k.1 in omega (arith, q, l))
in_time_at Finish last e q k = tt

pub first_ready : (texts : List (List ℕ)) (mark : Mark) (w : Passing) (l : Layer) (ls : List Layer) → AreReadyFor texts mark w (l ∷ ls) → (l.engine.stopped ≡ false) × IsInTime mark l.engine
first_ready texts mark w l ls ready = by w.strata ready.at
  where
    by : (strata : List (Stratum Sym)) → AreLayersAt w.horizons w.last w.delay w.stratum strata (l ∷ ls) → (l.engine.stopped ≡ false) × IsInTime mark l.engine
    by [] k = absurd k
    by (s ∷ ss) k = (k.0.running, in_time_at mark w.last l.engine k.0.clock ready.timely)
