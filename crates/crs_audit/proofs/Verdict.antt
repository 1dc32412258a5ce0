-- The verdict of a claim, from what is found of it step by step.
use Rattle.std.proofs.Common.{◌≡◌, ◌≢◌, ◌∙◌, ◌<◌, ◌≤◌, ◌+◌, ◌^◌, ℕ, zero, suc, Bool, true, false, List, [], ◌∷◌, ◌++◌, length, map, take, nat_lt, refl, sym, ap, subst, arith, inl, inr, Option, Some, None, get_or, lt-ltb, ltb-true}
use Rattle.std.specs.Prelude.{slice_get, option_map, IsSomeAnd, ℤ, Result, Err, if◌then◌else◌}
use Rattle.std.specs.Str.{bytes_eq}
use Rattle.crs_base.specs.declared.entry.Entry.{Entry as CodeEntry}
use Rattle.crs_base.specs.Seen.{entry_of}
use Rattle.crs_base.proofs.Texts.{bytes_same}
use Rattle.crs_report.specs.Printed.{IsPrintable}
use Rattle.std.proofs.lemmas.List.{length-map}
use Rattle.std.specs.List.{AllZip, AllByRecursion}
use Rattle.std.specs.declared.rc.Rc.{Rc}
use Rattle.std.proofs.Common.{Global}
use Rattle.std.specs.declared.cmp.Ordering.TheVariants.{Less}
use Rattle.crs_base.specs.declared.symbols.Sym.{Sym}
use Rattle.crs_base.specs.Words.{IsIn, Ordered}
use Rattle.crs_base.specs.Entry.{Entry, entry_cmp, IsInKeyOrder}
use Rattle.crs_base.proofs.Words.{in_map, in_map_back, in_filter, in_filter_back, in_from_each, each_from_in, ordered_filter, ordered_map}
use Rattle.crs_stn.specs.Bound.{MeetsInPart}
use Rattle.crs_model.specs.declared.plan.Plan.{Plan}
use Rattle.crs_model.specs.declared.recognition.Mark.{Mark}
use Rattle.crs_model.specs.Models.{Chronicle, Window}
use Rattle.crs_model.specs.Matching.{Binding, IsAssignment}
use Rattle.crs_model.specs.Bindings.{look_of}
use Rattle.crs_model.specs.Partial.{Partial, dates_of}
use Rattle.crs_model.specs.Verdicts.{IsMet}
use Rattle.crs_model.specs.Open.{before}
use Rattle.crs_model.specs.Order.{HaveSameMembers, arrived, dated_before}
use Rattle.crs_model.specs.Plans.{IsProper}
use Rattle.crs_model.specs.Renaming.{text_in, renamed_entry, renamed_window, IsChronicleOf, IsEntryOf}
use Rattle.crs_model.specs.SeenModels.{chronicle_of, given}
use Rattle.crs_model.proofs.Parted.{settled_is}
use Rattle.crs_model.proofs.Renamed.{renamed_look, all_dates, values_look, IsLookOf}
use Rattle.crs_model.proofs.RenamedWindows.{HasNoStar, renamed_partial, met_on, met_back, no_stars}
use Rattle.crs_log.specs.Recognitions.{View, scope_in}
use Rattle.crs_report.specs.OutputLines.{recognition_line}
use Rattle.crs_audit.specs.declared.run.Log.{Log}
use Rattle.crs_audit.specs.declared.run.Stand.{Stand}
use Rattle.crs_audit.specs.declared.words.AuditWord.{AuditWord}
use Rattle.crs_audit.specs.declared.words.AuditWord.TheVariants as words
use Rattle.crs_audit.specs.Audits.{Ground, Earlier, chronicle_named, view_at, AreCited, Unless, IsVerdict}
use Rattle.crs_audit.specs.Audited.{chronicle_in, IsPlaceOf}
use Rattle.crs_audit.specs.Cited.{IsAvailable, AreCitedIn, IsCitedBy}
use Rattle.crs_audit.specs.Claims.{Claim}
use Rattle.crs_audit.specs.Fit.{Fits, IsBindingOf}
use Rattle.crs_audit.specs.AuditFaults.{MeetBounds, MeetWindows, IsFitOf}
use Rattle.crs_audit.specs.JudgedClaims.{CanJudge, IsGroundOf}
use Rattle.crs_audit.specs.Notes.{number_of}
use Rattle.crs_audit.specs.Runs.{entries_of, entries_seen, ArePlaced, stand_seen, last_numbered}
use Rattle.crs_audit.specs.ClaimWindows.{settled_in}
use Rattle.crs_audit.proofs.Assigning.{each_bound, assigned, unassigned, all_bound, look_is}
use Rattle.crs_audit.proofs.Dated.{filter_seen, ordered_under}
use Rattle.crs_audit.proofs.Pools.{placed_on, cited_on, cited_back}

-- ---- entries at their places

module _ {S : Type 0} where
  placed_take : (n m : ℕ) (xs : List (Entry S)) → ArePlaced n xs → ArePlaced n (take m xs)
  placed_take n zero [] p = tt
  placed_take n zero (x ∷ xs) p = tt
  placed_take n (suc m) [] p = tt
  placed_take n (suc m) (x ∷ xs) p = (p.0, placed_take (n + 1) m xs p.1)

  at_least : (n : ℕ) (xs : List (Entry S)) (x : Entry S) → ArePlaced n xs → IsIn x xs → n ≤ x.arrival
  at_least n [] x p i = absurd i
  at_least n (y ∷ xs) x p (inl e) = let a : y.arrival ≡ n = p.0 in let b : x.arrival ≡ y.arrival = ap (λ (z : Entry S). z.arrival) e in omega (arith, a, b)
  at_least n (y ∷ xs) x p (inr i) = let l = at_least (n + 1) xs x p.1 i in omega (arith, l)

  in_take : (n m : ℕ) (xs : List (Entry S)) (x : Entry S) → ArePlaced n xs → IsIn x xs → x.arrival < n + m → IsIn x (take m xs)
  in_take n m [] x p i l = absurd i
  in_take n zero (y ∷ xs) x p i l = let k = at_least n (y ∷ xs) x p i in absurd (omega (arith, k, l))
  in_take n (suc m) (y ∷ xs) x p (inl e) l = inl e
  in_take n (suc m) (y ∷ xs) x p (inr i) l = inr (in_take (n + 1) m xs x p.1 i (omega (arith, l)))

  of_take : (n m : ℕ) (xs : List (Entry S)) (x : Entry S) → ArePlaced n xs → IsIn x (take m xs) → IsIn x xs × (x.arrival < n + m)
  of_take n zero [] x p i = absurd i
  of_take n (suc m) [] x p i = absurd i
  of_take n zero (y ∷ xs) x p i = absurd i
  of_take n (suc m) (y ∷ xs) x p (inl e) =
      let a : y.arrival ≡ n = p.0 in let b : x.arrival ≡ y.arrival = ap (λ (z : Entry S). z.arrival) e in (inl e, omega (arith, a, b))
  of_take n (suc m) (y ∷ xs) x p (inr i) = let r = of_take (n + 1) m xs x p.1 i in (inr r.0, let l = r.1 in omega (arith, l))

got_each : {X : Type 0} (R : X → Type 0) (xs : List X) (k : ℕ) (x : X) → AllByRecursion R xs → slice_get xs k ≡ Some x → R x
got_each R [] k x h e = absurd cc
got_each {X} R (y ∷ xs) zero x h e = let same : y ≡ x = cc in subst R same h.0
got_each R (y ∷ xs) (suc k) x h e = got_each R xs k x h.1 e

module _ (all : List (Entry Sym)) (at : Stand) (prompt : Bool) where
  -- what holds of all holds of those that are cited
  pub each_cited : (R : Entry Sym → Type 0) → AllByRecursion R all → (numbers : List ℕ) (es : List (Entry Sym)) → AllZip (IsAvailable all at prompt) numbers es → AllByRecursion R es
  each_cited R h [] [] z = tt
  each_cited R h [] (e ∷ es) z = absurd z
  each_cited R h (n ∷ ns) [] z = absurd z
  each_cited R h (n ∷ ns) (e ∷ es) z = (got_each R all n e h z.0.placed, each_cited R h ns es z.1)

  pub long_cited : (numbers : List ℕ) (es : List (Entry Sym)) → AllZip (IsAvailable all at prompt) numbers es → length es ≡ length numbers
  long_cited [] [] z = refl
  long_cited [] (e ∷ es) z = absurd z
  long_cited (n ∷ ns) [] z = absurd z
  long_cited (n ∷ ns) (e ∷ es) z = ap suc (long_cited ns es z.1)

module _ {T : Type 0} (within : List (Entry T)) where
  zip_others : (n : ℕ) (ns : List ℕ) (e : Entry T) (es : List (Entry T)) → e.arrival ≡ n → AllByRecursion (λ m. n ≢ m) ns → AllZip (λ n e. (e.arrival ≡ n) × IsIn e within) ns es
      → AllByRecursion (λ d. e.arrival ≢ d.arrival) es
  zip_others n [] e [] a h z = tt
  zip_others n [] e (d ∷ es) a h z = absurd z
  zip_others n (m ∷ ns) e [] a h z = absurd z
  zip_others n (m ∷ ns) e (d ∷ es) a h z = ((λ q. h.0 (sym a ∙ q ∙ z.0.0)), zip_others n ns e es a h.1 z.1)

  zip_apart : (ns : List ℕ) (es : List (Entry T)) → AllZip (λ n e. (e.arrival ≡ n) × IsIn e within) ns es → Ordered (λ m n. m ≢ n) ns → Ordered (λ d e. d.arrival ≢ e.arrival) es
  zip_apart [] [] z h = tt
  zip_apart [] (d ∷ es) z h = absurd z
  zip_apart (n ∷ ns) [] z h = absurd z
  zip_apart (n ∷ ns) (e ∷ es) z h = (zip_others n ns e es z.0.0 h.0 z.1, zip_apart ns es z.1 h.1)

  zip_within : (ns : List ℕ) (es : List (Entry T)) → AllZip (λ n e. (e.arrival ≡ n) × IsIn e within) ns es → AllByRecursion (λ e. IsIn e within) es
  zip_within [] [] z = tt
  zip_within [] (d ∷ es) z = absurd z
  zip_within (n ∷ ns) [] z = absurd z
  zip_within (n ∷ ns) (e ∷ es) z = (z.0.1, zip_within ns es z.1)

-- ---- settled entries, with the texts of their symbols

module _ {T : Type 0} (f : Sym → T) (by_key all : List (Entry Sym)) (placed : ArePlaced 0 all) (asc : IsInKeyOrder by_key) (same : HaveSameMembers by_key all) (at : Stand) where
  abbrev r : Entry Sym → Entry T
  r = renamed_entry f

  settled_renamed : map r (settled_in at by_key) ≡ dated_before at.horizon (take at.accepted (map r all))
  settled_renamed =
      let n = at.accepted in
      let h = at.horizon in
      let front : ArePlaced 0 (take n (map r all)) = placed_take 0 n (map r all) (placed_on f 0 all placed) in
      filter_seen r (λ e. nat_lt e.date h) (arrived n by_key)
      ∙ ap (before h) (filter_seen r (λ e. nat_lt e.arrival n) by_key)
      ∙ settled_is h (take n (map r all)) (arrived n (map r by_key))
      (apart_of (take n (map r all)) front)
      (ordered_filter (λ a b. entry_cmp a b ≡ Less) (λ e. nat_lt e.arrival n) (map r by_key)
      (ordered_map (λ a b. entry_cmp a b ≡ Less) (λ a b. entry_cmp a b ≡ Less) r by_key (λ x y l. l) asc))
      (record {
        there = λ x i.
            let k = in_filter_back (λ e. nat_lt e.arrival n) (map r by_key) x i in
            let m = in_map_back r by_key x k.0 in
            let j : IsIn x (map r all) = subst (λ (z : Entry T). IsIn z (map r all)) (sym m.2) (in_map r all m.0 (same.there m.0 m.1)) in
            in_take 0 n (map r all) x (placed_on f 0 all placed) j (let l = ltb-true x.arrival n k.1 in omega arith);
        back = λ x i.
            let k = of_take 0 n (map r all) x (placed_on f 0 all placed) i in
            let m = in_map_back r all x k.0 in
            let j : IsIn x (map r by_key) = subst (λ (z : Entry T). IsIn z (map r by_key)) (sym m.2) (in_map r by_key m.0 (same.back m.0 m.1)) in
            in_filter (λ e. nat_lt e.arrival n) (map r by_key) x j (lt-ltb x.arrival n (let l = k.1 in omega arith));
      })
    where
      above : (n m : ℕ) (es : List (Entry T)) → n < m → ArePlaced m es → AllByRecursion (λ e. n ≢ e.arrival) es
      above n m [] lt p = tt
      above n m (e ∷ es) lt p = ((λ q. let a : e.arrival ≡ m = p.0 in omega (arith, a, q, lt)), above n (m + 1) es (omega (arith, lt)) p.1)

      apart_from : (n : ℕ) (es : List (Entry T)) → ArePlaced n es → Ordered (λ d e. d.arrival ≢ e.arrival) es
      apart_from n [] p = tt
      apart_from n (e ∷ es) p = (subst (λ (k : ℕ). AllByRecursion (λ (d : Entry T). k ≢ d.arrival) es) (sym p.0) (above n (n + 1) es (omega arith) p.1), apart_from (n + 1) es p.1)

      apart_of : (es : List (Entry T)) → ArePlaced 0 es → Ordered (λ d e. d.arrival ≢ e.arrival) es
      apart_of es p = apart_from 0 es p

-- ---- values

looked : (b : List (Option Sym)) (v : ℕ) (x : Sym) → look_of b v ≡ Some x → v < length b
looked [] v x e = absurd cc
looked (o ∷ b) zero x e = omega arith
looked (o ∷ b) (suc v) x e = let l = looked b v x e in omega (arith, l)

pub all_values : (P : Sym → Type 0) (b : List (Option Sym)) → ((v : ℕ) → v < length b → (x : Sym) × P x × (look_of b v ≡ Some x)) → AllByRecursion (λ o. IsSomeAnd o P) b
all_values P [] h = tt
all_values P (o ∷ b) h = (
  (let k = h zero (omega arith) in subst (λ (q : Option Sym). IsSomeAnd q P) (sym k.2) k.1),
  all_values P b (λ v l. h (suc v) (omega (arith, l))),
)

pub given_all : (vs : List Sym) → given (map Some vs) ≡ vs
given_all [] = refl
given_all (x ∷ vs) = ap (λ z. x ∷ z) (given_all vs)

whole_on : {T : Type 0} (f : Sym → T) (es : List (Entry Sym)) → renamed_partial f (map Some es) ≡ map Some (map (renamed_entry f) es)
whole_on f [] = refl
whole_on {T} f (e ∷ es) = ap (λ (xs : List (Option (Entry T))). Some (renamed_entry f e) ∷ xs) (whole_on f es)

pub got : {X : Type 0} (xs : List X) (k : ℕ) (x : X) → k < length xs → x ≡ get_or xs k x → slice_get xs k ≡ Some x
got [] k x l e = absurd (omega (arith, l))
got (y ∷ xs) zero x l e = ap Some (sym e)
got (y ∷ xs) (suc k) x l e = got xs k x (omega (arith, l)) e

got_map : {X Y : Type 0} (h : X → Y) (xs : List X) (k : ℕ) (x : X) → slice_get xs k ≡ Some x → slice_get (map h xs) k ≡ Some (h x)
got_map h [] k x e = absurd cc
got_map h (y ∷ xs) zero x e = let same : y ≡ x = cc in ap (λ z. Some (h z)) same
got_map h (y ∷ xs) (suc k) x e = got_map h xs k x e

-- ---- the verdict, step by step

module _ (g : Ground) (earlier : List Earlier) (bytes : List ℕ) (claim : Claim) (verdict : Option AuditWord) where
  abbrev pub Eighth : Type 0
  Eighth = Unless words.Twice verdict (IsIn (claim.name, claim.numbers) earlier → ⊥) (λ o. verdict ≡ None)

  abbrev pub Seventh : Chronicle (List ℕ) → List (Entry (List ℕ)) → List (List ℕ) → Type 0
  Seventh c e a = Unless words.Text verdict (bytes ++ 10 ∷ [] ≡ recognition_line true c claim.mark (record { entries = e; values = a })) (λ t. Eighth)

  abbrev pub Sixth : Chronicle (List ℕ) → View → List (Entry (List ℕ)) → List (List ℕ) → Type 0
  Sixth c v e a = Unless words.Window verdict ((w : Window (List ℕ)) → IsIn w c.windows → IsMet (slice_get a) (map Some e) v.settled v.horizon w) (λ w. Seventh c e a)

  abbrev pub Fifth : Chronicle (List ℕ) → View → List (Entry (List ℕ)) → List (List ℕ) → Type 0
  Fifth c v e a = Unless words.Bounds verdict (MeetsInPart c.bounds (dates_of (map Some e))) (λ b. Sixth c v e a)

  abbrev pub Fourth : Chronicle (List ℕ) → View → List (Entry (List ℕ)) → Type 0
  Fourth c v e = Unless words.Fit verdict ((values : List (List ℕ)) × IsAssignment c (scope_in c v).pool (record { entries = e; values = values })) (λ a. Fifth c v e a.0)

  abbrev pub Third : Chronicle (List ℕ) → View → Type 0
  Third c v = Unless words.Entry verdict ((entries : List (Entry (List ℕ))) × AreCited c (scope_in c v).pool claim.numbers entries) (λ e. Fourth c v e.0)

  abbrev pub Second : Chronicle (List ℕ) → Type 0
  Second c = Unless words.Mark verdict ((v : View) × (view_at g claim.mark ≡ Some v)) (λ v. Third c v.0)

  pub from_second : (c : Chronicle (List ℕ)) → chronicle_named g.chronicles claim.name ≡ Some c → Second c → IsVerdict g earlier bytes claim verdict
  from_second c e s = inr ((c, e), s)

module _ (plans : List (Rc Plan Global)) (texts : List (List ℕ)) (log : Log) (can : CanJudge plans texts log) (g : Ground) (earlier : List Earlier) (ground : IsGroundOf plans texts log g)
    (bytes : List ℕ) (claim : Claim) where
  abbrev f : Sym → List ℕ
  f = text_in texts

  abbrev P : Sym → Type 0
  P s = s.0 < length texts

  abbrev all : List (Entry Sym)
  all = entries_of log.entries

  abbrev by_key : List (Entry Sym)
  by_key = entries_of log.by_key.items

  apart : (x y : Sym) → P x → P y → f x ≡ f y → x ≡ y
  apart x y k l e = let s = can.distinct x.0 y.0 k l e in λ i. record { 0 = s i }

  pub no_chronicle : IsPlaceOf (map (chronicle_in texts) plans) claim.name None → IsVerdict g earlier bytes claim (Some words.Chronicle)
  no_chronicle h = inl ((λ c. let e : None ≡ Some c.0 = sym (ap (λ cs. chronicle_named cs claim.name) ground.chronicles ∙ h) ∙ c.1 in absurd cc), refl)

  module _ (place : ℕ) (p : Rc Plan Global) (there : slice_get plans place ≡ Some p) (named : IsPlaceOf (map (chronicle_in texts) plans) claim.name (Some place)) where
    abbrev pub code : Chronicle Sym
    code = chronicle_of p.value.chronicle

    abbrev told : Chronicle (List ℕ)
    told = chronicle_in texts p

    abbrev Events : ℕ
    Events = length p.value.chronicle.events

    proper : IsProper p.value
    proper = got_each (λ q. IsProper q.value) plans place p can.proper there

    pub of : IsChronicleOf P code
    of = got_each (λ q. IsChronicleOf P (chronicle_of q.value.chronicle)) plans place p can.chronicles_in there

    found : chronicle_named g.chronicles claim.name ≡ Some told
    found = ap (λ cs. chronicle_named cs claim.name) ground.chronicles ∙ named ∙ got_map (chronicle_in texts) plans place p there

    pub no_mark : last_numbered log.marks (number_of claim.mark) ≡ None → IsVerdict g earlier bytes claim (Some words.Mark)
    no_mark e = from_second g earlier bytes claim (Some words.Mark) told found
        (inl ((λ v. let q : None ≡ Some v.0 = sym (ground.views claim.mark ∙ ap (option_map (λ s. (stand_seen (entries_seen texts log.entries) s).1)) e) ∙ v.1 in absurd cc), refl))

    module _ (at : Stand) (marked : last_numbered log.marks (number_of claim.mark) ≡ Some at) where
      abbrev view : View
      view = (stand_seen (entries_seen texts log.entries) at).1

      seen_view : view_at g claim.mark ≡ Some view
      seen_view = ground.views claim.mark ∙ ap (option_map (λ s. (stand_seen (entries_seen texts log.entries) s).1)) marked

      abbrev given_pool : List (Entry (List ℕ))
      given_pool = (scope_in told view).pool

      from_third : (verdict : Option AuditWord) → Third g earlier bytes claim verdict told view → IsVerdict g earlier bytes claim verdict
      from_third verdict t = from_second g earlier bytes claim verdict told found (inr ((view, seen_view), t))

      many : length told.events ≡ Events
      many = length-map code.events _ ∙ length-map p.value.chronicle.events _

      pub no_entry : IsCitedBy all at p.value.chronicle.prompt Events claim.numbers None → IsVerdict g earlier bytes claim (Some words.Entry)
      no_entry none = from_third (Some words.Entry) (inl (
        (λ e.
            let back = cited_back f all at p.value.chronicle.prompt can.placed claim.numbers e.0 e.1.given in
            none back.0 (record { each = e.1.each ∙ many; apart = e.1.distinct; given = back.1 })),
        refl,
      ))

      module _ (es : List (Entry Sym)) (cited : AreCitedIn all at p.value.chronicle.prompt Events claim.numbers es) where
        abbrev entries : List (Entry (List ℕ))
        entries = map (renamed_entry f) es

        zipped : AllZip (λ n e. (e.arrival ≡ n) × IsIn e given_pool) claim.numbers entries
        zipped = cited_on f all at p.value.chronicle.prompt can.placed claim.numbers es cited.given

        are_cited : AreCited told given_pool claim.numbers entries
        are_cited = record { each = cited.each ∙ sym many; distinct = cited.apart; given = zipped }

        known : AllByRecursion (IsEntryOf P) es
        known = each_cited all at p.value.chronicle.prompt (IsEntryOf P) can.known claim.numbers es cited.given

        distinct : Ordered (λ d e. d.arrival ≢ e.arrival) es
        distinct = ordered_under (renamed_entry f) (λ d e. d.arrival ≢ e.arrival) es (zip_apart given_pool claim.numbers entries zipped cited.apart)

        from_fourth : (verdict : Option AuditWord) → Fourth g earlier bytes claim verdict told view entries → IsVerdict g earlier bytes claim verdict
        from_fourth verdict t = from_third verdict (inr ((entries, are_cited), t))

        pub no_fit : IsBindingOf code es None → IsVerdict g earlier bytes claim (Some words.Fit)
        no_fit none = from_fourth (Some words.Fit) (inl (
          (λ a. let u = unassigned f P apart code of proper.named es a.0 given_pool known a.1 in none (slice_get u.0) u.1),
          refl,
        ))

        module _ (b : List (Option Sym)) (bind : IsBindingOf code es (Some b)) where
          pub each_value : (v : ℕ) → v < length b → (x : Sym) × P x × (look_of b v ≡ Some x)
          each_value v l = each_bound f P apart code of proper.named es (look_of b) known bind.0.0 v (let m : length b ≡ length code.variables = bind.2 in omega (arith, l, m))

          abbrev values : List Sym
          values = (all_bound P b each_value).0

          values_are : b ≡ map Some values
          values_are = (all_bound P b each_value).1

          looks : look_of b ≡ slice_get values
          looks = ap look_of values_are ∙ look_is values

          look_known : IsLookOf f P (look_of b)
          look_known v x e = let k = each_value v (looked b v x e) in let q : Some k.0 ≡ Some x = sym k.2 ∙ e in let same : k.0 ≡ x = cc in subst P same k.1

          renamed_looks : renamed_look f (look_of b) ≡ slice_get (map f values)
          renamed_looks = ap (renamed_look f) looks ∙ sym (values_look f values)

          is_assignment : IsAssignment told given_pool (record { entries = entries; values = map f values })
          is_assignment = assigned f P apart code of proper.named es values known distinct
              (sym (length-map values (λ x. Some x)) ∙ sym (ap length values_are) ∙ bind.2)
              (subst (Fits code es) looks bind.0) given_pool (zip_within given_pool claim.numbers entries zipped)

          from_fifth : (verdict : Option AuditWord) → Fifth g earlier bytes claim verdict told view entries (map f values) → IsVerdict g earlier bytes claim verdict
          from_fifth verdict t = from_fourth verdict (inr ((map f values, is_assignment), t))

          same_dates : dates_of (map Some entries) ≡ dates_of (map Some es)
          same_dates = all_dates f es

          pub no_bounds : (MeetBounds code es → ⊥) → IsVerdict g earlier bytes claim (Some words.Bounds)
          no_bounds none = from_fifth (Some words.Bounds) (inl ((λ m. none (subst (λ (d : ℕ → Option ℤ). MeetsInPart code.bounds d) same_dates m)), refl))

          module _ (meets : MeetBounds code es) where
            from_sixth : (verdict : Option AuditWord) → Sixth g earlier bytes claim verdict told view entries (map f values) → IsVerdict g earlier bytes claim verdict
            from_sixth verdict t = from_fifth verdict (inr (subst (λ (d : ℕ → Option ℤ). MeetsInPart code.bounds d) (sym same_dates) meets, t))

            settled : List (Entry Sym)
            settled = settled_in at by_key

            known_settled : AllByRecursion (IsEntryOf P) (settled_in at by_key)
            known_settled = each_from_in (IsEntryOf P) (settled_in at by_key) (λ e i.
                let a = in_filter_back (λ e. nat_lt e.date at.horizon) (arrived at.accepted by_key) e i in
                let c = in_filter_back (λ e. nat_lt e.arrival at.accepted) by_key e a.0 in
                in_from_each (IsEntryOf P) all can.known e (can.same.there e c.0))

            same_settled : map (renamed_entry f) (settled_in at by_key) ≡ view.settled
            same_settled = settled_renamed f by_key all can.placed can.in_order can.same at

            stars : AllByRecursion (λ w. HasNoStar w.body) code.windows
            stars = let d = proper.declared in no_stars d.0 code code.windows d.2.windows

            window_on : (w : Window Sym) → IsIn w code.windows → IsMet (look_of b) (map Some es) (settled_in at by_key) at.horizon w
                → IsMet (slice_get (map f values)) (map Some entries) view.settled at.horizon (renamed_window f w)
            window_on w i m =
                let k = in_from_each _ code.windows of.windows w i in
                let d = in_from_each (λ w. HasNoStar w.body) code.windows stars w i in
                let r = met_on f P apart (look_of b) look_known (settled_in at by_key) known_settled (map Some es) at.horizon w k d m in
                let r1 = subst (λ (l : Binding (List ℕ)). IsMet l (renamed_partial f (map Some es)) (map (renamed_entry f) (settled_in at by_key)) at.horizon (renamed_window f w)) renamed_looks r in
                let r2 = subst (λ (q : Partial (List ℕ)). IsMet (slice_get (map f values)) q (map (renamed_entry f) (settled_in at by_key)) at.horizon (renamed_window f w)) (whole_on f es) r1 in
                subst (λ (xs : List (Entry (List ℕ))). IsMet (slice_get (map f values)) (map Some entries) xs at.horizon (renamed_window f w)) same_settled r2

            window_back : (w : Window Sym) → IsIn w code.windows → IsMet (slice_get (map f values)) (map Some entries) view.settled at.horizon (renamed_window f w)
                → IsMet (look_of b) (map Some es) (settled_in at by_key) at.horizon w
            window_back w i m =
                let k = in_from_each _ code.windows of.windows w i in
                let d = in_from_each (λ w. HasNoStar w.body) code.windows stars w i in
                let r2 = subst (λ (xs : List (Entry (List ℕ))). IsMet (slice_get (map f values)) (map Some entries) xs at.horizon (renamed_window f w)) (sym same_settled) m in
                let r1 = subst (λ (q : Partial (List ℕ)). IsMet (slice_get (map f values)) q (map (renamed_entry f) (settled_in at by_key)) at.horizon (renamed_window f w)) (sym (whole_on f es)) r2 in
                let r = subst (λ (l : Binding (List ℕ)). IsMet l (renamed_partial f (map Some es)) (map (renamed_entry f) (settled_in at by_key)) at.horizon (renamed_window f w)) (sym renamed_looks) r1 in
                met_back f P apart (look_of b) look_known (settled_in at by_key) known_settled (map Some es) at.horizon w k d r

            pub no_window : (MeetWindows code es by_key at b → ⊥) → IsVerdict g earlier bytes claim (Some words.Window)
            no_window none = from_sixth (Some words.Window) (inl (
              (λ h. none (each_from_in (IsMet (look_of b) (map Some es) (settled_in at by_key) at.horizon) code.windows (λ w i. window_back w i (h (renamed_window f w) (in_map (renamed_window f) code.windows w i))))),
              refl,
            ))

            module _ (windows : MeetWindows code es by_key at b) where
              from_seventh : (verdict : Option AuditWord) → Seventh g earlier bytes claim verdict told entries (map f values) → IsVerdict g earlier bytes claim verdict
              from_seventh verdict t = from_sixth verdict (inr (
                (λ w i.
                    let k = in_map_back (renamed_window f) code.windows w i in
                    subst (IsMet (slice_get (map f values)) (map Some entries) view.settled at.horizon) (sym k.2)
                    (window_on k.0 k.1 (in_from_each (IsMet (look_of b) (map Some es) (settled_in at by_key) at.horizon) code.windows windows k.0 k.1))),
                t,
              ))

              abbrev Line : Type 0
              Line = bytes ++ 10 ∷ [] ≡ recognition_line true told claim.mark (record { entries = entries; values = map f (given b) })

              line_on : Line → bytes ++ 10 ∷ [] ≡ recognition_line true told claim.mark (record { entries = entries; values = map f values })
              line_on = subst (λ (vs : List Sym). bytes ++ 10 ∷ [] ≡ recognition_line true told claim.mark (record { entries = entries; values = map f vs })) (ap given values_are ∙ given_all values)

              line_back : bytes ++ 10 ∷ [] ≡ recognition_line true told claim.mark (record { entries = entries; values = map f values }) → Line
              line_back = subst (λ (vs : List Sym). bytes ++ 10 ∷ [] ≡ recognition_line true told claim.mark (record { entries = entries; values = map f vs })) (sym (ap given values_are ∙ given_all values))

              pub no_text : (Line → ⊥) → IsVerdict g earlier bytes claim (Some words.Text)
              no_text none = from_seventh (Some words.Text) (inl ((λ l. none (line_back l)), refl))

              module _ (line : Line) where
                pub twice : IsIn (claim.name, claim.numbers) earlier → IsVerdict g earlier bytes claim (Some words.Twice)
                twice i = from_seventh (Some words.Twice) (inr (line_on line, inl ((λ n. n i), refl)))

                pub faultless : (IsIn (claim.name, claim.numbers) earlier → ⊥) → IsVerdict g earlier bytes claim None
                faultless n = from_seventh None (inr (line_on line, inr (n, refl)))

      -- what is found wrong with the entries is the verdict
      pub wrong_fit : (es : List (Entry Sym)) → AreCitedIn all at p.value.chronicle.prompt Events claim.numbers es → (word : AuditWord) → IsFitOf code es by_key at (Err word)
          → IsVerdict g earlier bytes claim (Some word)
      wrong_fit es cited words.Fit h = no_fit es cited h
      wrong_fit es cited words.Bounds h = no_bounds es cited h.0 h.1 h.2
      wrong_fit es cited words.Window h = no_window es cited h.0 h.1 h.2 h.3
      wrong_fit es cited words.Form h = absurd h
      wrong_fit es cited words.Chronicle h = absurd h
      wrong_fit es cited words.Mark h = absurd h
      wrong_fit es cited words.Entry h = absurd h
      wrong_fit es cited words.Text h = absurd h
      wrong_fit es cited words.Twice h = absurd h

-- ---- what the program reads, by other names

abbrev Shared : Type 0
Shared = Rc CodeEntry Global

pub there_of : (some plans : List (Rc Plan Global)) (place : ℕ) (p : Rc Plan Global) → some ≡ plans → place < length some → p ≡ get_or some place p → slice_get plans place ≡ Some p
there_of some plans place p e l is = ap (λ (ps : List (Rc Plan Global)). slice_get ps place) (sym e) ∙ got some place p l is

pub named_of : (texts : List (List ℕ)) (some plans : List (Rc Plan Global)) (name : List ℕ) (o : Option ℕ) → some ≡ plans → IsPlaceOf (map (chronicle_in texts) some) name o
    → IsPlaceOf (map (chronicle_in texts) plans) name o
named_of texts some plans name o e h = subst (λ (ps : List (Rc Plan Global)). IsPlaceOf (map (chronicle_in texts) ps) name o) e h

pub cited_of : (some kept : List Shared) (plan : Plan) (p : Rc Plan Global) (n : ℕ) (read numbers : List ℕ) (at : Stand) (o : Option (List (Entry Sym))) → some ≡ kept → plan ≡ p.value
    → n ≡ length plan.chronicle.events → read ≡ numbers → IsCitedBy (entries_of some) at plan.chronicle.prompt n read o
    → IsCitedBy (entries_of kept) at p.value.chronicle.prompt (length p.value.chronicle.events) numbers o
cited_of some kept plan p n read numbers at o a b m r h =
    subst (λ (es : List Shared). IsCitedBy (entries_of es) at p.value.chronicle.prompt (length p.value.chronicle.events) numbers o) a
    (subst (λ (q : Plan). IsCitedBy (entries_of some) at q.chronicle.prompt (length q.chronicle.events) numbers o) b
    (subst (λ (k : ℕ). IsCitedBy (entries_of some) at plan.chronicle.prompt k numbers o) m
    (subst (λ (ns : List ℕ). IsCitedBy (entries_of some) at plan.chronicle.prompt n ns o) r h)))

pub fit_from : (plan : Plan) (p : Rc Plan Global) (some by_key taken es : List Shared) (at : Stand) (o : Result (List (Option Sym)) AuditWord) → plan ≡ p.value → some ≡ by_key → taken ≡ es
    → IsFitOf (chronicle_of plan.chronicle) (entries_of taken) (entries_of some) at o → IsFitOf (chronicle_of p.value.chronicle) (entries_of es) (entries_of by_key) at o
fit_from plan p some by_key taken es at o a b d h =
    subst (λ (q : Plan). IsFitOf (chronicle_of q.chronicle) (entries_of es) (entries_of by_key) at o) a
    (subst (λ (ks : List Shared). IsFitOf (chronicle_of plan.chronicle) (entries_of es) (entries_of ks) at o) b
    (subst (λ (xs : List Shared). IsFitOf (chronicle_of plan.chronicle) (entries_of xs) (entries_of some) at o) d h))

named_is : (cs : List (Chronicle (List ℕ))) (name : List ℕ) (c : Chronicle (List ℕ)) → chronicle_named cs name ≡ Some c → c.name ≡ name
named_is [] name c e = absurd cc
named_is (d ∷ cs) name c e = by (bytes_eq d.name name) refl e (named_is cs name c)
  where
    by : (b : Bool) → bytes_eq d.name name ≡ b → (if b then Some d else chronicle_named cs name) ≡ Some c → (chronicle_named cs name ≡ Some c → c.name ≡ name) → c.name ≡ name
    by true t h on = let same : d ≡ c = cc in ap (λ z. z.name) (sym same) ∙ bytes_same d.name name t
    by false t h on = on h

module _ (plans : List (Rc Plan Global)) (texts : List (List ℕ)) (place : ℕ) (p : Rc Plan Global) (there : slice_get plans place ≡ Some p) where
  -- the name of the chronicle that was found
  pub name_is : (name : List ℕ) → IsPlaceOf (map (chronicle_in texts) plans) name (Some place) → text_in texts p.value.chronicle.name ≡ name
  name_is name h = named_is (map (chronicle_in texts) plans) name (chronicle_in texts p) (h ∙ got_map (chronicle_in texts) plans place p there)

  module _ (log : Log) (can : CanJudge plans texts log) where
    pub name_known : p.value.chronicle.name.0 < length texts
    name_known = (got_each (λ q. IsChronicleOf (λ s. s.0 < length texts) (chronicle_of q.value.chronicle)) plans place p can.chronicles_in there).name

    pub proper_there : IsProper p.value
    proper_there = got_each (λ q. IsProper q.value) plans place p can.proper there

    module _ (at : Stand) (numbers : List ℕ) (es : List Shared)
        (cited : AreCitedIn (entries_of log.entries) at p.value.chronicle.prompt (length p.value.chronicle.events) numbers (entries_of es)) where
      pub each_event : length es ≡ length p.value.chronicle.events
      each_event = sym (length-map es (λ e. entry_of e.value)) ∙ long_cited (entries_of log.entries) at p.value.chronicle.prompt numbers (entries_of es) cited.given ∙ cited.each

      pub each_dated : AllByRecursion (λ e. e.date < 2 ^ 40) (entries_of es)
      each_dated = each_cited (entries_of log.entries) at p.value.chronicle.prompt (λ e. e.date < 2 ^ 40) can.dated numbers (entries_of es) cited.given

      pub printable : (b : List (Option Sym)) → IsBindingOf (chronicle_of p.value.chronicle) (entries_of es) (Some b) → (m : Mark)
          → IsPrintable texts (record { chronicle = place; mark = m; entries = es; binding = b }) (chronicle_of p.value.chronicle)
      printable b bind m =
          let c = chronicle_of p.value.chronicle in
          let P : Sym → Type 0 = λ (s : Sym). s.0 < length texts in
          let of : IsChronicleOf P c = got_each (λ q. IsChronicleOf P (chronicle_of q.value.chronicle)) plans place p can.chronicles_in there in
          let proper = proper_there in
          let known = each_cited (entries_of log.entries) at p.value.chronicle.prompt (IsEntryOf P) can.known numbers (entries_of es) cited.given in
          record {
            name = of.name;
            points = each_mapped P (λ v. v.point) c.events of.points;
            variables = of.variables;
            few = proper.variables_few;
            entries = each_event ∙ sym (length-map p.value.chronicle.events _);
            each = bind.2;
            values = all_values P b (λ v l. each_bound (text_in texts) P
                (λ x y k j e. let s = can.distinct x.0 y.0 k j e in λ i. record { 0 = s i })
                c of proper.named (entries_of es) (look_of b) known bind.0.0 v (let n : length b ≡ length c.variables = bind.2 in omega (arith, l, n)));
          }
        where
          each_mapped : {X Y : Type 0} (R : Y → Type 0) (h : X → Y) (xs : List X) → AllByRecursion (λ x. R (h x)) xs → AllByRecursion R (map h xs)
          each_mapped R h [] k = tt
          each_mapped R h (x ∷ xs) k = (k.0, each_mapped R h xs k.1)

pub dated_by_key : (ordered kept : List (Entry Sym)) → HaveSameMembers ordered kept → AllByRecursion (λ e. e.date < 2 ^ 40) kept → AllByRecursion (λ e. e.date < 2 ^ 40) ordered
dated_by_key ordered kept same dated = each_from_in (λ e. e.date < 2 ^ 40) ordered (λ e i. in_from_each (λ e. e.date < 2 ^ 40) kept dated e (same.there e i))
