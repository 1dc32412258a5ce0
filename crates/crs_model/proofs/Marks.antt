-- What a store stands for after a mark, and what it answers.
use Rattle.std.proofs.Common.{◌≡◌, ◌≢◌, ℕ, zero, suc, ◌≤◌, ◌<◌, List, [], ◌∷◌, ◌++◌, length, map, refl, sym, ap, subst, ◌∙◌, inl, inr, arith}
use Rattle.std.specs.Prelude.{Some, None, IfSome, slice_get}
use Rattle.std.specs.List.{AllZip, AllByRecursion}
use Rattle.std.proofs.lemmas.List.{append-nil, length-map}
use Rattle.std.proofs.lemmas.Bool.{le-ltb, lt-ltb, cases_lt}
use Rattle.crs_base.specs.Words.{IsIn, Ordered}
use Rattle.crs_base.proofs.Words.{in_from_each}
use Rattle.crs_base.specs.Entry.{Entry}
use Rattle.crs_model.specs.Models.{Chronicle, EventDef}
use Rattle.crs_model.specs.Matching.{Binding, Assignment, IsAssignment}
use Rattle.crs_model.specs.Partial.{Partial, at, IsPartial, EqualsAll, GivesNoneTwice}
use Rattle.crs_model.specs.Proper.{IsNamed}
use Rattle.crs_model.specs.Open.{IsOpen, IsRecognised, IsRecognisedWhole, AllWanted, StandsFor, before, whole}
use Rattle.crs_model.specs.Images.{IsImage}
use Rattle.crs_model.specs.Verdicts.{IsMet}
use Rattle.crs_model.specs.Steps.{GoesOn}
use Rattle.crs_model.proofs.Options.{of_some, some_if, get_within}
use Rattle.crs_model.proofs.Least.{pattern_agrees}
use Rattle.crs_model.proofs.StaysMet.{met_grows, met_not_lost}
use Rattle.crs_model.proofs.Offers.{at_whole, same_pool}

module _ {S : Type 0} where
  -- ---- lists of entries in the order of their dates

  pub before_all : (h : ℕ) (entries : List (Entry S)) → ((e : Entry S) → IsIn e entries → e.date < h) → before h entries ≡ entries
  before_all h [] l = refl
  before_all h (e ∷ es) l = rw (lt-ltb e.date h (l e (inl refl))) (ap (λ (t : List (Entry S)). e ∷ t) (before_all h es (λ x i. l x (inr i))))

  abbrev pub InDates : List (Entry S) → Type 0
  InDates es = Ordered (λ d e. d.date ≤ e.date) es

  -- those before g, and then the rest
  pub parted : (g : ℕ) (entries : List (Entry S)) → InDates entries → (rest : List (Entry S)) × (entries ≡ before g entries ++ rest) × ((e : Entry S) → IsIn e rest → g ≤ e.date)
  parted g [] o = ([], refl, λ e i. absurd i)
  parted g (e ∷ es) o = elim (cases_lt e.date g) [
    | inl l ↦ let r = parted g es o.1 in (r.0, rw (lt-ltb e.date g l) (ap (λ (t : List (Entry S)). e ∷ t) r.1), r.2)
    | inr l ↦ (
      e ∷ es,
      rw (le-ltb e.date g l) (ap (λ (t : List (Entry S)). t ++ e ∷ es) (sym (none_before g es (λ x i. let m = in_from_each (λ (y : Entry S). e.date ≤ y.date) es o.0 x i in omega arith)))),
      λ x i. elim i [ inl s ↦ subst (λ (y : Entry S). g ≤ y.date) (sym s) l | inr j ↦ let m = in_from_each (λ (y : Entry S). e.date ≤ y.date) es o.0 x j in omega arith ],
    )
  ]
    where
      none_before : (g : ℕ) (es : List (Entry S)) → ((x : Entry S) → IsIn x es → g ≤ x.date) → before g es ≡ []
      none_before g [] l = refl
      none_before g (x ∷ es) l = rw (le-ltb x.date g (l x (inl refl))) (none_before g es (λ y i. l y (inr i)))

  -- ---- assignments and partial assignments

  zip_at : {V : Type 0} (R : V → Entry S → Type 0) (vs : List V) (es : List (Entry S)) → AllZip R vs es → (e : ℕ) → IfSome (slice_get vs e) (λ v. IfSome (at (map Some es) e) (λ x. R v x))
  zip_at R [] [] h e = tt
  zip_at R [] (x ∷ es) h e = absurd h
  zip_at R (v ∷ vs) [] h e = absurd h
  zip_at R (v ∷ vs) (x ∷ es) h zero = h.0
  zip_at R (v ∷ vs) (x ∷ es) h (suc e) = zip_at R vs es h.1 e

  zip_length : {V : Type 0} (R : V → Entry S → Type 0) (vs : List V) (es : List (Entry S)) → AllZip R vs es → length es ≡ length vs
  zip_length R [] [] h = refl
  zip_length R [] (x ∷ es) h = absurd h
  zip_length R (v ∷ vs) [] h = absurd h
  zip_length R (v ∷ vs) (x ∷ es) h = ap suc (zip_length R vs es h.1)

  pub whole_in : (es : List (Entry S)) (e : ℕ) (x : Entry S) → at (map Some es) e ≡ Some x → IsIn x es
  whole_in [] e x h = absurd cc
  whole_in (y ∷ es) zero x h = inl (cc)
  whole_in (y ∷ es) (suc e) x h = inr (whole_in es e x h)

  whole_distinct : (es : List (Entry S)) → Ordered (λ d e. d.arrival ≢ e.arrival) es → GivesNoneTwice (map Some es)
  whole_distinct [] o e f n = tt
  whole_distinct (x ∷ es) o zero zero n = absurd (n refl)
  whole_distinct (x ∷ es) o zero (suc f) n = some_if (at (map Some es) f) _ (λ y i. in_from_each (λ (z : Entry S). x.arrival ≢ z.arrival) es o.0 y (whole_in es f y i))
  whole_distinct (x ∷ es) o (suc e) zero n = some_if (at (map Some es) e) _ (λ y i s. in_from_each (λ (z : Entry S). x.arrival ≢ z.arrival) es o.0 y (whole_in es e y i) (sym s))
  whole_distinct (x ∷ es) o (suc e) (suc f) n = whole_distinct es o.1 e f (λ s. n (ap suc s))

  get_past : (values : List S) (v : ℕ) → length values ≤ v → slice_get values v ≡ None
  get_past [] v l = refl
  get_past (y ∷ values) zero l = absurd (omega arith)
  get_past (y ∷ values) (suc v) l = get_past values v (omega arith)

  get_some : (values : List S) (v : ℕ) → v < length values → (x : S) × (slice_get values v ≡ Some x)
  get_some [] v l = absurd (omega arith)
  get_some (y ∷ values) zero l = (y, refl)
  get_some (y ∷ values) (suc v) l = get_some values v (omega arith)

  same_lists : (xs ys : List S) → ((v : ℕ) → slice_get xs v ≡ slice_get ys v) → xs ≡ ys
  same_lists [] [] h = refl
  same_lists [] (y ∷ ys) h = let e = h 0 in absurd cc
  same_lists (x ∷ xs) [] h = let e = h 0 in absurd cc
  same_lists (x ∷ xs) (y ∷ ys) h = let e = h 0 in let f : x ≡ y = cc in let r = same_lists xs ys (λ v. h (suc v)) in (λ i. f i ∷ r i)

  some_entry : (es : List (Entry S)) (e : ℕ) → e < length es → (x : Entry S) × (at (map Some es) e ≡ Some x)
  some_entry [] e l = absurd (omega arith)
  some_entry (y ∷ es) zero l = (y, refl)
  some_entry (y ∷ es) (suc e) l = some_entry es e (omega arith)

  event_within : (evs : List (EventDef S)) (e : ℕ) (ev : EventDef S) → slice_get evs e ≡ Some ev → e < length evs
  event_within [] e ev h = absurd cc
  event_within (y ∷ evs) zero ev h = omega arith
  event_within (y ∷ evs) (suc e) ev h = let l = event_within evs e ev h in omega arith

  module _ (c : Chronicle S) (named : IsNamed c) where
    -- the binding is the same wherever both equal all of the same entries
    same_at : (es : List (Entry S)) (one two : Binding S) → length es ≡ length c.events → EqualsAll c (map Some es) one → EqualsAll c (map Some es) two → (v : ℕ) → v < length c.variables → one v ≡ two v
    same_at es one two len h k v l =
        let s = named.stands v l in
        let x = some_entry es s.0 (let m = event_within c.events s.0 s.1 s.2 in omega arith) in
        pattern_agrees one two v (s.1).pattern x.0 s.3
        (of_some (at (map Some es) s.0) x.0 _ x.1 (of_some (slice_get c.events s.0) s.1 _ s.2 (h s.0)))
        (of_some (at (map Some es) s.0) x.0 _ x.1 (of_some (slice_get c.events s.0) s.1 _ s.2 (k s.0)))

    assigned_partial : (pool : List (Entry S)) (b : Assignment S) → IsAssignment c pool b → IsPartial c pool (whole b) (slice_get b.values)
    assigned_partial pool b h =
        let len = zip_length _ c.events b.entries h.equal in
        let equal : EqualsAll c (whole b) (slice_get b.values) = zip_at _ c.events b.entries h.equal in
        record {
          len = length-map b.entries Some ∙ len;
          given = λ e. some_if (at (whole b) e) _ (λ x i. in_from_each (λ (y : Entry S). IsIn y pool) b.entries h.given x (whole_in b.entries e x i));
          distinct = whole_distinct b.entries h.distinct;
          binding = record {
            equal = equal;
            least = λ other o v x e. sym (same_at b.entries (slice_get b.values) other len equal o v (let l = get_within b.values v x e in let m = h.bound in omega arith)) ∙ e;
          };
          allowed = h.allowed;
        }

    pub recognised_open : (level : ℕ → ℕ) (pool entries : List (Entry S)) (h : ℕ) (b : Assignment S) → IsRecognised c pool entries h b → IsOpen c level pool entries h (whole b)
    recognised_open level pool entries h b r =
        let full : (e : ℕ) → e < length (whole b) → at (whole b) e ≡ None → ⊥ = (λ e l n. at_whole b.entries e (subst (λ (k : ℕ). e < k) (length-map b.entries Some) l) n) in
        record {
          look = slice_get b.values;
          partial = assigned_partial pool b r.assignment;
          closed = λ e f l m n. absurd (full e l n);
          dates = ((r.bounds).0, (r.bounds).1, (r.bounds).2, λ f w. absurd (full f w.within w.unbound));
          windows = λ w i l. met_not_lost (slice_get b.values) (whole b) entries h w (r.windows w i) l;
        }

    -- the same entries have the same values
    pub same_values : (pool other : List (Entry S)) (a b : Assignment S) → IsAssignment c pool a → IsAssignment c other b → a.entries ≡ b.entries → a ≡ b
    same_values pool other a b h k e =
        let len = zip_length _ c.events a.entries h.equal in
        let ea : EqualsAll c (map Some a.entries) (slice_get a.values) = zip_at _ c.events a.entries h.equal in
        let eb : EqualsAll c (map Some a.entries) (slice_get b.values) = subst (λ (es : List (Entry S)). EqualsAll c (map Some es) (slice_get b.values)) (sym e) (zip_at _ c.events b.entries k.equal) in
        let vs : a.values ≡ b.values = same_lists a.values b.values (λ v. elim (cases_lt v (length c.variables)) [
          | inl l ↦ same_at a.entries (slice_get a.values) (slice_get b.values) len ea eb v l
          | inr l ↦ get_past a.values v (let m = h.bound in omega arith) ∙ sym (get_past b.values v (let m = k.bound in omega arith))
        ]) in
        λ i. record { entries = e i; values = vs i }

  unwhole : (xs ys : List (Entry S)) → map Some xs ≡ map Some ys → xs ≡ ys
  unwhole [] [] e = refl
  unwhole [] (y ∷ ys) e = absurd cc
  unwhole (x ∷ xs) [] e = absurd cc
  unwhole (x ∷ xs) (y ∷ ys) e =
      let f : x ≡ y = head_of e in
      let r = unwhole xs ys (tail_of e) in (λ i. f i ∷ r i)
    where
      head_of : Some x ∷ map Some xs ≡ Some y ∷ map Some ys → x ≡ y
      head_of e = cc

      tail_of : Some x ∷ map Some xs ≡ Some y ∷ map Some ys → map Some xs ≡ map Some ys
      tail_of e = cc

-- ---- a mark

module _ {S : Type 0} (c : Chronicle S) (named : IsNamed c) (level : ℕ → ℕ) (held : List (Partial S)) (was pool entries : List (Entry S)) (d g h : ℕ) (stands : StandsFor c level AllWanted held was pool entries d g)
    (later : d ≤ h) (dated : (e : Entry S) → IsIn e entries → e.date < h) (in_dates : InDates entries) where
  marked_before : g ≤ h
  marked_before = let m = stands.marked in omega arith

  given_more : (xs : List (Entry S)) → AllByRecursion (λ e. IsIn e was) xs → AllByRecursion (λ e. IsIn e pool) xs
  given_more [] k = tt
  given_more (x ∷ xs) k = (stands.was_in x k.0, given_more xs k.1)

  -- what was recognised at the last mark still is
  pub still_recognised : (b : Assignment S) → IsRecognised c was (before g entries) g b → IsRecognised c pool entries h b
  still_recognised b r =
      let p = parted g entries in_dates in
      let a = r.assignment in
      record {
        assignment = record { given = given_more b.entries a.given; distinct = a.distinct; bound = a.bound; equal = a.equal; allowed = a.allowed };
        bounds = r.bounds;
        windows = λ w i. subst (λ (t : List (Entry S)). IsMet (slice_get b.values) (whole b) t h w) (sym p.1) (met_grows (before g entries) p.0 g h marked_before p.2 (slice_get b.values) (whole b) w (r.windows w i));
      }

  same_entries : before h entries ≡ entries
  same_entries = before_all h entries dated

  open_before : (a : Partial S) → IsOpen c level pool entries h a → IsOpen c level pool entries d a
  open_before a k = same_pool c pool entries [] was d h g later (λ e i. absurd i) level a (subst (λ (t : List (Entry S)). IsOpen c level pool t h a) (sym (append-nil entries)) k)

  -- what is new is what is held and recognised
  pub new_is_held : (b : Assignment S) → IsRecognised c pool entries h b → (IsRecognised c was (before g entries) g b → ⊥) → IsIn (whole b) held
  new_is_held b r fresh = stands.all (whole b) (
    open_before (whole b) (recognised_open c named level pool entries h b r),
    λ w.
        let s = same_values c named pool was b w.0 r.assignment (w.2).assignment (unwhole b.entries (w.0).entries w.1) in
        fresh (subst (λ (t : Assignment S). IsRecognised c was (before g entries) g t) (sym s) w.2),
  ) tt

  pub held_is_new : (b : Assignment S) → IsIn (whole b) held → IsRecognised c was (before g entries) g b → ⊥
  held_is_new b i r = (stands.each (whole b) i).1 (b, refl, r)

  -- what goes on at the mark: what can still be recognised, and isn't
  abbrev pub Lives : Partial S → Type 0
  Lives a = IsOpen c level pool entries h a × (IsRecognisedWhole c pool entries h a → ⊥)

  pub marked : (out : List (Partial S)) → IsImage (GoesOn Lives) held out → StandsFor c level AllWanted out pool pool entries h h
  marked out im = record {
    was_in = λ e i. i;
    entries_in = stands.entries_in;
    marked = omega arith;
    distinct = im.distinct;
    each = λ a i. let r = im.sound a i in ((r.2).1.0, λ rec. (r.2).1.1 (subst (λ (t : List (Entry S)). IsRecognisedWhole c pool t h a) same_entries rec));
    all = λ a k w. im.complete a a
        (stands.all a (open_before a k.0, λ rec. k.1 (rec.0, rec.1, subst (λ (t : List (Entry S)). IsRecognised c pool t h rec.0) (sym same_entries) (still_recognised rec.0 rec.2))) tt)
        (refl, (k.0, λ rec. k.1 (subst (λ (t : List (Entry S)). IsRecognisedWhole c pool t h a) (sym same_entries) rec)));
  }
