-- Recognised assignments with other symbols in place of theirs.
use Rattle.std.proofs.Common.{◌≡◌, ◌≢◌, ℕ, suc, ℤ, List, [], ◌∷◌, map, refl, sym, ap, subst, ◌∙◌, arith}
use Rattle.std.specs.Prelude.{Option, Some, None, IfSome, slice_get, option_map}
use Rattle.std.specs.List.{AllZip, AllByRecursion}
use Rattle.std.proofs.lemmas.List.{length-map}
use Rattle.crs_base.specs.Words.{IsIn}
use Rattle.crs_base.specs.Entry.{Entry, entry_cmp}
use Rattle.std.specs.Ordering.{ordering_then}
use Rattle.std.specs.Cmp.Lexicographic.{slice_cmp}
use Rattle.std.specs.declared.cmp.Ordering.TheVariants.{Less}
use Rattle.crs_model.specs.Order.{assignment_cmp, Lists}
use Rattle.crs_base.proofs.Words.{in_map, in_map_back, ordered_map, each_from_in, in_from_each}
use Rattle.crs_stn.specs.Bound.{MeetsInPart}
use Rattle.crs_model.specs.Models.{Chronicle, Window}
use Rattle.crs_model.specs.Matching.{Binding, Assignment, PatternIs, IsAllowed, IsAssignment}
use Rattle.crs_model.specs.Open.{IsRecognised, whole}
use Rattle.crs_model.specs.Verdicts.{IsMet}
use Rattle.crs_model.specs.Proper.{IsNamed}
use Rattle.crs_model.specs.Renaming.{renamed_event, renamed_window, renamed_chronicle, renamed_entry, renamed_assignment, IsChronicleOf, IsEntryOf}
use Rattle.crs_model.proofs.Options.{get_within}
use Rattle.crs_model.specs.Partial.{Partial}
use Rattle.crs_model.specs.Renaming.{IsBodyOf}
use Rattle.crs_model.proofs.RenamedWindows.{HasNoStar, renamed_partial, met_on, met_back}
use Rattle.crs_model.proofs.Renamed.{renamed_look, patterns_on, all_dates, values_look, sources, IsLookOf, of_events, list_of, look_known, patterns_back, sets_on, sets_back, differs_on, differs_back, ordered_back}

module _ {S T : Type 0} (f : S → T) (P : S → Type 0) (apart : (x y : S) → P x → P y → f x ≡ f y → x ≡ y) (c : Chronicle S) (of : IsChronicleOf P c) (named : IsNamed c)
    (stars : AllByRecursion (λ w. HasNoStar w.body) c.windows) where
  pub known_row : (pool es : List (Entry S)) → AllByRecursion (IsEntryOf P) pool → AllByRecursion (λ e. IsIn e pool) es → AllByRecursion (IsEntryOf P) es
  known_row pool es known h = each_from_in (IsEntryOf P) es (λ e i. in_from_each (IsEntryOf P) pool known e (in_from_each (λ d. IsIn d pool) es h e i))

  -- under the same symbols the renamed look is the look
  unrenamed : (o : Option S) (y : S) → option_map (λ x. x) o ≡ Some y → o ≡ Some y
  unrenamed None y h = absurd (cc)
  unrenamed (Some x) y h = h

  -- the values of an assignment are symbols of its entries
  values_known : (pool : List (Entry S)) (b : Assignment S) → AllByRecursion (IsEntryOf P) pool → IsAssignment c pool b → IsLookOf f P (slice_get b.values)
  values_known pool b known a v x e =
      let stands = named.stands v (let l = get_within b.values v x e in omega (arith, a.bound)) in
      let g = of_events (λ (y : S). y) P (renamed_look (λ (y : S). y) (slice_get b.values)) v c.events b.entries (known_row pool b.entries known a.given)
      (patterns_on (λ (y : S). y) (slice_get b.values) c.events b.entries a.equal) stands.0 stands.1 stands.2 stands.3 in
      let i : Some x ≡ Some g.0 = sym e ∙ unrenamed (slice_get b.values v) g.0 g.2 in
      let same : g.0 ≡ x = cc in
      subst P same g.1

  -- the events that are bound are bound to the entries with the other symbols
  pub whole_renamed : (es : List (Entry S)) → renamed_partial f (map Some es) ≡ map Some (map (renamed_entry f) es)
  whole_renamed [] = refl
  whole_renamed (e ∷ es) = ap (λ (xs : List (Option (Entry T))). Some (renamed_entry f e) ∷ xs) (whole_renamed es)

  body_of : (w : Window S) → IsIn w c.windows → IsBodyOf P w.body
  body_of w i = in_from_each (λ w. IsBodyOf P w.body) c.windows of.windows w i

  star_of : (w : Window S) → IsIn w c.windows → HasNoStar w.body
  star_of w i = in_from_each (λ w. HasNoStar w.body) c.windows stars w i

  -- all windows are met with the other symbols, and back
  windows_on : (entries : List (Entry S)) (h : ℕ) (b : Assignment S) → AllByRecursion (IsEntryOf P) entries → IsLookOf f P (slice_get b.values)
      → ((w : Window S) → IsIn w c.windows → IsMet (slice_get b.values) (whole b) entries h w)
      → (w : Window T) → IsIn w (renamed_chronicle f c).windows → IsMet (slice_get (map f b.values)) (whole (renamed_assignment f b)) (map (renamed_entry f) entries) h w
  windows_on entries h b known look m w i =
      let v = in_map_back (renamed_window f) c.windows w i in
      let met = met_on f P apart (slice_get b.values) look entries known (whole b) h v.0 (body_of v.0 v.1) (star_of v.0 v.1) (m v.0 v.1) in
      let met' = subst (λ (l : Binding T). IsMet l (renamed_partial f (whole b)) (map (renamed_entry f) entries) h (renamed_window f v.0)) (sym (values_look f b.values)) met in
      let met'' = subst (λ (a : Partial T). IsMet (slice_get (map f b.values)) a (map (renamed_entry f) entries) h (renamed_window f v.0)) (whole_renamed b.entries) met' in
      subst (λ (x : Window T). IsMet (slice_get (map f b.values)) (whole (renamed_assignment f b)) (map (renamed_entry f) entries) h x) (sym v.2) met''

  windows_back : (entries : List (Entry S)) (h : ℕ) (b : Assignment S) → AllByRecursion (IsEntryOf P) entries → IsLookOf f P (slice_get b.values)
      → ((w : Window T) → IsIn w (renamed_chronicle f c).windows → IsMet (slice_get (map f b.values)) (whole (renamed_assignment f b)) (map (renamed_entry f) entries) h w)
      → (w : Window S) → IsIn w c.windows → IsMet (slice_get b.values) (whole b) entries h w
  windows_back entries h b known look m w i =
      let met'' = m (renamed_window f w) (in_map (renamed_window f) c.windows w i) in
      let met' = subst (λ (a : Partial T). IsMet (slice_get (map f b.values)) a (map (renamed_entry f) entries) h (renamed_window f w)) (sym (whole_renamed b.entries)) met'' in
      let met = subst (λ (l : Binding T). IsMet l (renamed_partial f (whole b)) (map (renamed_entry f) entries) h (renamed_window f w)) (values_look f b.values) met' in
      met_back f P apart (slice_get b.values) look entries known (whole b) h w (body_of w i) (star_of w i) met

  all_mapped : (pool es : List (Entry S)) → AllByRecursion (λ e. IsIn e pool) es → AllByRecursion (λ e. IsIn e (map (renamed_entry f) pool)) (map (renamed_entry f) es)
  all_mapped pool [] h = tt
  all_mapped pool (e ∷ es) h = (in_map (renamed_entry f) pool e h.0, all_mapped pool es h.1)

  -- what is recognised is recognised with the other symbols
  pub recognised_on : (pool entries : List (Entry S)) (h : ℕ) (b : Assignment S) → AllByRecursion (IsEntryOf P) pool → AllByRecursion (IsEntryOf P) entries
      → IsRecognised c pool entries h b
      → IsRecognised (renamed_chronicle f c) (map (renamed_entry f) pool) (map (renamed_entry f) entries) h (renamed_assignment f b)
  recognised_on pool entries h b known settled r =
      let look : IsLookOf f P (slice_get b.values) = values_known pool b known r.assignment in
      let same : slice_get (map f b.values) ≡ renamed_look f (slice_get b.values) = values_look f b.values in
      record {
        assignment = record {
          given = all_mapped pool b.entries r.assignment.given;
          distinct = ordered_map (λ d e. d.arrival ≢ e.arrival) (λ d e. d.arrival ≢ e.arrival) (renamed_entry f) b.entries (λ d e n. n) r.assignment.distinct;
          bound = length-map b.values f ∙ r.assignment.bound ∙ sym (length-map c.variables f);
          equal = subst (λ (l : Binding T). AllZip (λ v e. PatternIs l v.pattern e) (map (renamed_event f) c.events) (map (renamed_entry f) b.entries)) (sym same) (patterns_on f (slice_get b.values) c.events b.entries r.assignment.equal);
          allowed = subst (λ (l : Binding T). IsAllowed (renamed_chronicle f c) l) (sym same) (record {
            sets = sets_on f P apart (slice_get b.values) c.sets r.assignment.allowed.sets;
            differs = differs_on f P apart (slice_get b.values) look c.differs r.assignment.allowed.differs;
          });
        };
        bounds = subst (λ (d : ℕ → Option ℤ). MeetsInPart c.bounds d) (sym (all_dates f b.entries)) r.bounds;
        windows = windows_on entries h b settled look r.windows;
      }

  -- what is recognised with the other symbols comes of what is recognised
  pub recognised_back : (pool entries : List (Entry S)) (h : ℕ) (d : Assignment T) → AllByRecursion (IsEntryOf P) pool → AllByRecursion (IsEntryOf P) entries
      → IsRecognised (renamed_chronicle f c) (map (renamed_entry f) pool) (map (renamed_entry f) entries) h d
      → (b : Assignment S) × IsRecognised c pool entries h b × (d ≡ renamed_assignment f b)
  recognised_back pool entries h d known settled r =
      let s = sources f pool d.entries r.assignment.given in
      let row : AllByRecursion (IsEntryOf P) s.0 = known_row pool s.0 known s.1 in
      let equal : AllZip (λ v e. PatternIs (slice_get d.values) v.pattern e) (map (renamed_event f) c.events) (map (renamed_entry f) s.0) =
      subst (λ (es : List (Entry T)). AllZip (λ v e. PatternIs (slice_get d.values) v.pattern e) (map (renamed_event f) c.events) es) s.2 r.assignment.equal in
      let ys = list_of f P d.values (λ v l.
      let stands = named.stands v (omega (arith, l, r.assignment.bound, length-map c.variables f)) in
      of_events f P (slice_get d.values) v c.events s.0 row equal stands.0 stands.1 stands.2 stands.3) in
      let b : Assignment S = record { entries = s.0; values = ys.0 } in
      let same : d ≡ renamed_assignment f b = (λ i. record { entries = s.2 i; values = ys.2 i }) in
      let q : IsRecognised (renamed_chronicle f c) (map (renamed_entry f) pool) (map (renamed_entry f) entries) h (renamed_assignment f b) =
      subst (IsRecognised (renamed_chronicle f c) (map (renamed_entry f) pool) (map (renamed_entry f) entries) h) same r in
      let look : IsLookOf f P (slice_get ys.0) = look_known f P ys.0 ys.1 in
      let looks : slice_get (map f ys.0) ≡ renamed_look f (slice_get ys.0) = values_look f ys.0 in
      let allowed : IsAllowed (renamed_chronicle f c) (renamed_look f (slice_get ys.0)) = subst (λ (l : Binding T). IsAllowed (renamed_chronicle f c) l) looks q.assignment.allowed in (
        b,
        record {
          assignment = record {
            given = s.1;
            distinct = ordered_back (λ d e. d.arrival ≢ e.arrival) (λ d e. d.arrival ≢ e.arrival) (renamed_entry f) s.0 (λ d e n. n) q.assignment.distinct;
            bound = sym (length-map ys.0 f) ∙ q.assignment.bound ∙ length-map c.variables f;
            equal = patterns_back f P apart (slice_get ys.0) look c.events s.0 of.patterns row
                (subst (λ (l : Binding T). AllZip (λ v e. PatternIs l v.pattern e) (map (renamed_event f) c.events) (map (renamed_entry f) s.0)) looks q.assignment.equal);
            allowed = record {
              sets = sets_back f P apart (slice_get ys.0) look c.sets of.sets allowed.sets;
              differs = differs_back f P apart (slice_get ys.0) c.differs allowed.differs;
            };
          };
          bounds = subst (λ (d : ℕ → Option ℤ). MeetsInPart c.bounds d) (all_dates f s.0) q.bounds;
          windows = windows_back entries h b settled look q.windows;
        },
        same,
      )

  -- symbols, entries and assignments that are the same with the other symbols are the same
  pub same_symbols : (xs ys : List S) → AllByRecursion P xs → AllByRecursion P ys → map f xs ≡ map f ys → xs ≡ ys
  same_symbols [] [] p q e = refl
  same_symbols [] (y ∷ ys) p q e = cc
  same_symbols (x ∷ xs) [] p q e = cc
  same_symbols (x ∷ xs) (y ∷ ys) p q e =
      let first : f x ≡ f y = cc in
      let rest : map f xs ≡ map f ys = cc in
      let a : x ≡ y = apart x y p.0 q.0 first in
      let b : xs ≡ ys = same_symbols xs ys p.1 q.1 rest in
      λ i. a i ∷ b i

  abbrev pair_on : S × S → T × T
  pair_on c = (f c.0, f c.1)

  same_change : (a b : Option (S × S)) → IfSome a (λ c. P c.0 × P c.1) → IfSome b (λ c. P c.0 × P c.1) → option_map pair_on a ≡ option_map pair_on b → a ≡ b
  same_change None None p q e = refl
  same_change None (Some y) p q e = cc
  same_change (Some x) None p q e = cc
  same_change (Some x) (Some y) p q e =
      let pair : pair_on x ≡ pair_on y = cc in
      let old : x.0 ≡ y.0 = apart x.0 y.0 p.0 q.0 (ap (λ z. z.0) pair) in
      let new : x.1 ≡ y.1 = apart x.1 y.1 p.1 q.1 (ap (λ z. z.1) pair) in
      λ i. Some (old i, new i)

  pub same_entry : (x y : Entry S) → IsEntryOf P x → IsEntryOf P y → renamed_entry f x ≡ renamed_entry f y → x ≡ y
  same_entry x y p q e =
      let name : x.name ≡ y.name = apart x.name y.name p.name q.name (ap (λ z. z.name) e) in
      let args : x.args ≡ y.args = same_symbols x.args y.args p.args q.args (ap (λ z. z.args) e) in
      let change : x.change ≡ y.change = same_change x.change y.change p.change q.change (ap (λ z. z.change) e) in
      λ i. record { arrival = (e i).arrival; date = (e i).date; name = name i; args = args i; change = change i; text = (e i).text }

  same_entries : (xs ys : List (Entry S)) → AllByRecursion (IsEntryOf P) xs → AllByRecursion (IsEntryOf P) ys → map (renamed_entry f) xs ≡ map (renamed_entry f) ys → xs ≡ ys
  same_entries [] [] p q e = refl
  same_entries [] (y ∷ ys) p q e = cc
  same_entries (x ∷ xs) [] p q e = cc
  same_entries (x ∷ xs) (y ∷ ys) p q e =
      let first : renamed_entry f x ≡ renamed_entry f y = cc in
      let rest : map (renamed_entry f) xs ≡ map (renamed_entry f) ys = cc in
      let a : x ≡ y = same_entry x y p.0 q.0 first in
      let b : xs ≡ ys = same_entries xs ys p.1 q.1 rest in
      λ i. a i ∷ b i

  each_value : (values : List S) → IsLookOf f P (slice_get values) → AllByRecursion P values
  each_value [] h = tt
  each_value (x ∷ values) h = (h 0 x refl, each_value values (λ v. h (suc v)))

  same_assignment : (pool was : List (Entry S)) (a b : Assignment S) → AllByRecursion (IsEntryOf P) pool → AllByRecursion (IsEntryOf P) was → IsAssignment c pool a → IsAssignment c was b
      → renamed_assignment f a ≡ renamed_assignment f b → a ≡ b
  same_assignment pool was a b known known_was p q e =
      let entries : a.entries ≡ b.entries = same_entries a.entries b.entries (known_row pool a.entries known p.given) (known_row was b.entries known_was q.given) (ap (λ z. z.entries) e) in
      let values : a.values ≡ b.values = same_symbols a.values b.values (each_value a.values (values_known pool a known p)) (each_value b.values (values_known was b known_was q)) (ap (λ z. z.values) e) in
      λ i. record { entries = entries i; values = values i }

  -- the values of an assignment are symbols of which P holds
  pub known_values : (pool : List (Entry S)) (b : Assignment S) → AllByRecursion (IsEntryOf P) pool → IsAssignment c pool b → AllByRecursion P b.values
  known_values pool b known a = each_value b.values (values_known pool b known a)

  rows_cmp : (ds bs : List (Entry S)) → slice_cmp entry_cmp (map (renamed_entry f) ds) (map (renamed_entry f) bs) ≡ slice_cmp entry_cmp ds bs
  rows_cmp [] [] = refl
  rows_cmp [] (b ∷ bs) = refl
  rows_cmp (a ∷ ds) [] = refl
  rows_cmp (a ∷ ds) (b ∷ bs) = ap (ordering_then (entry_cmp a b)) (rows_cmp ds bs)

  module _ (pool entries was before : List (Entry S)) (h g : ℕ) (known : AllByRecursion (IsEntryOf P) pool)
      (settled : AllByRecursion (IsEntryOf P) entries) (known_was : AllByRecursion (IsEntryOf P) was) (settled_was : AllByRecursion (IsEntryOf P) before) where
    abbrev IsNewOne : Assignment S → Type 0
    IsNewOne b = IsRecognised c pool entries h b × (IsRecognised c was before g b → ⊥)

    abbrev IsNewRenamed : Assignment T → Type 0
    IsNewRenamed b = IsRecognised (renamed_chronicle f c) (map (renamed_entry f) pool) (map (renamed_entry f) entries) h b
        × (IsRecognised (renamed_chronicle f c) (map (renamed_entry f) was) (map (renamed_entry f) before) g b → ⊥)

    new_on : (b : Assignment S) → IsNewOne b → IsNewRenamed (renamed_assignment f b)
    new_on b n = (
      recognised_on pool entries h b known settled n.0,
      λ r.
          let k = recognised_back was before g (renamed_assignment f b) known_was settled_was r in
          let e : b ≡ k.0 = same_assignment pool was b k.0 known known_was n.0.assignment k.1.assignment k.2 in
          n.1 (subst (IsRecognised c was before g) (sym e) k.1),
    )

    new_back : (d : Assignment T) → IsNewRenamed d → (b : Assignment S) × IsNewOne b × (d ≡ renamed_assignment f b)
    new_back d n =
        let k = recognised_back pool entries h d known settled n.0 in
        (k.0, (k.1, λ r. n.1 (subst (IsRecognised (renamed_chronicle f c) (map (renamed_entry f) was) (map (renamed_entry f) before) g) (sym k.2) (recognised_on was before g k.0 known_was settled_was r))), k.2)

    -- the list of the new ones is the list of those with the other symbols
    pub new_renamed : (xs : List (Assignment S)) → Lists assignment_cmp IsNewOne xs → Lists assignment_cmp IsNewRenamed (map (renamed_assignment f) xs)
    new_renamed xs l = record {
      ascending = ordered_map (λ a b. assignment_cmp a b ≡ Less) (λ a b. assignment_cmp a b ≡ Less) (renamed_assignment f) xs (λ a b e. rows_cmp a.entries b.entries ∙ e) l.ascending;
      each = each_from_in IsNewRenamed (map (renamed_assignment f) xs) (λ d i.
          let m = in_map_back (renamed_assignment f) xs d i in
          subst IsNewRenamed (sym m.2) (new_on m.0 (in_from_each IsNewOne xs l.each m.0 m.1)));
      all = λ d n. let k = new_back d n in
          subst (λ x. IsIn x (map (renamed_assignment f) xs)) (sym k.2) (in_map (renamed_assignment f) xs k.0 (l.all k.0 k.1));
    }
