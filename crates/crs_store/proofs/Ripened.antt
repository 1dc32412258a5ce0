-- The instances that are done leave their places.
use Rattle.std.proofs.Common.{◌≡◌, ◌≢◌, ◌⊎◌, ℕ, zero, suc, List, [], ◌∷◌, ◌++◌, length, refl, sym, ap, subst, ◌∙◌, inl, inr, arith}
use Rattle.std.specs.Prelude.{Option, Some, None}
use Rattle.std.proofs.lemmas.List.{map-append}
use Rattle.crs_base.specs.declared.symbols.Sym.{Sym}
use Rattle.crs_base.specs.Words.{IsIn, Ordered}
use Rattle.crs_base.specs.Sifted.{Sifts}
use Rattle.crs_base.proofs.Words.{in_append, in_append_left, in_append_right, in_map, in_map_back, in_from_each, each_from_in, ordered_append}
use Rattle.crs_instance.specs.Instances.{InstanceState}
use Rattle.crs_model.specs.declared.plan.Plan.{Plan}
use Rattle.crs_model.specs.declared.recognition.Mark.{Mark}
use Rattle.crs_model.specs.declared.recognition.Recognition.{Recognition}
use Rattle.crs_model.specs.Open.{IsRecognisedWhole, whole}
use Rattle.crs_model.specs.Partial.{Partial}
use Rattle.crs_model.specs.Plans.{chronicle}
use Rattle.crs_model.specs.SeenModels.{assignment_of}
use Rattle.crs_store.specs.Answers.{IsRecognitionFrom, IsRecognitionOfOne, TellsDone, AreFound, wholes}
use Rattle.crs_store.specs.Ripenings.{LeftAt, AreLeft, Takes, TakesAt}
use Rattle.crs_living.specs.Slots.{SlotsState, slot_at, handle_at, members}
use Rattle.crs_living.specs.Parts.{parts}
use Rattle.crs_living.specs.Done.{IsDone}
use Rattle.crs_living.proofs.Members.{At, at_member, member_at}

abbrev pub Apart : List (Partial Sym) → Type 0
Apart xs = Ordered (λ a b. a ≡ b → ⊥) xs

-- what is found is of one that is done, whose place is empty now
abbrev pub IsOfOneGone : Plan → ℕ → ℕ → Mark → SlotsState → SlotsState → Recognition → Type 0
IsOfOneGone plan h number mark old new r = (p : ℕ) × (i : InstanceState) × (slot_at old p ≡ Some i) × (slot_at new p ≡ None) × IsDone plan h i × IsRecognitionFrom number mark i r

-- what stood there is done and was found
abbrev pub IsFoundAt : Plan → ℕ → ℕ → Mark → SlotsState → List Recognition → ℕ → Type 0
IsFoundAt plan h number mark old found p = (i : InstanceState) × (r : Recognition) × (slot_at old p ≡ Some i) × IsDone plan h i × IsRecognitionFrom number mark i r × IsIn r found

-- so far: each place is as it was, or is empty and what stood there is done and was found
pub record AreTaken (plan : Plan) (h number : ℕ) (mark : Mark) (old new : SlotsState) (found : List Recognition) : Type 0 where
  pub places : length new.slots ≡ length old.slots
  pub each : (p : ℕ) → (slot_at new p ≡ slot_at old p) ⊎ ((slot_at new p ≡ None) × IsFoundAt plan h number mark old found p)
  pub handles : (p : ℕ) (j : InstanceState) → slot_at new p ≡ Some j → handle_at new p ≡ handle_at old p
  pub gone : (r : Recognition) → IsIn r found → IsOfOneGone plan h number mark old new r
  pub distinct : Apart (parts (members old.slots)) → Apart (wholes found)

-- in each place where one that is done stands, which is named
abbrev pub AreAmongRipe : Plan → ℕ → SlotsState → List ℕ → Type 0
AreAmongRipe plan h s ripe = (p : ℕ) (i : InstanceState) → slot_at s p ≡ Some i → IsDone plan h i → IsIn p ripe

-- two places, two members
pub places_apart : (xs : List (Option InstanceState)) (p q : ℕ) (i j : InstanceState) → At xs p ≡ Some i → At xs q ≡ Some j → p ≢ q → Apart (parts (members xs)) → i.partial ≡ j.partial → ⊥
places_apart [] p q i j e f n o s = absurd cc
places_apart (x ∷ xs) zero zero i j e f n o s = n refl
places_apart (None ∷ xs) zero (suc q) i j e f n o s = absurd cc
places_apart (None ∷ xs) (suc p) zero i j e f n o s = absurd cc
places_apart (None ∷ xs) (suc p) (suc q) i j e f n o s = places_apart xs p q i j e f (λ k. n (ap suc k)) o s
places_apart (Some x ∷ xs) zero (suc q) i j e f n o s =
    let k : x ≡ i = cc in
    in_from_each (λ z. x.partial ≡ z → ⊥) (parts (members xs)) o.0 j.partial (in_map (λ m. m.partial) (members xs) j (at_member xs q j f)) (ap (λ (m : InstanceState). m.partial) k ∙ s)
places_apart (Some x ∷ xs) (suc p) zero i j e f n o s =
    let k : x ≡ j = cc in
    in_from_each (λ z. x.partial ≡ z → ⊥) (parts (members xs)) o.0 i.partial (in_map (λ m. m.partial) (members xs) i (at_member xs p i e)) (ap (λ (m : InstanceState). m.partial) k ∙ sym s)
places_apart (Some x ∷ xs) (suc p) (suc q) i j e f n o s = places_apart xs p q i j e f (λ k. n (ap suc k)) o.1 s

-- what stays of the members, in their order
pub left_sifts : (plan : Plan) (h : ℕ) (old new : List (Option InstanceState)) → length new ≡ length old → ((p : ℕ) → LeftAt plan h (At old p) (At new p)) → Sifts (λ i. IsDone plan h i → ⊥) (members old) (members new)
left_sifts plan h [] [] l at = refl
left_sifts plan h [] (y ∷ new) l at = absurd (omega arith)
left_sifts plan h (x ∷ old) [] l at = absurd (omega arith)
left_sifts plan h (None ∷ old) (None ∷ new) l at = left_sifts plan h old new (omega arith) (λ p. at (suc p))
left_sifts plan h (None ∷ old) (Some j ∷ new) l at = absurd (at 0)
left_sifts plan h (Some i ∷ old) (None ∷ new) l at = inr (λ undone. undone (at 0), left_sifts plan h old new (omega arith) (λ p. at (suc p)))
left_sifts plan h (Some i ∷ old) (Some j ∷ new) l at = inl ((at 0).1, members new, ap (λ (t : InstanceState). t ∷ members new) (at 0).0, left_sifts plan h old new (omega arith) (λ p. at (suc p)))

module _ (plan : Plan) (h number : ℕ) (mark : Mark) where
  module _ (old : SlotsState) where
    pub taken_none : AreTaken plan h number mark old old []
    taken_none = record { places = refl; each = λ p. inl refl; handles = λ p j e. refl; gone = λ r k. absurd k; distinct = λ o. tt }

    -- one more place
    module _ (was new : SlotsState) (p : ℕ) (found more : List Recognition) (before : AreTaken plan h number mark old was found) (takes : Takes plan h number mark was new p found more) where
      here_old : slot_at old p ≡ Some takes.from
      here_old = elim (before.each p) [ inl e ↦ cc (e, takes.here) | inr k ↦ absurd (cc (k.0, takes.here)) ]

      in_more : (r : Recognition) → IsIn r found → IsIn r more
      in_more r k = subst (λ (t : List Recognition). IsIn r t) (sym takes.added) (in_append_left found (takes.one ∷ []) r k)

      last_in : IsIn takes.one more
      last_in = subst (λ (t : List Recognition). IsIn takes.one t) (sym takes.added) (in_append_right found (takes.one ∷ []) takes.one (inl refl))

      more_found : (q : ℕ) → IsFoundAt plan h number mark old found q → IsFoundAt plan h number mark old more q
      more_found q f = (f.0, f.1, f.2, f.3, f.4, in_more f.1 f.5)

      each_at : (q : ℕ) → (q ≡ p) ⊎ (q ≢ p) → (slot_at new q ≡ slot_at old q) ⊎ ((slot_at new q ≡ None) × IsFoundAt plan h number mark old more q)
      each_at q (inl e) = inr (subst (λ (t : ℕ). slot_at new t ≡ None) (sym e) takes.removed.gone, subst (IsFoundAt plan h number mark old more) (sym e) (takes.from, takes.one, here_old, takes.done, takes.is, last_in))
      each_at q (inr n) = elim (before.each q) [
        | inl e ↦ inl (takes.removed.others q n ∙ e)
        | inr k ↦ inr (takes.removed.others q n ∙ k.0, more_found q k.1)
      ]

      -- a place that was empty is another, and is empty still
      other : (q : ℕ) → slot_at was q ≡ None → q ≢ p
      other q e k = let s : slot_at was p ≡ None = subst (λ (t : ℕ). slot_at was t ≡ None) k e in absurd (cc (s, takes.here))

      still_gone : (r : Recognition) → IsOfOneGone plan h number mark old was r → IsOfOneGone plan h number mark old new r
      still_gone r g = (g.0, g.1, g.2, takes.removed.others g.0 (other g.0 g.3) ∙ g.3, g.4, g.5)

      each_found : (r : Recognition) → IsIn r (found ++ takes.one ∷ []) → IsOfOneGone plan h number mark old new r
      each_found r k = elim (in_append found (takes.one ∷ []) r k) [
        | inl a ↦ still_gone r (before.gone r a)
        | inr b ↦ elim b [
          | inl e ↦ subst (IsOfOneGone plan h number mark old new) (sym e) (p, takes.from, here_old, takes.removed.gone, takes.done, takes.is)
          | inr never ↦ absurd never
        ]
      ]

      -- the whole is none of those before
      is_new : Apart (parts (members old.slots)) → (r : Recognition) → IsIn r found → whole (assignment_of r) ≡ whole (assignment_of takes.one) → ⊥
      is_new o r k e =
          let g = before.gone r k in
          places_apart old.slots g.0 p g.1 takes.from g.2 here_old (other g.0 g.3) o (g.5.entries ∙ e ∙ sym takes.is.entries)

      wholes_apart : Apart (parts (members old.slots)) → Apart (wholes (found ++ takes.one ∷ []))
      wholes_apart o = subst (λ (t : List (Partial Sym)). Apart t) (sym (map-append (λ (r : Recognition). whole (assignment_of r)) found (takes.one ∷ [])))
          (ordered_append (λ a b. a ≡ b → ⊥) (wholes found) (whole (assignment_of takes.one) ∷ []) (before.distinct o) (tt, tt) (λ a b i j e.
          let f = in_map_back (λ r. whole (assignment_of r)) found a i in
          elim j [ inl k ↦ is_new o f.0 f.1 (sym f.2 ∙ e ∙ k) | inr never ↦ absurd never ]))

      pub taken_more : ((q : ℕ) → (q ≡ p) ⊎ (q ≢ p)) → AreTaken plan h number mark old new more
      taken_more either = record {
        places = takes.removed.places ∙ before.places;
        each = λ q. each_at q (either q);
        handles = λ q j e. takes.removed.handles q j e ∙ before.handles q j (elim (either q) [ inl k ↦ absurd (cc (takes.removed.gone, subst (λ (t : ℕ). slot_at new t ≡ Some j) k e)) | inr n ↦ sym (takes.removed.others q n) ∙ e ]);
        gone = λ r k. each_found r (subst (λ (t : List Recognition). IsIn r t) takes.added k);
        distinct = λ o. subst (λ (t : List Recognition). Apart (wholes t)) (sym takes.added) (wholes_apart o);
      }

    same_or : (q p : ℕ) → (q ≡ p) ⊎ (q ≢ p)
    same_or zero zero = inl refl
    same_or zero (suc p) = inr (λ e. absurd (omega arith))
    same_or (suc q) zero = inr (λ e. absurd (omega arith))
    same_or (suc q) (suc p) = elim (same_or q p) [ inl e ↦ inl (ap suc e) | inr n ↦ inr (λ e. n (omega arith)) ]

    pub taken_at : (was new : SlotsState) (p : ℕ) (found more : List Recognition) → AreTaken plan h number mark old was found → TakesAt plan h number mark was new p found more → AreTaken plan h number mark old new more
    taken_at was new p found more before (inl takes) = taken_more was new p found more before takes (λ q. same_or q p)
    taken_at was new p found more before (inr stays) = subst (λ (t : SlotsState). AreTaken plan h number mark old t more) (sym stays.slots) (subst (λ (t : List Recognition). AreTaken plan h number mark old was t) (sym stays.same) before)

    -- the places that are named still name each that is done
    pub named_at : (was new : SlotsState) (p : ℕ) (found more : List Recognition) (ripe rest : List ℕ) → ripe ≡ rest ++ p ∷ [] → AreAmongRipe plan h was ripe → TakesAt plan h number mark was new p found more → AreAmongRipe plan h new rest
    named_at was new p found more ripe rest e named (inl takes) q i f done =
        elim (same_or q p) [
          | inl k ↦ absurd (cc (takes.removed.gone, subst (λ (t : ℕ). slot_at new t ≡ Some i) k f))
          | inr n ↦ elim (in_append rest (p ∷ []) q (subst (λ (t : List ℕ). IsIn q t) e (named q i (sym (takes.removed.others q n) ∙ f) done))) [
            | inl a ↦ a
            | inr b ↦ elim b [ inl k ↦ absurd (n k) | inr never ↦ absurd never ]
          ]
        ]
    named_at was new p found more ripe rest e named (inr stays) q i f done =
        let g : slot_at was q ≡ Some i = subst (λ (t : SlotsState). slot_at t q ≡ Some i) stays.slots f in
        elim (in_append rest (p ∷ []) q (subst (λ (t : List ℕ). IsIn q t) e (named q i g done))) [
          | inl a ↦ a
          | inr b ↦ elim b [ inl k ↦ absurd (stays.undone i (subst (λ (t : ℕ). slot_at was t ≡ Some i) k g) done) | inr never ↦ absurd never ]
        ]

    -- when no place is named any more
    module _ (new : SlotsState) (found : List Recognition) (ripe : List ℕ) (taken : AreTaken plan h number mark old new found) (named : AreAmongRipe plan h new ripe) (empty : ripe ≡ []) where
      none : (p : ℕ) (i : InstanceState) → slot_at new p ≡ Some i → IsDone plan h i → ⊥
      none p i f done = subst (λ (t : List ℕ). IsIn p t) empty (named p i f done)

      left_at : (p : ℕ) (o n : Option InstanceState) → slot_at old p ≡ o → slot_at new p ≡ n → LeftAt plan h o n
      left_at p None None e f = tt
      left_at p None (Some j) e f = elim (taken.each p) [ inl k ↦ absurd cc | inr k ↦ (let z = k.0 in absurd cc) ]
      left_at p (Some i) None e f = elim (taken.each p) [ inl k ↦ absurd cc | inr k ↦ (let z = k.1.2 in let s : k.1.0 ≡ i = cc in subst (IsDone plan h) s k.1.3) ]
      left_at p (Some i) (Some j) e f = elim (taken.each p) [ inl k ↦ (let s : j ≡ i = cc in (s, λ done. none p j f (subst (IsDone plan h) (sym s) done))) | inr k ↦ (let z = k.0 in absurd cc) ]

      pub all_left : AreLeft plan h old new
      all_left = record { each = λ p. left_at p (slot_at old p) (slot_at new p) refl refl; handles = taken.handles; places = taken.places }

      of_one : (r : Recognition) → IsIn r found → IsRecognitionOfOne plan h number mark (members old.slots) r
      of_one r k = let g = taken.gone r k in (g.1, at_member old.slots g.0 g.1 g.2, g.4, g.5)

      -- one that is done was found
      found_one : (i : InstanceState) → IsIn i (members old.slots) → IsDone plan h i → IsIn i.partial (wholes found)
      found_one i k done =
          let r = member_at old.slots i k in
          elim (taken.each r.0) [
            | inl e ↦ absurd (none r.0 i (e ∙ r.1) done)
            | inr g ↦ (
                let s : Some g.1.0 ≡ Some i = sym g.1.2 ∙ r.1 in
                let t : g.1.0 ≡ i = cc in
                subst (λ (a : Partial Sym). IsIn a (wholes found)) (sym g.1.4.entries ∙ ap (λ (m : InstanceState). m.partial) t) (in_map (λ r. whole (assignment_of r)) found g.1.1 g.1.5))
          ]

      pub all_found : AreFound plan h number mark (members old.slots) found
      all_found = record {
        each = each_from_in (IsRecognitionOfOne plan h number mark (members old.slots)) found of_one;
        image = λ pool entries tells apart. (
            let Full = IsRecognisedWhole (chronicle plan) pool entries h in
            record {
              distinct = taken.distinct apart;
              sound = λ y k. (
                  let m = in_map_back (λ r. whole (assignment_of r)) found y k in
                  let g = of_one m.0 m.1 in
                  let s : y ≡ g.0.partial = m.2 ∙ sym g.3.entries in
                  (g.0.partial, in_map (λ i. i.partial) (members old.slots) g.0 g.1, (s, subst Full (sym s) ((in_from_each (TellsDone plan h Full) (members old.slots) tells g.0 g.1).0 g.2))));
              complete = λ a y k g. (
                  let m = in_map_back (λ i. i.partial) (members old.slots) a k in
                  let s : y ≡ m.0.partial = g.0 ∙ m.2 in
                  subst (λ (b : Partial Sym). IsIn b (wholes found)) (sym s) (found_one m.0 m.1 ((in_from_each (TellsDone plan h Full) (members old.slots) tells m.0 m.1).1 (subst Full s g.1))));
            });
      }
