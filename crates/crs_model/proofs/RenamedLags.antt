-- Strata and lags of chronicles with other symbols in place of theirs.
use Rattle.std.proofs.Common.{◌≡◌, ◌⊎◌, inl, inr, ℕ, suc, ◌≤◌, List, [], ◌∷◌, ◌++◌, map, zip, length, refl, sym, ap, subst, ◌∙◌}
use Rattle.std.specs.Prelude.{ℤ, Option, option_map, ◌+◌}
use Rattle.std.specs.List.{AllZip, AllByRecursion, flat_map}
use Rattle.std.proofs.lemmas.List.{length-map, map-append}
use Rattle.std.proofs.lemmas.Option.{slice_get-map}
use Rattle.crs_base.specs.Words.{IsIn}
use Rattle.crs_base.proofs.Alls.{all_append}
use Rattle.crs_base.proofs.Words.{in_map, in_map_back, in_from_each}
use Rattle.crs_stn.specs.Network.{IsMinimal}
use Rattle.crs_model.specs.Models.{EventDef, Body, NoEvent, Occurs, Hold, Window, Emit, Chronicle}
use Rattle.crs_model.specs.Hierarchy.{IsGreatest, wanted, used, emitted, Feeds, IsAbove, AreStrata, IsLag, IsLagOf}
use Rattle.crs_model.specs.Renaming.{renamed_event, renamed_body, renamed_window, renamed_emit, renamed_chronicle, IsPatternOf, IsBodyOf, IsChronicleOf}
use Rattle.crs_model.specs.ShortLags.{AreLags, AreInTime, ClosesSlow}

-- the greatest of the same numbers
greatest_same : (P Q : ℕ → Type 0) (n : ℕ) → ((m : ℕ) → P m → Q m) → ((m : ℕ) → Q m → P m) → IsGreatest P n → IsGreatest Q n
greatest_same P Q n f g h = record { one = f n h.one; bounds = λ m q. h.bounds m (g m q) }

in_zip : {A B : Type 0} (xs : List A) (ys : List B) (x : A) (y : B) → IsIn (x, y) (zip xs ys) → IsIn x xs
in_zip [] ys x y i = absurd i
in_zip (a ∷ xs) [] x y i = absurd i
in_zip (a ∷ xs) (b ∷ ys) x y (inl e) = inl (ap (λ p. p.0) e)
in_zip (a ∷ xs) (b ∷ ys) x y (inr i) = inr (in_zip xs ys x y i)

zip_made : {A B C : Type 0} (f : A → C) (xs : List A) (ys : List B) → zip (map f xs) ys ≡ map (λ (p : A × B). (f p.0, p.1)) (zip xs ys)
zip_made f [] ys = refl
zip_made f (x ∷ xs) [] = refl
zip_made f (x ∷ xs) (y ∷ ys) = ap (λ l. (f x, y) ∷ l) (zip_made f xs ys)

module _ {S T : Type 0} (f : S → T) where
  event_names : (es : List (EventDef S)) → map (λ v. v.pattern.name) (map (renamed_event f) es) ≡ map f (map (λ v. v.pattern.name) es)
  event_names [] = refl
  event_names (e ∷ es) = ap (λ l. f e.pattern.name ∷ l) (event_names es)

  emit_names : (es : List (Emit S)) → map (λ v. v.pattern.name) (map (renamed_emit f) es) ≡ map f (map (λ v. v.pattern.name) es)
  emit_names [] = refl
  emit_names (e ∷ es) = ap (λ l. f e.pattern.name ∷ l) (emit_names es)

  wanted_on : (b : Body S) → wanted (renamed_body f b) ≡ map f (wanted b)
  wanted_on (NoEvent p) = refl
  wanted_on (Occurs least most p) = refl
  wanted_on (Hold name terms value) = refl

  window_names : (ws : List (Window S)) → flat_map (λ w. wanted w.body) (map (renamed_window f) ws) ≡ map f (flat_map (λ w. wanted w.body) ws)
  window_names [] = refl
  window_names (w ∷ ws) = (λ i. wanted_on w.body i ++ window_names ws i) ∙ sym (map-append f (wanted w.body) (flat_map (λ w. wanted w.body) ws))

  used_on : (c : Chronicle S) → used (renamed_chronicle f c) ≡ map f (used c)
  used_on c = (λ i. event_names c.events i ++ window_names c.windows i) ∙ sym (map-append f (map (λ v. v.pattern.name) c.events) (flat_map (λ w. wanted w.body) c.windows))

  emitted_on : (c : Chronicle S) → emitted (renamed_chronicle f c) ≡ map f (emitted c)
  emitted_on c = emit_names c.emits

  feeds_on : (d c : Chronicle S) → Feeds d c → Feeds (renamed_chronicle f d) (renamed_chronicle f c)
  feeds_on d c h = (f h.0, subst (IsIn (f h.0)) (sym (emitted_on d)) (in_map f (emitted d) h.0 h.1), subst (IsIn (f h.0)) (sym (used_on c)) (in_map f (used c) h.0 h.2))

  -- a lag is of dates alone
  ends_on : (ws : List (Window S)) → map (λ w. w.to) (map (renamed_window f) ws) ≡ map (λ w. w.to) ws
  ends_on [] = refl
  ends_on (w ∷ ws) = ap (λ l. w.to ∷ l) (ends_on ws)

  dated_on : (es : List (Emit S)) → map (λ e. e.event) (map (renamed_emit f) es) ≡ map (λ e. e.event) es
  dated_on [] = refl
  dated_on (e ∷ es) = ap (λ l. e.event ∷ l) (dated_on es)

  lag_on : (c : Chronicle S) (most : ℕ → ℕ → Option ℤ) (lag : Option ℤ) → IsLagOf c most lag → IsLagOf (renamed_chronicle f c) most lag
  lag_on c most lag h =
      subst (λ n. IsLag n most (map (λ w. w.to) (map (renamed_window f) c.windows)) (map (λ e. e.event) (map (renamed_emit f) c.emits)) lag) (sym (length-map c.events (renamed_event f)))
      (subst (λ ends. IsLag (length c.events) most ends (map (λ e. e.event) (map (renamed_emit f) c.emits)) lag) (sym (ends_on c.windows))
      (subst (λ from. IsLag (length c.events) most (map (λ w. w.to) c.windows) from lag) (sym (dated_on c.emits)) h))

  minimal_on : (c : Chronicle S) (most : ℕ → ℕ → Option ℤ) → IsMinimal c.bounds (length c.events + length c.free) most
      → IsMinimal c.bounds (length (map (renamed_event f) c.events) + length (map f c.free)) most
  minimal_on c most h = subst (λ n. IsMinimal c.bounds n most) (λ i. sym (length-map c.events (renamed_event f)) i + sym (length-map c.free f) i) h

  pub lags_on : (cs : List (Chronicle S)) (lags : List (Option ℤ)) → AreLags cs lags → AreLags (map (renamed_chronicle f) cs) lags
  lags_on [] [] h = tt
  lags_on [] (l ∷ lags) h = h
  lags_on (c ∷ cs) [] h = h
  lags_on (c ∷ cs) (l ∷ lags) h = ((h.0.0, minimal_on c h.0.0 h.0.1, lag_on c h.0.0 l h.0.2), lags_on cs lags h.1)

  module _ (P : S → Type 0) (apart : (x y : S) → P x → P y → f x ≡ f y → x ≡ y) where
    event_names_of : (es : List (EventDef S)) → AllByRecursion (λ e. IsPatternOf P e.pattern) es → AllByRecursion P (map (λ v. v.pattern.name) es)
    event_names_of [] h = tt
    event_names_of (e ∷ es) h = (h.0.name, event_names_of es h.1)

    emit_names_of : (es : List (Emit S)) → AllByRecursion (λ e. IsPatternOf P e.pattern) es → AllByRecursion P (map (λ v. v.pattern.name) es)
    emit_names_of [] h = tt
    emit_names_of (e ∷ es) h = (h.0.name, emit_names_of es h.1)

    wanted_of : (b : Body S) → IsBodyOf P b → AllByRecursion P (wanted b)
    wanted_of (NoEvent p) h = (h.name, tt)
    wanted_of (Occurs least most p) h = (h.name, tt)
    wanted_of (Hold name terms value) h = tt

    window_names_of : (ws : List (Window S)) → AllByRecursion (λ w. IsBodyOf P w.body) ws → AllByRecursion P (flat_map (λ w. wanted w.body) ws)
    window_names_of [] h = tt
    window_names_of (w ∷ ws) h = all_append P (wanted w.body) (flat_map (λ w. wanted w.body) ws) (wanted_of w.body h.0) (window_names_of ws h.1)

    used_of : (c : Chronicle S) → IsChronicleOf P c → AllByRecursion P (used c)
    used_of c h = all_append P (map (λ v. v.pattern.name) c.events) (flat_map (λ w. wanted w.body) c.windows) (event_names_of c.events h.patterns) (window_names_of c.windows h.windows)

    feeds_back : (d c : Chronicle S) → IsChronicleOf P d → IsChronicleOf P c → Feeds (renamed_chronicle f d) (renamed_chronicle f c) → Feeds d c
    feeds_back d c p q h =
        let e = in_map_back f (emitted d) h.0 (subst (IsIn h.0) (emitted_on d) h.1) in
        let u = in_map_back f (used c) h.0 (subst (IsIn h.0) (used_on c) h.2) in
        let same : e.0 ≡ u.0 = apart e.0 u.0 (in_from_each P (emitted d) (emit_names_of d.emits p.emits) e.0 e.1) (in_from_each P (used c) (used_of c q) u.0 u.1) (sym e.2 ∙ u.2) in
        (e.0, e.1, subst (λ x. IsIn x (used c)) (sym same) u.1)

    module _ (cs : List (Chronicle S)) (strata : List ℕ) (of : AllByRecursion (IsChronicleOf P) cs) where
      above_on : (c : Chronicle S) (m : ℕ) → IsAbove cs strata c m → IsAbove (map (renamed_chronicle f) cs) strata (renamed_chronicle f c) m
      above_on c m h = (
        renamed_chronicle f h.0,
        h.1,
        subst (IsIn (renamed_chronicle f h.0, h.1)) (sym (zip_made (renamed_chronicle f) cs strata)) (in_map (λ (p : Chronicle S × ℕ). (renamed_chronicle f p.0, p.1)) (zip cs strata) (h.0, h.1) h.2),
        feeds_on h.0 c h.3,
        h.4,
      )

      above_back : (c : Chronicle S) (m : ℕ) → IsChronicleOf P c → IsAbove (map (renamed_chronicle f) cs) strata (renamed_chronicle f c) m → IsAbove cs strata c m
      above_back c m p h =
          let b = in_map_back (λ (p : Chronicle S × ℕ). (renamed_chronicle f p.0, p.1)) (zip cs strata) (h.0, h.1) (subst (IsIn (h.0, h.1)) (zip_made (renamed_chronicle f) cs strata) h.2) in
          let d : Chronicle S = b.0.0 in
          let same : h.0 ≡ renamed_chronicle f d = ap (λ q. q.0) b.2 in
          let level : h.1 ≡ b.0.1 = ap (λ q. q.1) b.2 in
          let known = in_from_each (IsChronicleOf P) cs of d (in_zip cs strata d b.0.1 b.1) in
          (d, b.0.1, b.1, feeds_back d c known p (subst (λ x. Feeds x (renamed_chronicle f c)) same h.3), h.4 ∙ ap suc level)

      above_same : (c : Chronicle S) (n : ℕ) → IsChronicleOf P c → IsGreatest (λ m. (m ≡ 0) ⊎ IsAbove cs strata c m) n
          → IsGreatest (λ m. (m ≡ 0) ⊎ IsAbove (map (renamed_chronicle f) cs) strata (renamed_chronicle f c) m) n
      above_same c n p h = greatest_same (λ m. (m ≡ 0) ⊎ IsAbove cs strata c m) (λ m. (m ≡ 0) ⊎ IsAbove (map (renamed_chronicle f) cs) strata (renamed_chronicle f c) m) n on back h
        where
          on : (m : ℕ) → (m ≡ 0) ⊎ IsAbove cs strata c m → (m ≡ 0) ⊎ IsAbove (map (renamed_chronicle f) cs) strata (renamed_chronicle f c) m
          on m (inl e) = inl e
          on m (inr a) = inr (above_on c m a)

          back : (m : ℕ) → (m ≡ 0) ⊎ IsAbove (map (renamed_chronicle f) cs) strata (renamed_chronicle f c) m → (m ≡ 0) ⊎ IsAbove cs strata c m
          back m (inl e) = inl e
          back m (inr a) = inr (above_back c m p a)

      each_on : (ds : List (Chronicle S)) (ns : List ℕ) → AllByRecursion (IsChronicleOf P) ds → AllZip (λ c n. IsGreatest (λ m. (m ≡ 0) ⊎ IsAbove cs strata c m) n) ds ns
          → AllZip (λ c n. IsGreatest (λ m. (m ≡ 0) ⊎ IsAbove (map (renamed_chronicle f) cs) strata c m) n) (map (renamed_chronicle f) ds) ns
      each_on [] [] p h = tt
      each_on [] (n ∷ ns) p h = h
      each_on (d ∷ ds) [] p h = h
      each_on (d ∷ ds) (n ∷ ns) p h = (above_same d n p.0 h.0, each_on ds ns p.1 h.1)

      pub strata_on : AreStrata cs strata → AreStrata (map (renamed_chronicle f) cs) strata
      strata_on h = each_on cs strata of h

    pub in_time_on : (cs : List (Chronicle S)) → AllByRecursion (IsChronicleOf P) cs → AreInTime S cs → AreInTime T (map (renamed_chronicle f) cs)
    in_time_on cs of h = record {
      strata = h.strata;
      lags = h.lags;
      are_strata = strata_on cs h.strata of h.are_strata;
      are_lags = lags_on cs h.lags h.are_lags;
      fast = λ n l s. h.fast n (subst (λ k. n ≤ k) (length-map cs (renamed_chronicle f)) l) s;
    }

    pub closes_slow_on : (cs : List (Chronicle S)) (line : ℕ) → AllByRecursion (IsChronicleOf P) cs → ClosesSlow S cs line → ClosesSlow T (map (renamed_chronicle f) cs) line
    closes_slow_on cs line of h = record {
      strata = h.strata;
      lags = h.lags;
      are_strata = strata_on cs h.strata of h.are_strata;
      are_lags = lags_on cs h.lags h.are_lags;
      place = h.place;
      closed = renamed_chronicle f h.closed;
      there = slice_get-map (renamed_chronicle f) cs h.place ∙ ap (option_map (renamed_chronicle f)) h.there;
      line_is = h.line_is;
      slow = h.slow;
      fast = h.fast;
    }
