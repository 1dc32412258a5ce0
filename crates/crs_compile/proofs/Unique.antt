-- There is one text of the least bounds of chronicles.
use Rattle.std.proofs.Common.{◌≡◌, ◌⊎◌, inl, inr, refl, ap, sym, subst, ◌∙◌, ◌<◌, ◌≤◌, ◌+◌, ℕ, suc, List, [], ◌∷◌, ◌++◌, length, map, Option, Some, None, option_map, arith}
use Rattle.std.specs.Prelude.{ℤ, pos, ◌-ℤ◌, ◌≤ℤ◌, slice_index_or}
use Rattle.std.specs.List.{AllByRecursion}
use Rattle.std.proofs.lemmas.Int.{ints}
use Rattle.std.proofs.lemmas.List.{length-map, length-append}
use Rattle.crs_base.specs.Words.{IsIn}
use Rattle.crs_stn.specs.declared.bound.Bound.{Bound}
use Rattle.crs_stn.specs.Network.{IsMinimal, IsEarliest, negated}
use Rattle.crs_stn.proofs.Most.{IsMost-unique}
use Rattle.crs_model.specs.Models.{Anchor, Window, Chronicle, Name}
use Rattle.crs_model.specs.ProperModels.{IsProperWindow, IsProperChronicle}
use Rattle.crs_model.specs.Reach.{Bounds, IsZero, IsPairSpan, IsStartSpan, IsReach}
use Rattle.crs_compile.specs.Minimal.{pair_line, lines_of_point, pair_lines, head_text, earliest_text, points_of, point_count, IsChronicleText, IsMinimalText}

pub equal_spans : (x y : Option ℤ) → Bounds x y → Bounds y x → x ≡ y
equal_spans None None h k = refl
equal_spans None (Some y) h k = absurd k
equal_spans (Some x) None h k = absurd h
equal_spans (Some x) (Some y) h k = ap Some (omega (arith, ints))

pub one_reach : (n : ℕ) (most : ℕ → ℕ → Option ℤ) (starts : List Anchor) (x y : Option ℤ) → IsReach n most starts x → IsReach n most starts y → x ≡ y
one_reach n most starts x y h k = equal_spans x y (h.bounds y k.one) (k.bounds x h.one)

-- the two agree on the points below n
abbrev pub Agree : ℕ → (ℕ → ℕ → Option ℤ) → (ℕ → ℕ → Option ℤ) → Type 0
Agree n f g = (p q : ℕ) → p < n → q < n → f p q ≡ g p q

pub minimal_agree : (bounds : List Bound) (n : ℕ) (f g : ℕ → ℕ → Option ℤ) → IsMinimal bounds n f → IsMinimal bounds n g → Agree n f g
minimal_agree bounds n f g h k p q a b = IsMost-unique bounds p q (f p q) (g p q) (h p q a b) (k p q a b)

-- the anchors name events below n
abbrev pub AreBelow : ℕ → List Anchor → Type 0
AreBelow n starts = (a : Anchor) → IsIn a starts → a.event < n

starts_below : {S : Type 0} (names : List (Name S)) (c : Chronicle S) (ws : List (Window S)) → AllByRecursion (IsProperWindow names c) ws → AreBelow (length c.events) (map (λ w. w.from) ws)
starts_below names c [] h a i = absurd i
starts_below names c (w ∷ ws) h a (inl e) = subst (λ b. b.event < length c.events) (sym e) h.0.from.event
starts_below names c (w ∷ ws) h a (inr i) = starts_below names c ws h.1 a i

spans_same : (k n : ℕ) (f g : ℕ → ℕ → Option ℤ) (starts : List Anchor) (s : Option ℤ) → k ≤ n → Agree n f g → AreBelow k starts
    → IsZero s ⊎ (IsPairSpan k k f s ⊎ IsStartSpan k f starts s) → IsZero s ⊎ (IsPairSpan k k g s ⊎ IsStartSpan k g starts s)
spans_same k n f g starts s l same below (inl z) = inl z
spans_same k n f g starts s l same below (inr (inl (p, r, a, b, e))) = inr (inl (p, r, a, b, e ∙ same p r (omega arith) (omega arith)))
spans_same k n f g starts s l same below (inr (inr (a, i, (r, b, e)))) =
    let inside = below a i in inr (inr (a, i, (r, b, e ∙ ap (option_map (λ m. m -ℤ a.offset)) (same a.event r (omega arith) (omega arith)))))

reach_same : (k n : ℕ) (f g : ℕ → ℕ → Option ℤ) (starts : List Anchor) (x : Option ℤ) → k ≤ n → Agree n f g → AreBelow k starts → IsReach k f starts x → IsReach k g starts x
reach_same k n f g starts x l same below h = record {
  one = spans_same k n f g starts x l same below h.one;
  bounds = λ s i. h.bounds s (spans_same k n g f starts s l (λ p q a b. sym (same p q a b)) below i);
}

lines_same : (n : ℕ) (f g : ℕ → ℕ → Option ℤ) (i : ℕ) (p : List ℕ) (j : ℕ) (later : List (List ℕ)) → i < n → j + length later ≤ n → Agree n f g → lines_of_point f i p j later ≡ lines_of_point g i p j later
lines_same n f g i p j [] a b same = refl
lines_same n f g i p j (q ∷ later) a b same =
    (λ t. pair_line p q (negated (same j i (omega arith) a t)) (same i j a (omega arith) t) ++ lines_same n f g i p (j + 1) later a (omega arith) same t)

pairs_same : (n : ℕ) (f g : ℕ → ℕ → Option ℤ) (i : ℕ) (points : List (List ℕ)) → i + length points ≤ n → Agree n f g → pair_lines f i points ≡ pair_lines g i points
pairs_same n f g i [] b same = refl
pairs_same n f g i (p ∷ later) b same = (λ t. lines_same n f g i p (i + 1) later (omega arith) (omega arith) same t ++ pairs_same n f g (i + 1) later (omega arith) same t)

dates_same : (xs ys : List ℤ) → length xs ≡ length ys → ((p : ℕ) → p < length xs → slice_index_or xs p (pos 0) ≡ slice_index_or ys p (pos 0)) → xs ≡ ys
dates_same [] [] l h = refl
dates_same [] (y ∷ ys) l h = absurd (omega arith)
dates_same (x ∷ xs) [] l h = absurd (omega arith)
dates_same (x ∷ xs) (y ∷ ys) l h = (λ t. h 0 (omega arith) t ∷ dates_same xs ys (omega arith) (λ p a. h (suc p) (omega arith)) t)

earliest_same : (bounds : List Bound) (n : ℕ) (d e : ℕ → ℤ) → IsEarliest bounds n d → IsEarliest bounds n e → (p : ℕ) → p < n → d p ≡ e p
earliest_same bounds n d e h k p l =
    let a : d p ≤ℤ e p = h.least e k.meets k.not_negative p l in
    let b : e p ≤ℤ d p = k.least d h.meets h.not_negative p l in
    omega (arith, ints)

length_points : (c : Chronicle (List ℕ)) → length (map (λ t. t) (points_of c)) ≡ point_count c
length_points c = simp (length-map, length-append)

one_chronicle_text : (names : List (Name (List ℕ))) (c : Chronicle (List ℕ)) (x y : List ℕ) → IsProperChronicle names c → IsChronicleText (λ t. t) c x → IsChronicleText (λ t. t) c y → x ≡ y
one_chronicle_text names c x y h a b =
    let same = minimal_agree c.bounds (point_count c) a.most b.most a.minimal b.minimal in
    let below = starts_below names c c.windows h.windows in
    let reach : a.reach ≡ b.reach = one_reach (length c.events) b.most (map (λ w. w.from) c.windows) a.reach b.reach (reach_same (length c.events) (point_count c) a.most b.most (map (λ w. w.from) c.windows) a.reach (omega arith) same below a.longest) b.longest in
    let dates : a.dates ≡ b.dates = dates_same a.dates b.dates (a.each ∙ sym b.each)
    (λ p l. earliest_same c.bounds (point_count c) (λ q. slice_index_or a.dates q (pos 0)) (λ q. slice_index_or b.dates q (pos 0)) a.earliest b.earliest p (subst (λ n. p < n) a.each l)) in
    a.is
    ∙ (λ t. head_text c.name (reach t) ++ pairs_same (point_count c) a.most b.most 0 (map (λ t. t) (points_of c)) (omega (arith, length_points c)) same t ++ earliest_text (map (λ t. t) (points_of c)) (dates t))
    ∙ sym b.is

pub one_text : (names : List (Name (List ℕ))) (cs : List (Chronicle (List ℕ))) (x y : List ℕ) → AllByRecursion (IsProperChronicle names) cs → IsMinimalText (λ t. t) cs x → IsMinimalText (λ t. t) cs y → x ≡ y
one_text names [] x y h a b = a ∙ sym b
one_text names (c ∷ cs) x y h (p, q, s, t, e) (u, v, m, n, f) = e ∙ (λ i. one_chronicle_text names c p u h.0 s m i ++ one_text names cs q v h.1 t n i) ∙ sym f
