-- Declared names with the derived ones behind the others, as a canonical text declares them.
use Rattle.std.proofs.Common.{◌≡◌, ℕ, ◌+◌, ◌≤◌, Bool, true, false, cond, not, ◌||◌, nat_le, nat_lt, List, [], ◌∷◌, ◌++◌, map, length, Option, Some, option_map, is_some, refl, sym, ap, subst, ◌∙◌, ◌⊎◌, inl, inr, true≢false, append_assoc, length-append, arith}
use Rattle.std.specs.Prelude.{bytes_eq}
use Rattle.std.specs.List.{AllByRecursion}
use Rattle.std.proofs.lemmas.Bool.{or_parts, or_from, lt-leb}
use Rattle.std.proofs.lemmas.Grind.{flat_map-append}
use Rattle.std.proofs.lemmas.List.{map-append, append-nil}
use Rattle.std.proofs.lemmas.List.Folds.{list_any-append}
use Rattle.crs_base.specs.Symbols.{is_known}
use Rattle.crs_base.proofs.Alls.{all_append}
use Rattle.crs_base.proofs.DistinctTexts.{Distinct, between_distinct, last_distinct, behind_new}
use Rattle.crs_base.proofs.Texts.{bytes_same, same_bytes}
use Rattle.crs_grammar.specs.Statements.{Body, NoEvent, Occurs, Hold, Statement, Happens, Over, Emits}
use Rattle.crs_parse.specs.Faults.{Kind, OfMessage, OfAttribute, OfDerived, Name, Written, is_derived, name_of, is_unnamed, is_not_derived, is_misfit, is_beyond, is_no_attribute, has_other_arity, holds_beyond, is_above, is_twice, passes_count, body_has_no_name, body_has_wrong_arity, body_has_wrong_value, nameless, begun}
use Rattle.crs_parse.specs.Meant.{that, names_that}
use Rattle.crs_parse.proofs.Faultless.{IsFaultless, not_le}
use Rattle.crs_parse.proofs.Numbered.{all_that}
use Rattle.crs_print.proofs.Good.{IsFit, IsSuited, IsFine, IsGood, IsDone, each_of}
use Rattle.crs_print.proofs.GoodReading.{said_kind, said, AreDeclared}

-- the derived names behind the others
abbrev pub sorted : List Name → List Name
sorted ns = names_that false ns ++ names_that true ns

abbrev names : List Name → List (List ℕ)
names ns = map (λ n. n.name) ns

-- Those that are derived, or are not, are the same.

kept : (b : Bool) (n : Name) → is_derived n.kind ≡ b → that b n ≡ n ∷ []
kept true n e = ap (λ d. cond d (n ∷ []) []) e
kept false n e = ap (λ d. cond d [] (n ∷ [])) e

left : (b : Bool) (n : Name) → is_derived n.kind ≡ not b → that b n ≡ []
left true n e = ap (λ d. cond d (n ∷ []) []) e
left false n e = ap (λ d. cond d [] (n ∷ [])) e

either_way : (d b : Bool) → (d ≡ b) ⊎ (d ≡ not b)
either_way true true = inl refl
either_way true false = inr refl
either_way false true = inr refl
either_way false false = inl refl

twice_not : (b : Bool) → b ≡ not (not b)
twice_not true = refl
twice_not false = refl

same_that : (b : Bool) (ns : List Name) → names_that b (names_that b ns) ≡ names_that b ns
same_that b [] = refl
same_that b (n ∷ ns) = by (either_way (is_derived n.kind) b) (same_that b ns)
  where
    by : (is_derived n.kind ≡ b) ⊎ (is_derived n.kind ≡ not b) → names_that b (names_that b ns) ≡ names_that b ns → names_that b (that b n ++ names_that b ns) ≡ that b n ++ names_that b ns
    by (inl e) k = ap (λ l. names_that b (l ++ names_that b ns)) (kept b n e) ∙ ap (λ l. that b n ++ l) k
    by (inr e) k = ap (λ l. names_that b (l ++ names_that b ns)) (left b n e) ∙ k ∙ ap (λ l. l ++ names_that b ns) (sym (left b n e))

other_that : (b : Bool) (ns : List Name) → names_that b (names_that (not b) ns) ≡ []
other_that b [] = refl
other_that b (n ∷ ns) = by (either_way (is_derived n.kind) b) (other_that b ns)
  where
    by : (is_derived n.kind ≡ b) ⊎ (is_derived n.kind ≡ not b) → names_that b (names_that (not b) ns) ≡ [] → names_that b (that (not b) n ++ names_that (not b) ns) ≡ []
    by (inl e) k = ap (λ l. names_that b (l ++ names_that (not b) ns)) (left (not b) n (e ∙ twice_not b)) ∙ k
    by (inr e) k = ap (λ l. names_that b (l ++ names_that (not b) ns)) (kept (not b) n e) ∙ ap (λ l. l ++ names_that b (names_that (not b) ns)) (left b n e) ∙ k

pub sorted_that : (b : Bool) (ns : List Name) → names_that b (sorted ns) ≡ names_that b ns
sorted_that b ns = flat_map-append (that b) (names_that false ns) (names_that true ns) ∙ by b
  where
    by : (b : Bool) → names_that b (names_that false ns) ++ names_that b (names_that true ns) ≡ names_that b ns
    by true = (λ i. other_that true ns i ++ same_that true ns i)
    by false = (λ i. same_that false ns i ++ other_that false ns i) ∙ append-nil (names_that false ns)

-- A text names the same of them, where no two are of one name.

inserted_by : (a b : Bool) (x n : Name) (o p : Option Name) → (a ≡ true → b ≡ true → ⊥) → o ≡ cond b (Some n) p → cond a (Some x) o ≡ cond b (Some n) (cond a (Some x) p)
inserted_by true true x n o p f e = absurd (f refl refl)
inserted_by true false x n o p f e = refl
inserted_by false b x n o p f e = e

both_named : (t u v : List ℕ) → bytes_eq u v ≡ false → bytes_eq t v ≡ true → bytes_eq t u ≡ true → ⊥
both_named t u v h p q = true≢false (sym (ap (λ x. bytes_eq u x) (sym (bytes_same t v p) ∙ bytes_same t u q) ∙ same_bytes u) ∙ h)

inserted : (xs ys : List Name) (n : Name) (t : List ℕ) → is_known (names xs) n.name ≡ false → name_of (xs ++ n ∷ ys) t ≡ cond (bytes_eq t n.name) (Some n) (name_of (xs ++ ys) t)
inserted [] ys n t h = refl
inserted (x ∷ xs) ys n t h =
    let p = or_parts (bytes_eq n.name x.name) (is_known (names xs) n.name) h in
    inserted_by (bytes_eq t x.name) (bytes_eq t n.name) x n (name_of (xs ++ n ∷ ys) t) (name_of (xs ++ ys) t) (both_named t n.name x.name p.0) (inserted xs ys n t p.1)

known_that : (b : Bool) (ns : List Name) (t : List ℕ) → is_known (names ns) t ≡ false → is_known (names (names_that b ns)) t ≡ false
known_that b [] t h = refl
known_that b (n ∷ ns) t h = let p = or_parts (bytes_eq t n.name) (is_known (names ns) t) h in by (is_derived n.kind) b (names_that b ns) (known_that b ns t p.1) p.0
  where
    by : (d b : Bool) (rest : List Name) → is_known (names rest) t ≡ false → bytes_eq t n.name ≡ false → is_known (names (cond d (cond b (n ∷ []) []) (cond b [] (n ∷ [])) ++ rest)) t ≡ false
    by true true rest k e = or_from (bytes_eq t n.name) (is_known (names rest) t) e k
    by true false rest k e = k
    by false true rest k e = k
    by false false rest k e = or_from (bytes_eq t n.name) (is_known (names rest) t) e k

pub name_sorted : (ns : List Name) → Distinct (names ns) → (t : List ℕ) → name_of (sorted ns) t ≡ name_of ns t
name_sorted [] d t = refl
name_sorted (n ∷ ns) d t = by (is_derived n.kind) (name_sorted ns d.1 t)
  where
    by : (b : Bool) → name_of (sorted ns) t ≡ name_of ns t
        → name_of ((cond b [] (n ∷ []) ++ names_that false ns) ++ (cond b (n ∷ []) [] ++ names_that true ns)) t ≡ cond (bytes_eq t n.name) (Some n) (name_of ns t)
    by true e = inserted (names_that false ns) (names_that true ns) n t (known_that false ns n.name d.0) ∙ ap (cond (bytes_eq t n.name) (Some n)) e
    by false e = ap (cond (bytes_eq t n.name) (Some n)) e

-- No two of them are of one name.

known_both : (xs ys : List Name) (t : List ℕ) → is_known (names xs) t ≡ false → is_known (names ys) t ≡ false → is_known (names xs ++ names ys) t ≡ false
known_both xs ys t h k = list_any-append (bytes_eq t) (names xs) (names ys) ∙ or_from (is_known (names xs) t) (is_known (names ys) t) h k

distinct_parts : (ns : List Name) → Distinct (names ns) → Distinct (names (names_that false ns) ++ names (names_that true ns))
distinct_parts [] d = tt
distinct_parts (n ∷ ns) d = by (is_derived n.kind) (distinct_parts ns d.1) (known_both (names_that false ns) (names_that true ns) n.name (known_that false ns n.name d.0) (known_that true ns n.name d.0))
  where
    by : (b : Bool) → Distinct (names (names_that false ns) ++ names (names_that true ns)) → is_known (names (names_that false ns) ++ names (names_that true ns)) n.name ≡ false
        → Distinct (names (cond b [] (n ∷ []) ++ names_that false ns) ++ names (cond b (n ∷ []) [] ++ names_that true ns))
    by true k new = between_distinct (names (names_that false ns)) (names (names_that true ns)) n.name k new
    by false k new = (new, k)

distinct_sorted : (ns : List Name) → Distinct (names ns) → Distinct (names (sorted ns))
distinct_sorted ns d = subst Distinct (sym (map-append (λ (n : Name). n.name) (names_that false ns) (names_that true ns))) (distinct_parts ns d)

-- There are as many.

length_parts : (ns : List Name) → length (names_that false ns) + length (names_that true ns) ≡ length ns
length_parts [] = refl
length_parts (n ∷ ns) = by (is_derived n.kind) (length_parts ns)
  where
    by : (b : Bool) → length (names_that false ns) + length (names_that true ns) ≡ length ns → length (cond b [] (n ∷ []) ++ names_that false ns) + length (cond b (n ∷ []) [] ++ names_that true ns) ≡ length (n ∷ ns)
    by true e = omega (arith, e)
    by false e = omega (arith, e)

length_sorted : (ns : List Name) → length (sorted ns) ≡ length ns
length_sorted ns = length-append (names_that false ns) (names_that true ns) ∙ length_parts ns

-- What their declarations need, in words that don't depend on their order.

-- the declaration can be written, and passes no limit of its own
record IsDeclarable (texts : List (List ℕ)) (n : Name) : Type 0 where
  fit : IsFit texts (said n)
  small : passes_count [] [] (begun nameless) (said n) ≡ false

record AreNamed (texts : List (List ℕ)) (ns : List Name) : Type 0 where
  distinct : Distinct (names ns)
  few : length ns ≤ 256
  each : AllByRecursion (IsDeclarable texts) ns

found_known : (b : Bool) (m : Name) (o : Option Name) → is_some (cond b (Some m) o) ≡ (b || is_some o)
found_known true m o = refl
found_known false m o = refl

named_known : (ns : List Name) (t : List ℕ) → is_some (name_of ns t) ≡ is_known (names ns) t
named_known [] t = refl
named_known (n ∷ ns) t = found_known (bytes_eq t n.name) n (name_of ns t) ∙ ap (λ b. bytes_eq t n.name || b) (named_known ns t)

said_twice : (before : List Name) (n : Name) → is_twice before [] (begun nameless) (said n) ≡ is_known (names before) n.name
said_twice before n = by n.name n.arity n.kind
  where
    by : (name : List ℕ) (arity : ℕ) (k : Kind) → is_twice before [] (begun nameless) (said_kind name arity k) ≡ is_known (names before) name
    by name arity OfMessage = named_known before name
    by name arity (OfAttribute values) = named_known before name
    by name arity OfDerived = named_known before name

said_count : (before : List Name) (n : Name) → passes_count before [] (begun nameless) (said n) ≡ false → (nat_le 256 (length before) ≡ false) × (passes_count [] [] (begun nameless) (said n) ≡ false)
said_count before n = by n.name n.arity n.kind
  where
    by : (name : List ℕ) (arity : ℕ) (k : Kind) → passes_count before [] (begun nameless) (said_kind name arity k) ≡ false → (nat_le 256 (length before) ≡ false) × (passes_count [] [] (begun nameless) (said_kind name arity k) ≡ false)
    by name arity OfMessage h = or_parts (nat_le 256 (length before)) (nat_lt 8 arity) h
    by name arity OfDerived h = or_parts (nat_le 256 (length before)) (nat_lt 8 arity) h
    by name arity (OfAttribute values) h =
        let a = or_parts (nat_le 256 (length before) || nat_lt 8 arity) (is_above 64 (option_map length values)) h in
        let b = or_parts (nat_le 256 (length before)) (nat_lt 8 arity) a.0 in
        (b.0, or_from (nat_lt 8 arity) (is_above 64 (option_map length values)) b.1 a.1)

count_said : (before : List Name) (n : Name) → nat_le 256 (length before) ≡ false → passes_count [] [] (begun nameless) (said n) ≡ false → passes_count before [] (begun nameless) (said n) ≡ false
count_said before n = by n.name n.arity n.kind
  where
    by : (name : List ℕ) (arity : ℕ) (k : Kind) → nat_le 256 (length before) ≡ false → passes_count [] [] (begun nameless) (said_kind name arity k) ≡ false → passes_count before [] (begun nameless) (said_kind name arity k) ≡ false
    by name arity OfMessage f h = or_from (nat_le 256 (length before)) (nat_lt 8 arity) f h
    by name arity OfDerived f h = or_from (nat_le 256 (length before)) (nat_lt 8 arity) f h
    by name arity (OfAttribute values) f h =
        let a = or_parts (nat_lt 8 arity) (is_above 64 (option_map length values)) h in
        or_from (nat_le 256 (length before) || nat_lt 8 arity) (is_above 64 (option_map length values)) (or_from (nat_le 256 (length before)) (nat_lt 8 arity) f a.0) a.1

faultless_said : (before : List Name) (n : Name) → is_twice before [] (begun nameless) (said n) ≡ false → passes_count before [] (begun nameless) (said n) ≡ false → IsFaultless false before [] (begun nameless) (said n)
faultless_said before n = by n.name n.arity n.kind
  where
    by : (name : List ℕ) (arity : ℕ) (k : Kind) → is_twice before [] (begun nameless) (said_kind name arity k) ≡ false → passes_count before [] (begun nameless) (said_kind name arity k) ≡ false → IsFaultless false before [] (begun nameless) (said_kind name arity k)
    by name arity OfMessage t c = record { twice = t; name = refl; arity = refl; value = refl; variable = refl; point = refl; bound = refl; window = refl; count = c; room = refl; unlooped = refl; events = refl; unbound = refl }
    by name arity (OfAttribute values) t c = record { twice = t; name = refl; arity = refl; value = refl; variable = refl; point = refl; bound = refl; window = refl; count = c; room = refl; unlooped = refl; events = refl; unbound = refl }
    by name arity OfDerived t c = record { twice = t; name = refl; arity = refl; value = refl; variable = refl; point = refl; bound = refl; window = refl; count = c; room = refl; unlooped = refl; events = refl; unbound = refl }

named_behind : (texts : List (List ℕ)) (ns before : List Name) → AreDeclared texts before ns → Distinct (names before) → length before ≤ 256 → AllByRecursion (IsDeclarable texts) before → AreNamed texts (before ++ ns)
named_behind texts [] before h d f k = subst (AreNamed texts) (sym (append-nil before)) (record { distinct = d; few = f; each = k })
named_behind texts (n ∷ ns) before h d f k =
    let count = said_count before n h.1.count in
    let room = not_le 256 (length before) count.0 in
    let put = length-append before (n ∷ []) in
    subst (AreNamed texts) (append_assoc before (n ∷ []) ns)
    (named_behind texts ns (before ++ n ∷ []) h.2 (subst Distinct (sym (map-append (λ (m : Name). m.name) before (n ∷ []))) (last_distinct (names before) n.name d (sym (said_twice before n) ∙ h.1.twice)))
    (omega (arith, room, put)) (all_append (IsDeclarable texts) before (n ∷ []) k (record { fit = h.0; small = count.1 }, tt)))

declared_behind : (texts : List (List ℕ)) (ns before : List Name) → Distinct (names (before ++ ns)) → length (before ++ ns) ≤ 256 → AllByRecursion (IsDeclarable texts) ns → AreDeclared texts before ns
declared_behind texts [] before d f k = tt
declared_behind texts (n ∷ ns) before d f k =
    let new = behind_new (names before) (names ns) n.name (subst Distinct (map-append (λ (m : Name). m.name) before (n ∷ ns)) d) in
    let put = length-append before (n ∷ ns) in
    let room : nat_le 256 (length before) ≡ false = lt-leb 256 (length before) (omega (arith, put, f)) in
    let moved : (before ++ n ∷ []) ++ ns ≡ before ++ n ∷ ns = append_assoc before (n ∷ []) ns in (
      k.0.fit,
      faultless_said before n (said_twice before n ∙ new) (count_said before n room k.0.small),
      declared_behind texts ns (before ++ n ∷ []) (subst (λ l. Distinct (names l)) (sym moved) d) (subst (λ l. length l ≤ 256) (sym moved) f) k.1,
    )

named_of : (texts : List (List ℕ)) (ns : List Name) → AreDeclared texts [] ns → AreNamed texts ns
named_of texts ns h = named_behind texts ns [] h tt (omega arith) tt

-- no two declared names are equal
pub declared_distinct : (texts : List (List ℕ)) (ns : List Name) → AreDeclared texts [] ns → Distinct (names ns)
declared_distinct texts ns h = (named_of texts ns h).distinct

-- they are declared as well in the other order
pub declared_sorted : (texts : List (List ℕ)) (ns : List Name) → AreDeclared texts [] ns → AreDeclared texts [] (sorted ns)
declared_sorted texts ns h =
    let k = named_of texts ns h in
    declared_behind texts (sorted ns) [] (distinct_sorted ns k.distinct) (subst (λ n. n ≤ 256) (sym (length_sorted ns)) k.few)
    (all_append (IsDeclarable texts) (names_that false ns) (names_that true ns) (all_that (IsDeclarable texts) false ns k.each) (all_that (IsDeclarable texts) true ns k.each))

-- What is done with these names is done with others that a text names the same of.

module _ (ns others : List Name) (same : (t : List ℕ) → name_of others t ≡ name_of ns t) where
  suited_body : (b : Body) → body_has_no_name ns b ≡ false → body_has_wrong_arity ns b ≡ false → body_has_wrong_value ns b ≡ false
      → (body_has_no_name others b ≡ false) × (body_has_wrong_arity others b ≡ false) × (body_has_wrong_value others b ≡ false)
  suited_body (NoEvent p) h k l = (ap is_unnamed (same p.name) ∙ h, ap (λ o. is_misfit o p) (same p.name) ∙ k, ap (λ o. is_beyond o p.change) (same p.name) ∙ l)
  suited_body (Occurs least most p) h k l = (ap is_unnamed (same p.name) ∙ h, ap (λ o. is_misfit o p) (same p.name) ∙ k, ap (λ o. is_beyond o p.change) (same p.name) ∙ l)
  suited_body (Hold name terms value) h k l = (ap is_no_attribute (same name) ∙ h, ap (λ o. has_other_arity o terms) (same name) ∙ k, ap (λ o. holds_beyond o value) (same name) ∙ l)

  suited_same : (s : Statement) → IsSuited ns s → IsSuited others s
  suited_same (Happens e) h =
      let q = same e.pattern.name in
      record { name = ap is_unnamed q ∙ h.name; arity = ap (λ o. is_misfit o e.pattern) q ∙ h.arity; value = ap (λ o. is_beyond o e.pattern.change) q ∙ h.value }
  suited_same (Over w) h = let k = suited_body w.body h.name h.arity h.value in record { name = k.0; arity = k.1; value = k.2 }
  suited_same (Emits e) h = let q = same e.pattern.name in record { name = ap is_not_derived q ∙ h.name; arity = ap (λ o. is_misfit o e.pattern) q ∙ h.arity; value = refl }
  suited_same _ h = record { name = refl; arity = refl; value = refl }

  fine_same : (texts : List (List ℕ)) (c : Written) (s : Statement) → IsFine texts ns c s → IsFine texts others c s
  fine_same texts c s h = record { fit = h.fit; suited = suited_same s h.suited; variable = h.variable; point = h.point; bound = h.bound; window = h.window; large = h.large }

  good_same : (texts : List (List ℕ)) (c : Written) → IsGood texts ns c → IsGood texts others c
  good_same texts c h = record { begins = h.begins; all = each_of (IsFine texts ns c) (IsFine texts others c) c (fine_same texts c) h.all; points = h.points; sets = h.sets; variables = h.variables; few = h.few }

  pub done_same : (texts : List (List ℕ)) (c : Written) → IsDone texts ns c → IsDone texts others c
  done_same texts c h = record { good = good_same texts c h.good; some = h.some; bound = h.bound }
