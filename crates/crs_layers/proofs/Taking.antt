-- Strata that are given entries.
use Rattle.std.proofs.Common.{◌≡◌, ℕ, zero, suc, ◌+◌, ◌<◌, ◌≤◌, ◌^◌, ◌||◌, Bool, true, false, nat_lt, cond, List, [], ◌∷◌, ◌++◌, length, map, take, get_or, refl, sym, ap, subst, ◌∙◌, inl, inr, arith, true≢false, length-append, append-nil, append_assoc, lt-ltb}
use Rattle.std.specs.Prelude.{IsTrue, ◌↔◌}
use Rattle.std.specs.List.{AllByRecursion, AllZip, list_any}
use Rattle.std.specs.Prelude.{Option, Some, None, slice_get}
use Rattle.std.specs.List.{flat_map}
use Rattle.std.specs.Option.{option_to_list}
use Rattle.std.proofs.lemmas.Bool.{cases_lt, le-ltb}
use Rattle.std.proofs.lemmas.List.{take_more, flat_map_more}
use Rattle.crs_base.proofs.Alls.{all_append}
use Rattle.crs_model.specs.declared.plan.Plan.{Plan}
use Rattle.crs_model.specs.Models.{Term, Value, Var, Any, Emit}
use Rattle.crs_model.specs.Plans.{chronicle}
use Rattle.crs_model.specs.Renaming.{AreKnown, IsTermOf}
use Rattle.std.specs.declared.rc.Rc.{Rc}
use Rattle.std.proofs.Common.{Global}
use Rattle.std.specs.Prelude.{option_map}
use Rattle.crs_base.specs.Seen.{entry_of}
use Rattle.crs_base.specs.declared.entry.Entry.{Entry as CodeEntry}
use Rattle.crs_model.specs.declared.chronicle.Emit.{Emit as CodeEmit}
use Rattle.crs_model.specs.declared.recognition.Recognition.{Recognition}
use Rattle.crs_model.specs.SeenModels.{assignment_of, emit_of, given}
use Rattle.crs_layers.specs.Strata.{symbols_at, entry_by, given_by}
use Rattle.crs_layers.specs.Standing.{HasText}
use Rattle.crs_base.specs.declared.symbols.Sym.{Sym}
use Rattle.crs_base.specs.Entry.{Entry}
use Rattle.crs_layers.specs.Strata.{taken, with_given}
use Rattle.crs_layers.specs.declared.layer.Layer.{Layer}
use Rattle.crs_layers.specs.Accepting.{IsSameLayer, HasLogged}
use Rattle.crs_layers.specs.Standing.{IsLayerAt}
use Rattle.crs_layers.specs.Giving.{IsGoing, is_flooded_by, AreDue, HasTaken, HaveTaken, emits_at}
use Rattle.crs_layers.proofs.Logging.{logged_at}

-- ---- what is taken of more and more

module _ {S : Type 0} where
  -- nothing more is taken once one wasn't
  none_taken : (limit n : ℕ) (ys : List (Entry S)) → limit ≤ n → taken limit n ys ≡ []
  none_taken limit n [] l = refl
  none_taken limit n (y ∷ ys) l = λ i. cond (le-ltb n limit l i) (record y { arrival = n } ∷ taken limit (n + 1) ys) []

  taken_append : (limit n : ℕ) (ys zs : List (Entry S)) → taken limit n (ys ++ zs) ≡ taken limit n ys ++ taken limit (n + length (taken limit n ys)) zs
  taken_append limit n [] zs = ap (λ (m : ℕ). taken limit m zs) (omega arith)
  taken_append limit n (y ∷ ys) zs = elim (cases_lt n limit) [
    | inl l ↦ (let e = lt-ltb n limit l in
        let rest : List (Entry S) = taken limit (n + 1) ys in
        let sum : (n + 1) + length rest ≡ n + length (record y { arrival = n } ∷ rest) = omega arith in
        (λ i. cond (e i) (record y { arrival = n } ∷ taken limit (n + 1) (ys ++ zs)) [])
        ∙ ap (λ (ts : List (Entry S)). record y { arrival = n } ∷ ts) (taken_append limit (n + 1) ys zs ∙ ap (λ (m : ℕ). rest ++ taken limit m zs) sum)
        ∙ (λ i. cond (sym e i) (record y { arrival = n } ∷ rest) [] ++ taken limit (n + length (cond (sym e i) (record y { arrival = n } ∷ rest) [])) zs))
    | inr l ↦ (let sum : n ≡ n + 0 = omega arith in
        none_taken limit n (y ∷ (ys ++ zs)) l ∙ sym (none_taken limit n zs l) ∙ ap (λ (m : ℕ). taken limit m zs) sum
        ∙ (λ i. sym (none_taken limit n (y ∷ ys) l) i ++ taken limit (n + length (sym (none_taken limit n (y ∷ ys) l) i)) zs))
  ]

  pub given_append : (limit : ℕ) (old ys zs : List (Entry S)) → with_given limit (with_given limit old ys) zs ≡ with_given limit old (ys ++ zs)
  given_append limit old ys zs =
      let t : List (Entry S) = taken limit (length old) ys in
      append_assoc old t (taken limit (length (old ++ t)) zs)
      ∙ ap (λ (n : ℕ). old ++ (t ++ taken limit n zs)) (length-append old t)
      ∙ ap (λ (ts : List (Entry S)). old ++ ts) (sym (taken_append limit (length old) ys zs))

-- ---- one entry

same_layer : (l : Layer) → IsSameLayer l l
same_layer l = record { numbers = refl; behind = refl }

pub taken_none : (l : Layer) → IsGoing l → HasTaken [] l l
taken_none l g = record {
  same = same_layer l;
  same_plans = refl;
  same_focus = refl;
  same_limit = refl;
  same_horizon = refl;
  running = g.running;
  count = let f = g.few in omega (arith, f);
  at = λ h last delay s k. subst (λ (es : List (Entry Sym)). IsLayerAt h last delay (record s { accepted = es }) l) (sym (append-nil s.accepted)) k;
}

pub taken_full : (y : Entry Sym) (l : Layer) → IsGoing l → l.engine.accepted ≡ l.engine.limit → HasTaken (y ∷ []) l l
taken_full y l g e = record {
  same = same_layer l;
  same_plans = refl;
  same_focus = refl;
  same_limit = refl;
  same_horizon = refl;
  running = g.running;
  count = omega (arith, e);
  at = λ h last delay s k.
      let n = k.count in
      let none : taken l.engine.limit (length s.accepted) (y ∷ []) ≡ [] = none_taken l.engine.limit (length s.accepted) (y ∷ []) (omega (arith, n, e)) in
      subst (λ (es : List (Entry Sym)). IsLayerAt h last delay (record s { accepted = es }) l) (sym (ap (λ (ts : List (Entry Sym)). s.accepted ++ ts) none ∙ append-nil s.accepted)) k;
}

pub taken_logged : (x y : Entry Sym) (l m : Layer) → x ≡ record y { arrival = 0 } → IsGoing l → l.engine.accepted < l.engine.limit → l.engine.horizon ≤ y.date → y.date < 2 ^ 40 → IsSameLayer l m → HasLogged x l m → HasTaken (y ∷ []) l m
taken_logged x y l m is g room due date same z = record {
  same = same;
  same_plans = z.accepted.same_plans;
  same_focus = z.accepted.same_focus;
  same_limit = z.accepted.same_limit;
  same_horizon = z.accepted.same_horizon;
  running = z.running;
  count = let a = z.accepted.one_more in omega (arith, a, room);
  at = λ h last delay s k.
      let n = k.count in
      let at_h = k.horizon in
      let dated : x.date ≡ y.date = ap (λ (e : Entry Sym). e.date) is in
      let one : s.accepted ++ record x { arrival = length s.accepted } ∷ [] ≡ with_given l.engine.limit s.accepted (y ∷ []) =
      (λ i. s.accepted ++ record (is i) { arrival = length s.accepted } ∷ [])
      ∙ (λ i. s.accepted ++ cond (sym (lt-ltb (length s.accepted) l.engine.limit (omega (arith, n, room))) i) (record y { arrival = length s.accepted } ∷ []) []) in
      subst (λ (es : List (Entry Sym)). IsLayerAt h last delay (record s { accepted = es }) m) one
      (logged_at h last delay s l m x k room same z (omega (arith, at_h, dated, due)) (omega (arith, dated, date)));
}

pub full_flood : (l : Layer) → l.engine.accepted ≡ l.engine.limit → is_flooded_by 1 l ≡ true
full_flood l e = lt-ltb l.engine.limit (l.engine.accepted + 1) (omega (arith, e))

pub room_flood : (l : Layer) → l.engine.accepted < l.engine.limit → is_flooded_by 1 l ≡ false
room_flood l r = le-ltb l.engine.limit (l.engine.accepted + 1) (omega (arith, r))

pub room_left : (b : Bool) (l : Layer) → IsTrue b ↔ (l.engine.accepted ≡ l.engine.limit) → b ≡ false → l.engine.accepted ≤ l.engine.limit → l.engine.accepted < l.engine.limit
room_left true l h e few = absurd (true≢false e)
room_left false l h e few = elim (cases_lt l.engine.accepted l.engine.limit) [ inl k ↦ k | inr k ↦ absurd (true≢false (sym (h.1 (omega (arith, few, k))))) ]

-- ---- entries behind entries

pub taken_more : (ys zs : List (Entry Sym)) (a b c : Layer) → HasTaken ys a b → HasTaken zs b c → HasTaken (ys ++ zs) a c
taken_more ys zs a b c p q =
    let limit : b.engine.limit ≡ a.engine.limit = p.same_limit in
    record {
      same = record { numbers = q.same.numbers ∙ p.same.numbers; behind = q.same.behind ∙ p.same.behind };
      same_plans = q.same_plans ∙ p.same_plans;
      same_focus = q.same_focus ∙ p.same_focus;
      same_limit = q.same_limit ∙ p.same_limit;
      same_horizon = q.same_horizon ∙ p.same_horizon;
      running = q.running;
      count = let m = p.count in let n = q.count in let l = length-append ys zs in omega (arith, m, n, l, limit);
      at = λ h last delay s k.
          subst (λ (es : List (Entry Sym)). IsLayerAt h last delay (record s { accepted = es }) c)
          ((λ i. with_given (limit i) (with_given a.engine.limit s.accepted ys) zs) ∙ given_append a.engine.limit s.accepted ys zs)
          (q.at h last delay (record s { accepted = with_given a.engine.limit s.accepted ys }) (p.at h last delay s k));
    }

pub all_more : (ys zs : List (Entry Sym)) (ls bs cs : List Layer) → AllZip (HasTaken ys) ls bs → AllZip (HasTaken zs) bs cs → AllZip (HasTaken (ys ++ zs)) ls cs
all_more ys zs [] [] [] p q = tt
all_more ys zs [] [] (c ∷ cs) p q = absurd q
all_more ys zs [] (b ∷ bs) cs p q = absurd p
all_more ys zs (a ∷ ls) [] cs p q = absurd p
all_more ys zs (a ∷ ls) (b ∷ bs) [] p q = absurd q
all_more ys zs (a ∷ ls) (b ∷ bs) (c ∷ cs) p q = (taken_more ys zs a b c p.0 q.0, all_more ys zs ls bs cs p.1 q.1)

pub none_all : (ls : List Layer) → AllByRecursion IsGoing ls → AllZip (HasTaken []) ls ls
none_all [] g = tt
none_all (a ∷ ls) g = (taken_none a g.0, none_all ls g.1)

pub going_all : (ys : List (Entry Sym)) (ls bs : List Layer) → AllZip (HasTaken ys) ls bs → AllByRecursion IsGoing bs
going_all ys [] [] p = tt
going_all ys [] (b ∷ bs) p = absurd p
going_all ys (a ∷ ls) [] p = absurd p
going_all ys (a ∷ ls) (b ∷ bs) p = let m = p.0.count in let l = p.0.same_limit in (record { running = p.0.running; few = omega (arith, m, l) }, going_all ys ls bs p.1)

due_then : (ys : List (Entry Sym)) (d : ℕ) (ls bs : List Layer) → AllZip (HasTaken ys) ls bs → AllByRecursion (λ l. l.engine.horizon ≤ d) ls → AllByRecursion (λ l. l.engine.horizon ≤ d) bs
due_then ys d [] [] p h = tt
due_then ys d [] (b ∷ bs) p h = absurd p
due_then ys d (a ∷ ls) [] p h = absurd p
due_then ys d (a ∷ ls) (b ∷ bs) p h = let e = p.0.same_horizon in let k = h.0 in (omega (arith, e, k), due_then ys d ls bs p.1 h.1)

pub all_due_then : (ys : List (Entry Sym)) (ls bs : List Layer) → AllZip (HasTaken ys) ls bs → (zs : List (Entry Sym)) → AreDue ls zs → AreDue bs zs
all_due_then ys ls bs p [] h = tt
all_due_then ys ls bs p (z ∷ zs) h = ((due_then ys z.date ls bs p h.0.0, h.0.1), all_due_then ys ls bs p zs h.1)

-- ---- floods

flood_more : (n m : ℕ) (ys : List (Entry Sym)) (a b : Layer) → length ys ≡ n → HasTaken ys a b → (is_flooded_by n a || is_flooded_by m b) ≡ is_flooded_by (n + m) a
flood_more n m ys a b e p = elim (cases_lt a.engine.limit (a.engine.accepted + n)) [
  | inl l ↦ ((λ i. lt-ltb a.engine.limit (a.engine.accepted + n) l i || is_flooded_by m b) ∙ sym (lt-ltb a.engine.limit (a.engine.accepted + (n + m)) (omega (arith, l))))
  | inr l ↦ (let count = p.count in
      let limit = p.same_limit in
      let sum : b.engine.accepted + m ≡ a.engine.accepted + (n + m) = omega (arith, count, e, l) in
      (λ i. le-ltb a.engine.limit (a.engine.accepted + n) l i || nat_lt (limit i) (sum i)))
]

swap : (a b c d : Bool) → ((a || b) || (c || d)) ≡ ((a || c) || (b || d))
swap true b c d = refl
swap false true true d = refl
swap false true false true = refl
swap false true false false = refl
swap false false true d = refl
swap false false false d = refl

pub all_flood : (n m : ℕ) (ys : List (Entry Sym)) (ls bs : List Layer) → length ys ≡ n → AllZip (HasTaken ys) ls bs → (list_any (is_flooded_by n) ls || list_any (is_flooded_by m) bs) ≡ list_any (is_flooded_by (n + m)) ls
all_flood n m ys [] [] e p = refl
all_flood n m ys [] (b ∷ bs) e p = absurd p
all_flood n m ys (a ∷ ls) [] e p = absurd p
all_flood n m ys (a ∷ ls) (b ∷ bs) e p =
    swap (is_flooded_by n a) (list_any (is_flooded_by n) ls) (is_flooded_by m b) (list_any (is_flooded_by m) bs)
    ∙ (λ i. flood_more n m ys a b e p.0 i || all_flood n m ys ls bs e p.1 i)

pub no_flood : (ls : List Layer) → AllByRecursion IsGoing ls → list_any (is_flooded_by 0) ls ≡ false
no_flood [] g = refl
no_flood (a ∷ ls) g = let f = g.0.few in (λ i. le-ltb a.engine.limit (a.engine.accepted + 0) (omega (arith, f)) i || no_flood ls g.1 i)

-- ---- parts

pub due_left : (ls : List Layer) (ys zs : List (Entry Sym)) → AreDue ls (ys ++ zs) → AreDue ls ys
due_left ls [] zs h = tt
due_left ls (y ∷ ys) zs h = (h.0, due_left ls ys zs h.1)

pub due_right : (ls : List Layer) (ys zs : List (Entry Sym)) → AreDue ls (ys ++ zs) → AreDue ls zs
due_right ls [] zs h = h
due_right ls (y ∷ ys) zs h = due_right ls ys zs h.1

pub none_have : (ls : List Layer) → AllByRecursion IsGoing ls → HaveTaken [] ls ls false
none_have ls g = record { taken = none_all ls g; flood_is = sym (no_flood ls g) }

pub first_have : (y : Entry Sym) (l m : Layer) (ls ms : List Layer) (f g : Bool) → f ≡ is_flooded_by 1 l → HasTaken (y ∷ []) l m → HaveTaken (y ∷ []) ls ms g → HaveTaken (y ∷ []) (l ∷ ls) (m ∷ ms) (f || g)
first_have y l m ls ms f g e p q = record { taken = (p, q.taken); flood_is = λ i. e i || q.flood_is i }

pub have_more : (ys zs : List (Entry Sym)) (ls ms ns : List Layer) (f g : Bool) → HaveTaken ys ls ms f → HaveTaken zs ms ns g → HaveTaken (ys ++ zs) ls ns (f || g)
have_more ys zs ls ms ns f g p q = record {
  taken = all_more ys zs ls ms ns p.taken q.taken;
  flood_is = (λ i. p.flood_is i || q.flood_is i) ∙ all_flood (length ys) (length zs) ys ls ms refl p.taken ∙ ap (λ (n : ℕ). list_any (is_flooded_by n) ls) (sym (length-append ys zs));
}

-- ---- what some give, one after another

module _ {A : Type 0} (f : A → List (Entry Sym)) where
  pub due_at : (ls : List Layer) (xs : List A) (i : ℕ) (x : A) → i < length xs → x ≡ get_or xs i x → AreDue ls (flat_map f xs) → AreDue ls (f x)
  due_at ls [] i x l e h = absurd (omega (arith, l))
  due_at ls (y ∷ xs) zero x l e h = subst (λ (z : A). AreDue ls (f z)) (sym e) (due_left ls (f y) (flat_map f xs) h)
  due_at ls (y ∷ xs) (suc i) x l e h = due_at ls xs i x (omega (arith, l)) e (due_right ls (f y) (flat_map f xs) h)

  pub have_next : (xs : List A) (i : ℕ) (x : A) (ls ms ns : List Layer) (b c : Bool) → i < length xs → x ≡ get_or xs i x
      → HaveTaken (flat_map f (take i xs)) ls ms b → HaveTaken (f x) ms ns c → HaveTaken (flat_map f (take (i + 1) xs)) ls ns (b || c)
  have_next xs i x ls ms ns b c l e p q =
      let next : take i xs ++ x ∷ [] ≡ take (i + 1) xs = ap (λ (z : A). take i xs ++ z ∷ []) e ∙ sym (take_more xs i x l) in
      subst (λ (ys : List (Entry Sym)). HaveTaken ys ls ns (b || c)) (flat_map_more f [] (take i xs) x ∙ ap (flat_map f) next)
      (have_more (flat_map f (take i xs)) (f x) ls ms ns b c p q)

-- ---- what an emit gives

pub emits_all : (P : Emit Sym → Type 0) (ps : List Plan) (n : ℕ) → AllByRecursion (λ p. AllByRecursion P (chronicle p).emits) ps → AllByRecursion P (emits_at ps n)
emits_all P [] n h = tt
emits_all P (p ∷ ps) zero h = subst (AllByRecursion P) (sym (append-nil (chronicle p).emits)) h.0
emits_all P (p ∷ ps) (suc n) h = emits_all P ps n h.1

pub got_map : {A B : Type 0} (f : A → B) (xs : List A) (n : ℕ) (x : A) → slice_get xs n ≡ Some x → slice_get (map f xs) n ≡ Some (f x)
got_map f [] n x e = absurd cc
got_map f (y ∷ xs) zero x e = let same : y ≡ x = cc in ap (λ z. Some (f z)) same
got_map f (y ∷ xs) (suc n) x e = got_map f xs n x e

pub none_map : {A B : Type 0} (f : A → B) (xs : List A) (n : ℕ) → slice_get xs n ≡ None → slice_get (map f xs) n ≡ None
none_map f [] n e = refl
none_map f (y ∷ xs) zero e = absurd cc
none_map f (y ∷ xs) (suc n) e = none_map f xs n e

value_known : (texts : List (List ℕ)) (values : List Sym) (v : ℕ) → AreKnown texts values → AreKnown texts (option_to_list (slice_get values v))
value_known texts [] v h = tt
value_known texts (x ∷ xs) zero h = (h.0, tt)
value_known texts (x ∷ xs) (suc v) h = value_known texts xs v h.1

pub terms_known : (texts : List (List ℕ)) (values : List Sym) (ts : List (Term Sym)) → AreKnown texts values → AllByRecursion (IsTermOf (HasText texts)) ts → AreKnown texts (flat_map (symbols_at values) ts)
terms_known texts values [] h k = tt
terms_known texts values (Value x ∷ ts) h k = (k.0, terms_known texts values ts h k.1)
terms_known texts values (Var v ∷ ts) h k = all_append (λ s. s.0 < length texts) (option_to_list (slice_get values v)) (flat_map (symbols_at values) ts) (value_known texts values v h) (terms_known texts values ts h k.1)
terms_known texts values (Any ∷ ts) h k = terms_known texts values ts h k.1

pub emit_gives : (text_of : Sym → List ℕ) (found : Recognition) (emit : CodeEmit) (r : Rc CodeEntry Global) (y : Entry Sym) → slice_get found.entries emit.event ≡ Some r
    → y ≡ entry_by text_of (given found.binding) (emit_of emit) (entry_of r.value) → given_by text_of (assignment_of found) (emit_of emit) ≡ y ∷ []
emit_gives text_of found emit r y e is =
    ap (λ (o : Option (Entry Sym)). option_to_list (option_map (entry_by text_of (given found.binding) (emit_of emit)) o)) (got_map (λ x. entry_of x.value) found.entries emit.event r e)
    ∙ ap (λ (x : Entry Sym). x ∷ []) (sym is)

pub emit_gives_none : (text_of : Sym → List ℕ) (found : Recognition) (emit : CodeEmit) → slice_get found.entries emit.event ≡ None → given_by text_of (assignment_of found) (emit_of emit) ≡ []
emit_gives_none text_of found emit e =
    ap (λ (o : Option (Entry Sym)). option_to_list (option_map (entry_by text_of (given found.binding) (emit_of emit)) o)) (none_map (λ x. entry_of x.value) found.entries emit.event e)

pub empty_is : {A : Type 0} (xs : List A) → length xs ≡ 0 → xs ≡ []
empty_is [] e = refl
empty_is (x ∷ xs) e = absurd (omega (arith, e))
