-- Lost windows stay lost.
use Rattle.std.proofs.Common.{◌≡◌, ℕ, suc, ◌≤◌, ◌<◌, List, [], ◌∷◌, ◌++◌, refl, sym, ap, subst, ◌∙◌, inl, inr, arith}
use Rattle.std.specs.Prelude.{ℤ, pos, ◌≤ℤ◌, ◌<ℤ◌, Option, Some, None, IfSome, IsSomeAnd}
use Rattle.std.specs.List.{AllZip, AllByRecursion}
use Rattle.std.proofs.lemmas.Int.{ints, by_lt_z}
use Rattle.crs_base.specs.Words.{IsIn}
use Rattle.crs_base.proofs.Words.{in_append_left}
use Rattle.crs_base.specs.Entry.{Entry}
use Rattle.crs_base.specs.Values.{Attribute, HasValue}
use Rattle.crs_base.proofs.Values.{value_back, change_agrees}
use Rattle.crs_model.specs.Models.{Term, Value, Var, Any, Pattern, Window, Body, NoEvent, Occurs, Hold}
use Rattle.crs_model.specs.Matching.{Binding, TermIs, ChangeIs, PatternIs}
use Rattle.crs_model.specs.Partial.{Partial, at}
use Rattle.crs_model.specs.Verdicts.{Count, IsDatedIn, IsHeld, IsCount, IsSo, IsSpoilt, IsStretch, TermIsBound, PatternIsBound, BodyIsBound, IsLost}
use Rattle.crs_model.proofs.Options.{and_some, some_and}
use Rattle.crs_model.proofs.Least.{Extends, Looser}

-- ---- counts

pub count_unique : {A : Type 0} (P : A → Type 0) (xs : List A) (n m : ℕ) → Count P xs n → Count P xs m → n ≡ m
count_unique P [] n m h k = h ∙ sym k
count_unique P (x ∷ xs) n m (inl h) (inl k) = h.2 ∙ ap suc (count_unique P xs h.1 k.1 h.3 k.3) ∙ sym k.2
count_unique P (x ∷ xs) n m (inl h) (inr k) = absurd (k.0 h.0)
count_unique P (x ∷ xs) n m (inr h) (inl k) = absurd (h.0 k.0)
count_unique P (x ∷ xs) n m (inr h) (inr k) = count_unique P xs n m h.1 k.1

pub count_same : {A : Type 0} (P Q : A → Type 0) (to : (x : A) → P x → Q x) (back : (x : A) → Q x → P x) (xs : List A) (n : ℕ) → Count P xs n → Count Q xs n
count_same P Q to back [] n h = h
count_same P Q to back (x ∷ xs) n (inl h) = inl (to x h.0, h.1, h.2, count_same P Q to back xs h.1 h.3)
count_same P Q to back (x ∷ xs) n (inr h) = inr (λ q. h.0 (back x q), count_same P Q to back xs n h.1)

pub count_front : {A : Type 0} (P : A → Type 0) (xs ys : List A) (n : ℕ) → Count P (xs ++ ys) n → (m : ℕ) × Count P xs m × (m ≤ n)
count_front P [] ys n h = (0, refl, omega arith)
count_front P (x ∷ xs) ys n (inl h) = let r = count_front P xs ys h.1 h.3 in (suc r.0, inl (h.0, r.0, refl, r.1), let l = r.2 in let e = h.2 in omega arith)
count_front P (x ∷ xs) ys n (inr h) = let r = count_front P xs ys n h.1 in (r.0, inr (h.0, r.1), r.2)

pub count_none : {A : Type 0} (P : A → Type 0) (xs ys : List A) (n : ℕ) → ((x : A) → IsIn x ys → P x → ⊥) → Count P (xs ++ ys) n → Count P xs n
count_none P [] [] n none h = h
count_none P [] (y ∷ ys) n none (inl h) = absurd (none y (inl refl) h.0)
count_none P [] (y ∷ ys) n none (inr h) = count_none P [] ys n (λ x i. none x (inr i)) h.1
count_none P (x ∷ xs) ys n none (inl h) = inl (h.0, h.1, h.2, count_none P xs ys h.1 none h.3)
count_none P (x ∷ xs) ys n none (inr h) = inr (h.0, count_none P xs ys n none h.1)

out_of : (to h : ℤ) (d n : ℕ) → to ≤ℤ pos n → n ≤ d → pos d <ℤ to → ⊥
out_of to h d n l m k = omega (arith, ints)

-- ---- later entries and a later horizon

module _ {S : Type 0} (entries more : List (Entry S)) (h g : ℕ) (later : h ≤ g) (late : (e : Entry S) → IsIn e more → h ≤ e.date) where
  after : (t : ℤ) (d n : ℕ) → n ≤ d → t <ℤ pos n → t <ℤ pos d
  after t d n l k = omega (arith, ints)

  held_back : (a : Attribute S) (t : ℤ) (v : S) → t <ℤ pos h → HasValue a (entries ++ more) t v → HasValue a entries t v
  held_back a t v l val = value_back a entries more t (λ e i. after t e.date h (late e i) l) v val

  not_dated : (from to : ℤ) → to ≤ℤ pos h → (e : Entry S) → IsIn e more → IsDatedIn from to e → ⊥
  not_dated from to l e i d = out_of to to e.date h l (late e i) d.1

  pub so_back : (look : Binding S) (body : Body S) (from to : ℤ) → to ≤ℤ pos h → IsSo (entries ++ more) look body from to → IsSo entries look body from to
  so_back look (NoEvent p) from to l so = count_none _ entries more 0 (λ e i d. not_dated from to l e i d.0) so
  so_back look (Occurs least most p) from to l so = (so.0, count_none _ entries more so.0 (λ e i d. not_dated from to l e i d.0) so.1, so.2, so.3)
  so_back look (Hold name terms value) from to l so = λ a v is t b c. held_back a t v (omega (arith, ints)) (so a v is t b c)

  above_most : (most : Option ℕ) (P Q : ℕ → Type 0) (n m : ℕ) → IsSomeAnd most (λ k. (n : ℕ) → P n → k < n) → P m → m ≤ n → IfSome most (λ k. n ≤ k) → ⊥
  above_most None P Q n m s p l i = s
  above_most (Some k) P Q n m s p l i = let r = s m p in omega arith

  pub spoilt_not_so : (look : Binding S) (body : Body S) (from to : ℤ) → IsSpoilt entries look body from to (pos h) → IsSo (entries ++ more) look body from to → ⊥
  spoilt_not_so look (NoEvent p) from to spoilt so =
      let r = count_front _ entries more 0 so in
      let z : r.0 ≡ 0 = let l = r.2 in omega arith in
      spoilt (subst (λ n. IsCount entries look p from to n) z r.1)
  spoilt_not_so look (Occurs least most p) from to spoilt so =
      let r = count_front _ entries more so.0 so.1 in
      (above_most most (λ n. IsCount entries look p from to n) (λ n. IsCount entries look p from to n) so.0 r.0 spoilt r.1 r.2 so.3)
  spoilt_not_so look (Hold name terms value) from to (a, v, is, inl u) so = u.4 (held_back a u.0 v u.3 (so a v is u.0 u.1 u.2))
  spoilt_not_so look (Hold name terms value) from to (a, v, is, inr ch) so =
      ch.4 (change_agrees a (entries ++ more) v ch.0 (in_append_left entries more ch.0 ch.1) ch.2 (so a v is (pos (ch.0).date) (ch.3).0 (ch.3).1))

  over_still : (most : Option ℕ) (P Q : ℕ → Type 0) → ((n : ℕ) → Q n → (m : ℕ) × P m × (m ≤ n)) → IsSomeAnd most (λ k. (n : ℕ) → P n → k < n) → IsSomeAnd most (λ k. (n : ℕ) → Q n → k < n)
  over_still None P Q f s = s
  over_still (Some k) P Q f s = λ n q. let r = f n q in let l = s r.0 r.1 in let m = r.2 in omega arith

  pub spoilt_grows : (look : Binding S) (body : Body S) (from to : ℤ) → IsSpoilt entries look body from to (pos h) → IsSpoilt (entries ++ more) look body from to (pos g)
  spoilt_grows look (NoEvent p) from to spoilt = λ so. spoilt_not_so look (NoEvent p) from to spoilt so
  spoilt_grows look (Occurs least most p) from to spoilt = over_still most _ _ (λ n q. count_front _ entries more n q) spoilt
  spoilt_grows look (Hold name terms value) from to (a, v, is, inl u) = (a, v, is, inl (u.0, u.1, u.2, let k = u.3 in omega (arith, ints), λ val. u.4 (held_back a u.0 v u.3 val)))
  spoilt_grows look (Hold name terms value) from to (a, v, is, inr ch) = (a, v, is, inr (ch.0, in_append_left entries more ch.0 ch.1, ch.2, ch.3, ch.4))

  pub lost_grows : (look : Binding S) (a : Partial S) (w : Window S) → IsLost look a entries h w → IsLost look a (entries ++ more) g w
  lost_grows look a w l = record {
    from = l.from;
    to = l.to;
    stretch = l.stretch;
    bound = l.bound;
    lost = elim l.lost [
      | inl s ↦ inl (let k = s.0 in omega (arith, ints), λ so. s.1 (so_back look w.body l.from l.to s.0 so))
      | inr s ↦ by_lt_z (pos g) l.to
          (λ k. inr (k, spoilt_grows look w.body l.from l.to s.1))
          (λ k. inl (k, λ so. spoilt_not_so look w.body l.from l.to s.1 so))
    ];
  }

-- ---- more bound

module _ {S : Type 0} (small look : Binding S) (looser : Looser small look) where
  pub term_up : (t : Term S) (y : S) → TermIs small t y → TermIs look t y
  term_up (Value x) y k = k
  term_up (Var u) y k = looser u y k
  term_up Any y k = tt

  term_down : (t : Term S) (y : S) → TermIsBound small t → TermIs look t y → TermIs small t y
  term_down (Value x) y b k = k
  term_down (Var u) y b k = let r = and_some (small u) _ b in let m = looser u r.0 r.1 in let s : r.0 ≡ y = cc in r.1 ∙ ap Some s
  term_down Any y b k = tt

  pub terms_up : (ts : List (Term S)) (ys : List S) → AllZip (TermIs small) ts ys → AllZip (TermIs look) ts ys
  terms_up [] [] k = tt
  terms_up [] (y ∷ ys) k = k
  terms_up (t ∷ ts) [] k = k
  terms_up (t ∷ ts) (y ∷ ys) k = (term_up t y k.0, terms_up ts ys k.1)

  terms_down : (ts : List (Term S)) (ys : List S) → AllByRecursion (TermIsBound small) ts → AllZip (TermIs look) ts ys → AllZip (TermIs small) ts ys
  terms_down [] [] b k = tt
  terms_down [] (y ∷ ys) b k = k
  terms_down (t ∷ ts) [] b k = k
  terms_down (t ∷ ts) (y ∷ ys) b k = (term_down t y b.0 k.0, terms_down ts ys b.1 k.1)

  pub change_up : (c : Option (Term S × Term S)) (x : Option (S × S)) → ChangeIs small c x → ChangeIs look c x
  change_up None None k = tt
  change_up None (Some x) k = k
  change_up (Some c) None k = k
  change_up (Some c) (Some x) k = (term_up c.0 x.0 k.0, term_up c.1 x.1 k.1)

  change_down : (c : Option (Term S × Term S)) (x : Option (S × S)) → IfSome c (λ c. TermIsBound small c.0 × TermIsBound small c.1) → ChangeIs look c x → ChangeIs small c x
  change_down None None b k = tt
  change_down None (Some x) b k = k
  change_down (Some c) None b k = k
  change_down (Some c) (Some x) b k = (term_down c.0 x.0 b.0 k.0, term_down c.1 x.1 b.1 k.1)

  pub pattern_up : (p : Pattern S) (x : Entry S) → PatternIs small p x → PatternIs look p x
  pattern_up p x k = record { name = k.name; terms = terms_up p.terms x.args k.terms; change = change_up p.change x.change k.change }

  pub pattern_down : (p : Pattern S) (x : Entry S) → PatternIsBound small p → PatternIs look p x → PatternIs small p x
  pattern_down p x b k = record { name = k.name; terms = terms_down p.terms x.args b.0 k.terms; change = change_down p.change x.change b.1 k.change }

  bound_up : (t : Term S) → TermIsBound small t → TermIsBound look t
  bound_up (Value x) b = b
  bound_up (Var u) b = let r = and_some (small u) _ b in some_and (look u) _ r.0 (looser u r.0 r.1) tt
  bound_up Any b = b

  all_bound_up : (ts : List (Term S)) → AllByRecursion (TermIsBound small) ts → AllByRecursion (TermIsBound look) ts
  all_bound_up [] b = tt
  all_bound_up (t ∷ ts) b = (bound_up t b.0, all_bound_up ts b.1)

  change_bound_up : (c : Option (Term S × Term S)) → IfSome c (λ c. TermIsBound small c.0 × TermIsBound small c.1) → IfSome c (λ c. TermIsBound look c.0 × TermIsBound look c.1)
  change_bound_up None b = tt
  change_bound_up (Some c) b = (bound_up c.0 b.0, bound_up c.1 b.1)

  pub body_bound_up : (body : Body S) → BodyIsBound small body → BodyIsBound look body
  body_bound_up (NoEvent p) b = (all_bound_up p.terms b.0, change_bound_up p.change b.1)
  body_bound_up (Occurs least most p) b = (all_bound_up p.terms b.0, change_bound_up p.change b.1)
  body_bound_up (Hold name terms value) b = (all_bound_up terms b.0, bound_up value b.1)

  module _ (entries : List (Entry S)) (from to : ℤ) where
    pub count_up : (p : Pattern S) (n : ℕ) → PatternIsBound small p → IsCount entries small p from to n → IsCount entries look p from to n
    count_up p n b k = count_same _ _ (λ e d. (d.0, pattern_up p e d.1)) (λ e d. (d.0, pattern_down p e b d.1)) entries n k

    count_down : (p : Pattern S) (n : ℕ) → PatternIsBound small p → IsCount entries look p from to n → IsCount entries small p from to n
    count_down p n b k = count_same _ _ (λ e d. (d.0, pattern_down p e b d.1)) (λ e d. (d.0, pattern_up p e d.1)) entries n k

    held_up : (name : S) (terms : List (Term S)) (value : Term S) (a : Attribute S) (v : S) → IsHeld small name terms value a v → IsHeld look name terms value a v
    held_up name terms value a v k = record { name_is = k.name_is; args_are = terms_up terms a.args k.args_are; value_is = term_up value v k.value_is }

    pub held_down : (name : S) (terms : List (Term S)) (value : Term S) (a : Attribute S) (v : S) → AllByRecursion (TermIsBound small) terms → TermIsBound small value → IsHeld look name terms value a v → IsHeld small name terms value a v
    held_down name terms value a v b c k = record { name_is = k.name_is; args_are = terms_down terms a.args b k.args_are; value_is = term_down value v c k.value_is }

    pub so_up : (body : Body S) → BodyIsBound small body → IsSo entries small body from to → IsSo entries look body from to
    so_up (NoEvent p) b so = count_up p 0 b so
    so_up (Occurs least most p) b so = (so.0, count_up p so.0 b so.1, so.2, so.3)
    so_up (Hold name terms value) b so = λ a v is. so a v (held_down name terms value a v b.0 b.1 is)

    pub so_down : (body : Body S) → BodyIsBound small body → IsSo entries look body from to → IsSo entries small body from to
    so_down (NoEvent p) b so = count_down p 0 b so
    so_down (Occurs least most p) b so = (so.0, count_down p so.0 b so.1, so.2, so.3)
    so_down (Hold name terms value) b so = λ a v is. so a v (held_up name terms value a v is)

    over_up : (most : Option ℕ) (P Q : ℕ → Type 0) → ((n : ℕ) → Q n → P n) → IsSomeAnd most (λ k. (n : ℕ) → P n → k < n) → IsSomeAnd most (λ k. (n : ℕ) → Q n → k < n)
    over_up None P Q f s = s
    over_up (Some k) P Q f s = λ n q. s n (f n q)

    pub spoilt_up : (body : Body S) (h : ℤ) → BodyIsBound small body → IsSpoilt entries small body from to h → IsSpoilt entries look body from to h
    spoilt_up (NoEvent p) h b spoilt = λ n. spoilt (count_down p 0 b n)
    spoilt_up (Occurs least most p) h b spoilt = over_up most _ _ (λ n q. count_down p n b q) spoilt
    spoilt_up (Hold name terms value) h b spoilt = (spoilt.0, spoilt.1, held_up name terms value spoilt.0 spoilt.1 spoilt.2, spoilt.3)

  pub stretch_up : (a b : Partial S) (w : Window S) (from to : ℤ) → Extends a b → IsStretch a w from to → IsStretch b w from to
  stretch_up a b w from to part k =
      let s = and_some (at a w.from.event) _ k.starts in
      let t = and_some (at a w.to.event) _ k.ends in
      record {
        starts = some_and (at b w.from.event) _ s.0 (part w.from.event s.0 s.1) s.2;
        ends = some_and (at b w.to.event) _ t.0 (part w.to.event t.0 t.1) t.2;
      }

  pub lost_up : (a b : Partial S) (entries : List (Entry S)) (h : ℕ) (w : Window S) → Extends a b → IsLost small a entries h w → IsLost look b entries h w
  lost_up a b entries h w part l = record {
    from = l.from;
    to = l.to;
    stretch = stretch_up a b w l.from l.to part l.stretch;
    bound = body_bound_up w.body l.bound;
    lost = elim l.lost [
      | inl s ↦ inl (s.0, λ so. s.1 (so_down entries l.from l.to w.body l.bound so))
      | inr s ↦ inr (s.0, spoilt_up entries l.from l.to w.body (pos h) l.bound s.1)
    ];
  }
