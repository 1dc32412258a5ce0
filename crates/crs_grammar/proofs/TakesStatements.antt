-- What tokens mean is read from them.
use Rattle.std.proofs.Common.{◌≡◌, ℕ, ℤ, Bool, true, false, cond, ◌==◌, ◌&&◌, List, [], ◌∷◌, ◌++◌, Option, Some, None, option_map, refl, sym, ap, subst, ◌∙◌, true≢false, length, append_assoc, arith}
use Rattle.std.specs.Prelude.{bytes_eq, codes}
use Rattle.crs_base.specs.Symbols.{is_symbol}
use Rattle.crs_base.specs.Tokens.{Token, Word, Mark}
use Rattle.crs_base.specs.Numbers.{number_of, integer_of}
use Rattle.crs_base.proofs.Texts.{bytes_same, same_bytes}
use Rattle.crs_grammar.specs.Forms.{Part, Keyword, Sign, Symbol, Number, Integer, Gap, Missing, AreWritten, term_form, terms_form, change_form, pattern_form, shift_form, anchor_form, listed, symbol_form, values_form, level_form, values_in_form, low_part, high_part, most_part, body_form, span_form, begin_form, form_of}
use Rattle.crs_grammar.specs.Statements.{Term, Pattern, Event, Emission, Shift, Here, Later, Earlier, Anchor, Body, NoEvent, Occurs, Hold, Distance, Statement, Message, Attribute, Derived, Begin, Happens, Point, Between, Among, Differ, Over, Emits, Close, is_inside}
use Rattle.crs_grammar.specs.TokenReading.{◌>>=◌, whole, symbol_at, number_at, mark_at, keyword_at, terms_on, arguments_at, pair_at, change_at, pattern_at, shift_at, anchor_at, span_of, level_of, event_of, emit_of, noevent_of, most_at, occurs_of, hold_of, end_at, distance_of, values_of, differ_of, of_variable, variable_of, called_of, point_of, worded_of, inside_of, attribute_of, prompt_of, named_of, outside_of}
use Rattle.crs_grammar.specs.GrammarLaws.{MeantIsRead}
use Rattle.crs_grammar.proofs.Takes.{on, Listed, symbol_takes, number_takes, sign_takes, keyword_takes, term_takes, terms_take, values_take}
use Rattle.crs_grammar.proofs.Gives.{range_shape}

-- the reader gives x, and the tokens behind it write the rest
record Listed2 {A : Type 0} (o : Option (A × List Token)) (x : A) (rest : List Part) (back : List Token) : Type 0 where
  is : o ≡ Some (x, back)
  left : AreWritten rest back

-- Parts that may be missing: what follows them is a mark of another kind.

arguments_take : (us : List Term) (m : ℕ) (ts : List Token) (rest : List Part) → (m == 91) ≡ false → AreWritten (terms_form us ++ Sign m ∷ rest) ts → (back : List Token) × Listed (arguments_at ts) us (Sign m ∷ rest) back
unfolding arguments_at
arguments_take [] m [] rest e h = absurd h
arguments_take [] m (Word w ∷ ts) rest e h = absurd h.0
arguments_take [] m (Mark n ∷ ts) rest e h = (Mark n ∷ ts, record { is = (λ i. cond ((ap (λ x. x == 91) h.0 ∙ e) i) (terms_on (length ts) [] ts) (Some ([], Mark n ∷ ts))); left = h })
arguments_take (u ∷ us) m [] rest e h = absurd h
arguments_take (u ∷ us) m (Word w ∷ ts) rest e h = absurd h.0
arguments_take (u ∷ us) m (Mark n ∷ ts) rest e h =
    let r = terms_take (length ts) [] ts u us (Sign m ∷ rest) (omega arith) (subst (λ ps. AreWritten ps ts) (append_assoc (listed term_form (u ∷ us)) (Sign 93 ∷ []) (Sign m ∷ rest)) h.1) in
    (r.0, record { is = ap (λ x. cond (x == 91) (terms_on (length ts) [] ts) (Some ([], Mark n ∷ ts))) h.0 ∙ r.1.is; left = r.1.left })

pair_shape : (xs ys zs : List Part) → (xs ++ Sign 44 ∷ Gap ∷ ys ++ Sign 41 ∷ []) ++ zs ≡ xs ++ Sign 44 ∷ Gap ∷ (ys ++ Sign 41 ∷ zs)
pair_shape xs ys zs = simp append_assoc

pair_takes : (a b : Term) (ts : List Token) (rest : List Part) → AreWritten (term_form a ++ Sign 44 ∷ Gap ∷ (term_form b ++ Sign 41 ∷ rest)) ts → (back : List Token) × Listed2 (pair_at ts) (a, b) rest back
unfolding pair_at
pair_takes a b ts rest h =
    let x = term_takes a ts (Sign 44 ∷ Gap ∷ (term_form b ++ Sign 41 ∷ rest)) h in
    let c = sign_takes 44 x.0 (Gap ∷ (term_form b ++ Sign 41 ∷ rest)) x.1.left in
    let y = term_takes b c.0 (Sign 41 ∷ rest) c.1.left in
    let d = sign_takes 41 y.0 rest y.1.left in
    (d.0, record { is = on _ _ _ _ x.1.is (on _ _ _ _ c.1.is (on _ _ _ _ y.1.is (on _ _ _ _ d.1.is refl))); left = d.1.left })

change_takes : (c : Option (Term × Term)) (m : ℕ) (ts : List Token) (rest : List Part) → (m == 58) ≡ false → AreWritten (change_form c ++ Sign m ∷ rest) ts → (back : List Token) × Listed2 (change_at ts) c (Sign m ∷ rest) back
unfolding change_at
change_takes None m [] rest e h = absurd h
change_takes None m (Word w ∷ ts) rest e h = absurd h.0
change_takes None m (Mark n ∷ ts) rest e h = (Mark n ∷ ts, record { is = ap (λ x. change_at (Mark x ∷ ts)) h.0 ∙ none m ∙ ap (λ x. Some (None, Mark x ∷ ts)) (sym h.0); left = h })
  where
    none : (k : ℕ) → change_at (Mark m ∷ ts) ≡ Some (None, Mark m ∷ ts)
    none k = λ i. cond (e i) (mark_at 40 ts >>= λ b. pair_at b >>= λ p. Some (Some p.0, p.1)) (Some (None, Mark m ∷ ts))
change_takes (Some c) m [] rest e h = absurd h
change_takes (Some c) m (Word w ∷ ts) rest e h = absurd h.0
change_takes (Some c) m (Mark n ∷ ts) rest e h =
    let a = sign_takes 40 ts ((term_form c.0 ++ Sign 44 ∷ Gap ∷ term_form c.1 ++ Sign 41 ∷ []) ++ Sign m ∷ rest) h.1 in
    let p = pair_takes c.0 c.1 a.0 (Sign m ∷ rest) (subst (λ ps. AreWritten ps a.0) (pair_shape (term_form c.0) (term_form c.1) (Sign m ∷ rest)) a.1.left) in
    (p.0, record { is = ap (λ x. change_at (Mark x ∷ ts)) h.0 ∙ on _ _ _ _ a.1.is (on _ _ _ _ p.1.is refl); left = p.1.left })

pattern_takes : (p : Pattern) (ts : List Token) (rest : List Part) → AreWritten (pattern_form p ++ Sign 44 ∷ rest) ts → (back : List Token) × Listed2 (pattern_at ts) p (Sign 44 ∷ rest) back
unfolding pattern_at
pattern_takes p ts rest h =
    let a = symbol_takes p.name ts ((terms_form p.terms ++ change_form p.change) ++ Sign 44 ∷ rest) h in
    by a.0 a.1.is (subst (λ ps. AreWritten ps a.0) (append_assoc (terms_form p.terms) (change_form p.change) (Sign 44 ∷ rest)) a.1.left) p.change refl
  where
    by : (back : List Token) → symbol_at ts ≡ Some (p.name, back) → AreWritten (terms_form p.terms ++ (change_form p.change ++ Sign 44 ∷ rest)) back → (c : Option (Term × Term)) → p.change ≡ c → (last : List Token) × Listed2 (pattern_at ts) p (Sign 44 ∷ rest) last
    by back e k None same =
        let u = arguments_take p.terms 44 back rest refl (subst (λ c. AreWritten (terms_form p.terms ++ (change_form c ++ Sign 44 ∷ rest)) back) same k) in
        let v = change_takes None 44 u.0 rest refl u.1.left in
        (v.0, record { is = on _ _ _ _ e (on _ _ _ _ u.1.is (on _ _ _ _ v.1.is (ap (λ c. Some (record { name = p.name; terms = p.terms; change = c }, v.0)) (sym same)))); left = v.1.left })
    by back e k (Some c) same =
        let u = arguments_take p.terms 58 back (Gap ∷ Sign 40 ∷ ((term_form c.0 ++ Sign 44 ∷ Gap ∷ term_form c.1 ++ Sign 41 ∷ []) ++ Sign 44 ∷ rest)) refl (subst (λ c. AreWritten (terms_form p.terms ++ (change_form c ++ Sign 44 ∷ rest)) back) same k) in
        let v = change_takes (Some c) 44 u.0 rest refl u.1.left in
        (v.0, record { is = on _ _ _ _ e (on _ _ _ _ u.1.is (on _ _ _ _ v.1.is (ap (λ c. Some (record { name = p.name; terms = p.terms; change = c }, v.0)) (sym same)))); left = v.1.left })

shift_takes : (s : Shift) (m : ℕ) (ts : List Token) (rest : List Part) → (m == 43) ≡ false → AreWritten (shift_form s ++ Sign m ∷ rest) ts → (back : List Token) × Listed2 (shift_at ts) s (Sign m ∷ rest) back
unfolding shift_at
shift_takes Here m [] rest e h = absurd h
shift_takes Here m (Word w ∷ ts) rest e h = absurd h.0
shift_takes Here m (Mark n ∷ ts) rest e h = (Mark n ∷ ts, record { is = (λ i. cond ((ap (λ x. x == 43) h.0 ∙ e) i) (number_at ts >>= λ n. Some (Later n.0, n.1)) (Some (Here, Mark n ∷ ts))); left = h })
shift_takes (Later k) m [] rest e h = absurd h
shift_takes (Later k) m (Word w ∷ ts) rest e h = absurd h.0
shift_takes (Later k) m (Mark n ∷ ts) rest e h =
    let a = number_takes k ts (Sign m ∷ rest) h.1 in
    (a.0, record { is = ap (λ x. shift_at (Mark x ∷ ts)) h.0 ∙ on _ _ _ _ a.1.is refl; left = a.1.left })
shift_takes (Earlier k) m [] rest e h = absurd h
shift_takes (Earlier k) m (Mark n ∷ ts) rest e h = absurd h.0
shift_takes (Earlier k) m (Word w ∷ ts) rest e h =
    let a = number_takes k ts (Sign m ∷ rest) h.1 in
    (a.0, record { is = ap (λ x. shift_at (Word x ∷ ts)) h.0 ∙ on _ _ _ _ a.1.is refl; left = a.1.left })

anchor_takes : (a : Anchor) (m : ℕ) (ts : List Token) (rest : List Part) → (m == 43) ≡ false → AreWritten (anchor_form a ++ Sign m ∷ rest) ts → (back : List Token) × Listed2 (anchor_at ts) a (Sign m ∷ rest) back
unfolding anchor_at
anchor_takes a m ts rest e h =
    let p = symbol_takes a.point ts (shift_form a.shift ++ Sign m ∷ rest) h in
    let s = shift_takes a.shift m p.0 rest e p.1.left in
    (s.0, record { is = on _ _ _ _ p.1.is (on _ _ _ _ s.1.is refl); left = s.1.left })

nothing_left : {A : Type 0} (x : A) (ts : List Token) → AreWritten [] ts → whole x ts ≡ Some x
nothing_left x [] h = refl
nothing_left x (t ∷ ts) h = absurd h

span_takes : (body : Body) (f t : Anchor) (ts : List Token) → AreWritten (span_form f t) ts → span_of body ts ≡ Some (Over (record { body = body; from = f; to = t }))
unfolding span_of
span_takes body f t ts h =
    let a = sign_takes 44 ts (Gap ∷ Sign 40 ∷ anchor_form f ++ Sign 44 ∷ Gap ∷ anchor_form t ++ Sign 41 ∷ Sign 41 ∷ []) h in
    let b = sign_takes 40 a.0 (anchor_form f ++ Sign 44 ∷ Gap ∷ anchor_form t ++ Sign 41 ∷ Sign 41 ∷ []) a.1.left in
    let x = anchor_takes f 44 b.0 (Gap ∷ (anchor_form t ++ Sign 41 ∷ Sign 41 ∷ [])) refl (subst (λ ps. AreWritten ps b.0) (sym (range_shape (anchor_form f) (anchor_form t))) b.1.left) in
    let c = sign_takes 44 x.0 (Gap ∷ (anchor_form t ++ Sign 41 ∷ Sign 41 ∷ [])) x.1.left in
    let y = anchor_takes t 41 c.0 (Sign 41 ∷ []) refl c.1.left in
    let d = sign_takes 41 y.0 (Sign 41 ∷ []) y.1.left in
    let g = sign_takes 41 d.0 [] d.1.left in
    on _ _ _ _ a.1.is (on _ _ _ _ b.1.is (on _ _ _ _ x.1.is (on _ _ _ _ c.1.is (on _ _ _ _ y.1.is (on _ _ _ _ d.1.is (on _ _ _ _ g.1.is (nothing_left _ g.0 g.1.left)))))))

level_takes : (l : Option ℕ) (ts : List Token) → AreWritten (level_form l) ts → level_of ts ≡ Some l
unfolding level_of
level_takes None [] h = refl
level_takes None (t ∷ ts) h = absurd h
level_takes (Some n) [] h = absurd h
level_takes (Some n) (Mark m ∷ ts) h = absurd h.0
level_takes (Some n) (Word w ∷ []) h = absurd h.1
level_takes (Some n) (Word w ∷ Mark m ∷ ts) h = absurd h.1.0
level_takes (Some n) (Word w ∷ Word v ∷ t ∷ ts) h = absurd h.1.1
level_takes (Some n) (Word w ∷ Word v ∷ []) h = ap (λ x. level_of (Word x ∷ Word v ∷ [])) h.0 ∙ ap (option_map Some) h.1.0

event_takes : (e : Event) (ts : List Token) → AreWritten (pattern_form e.pattern ++ Sign 44 ∷ Gap ∷ Symbol e.point ∷ Sign 41 ∷ level_form e.level) ts → event_of ts ≡ Some (Happens e)
unfolding event_of
event_takes e ts h =
    let a = pattern_takes e.pattern ts (Gap ∷ Symbol e.point ∷ Sign 41 ∷ level_form e.level) h in
    let b = sign_takes 44 a.0 (Gap ∷ Symbol e.point ∷ Sign 41 ∷ level_form e.level) a.1.left in
    let p = symbol_takes e.point b.0 (Sign 41 ∷ level_form e.level) b.1.left in
    let c = sign_takes 41 p.0 (level_form e.level) p.1.left in
    on _ _ _ _ a.1.is (on _ _ _ _ b.1.is (on _ _ _ _ p.1.is (on _ _ _ _ c.1.is (on _ _ _ _ (level_takes e.level c.0 c.1.left) refl))))

emit_takes : (e : Emission) (ts : List Token) → AreWritten (pattern_form e.pattern ++ Sign 44 ∷ Gap ∷ Symbol e.point ∷ Sign 41 ∷ []) ts → emit_of ts ≡ Some (Emits e)
unfolding emit_of
emit_takes e ts h =
    let a = pattern_takes e.pattern ts (Gap ∷ Symbol e.point ∷ Sign 41 ∷ []) h in
    let b = sign_takes 44 a.0 (Gap ∷ Symbol e.point ∷ Sign 41 ∷ []) a.1.left in
    let p = symbol_takes e.point b.0 (Sign 41 ∷ []) b.1.left in
    let c = sign_takes 41 p.0 [] p.1.left in
    on _ _ _ _ a.1.is (on _ _ _ _ b.1.is (on _ _ _ _ p.1.is (on _ _ _ _ c.1.is (nothing_left _ c.0 c.1.left))))

most_takes : (m : Option ℕ) (ts : List Token) (rest : List Part) → AreWritten (most_part m ∷ rest) ts → (back : List Token) × Listed2 (most_at ts) m rest back
unfolding most_at
most_takes None [] rest h = absurd h
most_takes None (Mark n ∷ ts) rest h = absurd h.0
most_takes None (Word w ∷ ts) rest h = (ts, record { is = ap (λ x. most_at (Word x ∷ ts)) h.0; left = h.1 })
most_takes (Some k) [] rest h = absurd h
most_takes (Some k) (Mark n ∷ ts) rest h = absurd h.0
most_takes (Some k) (Word w ∷ ts) rest h =
    (ts, record { is = (λ i. cond (no_inf (bytes_eq w (codes "inf")) refl i) (Some (None, ts)) (number_at (Word w ∷ ts) >>= λ n. Some (Some n.0, n.1))) ∙ on _ _ _ _ (ap (option_map (λ n. (n, ts))) h.0) refl; left = h.1 })
  where
    no_inf : (b : Bool) → bytes_eq w (codes "inf") ≡ b → bytes_eq w (codes "inf") ≡ false
    no_inf false e = e
    no_inf true e = let q : number_of (codes "inf") ≡ Some k = sym (ap number_of (bytes_same w (codes "inf") e)) ∙ h.0 in cc

end_none : (k : List ℕ) (ts : List Token) (rest : List Part) → AreWritten (Keyword k ∷ rest) ts → (back : List Token) × Listed2 (end_at k ts) None rest back
unfolding end_at
end_none k [] rest h = absurd h
end_none k (Mark n ∷ ts) rest h = absurd h.0
end_none k (Word w ∷ ts) rest h = (ts, record { is = (λ i. cond ((ap (λ x. bytes_eq x k) h.0 ∙ same_bytes k) i) (Some (None, ts)) (option_map (λ z. (Some z, ts)) (integer_of w))); left = h.1 })

end_some : (k : List ℕ) (z : ℤ) (ts : List Token) (rest : List Part) → integer_of k ≡ None → AreWritten (Integer z ∷ rest) ts → (back : List Token) × Listed2 (end_at k ts) (Some z) rest back
unfolding end_at
end_some k z [] rest e h = absurd h
end_some k z (Mark n ∷ ts) rest e h = absurd h.0
end_some k z (Word w ∷ ts) rest e h =
    (ts, record { is = (λ i. cond (other (bytes_eq w k) refl i) (Some (None, ts)) (option_map (λ z. (Some z, ts)) (integer_of w))) ∙ ap (option_map (λ z. (Some z, ts))) h.0; left = h.1 })
  where
    other : (b : Bool) → bytes_eq w k ≡ b → bytes_eq w k ≡ false
    other false f = f
    other true f = let q : None ≡ Some z = sym e ∙ sym (ap integer_of (bytes_same w k f)) ∙ h.0 in cc

low_takes : (o : Option ℤ) (ts : List Token) (rest : List Part) → AreWritten (low_part o ∷ rest) ts → (back : List Token) × Listed2 (end_at (codes "-inf") ts) o rest back
low_takes None ts rest h = end_none (codes "-inf") ts rest h
low_takes (Some z) ts rest h = end_some (codes "-inf") z ts rest refl h

high_takes : (o : Option ℤ) (ts : List Token) (rest : List Part) → AreWritten (high_part o ∷ rest) ts → (back : List Token) × Listed2 (end_at (codes "inf") ts) o rest back
high_takes None ts rest h = end_none (codes "inf") ts rest h
high_takes (Some z) ts rest h = end_some (codes "inf") z ts rest refl h

distance_takes : (d : Distance) (ts : List Token) → is_symbol d.to ≡ true → AreWritten (Keyword (codes "-") ∷ Gap ∷ Symbol d.from ∷ Gap ∷ Keyword (codes "in") ∷ Gap ∷ Sign 91 ∷ low_part d.low ∷ Sign 44 ∷ Gap ∷ high_part d.high ∷ Sign 93 ∷ []) ts
    → distance_of d.to ts ≡ Some (Between d)
unfolding distance_of
distance_takes d ts known h =
    let a = keyword_takes (codes "-") ts (Gap ∷ Symbol d.from ∷ Gap ∷ Keyword (codes "in") ∷ Gap ∷ Sign 91 ∷ low_part d.low ∷ Sign 44 ∷ Gap ∷ high_part d.high ∷ Sign 93 ∷ []) h in
    let f = symbol_takes d.from a.0 (Gap ∷ Keyword (codes "in") ∷ Gap ∷ Sign 91 ∷ low_part d.low ∷ Sign 44 ∷ Gap ∷ high_part d.high ∷ Sign 93 ∷ []) a.1.left in
    let b = keyword_takes (codes "in") f.0 (Gap ∷ Sign 91 ∷ low_part d.low ∷ Sign 44 ∷ Gap ∷ high_part d.high ∷ Sign 93 ∷ []) f.1.left in
    let c = sign_takes 91 b.0 (low_part d.low ∷ Sign 44 ∷ Gap ∷ high_part d.high ∷ Sign 93 ∷ []) b.1.left in
    let l = low_takes d.low c.0 (Sign 44 ∷ Gap ∷ high_part d.high ∷ Sign 93 ∷ []) c.1.left in
    let e = sign_takes 44 l.0 (Gap ∷ high_part d.high ∷ Sign 93 ∷ []) l.1.left in
    let u = high_takes d.high e.0 (Sign 93 ∷ []) e.1.left in
    let g = sign_takes 93 u.0 [] u.1.left in
    (λ i. cond (known i) (keyword_at (codes "-") ts >>= λ second. symbol_at second >>= λ from. keyword_at (codes "in") from.1 >>= λ third. mark_at 91 third >>= λ opened. end_at (codes "-inf") opened >>= λ low. mark_at 44 low.1 >>= λ fourth. end_at (codes "inf") fourth >>= λ high. mark_at 93 high.1 >>= λ rest. whole (Between (record { to = d.to; from = from.0; low = low.0; high = high.0 })) rest) None)
    ∙ on _ _ _ _ a.1.is (on _ _ _ _ f.1.is (on _ _ _ _ b.1.is (on _ _ _ _ c.1.is (on _ _ _ _ l.1.is (on _ _ _ _ e.1.is (on _ _ _ _ u.1.is (on _ _ _ _ g.1.is (nothing_left _ g.0 g.1.left))))))))

values_of_takes : (vs : List (List ℕ)) (ts : List Token) → AreWritten (Keyword (codes "in") ∷ Gap ∷ values_form vs) ts → values_of ts ≡ Some vs
unfolding values_of
values_of_takes [] ts h =
    let a = keyword_takes (codes "in") ts (Gap ∷ values_form []) h in
    let b = sign_takes 40 a.0 (Missing ∷ Sign 41 ∷ []) a.1.left in
    absurd (none b.0 b.1.left)
  where
    none : (ts : List Token) → AreWritten (Missing ∷ Sign 41 ∷ []) ts → ⊥
    none [] k = k
    none (t ∷ ts) k = k.0
values_of_takes (v ∷ vs) ts h =
    let a = keyword_takes (codes "in") ts (Gap ∷ values_form (v ∷ vs)) h in
    let b = sign_takes 40 a.0 (listed symbol_form (v ∷ vs) ++ Sign 41 ∷ []) a.1.left in
    let r = values_take (length b.0) [] b.0 v vs [] (omega arith) b.1.left in
    on _ _ _ _ a.1.is (on _ _ _ _ b.1.is (on _ _ _ _ r.1.is (nothing_left _ r.0 r.1.left)))

body_shape : (xs ys zs : List Part) → (xs ++ Sign 58 ∷ Gap ∷ ys) ++ zs ≡ xs ++ Sign 58 ∷ Gap ∷ (ys ++ zs)
body_shape xs ys zs = simp append_assoc

noevent_takes : (p : Pattern) (f t : Anchor) (ts : List Token) → AreWritten (pattern_form p ++ span_form f t) ts → noevent_of ts ≡ Some (Over (record { body = NoEvent p; from = f; to = t }))
unfolding noevent_of
noevent_takes p f t ts h =
    let a = pattern_takes p ts (Gap ∷ Sign 40 ∷ anchor_form f ++ Sign 44 ∷ Gap ∷ anchor_form t ++ Sign 41 ∷ Sign 41 ∷ []) h in
    on _ _ _ _ a.1.is (span_takes (NoEvent p) f t a.0 a.1.left)

occurs_takes : (least : ℕ) (most : Option ℕ) (p : Pattern) (f t : Anchor) (ts : List Token) → AreWritten (Sign 40 ∷ Number least ∷ Sign 44 ∷ Gap ∷ most_part most ∷ Sign 41 ∷ Sign 44 ∷ Gap ∷ (pattern_form p ++ span_form f t)) ts
    → occurs_of ts ≡ Some (Over (record { body = Occurs least most p; from = f; to = t }))
unfolding occurs_of
occurs_takes least most p f t ts h =
    let back : List Part = pattern_form p ++ span_form f t in
    let a = sign_takes 40 ts (Number least ∷ Sign 44 ∷ Gap ∷ most_part most ∷ Sign 41 ∷ Sign 44 ∷ Gap ∷ back) h in
    let n = number_takes least a.0 (Sign 44 ∷ Gap ∷ most_part most ∷ Sign 41 ∷ Sign 44 ∷ Gap ∷ back) a.1.left in
    let b = sign_takes 44 n.0 (Gap ∷ most_part most ∷ Sign 41 ∷ Sign 44 ∷ Gap ∷ back) n.1.left in
    let m = most_takes most b.0 (Sign 41 ∷ Sign 44 ∷ Gap ∷ back) b.1.left in
    let c = sign_takes 41 m.0 (Sign 44 ∷ Gap ∷ back) m.1.left in
    let d = sign_takes 44 c.0 (Gap ∷ back) c.1.left in
    let q = pattern_takes p d.0 (Gap ∷ Sign 40 ∷ anchor_form f ++ Sign 44 ∷ Gap ∷ anchor_form t ++ Sign 41 ∷ Sign 41 ∷ []) d.1.left in
    on _ _ _ _ a.1.is (on _ _ _ _ n.1.is (on _ _ _ _ b.1.is (on _ _ _ _ m.1.is (on _ _ _ _ c.1.is (on _ _ _ _ d.1.is (on _ _ _ _ q.1.is (span_takes (Occurs least most p) f t q.0 q.1.left)))))))

hold_takes : (name : List ℕ) (terms : List Term) (value : Term) (f t : Anchor) (ts : List Token) → AreWritten (Symbol name ∷ ((terms_form terms ++ Sign 58 ∷ Gap ∷ term_form value) ++ span_form f t)) ts
    → hold_of ts ≡ Some (Over (record { body = Hold name terms value; from = f; to = t }))
unfolding hold_of
hold_takes name terms value f t ts h =
    let a = symbol_takes name ts ((terms_form terms ++ Sign 58 ∷ Gap ∷ term_form value) ++ span_form f t) h in
    let u = arguments_take terms 58 a.0 (Gap ∷ (term_form value ++ span_form f t)) refl (subst (λ ps. AreWritten ps a.0) (body_shape (terms_form terms) (term_form value) (span_form f t)) a.1.left) in
    let b = sign_takes 58 u.0 (Gap ∷ (term_form value ++ span_form f t)) u.1.left in
    let v = term_takes value b.0 (span_form f t) b.1.left in
    on _ _ _ _ a.1.is (on _ _ _ _ u.1.is (on _ _ _ _ b.1.is (on _ _ _ _ v.1.is (span_takes (Hold name terms value) f t v.0 v.1.left))))

-- a word and a bracket in front
called_takes : (k : List ℕ) (ps : List Part) (s : Statement) (ts : List Token) → ((back : List Token) → AreWritten ps back → called_of k back ≡ Some s) → AreWritten (Keyword k ∷ Sign 40 ∷ ps) ts → inside_of ts ≡ Some s
unfolding inside_of worded_of
called_takes k ps s [] f h = absurd h
called_takes k ps s (Mark m ∷ ts) f h = absurd h.0
called_takes k ps s (Word w ∷ []) f h = absurd h.1
called_takes k ps s (Word w ∷ Word v ∷ ts) f h = absurd h.1.0
called_takes k ps s (Word w ∷ Mark m ∷ ts) f h = (λ i. inside_of (Word (h.0 i) ∷ Mark (h.1.0 i) ∷ ts)) ∙ f ts h.1.1

event_called : (e : Event) (back : List Token) → AreWritten (pattern_form e.pattern ++ Sign 44 ∷ Gap ∷ Symbol e.point ∷ Sign 41 ∷ level_form e.level) back → called_of (codes "event") back ≡ Some (Happens e)
unfolding called_of
event_called e back h = event_takes e back h

emit_called : (e : Emission) (back : List Token) → AreWritten (pattern_form e.pattern ++ Sign 44 ∷ Gap ∷ Symbol e.point ∷ Sign 41 ∷ []) back → called_of (codes "emit") back ≡ Some (Emits e)
unfolding called_of
emit_called e back h = emit_takes e back h

body_takes : (b : Body) (f t : Anchor) (ts : List Token) → AreWritten (body_form b ++ span_form f t) ts → inside_of ts ≡ Some (Over (record { body = b; from = f; to = t }))
unfolding called_of
body_takes (NoEvent p) f t ts h = called_takes (codes "noevent") (pattern_form p ++ span_form f t) (Over (record { body = NoEvent p; from = f; to = t })) ts (noevent_takes p f t) h
body_takes (Occurs least most p) f t ts h =
    called_takes (codes "occurs") (Sign 40 ∷ Number least ∷ Sign 44 ∷ Gap ∷ most_part most ∷ Sign 41 ∷ Sign 44 ∷ Gap ∷ (pattern_form p ++ span_form f t)) (Over (record { body = Occurs least most p; from = f; to = t })) ts (occurs_takes least most p f t) h
body_takes (Hold name terms value) f t ts h =
    called_takes (codes "hold") (Symbol name ∷ ((terms_form terms ++ Sign 58 ∷ Gap ∷ term_form value) ++ span_form f t)) (Over (record { body = Hold name terms value; from = f; to = t })) ts (hold_takes name terms value f t) h

point_takes : (name : List ℕ) (ts : List Token) → AreWritten (Keyword (codes "point") ∷ Gap ∷ Symbol name ∷ []) ts → inside_of ts ≡ Some (Point name)
unfolding inside_of worded_of point_of
point_takes name [] h = absurd h
point_takes name (Mark m ∷ ts) h = absurd h.0
point_takes name (Word w ∷ []) h = absurd h.1
point_takes name (Word w ∷ Mark m ∷ ts) h = absurd h.1.0
point_takes name (Word w ∷ Word v ∷ t ∷ ts) h = absurd h.1.1
point_takes name (Word w ∷ Word v ∷ []) h = (λ i. cond (bytes_eq (h.0 i) (codes "point") && h.1.0.1 i) (Some (Point v)) None) ∙ ap (λ n. Some (Point n)) h.1.0.0

between_takes : (d : Distance) (ts : List Token) → AreWritten (form_of (Between d)) ts → inside_of ts ≡ Some (Between d)
unfolding inside_of worded_of
between_takes d [] h = absurd h
between_takes d (Mark m ∷ ts) h = absurd h.0
between_takes d (Word k ∷ []) h = absurd h.1
between_takes d (Word k ∷ Mark m ∷ ts) h = absurd h.1.0
between_takes d (Word k ∷ Word a ∷ []) h = absurd h.1.1
between_takes d (Word k ∷ Word a ∷ t ∷ ts) h = ap (λ x. distance_of x (Word a ∷ t ∷ ts)) h.0.0 ∙ distance_takes d (Word a ∷ t ∷ ts) (ap is_symbol (sym h.0.0) ∙ h.0.1) h.1

among_takes : (name : List ℕ) (vs : List (List ℕ)) (ts : List Token) → AreWritten (Keyword (codes "in") ∷ Gap ∷ values_form vs) ts → of_variable name ts ≡ Some (Among name vs)
unfolding of_variable
among_takes name vs [] h = absurd h
among_takes name vs (Mark m ∷ ts) h = absurd h.0
among_takes name vs (Word w ∷ ts) h = on _ _ _ _ (values_of_takes vs (Word w ∷ ts) h) refl

differ_takes : (name other : List ℕ) (ts : List Token) → AreWritten (Sign 33 ∷ Gap ∷ Sign 63 ∷ Symbol other ∷ []) ts → of_variable name ts ≡ Some (Differ name other)
unfolding of_variable differ_of
differ_takes name other [] h = absurd h
differ_takes name other (Word w ∷ ts) h = absurd h.0
differ_takes name other (Mark m ∷ ts) h =
    let a = sign_takes 63 ts (Symbol other ∷ []) h.1 in
    let b = symbol_takes other a.0 [] a.1.left in
    ap (λ x. of_variable name (Mark x ∷ ts)) h.0 ∙ on _ _ _ _ a.1.is (on _ _ _ _ b.1.is (nothing_left _ b.0 b.1.left))

variable_takes : (name : List ℕ) (ps : List Part) (s : Statement) (ts : List Token) → ((back : List Token) → AreWritten ps back → of_variable name back ≡ Some s) → AreWritten (Sign 63 ∷ Symbol name ∷ Gap ∷ ps) ts → inside_of ts ≡ Some s
unfolding inside_of variable_of
variable_takes name ps s [] f h = absurd h
variable_takes name ps s (Word w ∷ ts) f h = absurd h.0
variable_takes name ps s (Mark m ∷ ts) f h =
    let a = symbol_takes name ts (Gap ∷ ps) h.1 in
    ap (λ x. inside_of (Mark x ∷ ts)) h.0 ∙ on _ _ _ _ a.1.is (f a.0 a.1.left)

close_takes : (ts : List Token) → AreWritten (Sign 125 ∷ []) ts → inside_of ts ≡ Some Close
unfolding inside_of
close_takes [] h = absurd h
close_takes (Word w ∷ ts) h = absurd h.0
close_takes (Mark m ∷ t ∷ ts) h = absurd h.1
close_takes (Mark m ∷ []) h = ap (λ x. inside_of (Mark x ∷ [])) h.0

inside_takes : (s : Statement) (ts : List Token) → is_inside s ≡ true → AreWritten (form_of s) ts → inside_of ts ≡ Some s
inside_takes (Message name arity) ts e h = absurd (true≢false (sym e))
inside_takes (Attribute name arity values) ts e h = absurd (true≢false (sym e))
inside_takes (Derived name arity) ts e h = absurd (true≢false (sym e))
inside_takes (Begin heading) ts e h = absurd (true≢false (sym e))
inside_takes (Happens v) ts e h = called_takes (codes "event") (pattern_form v.pattern ++ Sign 44 ∷ Gap ∷ Symbol v.point ∷ Sign 41 ∷ level_form v.level) (Happens v) ts (event_called v) h
inside_takes (Point name) ts e h = point_takes name ts h
inside_takes (Between d) ts e h = between_takes d ts h
inside_takes (Among x vs) ts e h = variable_takes x (Keyword (codes "in") ∷ Gap ∷ values_form vs) (Among x vs) ts (among_takes x vs) h
inside_takes (Differ x y) ts e h = variable_takes x (Sign 33 ∷ Gap ∷ Sign 63 ∷ Symbol y ∷ []) (Differ x y) ts (differ_takes x y) h
inside_takes (Over w) ts e h = body_takes w.body w.from w.to ts h
inside_takes (Emits v) ts e h = called_takes (codes "emit") (pattern_form v.pattern ++ Sign 44 ∷ Gap ∷ Symbol v.point ∷ Sign 41 ∷ []) (Emits v) ts (emit_called v) h
inside_takes Close ts e h = close_takes ts h

attribute_takes : (name : List ℕ) (arity : ℕ) (values : Option (List (List ℕ))) (ts : List Token) → AreWritten (values_in_form values) ts → attribute_of name arity ts ≡ Some (Attribute name arity values)
unfolding attribute_of
attribute_takes name arity None [] h = refl
attribute_takes name arity None (t ∷ ts) h = absurd h
attribute_takes name arity (Some vs) [] h = absurd h
attribute_takes name arity (Some vs) (t ∷ ts) h = on _ _ _ _ (values_of_takes vs (t ∷ ts) h) refl

named_takes : (k name : List ℕ) (ps : List Part) (s : Statement) (ts : List Token) → ((back : List Token) → AreWritten ps back → named_of k name back ≡ Some s) → AreWritten (Keyword k ∷ Gap ∷ Symbol name ∷ Gap ∷ ps) ts → outside_of ts ≡ Some s
unfolding outside_of
named_takes k name ps s [] f h = absurd h
named_takes k name ps s (Mark m ∷ ts) f h = absurd h.0
named_takes k name ps s (Word w ∷ ts) f h =
    let a = symbol_takes name ts (Gap ∷ ps) h.1 in
    ap (λ x. outside_of (Word x ∷ ts)) h.0 ∙ on _ _ _ _ a.1.is (f a.0 a.1.left)

message_takes : (name : List ℕ) (arity : ℕ) (ts : List Token) → AreWritten (Number arity ∷ []) ts → named_of (codes "message") name ts ≡ Some (Message name arity)
unfolding named_of
message_takes name arity ts h = let n = number_takes arity ts [] h in on _ _ _ _ n.1.is (nothing_left _ n.0 n.1.left)

derived_takes : (name : List ℕ) (arity : ℕ) (ts : List Token) → AreWritten (Number arity ∷ []) ts → named_of (codes "derived") name ts ≡ Some (Derived name arity)
unfolding named_of
derived_takes name arity ts h = let n = number_takes arity ts [] h in on _ _ _ _ n.1.is (nothing_left _ n.0 n.1.left)

listed_takes : (name : List ℕ) (arity : ℕ) (values : Option (List (List ℕ))) (ts : List Token) → AreWritten (Number arity ∷ values_in_form values) ts → named_of (codes "attribute") name ts ≡ Some (Attribute name arity values)
unfolding named_of
listed_takes name arity values ts h = let n = number_takes arity ts (values_in_form values) h in on _ _ _ _ n.1.is (attribute_takes name arity values n.0 n.1.left)

begin_takes : (name : List ℕ) (ts : List Token) → AreWritten (Sign 123 ∷ []) ts → named_of (codes "chronicle") name ts ≡ Some (Begin (record { prompt = false; name = name }))
unfolding named_of
begin_takes name ts h = let m = sign_takes 123 ts [] h in on _ _ _ _ m.1.is (nothing_left _ m.0 m.1.left)

prompt_takes : (name : List ℕ) (ts : List Token) → AreWritten (Keyword (codes "chronicle") ∷ Gap ∷ Symbol name ∷ Gap ∷ Sign 123 ∷ []) ts → outside_of (Word (codes "prompt") ∷ ts) ≡ Some (Begin (record { prompt = true; name = name }))
unfolding outside_of named_of prompt_of
prompt_takes name [] h = absurd h
prompt_takes name (Mark m ∷ ts) h = absurd h.0
prompt_takes name (Word w ∷ ts) h =
    let a = symbol_takes name ts (Gap ∷ Sign 123 ∷ []) h.1 in
    let m = sign_takes 123 a.0 [] a.1.left in
    ap (λ x. outside_of (Word (codes "prompt") ∷ Word x ∷ ts)) h.0 ∙ on _ _ _ _ a.1.is (on _ _ _ _ m.1.is (nothing_left _ m.0 m.1.left))

heading_takes : (prompt : Bool) (name : List ℕ) (ts : List Token) → AreWritten (begin_form prompt name) ts → outside_of ts ≡ Some (Begin (record { prompt = prompt; name = name }))
heading_takes false name ts h = named_takes (codes "chronicle") name (Sign 123 ∷ []) (Begin (record { prompt = false; name = name })) ts (begin_takes name) h
heading_takes true name [] h = absurd h
heading_takes true name (Mark m ∷ ts) h = absurd h.0
heading_takes true name (Word w ∷ ts) h = ap (λ x. outside_of (Word x ∷ ts)) h.0 ∙ prompt_takes name ts h.1

outside_takes : (s : Statement) (ts : List Token) → is_inside s ≡ false → AreWritten (form_of s) ts → outside_of ts ≡ Some s
outside_takes (Message name arity) ts e h = named_takes (codes "message") name (Number arity ∷ []) (Message name arity) ts (message_takes name arity) h
outside_takes (Attribute name arity values) ts e h = named_takes (codes "attribute") name (Number arity ∷ values_in_form values) (Attribute name arity values) ts (listed_takes name arity values) h
outside_takes (Derived name arity) ts e h = named_takes (codes "derived") name (Number arity ∷ []) (Derived name arity) ts (derived_takes name arity) h
outside_takes (Begin heading) ts e h = heading_takes heading.prompt heading.name ts h
outside_takes (Happens v) ts e h = absurd (true≢false e)
outside_takes (Point name) ts e h = absurd (true≢false e)
outside_takes (Between d) ts e h = absurd (true≢false e)
outside_takes (Among x vs) ts e h = absurd (true≢false e)
outside_takes (Differ x y) ts e h = absurd (true≢false e)
outside_takes (Over w) ts e h = absurd (true≢false e)
outside_takes (Emits e) ts h k = absurd (true≢false h)
outside_takes Close ts e h = absurd (true≢false e)

pub meant_is_read : MeantIsRead
meant_is_read true tokens s h = inside_takes s tokens h.0 h.1
meant_is_read false tokens s h = outside_takes s tokens h.0 h.1
