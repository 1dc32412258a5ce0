-- What is read of a line's tokens is what they mean.
use Rattle.std.proofs.Common.{◌≡◌, ℕ, ℤ, Bool, true, false, cond, ◌==◌, ◌&&◌, List, [], ◌∷◌, ◌++◌, Option, Some, None, option_map, refl, sym, ap, subst, ◌∙◌, eqb-true, zero, suc, length, append_assoc, inl, inr}
use Rattle.std.specs.Prelude.{bytes_eq, codes}
use Rattle.crs_base.specs.Symbols.{is_symbol}
use Rattle.crs_base.specs.Tokens.{Token, Word, Mark}
use Rattle.crs_base.specs.Numbers.{number_of, integer_of}
use Rattle.crs_base.proofs.Texts.{bytes_same}
use Rattle.crs_grammar.specs.Forms.{Part, Keyword, Sign, Symbol, Number, Integer, Gap, AreWritten, term_form, terms_form, pattern_form, anchor_form, listed, symbol_form, values_form, level_form, values_in_form, low_part, high_part, most_part, span_form, form_of}
use Rattle.crs_grammar.specs.Statements.{Event, Emission, Anchor, Body, NoEvent, Occurs, Hold, Statement, Message, Attribute, Derived, Begin, Happens, Point, Between, Among, Differ, Over, Emits, Close, is_inside}
use Rattle.crs_grammar.specs.TokenReading.{◌>>=◌, whole, symbol_at, number_at, keyword_at, closed_at, values_on, span_of, level_of, event_of, emit_of, noevent_of, most_at, occurs_of, hold_of, end_at, distance_of, values_of, differ_of, of_variable, variable_of, called_of, point_of, worded_of, inside_of, attribute_of, prompt_of, named_of, outside_of}
use Rattle.crs_grammar.specs.GrammarLaws.{ReadIsMeant}
use Rattle.crs_grammar.proofs.Gives.{then, cond_passed, cond_either, some_inj, same_pair, option_map_some, symbol_gives, sign_gives, number_gives, term_gives, closed_gives, comma_gives, arguments_give, pattern_gives, range_shape, hold_shape}
use Rattle.crs_grammar.proofs.GivesAnchors.{anchor_gives}

pub whole_is : {A : Type 0} (x y : A) (ts : List Token) → whole x ts ≡ Some y → (x ≡ y) × AreWritten [] ts
whole_is x y [] e = (some_inj x y e, tt)
whole_is x y (t ∷ ts) e = cc

pub keyword_gives : (k : List ℕ) (ts back : List Token) (rest : List Part) → keyword_at k ts ≡ Some back → AreWritten rest back → AreWritten (Keyword k ∷ rest) ts
keyword_gives k [] back rest e h = cc
keyword_gives k (Mark m ∷ ts) back rest e h = cc
keyword_gives k (Word w ∷ ts) back rest e h =
    let p = cond_passed (bytes_eq w k) (Some ts) back e in
    (bytes_same w k p.0, subst (AreWritten rest) (sym (some_inj ts back p.1)) h)

-- what a body's form and a range write
abbrev SpanOf : Body → Statement → List Token → Type 0
SpanOf body s ts = (from : Anchor) × (to : Anchor) × (s ≡ Over (record { body = body; from = from; to = to })) × AreWritten (span_form from to) ts

span_gives : (body : Body) (ts : List Token) (s : Statement) → span_of body ts ≡ Some s → SpanOf body s ts
unfolding span_of
span_gives body ts s e =
    then _ _ _ e λ a ea e1. then _ _ _ e1 λ b eb e2. then _ _ _ e2 λ f ef e3. then _ _ _ e3 λ d ed e4. then _ _ _ e4 λ t et e5. then _ _ _ e5 λ g eg e6. then _ _ _ e6 λ h eh e7.
    let made : Statement = Over (record { body = body; from = f.0; to = t.0 }) in
    let w = whole_is made s h e7 in (
      f.0,
      t.0,
      sym w.0,
      sign_gives 44 ts a (Gap ∷ Sign 40 ∷ anchor_form f.0 ++ Sign 44 ∷ Gap ∷ anchor_form t.0 ++ Sign 41 ∷ Sign 41 ∷ []) ea
          (sign_gives 40 a b (anchor_form f.0 ++ Sign 44 ∷ Gap ∷ anchor_form t.0 ++ Sign 41 ∷ Sign 41 ∷ []) eb
          (subst (λ ps. AreWritten ps b) (range_shape (anchor_form f.0) (anchor_form t.0))
          (anchor_gives b f.0 f.1 (Sign 44 ∷ Gap ∷ (anchor_form t.0 ++ Sign 41 ∷ Sign 41 ∷ [])) ef
          (sign_gives 44 f.1 d (Gap ∷ (anchor_form t.0 ++ Sign 41 ∷ Sign 41 ∷ [])) ed
          (anchor_gives d t.0 t.1 (Sign 41 ∷ Sign 41 ∷ []) et
          (sign_gives 41 t.1 g (Sign 41 ∷ []) eg (sign_gives 41 g h [] eh w.1))))))),
    )

-- the level of an event
level_gives : (ts : List Token) (l : Option ℕ) → level_of ts ≡ Some l → AreWritten (level_form l) ts
unfolding level_of
level_gives [] l e = subst (λ x. AreWritten (level_form x) []) (some_inj None l e) tt
level_gives (Mark m ∷ ts) l e = cc
level_gives (Word w ∷ []) l e = cc
level_gives (Word w ∷ Mark m ∷ ts) l e = cc
level_gives (Word w ∷ Word n ∷ t ∷ ts) l e = cc
level_gives (Word w ∷ Word n ∷ []) l e =
    let p = cond_passed (bytes_eq w (codes "level")) (option_map Some (number_of n)) l e in
    let q = option_map_some Some (number_of n) l p.1 in
    subst (λ x. AreWritten (level_form x) (Word w ∷ Word n ∷ [])) q.2 (bytes_same w (codes "level") p.0, (q.1, tt))

event_gives : (ts : List Token) (s : Statement) → event_of ts ≡ Some s
    → (v : Event) × (s ≡ Happens v) × AreWritten (pattern_form v.pattern ++ Sign 44 ∷ Gap ∷ Symbol v.point ∷ Sign 41 ∷ level_form v.level) ts
unfolding event_of
event_gives ts s e =
    then _ _ _ e λ a ea e1. then _ _ _ e1 λ b eb e2. then _ _ _ e2 λ f ef e3. then _ _ _ e3 λ d ed e4. then _ _ _ e4 λ l el e5. (
      record { pattern = a.0; point = f.0; level = l },
      sym (some_inj _ s e5),
      pattern_gives ts a.0 a.1 (Sign 44 ∷ Gap ∷ Symbol f.0 ∷ Sign 41 ∷ level_form l) ea
          (sign_gives 44 a.1 b (Gap ∷ Symbol f.0 ∷ Sign 41 ∷ level_form l) eb
          (symbol_gives b f.0 f.1 (Sign 41 ∷ level_form l) ef (sign_gives 41 f.1 d (level_form l) ed (level_gives d l el)))),
    )

-- a statement that a word and a bracket begin
abbrev IsCalled : List ℕ → Statement → List Token → Type 0
IsCalled k s ts = (is_inside s ≡ true) × AreWritten (form_of s) (Word k ∷ Mark 40 ∷ ts)

called_by : (k : List ℕ) (s t : Statement) (ts : List Token) → t ≡ s → IsCalled k t ts → IsCalled k s ts
called_by k s t ts e h = subst (λ x. IsCalled k x ts) e h

event_called : (k : List ℕ) (ts : List Token) (s : Statement) → k ≡ codes "event" → event_of ts ≡ Some s → IsCalled k s ts
event_called k ts s is e = let g = event_gives ts s e in called_by k s (Happens g.0) ts (sym g.1) (refl, (is, (refl, g.2)))

noevent_called : (k : List ℕ) (ts : List Token) (s : Statement) → k ≡ codes "noevent" → noevent_of ts ≡ Some s → IsCalled k s ts
unfolding noevent_of
noevent_called k ts s is e =
    then _ _ _ e λ a ea e1.
    let g = span_gives (NoEvent a.0) a.1 s e1 in
    called_by k s (Over (record { body = NoEvent a.0; from = g.0; to = g.1 })) ts (sym g.2) (refl, (is, (refl, pattern_gives ts a.0 a.1 (span_form g.0 g.1) ea g.3)))

most_gives : (ts : List Token) (m : Option ℕ) (back : List Token) (rest : List Part) → most_at ts ≡ Some (m, back) → AreWritten rest back → AreWritten (most_part m ∷ rest) ts
unfolding most_at
most_gives [] m back rest e h = cc
most_gives (Mark n ∷ ts) m back rest e h = cc
most_gives (Word w ∷ ts) m back rest e h = elim (cond_either (bytes_eq w (codes "inf")) (Some (None, ts)) (number_at (Word w ∷ ts) >>= λ n. Some (Some n.0, n.1)) (m, back) e) [
  | inl p ↦ let q = same_pair None m ts back p.1 in subst (λ x. AreWritten (most_part x ∷ rest) (Word w ∷ ts)) q.0 (bytes_same w (codes "inf") p.0, subst (AreWritten rest) (sym q.1) h)
  | inr p ↦ then _ _ _ p.1 λ n en e1.
      let q = same_pair (Some n.0) m n.1 back e1 in
      subst (λ x. AreWritten (most_part x ∷ rest) (Word w ∷ ts)) q.0 (number_gives (Word w ∷ ts) n.0 n.1 rest en (subst (AreWritten rest) (sym q.1) h))
]

occurs_called : (k : List ℕ) (ts : List Token) (s : Statement) → k ≡ codes "occurs" → occurs_of ts ≡ Some s → IsCalled k s ts
unfolding occurs_of
occurs_called k ts s is e =
    then _ _ _ e λ a ea e1. then _ _ _ e1 λ b eb e2. then _ _ _ e2 λ f ef e3. then _ _ _ e3 λ d ed e4. then _ _ _ e4 λ g eg e5. then _ _ _ e5 λ h eh e6. then _ _ _ e6 λ p ep e7.
    let w = span_gives (Occurs b.0 d.0 p.0) p.1 s e7 in
    let back : List Part = pattern_form p.0 ++ span_form w.0 w.1 in
    called_by k s (Over (record { body = Occurs b.0 d.0 p.0; from = w.0; to = w.1 })) ts (sym w.2) (
      refl,
      (
        is,
        (
          refl,
          sign_gives 40 ts a (Number b.0 ∷ Sign 44 ∷ Gap ∷ most_part d.0 ∷ Sign 41 ∷ Sign 44 ∷ Gap ∷ back) ea
              (number_gives a b.0 b.1 (Sign 44 ∷ Gap ∷ most_part d.0 ∷ Sign 41 ∷ Sign 44 ∷ Gap ∷ back) eb
              (sign_gives 44 b.1 f (Gap ∷ most_part d.0 ∷ Sign 41 ∷ Sign 44 ∷ Gap ∷ back) ef
              (most_gives f d.0 d.1 (Sign 41 ∷ Sign 44 ∷ Gap ∷ back) ed
              (sign_gives 41 d.1 g (Sign 44 ∷ Gap ∷ back) eg (sign_gives 44 g h (Gap ∷ back) eh (pattern_gives h p.0 p.1 (span_form w.0 w.1) ep w.3)))))),
        ),
      ),
    )

hold_called : (k : List ℕ) (ts : List Token) (s : Statement) → k ≡ codes "hold" → hold_of ts ≡ Some s → IsCalled k s ts
unfolding hold_of
hold_called k ts s is e =
    then _ _ _ e λ a ea e1. then _ _ _ e1 λ b eb e2. then _ _ _ e2 λ f ef e3. then _ _ _ e3 λ v ev e4.
    let w = span_gives (Hold a.0 b.0 v.0) v.1 s e4 in
    called_by k s (Over (record { body = Hold a.0 b.0 v.0; from = w.0; to = w.1 })) ts (sym w.2) (
      refl,
      (
        is,
        (
          refl,
          symbol_gives ts a.0 a.1 ((terms_form b.0 ++ Sign 58 ∷ Gap ∷ term_form v.0) ++ span_form w.0 w.1) ea
              (subst (λ ps. AreWritten ps a.1) (hold_shape (terms_form b.0) (term_form v.0) (span_form w.0 w.1))
              (arguments_give a.1 b.0 b.1 (Sign 58 ∷ Gap ∷ (term_form v.0 ++ span_form w.0 w.1)) eb
              (sign_gives 58 b.1 f (Gap ∷ (term_form v.0 ++ span_form w.0 w.1)) ef (term_gives f v.0 v.1 (span_form w.0 w.1) ev w.3)))),
        ),
      ),
    )

emit_gives : (ts : List Token) (s : Statement) → emit_of ts ≡ Some s
    → (v : Emission) × (s ≡ Emits v) × AreWritten (pattern_form v.pattern ++ Sign 44 ∷ Gap ∷ Symbol v.point ∷ Sign 41 ∷ []) ts
unfolding emit_of
emit_gives ts s e =
    then _ _ _ e λ a ea e1. then _ _ _ e1 λ b eb e2. then _ _ _ e2 λ f ef e3. then _ _ _ e3 λ d ed e4.
    let w = whole_is (Emits (record { pattern = a.0; point = f.0 })) s d e4 in (
      record { pattern = a.0; point = f.0 },
      sym w.0,
      pattern_gives ts a.0 a.1 (Sign 44 ∷ Gap ∷ Symbol f.0 ∷ Sign 41 ∷ []) ea
          (sign_gives 44 a.1 b (Gap ∷ Symbol f.0 ∷ Sign 41 ∷ []) eb (symbol_gives b f.0 f.1 (Sign 41 ∷ []) ef (sign_gives 41 f.1 d [] ed w.1))),
    )

emit_called : (k : List ℕ) (ts : List Token) (s : Statement) → k ≡ codes "emit" → emit_of ts ≡ Some s → IsCalled k s ts
emit_called k ts s is e = let g = emit_gives ts s e in called_by k s (Emits g.0) ts (sym g.1) (refl, (is, (refl, g.2)))

called_gives : (k : List ℕ) (ts : List Token) (s : Statement) → called_of k ts ≡ Some s → IsCalled k s ts
unfolding called_of
called_gives k ts s e = elim (cond_either (bytes_eq k (codes "event")) _ _ s e) [
  | inl p ↦ event_called k ts s (bytes_same k (codes "event") p.0) p.1
  | inr p ↦ elim (cond_either (bytes_eq k (codes "noevent")) _ _ s p.1) [
    | inl q ↦ noevent_called k ts s (bytes_same k (codes "noevent") q.0) q.1
    | inr q ↦ elim (cond_either (bytes_eq k (codes "occurs")) _ _ s q.1) [
      | inl r ↦ occurs_called k ts s (bytes_same k (codes "occurs") r.0) r.1
      | inr r ↦ elim (cond_either (bytes_eq k (codes "hold")) _ _ s r.1) [
        | inl t ↦ hold_called k ts s (bytes_same k (codes "hold") t.0) t.1
        | inr t ↦ let u = cond_passed (bytes_eq k (codes "emit")) (emit_of ts) s t.1 in emit_called k ts s (bytes_same k (codes "emit") u.0) u.1
      ]
    ]
  ]
]

-- an end of a bound
abbrev end_part : List ℕ → Option ℤ → Part
end_part k None = Keyword k
end_part k (Some z) = Integer z

end_gives : (k : List ℕ) (ts : List Token) (z : Option ℤ) (back : List Token) (rest : List Part) → end_at k ts ≡ Some (z, back) → AreWritten rest back → AreWritten (end_part k z ∷ rest) ts
unfolding end_at
end_gives k [] z back rest e h = cc
end_gives k (Mark m ∷ ts) z back rest e h = cc
end_gives k (Word w ∷ ts) z back rest e h = elim (cond_either (bytes_eq w k) (Some (None, ts)) (option_map (λ y. (Some y, ts)) (integer_of w)) (z, back) e) [
  | inl p ↦ let q = same_pair None z ts back p.1 in subst (λ x. AreWritten (end_part k x ∷ rest) (Word w ∷ ts)) q.0 (bytes_same w k p.0, subst (AreWritten rest) (sym q.1) h)
  | inr p ↦
      let r = option_map_some (λ y. (Some y, ts)) (integer_of w) (z, back) p.1 in
      subst (λ x. AreWritten (end_part k x ∷ rest) (Word w ∷ ts)) (ap (λ x. x.0) r.2) (r.1, subst (AreWritten rest) (sym (ap (λ x. x.1) r.2)) h)
]

low_is : (z : Option ℤ) → end_part (codes "-inf") z ≡ low_part z
low_is None = refl
low_is (Some z) = refl

high_is : (z : Option ℤ) → end_part (codes "inf") z ≡ high_part z
high_is None = refl
high_is (Some z) = refl

-- a statement inside a chronicle
abbrev IsIn : Statement → List Token → Type 0
IsIn s ts = (is_inside s ≡ true) × AreWritten (form_of s) ts

distance_gives : (k : List ℕ) (ts : List Token) (s : Statement) → distance_of k ts ≡ Some s → IsIn s (Word k ∷ ts)
unfolding distance_of
distance_gives k ts s e =
    let known = cond_passed (is_symbol k) _ s e in
    then _ _ _ known.1 λ a ea e1. then _ _ _ e1 λ f ef e2. then _ _ _ e2 λ b eb e3. then _ _ _ e3 λ d ed e4. then _ _ _ e4 λ l el e5. then _ _ _ e5 λ g eg e6. then _ _ _ e6 λ u eu e7. then _ _ _ e7 λ r er e8.
    let w = whole_is (Between (record { to = k; from = f.0; low = l.0; high = u.0 })) s r e8 in
    subst (λ x. IsIn x (Word k ∷ ts)) w.0 (
      refl,
      (
        (refl, known.0),
        keyword_gives (codes "-") ts a (Gap ∷ Symbol f.0 ∷ Gap ∷ Keyword (codes "in") ∷ Gap ∷ Sign 91 ∷ low_part l.0 ∷ Sign 44 ∷ Gap ∷ high_part u.0 ∷ Sign 93 ∷ []) ea
            (symbol_gives a f.0 f.1 (Gap ∷ Keyword (codes "in") ∷ Gap ∷ Sign 91 ∷ low_part l.0 ∷ Sign 44 ∷ Gap ∷ high_part u.0 ∷ Sign 93 ∷ []) ef
            (keyword_gives (codes "in") f.1 b (Gap ∷ Sign 91 ∷ low_part l.0 ∷ Sign 44 ∷ Gap ∷ high_part u.0 ∷ Sign 93 ∷ []) eb
            (sign_gives 91 b d (low_part l.0 ∷ Sign 44 ∷ Gap ∷ high_part u.0 ∷ Sign 93 ∷ []) ed
            (subst (λ p. AreWritten (p ∷ Sign 44 ∷ Gap ∷ high_part u.0 ∷ Sign 93 ∷ []) d) (low_is l.0)
            (end_gives (codes "-inf") d l.0 l.1 (Sign 44 ∷ Gap ∷ high_part u.0 ∷ Sign 93 ∷ []) el
            (sign_gives 44 l.1 g (Gap ∷ high_part u.0 ∷ Sign 93 ∷ []) eg
            (subst (λ p. AreWritten (p ∷ Sign 93 ∷ []) g) (high_is u.0)
            (end_gives (codes "inf") g u.0 u.1 (Sign 93 ∷ []) eu (sign_gives 93 u.1 r [] er w.1))))))))),
      ),
    )

-- symbols up to a bracket, behind others
values_give : (n : ℕ) (out : List (List ℕ)) (ts : List Token) (all : List (List ℕ)) (back : List Token) → values_on n out ts ≡ Some (all, back)
    → (rest : List Part) → AreWritten rest back → (u : List ℕ) × (us : List (List ℕ)) × (all ≡ out ++ u ∷ us) × AreWritten (listed symbol_form (u ∷ us) ++ Sign 41 ∷ rest) ts
unfolding values_on
values_give zero out ts all back e rest h = cc
values_give (suc n) out ts all back e rest h =
    then _ _ _ e λ p ep e1. then _ _ _ e1 λ q eq e2.
    by p.0 p.1 ep q.0 q.1 eq e2 (λ f. values_give n (out ++ p.0 ∷ []) q.1 all back f rest h)
  where
    by : (t : List ℕ) (ks : List Token) → symbol_at ts ≡ Some (t, ks) → (b : Bool) (ls : List Token) → closed_at 41 ks ≡ Some (b, ls)
        → cond b (Some (out ++ t ∷ [], ls)) (values_on n (out ++ t ∷ []) ls) ≡ Some (all, back)
        → (values_on n (out ++ t ∷ []) ls ≡ Some (all, back) → (u : List ℕ) × (us : List (List ℕ)) × (all ≡ (out ++ t ∷ []) ++ u ∷ us) × AreWritten (listed symbol_form (u ∷ us) ++ Sign 41 ∷ rest) ls)
        → (u : List ℕ) × (us : List (List ℕ)) × (all ≡ out ++ u ∷ us) × AreWritten (listed symbol_form (u ∷ us) ++ Sign 41 ∷ rest) ts
    by t ks f true ls g k more =
        let w = same_pair (out ++ t ∷ []) all ls back k in
        (t, [], sym w.0, symbol_gives ts t ks (Sign 41 ∷ rest) f (closed_gives 41 ks ls rest g (subst (AreWritten rest) (sym w.1) h)))
    by t ks f false ls g k more =
        let r = more k in (
          t,
          r.0 ∷ r.1,
          r.2 ∙ append_assoc out (t ∷ []) (r.0 ∷ r.1),
          symbol_gives ts t ks (Sign 44 ∷ Gap ∷ (listed symbol_form (r.0 ∷ r.1) ++ Sign 41 ∷ rest)) f (comma_gives 41 ks ls (listed symbol_form (r.0 ∷ r.1) ++ Sign 41 ∷ rest) g r.3),
        )

values_of_gives : (ts : List Token) (vs : List (List ℕ)) → values_of ts ≡ Some vs → AreWritten (Keyword (codes "in") ∷ Gap ∷ values_form vs) ts
unfolding values_of
values_of_gives ts vs e =
    then _ _ _ e λ a ea e1. then _ _ _ e1 λ b eb e2. then _ _ _ e2 λ v ev e3.
    let w = whole_is v.0 vs v.1 e3 in
    let g = values_give (length b) [] b v.0 v.1 ev [] w.1 in
    keyword_gives (codes "in") ts a (Gap ∷ values_form vs) ea (sign_gives 40 a b (listed symbol_form vs ++ Sign 41 ∷ []) eb
    (subst (λ x. AreWritten (listed symbol_form x ++ Sign 41 ∷ []) b) (sym g.2 ∙ w.0) g.3))

differ_gives : (name : List ℕ) (ts : List Token) (s : Statement) → differ_of name ts ≡ Some s → (other : List ℕ) × (s ≡ Differ name other) × AreWritten (Sign 63 ∷ Symbol other ∷ []) ts
unfolding differ_of
differ_gives name ts s e =
    then _ _ _ e λ a ea e1. then _ _ _ e1 λ o eo e2.
    let w = whole_is (Differ name o.0) s o.1 e2 in
    (o.0, sym w.0, sign_gives 63 ts a (Symbol o.0 ∷ []) ea (symbol_gives a o.0 o.1 [] eo w.1))

of_variable_gives : (name : List ℕ) (back ts : List Token) (s : Statement) → symbol_at ts ≡ Some (name, back) → of_variable name back ≡ Some s → IsIn s (Mark 63 ∷ ts)
unfolding of_variable
of_variable_gives name [] ts s h e = cc
of_variable_gives name (Mark m ∷ back) ts s h e =
    let p = cond_passed (m == 33) (differ_of name back) s e in
    let g = differ_gives name back s p.1 in
    subst (λ x. IsIn x (Mark 63 ∷ ts)) (sym g.1)
    (refl, (refl, symbol_gives ts name (Mark m ∷ back) (Gap ∷ Sign 33 ∷ Gap ∷ Sign 63 ∷ Symbol g.0 ∷ []) h (eqb-true m 33 p.0, g.2)))
of_variable_gives name (Word w ∷ back) ts s h e =
    then _ _ _ e λ vs ev e1.
    subst (λ x. IsIn x (Mark 63 ∷ ts)) (some_inj (Among name vs) s e1)
    (refl, (refl, symbol_gives ts name (Word w ∷ back) (Gap ∷ Keyword (codes "in") ∷ Gap ∷ values_form vs) h (values_of_gives (Word w ∷ back) vs ev)))

variable_gives : (ts : List Token) (s : Statement) → variable_of ts ≡ Some s → IsIn s (Mark 63 ∷ ts)
unfolding variable_of
variable_gives ts s e = then _ _ _ e λ a ea e1. of_variable_gives a.0 a.1 ts s ea e1

point_gives : (k name : List ℕ) (s : Statement) → point_of k name ≡ Some s → IsIn s (Word k ∷ Word name ∷ [])
unfolding point_of
point_gives k name s e = by (bytes_eq k (codes "point")) (is_symbol name) (bytes_same k (codes "point")) refl e
  where
    by : (a b : Bool) → (a ≡ true → k ≡ codes "point") → is_symbol name ≡ b → cond (a && b) (Some (Point name)) None ≡ Some s → IsIn s (Word k ∷ Word name ∷ [])
    by true true f g h = subst (λ x. IsIn x (Word k ∷ Word name ∷ [])) (some_inj (Point name) s h) (refl, (f refl, ((refl, g), tt)))
    by true false f g h = cc
    by false b f g h = cc

worded_gives : (k : List ℕ) (ts : List Token) (s : Statement) → worded_of k ts ≡ Some s → IsIn s (Word k ∷ ts)
unfolding worded_of
worded_gives k [] s e = cc
worded_gives k (Word a ∷ []) s e = point_gives k a s e
worded_gives k (Word a ∷ t ∷ ts) s e = distance_gives k (Word a ∷ t ∷ ts) s e
worded_gives k (Mark m ∷ ts) s e = elim (cond_either (m == 40) (called_of k ts) (distance_of k (Mark m ∷ ts)) s e) [
  | inl p ↦ subst (λ n. IsIn s (Word k ∷ Mark n ∷ ts)) (sym (eqb-true m 40 p.0)) (called_gives k ts s p.1)
  | inr p ↦ distance_gives k (Mark m ∷ ts) s p.1
]

inside_gives : (ts : List Token) (s : Statement) → inside_of ts ≡ Some s → IsIn s ts
unfolding inside_of
inside_gives [] s e = cc
inside_gives (Word k ∷ ts) s e = worded_gives k ts s e
inside_gives (Mark m ∷ ts) s e = elim (cond_either (m == 125) (whole Close ts) (cond (m == 63) (variable_of ts) None) s e) [
  | inl p ↦ closing m ts s (eqb-true m 125 p.0) p.1
  | inr p ↦ let q = cond_passed (m == 63) (variable_of ts) s p.1 in subst (λ n. IsIn s (Mark n ∷ ts)) (sym (eqb-true m 63 q.0)) (variable_gives ts s q.1)
]
  where
    closing : (m : ℕ) (ts : List Token) (s : Statement) → m ≡ 125 → whole Close ts ≡ Some s → IsIn s (Mark m ∷ ts)
    closing m [] s is e = subst (λ x. IsIn x (Mark m ∷ [])) (some_inj Close s e) (refl, (is, tt))
    closing m (t ∷ ts) s is e = cc

-- a statement outside all chronicles
abbrev IsOut : Statement → List Token → Type 0
IsOut s ts = (is_inside s ≡ false) × AreWritten (form_of s) ts

attribute_gives : (name : List ℕ) (arity : ℕ) (ts : List Token) (s : Statement) → attribute_of name arity ts ≡ Some s → (vs : Option (List (List ℕ))) × (s ≡ Attribute name arity vs) × AreWritten (values_in_form vs) ts
unfolding attribute_of
attribute_gives name arity [] s e = (None, sym (some_inj (Attribute name arity None) s e), tt)
attribute_gives name arity (t ∷ ts) s e = then _ _ _ e λ vs ev e1. (Some vs, sym (some_inj (Attribute name arity (Some vs)) s e1), values_of_gives (t ∷ ts) vs ev)

prompt_gives : (k word : List ℕ) (back ts : List Token) (s : Statement) → k ≡ codes "prompt" → symbol_at ts ≡ Some (word, back) → prompt_of word back ≡ Some s → IsOut s (Word k ∷ ts)
unfolding prompt_of
prompt_gives k word back ts s is h e =
    let p = cond_passed (bytes_eq word (codes "chronicle")) _ s e in
    then _ _ _ p.1 λ a ea e1. then _ _ _ e1 λ r er e2.
    let w = whole_is (Begin (record { prompt = true; name = a.0 })) s r e2 in
    let rest : List Part = Gap ∷ Symbol a.0 ∷ Gap ∷ Sign 123 ∷ [] in
    subst (λ x. IsOut x (Word k ∷ ts)) w.0 (refl, (is, named ts word back rest h (bytes_same word (codes "chronicle") p.0) (symbol_gives back a.0 a.1 (Gap ∷ Sign 123 ∷ []) ea (sign_gives 123 a.1 r [] er w.1))))
  where
    named : (ts : List Token) (word : List ℕ) (back : List Token) (rest : List Part) → symbol_at ts ≡ Some (word, back) → word ≡ codes "chronicle" → AreWritten rest back → AreWritten (Keyword (codes "chronicle") ∷ rest) ts
    named [] word back rest h e k = cc
    named (Mark m ∷ ts) word back rest h e k = cc
    named (Word w ∷ ts) word back rest h e k =
        let c = cond_passed (is_symbol w) (Some (w, ts)) (word, back) h in
        let q = same_pair w word ts back c.1 in
        (q.0 ∙ e, subst (AreWritten rest) (sym q.1) k)

named_gives : (k name : List ℕ) (back ts : List Token) (s : Statement) → symbol_at ts ≡ Some (name, back) → named_of k name back ≡ Some s → IsOut s (Word k ∷ ts)
unfolding named_of
named_gives k name back ts s h e = elim (cond_either (bytes_eq k (codes "chronicle")) _ _ s e) [
  | inl p ↦ then _ _ _ p.1 λ r er e1.
      let w = whole_is (Begin (record { prompt = false; name = name })) s r e1 in
      subst (λ x. IsOut x (Word k ∷ ts)) w.0 (refl, (bytes_same k (codes "chronicle") p.0, symbol_gives ts name back (Gap ∷ Sign 123 ∷ []) h (sign_gives 123 back r [] er w.1)))
  | inr p ↦ elim (cond_either (bytes_eq k (codes "message")) _ _ s p.1) [
    | inl q ↦ then _ _ _ q.1 λ n en e1.
        let w = whole_is (Message name n.0) s n.1 e1 in
        subst (λ x. IsOut x (Word k ∷ ts)) w.0 (refl, (bytes_same k (codes "message") q.0, symbol_gives ts name back (Gap ∷ Number n.0 ∷ []) h (number_gives back n.0 n.1 [] en w.1)))
    | inr q ↦ elim (cond_either (bytes_eq k (codes "attribute")) _ _ s q.1) [
      | inl r ↦ then _ _ _ r.1 λ n en e1.
          let g = attribute_gives name n.0 n.1 s e1 in
          subst (λ x. IsOut x (Word k ∷ ts)) (sym g.1) (refl, (bytes_same k (codes "attribute") r.0, symbol_gives ts name back (Gap ∷ Number n.0 ∷ values_in_form g.0) h (number_gives back n.0 n.1 (values_in_form g.0) en g.2)))
      | inr r ↦ elim (cond_either (bytes_eq k (codes "prompt")) _ _ s r.1) [
        | inl t ↦ prompt_gives k name back ts s (bytes_same k (codes "prompt") t.0) h t.1
        | inr t ↦
            let u = cond_passed (bytes_eq k (codes "derived")) _ s t.1 in
            then _ _ _ u.1 λ n en e1.
            let w = whole_is (Derived name n.0) s n.1 e1 in
            subst (λ x. IsOut x (Word k ∷ ts)) w.0 (refl, (bytes_same k (codes "derived") u.0, symbol_gives ts name back (Gap ∷ Number n.0 ∷ []) h (number_gives back n.0 n.1 [] en w.1)))
      ]
    ]
  ]
]

outside_gives : (ts : List Token) (s : Statement) → outside_of ts ≡ Some s → IsOut s ts
unfolding outside_of
outside_gives [] s e = cc
outside_gives (Mark m ∷ ts) s e = cc
outside_gives (Word k ∷ ts) s e = then _ _ _ e λ a ea e1. named_gives k a.0 a.1 ts s ea e1

pub read_is_meant : ReadIsMeant
read_is_meant true tokens s e = inside_gives tokens s e
read_is_meant false tokens s e = outside_gives tokens s e
