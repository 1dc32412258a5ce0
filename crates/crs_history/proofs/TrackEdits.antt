-- Lists of changes by attribute, where one is replaced or numbers are added.
use Rattle.std.proofs.Common.{◌≡◌, ℕ, ◌≤◌, List, [], ◌∷◌, ◌++◌, drop, Option, Some, None, refl, sym, ap, subst, ◌∙◌, inl, inr, arith}
use Rattle.std.proofs.lemmas.Bool.{cases_eq}
use Rattle.std.specs.Prelude.{slice_get}
use Rattle.crs_base.specs.declared.symbols.Sym.{Sym}
use Rattle.crs_base.specs.Entry.{Entry}
use Rattle.crs_base.specs.Values.{Attribute}
use Rattle.crs_base.proofs.Words.{in_append}
use Rattle.crs_base.specs.Words.{IsIn}
use Rattle.crs_history.specs.Histories.{attribute_of}
use Rattle.crs_history.specs.Lanes.{lane_of, AreAlike, IsSetTo}
use Rattle.crs_history.specs.ListNumbers.{Steps, count_of, IsNumbering, Grows}
use Rattle.crs_history.specs.Tracks.{TracksState, number_of, track_at, AreTracks, AreSame, IsTrackSetTo}
use Rattle.crs_history.proofs.Numbering.{number_within, number_once, number_kept, number_fresh, some_not, cons_is}

-- numbers are added
module _ (old new : Steps) (lanes more : List (List (Entry Sym))) (ok : AreTracks (record { steps = old; lanes = lanes })) (g : Grows old new) (numbering : IsNumbering new) (alike : AreAlike lanes more) where
  by_numbers : (a : Attribute Sym) (o n : Option ℕ) → number_of old a ≡ o → number_of new a ≡ n → track_at more n ≡ track_at lanes o
  by_numbers a (Some j) n e f = ap (track_at more) (sym f ∙ number_kept old new g (a.name ∷ a.args) 0 j e) ∙ alike j
  by_numbers a None None e f = refl
  by_numbers a None (Some k) e f = elim (number_fresh old new g numbering (a.name ∷ a.args) 0 k f) [
    | inl h ↦ absurd (some_not k (sym e ∙ h))
    | inr l ↦ alike k ∙ ok.unused k l
  ]

  pub tracks_same : AreSame (record { steps = old; lanes = lanes }) (record { steps = new; lanes = more })
  tracks_same a = by_numbers a (number_of old a) (number_of new a) refl refl

  pub tracks_more : AreTracks (record { steps = new; lanes = more })
  tracks_more = record {
    numbering = numbering;
    owned = λ n e i. number_kept old new g (e.name ∷ e.args) 0 n (ok.owned n e (subst (IsIn e) (alike n) i));
    unused = λ n l. alike n ∙ ok.unused n (let m = g.more in omega arith);
  }

same_attribute : (a b : Attribute Sym) → b.name ∷ b.args ≡ a.name ∷ a.args → b ≡ a
same_attribute a b e = let p = cons_is b.name a.name b.args a.args e in λ i. record { name = p.0 i; args = p.1 i }

-- a track is replaced
module _ (steps : Steps) (lanes more : List (List (Entry Sym))) (ok : AreTracks (record { steps = steps; lanes = lanes })) (a : Attribute Sym) (k : ℕ) (is : number_of steps a ≡ Some k)
    (track : List (Entry Sym)) (put : IsSetTo lanes k track more) where
  by_number : (b : Attribute Sym) → (b ≡ a → ⊥) → (o : Option ℕ) → number_of steps b ≡ o → track_at more o ≡ track_at lanes o
  by_number b ne None e = refl
  by_number b ne (Some j) e = put.1 j (λ same. ne (same_attribute a b (number_once steps ok.numbering (b.name ∷ b.args) (a.name ∷ a.args) j e (is ∙ ap Some (sym same)))))

  pub track_put : IsTrackSetTo (record { steps = steps; lanes = lanes }) a track (record { steps = steps; lanes = more })
  track_put = record {
    set = ap (track_at more) is ∙ put.0;
    others = λ b ne. by_number b ne (number_of steps b) refl;
  }

  -- of which each entry is the attribute's
  pub tracks_put : ((e : Entry Sym) → IsIn e track → attribute_of e ≡ a) → AreTracks (record { steps = steps; lanes = more })
  tracks_put of = record {
    numbering = ok.numbering;
    owned = λ n e i. elim (cases_eq n k) [
      | inl same ↦ ap (number_of steps) (of e (subst (IsIn e) (ap (lane_of more) same ∙ put.0) i)) ∙ (is ∙ ap Some (sym same))
      | inr ne ↦ ok.owned n e (subst (IsIn e) (put.1 n ne) i)
    ];
    unused = λ n l. put.1 n (λ same. let w : k ≤ count_of steps = number_within steps ok.numbering (a.name ∷ a.args) 0 k (omega arith) is in absurd (omega arith)) ∙ ok.unused n l;
  }

-- an entry of the track of an attribute may change it
pub of_own : (t : TracksState) → AreTracks t → (a : Attribute Sym) (k : ℕ) → number_of t.steps a ≡ Some k → (e : Entry Sym) → IsIn e (lane_of t.lanes k) → attribute_of e ≡ a
of_own t ok a k is e i = same_attribute a (attribute_of e) (number_once t.steps ok.numbering (e.name ∷ e.args) (a.name ∷ a.args) k (ok.owned k e i) is)

pub of_pushed : (t : TracksState) → AreTracks t → (d : Entry Sym) (k : ℕ) → number_of t.steps (attribute_of d) ≡ Some k → (e : Entry Sym) → IsIn e (lane_of t.lanes k ++ d ∷ []) → attribute_of e ≡ attribute_of d
of_pushed t ok d k is e i = elim (in_append (lane_of t.lanes k) (d ∷ []) e i) [
  | inl j ↦ of_own t ok (attribute_of d) k is e j
  | inr j ↦ elim j [ inl q ↦ ap attribute_of q | inr z ↦ absurd z ]
]

pub set_after : (old mid new : TracksState) (a : Attribute Sym) (track : List (Entry Sym)) → AreSame old mid → IsTrackSetTo mid a track new → IsTrackSetTo old a track new
set_after old mid new a track same put = record { set = put.set; others = λ b ne. put.others b ne ∙ same b }

pub first_is : (es : List (Entry Sym)) (x : Entry Sym) → slice_get es 0 ≡ Some x → es ≡ x ∷ drop 1 es
first_is [] x e = absurd (some_no x e)
  where
    some_no : (x : Entry Sym) → None ≡ Some x → ⊥
    some_no x e = cc
first_is (y ∷ es) x e = cc
