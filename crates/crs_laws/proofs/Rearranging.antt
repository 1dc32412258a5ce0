-- Logs that are rearranged have one text.
use Rattle.std.proofs.Common.{◌≡◌, ℕ, zero, suc, ◌+◌, Bool, true, false, List, [], ◌∷◌, ◌++◌, map, replicate, refl, sym, ap, subst, ◌∙◌, arith, Option, Some, None}
use Rattle.std.specs.Prelude.{ℤ}
use Rattle.std.specs.List.{AllZip, AllByRecursion, list_any, sum_by}
use Rattle.std.proofs.lemmas.List.Sorted.{sum_by-IsPermutation}
use Rattle.crs_base.specs.Entry.{Key}
use Rattle.crs_base.specs.Lines.{Line}
use Rattle.crs_model.specs.declared.recognition.Mark.{Mark}
use Rattle.crs_model.specs.declared.recognition.Mark.TheVariants as mark
use Rattle.crs_model.specs.Models.{Chronicle}
use Rattle.crs_model.proofs.Ties.{ties}
use Rattle.crs_log.specs.Items.{Event}
use Rattle.crs_log.specs.Reading.{numbered}
use Rattle.crs_log.specs.Run.{end_date, horizon_at}
use Rattle.crs_log.proofs.ReadEntries.{none_accepted}
use Rattle.crs_layers.specs.Runs.{Setting, State, Effect}
use Rattle.crs_layers.specs.Strata.{Stratum, empty, strata_count}
use Rattle.crs_layers.specs.StrataViews.{views_from}
use Rattle.crs_layers.proofs.OneRun.{one_run}
use Rattle.crs_frames.specs.Frames.{placed_by, Frame, LogEntry}
use Rattle.crs_session.specs.Texts.{IsTraceOf, text_of, setting_of, start_of, has_refused}
use Rattle.crs_laws.specs.Rearranged.{Part, Ending, AtClock, AtEnd, IsRearranged, parts_of, items_of, NoneIsRefused, RearrangedLogsHaveOneText}
use Rattle.crs_laws.proofs.AlikeStrata.{Match, MarkAlike, StratumAlike, mark_alike, answers_same}
use Rattle.crs_laws.proofs.EmitSymbols.{IsEmitting, models_emitting}
use Rattle.crs_laws.proofs.Parting.{weight, Follow, FollowAll, horizons, IsMarkedText, IsEndText, IsPartsText, parted_text}

module _ (c : Setting) (emitting : AllByRecursion (λ p. IsEmitting p.chronicle) c.placed) where
  followed : (es fs : List Event) (xs ys us vs : List LogEntry) → ((z : Key) → sum_by (weight c z) fs ≡ sum_by (weight c z) es)
      → Match xs ys → Follow c es xs us → Follow c fs ys vs → Match us vs
  followed es fs xs ys us vs perm m f g = record {
    left = f.accepted m.left;
    right = g.accepted m.right;
    ties = λ z.
        let a : ties z us ≡ ties z xs + sum_by (weight c z) es = f.ties z in
        let b : ties z vs ≡ ties z ys + sum_by (weight c z) fs = g.ties z in
        let s : ties z xs ≡ ties z ys = m.ties z in
        let p : sum_by (weight c z) fs ≡ sum_by (weight c z) es = perm z in
        omega (arith, a, b, s, p);
  }

  -- what follows leaves what had been accepted by the last mark
  still_alike : (es fs : List Event) (xs ys us vs : List LogEntry) (k l : ℕ) → MarkAlike k l xs ys → Follow c es xs us → Follow c fs ys vs → MarkAlike k l us vs
  still_alike es fs xs ys us vs k l e f g = record {
    left = let a = e.left in let b = f.longer in omega arith;
    right = let a = e.right in let b = g.longer in omega arith;
    early = λ z. ap (ties z) (f.early k e.left) ∙ e.early z ∙ sym (ap (ties z) (g.early l e.right));
  }

  followed_all : (es fs : List Event) → ((z : Key) → sum_by (weight c z) fs ≡ sum_by (weight c z) es) → (ss us ts vs : List (Stratum (List ℕ))) → AllZip StratumAlike ss us
      → FollowAll c es ss ts → FollowAll c fs us vs → AllZip StratumAlike ts vs
  followed_all es fs perm [] [] [] [] z f g = tt
  followed_all es fs perm [] [] [] (v ∷ vs) z f g = absurd g
  followed_all es fs perm [] [] (t ∷ ts) vs z f g = absurd f
  followed_all es fs perm [] (u ∷ us) ts vs z f g = absurd z
  followed_all es fs perm (s ∷ ss) [] ts vs z f g = absurd z
  followed_all es fs perm (s ∷ ss) (u ∷ us) [] vs z f g = absurd f
  followed_all es fs perm (s ∷ ss) (u ∷ us) (t ∷ ts) [] z f g = absurd g
  followed_all es fs perm (s ∷ ss) (u ∷ us) (t ∷ ts) (v ∷ vs) z f g = (
    record {
      entries = followed es fs s.accepted u.accepted t.accepted v.accepted perm z.0.entries f.0.0 g.0.0;
      marks =
          subst (λ (k : ℕ). MarkAlike k v.marked t.accepted v.accepted) (sym f.0.1)
          (subst (λ (l : ℕ). MarkAlike s.marked l t.accepted v.accepted) (sym g.0.1)
          (still_alike es fs s.accepted u.accepted t.accepted v.accepted s.marked u.marked z.0.marks f.0.0 g.0.0));
    },
    followed_all es fs perm ss us ts vs z.1 f.1 g.1,
  )

  abbrev Rest : Type 1
  Rest = List (Stratum (List ℕ)) → List ℕ → Type 0

  marked : (ss us : List (Stratum (List ℕ))) → AllZip StratumAlike ss us → (mark : Mark) (was now : Bool) (g h : ℕ) (R Q : Rest)
      → ((ts vs : List (Stratum (List ℕ))) → AllZip StratumAlike ts vs → (a b : List ℕ) → R ts a → Q vs b → a ≡ b)
      → (a b : List ℕ) → IsMarkedText c mark was g now h ss R a → IsMarkedText c mark was g now h us Q b → a ≡ b
  marked ss us z mark was now g h R Q rest a b p q =
      let twins = mark_alike c.placed emitting c.log.entries (horizons c was g) (horizons c now h) 0 [] ss us p.0 q.0 p.1 q.1 z tt p.4 q.4 p.5 q.5 in
      let one = answers_same 0 c.placed (views_from (horizons c was g) 0 ss) (views_from (horizons c was g) 0 us) (views_from (horizons c now h) 0 p.0) (views_from (horizons c now h) 0 q.0)
      twins.1 mark p.2 q.2 p.6 q.6 in
      let two : p.3 ≡ q.3 = rest p.0 q.0 twins.0 p.3 q.3 p.7 q.7 in
      p.8 ∙ (λ i. one i ++ two i) ∙ sym q.8

  ends : (o : Option Ending) (b : Bool) (h : ℕ) (ss us : List (Stratum (List ℕ))) → AllZip StratumAlike ss us → (R Q : Bool → ℕ → Rest)
      → ((b : Bool) (h : ℕ) (ts vs : List (Stratum (List ℕ))) → AllZip StratumAlike ts vs → (x y : List ℕ) → R b h ts x → Q b h vs y → x ≡ y)
      → (x y : List ℕ) → IsEndText c o b h ss R x → IsEndText c o b h us Q y → x ≡ y
  ends None b h ss us z R Q rest x y p q = p ∙ sym q
  ends (Some (AtClock d t)) b h ss us z R Q rest x y p q =
      marked ss us z (mark.Clock t) b b h (horizon_at d h t) (R b (horizon_at d h t)) (Q b (horizon_at d h t)) (rest b (horizon_at d h t)) x y p q
  ends (Some AtEnd) b h ss us z R Q rest x y p q = marked ss us z mark.Finish b true h end_date (R true end_date) (Q true end_date) (rest true end_date) x y p q

  -- parts that are rearranged have one text
  one_text : (ps qs : List Part) → AllZip IsRearranged ps qs → (b : Bool) (h : ℕ) (ss us : List (Stratum (List ℕ))) → AllZip StratumAlike ss us → (x y : List ℕ)
      → IsPartsText c ps b h ss x → IsPartsText c qs b h us y → x ≡ y
  one_text [] [] r b h ss us z x y p q = p ∙ sym q
  one_text [] (o ∷ qs) r b h ss us z x y p q = absurd r
  one_text (o ∷ ps) [] r b h ss us z x y p q = absurd r
  one_text (o ∷ ps) (k ∷ qs) r b h ss us z x y p q =
      let n = followed_all o.events k.events (λ w. sum_by-IsPermutation (weight c w) o.events k.events r.0.events) ss us p.0 q.0 z p.1 q.1 in
      let other : IsEndText c o.ending b h q.0 (λ b h vs t. IsPartsText c qs b h vs t) y =
      subst (λ (e : Option Ending). IsEndText c e b h q.0 (λ b h vs t. IsPartsText c qs b h vs t) y) (sym r.0.ending) q.2 in
      ends o.ending b h p.0 q.0 n (λ b h ts t. IsPartsText c ps b h ts t) (λ b h vs t. IsPartsText c qs b h vs t)
      (λ b h ts vs z x y u v. one_text ps qs r.1 b h ts vs z x y u v) x y p.2 other

start_alike : (n : ℕ) → AllZip StratumAlike (replicate n empty) (replicate n empty)
start_alike zero = tt
start_alike (suc n) = (
  record {
    entries = record { left = none_accepted; right = none_accepted; ties = λ z. refl };
    marks = record { left = omega arith; right = omega arith; early = λ z. refl };
  },
  start_alike n,
)

placed_emitting : (cs : List (Chronicle (List ℕ))) (ks : List ℕ) (ls : List (Option ℤ)) → AllByRecursion IsEmitting cs → AllByRecursion (λ p. IsEmitting p.chronicle) (placed_by cs ks ls)
placed_emitting [] ks ls h = tt
placed_emitting (c ∷ cs) [] ls h = tt
placed_emitting (c ∷ cs) (k ∷ ks) [] h = tt
placed_emitting (c ∷ cs) (k ∷ ks) (l ∷ ls) h = (h.0, placed_emitting cs ks ls h.1)

-- without refused lines no effect is a refusal
none_of : (f : Frame) (lines : List Line) (effects : List Effect) (last : State) → IsTraceOf f lines effects last → NoneIsRefused f lines → list_any has_refused effects ≡ false
none_of f lines effects last trace r =
    ap (list_any has_refused) (one_run (setting_of f) (start_of f) (numbered lines) effects r.0 last r.1 trace r.2).0 ∙ r.3

pub rearranged_logs_have_one_text : RearrangedLogsHaveOneText
rearranged_logs_have_one_text symbols entries models f xs ys a b accepted r s z p q =
    let c : Setting = setting_of f in
    let read = models_emitting symbols models f.models f.texts accepted.read in
    let emitting = subst (AllByRecursion (λ p. IsEmitting p.chronicle)) (sym accepted.placed) (placed_emitting f.models.chronicles accepted.in_time.strata accepted.in_time.lags read) in
    let same : text_of false f.entries p.0 ≡ text_of false f.entries q.0 =
    one_text c emitting (parts_of 0 (items_of xs)) (parts_of 0 (items_of ys)) z false 0 (start_of f).strata (start_of f).strata
    (start_alike (strata_count (map (λ p. p.stratum) f.placed))) (text_of false f.entries p.0) (text_of false f.entries q.0)
    (parted_text c 0 (start_of f) xs p.0 p.1 (none_of f xs p.0 p.1 p.2 r) p.2) (parted_text c 0 (start_of f) ys q.0 q.1 (none_of f ys q.0 q.1 q.2 s) q.2) in
    p.3 ∙ ap (λ (cite : Bool). text_of cite f.entries p.0) accepted.cite_is ∙ same ∙ sym (q.3 ∙ ap (λ (cite : Bool). text_of cite f.entries q.0) accepted.cite_is)
