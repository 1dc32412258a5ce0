-- Merged runs of the same logs agree at a common horizon that both reach.
use Rattle.std.proofs.Common.{◌≡◌, ℕ, ◌<◌, Bool, true, false, cond, List, [], ◌∷◌, length, map, nat_lt, replicate, refl, sym, ap, subst, ◌∙◌, inl, inr}
use Rattle.std.proofs.Common.{arith, ltb-true}
use Rattle.std.specs.List.{AllZip}
use Rattle.crs_base.specs.Entry.{Key, Entry, canonical}
use Rattle.crs_log.specs.Reading.{Given}
use Rattle.crs_base.specs.Words.{IsIn}
use Rattle.crs_base.proofs.Words.{in_from_each, in_filter_back, ordered_filter}
use Rattle.crs_model.specs.declared.recognition.Mark.{Mark}
use Rattle.crs_model.specs.Models.{Chronicle}
use Rattle.crs_model.specs.Matching.{Assignment}
use Rattle.crs_model.specs.Open.{IsRecognised, before, pool_among}
use Rattle.crs_model.specs.Order.{Lists, assignment_cmp, in_key_order, dated_before}
use Rattle.crs_model.proofs.Ties.{ties, ordered_members}
use Rattle.crs_model.proofs.Twins.{Same, Twins}
use Rattle.crs_model.proofs.TwinPools.{AreAlike, pairing}
use Rattle.crs_log.specs.Run.{Setting}
use Rattle.crs_log.proofs.ReadEntries.{IsRead, AreAccepted, none_accepted, same_read}
use Rattle.crs_report.specs.OutputLines.{recognition_line}
use Rattle.crs_report.proofs.TwinLines.{line_same}
use Rattle.crs_log.specs.Recognitions.{View}
use Rattle.crs_feeds.specs.Merged.{Pair, new_feed, at_start, common, marked_entries, view_of}
use Rattle.crs_feeds.specs.Laws.{Reaches, run_of, without_arrival, AreRecognised, HaveOneList, MergedRunsAgree}
use Rattle.crs_feeds.proofs.Counting.{ties_before}
use Rattle.crs_feeds.proofs.Merging.{each_run, merged, total, all_told}
use Rattle.crs_model.proofs.PairedLists.{Paired, lists_paired}
use Rattle.crs_feeds.proofs.TwinRecognised.{recognised_along}

-- what was put aside is not put aside twice
twice : (h : ℕ) (xs : List (Entry (List ℕ))) → before h (before h xs) ≡ before h xs
twice h [] = refl
twice h (x ∷ xs) = by (twice h xs) (nat_lt x.date h) refl
  where
    by : before h (before h xs) ≡ before h xs → (b : Bool) → nat_lt x.date h ≡ b → before h (cond b (x ∷ before h xs) (before h xs)) ≡ cond b (x ∷ before h xs) (before h xs)
    by r true q = (λ i. cond (q i) (x ∷ before h (before h xs)) (before h (before h xs))) ∙ ap (λ (ys : List (Entry (List ℕ))). x ∷ ys) r
    by r false q = r

read_in : (h : ℕ) (zs : List (Entry (List ℕ))) → AreAccepted zs → (x : Entry (List ℕ)) → IsIn x (before h zs) → IsRead x
read_in h zs k x i = in_from_each IsRead zs k.read x (in_filter_back (λ e. nat_lt e.date h) zs x i).0

module _ (h : ℕ) (xs ys : List (Entry (List ℕ))) (a : AreAccepted xs) (b : AreAccepted ys)
    (same : (z : Key) → z.date < h → ties z xs ≡ ties z ys) where
  ties_by : (z : Key) (d : Bool) → nat_lt z.date h ≡ d → cond d (ties z xs) 0 ≡ cond d (ties z ys) 0
  ties_by z true q = same z (ltb-true z.date h q)
  ties_by z false q = refl

  alike : AreAlike (before h xs) (before h ys)
  alike = record {
    distinct = ordered_filter (λ d e. d.arrival ≡ e.arrival → ⊥) (λ e. nat_lt e.date h) xs a.distinct;
    other_distinct = ordered_filter (λ d e. d.arrival ≡ e.arrival → ⊥) (λ e. nat_lt e.date h) ys b.distinct;
    ties = λ z. ties_before z h xs ∙ ties_by z (nat_lt z.date h) refl ∙ sym (ties_before z h ys);
    same = λ x y i j s. same_read x y (read_in h xs a x i) (read_in h ys b y j) s;
  }

  -- the entries dated before h, paired
  pub paired : (T : Entry (List ℕ) → Entry (List ℕ) → Type 0) × Twins T × AllZip T (dated_before h xs) (dated_before h ys)
  paired =
      let p = pairing (before h xs) (before h ys) alike in (
        p.0,
        p.1,
        subst (λ (us : List (Entry (List ℕ))). AllZip p.0 us (dated_before h ys)) (ap in_key_order (twice h xs))
            (subst (AllZip p.0 (dated_before h (before h xs))) (ap in_key_order (twice h ys)) (p.2 h)),
      )

-- the text of an entry that was read is told by the rest
text_is : (x : Entry (List ℕ)) → IsRead x → x.text ≡ canonical x.name x.args x.change
text_is x r =
    ap (λ (e : Entry (List ℕ)). e.text) r.2
    ∙ (λ i. canonical (sym (ap (λ (e : Entry (List ℕ)). e.name) r.2) i) (sym (ap (λ (e : Entry (List ℕ)). e.args) r.2) i) (sym (ap (λ (e : Entry (List ℕ)). e.change) r.2) i))

one_apart : (x y : Entry (List ℕ)) → IsRead x → IsRead y → Same x y → without_arrival x ≡ without_arrival y
one_apart x y r q s =
    let text : x.text ≡ y.text = text_is x r ∙ (λ i. canonical (s.name i) (s.args i) (s.change i)) ∙ sym (text_is y q) in
    λ i. record { arrival = 0; date = s.date i; name = s.name i; args = s.args i; change = s.change i; text = text i }

all_apart : (T : Entry (List ℕ) → Entry (List ℕ) → Type 0) → Twins T → (xs ys : List (Entry (List ℕ))) → ((x : Entry (List ℕ)) → IsIn x xs → IsRead x)
    → ((y : Entry (List ℕ)) → IsIn y ys → IsRead y) → AllZip T xs ys → map without_arrival xs ≡ map without_arrival ys
all_apart T t [] [] r q z = refl
all_apart T t [] (y ∷ ys) r q z = absurd z
all_apart T t (x ∷ xs) [] r q z = absurd z
all_apart T t (x ∷ xs) (y ∷ ys) r q z =
    let one = one_apart x y (r x (inl refl)) (q y (inl refl)) (t.same x y z.0) in
    let rest = all_apart T t xs ys (λ x i. r x (inr i)) (λ y i. q y (inr i)) z.1 in
    λ i. one i ∷ rest i

lines_same : (T : Entry (List ℕ) → Entry (List ℕ) → Type 0) → Twins T → (c : Chronicle (List ℕ)) (mark : Mark) (xs ys : List (Assignment (List ℕ)))
    → AllZip (Paired T) xs ys → map (recognition_line false c mark) xs ≡ map (recognition_line false c mark) ys
lines_same T t c mark [] [] z = refl
lines_same T t c mark [] (y ∷ ys) z = absurd z
lines_same T t c mark (x ∷ xs) [] z = absurd z
lines_same T t c mark (x ∷ xs) (y ∷ ys) z = λ i. line_same T t c mark x y z.0 i ∷ lines_same T t c mark xs ys z.1 i

-- of a chronicle that isn't prompt, what is recognised takes the settled entries
plain_recognised : (x : Chronicle (List ℕ)) → x.prompt ≡ false → (v : View) (xs : List (Assignment (List ℕ))) → AreRecognised x v xs
    → Lists assignment_cmp (IsRecognised x v.settled v.settled v.horizon) xs
plain_recognised x plain v xs l =
    let pool : pool_among x v.settled v.arrived ≡ v.settled = λ i. cond (plain i) v.arrived v.settled in
    subst (λ (es : List (Entry (List ℕ))). Lists assignment_cmp (IsRecognised x es v.settled v.horizon) xs) pool l

module _ (c : Setting) (texts : List (List ℕ)) (logs : List (List Given)) (h : ℕ) where
  abbrev reached : List Pair → List (Entry (List ℕ))
  reached ps = (run_of c texts logs ps).accepted

  accepted : (ps : List Pair) → Reaches c texts logs h ps → AreAccepted (reached ps)
  accepted ps r = (merged c (at_start texts (length logs)) ps r.room).accepted none_accepted

  -- what lies before the horizon is said as often as in the whole logs
  told : (ps : List Pair) → Reaches c texts logs h ps → (z : Key) → z.date < h → ties z (reached ps) ≡ total c z logs
  told ps r z l =
      let k = merged c (at_start texts (length logs)) ps r.room in
      let low : z.date < common (each_run c 0 (replicate (length logs) new_feed) ps) =
      subst (λ (n : ℕ). z.date < n) (sym r.horizon ∙ ap common k.feeds) l in
      let one = k.ties z in
      let two = all_told c z 0 logs ps r.pairs low in
      omega (arith, one, two)

  abbrev there : List Pair → View
  there ps = record { settled = dated_before h (reached ps); arrived = marked_entries (run_of c texts logs ps); horizon = h }

  seen_there : (ps : List Pair) → Reaches c texts logs h ps → there ps ≡ view_of (run_of c texts logs ps)
  seen_there ps r = λ i. record { settled = dated_before (sym r.horizon i) (reached ps); arrived = marked_entries (run_of c texts logs ps); horizon = sym r.horizon i }

  module _ (ps qs : List Pair) (r : Reaches c texts logs h ps) (q : Reaches c texts logs h qs) where
    pairs : (T : Entry (List ℕ) → Entry (List ℕ) → Type 0) × Twins T × AllZip T (dated_before h (reached ps)) (dated_before h (reached qs))
    pairs = paired h (reached ps) (reached qs) (accepted ps r) (accepted qs q) (λ z l. told ps r z l ∙ sym (told qs q z l))

    read : (us : List Pair) → Reaches c texts logs h us → (x : Entry (List ℕ)) → IsIn x (dated_before h (reached us)) → IsRead x
    read us k x i = read_in h (reached us) (accepted us k) x ((ordered_members (before h (reached us))).there x i)

    one_settled : map without_arrival (dated_before h (reached ps)) ≡ map without_arrival (dated_before h (reached qs))
    one_settled = let p = pairs in all_apart p.0 p.1 (dated_before h (reached ps)) (dated_before h (reached qs)) (read ps r) (read qs q) p.2

    one_list : (x : Chronicle (List ℕ)) → x.prompt ≡ false → HaveOneList x (there ps) (there qs)
    one_list x plain mark found other l m =
        let p = pairs in
        let now = dated_before h (reached ps) in
        let then = dated_before h (reached qs) in
        let zipped : AllZip (Paired p.0) found other =
        lists_paired p.0 p.1 (IsRecognised x now now h) (IsRecognised x then then h) (recognised_along x h p.0 p.1 now then p.2) found other
        (plain_recognised x plain (there ps) found l) (plain_recognised x plain (there qs) other m) in
        lines_same p.0 p.1 x mark found other zipped

pub merged_runs_agree : MergedRunsAgree
merged_runs_agree c texts logs h ps qs r q = (
  (λ i. map without_arrival (dated_before (r.horizon i) (reached c texts logs h ps)))
      ∙ one_settled c texts logs h ps qs r q
      ∙ (λ i. map without_arrival (dated_before (sym q.horizon i) (reached c texts logs h qs))),
  λ x plain. subst (λ (v : View). HaveOneList x v (view_of (run_of c texts logs qs))) (seen_there c texts logs h ps r)
      (subst (HaveOneList x (there c texts logs h ps)) (seen_there c texts logs h qs q) (one_list c texts logs h ps qs r q x plain)),
)
