-- The entries that are settled one after another, and all stores' part in it.
use Rattle.std.proofs.Common.{◌≡◌, ℕ, ◌<◌, ◌≤◌, ◌^◌, List, [], ◌∷◌, ◌++◌, refl, sym, ap, subst, ◌∙◌, inl, inr, arith, append_assoc, append-nil, cond, nat_lt, Bool, true, false, take, drop, map, length}
use Rattle.std.specs.Prelude.{Some, None, min, pos, ◌≤ℤ◌, ℤ}
use Rattle.std.proofs.lemmas.Int.{ints}
use Rattle.std.proofs.lemmas.List.{map-append, take-append-drop}
use Rattle.std.specs.List.{AllByRecursion}
use Rattle.std.proofs.lemmas.Bool.{ltb-true, le-ltb}
use Rattle.crs_base.specs.declared.symbols.Sym.{Sym}
use Rattle.crs_base.specs.Entry.{Entry, entry_cmp, IsInKeyOrder}
use Rattle.crs_base.specs.Words.{IsIn}
use Rattle.crs_base.proofs.Words.{each_from_in, in_from_each, in_append, in_append_left}
use Rattle.crs_base.proofs.Alls.{all_append, all_each, all_left, all_put, all_right}
use Rattle.crs_base.proofs.KeyOrder.{date_of_less}
use Rattle.std.specs.declared.cmp.Ordering.TheVariants.{Less}
use Rattle.crs_model.specs.declared.recognition.Mark.{Mark}
use Rattle.crs_model.specs.declared.recognition.Recognition.{Recognition}
use Rattle.crs_buffer.specs.Entries.{released, left}
use Rattle.crs_history.specs.Histories.{HistoryState, EndsWith, IsAfterAll, StandsFor}
use Rattle.crs_store.specs.Ahead.{AreAhead}
use Rattle.crs_store.specs.Orders.{IsBehind, AreBehind}
use Rattle.crs_store.specs.Stores.{StoreState, IsSameStore}
use Rattle.crs_store.specs.Answers.{IsAdvanced}
use Rattle.crs_engine.specs.Moves.{AreSameStores, AreGivenOne, AreGivenFresh, AreOffered, AreTold, HasRanks, AreInOrder, IsFirstBehind, AreApart, HasPut, AreOfferedAll, AreTaken, ArePut, AreSettled, IsRestOf, AreAdvanced, date_after}
use Rattle.crs_engine.proofs.Order.{ordered_cross, ordered_right, ordered_without}

pub same_all : (ss : List StoreState) → AreSameStores ss ss
same_all [] = tt
same_all (s ∷ ss) = (record { plan = refl; number = refl; focus = refl; ranks = refl }, same_all ss)

pub same_on : (xs ys zs : List StoreState) → AreSameStores xs ys → AreSameStores ys zs → AreSameStores xs zs
same_on [] [] zs h k = k
same_on [] (y ∷ ys) zs h k = absurd h
same_on (x ∷ xs) [] zs h k = absurd h
same_on (x ∷ xs) (y ∷ ys) [] h k = absurd k
same_on (x ∷ xs) (y ∷ ys) (z ∷ zs) h k = (record { plan = (k.0).plan ∙ (h.0).plan; number = (k.0).number ∙ (h.0).number; focus = (k.0).focus ∙ (h.0).focus; ranks = (k.0).ranks ∙ (h.0).ranks }, same_on xs ys zs h.1 k.1)

-- stores that stay the same but for what they hold have the same ranks
pub ranked_on : (ranks : List ℕ) (xs ys : List StoreState) → AreSameStores xs ys → AllByRecursion (HasRanks ranks) xs → AllByRecursion (HasRanks ranks) ys
ranked_on ranks [] [] h k = tt
ranked_on ranks [] (y ∷ ys) h k = absurd h
ranked_on ranks (x ∷ xs) [] h k = absurd h
ranked_on ranks (x ∷ xs) (y ∷ ys) h k = ((h.0).ranks ∙ k.0, ranked_on ranks xs ys h.1 k.1)

-- what is behind by the ranks is so by those of each store
pub behind_all : (ranks : List ℕ) (x : Entry Sym) (later : List (Entry Sym)) (h : ℕ) (ss : List StoreState) → AllByRecursion (HasRanks ranks) ss → AreBehind ranks x later h → AllByRecursion (λ s. AreBehind s.ranks x later h) ss
behind_all ranks x later h [] all k = tt
behind_all ranks x later h (s ∷ ss) all k = (subst (λ (r : List ℕ). AreBehind r x later h) (sym all.0) k, behind_all ranks x later h ss all.1 k)

told_as : (stores : List StoreState) (x : Entry Sym) (ahead : List (Entry Sym)) (beyond : ℕ) (behind : Bool) (these those : List (Entry Sym)) (h : ℕ) → these ≡ those → AreTold stores x ahead beyond behind these h → AreTold stores x ahead beyond behind those h
told_as stores x ahead beyond behind these those h s k = subst (λ (t : List (Entry Sym)). AreTold stores x ahead beyond behind t h) s k

-- one more entry
offered_more : (h : ℕ) (olds : List StoreState) (past : HistoryState) (xs : List (Entry Sym)) (x : Entry Sym) (after : List (Entry Sym))
    (news : List StoreState) (now : HistoryState)
    (next : List StoreState) (put : HistoryState) (ahead : List (Entry Sym)) (beyond : ℕ) (behind : Bool) → AreOfferedAll h (x ∷ after) olds past xs news now → AreTold news x ahead beyond behind after h → HasPut now x put → AreSameStores news next
    → AreOffered news put x (date_after h after) ahead beyond behind next → AreOfferedAll h after olds past (xs ++ x ∷ []) next put
offered_more h olds past [] x after news now next put ahead beyond behind o a p s k = (
  next,
  put,
  ahead,
  beyond,
  behind,
  subst (λ (t : List StoreState). AreTold t x ahead beyond behind after h) o.0 a,
  subst (λ (t : HistoryState). HasPut t x put) o.1 p,
  subst (λ (t : List StoreState). AreSameStores t next) o.0 s,
  subst (λ (t : List StoreState). AreOffered t put x (date_after h after) ahead beyond behind next) o.0 k,
  (refl, refl),
)
offered_more h olds past (y ∷ xs) x after news now next put ahead beyond behind o a p s k = (
  o.0,
  o.1,
  o.2,
  o.3,
  o.4,
  told_as olds y o.2 o.3 o.4 (xs ++ x ∷ after) ((xs ++ x ∷ []) ++ after) h (sym (append_assoc xs (x ∷ []) after)) o.5,
  o.6,
  o.7,
  subst (λ (t : List (Entry Sym)). AreOffered olds o.1 y (date_after h t) o.2 o.3 o.4 o.0) (sym (append_assoc xs (x ∷ []) after)) o.8,
  offered_more h o.0 o.1 xs x after news now next put ahead beyond behind o.9 a p s k,
)

abbrev pub IsSmall : Entry Sym → Type 0
IsSmall x = x.date < 2 ^ 40

-- what is known while entries are settled behind which others wait
pub record AreSettledSoFar (olds : List StoreState) (past : HistoryState) (due waiting : List (Entry Sym)) (h : ℕ) (news : List StoreState) (now : HistoryState) (rest : List (Entry Sym)) : Type 0 where
  pub same : AreSameStores olds news
  pub small : AllByRecursion IsSmall rest
  pub before : AllByRecursion (λ x. x.date < h) rest
  pub done : List (Entry Sym)
  pub parted : due ≡ done ++ rest
  pub kept : now.entries ≡ past.entries ++ done
  pub order : IsInKeyOrder (now.entries ++ (rest ++ waiting))
  pub floor : now.floor ≡ past.floor
  pub late : AllByRecursion (λ x. past.floor ≤ℤ pos x.date) rest
  pub offered : AreOfferedAll h (rest ++ waiting) olds past done news now

-- what is known besides of their order: they are in that of the ranks where that was seen
pub record AreRankedSoFar (ranks : List ℕ) (seen : Bool) (waiting : List (Entry Sym)) (news : List StoreState) (rest : List (Entry Sym)) : Type 0 where
  pub stores : AllByRecursion (HasRanks ranks) news
  pub order : seen ≡ true → AreInOrder ranks rest
  pub apart : AreApart rest waiting

pub ranked_more : (ranks : List ℕ) (seen : Bool) (waiting : List (Entry Sym)) (news next : List StoreState) (rest : List (Entry Sym)) (x : Entry Sym) (after : List (Entry Sym)) → rest ≡ x ∷ after → AreSameStores news next → AreRankedSoFar ranks seen waiting news rest → AreRankedSoFar ranks seen waiting next after
ranked_more ranks seen waiting news next rest x after cut same so = record {
  stores = ranked_on ranks news next same so.stores;
  order = λ e. (subst (AreInOrder ranks) cut (so.order e)).1;
  apart = λ y z i j. so.apart y z (subst (IsIn y) (sym cut) (inr i)) j;
}

pub settled_none : (olds : List StoreState) (past : HistoryState) (due waiting : List (Entry Sym)) (h : ℕ) → AllByRecursion IsSmall due → AllByRecursion (λ x. x.date < h) due → IsInKeyOrder (past.entries ++ (due ++ waiting))
    → AllByRecursion (λ x. past.floor ≤ℤ pos x.date) due → AreSettledSoFar olds past due waiting h olds past due
settled_none olds past due waiting h small before order late = record {
  same = same_all olds;
  small = small;
  before = before;
  done = [];
  parted = refl;
  kept = sym (append-nil past.entries);
  order = order;
  floor = refl;
  late = late;
  offered = (refl, refl);
}

-- ---- the date up to which all is judged

first_later : (h : ℕ) (x : Entry Sym) (es : List (Entry Sym)) → x.date < h → AllByRecursion (λ y. entry_cmp x y ≡ Less) es
    → x.date ≤ date_after h es
first_later h x [] l all = omega arith
first_later h x (y ∷ es) l all = let d : x.date ≤ y.date = date_of_less x y all.0 in omega arith

pub date_within : (h : ℕ) (es : List (Entry Sym)) → date_after h es ≤ h
date_within h [] = omega arith
date_within h (y ∷ es) = omega arith

-- ---- the entries that come next

-- what is made of an empty list
pub none_mapped : {A B : Type 0} (f : A → B) (xs : List A) → length xs ≡ 0 → map f xs ≡ []
none_mapped f [] e = refl
none_mapped f (x ∷ xs) e = absurd (omega (arith, e))

-- what is made of a list that is cut at a place
pub map_parted : {A B : Type 0} (f : A → B) (xs front back : List A) (n : ℕ) → front ≡ take n xs → back ≡ drop n xs → map f xs ≡ map f front ++ map f back
map_parted f xs front back n e k = ap (map f) (sym (take-append-drop n xs) ∙ ap (λ (t : List _). take n xs ++ t) (sym k) ∙ ap (λ (t : List _). t ++ back) (sym e)) ∙ map-append f front back

first_before : (h : ℕ) (es : List (Entry Sym)) → IsInKeyOrder es → (x : Entry Sym) → IsIn x es → date_after h es ≤ x.date
first_before h [] o x i = absurd i
first_before h (y ∷ es) o x (inl s) = subst (λ (t : Entry Sym). min y.date h ≤ t.date) (sym s) (omega arith)
first_before h (y ∷ es) o x (inr i) = let d : y.date ≤ x.date = date_of_less y x (in_from_each (λ z. entry_cmp y z ≡ Less) es o.0 x i) in omega arith

-- those of a list up to a place are ahead of the others
parted_ahead : (h : ℕ) (after ahead others : List (Entry Sym)) → IsInKeyOrder after → after ≡ ahead ++ others → AreAhead ahead (date_after h others) after h
parted_ahead h after ahead others order parted = record {
  each = λ x i. elim (in_append ahead others x (subst (IsIn x) parted i)) [
    | inl a ↦ inl a
    | inr b ↦ inr (first_before h others (ordered_right (λ a b. entry_cmp a b ≡ Less) ahead others (subst IsInKeyOrder parted order)) x b)
  ];
  within = date_within h others;
}

-- ---- one entry more

module _ (olds : List StoreState) (past : HistoryState) (due waiting : List (Entry Sym)) (h : ℕ) (news : List StoreState) (now : HistoryState) (rest : List (Entry Sym)) (so : AreSettledSoFar olds past due waiting h news now rest) where
  module _ (x : Entry Sym) (after : List (Entry Sym)) (cut : rest ≡ x ∷ after) where
    parted_more : due ≡ (so.done ++ x ∷ []) ++ after
    parted_more = so.parted ∙ ap (λ (t : List (Entry Sym)). so.done ++ t) cut ∙ sym (append_assoc so.done (x ∷ []) after)

    -- what comes behind the entry
    abbrev behind : List (Entry Sym)
    behind = after ++ waiting

    order_cut : IsInKeyOrder (now.entries ++ x ∷ behind)
    order_cut = subst (λ (t : List (Entry Sym)). IsInKeyOrder (now.entries ++ (t ++ waiting))) cut so.order

    order_here : IsInKeyOrder (x ∷ behind)
    order_here = ordered_right (λ a b. entry_cmp a b ≡ Less) now.entries (x ∷ behind) order_cut

    pub order_after : IsInKeyOrder (after ++ waiting)
    order_after = order_here.1

    pub before_after : AllByRecursion (λ x. x.date < h) after
    before_after = (subst (AllByRecursion (λ x. x.date < h)) cut so.before).1

    -- the entry comes after the history
    pub comes_last : (y : Entry Sym) → y ≡ x → IsAfterAll now.entries y
    comes_last y s = subst (IsAfterAll now.entries) (sym s) (each_from_in (λ d. entry_cmp d x ≡ Less) now.entries (λ d i. ordered_cross (λ a b. entry_cmp a b ≡ Less) now.entries (x ∷ behind) order_cut d x i (inl refl)))

    -- the entry isn't before the floor
    pub not_early : (y : Entry Sym) → y ≡ x → now.floor ≤ℤ pos y.date
    not_early y s = let l = (subst (AllByRecursion (λ y. past.floor ≤ℤ pos y.date)) cut so.late).0 in let f = so.floor in let d = ap (λ (e : Entry Sym). e.date) s in omega (arith, ints, f, d)

    pub is_small : x.date < 2 ^ 40
    is_small = (subst (AllByRecursion IsSmall) cut so.small).0

    -- what is judged once the entry is offered is judged at no date before it
    pub judged_later : (until : ℕ) → until ≡ date_after h (after ++ waiting) → x.date ≤ until
    judged_later until u = let l = first_later h x behind (subst (AllByRecursion (λ x. x.date < h)) cut so.before).0 order_here.0 in omega (arith, u, l)

    module _ (pushed : HistoryState) (y : Entry Sym) (same_entry : y ≡ x) (is : pushed ≡ record { entries = now.entries ++ y ∷ []; floor = now.floor }) where
      entries_are : pushed.entries ≡ now.entries ++ x ∷ []
      entries_are = ap (λ (t : HistoryState). t.entries) is ∙ ap (λ (t : Entry Sym). now.entries ++ t ∷ []) same_entry

      pub ends_with : (z : Entry Sym) → z ≡ x → EndsWith z pushed.entries
      ends_with z s = (now.entries, entries_are ∙ ap (λ (t : Entry Sym). now.entries ++ t ∷ []) (sym s))

      kept_more : pushed.entries ≡ past.entries ++ (so.done ++ x ∷ [])
      kept_more = entries_are ∙ ap (λ (t : List (Entry Sym)). t ++ x ∷ []) so.kept ∙ append_assoc past.entries so.done (x ∷ [])

      floor_with : pushed.floor ≡ past.floor
      floor_with = ap (λ (t : HistoryState). t.floor) is ∙ so.floor

      pub put_more : ArePut past due pushed
      put_more = (so.done ++ x ∷ [], after, parted_more, kept_more, floor_with)

      module _ (stands_on : (es : List (Entry Sym)) → StandsFor es now → StandsFor (es ++ y ∷ []) pushed) where
        put_last : HasPut now x pushed
        put_last = record {
          floor = ap (λ (t : HistoryState). t.floor) is;
          stands = λ es k. subst (λ (t : Entry Sym). StandsFor (es ++ t ∷ []) pushed) same_entry (stands_on es k);
        }

        pub settled_on : (next : List StoreState) → AreSameStores news next → (until : ℕ) → until ≡ date_after h (after ++ waiting) → (ahead : List (Entry Sym)) (beyond : ℕ) (behind : Bool) → AreTold news x ahead beyond behind (after ++ waiting) h
            → AreOffered news pushed x until ahead beyond behind next
            → AreSettledSoFar olds past due waiting h next pushed after
        settled_on next same until u ahead beyond told coming offered = record {
          same = same_on olds news next so.same same;
          small = (subst (AllByRecursion IsSmall) cut so.small).1;
          before = before_after;
          done = so.done ++ x ∷ [];
          parted = parted_more;
          kept = kept_more;
          order = subst IsInKeyOrder (sym (ap (λ (t : List (Entry Sym)). t ++ behind) entries_are ∙ append_assoc now.entries (x ∷ []) behind)) order_cut;
          floor = floor_with;
          late = (subst (AllByRecursion (λ y. past.floor ≤ℤ pos y.date)) cut so.late).1;
          offered = offered_more h olds past so.done x behind news now next pushed ahead beyond told (subst (λ (t : List (Entry Sym)). AreOfferedAll h (t ++ waiting) olds past so.done news now) cut so.offered) coming put_last same
              (subst (λ (n : ℕ). AreOffered news pushed x n ahead beyond told next) u offered);
        }

-- ---- what is due

-- an entry comes out where it is the first, and dated before h
came_out : (es : List (Entry Sym)) (h : ℕ) (x : Entry Sym) → released es h ≡ Some x → (es ≡ x ∷ left es h) × (x.date < h)
came_out [] h x e = absurd cc
came_out (y ∷ es) h x e = by (nat_lt y.date h) refl e
  where
    by : (b : Bool) → nat_lt y.date h ≡ b → cond b (Some y) None ≡ Some x → (y ∷ es ≡ x ∷ cond b es (y ∷ es)) × (x.date < h)
    by true t e = let s : y ≡ x = cc in (ap (λ (z : Entry Sym). z ∷ es) s, subst (λ (z : Entry Sym). z.date < h) s (ltb-true y.date h t))
    by false t e = absurd cc

-- the first entry comes out
pub first_taken : (h : ℕ) (held after : List (Entry Sym)) (x : Entry Sym) → released held h ≡ Some x → after ≡ left held h → (held ≡ x ∷ after) × (x.date < h)
first_taken h held after x e r =
    let out = came_out held h x e in
    (out.0 ∙ ap (λ (t : List (Entry Sym)). x ∷ t) (sym r), out.1)

-- what was taken out so far, behind the first entry
pub record AreTakenSoFar (h : ℕ) (taken : List (Entry Sym)) (x : Entry Sym) (held rest : List (Entry Sym)) : Type 0 where
  pub taken_out : AreTaken h taken (x ∷ held) rest
  pub rest_of : IsRestOf held rest

pub rest_on : (xs ys zs : List (Entry Sym)) → IsRestOf xs ys → IsRestOf ys zs → IsRestOf xs zs
rest_on xs ys zs a b = (a.0 ++ b.0, a.1 ∙ ap (λ (t : List (Entry Sym)). a.0 ++ t) b.1 ∙ sym (append_assoc a.0 b.0 zs))

pub rest_behind : (x : Entry Sym) (held rest : List (Entry Sym)) → IsRestOf held rest → IsRestOf (x ∷ held) rest
rest_behind x held rest r = (x ∷ r.0, ap (λ (t : List (Entry Sym)). x ∷ t) r.1)

pub rest_first : (h : ℕ) (held after : List (Entry Sym)) (x : Entry Sym) → released held h ≡ Some x → after ≡ left held h → IsRestOf held after
rest_first h held after x e r = (x ∷ [], (first_taken h held after x e r).0)

-- a piece so far, whose last entry has the date: what is left is dated no earlier, in key order
pub record AreInPiece (h date : ℕ) (taken : List (Entry Sym)) (x : Entry Sym) (held rest : List (Entry Sym)) : Type 0 where
  pub so : AreTakenSoFar h taken x held rest
  pub early : AllByRecursion (λ z. z.date ≤ date) taken
  pub later : AllByRecursion (λ z. date ≤ z.date) rest
  pub order : IsInKeyOrder rest
  pub near : date < h

-- those behind an entry are dated no earlier
after_first : (x : Entry Sym) (rest : List (Entry Sym)) → IsInKeyOrder (x ∷ rest) → AllByRecursion (λ z. x.date ≤ z.date) rest
after_first x rest order = all_each {P = λ z. entry_cmp x z ≡ Less} rest (λ z l. date_of_less x z l) order.0

pub piece_first : (h : ℕ) (x : Entry Sym) (held taken : List (Entry Sym)) → taken ≡ x ∷ [] → IsInKeyOrder (x ∷ held) → x.date < h → AreInPiece h x.date taken x held held
piece_first h x held taken one order l = rw one (record {
  so = record { taken_out = record { parted = refl; before = (l, tt) }; rest_of = ([], refl) };
  early = (omega arith, tt);
  later = after_first x held order;
  order = order.1;
  near = l;
})

-- one more is out
pub rest_more : (n : ℕ) (x : Entry Sym) (held rest after : List (Entry Sym)) (y : Entry Sym) → IsRestOf held rest → released rest n ≡ Some y → after ≡ left rest n → IsRestOf held after
rest_more n x held rest after y so e r = rest_on held rest after so (rest_first n rest after y e r)

pub piece_next : (h date n : ℕ) (taken next : List (Entry Sym)) (x : Entry Sym) (held rest after : List (Entry Sym)) (y : Entry Sym) → AreInPiece h date taken x held rest → n ≤ h → released rest n ≡ Some y → after ≡ left rest n → next ≡ taken ++ y ∷ [] → AreInPiece h y.date next x held after
piece_next h date n taken next x held rest after y p w e r is =
    let out = first_taken n rest after y e r in
    let here = out.1 in
    let later : AllByRecursion (λ z. date ≤ z.date) (y ∷ after) = subst (AllByRecursion (λ z. date ≤ z.date)) out.0 p.later in
    let order : IsInKeyOrder (y ∷ after) = subst IsInKeyOrder out.0 p.order in
    let on = later.0 in
    rw is (record {
      so = record {
        taken_out = record {
          parted = ((p.so).taken_out).parted ∙ ap (λ (t : List (Entry Sym)). taken ++ t) out.0 ∙ sym (append_assoc taken (y ∷ []) after);
          before = all_put (λ z. z.date < h) taken y ((p.so).taken_out).before (omega arith);
        };
        rest_of = rest_more n x held rest after y (p.so).rest_of e r;
      };
      early = all_put (λ z. z.date ≤ y.date) taken y (all_each {P = λ z. z.date ≤ date} taken (λ z k. omega arith) p.early) (omega arith);
      later = after_first y after order;
      order = order.1;
      near = omega arith;
    })

-- where none is left up to a later date, the piece is apart from what is left
pub piece_apart : (h date n : ℕ) (taken : List (Entry Sym)) (x : Entry Sym) (held rest : List (Entry Sym)) → AreInPiece h date taken x held rest → date < n → AllByRecursion (λ z. n ≤ z.date) rest → AreApart taken rest
piece_apart h date n taken x held rest p l none y z i j =
    let a = in_from_each (λ w. w.date ≤ date) taken p.early y i in
    let b = in_from_each (λ w. n ≤ w.date) rest none z j in omega arith

-- nothing comes out where none is due
pub left_none : (h : ℕ) (es : List (Entry Sym)) → AllByRecursion (λ x. h ≤ x.date) es → left es h ≡ es
left_none h [] k = refl
left_none h (e ∷ es) k = ap (λ (b : Bool). cond b es (e ∷ es)) (le-ltb e.date h k.0)

-- the history stays in order before what waits
pub in_order_put : (past now : HistoryState) (done waiting : List (Entry Sym)) (put : ArePut past done now) → IsInKeyOrder (past.entries ++ (done ++ waiting)) → IsInKeyOrder (now.entries ++ waiting)
in_order_put past now done waiting put order =
    let parted : past.entries ++ (done ++ waiting) ≡ (past.entries ++ put.0) ++ (put.1 ++ waiting) = ap (λ (t : List (Entry Sym)). past.entries ++ (t ++ waiting)) put.2 ∙ ap (λ (t : List (Entry Sym)). past.entries ++ t) (append_assoc put.0 put.1 waiting) ∙ sym (append_assoc past.entries put.0 (put.1 ++ waiting)) in
    subst (λ (t : List (Entry Sym)). IsInKeyOrder (t ++ waiting)) (sym put.3)
    (ordered_without (λ a b. entry_cmp a b ≡ Less) (past.entries ++ put.0) put.1 waiting (subst IsInKeyOrder parted order))

-- without what was taken out
pub in_order_rest : (past : HistoryState) (held rest : List (Entry Sym)) (r : IsRestOf held rest) → IsInKeyOrder (past.entries ++ held) → IsInKeyOrder (past.entries ++ rest)
in_order_rest past held rest r order = ordered_without (λ a b. entry_cmp a b ≡ Less) past.entries r.0 rest (subst (λ (t : List (Entry Sym)). IsInKeyOrder (past.entries ++ t)) r.1 order)

pub each_taken : (P : Entry Sym → Type 0) (h : ℕ) (taken held rest : List (Entry Sym)) → AreTaken h taken held rest → AllByRecursion P held → AllByRecursion P taken
each_taken P h taken held rest t all = all_left P taken rest (subst (AllByRecursion P) t.parted all)

-- ---- the date behind a piece

-- dates that are told are within their limit
pub after_within : (h : ℕ) (es : List (Entry Sym)) (d : ℕ) → d ≡ date_after h es → h ≤ 2 ^ 42 → d ≤ 2 ^ 42
after_within h es d is small = subst (λ (k : ℕ). k ≤ 2 ^ 42) (sym is) (let w : date_after h es ≤ h = date_within h es in omega (arith, small))

pub date_joined : (h : ℕ) (xs ys : List (Entry Sym)) → AllByRecursion (λ x. x.date < h) xs → IsInKeyOrder (xs ++ ys) → (next : ℕ) → next ≡ date_after h ys → date_after next xs ≡ date_after h (xs ++ ys)
date_joined h [] ys before order next n = n
date_joined h (x ∷ xs) ys before order next n =
    let l = first_later h x ys before.0 (all_right (λ y. entry_cmp x y ≡ Less) xs ys order.0) in
    let d = before.0 in
    omega (arith, n, l, d)

-- of a piece, those up to a place are ahead of all others
pub parted_behind : (h : ℕ) (after ahead others waiting : List (Entry Sym)) → IsInKeyOrder (after ++ waiting) → AllByRecursion (λ x. x.date < h) after → after ≡ ahead ++ others → (next : ℕ) → next ≡ date_after h waiting → (beyond : ℕ) → beyond ≡ date_after next others
    → AreAhead ahead beyond (after ++ waiting) h
parted_behind h after ahead others waiting order before parted next n beyond b =
    let regrouped : after ++ waiting ≡ ahead ++ (others ++ waiting) = ap (λ (t : List (Entry Sym)). t ++ waiting) parted ∙ append_assoc ahead others waiting in
    let order_others : IsInKeyOrder (others ++ waiting) = ordered_right (λ a b. entry_cmp a b ≡ Less) ahead (others ++ waiting) (subst IsInKeyOrder regrouped order) in
    let before_others : AllByRecursion (λ x. x.date < h) others = all_right (λ x. x.date < h) ahead others (subst (AllByRecursion (λ x. x.date < h)) parted before) in
    subst (λ (m : ℕ). AreAhead ahead m (after ++ waiting) h) (sym (b ∙ date_joined h others waiting before_others order_others next n))
    (parted_ahead h (after ++ waiting) ahead (others ++ waiting) order regrouped)

-- ---- in the order of ranks

behind_on : (ranks : List ℕ) (x y z : Entry Sym) → IsBehind ranks x y → IsBehind ranks y z → IsBehind ranks x z
behind_on ranks x y z (inl a) (inl b) = inl (omega arith)
behind_on ranks x y z (inl a) (inr b) = inl (let q = b.0 in omega arith)
behind_on ranks x y z (inr a) (inl b) = inl (let q = a.0 in omega arith)
behind_on ranks x y z (inr a) (inr b) = inr (a.0 ∙ b.0, let p = a.1 in let q = b.1 in omega arith)

-- where the first is behind none of the others, and they are in order, so are all
in_order_first : (ranks : List ℕ) (x y : Entry Sym) (rest : List (Entry Sym)) → IsBehind ranks x y → AreInOrder ranks (y ∷ rest) → AreInOrder ranks (x ∷ y ∷ rest)
in_order_first ranks x y rest b order = ((b, all_each {P = IsBehind ranks y} rest (λ z k. behind_on ranks x y z b k) order.0), order)

pub in_order_more : (ranks : List ℕ) (x : Entry Sym) (rest : List (Entry Sym)) → IsFirstBehind ranks x rest → AreInOrder ranks rest → AreInOrder ranks (x ∷ rest)
in_order_more ranks x [] b order = (tt, tt)
in_order_more ranks x (y ∷ ys) b order = in_order_first ranks x y ys b order

-- an entry of a piece that is in order, which the others are behind by their dates, is before all that come later
pub piece_behind : (ranks : List ℕ) (x : Entry Sym) (after waiting : List (Entry Sym)) (h : ℕ) → AreInOrder ranks (x ∷ after) → ((y : Entry Sym) → IsIn y waiting → x.date < y.date) → x.date < h → AreBehind ranks x (after ++ waiting) h
piece_behind ranks x after waiting h order apart l = record {
  each = λ y i. elim (in_append after waiting y i) [
    | inl a ↦ in_from_each (IsBehind ranks x) after order.0 y a
    | inr b ↦ inl (apart y b)
  ];
  within = l;
}

-- what the stores are told of those behind the first of a piece
pub told_of : (ranks : List ℕ) (seen : Bool) (waiting : List (Entry Sym)) (news : List StoreState) (rest : List (Entry Sym)) (x : Entry Sym) (after : List (Entry Sym)) (h : ℕ) (ahead : List (Entry Sym)) (beyond : ℕ) → rest ≡ x ∷ after → x.date < h → AreRankedSoFar ranks seen waiting news rest → AreAhead ahead beyond (after ++ waiting) h
    → AreTold news x ahead beyond seen (after ++ waiting) h
told_of ranks seen waiting news rest x after h ahead beyond cut l so coming = record {
  coming = coming;
  after = λ e. behind_all ranks x (after ++ waiting) h news so.stores (piece_behind ranks x after waiting h (subst (AreInOrder ranks) cut (so.order e)) (λ y i. so.apart x y (subst (IsIn x) (sym cut) (inl refl)) i) l);
}

-- ---- piece by piece

-- what a second piece does, behind the first
offered_on : (h : ℕ) (xs ys rest : List (Entry Sym)) (olds mid news : List StoreState) (past put now : HistoryState) → AreOfferedAll h (ys ++ rest) olds past xs mid put → AreOfferedAll h rest mid put ys news now → AreOfferedAll h rest olds past (xs ++ ys) news now
offered_on h [] ys rest olds mid news past put now first second =
    subst (λ (t : List StoreState). AreOfferedAll h rest t past ys news now) first.0 (subst (λ (t : HistoryState). AreOfferedAll h rest mid t ys news now) first.1 second)
offered_on h (x ∷ xs) ys rest olds mid news past put now first second = (
  first.0,
  first.1,
  first.2,
  first.3,
  first.4,
  told_as olds x first.2 first.3 first.4 (xs ++ (ys ++ rest)) ((xs ++ ys) ++ rest) h (sym (append_assoc xs ys rest)) first.5,
  first.6,
  first.7,
  subst (λ (t : List (Entry Sym)). AreOffered olds first.1 x (date_after h t) first.2 first.3 first.4 first.0) (sym (append_assoc xs ys rest)) first.8,
  offered_on h xs ys rest first.0 mid news first.1 put now first.9 second,
)

-- what isn't due is as if it didn't come
date_without : (h : ℕ) (xs rest : List (Entry Sym)) → AllByRecursion (λ x. h ≤ x.date) rest → date_after h (xs ++ rest) ≡ date_after h (xs ++ [])
date_without h [] [] after = refl
date_without h [] (r ∷ rest) after = let l = after.0 in omega (arith, l)
date_without h (x ∷ xs) rest after = refl

behind_without : (ranks : List ℕ) (x : Entry Sym) (xs rest : List (Entry Sym)) (h : ℕ) → AreBehind ranks x (xs ++ rest) h → AreBehind ranks x (xs ++ []) h
behind_without ranks x xs rest h a = record {
  each = λ y i. a.each y (in_append_left xs rest y (subst (IsIn y) (append-nil xs) i));
  within = a.within;
}

told_without : (stores : List StoreState) (x : Entry Sym) (ahead : List (Entry Sym)) (beyond : ℕ) (behind : Bool) (xs rest : List (Entry Sym)) (h : ℕ) → AreTold stores x ahead beyond behind (xs ++ rest) h → AreTold stores x ahead beyond behind (xs ++ []) h
told_without stores x ahead beyond seen xs rest h a = record {
  coming = record {
    each = λ y i. (a.coming).each y (in_append_left xs rest y (subst (IsIn y) (append-nil xs) i));
    within = (a.coming).within;
  };
  after = λ b. all_each {P = λ s. AreBehind s.ranks x (xs ++ rest) h} stores (λ s k. behind_without s.ranks x xs rest h k) (a.after b);
}

pub offered_without : (h : ℕ) (xs rest : List (Entry Sym)) (olds news : List StoreState) (past now : HistoryState) → AllByRecursion (λ x. h ≤ x.date) rest → AreOfferedAll h rest olds past xs news now → AreOfferedAll h [] olds past xs news now
offered_without h [] rest olds news past now after o = o
offered_without h (x ∷ xs) rest olds news past now after o = (
  o.0,
  o.1,
  o.2,
  o.3,
  o.4,
  told_without olds x o.2 o.3 o.4 xs rest h o.5,
  o.6,
  o.7,
  subst (λ (n : ℕ). AreOffered olds o.1 x n o.2 o.3 o.4 o.0) (date_without h xs rest after) o.8,
  offered_without h xs rest o.0 news o.1 now after o.9,
)

-- what is known between two pieces
pub record AreSettledByPieces (olds : List StoreState) (past : HistoryState) (held : List (Entry Sym)) (h : ℕ) (news : List StoreState) (now : HistoryState) (rest : List (Entry Sym)) : Type 0 where
  pub part : AreSettled olds past held h news now rest
  pub order : IsInKeyOrder (now.entries ++ rest)
  pub floor : now.floor ≡ past.floor

pub pieces_none : (olds : List StoreState) (past : HistoryState) (held : List (Entry Sym)) (h : ℕ) → IsInKeyOrder (past.entries ++ held) → AreSettledByPieces olds past held h olds past held
pieces_none olds past held h order = record {
  part = record { same = same_all olds; done = []; taken = record { parted = refl; before = tt }; kept = sym (append-nil past.entries); offered = (refl, refl) };
  order = order;
  floor = refl;
}

module _ (olds mid news : List StoreState) (past put now : HistoryState) (held : List (Entry Sym)) (h : ℕ) (between rest : List (Entry Sym)) (so : AreSettledByPieces olds past held h mid put between) (piece : AreSettled mid put between h news now rest) where
  abbrev done_on : List (Entry Sym)
  done_on = (so.part).done ++ piece.done

  taken_on : AreTaken h done_on held rest
  taken_on = record {
    parted = ((so.part).taken).parted ∙ ap (λ (t : List (Entry Sym)). (so.part).done ++ t) (piece.taken).parted ∙ sym (append_assoc (so.part).done piece.done rest);
    before = all_append (λ x. x.date < h) (so.part).done piece.done ((so.part).taken).before (piece.taken).before;
  }

  pub piece_more : IsInKeyOrder (now.entries ++ rest) → now.floor ≡ put.floor → AreSettledByPieces olds past held h news now rest
  piece_more order floor = record {
    part = record {
      same = same_on olds mid news (so.part).same piece.same;
      done = done_on;
      taken = taken_on;
      kept = piece.kept ∙ ap (λ (t : List (Entry Sym)). t ++ piece.done) (so.part).kept ∙ append_assoc past.entries (so.part).done piece.done;
      offered = offered_on h (so.part).done piece.done rest olds mid news past put now (subst (λ (t : List (Entry Sym)). AreOfferedAll h t olds past (so.part).done mid put) (piece.taken).parted (so.part).offered) piece.offered;
    };
    order = order;
    floor = floor ∙ so.floor;
  }

-- once none is due any more
pub settled_at_end : (olds news : List StoreState) (past now : HistoryState) (held : List (Entry Sym)) (h : ℕ) (rest after : List (Entry Sym)) → AreSettledByPieces olds past held h news now rest → AllByRecursion (λ x. h ≤ x.date) rest → after ≡ left rest h
    → AreSettled olds past held h news now after × AllByRecursion (λ x. h ≤ x.date) after
settled_at_end olds news past now held h rest after so none r =
    subst (λ (t : List (Entry Sym)). AreSettled olds past held h news now t × AllByRecursion (λ x. h ≤ x.date) t) (sym (r ∙ left_none h rest none)) (so.part, none)

pub rest_at_end : (olds news : List StoreState) (past now : HistoryState) (held : List (Entry Sym)) (h : ℕ) (rest after : List (Entry Sym)) → AreSettledByPieces olds past held h news now rest → IsRestOf rest after → IsRestOf held after
rest_at_end olds news past now held h rest after so r = rest_on held rest after ((so.part).done, ((so.part).taken).parted) r

-- what holds of all that was held holds of what waits behind some of it
pub each_waiting : (P : Entry Sym → Type 0) (olds news : List StoreState) (past now : HistoryState) (held : List (Entry Sym)) (h : ℕ) (rest : List (Entry Sym)) → AreSettledByPieces olds past held h news now rest → AllByRecursion P held → AllByRecursion P rest
each_waiting P olds news past now held h rest so all = all_right P (so.part).done rest (subst (AllByRecursion P) ((so.part).taken).parted all)

pub each_late : (olds news : List StoreState) (past now : HistoryState) (held : List (Entry Sym)) (h : ℕ) (rest : List (Entry Sym)) → AreSettledByPieces olds past held h news now rest → AllByRecursion (λ x. past.floor ≤ℤ pos x.date) held → AllByRecursion (λ x. now.floor ≤ℤ pos x.date) rest
each_late olds news past now held h rest so all = subst (λ (z : ℤ). AllByRecursion (λ x. z ≤ℤ pos x.date) rest) (sym so.floor) (each_waiting (λ x. past.floor ≤ℤ pos x.date) olds news past now held h rest so all)

-- ---- what comes to the pools

-- what was taken out of the buffer so far, and what is left there
pub record AreTakenOut (held taken rest : List (Entry Sym)) : Type 0 where
  pub parted : held ≡ taken ++ rest
  pub small : AllByRecursion IsSmall rest

pub out_none : (held taken : List (Entry Sym)) → taken ≡ [] → AllByRecursion IsSmall held → AreTakenOut held taken held
out_none held taken none small = record { parted = ap (λ (t : List (Entry Sym)). t ++ held) (sym none); small = small }

module _ (held taken rest : List (Entry Sym)) (so : AreTakenOut held taken rest) (h : ℕ) where
  pub out_more : (x : Entry Sym) (after next : List (Entry Sym)) → released rest h ≡ Some x → after ≡ left rest h → next ≡ taken ++ x ∷ [] → AreTakenOut held next after
  out_more x after next e r n =
      let out = first_taken h rest after x e r in
      record {
        parted = so.parted ∙ ap (λ (t : List (Entry Sym)). taken ++ t) out.0 ∙ sym (append_assoc taken (x ∷ []) after) ∙ ap (λ (t : List (Entry Sym)). t ++ after) (sym n);
        small = (subst (AllByRecursion IsSmall) out.0 so.small).1;
      }

  none_left : (xs : List (Entry Sym)) → 2 ^ 40 ≤ h → AllByRecursion IsSmall xs → AllByRecursion (λ x. h ≤ x.date) xs → xs ≡ []
  none_left [] l a b = refl
  none_left (x ∷ xs) l a b = let s = a.0 in let t = b.0 in absurd (omega arith)

  -- none is left where none is dated before a date that is after all
  pub out_whole : 2 ^ 40 ≤ h → AllByRecursion (λ x. h ≤ x.date) rest → taken ≡ held
  out_whole l none = sym (so.parted ∙ ap (λ (t : List (Entry Sym)). taken ++ t) (none_left rest l so.small none) ∙ append-nil taken)

  pub out_all : 2 ^ 40 ≤ h → AllByRecursion (λ x. h ≤ x.date) rest → (after : List (Entry Sym)) → after ≡ left rest h → after ≡ []
  out_all l none after r = r ∙ left_none h rest none ∙ none_left rest l so.small none

-- what is known while those accepted since the last mark come to the pools: what is shown of those that are left is shown of all
pub record AreGivenSoFar (olds : List StoreState) (history : HistoryState) (due : List (Entry Sym)) (h : ℕ) (news : List StoreState) (rest : List (Entry Sym)) : Type 0 where
  pub same : AreSameStores olds news
  pub small : AllByRecursion IsSmall rest
  pub order : IsInKeyOrder rest
  pub shown : (last : List StoreState) → AreGivenFresh h history rest news last → AreGivenFresh h history due olds last

pub given_none : (olds : List StoreState) (history : HistoryState) (due : List (Entry Sym)) (h : ℕ) → AllByRecursion IsSmall due → IsInKeyOrder due → AreGivenSoFar olds history due h olds due
given_none olds history due h small order = record { same = same_all olds; small = small; order = order; shown = λ last k. k }

module _ (olds : List StoreState) (history : HistoryState) (due : List (Entry Sym)) (h : ℕ) (mid : List StoreState) (rest : List (Entry Sym)) (so : AreGivenSoFar olds history due h mid rest) where
  module _ (x : Entry Sym) (after : List (Entry Sym)) (cut : rest ≡ x ∷ after) where
    small_now : AllByRecursion IsSmall (x ∷ after)
    small_now = subst (AllByRecursion IsSmall) cut so.small

    order_now : IsInKeyOrder (x ∷ after)
    order_now = subst IsInKeyOrder cut so.order

    pub first_small : x.date < 2 ^ 40
    first_small = small_now.0

    pub given_more : (ahead others : List (Entry Sym)) (beyond : ℕ) → after ≡ ahead ++ others → beyond ≡ date_after h others → (news : List StoreState) → AreSameStores mid news → AreGivenOne mid history x ahead beyond news → AreGivenSoFar olds history due h news after
    given_more ahead others beyond parted b news same one = record {
      same = same_on olds mid news so.same same;
      small = small_now.1;
      order = order_now.1;
      shown = λ last k. so.shown last (subst (λ (t : List (Entry Sym)). AreGivenFresh h history t mid last) (sym cut) (news, ahead, beyond, subst (λ (d : ℕ). AreAhead ahead d after h) (sym b) (parted_ahead h after ahead others order_now.1 parted), one, k));
    }

  pub given_whole : rest ≡ [] → AreGivenFresh h history due olds mid
  given_whole none = so.shown mid (subst (λ (t : List (Entry Sym)). AreGivenFresh h history t mid mid) (sym none) refl)

-- where none came, nothing is given
pub given_nothing : (history : HistoryState) (h : ℕ) (fresh : List (Entry Sym)) (stores : List StoreState) → fresh ≡ [] → AreGivenFresh h history fresh stores stores
given_nothing history h fresh stores none = subst (λ (t : List (Entry Sym)). AreGivenFresh h history t stores stores) (sym none) refl

-- a date that is told isn't after the horizon
pub told_near : (h beyond : ℕ) (others : List (Entry Sym)) → beyond ≡ date_after h others → h ≤ 2 ^ 42 → beyond ≤ 2 ^ 42
told_near h beyond others b l = let w = date_within h others in omega (arith, b, w)

-- ---- lists of stores

pub same_first : (ss : List StoreState) (o n : StoreState) (rest : List StoreState) → ss ≡ o ∷ rest → IsSameStore o n → AreSameStores ss (n ∷ rest)
same_first ss o n rest e h = subst (λ (t : List StoreState). AreSameStores t (n ∷ rest)) (sym e) (h, same_all rest)

pub advanced_more : (history : HistoryState) (h : ℕ) (mark : Mark) (ss : List StoreState) (o n : StoreState) (rest news : List StoreState) (first was mid new : List Recognition) → ss ≡ o ∷ rest → mid ≡ was ++ first → IsAdvanced o history h mark n first → ((more : List Recognition) × (new ≡ mid ++ more) × AreAdvanced history h mark rest news more) →
    (x : List Recognition) × (new ≡ was ++ x) × AreAdvanced history h mark ss (n ∷ news) x
advanced_more history h mark ss o n rest news first was mid new e m adv k = (
  first ++ k.0,
  k.1 ∙ ap (λ (t : List Recognition). t ++ k.0) m ∙ append_assoc was first k.0,
  subst (λ (t : List StoreState). AreAdvanced history h mark t (n ∷ news) (first ++ k.0)) (sym e) (n, news, first, k.0, refl, refl, adv, k.2),
)
