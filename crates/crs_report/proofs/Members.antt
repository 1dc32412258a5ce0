-- Members that are told one after another.
use Rattle.std.proofs.Common.{◌≡◌, ◌∙◌, ap, sym, refl, ℕ, ◌+◌, ◌<◌, ◌≤◌, Bool, true, false, cond, List, [], ◌∷◌, ◌++◌, zero, suc, length, take, drop, set, get_or, map, arith, append_assoc, append-nil, length-append}
use Rattle.std.specs.Prelude.{not}
use Rattle.std.proofs.lemmas.Grind.{common_steps}
use Rattle.std.proofs.lemmas.List.{length-map, map-set, map-append, get_or-map, take_more, drop_more, length-drop}
use Rattle.std.proofs.lemmas.List.Elements.{filter-append}
use Rattle.std.specs.List.{remove}
use Rattle.std.proofs.Math.Seq.{get_or-append_seam, map-set_same}
use Rattle.crs_report.specs.declared.listener.Next.{Next}
use Rattle.crs_report.specs.declared.listener.Next.TheVariants.{Stay, Leave}
use Rattle.crs_report.specs.Listeners.{Notice, Member, tell_members, StoppedAt, figures_after, stays, told, next_of}

-- the first k members were told, of whom i stayed
pub record ToldTo (k i : ℕ) (r : Notice) (old now : List Member) : Type 0 where
  pub within : k ≤ length old
  pub place : i ≡ length (tell_members r (take k old))
  pub members : now ≡ tell_members r (take k old) ++ drop k old

tell_more : (r : Notice) (xs ys : List Member) → tell_members r (xs ++ ys) ≡ tell_members r xs ++ tell_members r ys
tell_more r xs ys = rw (map-append (told r) xs ys) (filter-append stays (map (told r) xs) (map (told r) ys))

one_stays : (r : Notice) (x : Member) → stays (told r x) ≡ true → tell_members r (x ∷ []) ≡ told r x ∷ []
one_stays r x s = rw s refl

one_leaves : (r : Notice) (x : Member) → stays (told r x) ≡ false → tell_members r (x ∷ []) ≡ []
one_leaves r x s = rw s refl

-- there is a next member
left_over : (k i : ℕ) (r : Notice) (old now : List Member) → ToldTo k i r old now → i < length now → k < length old
left_over k i r old now t lt = omega (arith, ap length t.members, length-append (tell_members r (take k old)) (drop k old), length-drop k old, t.place)

parts : (k i : ℕ) (r : Notice) (old now : List Member) (x : Member) → ToldTo k i r old now → i < length now → x ≡ get_or now i x
    → (k < length old) × (now ≡ tell_members r (take k old) ++ x ∷ drop (k + 1) old) × (take (k + 1) old ≡ take k old ++ x ∷ [])
parts k i r old now x t lt e =
    let a = tell_members r (take k old) in
    let lo : k < length old = left_over k i r old now t lt in
    let n : now ≡ a ++ get_or old k x ∷ drop (k + 1) old = t.members ∙ ap (λ (z : List Member). a ++ z) (drop_more old k x lo) in
    let xe : x ≡ get_or old k x = e ∙ rw (n, t.place) (get_or-append_seam a _ _ _) in
    (lo, rw (← xe) at n, rw (← xe) at (take_more old k x lo))

set_mid : {A : Type 0} (xs ys : List A) (x y : A) → set (xs ++ x ∷ ys) (length xs) y ≡ xs ++ y ∷ ys
set_mid [] ys x y = refl
set_mid (z ∷ xs) ys x y = ap (λ (t : List _). z ∷ t) (set_mid xs ys x y)

remove_mid : {A : Type 0} (xs ys : List A) (x : A) → remove (xs ++ x ∷ ys) (length xs) ≡ xs ++ ys
remove_mid [] ys x = refl
remove_mid (z ∷ xs) ys x = ap (λ (t : List _). z ∷ t) (remove_mid xs ys x)

told_stays : (k i : ℕ) (r : Notice) (old now : List Member) (x y : Member) → ToldTo k i r old now → i < length now → x ≡ get_or now i x
    → y ≡ told r x → stays y ≡ true → ToldTo (k + 1) (i + 1) r old (set now i y)
told_stays k i r old now x y t lt e ye s =
    let p = parts k i r old now x t lt e in
    let more : tell_members r (take (k + 1) old) ≡ tell_members r (take k old) ++ y ∷ [] =
    ap (tell_members r) p.2 ∙ tell_more r (take k old) (x ∷ []) ∙ ap (λ (z : List Member). tell_members r (take k old) ++ z) (one_stays r x (rw ye at s) ∙ ap (λ (z : Member). z ∷ []) (sym ye)) in
    record {
      within = omega arith;
      place = rw (more, length-append) (ap (λ (n : ℕ). n + 1) t.place);
      members = rw (more, p.1, t.place, set_mid, append_assoc) refl;
    }

told_leaves : (k i : ℕ) (r : Notice) (old now : List Member) (x y : Member) → ToldTo k i r old now → i < length now → x ≡ get_or now i x
    → y ≡ told r x → stays y ≡ false → ToldTo (k + 1) i r old (remove (set now i y) i)
told_leaves k i r old now x y t lt e ye s =
    let p = parts k i r old now x t lt e in
    let same : tell_members r (take (k + 1) old) ≡ tell_members r (take k old) =
    ap (tell_members r) p.2 ∙ tell_more r (take k old) (x ∷ []) ∙ ap (λ (z : List Member). tell_members r (take k old) ++ z) (one_leaves r x (rw ye at s)) ∙ append-nil _ in
    record {
      within = omega arith;
      place = rw same t.place;
      members = rw (same, p.1, t.place, set_mid, remove_mid) refl;
    }

told_stopped : (k i : ℕ) (r : Notice) (old now : List Member) → ToldTo k i r old now → i < length now → StoppedAt k r old now
told_stopped k i r old now t lt = record { within = left_over k i r old now t lt; members = t.members }

-- the same of members that are seen by their faces
member_stays : {B : Type 0} (face : B → Member) (olds items : List B) (k i : ℕ) (r : Notice) (b c : B)
    → ToldTo k i r (map face olds) (map face items) → i < length items → b ≡ get_or items i b
    → face c ≡ told r (face b) → stays (face c) ≡ true → ToldTo (k + 1) (i + 1) r (map face olds) (map face (set items i c))
member_stays face olds items k i r b c t lt e fe s =
    let n : i < length (map face items) = rw length-map lt in
    rw map-set (told_stays k i r (map face olds) (map face items) (face b) (face c) t n (ap face e ∙ sym (get_or-map face items i b (face b) lt)) fe s)

map-remove : {B C : Type 0} (face : B → C) (xs : List B) (i : ℕ) → map face (remove xs i) ≡ remove (map face xs) i
map-remove face [] i = grind (arith, common_steps)
map-remove face (x ∷ xs) zero = refl
map-remove face (x ∷ xs) (suc i) = ap (λ (t : List _). face x ∷ t) (map-remove face xs i)

member_leaves : {B : Type 0} (face : B → Member) (olds items : List B) (k i : ℕ) (r : Notice) (b c : B)
    → ToldTo k i r (map face olds) (map face items) → i < length items → b ≡ get_or items i b
    → face c ≡ told r (face b) → stays (face c) ≡ false → ToldTo (k + 1) i r (map face olds) (map face (remove (set items i c) i))
member_leaves face olds items k i r b c t lt e fe s =
    let n : i < length (map face items) = rw length-map lt in
    rw (map-remove face (set items i c) i, map-set) (told_leaves k i r (map face olds) (map face items) (face b) (face c) t n (ap face e ∙ sym (get_or-map face items i b (face b) lt)) fe s)

member_stops : {B : Type 0} (face : B → Member) (olds items : List B) (k i : ℕ) (r : Notice) (b c : B)
    → ToldTo k i r (map face olds) (map face items) → i < length items → b ≡ get_or items i b
    → face c ≡ face b → StoppedAt k r (map face olds) (map face (set items i c))
member_stops face olds items k i r b c t lt e fe =
    let n : i < length (map face items) = rw length-map lt in
    rw (map-set_same face items i c b (fe ∙ ap face e)) (told_stopped k i r (map face olds) (map face items) t n)

pair_is : (a b : ℕ) (f h : List ℕ) → a ≡ b → f ≡ h → ◌≡◌ {A = Member} (a, f) (b, h)
pair_is a b f h e d = rw (e, d) refl

stays_if : (b : Bool) → cond b Leave Stay ≡ Stay → not b ≡ true
stays_if true h = cc
stays_if false h = refl

leaves_if : (b : Bool) → cond b Leave Stay ≡ Leave → not b ≡ false
leaves_if true h = refl
leaves_if false h = cc

-- the same, by kinds and figures, and by the answer
module _ {B : Type 0} (kind : B → ℕ) (figures : B → List ℕ) where
  abbrev pub seen : B → Member
  seen b = (kind b, figures b)

  pub staying : (olds items : List B) (k i : ℕ) (r : Notice) (b c : B) (n : Next)
      → ToldTo k i r (map seen olds) (map seen items) → i < length items → b ≡ get_or items i b
      → kind c ≡ kind b → figures c ≡ figures_after (kind b) (figures b) r → n ≡ next_of (kind c) (figures c) → n ≡ Stay
      → ToldTo (k + 1) (i + 1) r (map seen olds) (map seen (set items i c))
  staying olds items k i r b c n t lt e ke fe ne s = member_stays seen olds items k i r b c t lt e
      (pair_is _ _ _ _ ke fe) (stays_if _ (sym ne ∙ s))

  pub leaving : (olds items : List B) (k i : ℕ) (r : Notice) (b c : B) (n : Next)
      → ToldTo k i r (map seen olds) (map seen items) → i < length items → b ≡ get_or items i b
      → kind c ≡ kind b → figures c ≡ figures_after (kind b) (figures b) r → n ≡ next_of (kind c) (figures c) → n ≡ Leave
      → ToldTo (k + 1) i r (map seen olds) (map seen (remove (set items i c) i))
  leaving olds items k i r b c n t lt e ke fe ne s = member_leaves seen olds items k i r b c t lt e
      (pair_is _ _ _ _ ke fe) (leaves_if _ (sym ne ∙ s))

  pub stopping : (olds items : List B) (k i : ℕ) (r : Notice) (b c : B)
      → ToldTo k i r (map seen olds) (map seen items) → i < length items → b ≡ get_or items i b
      → kind c ≡ kind b → figures c ≡ figures b → StoppedAt k r (map seen olds) (map seen (set items i c))
  stopping olds items k i r b c t lt e ke fe = member_stops seen olds items k i r b c t lt e
      (pair_is _ _ _ _ ke fe)
