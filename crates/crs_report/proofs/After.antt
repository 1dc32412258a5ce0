-- Members after several recognitions.
use Rattle.std.proofs.Common.{◌≡◌, ◌∙◌, ap, sym, refl, ℕ, ◌+◌, ◌<◌, ◌≤◌, Bool, true, false, cond, List, [], ◌∷◌, ◌++◌, length, get_or, drop, map}
use Rattle.std.proofs.lemmas.List.{drop_more, drop_all}
use Rattle.std.specs.Prelude.{filter, ◌&&◌}
use Rattle.crs_report.specs.Listeners.{Notice, Member, tell_members, members_after, stays, stays_through, told, told_all}

-- what becomes of one member: whether it stays at the first recognition (b), and through those behind it (d)
kept_or_gone : (f g : Member → Member) (p : Member → Bool) (b d : Bool) (m n : Member) (xs ys : List Member)
    → f m ≡ g n → p n ≡ d → map f xs ≡ map g (filter p ys)
    → map f (cond (b && d) (m ∷ xs) xs) ≡ map g (filter p (cond b (n ∷ ys) ys))
kept_or_gone f g p true true m n xs ys e t h = rw (t, e) (ap (λ (z : List Member). g n ∷ z) h)
kept_or_gone f g p true false m n xs ys e t h = rw t h
kept_or_gone f g p false d m n xs ys e t h = h

-- one recognition, and those behind it
pub after_first : (r : Notice) (rs : List Notice) (ms : List Member)
    → members_after (r ∷ rs) ms ≡ members_after rs (tell_members r ms)
after_first r rs [] = refl
after_first r rs (m ∷ ms) = kept_or_gone (told_all (r ∷ rs)) (told_all rs) (stays_through rs) (stays (told r m))
    (stays_through rs (told r m)) m (told r m) (filter (stays_through (r ∷ rs)) ms) (tell_members r ms) refl refl (after_first r rs ms)

-- no recognitions
pub after_none : (ms : List Member) → members_after [] ms ≡ ms
after_none [] = refl
after_none (m ∷ ms) = ap (λ (t : List Member). m ∷ t) (after_none ms)

-- recognitions, and those behind them
pub after_more : (rs qs : List Notice) (ms : List Member)
    → members_after (rs ++ qs) ms ≡ members_after qs (members_after rs ms)
after_more [] qs ms = ap (members_after qs) (sym (after_none ms))
after_more (r ∷ rs) qs ms = after_first r (rs ++ qs) ms ∙ after_more rs qs (tell_members r ms) ∙ ap (members_after qs) (sym (after_first r rs ms))

-- a recognition at a place was told: the members after what is left are those that were after it and what is left
pub after_next : {X : Type 0} (notice : X → Notice) (rs : List X) (i : ℕ) (r : X) (ms ns : List Member)
    → i < length rs → r ≡ get_or rs i r → ns ≡ tell_members (notice r) ms
    → members_after (map notice (drop (i + 1) rs)) ns ≡ members_after (map notice (drop i rs)) ms
after_next notice rs i r ms ns lt is e =
    let d : drop i rs ≡ r ∷ drop (i + 1) rs = drop_more rs i r lt ∙ ap (λ z. z ∷ drop (i + 1) rs) (sym is) in
    rw (d, e) (sym (after_first (notice r) (map notice (drop (i + 1) rs)) ms))

-- nothing is left
pub after_last : {X : Type 0} (notice : X → Notice) (rs : List X) (i : ℕ) (ms all : List Member)
    → length rs ≤ i → members_after (map notice (drop i rs)) ms ≡ all → ms ≡ all
after_last notice rs i ms all le e = sym (after_none ms) ∙ rw (drop_all i rs le) at e
