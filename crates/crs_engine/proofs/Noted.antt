-- The bits of names, as plans are added.
use Rattle.std.proofs.Common.{◌≡◌, ℕ, zero, suc, ◌<◌, ◌≤◌, ◌+◌, ◌/◌, ◌^◌, List, [], ◌∷◌, ◌++◌, length, map, get_or, refl, sym, ap, subst, ◌∙◌, inl, inr, le_refl, add-one, arith, true}
use Rattle.std.specs.Int.{bit_at}
use Rattle.std.specs.Int.Bits.{bit_or}
use Rattle.std.proofs.lemmas.Nat.{shr-shr}
use Rattle.std.proofs.lemmas.Nat.Bits.{bit_at_or, bit_at-pow_same}
use Rattle.std.specs.Prelude.{slice_set}
use Rattle.crs_base.specs.declared.symbols.Sym.{Sym}
use Rattle.crs_base.specs.Words.{IsIn}
use Rattle.crs_model.specs.declared.plan.Plan.{Plan}
use Rattle.crs_model.specs.declared.chronicle.EventDef.{EventDef as CodeEvent}
use Rattle.crs_model.specs.declared.chronicle.Window.{Window as CodeWindow}
use Rattle.crs_model.specs.SeenModels.{event_of, window_of}
use Rattle.crs_store.specs.Hooks.{name_of}
use Rattle.crs_engine.specs.declared.concerned.Concerned.{Concerned}
use Rattle.crs_engine.specs.Concerns.{Tells, TellsAll, bits_of, KeepsBits, KeepsLooking, AreNoted, KeepsAll, IsKnown, AreKnown}

-- ---- bits

pub keeps_itself : (a : ℕ) → KeepsBits a a
keeps_itself a k = le_refl (bit_at a k)

pub keeps_on : (a b c : ℕ) → KeepsBits a b → KeepsBits b c → KeepsBits a c
keeps_on a b c f g k = let l = f k in let m = g k in omega arith

pub or_keeps : (a b : ℕ) → KeepsBits a (bit_or a b)
or_keeps a b k = rw (bit_at_or a b k) (omega arith)

pub or_both : (a b c d : ℕ) → KeepsBits a c → KeepsBits b d → KeepsBits (bit_or a b) (bit_or c d)
or_both a b c d f g k = let l = f k in let m = g k in rw (bit_at_or a b k, bit_at_or c d k) (omega arith)

is_bit : (a k : ℕ) → bit_at a k ≤ 1
is_bit a k = omega arith

pub set_left : (a b k : ℕ) → bit_at a k ≡ 1 → bit_at (bit_or a b) k ≡ 1
set_left a b k e = bit_at_or a b k ∙ (let l = is_bit b k in omega arith)

pub set_right : (a b k : ℕ) → bit_at b k ≡ 1 → bit_at (bit_or a b) k ≡ 1
set_right a b k e = bit_at_or a b k ∙ (let l = is_bit a k in omega arith)

pub or_sets : (a k : ℕ) → bit_at (bit_or a (2 ^ k)) k ≡ 1
or_sets a k = set_right a (2 ^ k) k (bit_at-pow_same k)

pub still_set : (a b k : ℕ) → KeepsBits a b → bit_at a k ≡ 1 → bit_at b k ≡ 1
still_set a b k f e = let l = f k in let m = is_bit b k in omega arith

-- ---- rows

pub with_room : (xs : List ℕ) (n : ℕ) → get_or (xs ++ 0 ∷ []) n 0 ≡ get_or xs n 0
with_room [] zero = refl
with_room [] (suc n) = refl
with_room (x ∷ xs) zero = refl
with_room (x ∷ xs) (suc n) = with_room xs n

pub set_keeps : (xs : List ℕ) (i v : ℕ) → KeepsBits (get_or xs i 0) v → KeepsLooking xs (slice_set xs i v)
set_keeps [] i v f n = keeps_itself (get_or [] n 0)
set_keeps (x ∷ xs) zero v f zero = f
set_keeps (x ∷ xs) zero v f (suc n) = keeps_itself (get_or xs n 0)
set_keeps (x ∷ xs) (suc i) v f zero = keeps_itself x
set_keeps (x ∷ xs) (suc i) v f (suc n) = set_keeps xs i v f n

set_here : (xs : List ℕ) (i v : ℕ) → i < length xs → get_or (slice_set xs i v) i 0 ≡ v
set_here [] i v l = absurd (omega arith)
set_here (x ∷ xs) zero v l = refl
set_here (x ∷ xs) (suc i) v l = set_here xs i v (omega arith)

pub noted_keeps : (xs ys : List ℕ) (i v b : ℕ) → ((n : ℕ) → get_or ys n 0 ≡ get_or xs n 0) → v ≡ bit_or (get_or ys i 0) b → KeepsLooking xs (slice_set ys i v)
noted_keeps xs ys i v b same is n = subst (λ (a : ℕ). KeepsBits a (get_or (slice_set ys i v) n 0)) (same n) (set_keeps ys i v (subst (KeepsBits (get_or ys i 0)) (sym is) (or_keeps (get_or ys i 0) b)) n)

pub noted_set : (ys : List ℕ) (i v place : ℕ) → i < length ys → v ≡ bit_or (get_or ys i 0) (2 ^ place) → bit_at (get_or (slice_set ys i v) i 0) place ≡ 1
noted_set ys i v place inside is = ap (λ (a : ℕ). bit_at a place) (set_here ys i v inside ∙ is) ∙ or_sets (get_or ys i 0) place

pub looking_on : (xs ys zs : List ℕ) → KeepsLooking xs ys → KeepsLooking ys zs → KeepsLooking xs zs
looking_on xs ys zs f g n = keeps_on (get_or xs n 0) (get_or ys n 0) (get_or zs n 0) (f n) (g n)

-- one name more
pub noted_more : (s : Sym) (names : List Sym) (place : ℕ) (ys zs : List ℕ) → bit_at (get_or ys s.0 0) place ≡ 1 → KeepsLooking ys zs → AreNoted names place zs → AreNoted (s ∷ names) place zs
noted_more s names place ys zs first kept rest t (inl e) = rw e (still_set (get_or ys s.0 0) (get_or zs s.0 0) place (kept s.0) first)
noted_more s names place ys zs first kept rest t (inr i) = rest t i

-- ---- plans

pub all_kept : (old new : Concerned) → KeepsLooking old.looking.items new.looking.items → KeepsBits old.prompt new.prompt → KeepsAll old new
all_kept old new f g name = or_both (get_or old.looking.items name.0 0) old.prompt (get_or new.looking.items name.0 0) new.prompt (f name.0) g

pub all_on : (a b c : Concerned) → KeepsAll a b → KeepsAll b c → KeepsAll a c
all_on a b c f g name = keeps_on (bits_of a name) (bits_of b name) (bits_of c name) (f name) (g name)

-- the plan is known where the names of its events and windows are noted
pub known_by : (c : Concerned) (p : Plan) (place : ℕ) (between : List ℕ) (es : List CodeEvent) (ws : List CodeWindow) → es ≡ p.chronicle.events → ws ≡ p.chronicle.windows → (p.chronicle.prompt ≡ true → bit_at c.prompt place ≡ 1)
    → AreNoted (map (λ v. v.pattern.name) (map event_of es)) place between → KeepsLooking between c.looking.items → AreNoted (map (λ w. name_of w.body) (map window_of ws)) place c.looking.items → IsKnown c p place
known_by c p place between es ws of_es of_ws prompt events kept windows name (inl e) = set_right (get_or c.looking.items name.0 0) c.prompt place (prompt e)
known_by c p place between es ws of_es of_ws prompt events kept windows name (inr (inl i)) =
    set_left (get_or c.looking.items name.0 0) c.prompt place (still_set (get_or between name.0 0) (get_or c.looking.items name.0 0) place (kept name.0) (events name (subst (λ (t : List CodeEvent). IsIn name (map (λ v. v.pattern.name) (map event_of t))) (sym of_es) i)))
known_by c p place between es ws of_es of_ws prompt events kept windows name (inr (inr i)) =
    set_left (get_or c.looking.items name.0 0) c.prompt place (windows name (subst (λ (t : List CodeWindow). IsIn name (map (λ w. name_of w.body) (map window_of t))) (sym of_ws) i))

pub known_more : (b c : Concerned) (p : Plan) (ps : List Plan) (place : ℕ) → IsKnown b p place → KeepsAll b c → AreKnown c ps (place + 1) → AreKnown c (p ∷ ps) place
known_more b c p ps place first kept rest = (λ name concerned. still_set (bits_of b name) (bits_of c name) place (kept name) (first name concerned), subst (AreKnown c ps) (add-one place) rest)

tells_from : (c : Concerned) (ps : List Plan) (place : ℕ) → AreKnown c ps place → (name : Sym) → Tells (bits_of c name / 2 ^ place) name ps
tells_from c [] place known name = tt
tells_from c (p ∷ ps) place known name =
    (known.0 name, subst (λ (b : ℕ). Tells b name ps) (sym (shr-shr (bits_of c name) place 1 ∙ ap (λ (k : ℕ). bits_of c name / 2 ^ k) (add-one place))) (tells_from c ps (suc place) known.1 name))

pub tells_all : (c : Concerned) (ps : List Plan) → AreKnown c ps 0 → TellsAll c ps
tells_all c ps known name = subst (λ (b : ℕ). Tells b name ps) (omega arith) (tells_from c ps 0 known name)
