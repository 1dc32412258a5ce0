-- Dates without their last digits.
use Rattle.std.proofs.Common.{◌≡◌, ℕ, zero, suc, ◌+◌, ◌-◌, ◌*◌, ◌/◌, ◌%◌, ◌<◌, ◌≤◌, refl, sym, ap, ◌∙◌, arith, subst, inl, inr}
use Rattle.std.proofs.lemmas.Bool.{cases_lt}
use Rattle.crs_agenda.specs.Places.{lead, Stands}

-- a later date leads later
pub lead-le : (r x y : ℕ) → x ≤ y → lead r x ≤ lead r y
lead-le zero x y h = h
lead-le (suc r) x y h = let k = lead-le r x y h in omega arith

-- what leads later is later
pub lead-lt : (r x y : ℕ) → lead r x < lead r y → x < y
lead-lt zero x y h = h
lead-lt (suc r) x y h = lead-lt r x y (omega arith)

-- what leads alike leads alike from there on
alike-more : (j r x y : ℕ) → lead r x ≡ lead r y → (s : ℕ) → s ≡ j + r → lead s x ≡ lead s y
alike-more zero r x y e s at = let here : s ≡ r = omega arith in rw here e
alike-more (suc j) r x y e s at =
    let here : s ≡ suc (j + r) = omega arith in
    rw here (ap (λ (n : ℕ). n / 32) (alike-more j r x y e (j + r) refl))

pub alike : (r s x y : ℕ) → lead r x ≡ lead r y → r ≤ s → lead s x ≡ lead s y
alike r s x y e h = alike-more (s - r) r x y e s (omega arith)

-- two dates of one row lead alike past it, as the base does
pub row-same : (r b d k : ℕ) → k < 32 → lead r d ≡ lead r b / 32 * 32 + k → lead (suc r) d ≡ lead (suc r) b
row-same r b d k h e = omega arith

-- a date of an earlier row leads as the base does in a later row
pub rows-same : (r s b d k : ℕ) → r < s → k < 32 → lead r d ≡ lead r b / 32 * 32 + k → lead s d ≡ lead s b
rows-same r s b d k lt h e = alike (suc r) s d b (row-same r b d k h e) lt

-- of two buckets of one row, the later one's dates lead later
row-later : (r x k j m n : ℕ) → k < j → m ≡ x * 32 + k → n ≡ x * 32 + j → m < n
row-later r x k j m n h e f = omega arith

-- the dates of a later bucket are later
later-same : (base a c d e : ℕ) → Stands base a d → Stands base c e → a < c → a / 32 ≡ c / 32 → lead (c / 32) d < lead (c / 32) e
later-same base a c d e x y lt h =
    let p : lead (c / 32) d ≡ lead (c / 32) base / 32 * 32 + a % 32 = subst (λ (n : ℕ). lead n d ≡ lead n base / 32 * 32 + a % 32) h x.digits in
    let k : a % 32 < c % 32 = omega arith in row-later (c / 32) (lead (c / 32) base / 32) (a % 32) (c % 32) _ _ k p y.digits

later-row : (base a c d e : ℕ) → Stands base a d → Stands base c e → a / 32 < c / 32 → lead (c / 32) d < lead (c / 32) e
later-row base a c d e x y h =
    let p : lead (c / 32) d ≡ lead (c / 32) base = rows-same (a / 32) (c / 32) base d (a % 32) h (omega arith) x.digits in
    let q : lead (c / 32) base < lead (c / 32) e = y.later (omega arith) in
    omega arith

pub leads-later : (base a c d e : ℕ) → Stands base a d → Stands base c e → a < c → lead (c / 32) d < lead (c / 32) e
leads-later base a c d e x y lt = grind (arith, later-same base a c d e x y lt, later-row base a c d e x y)

pub bucket-later : (base a c d e : ℕ) → Stands base a d → Stands base c e → a < c → d < e
bucket-later base a c d e x y lt = lead-lt (c / 32) d e (leads-later base a c d e x y lt)

-- past its row a date leads as the base does
past-same : (base a c d : ℕ) → Stands base a d → a / 32 ≤ c / 32 → lead (c / 32) d / 32 ≡ lead (c / 32) base / 32
past-same base a c d x h =
    let p : lead (suc (c / 32)) d ≡ lead (suc (c / 32)) base = rows-same (a / 32) (suc (c / 32)) base d (a % 32) (omega arith) (omega arith) x.digits in
    p

-- a later bucket's pairs stand there from an earlier bucket's date on
pub turned : (base a c d e : ℕ) → Stands base a d → Stands base c e → a < c → Stands d c e
turned base a c d e x y lt =
    let s : lead (c / 32) d / 32 ≡ lead (c / 32) base / 32 = past-same base a c d x (omega arith) in
    let l : d < e = bucket-later base a c d e x y lt in
    record {
      from = omega arith;
      bound = y.bound;
      digits = rw s y.digits;
      later = λ _. leads-later base a c d e x y lt;
    }

not-later : (base a c d e : ℕ) → Stands base a d → Stands base a e → 0 < a / 32 → Stands d c e → a ≤ c → ⊥
not-later base a c d e x y past z h =
    let same : lead (a / 32) d ≡ lead (a / 32) e = x.digits ∙ sym y.digits in
    let there : lead (c / 32) d ≡ lead (c / 32) e = alike (a / 32) (c / 32) d e same (omega arith) in
    let later : lead (c / 32) d < lead (c / 32) e = z.later (omega arith) in
    omega arith

-- of the pairs of one bucket past the first row, the others' bucket from one's date on is an earlier one
pub goes-before : (base a c d e : ℕ) → Stands base a d → Stands base a e → 0 < a / 32 → Stands d c e → c < a
goes-before base a c d e x y past z = elim (cases_lt c a) [ inl h ↦ h | inr h ↦ absurd (not-later base a c d e x y past z h) ]
