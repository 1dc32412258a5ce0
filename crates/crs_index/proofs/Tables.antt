-- Lemmas on the table of slots.
use Rattle.std.proofs.Common.{◌≡◌, ℕ, zero, suc, ◌<◌, ◌⊎◌, inl, inr, List, [], ◌∷◌, ◌++◌, length, refl, sym, ap, ◌∙◌, get_or, arith, Global, length-set}
use Rattle.std.proofs.Math.ListN.{set}
use Rattle.std.proofs.lemmas.List.{length-map, get_or-map, get_or-set_same, get_or-set_other, map-set}
use Rattle.std.proofs.lemmas.Bool.{cases_eq}
use Rattle.std.specs.declared.vec.Vec.{Vec}
use Rattle.crs_index.specs.KeyNumbers.{slot, table}

abbrev pub Row : Type 0
Row = Vec ℕ Global

-- one more item that is the default changes no read
pub more_default : {A : Type 0} (xs : List A) (n : ℕ) (d : A) → get_or (xs ++ d ∷ []) n d ≡ get_or xs n d
more_default [] zero d = refl
more_default [] (suc n) d = refl
more_default (x ∷ xs) zero d = refl
more_default (x ∷ xs) (suc n) d = more_default xs n d

table_set : (rows : List Row) (n : ℕ) (v : Row) → table (set rows n v) ≡ set (table rows) n v.items
table_set rows n v = map-set (λ (w : Row). w.items) rows n v

pub slot_here : (rows : List Row) (c f : ℕ) (v w : Row) (x : ℕ) → c < length (table rows) → f < length w.items → v.items ≡ set w.items f x → slot (table (set rows c v)) c f ≡ x
slot_here rows c f v w x lc lf e =
    ap (λ (t : List (List ℕ)). slot t c f) (table_set rows c v)
    ∙ (ap (λ (r : List ℕ). get_or r f 0) (get_or-set_same (table rows) c v.items [] lc ∙ e) ∙ get_or-set_same w.items f x 0 lf)

row_by : (rows : List Row) (c d : ℕ) (v : Row) → ((d ≡ c) ⊎ (d ≡ c → ⊥)) → c < length (table rows) → (f : ℕ) → (d ≡ c → get_or v.items f 0 ≡ slot (table rows) c f) → get_or (get_or (set (table rows) c v.items) d []) f 0 ≡ slot (table rows) d f
row_by rows c d v (inl e) lc f same =
    ap (λ (n : ℕ). slot (set (table rows) c v.items) n f) e ∙ (ap (λ (r : List ℕ). get_or r f 0) (get_or-set_same (table rows) c v.items [] lc) ∙ (same e ∙ ap (λ (n : ℕ). slot (table rows) n f) (sym e)))
row_by rows c d v (inr ne) lc f same = ap (λ (r : List ℕ). get_or r f 0) (get_or-set_other (table rows) c d v.items [] ne)

-- the row c became v
row_written : (rows : List Row) (c : ℕ) (v : Row) → c < length (table rows) → (d f : ℕ) → ((d ≡ c) ⊎ (d ≡ c → ⊥)) → (d ≡ c → get_or v.items f 0 ≡ slot (table rows) c f) → slot (table (set rows c v)) d f ≡ slot (table rows) d f
row_written rows c v lc d f by same = ap (λ (t : List (List ℕ)). slot t d f) (table_set rows c v) ∙ row_by rows c d v by lc f same

pub row_at : (rows : List Row) (c : ℕ) (w : Row) → c < length (table rows) → w ≡ get_or rows c w → get_or (table rows) c [] ≡ w.items
row_at rows c w lc is = get_or-map (λ (v : Row). v.items) rows c w [] (omega (arith, length-map rows (λ (v : Row). v.items))) ∙ ap (λ (v : Row). v.items) (sym is)

pub slot_opened : (rows : List Row) (c f : ℕ) (v : Row) → c < length (table rows) → f < length v.items → (c < length (table (set rows c v))) × (f < length (get_or (table (set rows c v)) c []))
slot_opened rows c f v lc lf =
    let a : length (table (set rows c v)) ≡ length (table rows) = ap length (table_set rows c v) ∙ length-set (table rows) c v.items in
    let b : get_or (table (set rows c v)) c [] ≡ v.items = ap (λ (t : List (List ℕ)). get_or t c []) (table_set rows c v) ∙ get_or-set_same (table rows) c v.items [] lc in
    (omega arith, omega (arith, ap length b))

pub row_grown : (rows : List Row) (c : ℕ) (v w : Row) (d f : ℕ) → c < length (table rows) → w ≡ get_or rows c w → get_or v.items f 0 ≡ get_or w.items f 0 → slot (table (set rows c v)) d f ≡ slot (table rows) d f
row_grown rows c v w d f lc is same = row_written rows c v lc d f (cases_eq d c)
    (λ e. same ∙ ap (λ (r : List ℕ). get_or r f 0) (sym (row_at rows c w lc is)))

pub slot_set : (rows : List Row) (c f : ℕ) (v w : Row) (x : ℕ) → c < length (table rows) → w ≡ get_or rows c w → v.items ≡ set w.items f x → (d e : ℕ) → ((d ≡ c) × (e ≡ f) → ⊥) → slot (table (set rows c v)) d e ≡ slot (table rows) d e
slot_set rows c f v w x lc is written d e apart =
    row_written rows c v lc d e (cases_eq d c) (λ same.
    ap (λ (r : List ℕ). get_or r e 0) written
    ∙ (get_or-set_other w.items f e x 0 (λ q. apart (same, q)) ∙ ap (λ (r : List ℕ). get_or r e 0) (sym (row_at rows c w lc is))))
