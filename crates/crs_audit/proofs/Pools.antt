-- The entries that a chronicle may take at a mark are told by their places in the log.
use Rattle.std.proofs.Common.{◌≡◌, ◌∙◌, ◌<◌, ℕ, ◌+◌, zero, suc, Bool, true, false, cond, List, [], ◌∷◌, map, take, refl, sym, ap, subst, arith, inl, inr, ◌⊎◌, Some, nat_lt, lt-ltb}
use Rattle.std.specs.Prelude.{slice_get}
use Rattle.std.specs.List.{AllZip}
use Rattle.crs_base.specs.Words.{IsIn}
use Rattle.crs_base.specs.Entry.{Entry}
use Rattle.crs_base.specs.declared.symbols.Sym.{Sym}
use Rattle.crs_base.proofs.KeyOrder.{entry_total}
use Rattle.crs_base.proofs.Words.{in_filter, in_filter_back}
use Rattle.crs_model.specs.Order.{put_all, put_in_order, in_key_order, arrived, dated_before}
use Rattle.crs_model.specs.Renaming.{renamed_entry}
use Rattle.crs_model.proofs.InOrder.{in_put}
use Rattle.crs_model.proofs.Settled.{put_in, of_settled, settled_of}
use Rattle.crs_audit.specs.declared.run.Stand.{Stand}
use Rattle.crs_audit.specs.Cited.{IsAvailable}
use Rattle.crs_audit.specs.Runs.{ArePlaced}

module _ {S : Type 0} where
  in_before : (x : Entry S) (sorted xs : List (Entry S)) → IsIn x sorted → IsIn x (put_all sorted xs)
  in_before x sorted [] h = h
  in_before x sorted (e ∷ xs) h = in_before x (put_in_order e sorted) xs (put_in e x sorted (inr h))

  put_there : (x : Entry S) (sorted xs : List (Entry S)) → IsIn x xs → IsIn x (put_all sorted xs)
  put_there x sorted [] h = absurd h
  put_there x sorted (e ∷ xs) (inl q) = in_before x (put_in_order e sorted) xs (put_in e x sorted (inl q))
  put_there x sorted (e ∷ xs) (inr h) = put_there x (put_in_order e sorted) xs h

  put_back : (x : Entry S) (sorted xs : List (Entry S)) → IsIn x (put_all sorted xs) → IsIn x sorted ⊎ IsIn x xs
  put_back x sorted [] h = inl h
  put_back x sorted (e ∷ xs) h = elim (put_back x (put_in_order e sorted) xs h) [
    | inl k ↦ elim (in_put (entry_total {S = S}) e x sorted k) [ inl q ↦ inr (inl q) | inr i ↦ inl i ]
    | inr k ↦ inr (inr k)
  ]

  from_none : (x : Entry S) (xs : List (Entry S)) → IsIn x [] ⊎ IsIn x xs → IsIn x xs
  from_none x xs (inl h) = absurd h
  from_none x xs (inr h) = h

  -- entries in key order are the same ones
  of_order : (x : Entry S) (xs : List (Entry S)) → IsIn x (in_key_order xs) → IsIn x xs
  of_order x xs h = from_none x xs (put_back x [] xs h)

  -- the entry at a place arrived with that number
  placed_at : (xs : List (Entry S)) (n k : ℕ) (x : Entry S) → ArePlaced n xs → slice_get xs k ≡ Some x → x.arrival ≡ n + k
  placed_at [] n k x p e = absurd cc
  placed_at (y ∷ xs) n zero x p e =
      let same : y ≡ x = cc in
      let here : y.arrival ≡ n = p.0 in
      let there : y.arrival ≡ x.arrival = ap (λ z. z.arrival) same in
      omega (arith, here, there)
  placed_at (y ∷ xs) n (suc k) x p e = let rest = placed_at xs (n + 1) k x p.1 e in omega (arith, rest)

  in_front : (xs : List (Entry S)) (k m : ℕ) (x : Entry S) → slice_get xs k ≡ Some x → k < m → IsIn x (take m xs)
  in_front [] k m x e lt = absurd cc
  in_front (y ∷ xs) k zero x e lt = absurd (omega (arith, lt))
  in_front (y ∷ xs) zero (suc m) x e lt = inl (let same : x ≡ y = cc in same)
  in_front (y ∷ xs) (suc k) (suc m) x e lt = inr (in_front xs k m x e (omega (arith, lt)))

  of_front : (xs : List (Entry S)) (n m : ℕ) (x : Entry S) → ArePlaced n xs → IsIn x (take m xs) → (k : ℕ) × (k < m) × (slice_get xs k ≡ Some x) × (x.arrival ≡ n + k)
  of_front [] n zero x p i = absurd i
  of_front [] n (suc m) x p i = absurd i
  of_front (y ∷ xs) n zero x p i = absurd i
  of_front (y ∷ xs) n (suc m) x p (inl q) =
      let e : Some y ≡ Some x = ap Some (sym q) in (zero, omega arith, e, placed_at (y ∷ xs) n zero x p e)
  of_front (y ∷ xs) n (suc m) x p (inr i) =
      let r = of_front xs (n + 1) m x p.1 i in (suc r.0, (let lt : r.0 < m = r.1 in omega (arith, lt)), r.2, (let a : x.arrival ≡ n + 1 + r.0 = r.3 in omega (arith, a)))

  -- what a chronicle may take at a mark: by the mark's horizon and by how many entries were accepted by then
  abbrev pub available : Bool → ℕ → ℕ → List (Entry S) → List (Entry S)
  available prompt h n xs = cond prompt (in_key_order (arrived n (take n xs))) (dated_before h (take n xs))

  is_available : (b : Bool) (h n k : ℕ) (xs : List (Entry S)) (x : Entry S) → ArePlaced 0 xs → slice_get xs k ≡ Some x → k < n → (b ≡ false → x.date < h)
      → IsIn x (available b h n xs)
  is_available true h n k xs x p e lt d =
      let there : IsIn x (take n xs) = in_front xs k n x e lt in
      let number : x.arrival ≡ 0 + k = placed_at xs 0 k x p e in
      put_there x [] (arrived n (take n xs)) (in_filter (λ (e : Entry S). nat_lt e.arrival n) (take n xs) x there (lt-ltb x.arrival n (omega (arith, number, lt))))
  is_available false h n k xs x p e lt d = settled_of (entry_total {S = S}) h (take n xs) x (in_front xs k n x e lt) (d refl)

  of_available : (b : Bool) (h n : ℕ) (xs : List (Entry S)) (x : Entry S) → IsIn x (available b h n xs) → IsIn x (take n xs) × (b ≡ false → x.date < h)
  of_available true h n xs x i = (
    (in_filter_back (λ (e : Entry S). nat_lt e.arrival n) (take n xs) x (of_order x (arrived n (take n xs)) i)).0,
    λ q. absurd (let k : true ≡ false = q in cc),
  )
  of_available false h n xs x i = let r = of_settled (entry_total {S = S}) h (take n xs) x i in (r.0, λ q. r.1)

module _ {S T : Type 0} (f : S → T) where
  pub placed_on : (n : ℕ) (xs : List (Entry S)) → ArePlaced n xs → ArePlaced n (map (renamed_entry f) xs)
  placed_on n [] p = tt
  placed_on n (x ∷ xs) p = (p.0, placed_on (n + 1) xs p.1)

  pub got_on : (xs : List (Entry S)) (k : ℕ) (x : Entry S) → slice_get xs k ≡ Some x → slice_get (map (renamed_entry f) xs) k ≡ Some (renamed_entry f x)
  got_on [] k x e = absurd cc
  got_on (y ∷ xs) zero x e = let same : y ≡ x = cc in ap (λ z. Some (renamed_entry f z)) same
  got_on (y ∷ xs) (suc k) x e = got_on xs k x e

  pub got_back : (xs : List (Entry S)) (k : ℕ) (z : Entry T) → slice_get (map (renamed_entry f) xs) k ≡ Some z → (x : Entry S) × (slice_get xs k ≡ Some x) × (z ≡ renamed_entry f x)
  got_back [] k z e = absurd cc
  got_back (y ∷ xs) zero z e = (y, refl, (let same : z ≡ renamed_entry f y = cc in same))
  got_back (y ∷ xs) (suc k) z e = got_back xs k z e

-- The entries of numbers, with the texts of their symbols: they are in the pool of their chronicle, and are all that are.
module _ {T : Type 0} (f : Sym → T) (all : List (Entry Sym)) (at : Stand) (prompt : Bool) (placed : ArePlaced 0 all) where
  abbrev pool : List (Entry T)
  pool = available prompt at.horizon at.accepted (map (renamed_entry f) all)

  pub cited_on : (numbers : List ℕ) (es : List (Entry Sym)) → AllZip (IsAvailable all at prompt) numbers es
      → AllZip (λ n e. (e.arrival ≡ n) × IsIn e pool) numbers (map (renamed_entry f) es)
  cited_on [] [] z = tt
  cited_on [] (e ∷ es) z = absurd z
  cited_on (n ∷ ns) [] z = absurd z
  cited_on (n ∷ ns) (e ∷ es) z = (
    (
      placed_at all 0 n e placed z.0.placed ∙ (let k : 0 + n ≡ n = omega arith in k),
      is_available prompt at.horizon at.accepted n (map (renamed_entry f) all) (renamed_entry f e) (placed_on f 0 all placed) (got_on f all n e z.0.placed)
          z.0.accepted z.0.settled,
    ),
    cited_on ns es z.1,
  )

  one_back : (n : ℕ) (z : Entry T) → z.arrival ≡ n → IsIn z pool → (e : Entry Sym) × IsAvailable all at prompt n e × (z ≡ renamed_entry f e)
  one_back n z a i =
      let r = of_available prompt at.horizon at.accepted (map (renamed_entry f) all) z i in
      let k = of_front (map (renamed_entry f) all) 0 at.accepted z (placed_on f 0 all placed) r.0 in
      let number : k.0 ≡ n = (let there : z.arrival ≡ 0 + k.0 = k.3 in omega (arith, there, a)) in
      let g = got_back f all k.0 z k.2 in (
        g.0,
        record {
          accepted = subst (λ m. m < at.accepted) number k.1;
          placed = subst (λ m. slice_get all m ≡ Some g.0) number g.1;
          settled = λ q. subst (λ d. d < at.horizon) (ap (λ e. e.date) g.2) (r.1 q);
        },
        g.2,
      )

  pub cited_back : (numbers : List ℕ) (zs : List (Entry T)) → AllZip (λ n e. (e.arrival ≡ n) × IsIn e pool) numbers zs
      → (es : List (Entry Sym)) × AllZip (IsAvailable all at prompt) numbers es × (zs ≡ map (renamed_entry f) es)
  cited_back [] [] z = ([], tt, refl)
  cited_back [] (e ∷ es) z = absurd z
  cited_back (n ∷ ns) [] z = absurd z
  cited_back (n ∷ ns) (z ∷ zs) c =
      let first = one_back n z c.0.0 c.0.1 in
      let rest = cited_back ns zs c.1 in
      (first.0 ∷ rest.0, (first.1, rest.1), λ i. first.2 i ∷ rest.2 i)
