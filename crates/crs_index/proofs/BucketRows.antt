-- Lemmas on buckets as the code keeps them.
use Rattle.std.proofs.Common.{◌≡◌, ℕ, ◌+◌, ◌<◌, List, [], ◌∷◌, ◌++◌, length, map, filter, take, drop, refl, sym, ap, ◌∙◌, get_or, arith, Global, Bool}
use Rattle.std.proofs.Math.ListN.{set}
use Rattle.std.proofs.lemmas.List.{length-map, map-set, get_or-map, set-get_or, get_or_default}
use Rattle.std.proofs.lemmas.List.Edits.{map_over_more}
use Rattle.std.specs.declared.vec.Vec.{Vec}
use Rattle.crs_agenda.specs.declared.timed.Handle.{Handle}
use Rattle.crs_index.specs.Indexes.{bucket_at}
use Rattle.crs_index.specs.Rows.{rows}

abbrev pub Bucket : Type 0
Bucket = Vec Handle Global

rows-set : (vs : List Bucket) (n : ℕ) (v : Bucket) (items : List Handle) → v.items ≡ items → rows (set vs n v) ≡ set (rows vs) n items
rows-set vs n v items e = rw (map-set (λ (w : Bucket). w.items) vs n v, e) refl

bucket_at-rows : (vs : List Bucket) (n : ℕ) (v : Bucket) → n < length vs → v ≡ get_or vs n v → bucket_at (rows vs) n ≡ v.items
bucket_at-rows vs n v h e = get_or-map (λ (w : Bucket). w.items) vs n v [] h ∙ ap (λ (w : Bucket). w.items) (sym e)

set_bucket_at : (bs : List (List Handle)) (n : ℕ) → set bs n (bucket_at bs n) ≡ bs
set_bucket_at bs n = set-get_or bs n []

-- w, the bucket n of vs, became v, with the handle at its end
pub pushed : (vs : List Bucket) (n : ℕ) (v w : Bucket) (h : Handle) → n < length vs → w ≡ get_or vs n w → v.items ≡ w.items ++ h ∷ [] → rows (set vs n v) ≡ set (rows vs) n (bucket_at (rows vs) n ++ h ∷ [])
pushed vs n v w h lt is e =
    rows-set vs n v _ (e ∙ ap (λ (l : List Handle). l ++ h ∷ []) (sym (bucket_at-rows vs n w lt is)))

-- w, the bucket n of vs, became v, which has the same handles
pub unpushed : (vs : List Bucket) (n : ℕ) (v w : Bucket) → n < length vs → w ≡ get_or vs n w → v.items ≡ w.items → rows (set vs n v) ≡ rows vs
unpushed vs n v w lt is e = rows-set vs n v _ (e ∙ sym (bucket_at-rows vs n w lt is)) ∙ set_bucket_at (rows vs) n

-- w, the bucket n of vs, became v, which has those of its handles of which p holds
pub sifted_at : (p : Handle → Bool) (vs : List Bucket) (n : ℕ) (v w : Bucket) → n < length vs → w ≡ get_or vs n w → v.items ≡ filter p w.items → rows (set vs n v) ≡ set (rows vs) n (filter p (bucket_at (rows vs) n))
sifted_at p vs n v w lt is e = rows-set vs n v _ (e ∙ ap (filter p) (sym (bucket_at-rows vs n w lt is)))

-- a loop that sifts the buckets us has come to i
pub sifted_more : (p : Handle → Bool) (us vs : List Bucket) (i : ℕ) (v d : Bucket) → i < length us → length vs ≡ length us → rows vs ≡ map (filter p) (take i (rows us)) ++ drop i (rows us) → v.items ≡ filter p (get_or vs i d).items → rows (set vs i v) ≡ map (filter p) (take (i + 1) (rows us)) ++ drop (i + 1) (rows us)
sifted_more p us vs i v d lt len sofar e =
    let was : bucket_at (rows vs) i ≡ (get_or vs i d).items = get_or-map (λ (w : Bucket). w.items) vs i d [] (omega arith) in
    rows-set vs i v _ (e ∙ ap (filter p) (sym was))
    ∙ map_over_more (filter p) (rows us) (rows vs) i (bucket_at (rows vs) i) (omega (arith, length-map us (λ (w : Bucket). w.items))) sofar (get_or_default (rows vs) i [] (bucket_at (rows vs) i) (omega (arith, length-map vs (λ (w : Bucket). w.items))))

pub length-rows : (vs : List Bucket) → length (rows vs) ≡ length vs
length-rows vs = length-map vs (λ (w : Bucket). w.items)
