-- The lists of new assignments over entries that say the same under other arrival numbers.
use Rattle.std.proofs.Common.{ℕ, List, refl, sym}
use Rattle.std.specs.List.{AllZip}
use Rattle.crs_base.specs.Entry.{Entry}
use Rattle.crs_model.specs.Models.{Chronicle}
use Rattle.crs_model.specs.Matching.{Assignment}
use Rattle.crs_model.specs.Order.{Lists, assignment_cmp}
use Rattle.crs_model.specs.Open.{IsNew}
use Rattle.crs_model.proofs.Twins.{Twins, flip, turned, zip_turned, row_of, recognised_on}
use Rattle.crs_model.proofs.PairedLists.{Paired, paired_turned, lists_paired}

-- what recognition reads at two marks: the pool and the entries then, and now
pub record Reads (S : Type 0) : Type 0 where
  pub was_pool : List (Entry S)
  pub was : List (Entry S)
  pub pool : List (Entry S)
  pub now : List (Entry S)

module _ {S : Type 0} where
  -- all of it is paired
  pub record AreTwins (T : Entry S → Entry S → Type 0) (r q : Reads S) : Type 0 where
    pub was_pool : AllZip T r.was_pool q.was_pool
    pub was : AllZip T r.was q.was
    pub pool : AllZip T r.pool q.pool
    pub now : AllZip T r.now q.now

  twins_turned : (T : Entry S → Entry S → Type 0) (r q : Reads S) → AreTwins T r q → AreTwins (flip T) q r
  twins_turned T r q z = record { was_pool = zip_turned T r.was_pool q.was_pool z.was_pool; was = zip_turned T r.was q.was z.was; pool = zip_turned T r.pool q.pool z.pool; now = zip_turned T r.now q.now z.now }

  abbrev pub IsNewOver : Chronicle S → Reads S → ℕ → ℕ → Assignment S → Type 0
  IsNewOver c r g h b = IsNew c r.was_pool r.was g r.pool r.now h b

  -- what is new of entries is new of their twins
  new_on : (T : Entry S → Entry S → Type 0) → Twins T → (r q : Reads S) → AreTwins T r q
      → (c : Chronicle S) (g h : ℕ) (a b : Assignment S) → Paired T a b → IsNewOver c r g h a
      → IsNewOver c q g h b
  new_on T t r q z c g h a b p n = (
    recognised_on T t r.now q.now z.now r.pool q.pool z.pool c h a b p.entries p.values n.0,
    λ k.
        let back : AllZip (flip T) b.entries a.entries = zip_turned T a.entries b.entries p.entries in
        let turn = twins_turned T r q z in
        n.1 (recognised_on (flip T) (turned T t) q.was r.was turn.was q.was_pool r.was_pool turn.was_pool c g b a back (sym p.values) k),
  )

  -- the assignment that is paired with a new one
  other : (T : Entry S → Entry S → Type 0) → Twins T → (r q : Reads S) → AreTwins T r q
      → (c : Chronicle S) (g h : ℕ) (a : Assignment S) → IsNewOver c r g h a
      → (b : Assignment S) × Paired T a b
  other T t r q z c g h a n =
      let k = row_of T t r.pool q.pool a.entries z.pool n.0.assignment.given in
      (record { entries = k.0; values = a.values }, record { entries = k.1; values = refl })

  -- the lists of the new ones are paired
  pub new_paired : (T : Entry S → Entry S → Type 0) → Twins T → (r q : Reads S) → AreTwins T r q
      → (c : Chronicle S) (g h : ℕ) (xs ys : List (Assignment S)) → Lists assignment_cmp (IsNewOver c r g h) xs
      → Lists assignment_cmp (IsNewOver c q g h) ys
      → AllZip (Paired T) xs ys
  new_paired T t r q z c g h =
      lists_paired T t (IsNewOver c r g h) (IsNewOver c q g h) (record {
        on = new_on T t r q z c g h;
        other = other T t r q z c g h;
        back = λ b n.
            let s = turned T t in
            let u = twins_turned T r q z in
            let k = other (flip T) s q r u c g h b n in
            (k.0, new_on (flip T) s q r u c g h b k.0 k.1 n, paired_turned (flip T) b k.0 k.1);
      })
