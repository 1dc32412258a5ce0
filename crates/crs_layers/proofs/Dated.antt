-- What a stratum gives at a mark is dated as entries that it accepted.
use Rattle.std.proofs.Common.{◌≡◌, ℕ, zero, suc, ◌<◌, Bool, true, false, nat_lt, cond, List, [], ◌∷◌, sym, subst, inl, inr, arith}
use Rattle.std.specs.Prelude.{Some, slice_get}
use Rattle.std.specs.List.{AllByRecursion, flat_map}
use Rattle.crs_base.specs.Entry.{Entry}
use Rattle.crs_base.specs.Words.{IsIn}
use Rattle.crs_base.proofs.Alls.{all_append}
use Rattle.crs_base.proofs.KeyOrder.{entry_total}
use Rattle.crs_base.proofs.Words.{in_filter_back, each_from_in, in_from_each}
use Rattle.crs_model.specs.Matching.{Assignment}
use Rattle.crs_model.specs.Models.{Chronicle}
use Rattle.crs_model.specs.Order.{arrived, in_key_order, dated_before}
use Rattle.crs_model.specs.Scopes.{Scope, IsNewIn}
use Rattle.crs_model.proofs.Settled.{of_settled}
use Rattle.crs_model.proofs.Ties.{ordered_members}
use Rattle.crs_layers.specs.Strata.{Stratum, scope_in, gives, Give}
use Rattle.crs_layers.proofs.Given.{dated_as}

module _ {S : Type 0} where
  got_in : (xs : List (Entry S)) (n : ℕ) (x : Entry S) → slice_get xs n ≡ Some x → IsIn x xs
  got_in [] n x e = absurd cc
  got_in (y ∷ xs) zero x e = inl (let same : x ≡ y = cc in same)
  got_in (y ∷ xs) (suc n) x e = inr (got_in xs n x e)

  -- what an assignment may take was accepted
  pub in_accepted : (s : Stratum S) (h : ℕ) (c : Chronicle S) (x : Entry S) → IsIn x (scope_in s h c).pool → IsIn x s.accepted
  in_accepted s h c x = by c.prompt
    where
      by : (b : Bool) → IsIn x (cond b (in_key_order (arrived s.marked s.accepted)) (dated_before h s.accepted)) → IsIn x s.accepted
      by true i = (in_filter_back (λ e. nat_lt e.arrival s.marked) s.accepted x ((ordered_members (arrived s.marked s.accepted)).there x i)).0
      by false i = (of_settled entry_total h s.accepted x i).0

  module _ (text_of : S → List ℕ) (d : ℕ) (s : Stratum S) (h : ℕ) (dated : AllByRecursion (λ x. x.date < d) s.accepted) (was : Chronicle S → Scope S) where
    one_dated : (c : Chronicle S) (b : Assignment S) → IsNewIn c (was c) (scope_in s h c) b → AllByRecursion (λ y. y.date < d) (gives text_of c b)
    one_dated c b new = each_from_in (λ y. y.date < d) (gives text_of c b) (λ y i.
        let k = dated_as text_of c b y i in
        let date = k.date in
        let pooled = in_from_each (λ e. IsIn e (scope_in s h c).pool) b.entries new.0.assignment.given k.entry (got_in b.entries (k.emit).event k.entry k.bound) in
        let l = in_from_each (λ x. x.date < d) s.accepted dated k.entry (in_accepted s h c k.entry pooled) in
        omega (arith, date, l))

    all_dated : (c : Chronicle S) (bs : List (Assignment S)) → AllByRecursion (IsNewIn c (was c) (scope_in s h c)) bs → AllByRecursion (λ y. y.date < d) (flat_map (gives text_of c) bs)
    all_dated c [] k = tt
    all_dated c (b ∷ bs) k = all_append (λ y. y.date < d) (gives text_of c b) (flat_map (gives text_of c) bs) (one_dated c b k.0) (all_dated c bs k.1)

    pub give_dated : (cs : List (Chronicle S)) (given : List (Entry S)) → Give text_of cs was (scope_in s h) given → AllByRecursion (λ y. y.date < d) given
    give_dated [] given k = subst (AllByRecursion (λ y. y.date < d)) (sym k) tt
    give_dated (c ∷ cs) given k = subst (AllByRecursion (λ y. y.date < d)) (sym k.4)
        (all_append (λ y. y.date < d) (flat_map (gives text_of c) k.0) k.1 (all_dated c k.0 (k.2).each) (give_dated cs k.1 k.3))
