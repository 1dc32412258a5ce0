-- Linked entries, one after another.
use Rattle.std.proofs.Common.{◌≡◌, ◌≢◌, ℕ, ◌≤◌, List, take, take_all, sym, ap, subst, ◌∙◌, length, length-set, inl, inr, arith}
use Rattle.std.specs.Prelude.{Option, Some, None, IfSome, IsSomeAnd, replicate}
use Rattle.std.proofs.lemmas.List.{length-replicate}
use Rattle.std.proofs.lemmas.Bool.Decides.{eqb_tells}
use Rattle.std.specs.declared.rc.Rc.{Rc}
use Rattle.std.proofs.Common.{Global}
use Rattle.crs_base.specs.declared.symbols.Sym.{Sym}
use Rattle.crs_base.specs.declared.entry.Entry.{Entry as CodeEntry}
use Rattle.crs_base.specs.Entry.{Entry}
use Rattle.crs_base.specs.Seen.{entry_of}
use Rattle.crs_model.specs.Partial.{Partial, at}
use Rattle.crs_model.proofs.Parts.{put_same, put_other}
use Rattle.crs_instance.specs.declared.links.Known.{Known}
use Rattle.crs_instance.specs.declared.links.Links.{Links, End, Link'}
use Rattle.crs_instance.specs.declared.links.Links.TheViews.{Link}
use Rattle.crs_model.proofs.Options.{some_if}
use Rattle.crs_instance.proofs.BindAnswers.{get-replicate}
use Rattle.crs_instance.specs.EntryLinks.{partial_of, AreLinked, AreEarly, AreListed}

pub linked_len : (n : ℕ) (l : Links) → length (partial_of n l) ≡ n
linked_len n (End known) = length-replicate n None
linked_len n (Link' known event entry p rest) = length-set (partial_of n rest) event _ ∙ linked_len n rest

-- what some links give to an event, more do too
abbrev pub IsPart : ℕ → Links → Links → Type 0
IsPart n part all = (f : ℕ) (y : Entry Sym) → at (partial_of n part) f ≡ Some y → at (partial_of n all) f ≡ Some y

-- each entry of this arrival number is among those of the links
abbrev pub ComesFrom : ℕ → Links → Links → ℕ → Type 0
ComesFrom n part all arrival = (f : ℕ) (y : Entry Sym) → at (partial_of n all) f ≡ Some y → y.arrival ≡ arrival → at (partial_of n part) f ≡ Some y

-- the first link, and what the others give
module _ (n : ℕ) (known : Known) (event : ℕ) (entry : Rc CodeEntry Global) (rest : Rc Links Global) (l : Links) (is : l ≡ Link known event entry rest) (linked : AreLinked n l) where
  parts : AreLinked n (Link known event entry rest)
  parts = subst (AreLinked n) is linked

  pub others : AreLinked n rest.value
  others = parts.2

  here : at (partial_of n (Link known event entry rest)) event ≡ Some (entry_of entry.value)
  here = put_same (partial_of n rest.value) event (entry_of entry.value) (let k = linked_len n rest.value in let i = parts.0 in omega arith)

  other : (e : ℕ) → e ≢ event → at (partial_of n (Link known event entry rest)) e ≡ at (partial_of n rest.value) e
  other e s = put_other (partial_of n rest.value) event e (entry_of entry.value) s

  pub first_entry : (e : ℕ) (all : Partial Sym) → event ≡ e → at (partial_of n l) e ≡ at all e → Some (entry_of entry.value) ≡ at all e
  first_entry e all s t = sym here ∙ ap (λ (k : ℕ). at (partial_of n (Link known event entry rest)) k) s ∙ ap (λ (k : Links). at (partial_of n k) e) (sym is) ∙ t

  pub other_entry : (e : ℕ) (all : Partial Sym) (next : Links) → next ≡ rest.value → (event ≡ e → ⊥) → at (partial_of n l) e ≡ at all e → AreLinked n next × (at (partial_of n next) e ≡ at all e)
  other_entry e all next q s t = (
    subst (AreLinked n) (sym q) others,
    ap (λ (k : Links). at (partial_of n k) e) q ∙ sym (other e (λ r. s (sym r))) ∙ ap (λ (k : Links). at (partial_of n k) e) (sym is) ∙ t,
  )

  pub first_given : (all : Links) (arrival : ℕ) → entry.value.arrival ≡ arrival → IsPart n l all → (f : ℕ) × IsSomeAnd (at (partial_of n all) f) (λ y. y.arrival ≡ arrival)
  first_given all arrival s part =
      let given = part event (entry_of entry.value) (ap (λ (k : Links). at (partial_of n k) event) is ∙ here) in
      (event, subst (λ (o : Option (Entry Sym)). IsSomeAnd o (λ y. y.arrival ≡ arrival)) (sym given) s)

  part_of_rest : (next : Links) → next ≡ rest.value → IsPart n next l
  part_of_rest next q f y h =
      let below : at (partial_of n rest.value) f ≡ Some y = ap (λ (k : Links). at (partial_of n k) f) (sym q) ∙ h in
      elim (eqb_tells f event) [
        | inl s ↦ (let same = s.1 in let unbound : at (partial_of n rest.value) f ≡ None = rw same parts.1 in absurd (cc))
        | inr o ↦ ap (λ (k : Links). at (partial_of n k) f) is ∙ other f o.1 ∙ below
      ]

  pub rest_given : (all next : Links) (arrival : ℕ) → next ≡ rest.value → (entry.value.arrival ≡ arrival → ⊥) → IsPart n l all → ComesFrom n l all arrival → AreLinked n next × IsPart n next all × ComesFrom n next all arrival
  rest_given all next arrival q s part from = (
    subst (AreLinked n) (sym q) others,
    λ f y h. part f y (part_of_rest next q f y h),
    λ f y h t.
        let k = ap (λ (k : Links). at (partial_of n k) f) (sym is) ∙ from f y h t in
        elim (eqb_tells f event) [
          | inl r ↦ (let same : f ≡ event = r.1 in let k2 : at (partial_of n (Link known event entry rest)) event ≡ Some y = ap (λ (j : ℕ). at (partial_of n (Link known event entry rest)) j) (sym same) ∙ k in
              let both : entry_of entry.value ≡ y = some_same (sym here ∙ k2) in absurd (s (ap (λ (z : Entry Sym). z.arrival) both ∙ t)))
          | inr o ↦ ap (λ (k : Links). at (partial_of n k) f) q ∙ sym (other f o.1) ∙ k
        ],
  )
    where
      some_same : {a b : Entry Sym} → Some a ≡ Some b → a ≡ b
      some_same e = cc

-- no link has the arrival number
pub none_given : (n : ℕ) (known : Known) (l all : Links) (arrival f : ℕ) → l ≡ End known → ComesFrom n l all arrival → IfSome (at (partial_of n all) f) (λ y. y.arrival ≢ arrival)
none_given n known l all arrival f is from = some_if (at (partial_of n all) f) _ (λ y h t.
    let k : at (replicate n None) f ≡ Some y = ap (λ (k : Links). at (partial_of n k) f) (sym is) ∙ from f y h t in
    let free : Option (Entry Sym) = None in
    let unbound : at (replicate n None) f ≡ free = get-replicate n f free in
    absurd (cc))

pub early_rest : (known : Known) (event : ℕ) (entry : Rc CodeEntry Global) (rest : Rc Links Global) (l next : Links) → l ≡ Link known event entry rest → next ≡ rest.value → AreEarly l → AreEarly next
early_rest known event entry rest l next is q h = subst AreEarly (sym q) (let k : AreEarly (Link known event entry rest) = subst AreEarly is h in k.1)

-- all events are looked at
pub all_listed : (n k : ℕ) (l : Links) (es : List (Rc CodeEntry Global)) → n ≤ k → AreListed (take k (partial_of n l)) es → AreListed (partial_of n l) es
all_listed n k l es far h = subst (λ (a : Partial Sym). AreListed a es) (take_all k (partial_of n l) (let s = linked_len n l in omega arith)) h
