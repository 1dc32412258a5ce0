-- The parts of an entry's symbols, one after another.
use Rattle.std.proofs.Common.{◌≡◌, ℕ, ◌<◌, ◌+◌, List, [], refl, false, subst, ◌∙◌, ◌⊎◌, inl, inr, arith}
use Rattle.std.specs.Prelude.{Option, Some, None, is_some}
use Rattle.std.proofs.lemmas.Bool.{cases_lt}
use Rattle.crs_base.specs.declared.symbols.Sym.{Sym}
use Rattle.crs_base.specs.Words.{IsIn}
use Rattle.crs_agenda.specs.declared.timed.Handle.{Handle}
use Rattle.crs_index.specs.Indexes.{IndexState, bucket_of}
use Rattle.crs_waiting.specs.declared.hooks.Symbols.{Symbols}
use Rattle.crs_store.specs.Forkings.{NoneWait, AreCandidates, AreCandidatesOf, KeepsStanding}
use Rattle.crs_waiting.specs.Hooks.{IsPart, IsAmong, KeepsFresh, Waits, key_with, part_of}
use Rattle.crs_living.specs.Slots.{SlotsState, handle_at}

-- ---- each part is one of those with a number

module _ (all part : Symbols) where
  at_number : (k : ℕ) → part.first ≡ (part_of all k).first → part.second ≡ (part_of all k).second → part.third ≡ (part_of all k).third → part ≡ part_of all k
  at_number k a b c = λ i. record { first = a i; second = b i; third = c i }

  -- which of the three are known
  pub among_eight : IsPart part all → IsAmong all part 8
  among_eight is = elim is.first [
    | inl a ↦ elim is.second [
      | inl b ↦ elim is.third [ inl c ↦ (0, omega arith, at_number 0 a b c) | inr c ↦ (4, omega arith, at_number 4 a b c) ]
      | inr b ↦ elim is.third [ inl c ↦ (2, omega arith, at_number 2 a b c) | inr c ↦ (6, omega arith, at_number 6 a b c) ]
    ]
    | inr a ↦ elim is.second [
      | inl b ↦ elim is.third [ inl c ↦ (1, omega arith, at_number 1 a b c) | inr c ↦ (5, omega arith, at_number 5 a b c) ]
      | inr b ↦ elim is.third [ inl c ↦ (3, omega arith, at_number 3 a b c) | inr c ↦ (7, omega arith, at_number 7 a b c) ]
    ]
  ]

-- ---- those that wait under the first of them

-- those that wait under the parts below n are in the places
pub record ArePartsTried (slots : SlotsState) (all : Symbols) (e d : ℕ) (symbols : List (Option Sym)) (n : ℕ) (old now : IndexState) (was places : List ℕ) : Type 0 where
  pub fresh : KeepsFresh slots.serials old now
  pub standing : KeepsStanding slots old now
  pub kept : (p : ℕ) → IsIn p was → IsIn p places
  pub noted : (k : ℕ) → k < n → AreCandidates slots old (key_with e (part_of all k)) e d symbols places

module _ (slots : SlotsState) (all : Symbols) (e d : ℕ) (symbols : List (Option Sym)) (old : IndexState) (was : List ℕ) where
  pub parts_none : ArePartsTried slots all e d symbols 0 old old was was
  parts_none = record { fresh = λ k h f i. i; standing = λ k p i s w. w; kept = λ p i. i; noted = λ k l. absurd (omega arith) }

  pub parts_more : (n : ℕ) (now next : IndexState) (places more : List ℕ) → ArePartsTried slots all e d symbols n old now was places → KeepsFresh slots.serials now next → KeepsStanding slots now next → ((p : ℕ) → IsIn p places → IsIn p more)
      → AreCandidates slots now (key_with e (part_of all n)) e d symbols more → ArePartsTried slots all e d symbols (n + 1) old next was more
  parts_more n now next places more a fresh standing kept here = record {
    fresh = λ k h f i. fresh k h f (a.fresh k h f i);
    standing = λ k p i s w. standing k p i s (a.standing k p i s w);
    kept = λ p i. kept p (a.kept p i);
    noted = λ k l. elim (cases_lt k n) [
      | inl b ↦ (λ p w i s inside agrees. kept p (a.noted k b p w i s inside agrees))
      | inr b ↦
          let same : k ≡ n = omega arith in
          (λ p w i s inside agrees. here p (a.standing (key_with e (part_of all n)) p i s (subst (λ (j : ℕ). Waits old (key_with e (part_of all j)) (handle_at slots p)) same w)) i s inside agrees)
    ];
  }

  pub parts_whole : (n : ℕ) (now : IndexState) (places : List ℕ) → ArePartsTried slots all e d symbols n old now was places → ((part : Symbols) → IsPart part all → IsAmong all part n) → AreCandidatesOf slots old all e d symbols places
  parts_whole n now places a each part is =
      let k = each part is in
      λ p w. a.noted k.0 k.1 p (subst (λ (s : Symbols). Waits old (key_with e s) (handle_at slots p)) k.2 w)

-- ---- where there is one of them at most

pub none_there : {A : Type 0} (o : Option A) → is_some o ≡ false → o ≡ None
none_there None e = refl
none_there (Some x) e = absurd (cc)

alone : (part all : Symbols) → all.second ≡ None → all.third ≡ None → IsPart part all → (part ≡ record { first = None; second = None; third = None }) ⊎ (part ≡ record { first = all.first; second = None; third = None })
alone part all second third is =
    let b : part.second ≡ None = elim is.second [ inl e ↦ e | inr e ↦ e ∙ second ] in
    let c : part.third ≡ None = elim is.third [ inl e ↦ e | inr e ↦ e ∙ third ] in
    elim is.first [
      | inl a ↦ inl (λ i. record { first = a i; second = b i; third = c i })
      | inr a ↦ inr (λ i. record { first = a i; second = b i; third = c i })
    ]

-- then there are two keys
pub alone_tried : (slots : SlotsState) (index mid : IndexState) (all : Symbols) (e d : ℕ) (symbols : List (Option Sym)) (between places : List ℕ) → all.second ≡ None → all.third ≡ None → KeepsStanding slots index mid → ((p : ℕ) → IsIn p between → IsIn p places)
    → AreCandidates slots index (key_with e (record { first = None; second = None; third = None })) e d symbols between → AreCandidates slots mid (key_with e (record { first = all.first; second = None; third = None })) e d symbols places → AreCandidatesOf slots index all e d symbols places
alone_tried slots index mid all e d symbols between places second third standing kept lacking having part is = elim (alone part all second third is) [
  | inl s ↦ (λ p w i at_p inside agrees. kept p (lacking p (subst (λ (q : Symbols). Waits index (key_with e q) (handle_at slots p)) s w) i at_p inside agrees))
  | inr s ↦ (λ p w i at_p inside agrees. having p (standing (key_with e (record { first = all.first; second = None; third = None })) p i at_p (subst (λ (q : Symbols). Waits index (key_with e q) (handle_at slots p)) s w)) i at_p inside agrees)
]

-- and one, where there is none
pub none_tried : (slots : SlotsState) (index : IndexState) (all : Symbols) (e d : ℕ) (symbols : List (Option Sym)) (places : List ℕ) → all.first ≡ None → all.second ≡ None → all.third ≡ None
    → AreCandidates slots index (key_with e (record { first = None; second = None; third = None })) e d symbols places → AreCandidatesOf slots index all e d symbols places
none_tried slots index all e d symbols places first second third lacking part is =
    let a : part.first ≡ None = elim is.first [ inl s ↦ s | inr s ↦ s ∙ first ] in
    let b : part.second ≡ None = elim is.second [ inl s ↦ s | inr s ↦ s ∙ second ] in
    let c : part.third ≡ None = elim is.third [ inl s ↦ s | inr s ↦ s ∙ third ] in
    let same : part ≡ record { first = None; second = None; third = None } = λ i. record { first = a i; second = b i; third = c i } in
    λ p w. lacking p (subst (λ (q : Symbols). Waits index (key_with e q) (handle_at slots p)) same w)

-- where none waits under these keys, none waits under a part
pub none_under : (index : IndexState) (all : Symbols) (e : ℕ) → all.second ≡ None → all.third ≡ None → bucket_of index (key_with e (record { first = None; second = None; third = None })) ≡ []
    → (all.first ≡ None) ⊎ (bucket_of index (key_with e (record { first = all.first; second = None; third = None })) ≡ []) → NoneWait index all e
none_under index all e second third lacking having part is h w = elim (alone part all second third is) [
  | inl s ↦ bare lacking (subst (λ (q : Symbols). Waits index (key_with e q) h) s w)
  | inr s ↦ elim having [
    | inl none ↦ bare lacking (subst (λ (o : Option Sym). Waits index (key_with e (record { first = o; second = None; third = None })) h) none (subst (λ (q : Symbols). Waits index (key_with e q) h) s w))
    | inr none ↦ bare none (subst (λ (q : Symbols). Waits index (key_with e q) h) s w)
  ]
]
  where
    bare : {hs : List Handle} → hs ≡ [] → IsIn h hs → ⊥
    bare none i = subst (λ (hs : List Handle). IsIn h hs) none i
