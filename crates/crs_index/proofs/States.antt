-- Lemmas on an index as contracts see it.
use Rattle.std.proofs.Common.{◌≡◌, ℕ, ◌+◌, ◌<◌, ◌⊎◌, inl, inr, List, [], ◌∷◌, ◌++◌, length, map, filter, refl, sym, ap, ◌∙◌, subst, arith, Bool, false, length-append, length-set}
use Rattle.std.proofs.Math.ListN.{set, get_or-map}
use Rattle.std.proofs.lemmas.List.{length-map, get_or-set_same, get_or-set_other, get_or_past}
use Rattle.std.proofs.lemmas.Bool.{cases_eq}
use Rattle.std.specs.Prelude.{◌≢◌}
use Rattle.std.specs.List.{AllByRecursion}
use Rattle.std.specs.declared.option.Option.{Option}
use Rattle.std.specs.declared.option.Option.TheVariants.{None, Some}
use Rattle.crs_agenda.specs.declared.timed.Handle.{Handle}
use Rattle.crs_agenda.specs.Freshness.{is_fresh}
use Rattle.crs_index.specs.declared.key.Key.{Key}
use Rattle.crs_index.specs.KeyNumbers.{NumbersState, number_in, is_key}
use Rattle.crs_index.specs.Indexes.{IndexState, IsSound, IsSame, IsFree, AreFree, IsKept, OpensBucket, Puts, Cleans, bucket_at, handles_at, bucket_of, number_of}
use Rattle.crs_index.proofs.Keys.{key_or_not, apart_from}
use Rattle.crs_index.proofs.Tables.{more_default}

some_is : (m n : ℕ) → Some m ≡ Some n → m ≡ n
some_is m n e = cc

-- a state of these two parts
abbrev pub of : NumbersState → List (List Handle) → IndexState
of N B = record { numbers = N; buckets = B }

free_map : (s t : IndexState) → ((q : ℕ) → IsFree s q → IsFree t q) → (S : List ℕ) → AreFree s S → AreFree t S
free_map s t step [] f = tt
free_map s t step (m ∷ ms) f = (step m f.0, f.1, free_map s t step ms f.2)

free_others : (s t : IndexState) (n : ℕ) → ((q : ℕ) → q ≢ n → IsFree s q → IsFree t q) → (S : List ℕ) → AllByRecursion (λ q. q ≢ n) S → AreFree s S → AreFree t S
free_others s t n step [] all f = tt
free_others s t n step (m ∷ ms) all f = (step m all.0 f.0, f.1, free_others s t n step ms all.1 f.2)

free_apart : (s : IndexState) (n : ℕ) → ((q : ℕ) → IsFree s q → q ≢ n) → (S : List ℕ) → AreFree s S → AllByRecursion (λ q. q ≢ n) S
free_apart s n step [] f = tt
free_apart s n step (m ∷ ms) f = (step m f.0, free_apart s n step ms f.2)

all_push : (P : ℕ → Type 0) (S : List ℕ) (n : ℕ) → AllByRecursion P S → P n → AllByRecursion P (S ++ n ∷ [])
all_push P [] n all p = (p, tt)
all_push P (m ∷ ms) n all p = (all.0, all_push P ms n all.1 p)

all_front : (P : ℕ → Type 0) (S : List ℕ) (n : ℕ) → AllByRecursion P (S ++ n ∷ []) → AllByRecursion P S
all_front P [] n all = tt
all_front P (m ∷ ms) n all = (all.0, all_front P ms n all.1)

all_last : (P : ℕ → Type 0) (S : List ℕ) (n : ℕ) → AllByRecursion P (S ++ n ∷ []) → P n
all_last P [] n all = all.0
all_last P (m ∷ ms) n all = all_last P ms n all.1

free_push : (s : IndexState) (n : ℕ) (S : List ℕ) → AreFree s S → IsFree s n → AllByRecursion (λ q. q ≢ n) S → AreFree s (S ++ n ∷ [])
free_push s n [] f p all = (p, tt, tt)
free_push s n (m ∷ ms) f p all = (f.0, all_push (λ q. q ≢ m) ms n f.1 (λ e. all.0 (sym e)), free_push s n ms f.2 p all.1)

-- what is known of the bucket n that a key is to get, and of the spare ones that are left
pub record IsOpen (s : IndexState) (S : List ℕ) (n : ℕ) : Type 0 where
  pub kept : IsKept s S
  pub this : IsFree s n
  pub left : AllByRecursion (λ q. q ≢ n) S

free_pop : (s : IndexState) (n : ℕ) (S : List ℕ) → AreFree s (S ++ n ∷ []) → AreFree s S × IsFree s n × AllByRecursion (λ q. q ≢ n) S
free_pop s n [] f = (tt, f.0, tt)
free_pop s n (m ∷ ms) f =
    let rest = free_pop s n ms f.2 in
    ((f.0, all_front (λ q. q ≢ m) ms n f.1, rest.0), rest.1, (λ e. all_last (λ q. q ≢ m) ms n f.1 (sym e), rest.2))

behind : (N : NumbersState) (B : List (List Handle)) → IsSound (of N B) → (S : List ℕ) → AreFree (of N B) S → IsOpen (of N (B ++ [] ∷ [])) S (length B)
behind N B s S f =
    let long : length (B ++ [] ∷ []) ≡ length B + 1 = length-append B ([] ∷ []) in
    record {
      kept = record {
        sound = record { below = λ k n e. (let h : n < length B = s.below k n e in omega arith); apart = s.apart };
        free = free_map (of N B) (of N (B ++ [] ∷ [])) (λ q g. record {
          below = (let h : q < length B = g.below in omega arith);
          empty = more_default B q [] ∙ g.empty;
          unnamed = g.unnamed;
        }) S f;
      };
      this = record {
        below = omega arith;
        empty = more_default B (length B) [] ∙ get_or_past B (length B) [] (omega arith);
        unnamed = λ k e. (let h : length B < length B = s.below k (length B) e in absurd (omega arith));
      };
      left = free_apart (of N B) (length B) (λ q g e. (let h : q < length B = g.below in absurd (omega arith))) S f;
    }

pub opened : (N : NumbersState) (B C : List (List Handle)) (S L : List ℕ) (n : ℕ) → IsKept (of N B) S → OpensBucket B C S L n → IsOpen (of N C) L n
opened N B C S L n k (inl g) =
    let f = free_pop (of N B) n L (subst (λ (T : List ℕ). AreFree (of N B) T) g.0 k.free) in
    subst (λ (D : List (List Handle)). IsOpen (of N D) L n) (sym g.1) (record { kept = record { sound = k.sound; free = f.0 }; this = f.1; left = f.2 })
opened N B C S L n k (inr g) =
    subst (λ (D : List (List Handle)). IsOpen (of N D) L n) (sym g.2) (subst (λ (m : ℕ). IsOpen (of N (B ++ [] ∷ [])) L m) (sym g.1) (subst (λ (T : List ℕ). IsOpen (of N (B ++ [] ∷ [])) T (length B)) (sym g.0) (behind N B k.sound S k.free)))

-- the number that no key got is spare again, or lost
pub given_back : (N : NumbersState) (B : List (List Handle)) (S T : List ℕ) (n : ℕ) → IsOpen (of N B) S n → ((T ≡ S) ⊎ (T ≡ S ++ n ∷ [])) → IsKept (of N B) T
given_back N B S T n open_n (inl e) = subst (λ (U : List ℕ). IsKept (of N B) U) (sym e) open_n.kept
given_back N B S T n open_n (inr e) =
    subst (λ (U : List ℕ). IsKept (of N B) U) (sym e) (record { sound = open_n.kept.sound; free = free_push (of N B) n S open_n.kept.free open_n.this open_n.left })

same_more : (B : List (List Handle)) (o : Option ℕ) → handles_at (B ++ [] ∷ []) o ≡ handles_at B o
same_more B None = refl
same_more B (Some n) = more_default B n []

pub opened_same : (B C : List (List Handle)) (S L : List ℕ) (n : ℕ) → OpensBucket B C S L n → (o : Option ℕ) → handles_at C o ≡ handles_at B o
opened_same B C S L n (inl g) o = ap (λ (D : List (List Handle)). handles_at D o) g.1
opened_same B C S L n (inr g) o = ap (λ (D : List (List Handle)). handles_at D o) g.2 ∙ same_more B o

-- the numbers are as they were
pub kept_same : (N M : NumbersState) (B : List (List Handle)) (S : List ℕ) → ((k : Key) → number_in M k ≡ number_in N k) → IsKept (of N B) S → IsKept (of M B) S
kept_same N M B S same k = record {
  sound = record {
    below = λ j n e. k.sound.below j n (sym (same j) ∙ e);
    apart = λ i j n ei ej. k.sound.apart i j n (sym (same i) ∙ ei) (sym (same j) ∙ ej);
  };
  free = free_map (of N B) (of M B) (λ q g. record { below = g.below; empty = g.empty; unnamed = λ j e. g.unnamed j (sym (same j) ∙ e) }) S k.free;
}

-- the key got the open number n
module _ (N M : NumbersState) (B : List (List Handle)) (S : List ℕ) (key : Key) (n : ℕ) (open_n : IsOpen (of N B) S n) (here : number_in M key ≡ Some n) (others : (k : Key) → is_key key k ≡ false → number_in M k ≡ number_in N k) where
  found : (k : Key) (m : ℕ) → number_in M k ≡ Some m → ((key ≡ k) × (n ≡ m)) ⊎ (number_in N k ≡ Some m)
  found k m e = elim (key_or_not key k) [
    | inl same ↦ inl (same, some_is n m (sym here ∙ (ap (number_in M) same ∙ e)))
    | inr apart ↦ inr (sym (others k apart) ∙ e)
  ]

  named_below : (k : Key) (m : ℕ) → number_in M k ≡ Some m → m < length B
  named_below k m e = elim (found k m e) [
    | inl g ↦ subst (λ (x : ℕ). x < length B) g.1 open_n.this.below
    | inr g ↦ open_n.kept.sound.below k m g
  ]

  named_apart : (j k : Key) (m : ℕ) → number_in M j ≡ Some m → number_in M k ≡ Some m → j ≡ k
  named_apart j k m ej ek = elim (found j m ej) [
    | inl g ↦ elim (found k m ek) [
      | inl h ↦ sym g.0 ∙ h.0
      | inr h ↦ absurd (open_n.this.unnamed k (h ∙ ap Some (sym g.1)))
    ]
    | inr g ↦ elim (found k m ek) [
      | inl h ↦ absurd (open_n.this.unnamed j (g ∙ ap Some (sym h.1)))
      | inr h ↦ open_n.kept.sound.apart j k m g h
    ]
  ]

  named_free : (q : ℕ) → q ≢ n → (k : Key) → (number_in N k ≡ Some q → ⊥) → number_in M k ≡ Some q → ⊥
  named_free q ne k none e = elim (found k q e) [
    | inl g ↦ ne (sym g.1)
    | inr g ↦ none g
  ]

  pub named_kept : IsKept (of M B) S
  named_kept = record {
    sound = record { below = named_below; apart = named_apart };
    free = free_others (of N B) (of M B) n (λ q ne g. record { below = g.below; empty = g.empty; unnamed = λ k. named_free q ne k (g.unnamed k) }) S open_n.left open_n.kept.free;
  }

  pub named_same : number_in N key ≡ None → (k : Key) → handles_at B (number_in M k) ≡ handles_at B (number_in N k)
  named_same none k = elim (key_or_not key k) [
    | inl same ↦ ap (λ (x : Key). handles_at B (number_in M x)) (sym same) ∙ (ap (handles_at B) here ∙ (open_n.this.empty ∙ (sym (ap (handles_at B) none) ∙ ap (λ (x : Key). handles_at B (number_in N x)) same)))
    | inr apart ↦ ap (handles_at B) (others k apart)
  ]

-- the key, whose bucket n is empty, lost it
module _ (N M : NumbersState) (B : List (List Handle)) (S : List ℕ) (key : Key) (n : ℕ) (kept : IsKept (of N B) S) (was : number_in N key ≡ Some n) (empty : bucket_at B n ≡ []) (here : number_in M key ≡ None) (others : (k : Key) → is_key key k ≡ false → number_in M k ≡ number_in N k) where
  still : (k : Key) (m : ℕ) → number_in M k ≡ Some m → (is_key key k ≡ false) × (number_in N k ≡ Some m)
  still k m e = elim (key_or_not key k) [
    | inl same ↦ (let f : None ≡ Some m = sym here ∙ (ap (number_in M) same ∙ e) in cc)
    | inr apart ↦ (apart, sym (others k apart) ∙ e)
  ]

  lost : (k : Key) → number_in M k ≡ Some n → ⊥
  lost k e =
      let g = still k n e in
      apart_from key k g.0 (kept.sound.apart key k n was g.1)

  freed_one : (q : ℕ) → IsFree (of N B) q → IsFree (of M B) q
  freed_one q g = record { below = g.below; empty = g.empty; unnamed = λ k e. g.unnamed k (still k q e).1 }

  pub freed_kept : IsKept (of M B) (S ++ n ∷ [])
  freed_kept = record {
    sound = record {
      below = λ k m e. kept.sound.below k m (still k m e).1;
      apart = λ j k m ej ek. kept.sound.apart j k m (still j m ej).1 (still k m ek).1;
    };
    free = free_push (of M B) n S (free_map (of N B) (of M B) freed_one S kept.free)
        (record { below = kept.sound.below key n was; empty = empty; unnamed = lost })
        (free_apart (of N B) n (λ q g e. g.unnamed key (was ∙ ap Some (sym e))) S kept.free);
  }

  pub freed_same : (k : Key) → handles_at B (number_in M k) ≡ handles_at B (number_in N k)
  freed_same k = elim (key_or_not key k) [
    | inl same ↦ ap (λ (x : Key). handles_at B (number_in M x)) (sym same) ∙ (ap (handles_at B) here ∙ (sym empty ∙ (sym (ap (handles_at B) was) ∙ ap (λ (x : Key). handles_at B (number_in N x)) same)))
    | inr apart ↦ ap (handles_at B) (others k apart)
  ]

-- buckets of one number, of which those that are empty stay so
pub kept_buckets : (N : NumbersState) (B C : List (List Handle)) (S : List ℕ) → length C ≡ length B → ((q : ℕ) → IsFree (of N B) q → bucket_at C q ≡ []) → IsKept (of N B) S → IsKept (of N C) S
kept_buckets N B C S len empty k = record {
  sound = record { below = λ j n e. (let h : n < length B = k.sound.below j n e in omega arith); apart = k.sound.apart };
  free = free_map (of N B) (of N C) (λ q g. record { below = (let h : q < length B = g.below in omega arith); empty = empty q g; unnamed = g.unnamed }) S k.free;
}

pub other_handles : (B C : List (List Handle)) (o : Option ℕ) (n : ℕ) → ((m : ℕ) → (m ≡ n → ⊥) → bucket_at C m ≡ bucket_at B m) → (o ≡ Some n → ⊥) → handles_at C o ≡ handles_at B o
other_handles B C None n f ne = refl
other_handles B C (Some m) n f ne = f m (λ e. ne (ap Some e))

pub puts : (old mid : IndexState) (B : List (List Handle)) (key : Key) (h : Handle) (n : ℕ) → IsSame old mid → IsSound mid → number_of mid key ≡ Some n → B ≡ set mid.buckets n (bucket_at mid.buckets n ++ h ∷ []) → Puts old (of mid.numbers B) key h
puts old mid B key h n same s e put =
    let within : n < length mid.buckets = s.below key n e in
    let written : bucket_at B n ≡ bucket_at mid.buckets n ++ h ∷ [] = ap (λ (C : List (List Handle)). bucket_at C n) put ∙ get_or-set_same mid.buckets n _ [] within in
    let was : bucket_at mid.buckets n ≡ bucket_of old key = sym (ap (handles_at mid.buckets) e) ∙ same key in
    record {
      here = ap (handles_at B) e ∙ (written ∙ ap (λ (l : List Handle). l ++ h ∷ []) was);
      others = λ k apart.
          other_handles mid.buckets B (number_of mid k) n
          (λ m ne. ap (λ (C : List (List Handle)). bucket_at C m) put ∙ get_or-set_other mid.buckets n m _ [] ne)
          (λ found. apart (s.apart key k n e found))
          ∙ same k;
    }

pub put_kept : (N : NumbersState) (B C : List (List Handle)) (S : List ℕ) (key : Key) (n : ℕ) (items : List Handle) → IsKept (of N B) S → number_in N key ≡ Some n → C ≡ set B n items → IsKept (of N C) S
put_kept N B C S key n items k e put =
    kept_buckets N B C S (ap length put ∙ length-set B n items)
    (λ q g. ap (λ (D : List (List Handle)). bucket_at D q) put ∙ (get_or-set_other B n q items [] (λ same. g.unnamed key (e ∙ ap Some (sym same))) ∙ g.empty)) k

-- the bucket n was cleaned
module _ (p : Handle → Bool) (B C : List (List Handle)) (n : ℕ) (within : n < length B) (clean : C ≡ set B n (filter p (bucket_at B n))) where
  cleaned_here : bucket_at C n ≡ filter p (bucket_at B n)
  cleaned_here = ap (λ (D : List (List Handle)). bucket_at D n) clean ∙ get_or-set_same B n _ [] within

  cleaned_others : (m : ℕ) → m ≢ n → bucket_at C m ≡ bucket_at B m
  cleaned_others m ne = ap (λ (D : List (List Handle)). bucket_at D m) clean ∙ get_or-set_other B n m _ [] ne

  cleaned_count : length C ≡ length B
  cleaned_count = ap length clean ∙ length-set B n _

  cleaned_empty : (q : ℕ) → bucket_at B q ≡ [] → bucket_at C q ≡ []
  cleaned_empty q e = elim (cases_eq q n) [
    | inl same ↦ ap (bucket_at C) same ∙ (cleaned_here ∙ ap (filter p) (ap (bucket_at B) (sym same) ∙ e))
    | inr ne ↦ cleaned_others q ne ∙ e
  ]

  pub cleaned_kept : (N : NumbersState) (S : List ℕ) → IsKept (of N B) S → IsKept (of N C) S
  cleaned_kept N S k = kept_buckets N B C S cleaned_count (λ q g. cleaned_empty q g.empty) k

pub cleaned : (N : NumbersState) (B C : List (List Handle)) (n : ℕ) (serials : List ℕ) → n < length B → C ≡ set B n (filter (is_fresh serials) (bucket_at B n)) → Cleans (of N B) (of N C) n serials
cleaned N B C n serials within clean =
    let p = is_fresh serials in
    record {
      here = cleaned_here p B C n within clean;
      others = cleaned_others p B C n within clean;
      count = cleaned_count p B C n within clean;
      numbers = λ k. refl;
      own_key = λ k e. rw e (cleaned_here p B C n within clean);
      other_keys = λ k ne. other_handles B C (number_in N k) n (cleaned_others p B C n within clean) ne;
    }

pub swept : (p : Handle → Bool) (B : List (List Handle)) (o : Option ℕ) → handles_at (map (filter p) B) o ≡ filter p (handles_at B o)
swept p B None = refl
swept p B (Some n) = get_or-map (filter p) B n []

pub swept_kept : (N : NumbersState) (p : Handle → Bool) (B C : List (List Handle)) (S : List ℕ) → C ≡ map (filter p) B → IsKept (of N B) S → IsKept (of N C) S
swept_kept N p B C S e k =
    kept_buckets N B C S (ap length e ∙ length-map B (filter p)) (λ q g. ap (λ (D : List (List Handle)). bucket_at D q) e ∙ (get_or-map (filter p) B q [] ∙ ap (filter p) g.empty)) k
