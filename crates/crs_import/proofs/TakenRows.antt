-- What a read of a record does to the records that a reader has left.
use Rattle.std.proofs.Common.{◌≡◌, ◌≢◌, ◌+◌, ℕ, Bool, true, false, List, [], ◌∷◌, length, Option, Some, None, inl, refl, sym, ap, ◌∙◌}
use Rattle.std.specs.Prelude.{IfSome, IsSomeAnd}
use Rattle.csv.specs.Machine.{Read, next_record}
use Rattle.csv.specs.Reading.{Reached, ReadRecord, ReadsNext, NextIs, ExplainsRead, records_from, pending_of, default_config}
use Rattle.csv.specs.declared.parser.State.{State}
use Rattle.csv.specs.declared.reader.Reader.{Reader}
use Rattle.csv.specs.declared.error.ErrorKind.{ErrorKind}
use Rattle.csv.specs.declared.error.ErrorKind.TheVariants as kind
use Rattle.csv.proofs.ReadFacts.{rows-more, rows-end}
use Rattle.crs_import.specs.Lengths.{is_lengths}
use Rattle.crs_import.specs.TableReading.{IsReading, Found, Took, Differs}
use Rattle.crs_import.proofs.Records.{first_row, no_row}

same_length : (o k : Option ℕ) (n : ℕ) → k ≡ Some n → IfSome o (λ e. k ≡ Some e) → IfSome o (λ e. n ≡ e)
same_length None k n a b = tt
same_length (Some e) k n a b = cc

more_rows : (s s2 : State) (y z : List ℕ) (f : List (List ℕ)) → Reached default_config s y (f ∷ []) s2 z
    → records_from default_config (length y + 1) s y ≡ f ∷ records_from default_config (length z + 1) s2 z
unfolding Reached
more_rows s s2 y z f h = rw (h.2, ← h.3.0, ← h.3.1) (first_row s y h.0 h.1)

module _ {R : Type 0} (rem : R → Option (List ℕ)) (old new : Reader R) where
  -- a record was found
  found_of : (f : List (List ℕ)) → IsReading rem old → ReadRecord rem old new true f → new.first ≡ true → new.flexible ≡ old.flexible → Found rem old new f
  unfolding Reached
  found_of f r h first flexible =
      let g = rows-more rem old new f default_config old.state r.bytes r.bytes [] r.config r.known (refl, refl) h in
      let lengths = h.5 refl r.flexible in
      let more = more_rows old.state new.state r.bytes g.0 f g.2 in
      record {
        rows = rw (r.known, g.1) more;
        reading = record { untrimmed = h.3 ∙ r.untrimmed; ready = inl first; flexible = flexible ∙ r.flexible; config = h.2 ∙ r.config; bytes = g.0; known = g.1 };
        size = lengths.1;
        same = same_length old.expected new.expected (length f) lengths.1 lengths.0;
      }

  pub took_of : (found : Bool) (f : List (List ℕ)) → IsReading rem old → ReadRecord rem old new found f → new.first ≡ true → new.flexible ≡ old.flexible → Took rem old new found f
  took_of true f r h first flexible = found_of f r h first flexible
  took_of false f r h first flexible = rw r.known (no_row old.state r.bytes (rows-end rem old new f default_config r.bytes r.config r.known h))

next_of : (o : Option Read) (f : List (List ℕ)) (s : State) (z : List ℕ) → NextIs o true f s z → (p : Read) × (o ≡ Some p) × (f ≡ p.0)
next_of None f s z n = cc n
next_of (Some p) f s z n = (p, refl, n.1)

read_of : (s b : State) (y : List ℕ) (k : Option (List ℕ)) (f : List (List ℕ)) → ReadsNext default_config s (Some y) k true f b → (p : Read) × (next_record default_config s [] [] y ≡ Some p) × (f ≡ p.0)
read_of s b y None f h = absurd h
read_of s b y (Some z) f h = next_of (next_record default_config s [] [] y) f b z h

other_length : (o : Option ℕ) (e n : ℕ) → o ≡ Some e → e ≢ n → IsSomeAnd o (λ k. n ≢ k)
other_length None e n a b = cc a
other_length (Some k) e n a b = λ same. b (cc)

module _ {R : Type 0} (rem : R → Option (List ℕ)) (old new : Reader R) where
  differs_at : (r : IsReading rem old) (f : List (List ℕ)) (expected len : ℕ) (p : Read) → next_record default_config old.state [] [] r.bytes ≡ Some p → f ≡ p.0
      → old.expected ≡ Some expected → expected ≢ len → length f ≡ len → Differs rem old
  differs_at r f expected len p e same a b d = record {
    first = p.0;
    rest = records_from default_config (length p.2 + 1) p.1 p.2;
    rows = rw r.known (first_row old.state r.bytes p e);
    differs = other_length old.expected expected (length p.0) a (λ t. b (t ∙ sym (ap length same) ∙ d));
  }

  -- a record of another length was found
  pub differs_of : (k : ErrorKind) → IsReading rem old → ExplainsRead rem old new false k → is_lengths k ≡ true → Differs rem old
  differs_of (kind.Io e) r h t = cc t
  differs_of kind.OutOfMemory r h t = cc t
  differs_of (kind.Utf8 pos err) r h t = cc t
  differs_of (kind.Serialize why) r h t = cc t
  differs_of (kind.Deserialize pos err) r h t = cc t
  differs_of (kind.UnequalLengths pos expected len) r h t =
      let took = read_of old.state new.state r.bytes (pending_of (rem new.rdr) new) h.3 (rw (r.config, r.known) at h.4) in
      differs_at r h.3 expected len took.0 took.1 took.2 h.1 h.2 h.5
