-- Several logs, opened one after the other.
use Rattle.std.proofs.Common.{◌≡◌, ◌∙◌, ap, sym, refl, inl, inr, ℕ, zero, suc, ◌+◌, ◌<◌, ◌≤◌, List, [], ◌∷◌, ◌++◌, length, take, map, get_or, arith, append-nil, append_assoc, Ok, Err, length-take-le}
use Rattle.std.proofs.lemmas.List.{map-append}
use Rattle.std.specs.Option.{unwrap_or}
use Rattle.crs_desk.specs.Desk.{Told, Stream, Opens, file_of}
use Rattle.crs_desk.specs.declared.desk.DeskError.TheVariants as errors
use Rattle.crs_rounds.specs.declared.source.Source.{Source}
use Rattle.crs_outcomes.specs.declared.status.Status.TheVariants.{ReadFault, Memory}
use Rattle.crs_outcomes.specs.Inputs.{bytes_of, after}
use Rattle.crs_rounds.specs.Opening.{HaveOpened, FailToOpen}
use Rattle.crs_rounds.specs.Sources.{new_source, new_sources}

-- one more name
pub take_one : (names : List (List ℕ)) (k : ℕ) (name : List ℕ) → k < length names → name ≡ get_or names k [] → take (k + 1) names ≡ take k names ++ name ∷ []
take_one [] k name l e = absurd (omega (arith, l))
take_one (n ∷ names) zero name l e = ap (λ (x : List ℕ). x ∷ []) (sym e)
take_one (n ∷ names) (suc k) name l e =
    let s : suc k + 1 ≡ suc (k + 1) = omega arith in
    ap (λ j. take j (n ∷ names)) s ∙ ap (λ (ns : List (List ℕ)). n ∷ ns) (take_one names k name (omega (arith, l)) e)

sources_behind : (base : ℕ) (ns : List (List ℕ)) (name : List ℕ) → new_sources base (ns ++ name ∷ []) ≡ new_sources base ns ++ new_source (base + length ns) ∷ []
sources_behind base [] name = let e : base ≡ base + 0 = omega arith in ap (λ k. new_source k ∷ []) e
sources_behind base (n ∷ ns) name =
    let e : base + 1 + length ns ≡ base + suc (length ns) = omega arith in
    ap (λ (ss : List Source). new_source base ∷ ss) (sources_behind (base + 1) ns name ∙ ap (λ k. new_sources (base + 1) ns ++ new_source k ∷ []) e)

pub take_long : (names : List (List ℕ)) (k : ℕ) → k ≤ length names → length (take k names) ≡ k
take_long names k l = length-take-le k names l

pub sources_one : (base k input : ℕ) (names : List (List ℕ)) (name : List ℕ) (was now : List Source) → k < length names → name ≡ get_or names k [] → input ≡ base + k
    → was ≡ new_sources base (take k names) → now ≡ was ++ new_source input ∷ [] → now ≡ new_sources base (take (k + 1) names)
sources_one base k input names name was now l e i h n =
    let long = take_long names k (omega (arith, l)) in
    n ∙ ap (λ (ss : List Source). ss ++ new_source input ∷ []) h
    ∙ ap (λ j. new_sources base (take k names) ++ new_source j ∷ []) (let q : input ≡ base + length (take k names) = omega (arith, i, long) in q)
    ∙ sym (sources_behind base (take k names) name) ∙ ap (new_sources base) (sym (take_one names k name l e))

abbrev stream_of : Told → List ℕ → Stream
stream_of old name = after (bytes_of old name) 0

streams_take : (old : Told) (k : ℕ) (names : List (List ℕ)) → map (stream_of old) (take k names) ≡ take k (map (stream_of old) names)
streams_take old zero names = refl
streams_take old (suc k) [] = refl
streams_take old (suc k) (n ∷ names) = ap (λ (ss : List Stream). stream_of old n ∷ ss) (streams_take old k names)

pub none_opened : (old : Told) (names : List (List ℕ)) → HaveOpened old (take 0 names) old
none_opened old names = record { files = refl; opened = sym (append-nil old.opened); left = sym (append-nil old.left); written = refl; turns = refl }

module _ (old mid new : Told) (names : List (List ℕ)) (k : ℕ) (name : List ℕ) (l : k < length names) (e : name ≡ get_or names k []) (h : HaveOpened old (take k names) mid) where
  same_stream : (record { taken = 0; rest = unwrap_or (file_of mid.files name) [] }) ≡ stream_of old name
  same_stream = ap (λ (x : List (List ℕ × List ℕ)). record { taken = 0; rest = unwrap_or (file_of x name) [] }) h.files

  pub one_opened : (i : ℕ) → Opens mid name (Ok i) new → HaveOpened old (take (k + 1) names) new
  one_opened i o = record {
    files = o.files ∙ h.files;
    opened = o.opened ∙ ap (λ (ns : List (List ℕ)). ns ++ name ∷ []) h.opened ∙ append_assoc old.opened (take k names) (name ∷ [])
        ∙ ap (λ (ns : List (List ℕ)). old.opened ++ ns) (sym (take_one names k name l e));
    left = o.ok ∙ (λ j. h.left j ++ same_stream j ∷ []) ∙ append_assoc old.left (map (stream_of old) (take k names)) (stream_of old name ∷ [])
        ∙ ap (λ (ss : List Stream). old.left ++ ss) (sym (map-append (stream_of old) (take k names) (name ∷ [])) ∙ ap (map (stream_of old)) (sym (take_one names k name l e)));
    written = o.written ∙ h.written;
    turns = o.turns ∙ h.turns;
  }

  pub open_failed : (base now : ℕ) → now ≡ base + k → Opens mid name (Err errors.Failed) new → FailToOpen base now old names (k + 1) k ReadFault new
  open_failed base now count o = record {
    did = record {
      files = o.files ∙ h.files;
      few = omega (arith, l);
      opened = o.opened ∙ ap (λ (ns : List (List ℕ)). ns ++ name ∷ []) h.opened ∙ append_assoc old.opened (take k names) (name ∷ [])
          ∙ ap (λ (ns : List (List ℕ)). old.opened ++ ns) (sym (take_one names k name l e));
      least = omega arith;
      most = omega arith;
      counted = count;
      left = o.err ∙ h.left ∙ ap (λ (ss : List Stream). old.left ++ ss) (streams_take old k names);
      turns = o.turns ∙ h.turns ∙ sym (append-nil old.turns);
    };
    failed = λ z. refl;
    cause = inl (refl, l);
    written = o.written ∙ h.written;
  }

  pub open_refused : (base now : ℕ) → now ≡ base + k → Opens mid name (Err errors.Memory) new → FailToOpen base now old names k k Memory new
  open_refused base now count o = record {
    did = record {
      files = o.files ∙ h.files;
      few = omega (arith, l);
      opened = o.opened ∙ h.opened;
      least = omega arith;
      most = omega arith;
      counted = count;
      left = o.err ∙ h.left ∙ ap (λ (ss : List Stream). old.left ++ ss) (streams_take old k names);
      turns = o.turns ∙ h.turns ∙ sym (append-nil old.turns);
    };
    failed = λ z. absurd (omega (arith, z));
    cause = inr refl;
    written = o.written ∙ h.written;
  }

  -- it was opened, and then memory was wanting
  pub open_wanting : (base now i : ℕ) → now ≡ base + k + 1 → Opens mid name (Ok i) new → FailToOpen base now old names (k + 1) (k + 1) Memory new
  open_wanting base now i count o =
      let g = one_opened i o in
      record {
        did = record {
          files = g.files;
          few = omega (arith, l);
          opened = g.opened;
          least = omega arith;
          most = omega arith;
          counted = omega (arith, count);
          left = g.left ∙ ap (λ (ss : List Stream). old.left ++ ss) (streams_take old (k + 1) names);
          turns = g.turns ∙ sym (append-nil old.turns);
        };
        failed = λ z. absurd (omega (arith, z));
        cause = inr refl;
        written = g.written;
      }
