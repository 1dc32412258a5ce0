-- The place of a source in the rounds.
use Rattle.std.proofs.Common.{◌≡◌, ◌∙◌, ap, sym, refl, subst, inl, inr, ℕ, zero, suc, ◌+◌, ◌<◌, ◌≤◌, Bool, true, false, cond, ◌==◌, List, [], ◌∷◌, ◌++◌, length, slice_get}
use Rattle.std.proofs.Common.{arith, append-nil, append_assoc, length-append, true≢false, Some}
use Rattle.crs_base.specs.Lines.{Line, lines_of, onto}
use Rattle.crs_log.specs.Reading.{Given, Gives, HasNoLine, Reader, ahead, given, given_lines, whole_lines}
use Rattle.crs_log.proofs.Prompt.{told_whole}
use Rattle.crs_rounds.specs.declared.source.Source.{Source}
use Rattle.crs_rounds.specs.Sources.{StandsAt, IsFed, IsFilled, closed, new_source, IsSourceAt}
use Rattle.crs_frames.proofs.ShortLines.{no_rest}

given_length : (limit n : ℕ) (ls : List Line) → length (given_lines limit n ls) ≡ length ls
given_length limit n [] = refl
given_length limit n (l ∷ ls) = ap suc (given_length limit (n + 1) ls)

onto_few : (b n : ℕ) (ls : List Line) → length ls ≤ n → length (onto b ls) ≤ suc n
onto_few b n [] h = omega arith
onto_few b n (l ∷ ls) h = omega (arith, h)

-- each line has a byte
lines_few : (bytes : List ℕ) → length (lines_of bytes) ≤ length bytes
lines_few [] = omega arith
lines_few (b ∷ bs) = by (b == 10) (lines_few bs)
  where
    by : (t : Bool) → length (lines_of bs) ≤ length bs → length (cond t (record { raw = []; ended = true } ∷ lines_of bs) (onto b (lines_of bs))) ≤ suc (length bs)
    by true h = omega (arith, h)
    by false h = onto_few b (length bs) (lines_of bs) h

-- the line at a place
pub line_at : (told rest : List Given) (g : Given) (k : ℕ) → length told ≡ k → slice_get (told ++ g ∷ rest) k ≡ Some g
line_at [] rest g zero e = refl
line_at [] rest g (suc k) e = absurd (omega (arith, e))
line_at (x ∷ told) rest g zero e = absurd (omega (arith, e))
line_at (x ∷ told) rest g (suc k) e = line_at told rest g k (omega (arith, e))

pub no_ahead : (r : Reader) → HasNoLine r → r.finished ≡ true → ahead r [] ≡ []
no_ahead r none e = ap (λ (xs : List ℕ). given_lines r.limit r.number (lines_of (xs ++ []))) (no_rest r.finished r.rest e none.0)

module _ (limit k : ℕ) (fed : List ℕ) (s t : Source) (a : StandsAt limit fed k s) where
  -- where a line is given, no end of it was met with all lines given
  pub is_going : (g : Given) → Gives s.lines g t.lines → length a.told ≡ k
  is_going g m = elim a.place [
    | inl e ↦ e
    | inr b ↦ (let first = m.ahead [] (λ q. refl) in let none = b.2 in absurd (cc))
  ]

  pub stand_given : (g : Given) → Gives s.lines g t.lines → t.taken ≡ s.taken → t.finished ≡ s.finished → StandsAt limit fed (k + 1) t
  stand_given g m taken finished =
      let e = is_going g m in
      record {
        short = m.limit ∙ a.short;
        ended = m.finished ∙ a.ended ∙ sym finished;
        fed_is = m.fed ∙ a.fed_is ∙ sym taken;
        taken = taken ∙ a.taken;
        most = omega (arith, a.most, taken);
        told = a.told ++ g ∷ [];
        lines = λ more h. a.lines more (λ q. h (finished ∙ q))
            ∙ ap (λ (gs : List Given). a.told ++ gs) (m.ahead more (λ q. h (finished ∙ sym a.ended ∙ q)))
            ∙ sym (append_assoc a.told (g ∷ []) (ahead t.lines more));
        place = inl (omega (arith, e, length-append a.told (g ∷ [])));
      }

  -- each line that was given has a byte that was fed
  pub given_below : (g : Given) → Gives s.lines g t.lines → k < limit
  given_below g m =
      let e = is_going g m in
      let all = ap length (a.lines [] (λ _. refl) ∙ ap (λ (gs : List Given). a.told ++ gs) (m.ahead [] (λ _. refl))) in
      let few = lines_few (fed ++ []) in
      omega (arith, e, all, few, given_length 4096 0 (lines_of (fed ++ [])), length-append a.told (g ∷ ahead t.lines []), length-append fed [], a.taken, a.most)

module _ (limit k : ℕ) (fed : List ℕ) (s : Source) (a : StandsAt limit fed k s) where
  pub few_told : length a.told ≤ k
  few_told = elim a.place [ inl e ↦ omega (arith, e) | inr b ↦ b.0 ]

  -- a source whose end was met, and that holds nothing
  pub stand_spent : HasNoLine s.lines → s.finished ≡ true → StandsAt limit fed (k + 1) s
  stand_spent none e = record {
    short = a.short;
    ended = a.ended;
    fed_is = a.fed_is;
    taken = a.taken;
    most = a.most;
    told = a.told;
    lines = a.lines;
    place = inr (omega (arith, few_told), e, no_ahead s.lines none (a.ended ∙ e));
  }

  -- all its lines are those that were told
  pub all_told : HasNoLine s.lines → s.finished ≡ true → given 4096 0 fed ≡ a.told
  all_told none e =
      ap (given 4096 0) (sym (append-nil fed)) ∙ a.lines [] (λ _. refl)
      ∙ ap (λ (gs : List Given). a.told ++ gs) (no_ahead s.lines none (a.ended ∙ e)) ∙ append-nil a.told

  module _ (going : s.finished ≡ false) where
    at_place : length a.told ≡ k
    at_place = elim a.place [ inl e ↦ e | inr b ↦ absurd (true≢false (sym b.1 ∙ going)) ]

    -- it has given exactly the lines that a line feed ends
    pub whole_are : HasNoLine s.lines → length (whole_lines fed) ≡ k
    whole_are none =
        let e : a.told ≡ given_lines 4096 0 (whole_lines fed) =
        told_whole 4096 fed a.told s.lines (λ more. a.lines more (λ q. absurd (true≢false (sym q ∙ going)))) none.1 in
        sym (given_length 4096 0 (whole_lines fed)) ∙ ap length (sym e) ∙ at_place

    stand_closed : StandsAt limit fed k (closed s)
    stand_closed = record {
      short = a.short;
      ended = refl;
      fed_is = a.fed_is;
      taken = a.taken;
      most = a.most;
      told = a.told;
      lines = λ more h. a.lines more (λ q. absurd (true≢false (sym q ∙ going)));
      place = inl at_place;
    }

    stand_fed : (piece : List ℕ) (t : Source) → IsFed piece s t → s.taken + length piece ≤ limit → StandsAt limit (fed ++ piece) k t
    stand_fed piece t i room = record {
      short = i.limit ∙ a.short;
      ended = i.open_still ∙ a.ended ∙ going ∙ sym i.going;
      fed_is = i.fed ∙ ap (λ n. n + length piece) a.fed_is ∙ sym i.taken;
      taken = i.taken ∙ ap (λ n. n + length piece) a.taken ∙ sym (length-append fed piece);
      most = omega (arith, i.taken, room);
      told = a.told;
      lines = λ more h.
          ap (given 4096 0) (append_assoc fed piece more) ∙ a.lines (piece ++ more) (λ q. absurd (true≢false (sym q ∙ going)))
          ∙ ap (λ (gs : List Given). a.told ++ gs) (sym (i.ahead_is more));
      place = inl at_place;
    }

    pub stand_filled : (piece : List ℕ) (t : Source) → IsFilled piece s t → s.taken + length piece ≤ limit → StandsAt limit (fed ++ piece) k t
    stand_filled piece t i room = elim i [
      | inl h ↦ subst (λ (x : Source). StandsAt limit (fed ++ piece) k x) (sym h.1)
          (subst (λ (bs : List ℕ). StandsAt limit bs k (closed s)) (sym (ap (λ (p : List ℕ). fed ++ p) h.0 ∙ append-nil fed)) stand_closed)
      | inr h ↦ stand_fed piece t h.1 room
    ]

    pub filled_input : (piece : List ℕ) (t : Source) → IsFilled piece s t → t.input ≡ s.input
    filled_input piece t i = elim i [ inl h ↦ ap (λ (x : Source). x.input) h.1 | inr h ↦ h.1.input ]

    pub filled_taken : (piece : List ℕ) (t : Source) → IsFilled piece s t → t.taken ≡ s.taken + length piece
    filled_taken piece t i = elim i [
      | inl h ↦ (let e = ap (λ (x : Source). x.taken) h.1 in let z = ap length h.0 in omega (arith, e, z))
      | inr h ↦ h.1.taken
    ]

-- a log that was just opened
pub stand_new : (limit input : ℕ) → StandsAt limit [] 0 (new_source input)
stand_new limit input = record {
  short = refl;
  ended = refl;
  fed_is = refl;
  taken = refl;
  most = omega arith;
  told = [];
  lines = λ more h. refl;
  place = inl refl;
}

-- inputs at their places
pub place_given : (inputs limit k : ℕ) (s t : Source) (g : Given) → IsSourceAt inputs limit k s → Gives s.lines g t.lines → t.input ≡ s.input → t.taken ≡ s.taken
    → t.finished ≡ s.finished → IsSourceAt inputs limit (k + 1) t × (k < limit)
place_given inputs limit k s t g p m input taken finished =
    ((omega (arith, p.0, input), p.1, stand_given limit k p.1 s t p.2 g m taken finished), given_below limit k p.1 s t p.2 g m)

pub place_spent : (inputs limit k : ℕ) (s : Source) → IsSourceAt inputs limit k s → HasNoLine s.lines → s.finished ≡ true → IsSourceAt inputs limit (k + 1) s
place_spent inputs limit k s p none e = (p.0, p.1, stand_spent limit k p.1 s p.2 none e)

pub place_filled : (inputs limit k : ℕ) (s t : Source) (piece : List ℕ) → IsSourceAt inputs limit k s → s.finished ≡ false → IsFilled piece s t → s.taken + length piece ≤ limit
    → IsSourceAt inputs limit k t
place_filled inputs limit k s t piece p going fill room =
    let e = filled_input limit k p.1 s p.2 going piece t fill in
    (omega (arith, p.0, e), p.1 ++ piece, stand_filled limit k p.1 s p.2 going piece t fill room)
