-- What was told once no whole line is held.
use Rattle.std.proofs.Common.{◌≡◌, ℕ, ◌+◌, Bool, true, false, cond, ◌==◌, List, [], ◌∷◌, ◌++◌, filter, refl, sym, ap, ◌∙◌, true≢false, arith}
use Rattle.crs_base.specs.Lines.{Line, lines_of, onto}
use Rattle.crs_base.specs.Lines.{is_part}
use Rattle.crs_log.specs.Reading.{Given, Reader, given, given_line, given_lines, whole_lines, HasGiven}
use Rattle.crs_base.proofs.LineSteps.{part_lines, whole}

-- each line but the last is ended
abbrev Shaped : List Line → Type 0
Shaped [] = Unit {0}
Shaped (l ∷ []) = Unit {0}
Shaped (l ∷ m ∷ ls) = (l.ended ≡ true) × Shaped (m ∷ ls)

shaped_onto : (b : ℕ) (ls : List Line) → Shaped ls → Shaped (onto b ls)
shaped_onto b [] h = tt
shaped_onto b (l ∷ []) h = tt
shaped_onto b (l ∷ m ∷ ls) h = h

shaped_whole : (ls : List Line) → Shaped ls → Shaped (whole [] ∷ ls)
shaped_whole [] h = tt
shaped_whole (l ∷ ls) h = (refl, h)

shaped_by : (t : Bool) (b : ℕ) (ls : List Line) → Shaped ls → Shaped (cond t (whole [] ∷ ls) (onto b ls))
shaped_by true b ls h = shaped_whole ls h
shaped_by false b ls h = shaped_onto b ls h

shaped_lines : (text : List ℕ) → Shaped (lines_of text)
shaped_lines [] = tt
shaped_lines (b ∷ bs) = shaped_by (b == 10) b (lines_of bs) (shaped_lines bs)

abbrev ended_of : List Line → List Line
ended_of ls = filter (λ l. l.ended) ls

abbrev longer : ℕ → Line → Line
longer b l = record { raw = b ∷ l.raw; ended = l.ended }

-- some last line behind those that are ended
abbrev Closes : List Line → List Line → Type 0
Closes all ls = (last : Line) × (all ≡ ended_of ls ++ last ∷ [])

first_by : (b : ℕ) (l last : Line) (ms : List Line) (t : Bool) → l.ended ≡ t → Shaped (l ∷ ms)
    → Closes (onto b (cond t (l ∷ ended_of ms) (ended_of ms) ++ last ∷ [])) (longer b l ∷ ms)
first_by b l last ms true e h = (last, sym (λ i. cond (e i) (longer b l ∷ ended_of ms) (ended_of ms) ++ last ∷ []))
first_by b l last [] false e h = (longer b last, sym (λ i. cond (e i) (longer b l ∷ []) [] ++ longer b last ∷ []))
first_by b l last (m ∷ ms) false e h = absurd (true≢false (sym h.0 ∙ e))

onto_closes : (b : ℕ) (ls : List Line) (last : Line) → Shaped ls → Closes (onto b (ended_of ls ++ last ∷ [])) (onto b ls)
onto_closes b [] last h = (longer b last, refl)
onto_closes b (l ∷ ms) last h = first_by b l last ms l.ended refl h

closed_by : (t : Bool) (b : ℕ) (all ls : List Line) → Shaped ls → Closes all ls → Closes (cond t (whole [] ∷ all) (onto b all)) (cond t (whole [] ∷ ls) (onto b ls))
closed_by true b all ls h k = (k.0, ap (λ xs. whole [] ∷ xs) k.1)
closed_by false b all ls h k = let r = onto_closes b ls k.0 h in (r.0, ap (onto b) k.1 ∙ r.1)

-- a line feed ends the last line
closed : (text : List ℕ) → Closes (lines_of (text ++ 10 ∷ [])) (lines_of text)
closed [] = (whole [], refl)
closed (b ∷ bs) = closed_by (b == 10) b (lines_of (bs ++ 10 ∷ [])) (lines_of bs) (shaped_lines bs) (closed bs)

given_push : (limit n : ℕ) (ls : List Line) (last : Line) → (g : Given) × (given_lines limit n (ls ++ last ∷ []) ≡ given_lines limit n ls ++ g ∷ [])
given_push limit n [] last = (given_line limit (n + 1) last, refl)
given_push limit n (l ∷ ls) last = let r = given_push limit (n + 1) ls last in (r.0, ap (λ xs. given_line limit (n + 1) l ∷ xs) r.1)

part_closed : (limit n : ℕ) (rest : List ℕ) → is_part rest ≡ true → (g : Given) × (given limit n (rest ++ 10 ∷ []) ≡ g ∷ [])
part_closed limit n [] h = (given_line limit (n + 1) (whole []), refl)
part_closed limit n (b ∷ bs) h = (given_line limit (n + 1) (record { raw = (b ∷ bs) ++ []; ended = true }), ap (given_lines limit n) (part_lines (b ∷ bs) (10 ∷ []) (omega arith) h))

abbrev but_last : List Given → List Given
but_last [] = []
but_last (x ∷ []) = []
but_last (x ∷ y ∷ ys) = x ∷ but_last (y ∷ ys)

but_last_is : (xs : List Given) (x : Given) → but_last (xs ++ x ∷ []) ≡ xs
but_last_is [] x = refl
but_last_is (a ∷ []) x = refl
but_last_is (a ∷ b ∷ xs) x = ap (λ ys. a ∷ ys) (but_last_is (b ∷ xs) x)

-- exactly the whole lines were told
pub told_whole : (limit : ℕ) (fed : List ℕ) (told : List Given) (r : Reader) → HasGiven limit fed told r → is_part r.rest ≡ true → told ≡ given_lines limit 0 (whole_lines fed)
told_whole limit fed told r h k =
    let c = closed fed in
    let g = given_push limit 0 (whole_lines fed) c.0 in
    let p = part_closed r.limit r.number r.rest k in
    let e : told ++ p.0 ∷ [] ≡ given_lines limit 0 (whole_lines fed) ++ g.0 ∷ [] = sym (h (10 ∷ []) ∙ ap (λ xs. told ++ xs) p.1) ∙ ap (given_lines limit 0) c.1 ∙ g.1 in
    sym (but_last_is told p.0) ∙ ap but_last e ∙ but_last_is (given_lines limit 0 (whole_lines fed)) g.0
