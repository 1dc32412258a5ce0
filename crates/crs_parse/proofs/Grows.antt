-- Tables that grow.
use Rattle.std.proofs.Common.{◌≡◌, ℕ, ◌<◌, suc, Bool, true, false, cond, List, [], ◌∷◌, ◌++◌, map, get_or, length, refl, sym, ap, subst, ◌∙◌, append_assoc, Bor, inl, inr, zero, arith}
use Rattle.std.specs.Prelude.{Result, Ok, Err, IfOk}
use Rattle.std.proofs.lemmas.List.{append-nil}
use Rattle.crs_base.specs.Lines.{Line}
use Rattle.crs_base.specs.Words.{IsIn}
use Rattle.crs_base.specs.Symbols.{is_known, with_text}
use Rattle.crs_base.proofs.Words.{in_append_left, in_append_right}
use Rattle.crs_parse.specs.Grows.{Grows, AreAmong, read_symbols, line_symbols, lines_symbols}
use Rattle.crs_parse.specs.ModelSteps.{inside_line, outside_line}
use Rattle.crs_base.specs.Lines.{bytes_of}
use Rattle.crs_base.proofs.Alls.{all_append, all_each}

pub grows_none : (among old new : List (List ℕ)) → new ≡ old → Grows among old new
grows_none among old new e = record { more = []; is = e ∙ sym (append-nil old); all = tt }

pub grows_then : (among old mid new : List (List ℕ)) → Grows among old mid → Grows among mid new → Grows among old new
grows_then among old mid new g h = record {
  more = g.more ++ h.more;
  is = h.is ∙ ap (λ l. l ++ h.more) g.is ∙ append_assoc old g.more h.more;
  all = all_append (λ t. IsIn t among) g.more h.more g.all h.all;
}

pub grows_within : (among more old new : List (List ℕ)) → ((t : List ℕ) → IsIn t among → IsIn t more) → Grows among old new → Grows more old new
grows_within among more old new f g = record { more = g.more; is = g.is; all = all_each g.more f g.all }

one_by : (b : Bool) (among old : List (List ℕ)) (t : List ℕ) → IsIn t among → Grows among old (cond b old (old ++ t ∷ []))
one_by true among old t i = grows_none among old old refl
one_by false among old t i = record { more = t ∷ []; is = refl; all = (i, tt) }

pub grows_one : (among old new : List (List ℕ)) (t : List ℕ) → IsIn t among → new ≡ with_text old t → Grows among old new
grows_one among old new t i e = subst (Grows among old) (sym e) (one_by (is_known old t) among old t i)

-- an element is one of the texts
pub is_in_at : (xs : List (Bor (List ℕ))) (i : ℕ) (d : Bor (List ℕ)) → i < length xs → IsIn (get_or xs i d).now (map (λ (t : Bor (List ℕ)). t.now) xs)
is_in_at [] i d h = absurd (omega arith)
is_in_at (x ∷ xs) zero d h = inl refl
is_in_at (x ∷ xs) (suc i) d h = inr (is_in_at xs i d (omega arith))

-- the symbols of a line that is read inside a chronicle or outside
pub grows_inside : (l : Line) (old new : List (List ℕ)) → Grows (read_symbols (inside_line (bytes_of l))) old new → Grows (line_symbols l) old new
grows_inside l old new g = grows_within (read_symbols (inside_line (bytes_of l))) (line_symbols l) old new (λ t i. in_append_left (read_symbols (inside_line (bytes_of l))) (read_symbols (outside_line (bytes_of l))) t i) g

pub grows_outside : (l : Line) (old new : List (List ℕ)) → Grows (read_symbols (outside_line (bytes_of l))) old new → Grows (line_symbols l) old new
grows_outside l old new g = grows_within (read_symbols (outside_line (bytes_of l))) (line_symbols l) old new (λ t i. in_append_right (read_symbols (inside_line (bytes_of l))) (read_symbols (outside_line (bytes_of l))) t i) g

-- those of a first line, and of the lines behind it
pub grows_first : (l : Line) (ls lines : List Line) (old new : List (List ℕ)) → lines ≡ l ∷ ls → Grows (line_symbols l) old new → Grows (lines_symbols lines) old new
grows_first l ls lines old new e g = subst (λ x. Grows (lines_symbols x) old new) (sym e) (grows_within (line_symbols l) (lines_symbols (l ∷ ls)) old new (in_append_left (line_symbols l) (lines_symbols ls)) g)

pub grows_rest : (l : Line) (ls lines : List Line) (old new : List (List ℕ)) → lines ≡ l ∷ ls → Grows (lines_symbols ls) old new → Grows (lines_symbols lines) old new
grows_rest l ls lines old new e g = subst (λ x. Grows (lines_symbols x) old new) (sym e) (grows_within (lines_symbols ls) (lines_symbols (l ∷ ls)) old new (in_append_right (line_symbols l) (lines_symbols ls)) g)

pub among_own : (ls : List Line) → AreAmong ls ls
among_own ls = record { each = λ t i. i }

pub among_rest : (l : Line) (ls lines all : List Line) → lines ≡ l ∷ ls → AreAmong lines all → AreAmong ls all
among_rest l ls lines all e h = record { each = λ t i. h.each t (subst (λ x. IsIn t (lines_symbols x)) (sym e) (in_append_right (line_symbols l) (lines_symbols ls) t i)) }

pub among_then : (ls mid all : List Line) → AreAmong ls mid → AreAmong mid all → AreAmong ls all
among_then ls mid all g h = record { each = λ t i. h.each t (g.each t i) }

-- the next line of those that are left
pub grows_line : (l : Line) (ls lines all : List Line) (old mid new : List (List ℕ)) → lines ≡ l ∷ ls → AreAmong lines all → Grows (lines_symbols all) old mid → Grows (line_symbols l) mid new → Grows (lines_symbols all) old new
grows_line l ls lines all old mid new e h g k =
    grows_then (lines_symbols all) old mid new g (grows_within (lines_symbols lines) (lines_symbols all) mid new h.each (grows_first l ls lines mid new e k))

-- the next part of those that are left
pub grows_part : (lines all : List Line) (old mid new : List (List ℕ)) → AreAmong lines all → Grows (lines_symbols all) old mid → Grows (lines_symbols lines) mid new → Grows (lines_symbols all) old new
grows_part lines all old mid new h g k = grows_then (lines_symbols all) old mid new g (grows_within (lines_symbols lines) (lines_symbols all) mid new h.each k)

pub if_each : {X E : Type 0} (P Q : X → Type 0) (r : Result X E) → ((x : X) → P x → Q x) → IfOk r P → IfOk r Q
if_each P Q (Ok x) f h = f x h
if_each P Q (Err e) f h = tt
