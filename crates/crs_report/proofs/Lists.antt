-- What stands behind an output, item by item; and what a filter keeps of members that are seen.
use Rattle.std.proofs.Common.{◌≡◌, ◌∙◌, ap, sym, refl, ℕ, ◌+◌, ◌<◌, Bool, true, false, cond, List, [], ◌∷◌, ◌++◌, length, get_or, drop, map, append_assoc}
use Rattle.std.specs.Prelude.{filter, flat_map}
use Rattle.std.specs.List.Retain.{IsFiltered}
use Rattle.std.proofs.lemmas.Fn.{filter_same}
use Rattle.std.proofs.lemmas.List.{drop_more}
use Rattle.crs_report.specs.Listeners.{Member, is_chosen, keep_members}

-- the text of an item was written behind the output: what is written and what is left are still all
pub written_next : {B C : Type 0} (f : C → List ℕ) (seen : B → C) (bs : List B) (i : ℕ) (b : B) (out new all : List ℕ)
    → i < length bs → b ≡ get_or bs i b → new ≡ out ++ f (seen b)
    → out ++ flat_map f (map seen (drop i bs)) ≡ all → new ++ flat_map f (map seen (drop (i + 1) bs)) ≡ all
written_next f seen bs i b out new all lt is n e =
    let d : drop i bs ≡ b ∷ drop (i + 1) bs = drop_more bs i b lt ∙ ap (λ z. z ∷ drop (i + 1) bs) (sym is) in
    rw (n, append_assoc) (rw d at e)

map-filter : {B C : Type 0} (seen : B → C) (test : C → Bool) (bs : List B) → map seen (filter (λ b. test (seen b)) bs) ≡ filter test (map seen bs)
map-filter seen test [] = refl
map-filter seen test (b ∷ bs) =
    elim (test (seen b)) as (λ t. map seen (cond t (b ∷ filter (λ x. test (seen x)) bs) (filter (λ x. test (seen x)) bs)) ≡ cond t (seen b ∷ filter test (map seen bs)) (filter test (map seen bs))) [
      | true ↦ ap (λ z. seen b ∷ z) (map-filter seen test bs)
      | false ↦ map-filter seen test bs
    ]

-- a test of the kind, by which a list was filtered
pub kept : {B F : Type 0} {R : F → B → Bool → F → Type 0} (seen : B → Member) (chosen : List Bool) (f : F) (olds news : List B)
    → IsFiltered R f olds news
    → ((b : B) (is : Bool) (f' : F) → R f b is f' → (is ≡ is_chosen chosen (seen b).0) × (f' ≡ f)) → map seen news ≡ keep_members chosen (map seen olds)
kept {R} seen chosen f olds news k h = ap (map seen) (filter_same R (λ b. is_chosen chosen (seen b).0) f h olds news k) ∙ map-filter seen (λ m. is_chosen chosen m.0) olds

-- a line is written piece by piece
pub written_line : (out one two three four name at mark points values cites feed : List ℕ) → one ≡ out ++ name ++ at ++ mark
    → two ≡ one ++ points → three ≡ two ++ values → four ≡ three ++ cites ++ feed
    → four ≡ out ++ (name ++ at ++ mark ++ points ++ values ++ cites ++ feed)
written_line out one two three four name at mark points values cites feed a b c d = rw (d, c, b, a) (simp append_assoc)
