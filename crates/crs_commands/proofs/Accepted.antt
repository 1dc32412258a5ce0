-- Of an accepted text each chronicle has its own stratum and its own lag, which is finite.
use Rattle.std.proofs.Common.{◌≡◌, ◌∙◌, refl, sym, ap, subst, ℕ, zero, suc, Bool, List, [], ◌∷◌, ◌++◌, length, map, Option, Some, None, inl, inr, arith, Ok}
use Rattle.std.specs.Prelude.{ℤ, pos, negsuc, take, zip}
use Rattle.std.specs.List.{AllByRecursion}
use Rattle.std.proofs.lemmas.Int.{ints}
use Rattle.crs_base.specs.Words.{IsIn}
use Rattle.crs_compile.proofs.UniqueLags.{one_lag_each, one_strata}
use Rattle.crs_model.specs.Models.{Chronicle, Models}
use Rattle.crs_model.specs.ProperModels.{AreProper}
use Rattle.crs_model.specs.Reach.{Bounds}
use Rattle.crs_model.specs.ShortLags.{AreLags}
use Rattle.crs_layers.specs.Strata.{Placed, IsPlaced}
use Rattle.crs_layers.proofs.Beginning.{zipped_length}
use Rattle.crs_parse.proofs.ReadProper.{read_proper}
use Rattle.crs_frames.specs.Frames.{placed_by, ArePlaced, Frame}
use Rattle.crs_outcomes.specs.ModelTexts.{IsAccepted}

pub are_placed : (cite : Bool) (symbols entries : ℕ) (text : List ℕ) (f : Frame) → IsAccepted cite symbols entries text f → ArePlaced f.models.chronicles f.placed
are_placed cite symbols entries text f a = record {
  strata = a.in_time.strata;
  lags = a.in_time.lags;
  are_strata = a.in_time.are_strata;
  are_lags = a.in_time.are_lags;
  is = a.placed;
}

-- they are placed in one way
pub one_placed : (m : Models (List ℕ)) → AreProper m → (ps qs : List (Placed (List ℕ))) → ArePlaced m.chronicles ps → ArePlaced m.chronicles qs → ps ≡ qs
one_placed m proper ps qs a b =
    let strata = one_strata m.chronicles a.strata b.strata proper.in_order a.are_strata b.are_strata in
    let lags = one_lag_each (m.names ++ m.derived) m.chronicles a.lags b.lags proper.chronicles a.are_lags b.are_lags in
    a.is ∙ (λ i. placed_by m.chronicles (strata i) (lags i)) ∙ sym b.is

-- an infinite lag is among all that chronicles have
among_all : (n : ℕ) (ks : List ℕ) (ls : List (Option ℤ)) → length ks ≡ n → length ls ≡ n → IsIn None ls → IsIn None (map (λ c. c.1) (zip (take n ks) (take n ls)))
among_all zero [] [] e q i = i
among_all zero [] (l ∷ ls) e q i = absurd (omega (arith, q))
among_all zero (k ∷ ks) ls e q i = absurd (omega (arith, e))
among_all (suc n) [] ls e q i = absurd (omega (arith, e))
among_all (suc n) (k ∷ ks) [] e q i = absurd (omega (arith, q))
among_all (suc n) (k ∷ ks) (l ∷ ls) e q (inl h) = inl h
among_all (suc n) (k ∷ ks) (l ∷ ls) e q (inr h) = inr (among_all n ks ls (omega (arith, e)) (omega (arith, q)) h)

finite_lag : (lag : Option ℤ) → Bounds lag (Some (pos 0)) → (lag ≡ None → ⊥) → (n : ℕ) × (lag ≡ Some (pos n))
finite_lag None b h = absurd (h refl)
finite_lag (Some (pos n)) b h = (n, refl)
finite_lag (Some (negsuc n)) b h = absurd (omega (arith, ints, b))

each_by : (cs : List (Chronicle (List ℕ))) (ks : List ℕ) (ls : List (Option ℤ)) → AreLags cs ls → (IsIn None ls → ⊥) → AllByRecursion IsPlaced (placed_by cs ks ls)
each_by [] ks ls h f = tt
each_by (c ∷ cs) [] ls h f = tt
each_by (c ∷ cs) (k ∷ ks) [] h f = tt
each_by (c ∷ cs) (k ∷ ks) (l ∷ ls) h f =
    let finite = finite_lag l (h.0.2.bounds (Some (pos 0)) (inl refl)) (λ e. f (inl (sym e))) in
    (record { most = h.0.0; minimal = h.0.1; lag = h.0.2; ticks = finite.0; finite = finite.1 }, each_by cs ks ls h.1 (λ i. f (inr i)))

pub each_placed : (cite : Bool) (symbols entries : ℕ) (text : List ℕ) (f : Frame) → IsAccepted cite symbols entries text f → AllByRecursion IsPlaced f.placed
each_placed cite symbols entries text f a =
    let cs = f.models.chronicles in
    let t = a.in_time in
    let strata : length t.strata ≡ length cs = sym (zipped_length _ cs t.strata t.are_strata) in
    let lags : length t.lags ≡ length cs = sym (zipped_length _ cs t.lags t.are_lags) in
    subst (AllByRecursion IsPlaced) (sym a.placed) (each_by cs t.strata t.lags t.are_lags (λ i. t.fast (length cs) (omega arith) (inl (among_all (length cs) t.strata t.lags strata lags i))))

-- a text is accepted as the models of one frame
pub one_frame : (cite : Bool) (symbols entries : ℕ) (text : List ℕ) (f g : Frame) → IsAccepted cite symbols entries text f → IsAccepted cite symbols entries text g → f ≡ g
one_frame cite symbols entries text f g a b =
    let one : Models (List ℕ) × List (List ℕ) = (f.models, f.texts) in
    let other : Models (List ℕ) × List (List ℕ) = (g.models, g.texts) in
    let read : Ok one ≡ Ok other = sym a.read ∙ b.read in
    let pair : one ≡ other = cc in
    let same : f.models ≡ g.models = ap (λ (p : Models (List ℕ) × List (List ℕ)). p.0) pair in
    let there : ArePlaced f.models.chronicles g.placed =
    subst (λ (m : Models (List ℕ)). ArePlaced m.chronicles g.placed) (sym same) (are_placed cite symbols entries text g b) in
    let placed : f.placed ≡ g.placed =
    one_placed f.models (read_proper symbols [] text f.models f.texts a.read) f.placed g.placed (are_placed cite symbols entries text f a) there in
    let s : f.symbols ≡ g.symbols = a.symbols_are ∙ sym b.symbols_are in
    let n : f.entries ≡ g.entries = a.entries_are ∙ sym b.entries_are in
    let c : f.cite ≡ g.cite = a.cite_is ∙ sym b.cite_is in
    λ i. record { models = (pair i).0; texts = (pair i).1; placed = placed i; symbols = s i; entries = n i; cite = c i }
