-- What the answer of a stratum's engine gives.
use Rattle.std.proofs.Common.{◌≡◌, ℕ, suc, ◌+◌, List, [], ◌∷◌, ◌++◌, map, refl, sym, ap, ◌∙◌, append-nil, append_assoc, arith}
use Rattle.std.specs.Prelude.{Option, Some, option_map, slice_get}
use Rattle.std.specs.List.{AllByRecursion, flat_map}
use Rattle.std.specs.Option.{option_to_list}
use Rattle.crs_base.specs.declared.symbols.Sym.{Sym}
use Rattle.crs_base.specs.Entry.{Entry}
use Rattle.crs_model.specs.declared.plan.Plan.{Plan}
use Rattle.crs_model.specs.declared.recognition.Mark.{Mark}
use Rattle.crs_model.specs.declared.recognition.Recognition.{Recognition}
use Rattle.crs_model.specs.Models.{Chronicle}
use Rattle.crs_model.specs.Plans.{chronicle}
use Rattle.crs_model.specs.Scopes.{Scope}
use Rattle.crs_model.specs.SeenModels.{assignment_of}
use Rattle.crs_store.specs.Answers.{IsRecognitionOf}
use Rattle.crs_engine.specs.Marks.{ListsAllNew}
use Rattle.crs_layers.specs.Strata.{given_by, gives, Give}
use Rattle.crs_layers.specs.Giving.{emits_at, given_of}

flat_append : {A B : Type 0} (f : A → List B) (xs ys : List A) → flat_map f (xs ++ ys) ≡ flat_map f xs ++ flat_map f ys
flat_append f [] ys = refl
flat_append f (x ∷ xs) ys = ap (λ zs. f x ++ zs) (flat_append f xs ys) ∙ sym (append_assoc (f x) (flat_map f xs) (flat_map f ys))

emits_here : (ps : List Plan) (n : ℕ) (p : Plan) → slice_get ps n ≡ Some p → emits_at ps n ≡ (chronicle p).emits
emits_here ps n p e = ap (λ (o : Option Plan). flat_map (λ (c : Chronicle Sym). c.emits) (option_to_list (option_map chronicle o))) e ∙ append-nil (chronicle p).emits

module _ (text_of : Sym → List ℕ) (all : List Plan) (mark : Mark) (was now : Chronicle Sym → Scope Sym) where
  one_given : (p : Plan) (n : ℕ) (rs : List Recognition) → slice_get all n ≡ Some p → AllByRecursion (IsRecognitionOf (chronicle p) n mark) rs
      → flat_map (given_of text_of all) rs ≡ flat_map (gives text_of (chronicle p)) (map assignment_of rs)
  one_given p n [] e h = refl
  one_given p n (r ∷ rs) e h =
      let at : emits_at all r.chronicle ≡ (chronicle p).emits = ap (emits_at all) h.0.chronicle ∙ emits_here all n p e in
      (λ i. flat_map (given_by text_of (assignment_of r)) (at i) ++ one_given p n rs e h.1 i)

  -- the plans from number n on
  pub given_from : (ps : List Plan) (n : ℕ) (answer : List Recognition) → ((k : ℕ) → slice_get all (n + k) ≡ slice_get ps k)
      → ListsAllNew ps n mark (λ p. was (chronicle p)) (λ p. now (chronicle p)) answer → Give text_of (map chronicle ps) was now (flat_map (given_of text_of all) answer)
  given_from [] n answer there l = ap (flat_map (given_of text_of all)) l
  given_from (p ∷ ps) n answer there l =
      let zero_there : n + 0 ≡ n = omega arith in
      let here : slice_get all n ≡ Some p = ap (slice_get all) (sym zero_there) ∙ there 0 in
      let next : (k : ℕ) → slice_get all (suc n + k) ≡ slice_get ps k = λ k. (let sum : suc n + k ≡ n + suc k = omega arith in ap (slice_get all) sum ∙ there (suc k)) in (
        map assignment_of l.0,
        flat_map (given_of text_of all) l.1,
        l.3.listed,
        given_from ps (suc n) l.1 next l.4,
        ap (flat_map (given_of text_of all)) l.2 ∙ flat_append (given_of text_of all) l.0 l.1 ∙ ap (λ (ys : List (Entry Sym)). ys ++ flat_map (given_of text_of all) l.1) (one_given p n l.0 here l.3.each),
      )
