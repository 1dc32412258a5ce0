-- The text of a chronicle, part by part.
use Rattle.std.proofs.Common.{◌≡◌, ℕ, ◌<◌, ◌+◌, suc, add-one, drop, drop-cons, get_or, length, subst, List, [], ◌∷◌, ◌++◌, map, refl, sym, ap, ◌∙◌, append_assoc}
use Rattle.std.specs.List.{flat_map}
use Rattle.std.proofs.lemmas.Grind.{flat_map-append}
use Rattle.std.specs.List.{AllByRecursion}
use Rattle.std.proofs.lemmas.List.{map-append, append-nil}
use Rattle.crs_base.specs.declared.symbols.Sym.{Sym}
use Rattle.crs_base.proofs.Alls.{all_append}
use Rattle.crs_model.specs.declared.chronicle.EventDef.{EventDef as CodeEvent}
use Rattle.crs_model.specs.SeenModels as view
use Rattle.crs_model.specs.Renaming.{text_in, renamed_event}
use Rattle.crs_grammar.specs.Statements.{Statement}
use Rattle.crs_grammar.specs.Canon.{statement_line}

regrouped : (g : Statement → List ℕ) (b k : Statement) (e p d s f w m : List Statement) (o : List ℕ)
    → (((((((o ++ g b) ++ flat_map g e) ++ flat_map g p) ++ flat_map g d) ++ flat_map g s) ++ flat_map g f) ++ flat_map g w) ++ flat_map g m ++ g k ≡ o ++ flat_map g (b ∷ e ++ p ++ d ++ s ++ f ++ w ++ m ++ k ∷ [])
regrouped g b k e p d s f w m o = simp (flat_map-append, append_assoc, append-nil)

-- nine parts, each behind those before
pub joined : (b k : Statement) (e p d s f w m : List Statement) (o0 o1 o2 o3 o4 o5 o6 o7 o8 o9 : List ℕ)
    → o1 ≡ o0 ++ statement_line b → o2 ≡ o1 ++ flat_map statement_line e → o3 ≡ o2 ++ flat_map statement_line p → o4 ≡ o3 ++ flat_map statement_line d
    → o5 ≡ o4 ++ flat_map statement_line s → o6 ≡ o5 ++ flat_map statement_line f → o7 ≡ o6 ++ flat_map statement_line w → o8 ≡ o7 ++ flat_map statement_line m
    → o9 ≡ o8 ++ statement_line k
    → o9 ≡ o0 ++ flat_map statement_line (b ∷ e ++ p ++ d ++ s ++ f ++ w ++ m ++ k ∷ [])
joined b k e p d s f w m o0 o1 o2 o3 o4 o5 o6 o7 o8 o9 h1 h2 h3 h4 h5 h6 h7 h8 h9 =
    h9 ∙ (λ i. h8 i ++ statement_line k)
    ∙ (λ i. (h7 i ++ flat_map statement_line m) ++ statement_line k)
    ∙ (λ i. ((h6 i ++ flat_map statement_line w) ++ flat_map statement_line m) ++ statement_line k)
    ∙ (λ i. (((h5 i ++ flat_map statement_line f) ++ flat_map statement_line w) ++ flat_map statement_line m) ++ statement_line k)
    ∙ (λ i. ((((h4 i ++ flat_map statement_line s) ++ flat_map statement_line f) ++ flat_map statement_line w) ++ flat_map statement_line m) ++ statement_line k)
    ∙ (λ i. (((((h3 i ++ flat_map statement_line d) ++ flat_map statement_line s) ++ flat_map statement_line f) ++ flat_map statement_line w) ++ flat_map statement_line m) ++ statement_line k)
    ∙ (λ i. ((((((h2 i ++ flat_map statement_line p) ++ flat_map statement_line d) ++ flat_map statement_line s) ++ flat_map statement_line f) ++ flat_map statement_line w) ++ flat_map statement_line m) ++ statement_line k)
    ∙ (λ i. (((((((h1 i ++ flat_map statement_line e) ++ flat_map statement_line p) ++ flat_map statement_line d) ++ flat_map statement_line s) ++ flat_map statement_line f) ++ flat_map statement_line w) ++ flat_map statement_line m) ++ statement_line k)
    ∙ regrouped statement_line b k e p d s f w m o0

-- the points of a chronicle with texts
pub points_are : (texts : List (List ℕ)) (es : List CodeEvent) (free ps : List Sym) → ps ≡ map (λ e. e.point) es ++ free
    → map (text_in texts) ps ≡ map (λ e. e.point) (map (renamed_event (text_in texts)) (map view.event_of es)) ++ map (text_in texts) free
points_are texts es free ps is = ap (map (text_in texts)) is ∙ map-append (text_in texts) (map (λ e. e.point) es) free ∙ ap (λ l. l ++ map (text_in texts) free) (each es)
  where
    each : (es : List CodeEvent) → map (text_in texts) (map (λ e. e.point) es) ≡ map (λ e. e.point) (map (renamed_event (text_in texts)) (map view.event_of es))
    each [] = refl
    each (e ∷ es) = ap (λ l. text_in texts e.point ∷ l) (each es)

pub points_known : (P : Sym → Type 0) (es : List CodeEvent) (free ps : List Sym) → ps ≡ map (λ e. e.point) es ++ free → AllByRecursion (λ e. P e.point) (map view.event_of es) → AllByRecursion P free → AllByRecursion P ps
points_known P es free ps is h k = subst (AllByRecursion P) (sym is) (all_append P (map (λ e. e.point) es) free (each es h) k)
  where
    each : (es : List CodeEvent) → AllByRecursion (λ e. P e.point) (map view.event_of es) → AllByRecursion P (map (λ e. e.point) es)
    each [] h = tt
    each (e ∷ es) h = (h.0, each es h.1)

-- a step of a loop that puts the statements of each element behind the others
pub grown_step : {X Y Z : Type 0} (r : Y → Z) (v : X → Y) (cf : Z → List Statement) (xs : List X) (d : X) (i : ℕ) (out new all : List ℕ) → new ≡ out ++ flat_map statement_line (cf (r (v d))) → d ≡ get_or xs i d → i < length xs
    → out ++ flat_map statement_line (flat_map cf (map r (map v (drop i xs)))) ≡ all → new ++ flat_map statement_line (flat_map cf (map r (map v (drop (i + 1) xs)))) ≡ all
grown_step r v cf xs d i out new all made is within before =
    let last : get_or xs i d ∷ drop (suc i) xs ≡ drop i xs = rw (drop-cons xs i d) in
    let behind : d ∷ drop (i + 1) xs ≡ drop i xs = ap (λ n. d ∷ drop n xs) (add-one i) ∙ ap (λ e. e ∷ drop (suc i) xs) is ∙ last in
    let rest : List Statement = flat_map cf (map r (map v (drop (i + 1) xs))) in
    ap (λ l. l ++ flat_map statement_line rest) made
    ∙ append_assoc out (flat_map statement_line (cf (r (v d)))) (flat_map statement_line rest)
    ∙ ap (λ l. out ++ l) (sym (flat_map-append statement_line (cf (r (v d))) rest))
    ∙ ap (λ l. out ++ flat_map statement_line (flat_map cf (map r (map v l)))) behind
    ∙ before
