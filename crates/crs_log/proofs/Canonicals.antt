-- An event is told by its date and its canonical text.
use Rattle.std.proofs.Common.{◌≡◌, ℕ, true, false, ◌&&◌, List, [], ◌∷◌, ◌++◌, refl, sym, ap, ◌∙◌, Option, Some, None, true≢false, arith}
use Rattle.std.proofs.Common.{append_assoc}
use Rattle.std.specs.Prelude.{nat_le, length}
use Rattle.std.specs.List.{list_all}
use Rattle.std.proofs.lemmas.Bool.{and_parts}
use Rattle.crs_base.specs.Symbols.{is_symbol, is_symbol_byte}
use Rattle.crs_base.specs.Entry.{more_text, args_text, change_text, canonical}
use Rattle.crs_log.specs.Items.{Change, Event, AreSymbols, IsChange, Happens}
use Rattle.crs_log.specs.ItemOf.{item_of}
use Rattle.crs_log.proofs.ItemLaw.{item_sound}

-- nothing, or a byte that stands in no symbol
abbrev Stops : List ℕ → Type 0
Stops [] = Unit {0}
Stops (b ∷ bs) = is_symbol_byte b ≡ false

abbrev first : List ℕ → ℕ
first [] = 0
first (x ∷ xs) = x

abbrev behind : List ℕ → List ℕ
behind [] = []
behind (x ∷ xs) = xs

all_bytes : (x : ℕ) (xs : List ℕ) → list_all is_symbol_byte (x ∷ xs) ≡ true
    → (is_symbol_byte x ≡ true) × (list_all is_symbol_byte xs ≡ true)
all_bytes x xs h = and_parts (is_symbol_byte x) (list_all is_symbol_byte xs) h

not_stopped : (x : ℕ) (xs s : List ℕ) → is_symbol_byte x ≡ true → Stops s → s ≡ x ∷ xs → ⊥
not_stopped x xs [] h k e = cc
not_stopped x xs (y ∷ s) h k e = true≢false (sym h ∙ ap is_symbol_byte (sym (ap first e)) ∙ k)

-- bytes of symbols, as far as they go
cut : (a b r s : List ℕ) → list_all is_symbol_byte a ≡ true → list_all is_symbol_byte b ≡ true → Stops r → Stops s → a ++ r ≡ b ++ s
    → (a ≡ b) × (r ≡ s)
cut [] [] r s h k m n e = (refl, e)
cut [] (y ∷ b) r s h k m n e = absurd (not_stopped y (b ++ s) r (all_bytes y b k).0 m e)
cut (x ∷ a) [] r s h k m n e = absurd (not_stopped x (a ++ r) s (all_bytes x a h).0 n (sym e))
cut (x ∷ a) (y ∷ b) r s h k m n e =
    let rest = cut a b r s (all_bytes x a h).1 (all_bytes y b k).1 m n (ap behind e) in
    ((λ i. ap first e i ∷ rest.0 i), rest.1)

bytes_of_symbol : (t : List ℕ) → is_symbol t ≡ true → list_all is_symbol_byte t ≡ true
bytes_of_symbol t h = (and_parts (nat_le 1 (length t) && nat_le (length t) 64) (list_all is_symbol_byte t) h).1

stops_more : (ps : List (List ℕ)) (t : List ℕ) → Stops (more_text ps ++ t)
stops_more [] t = refl
stops_more (p ∷ ps) t = refl

-- a first argument
first_same : (p q : List ℕ) (ps qs : List (List ℕ)) (t u : List ℕ) → is_symbol p ≡ true → is_symbol q ≡ true
    → (p ++ more_text ps) ++ t ≡ (q ++ more_text qs) ++ u → (p ≡ q) × (more_text ps ++ t ≡ more_text qs ++ u)
first_same p q ps qs t u h k e =
    let inside : p ++ (more_text ps ++ t) ≡ q ++ (more_text qs ++ u) =
    sym (append_assoc p (more_text ps) t) ∙ e ∙ append_assoc q (more_text qs) u in
    cut p q (more_text ps ++ t) (more_text qs ++ u) (bytes_of_symbol p h) (bytes_of_symbol q k) (stops_more ps t) (stops_more qs u) inside

more_same : (ps qs : List (List ℕ)) (t u : List ℕ) → AreSymbols ps → AreSymbols qs → more_text ps ++ t ≡ more_text qs ++ u
    → (ps ≡ qs) × (t ≡ u)
more_same [] [] t u h k e = (refl, ap behind e)
more_same [] (q ∷ qs) t u h k e = absurd (let n : 93 ≡ 44 = ap first e in omega arith)
more_same (p ∷ ps) [] t u h k e = absurd (let n : 44 ≡ 93 = ap first e in omega arith)
more_same (p ∷ ps) (q ∷ qs) t u h k e =
    let one = first_same p q ps qs t u h.0 k.0 (ap behind e) in
    let rest = more_same ps qs t u h.1 k.1 one.1 in
    ((λ i. one.0 i ∷ rest.0 i), rest.1)

change_first : (c : Option Change) (t : List ℕ) → change_text c ≡ 91 ∷ t → ⊥
change_first None t e = cc
change_first (Some c) t e = absurd (let n : 58 ≡ 91 = ap first e in omega arith)

args_same : (ps qs : List (List ℕ)) (c d : Option Change) → AreSymbols ps → AreSymbols qs
    → args_text ps ++ change_text c ≡ args_text qs ++ change_text d → (ps ≡ qs) × (change_text c ≡ change_text d)
args_same [] [] c d h k e = (refl, e)
args_same [] (q ∷ qs) c d h k e = absurd (change_first c ((q ++ more_text qs) ++ change_text d) e)
args_same (p ∷ ps) [] c d h k e = absurd (change_first d ((p ++ more_text ps) ++ change_text c) (sym e))
args_same (p ∷ ps) (q ∷ qs) c d h k e =
    let one = first_same p q ps qs (change_text c) (change_text d) h.0 k.0 (ap behind e) in
    let rest = more_same ps qs (change_text c) (change_text d) h.1 k.1 one.1 in
    ((λ i. one.0 i ∷ rest.0 i), rest.1)

change_same : (c d : Option Change) → IsChange c → IsChange d → change_text c ≡ change_text d → c ≡ d
change_same None None h k e = refl
change_same None (Some d) h k e = cc
change_same (Some c) None h k e = cc
change_same (Some c) (Some d) h k e =
    let inside : c.0 ++ (44 ∷ (c.1 ++ 41 ∷ [])) ≡ d.0 ++ (44 ∷ (d.1 ++ 41 ∷ [])) =
    sym (append_assoc c.0 (44 ∷ c.1) (41 ∷ [])) ∙ ap behind (ap behind e) ∙ append_assoc d.0 (44 ∷ d.1) (41 ∷ []) in
    let old =
    cut c.0 d.0 (44 ∷ (c.1 ++ 41 ∷ [])) (44 ∷ (d.1 ++ 41 ∷ [])) (bytes_of_symbol c.0 h.0) (bytes_of_symbol d.0 k.0) refl refl inside in
    let new = cut c.1 d.1 (41 ∷ []) (41 ∷ []) (bytes_of_symbol c.1 h.1) (bytes_of_symbol d.1 k.1) refl refl (ap behind old.1) in
    λ i. Some (old.0 i, new.0 i)

stops_change : (c : Option Change) → Stops (change_text c)
stops_change None = tt
stops_change (Some c) = refl

stops_args : (ps : List (List ℕ)) (c : Option Change) → Stops (args_text ps ++ change_text c)
stops_args [] c = stops_change c
stops_args (p ∷ ps) c = refl

-- of symbols
pub record IsOfSymbols (e : Event) : Type 0 where
  pub name : is_symbol e.name ≡ true
  pub args : AreSymbols e.args
  pub change : IsChange e.change

-- events of one date and one canonical text are the same
pub same_event : (e f : Event) → IsOfSymbols e → IsOfSymbols f → e.date ≡ f.date
    → canonical e.name e.args e.change ≡ canonical f.name f.args f.change → e ≡ f
same_event e f h k date text =
    let parts : e.name ++ (args_text e.args ++ change_text e.change) ≡ f.name ++ (args_text f.args ++ change_text f.change) =
    sym (append_assoc e.name (args_text e.args) (change_text e.change))
    ∙ text ∙ append_assoc f.name (args_text f.args) (change_text f.change) in
    let one = cut e.name f.name (args_text e.args ++ change_text e.change) (args_text f.args ++ change_text f.change)
    (bytes_of_symbol e.name h.name) (bytes_of_symbol f.name k.name) (stops_args e.args e.change) (stops_args f.args f.change) parts in
    let two = args_same e.args f.args e.change f.change h.args k.args one.1 in
    let three : e.change ≡ f.change = change_same e.change f.change h.change k.change two.1 in
    λ i. record { date = date i; name = one.0 i; args = two.0 i; change = three i }

-- what is read as an event is of symbols
pub read_of_symbols : (line : List ℕ) (e : Event) → item_of line ≡ Some (Happens e) → IsOfSymbols e
read_of_symbols line e h = let s = (item_sound line (Happens e) h).2 in record { name = s.name; args = s.args; change = s.change }
