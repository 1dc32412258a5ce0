-- The item that a line is, and the relation between lines and items.
use Rattle.std.proofs.Common.{◌≡◌, ℕ, Bool, true, false, cond, ◌&&◌, List, [], ◌∷◌, refl, sym, ap, subst, ◌∙◌, Option, Some, None, option_map, true≢false, eqb-true}
use Rattle.std.specs.Prelude.{option_and_then, codes, bytes_eq}
use Rattle.std.proofs.lemmas.Bool.{and_parts}
use Rattle.crs_base.specs.Symbols.{is_symbol}
use Rattle.crs_base.specs.Tokens.{Token, Word, Mark, tokens_of}
use Rattle.crs_log.specs.Items.{log_number_of}
use Rattle.crs_base.specs.Tokens.{is_log_mark}
use Rattle.crs_base.proofs.Texts.{bytes_same}
use Rattle.crs_log.specs.Items.{Item, Delay, Clock, Finish, Happens, Event, Change, more_tokens, args_tokens, change_tokens, AreSymbols, IsChange, IsEvent, IsStatement, IsItem}
use Rattle.crs_log.specs.ItemOf.{Parted, with_arg, symbol_of, is_mark, more_of, args_of, pair_of, change_of, event_with, event_of, number_in, statement_of, item_of}

module _ {A B : Type 0} where
  mapped : (f : A → B) (o : Option A) (y : B) → option_map f o ≡ Some y → (x : A) × (o ≡ Some x) × (f x ≡ y)
  mapped f None y e = cc
  mapped f (Some x) y e = (x, refl, same (f x) y e)
    where
      same : (a b : B) → Some a ≡ Some b → a ≡ b
      same a b e = cc

  pub chained : (f : A → Option B) (o : Option A) (y : B) → option_and_then f o ≡ Some y → (x : A) × (o ≡ Some x) × (f x ≡ Some y)
  chained f None y e = cc
  chained f (Some x) y e = (x, refl, e)

pub guarded : {A : Type 0} (b : Bool) (o : Option A) (y : A) → cond b o None ≡ Some y → (b ≡ true) × (o ≡ Some y)
guarded true o y e = (refl, e)
guarded false o y e = cc

symbol_is : (t : Token) (a : List ℕ) → symbol_of t ≡ Some a → (t ≡ Word a) × (is_symbol a ≡ true)
symbol_is (Word w) a e = let g = guarded (is_symbol w) (Some w) a e in let s : w ≡ a = same w a g.1 in (ap Word s, subst (λ x. is_symbol x ≡ true) s g.0)
  where
    same : (x y : List ℕ) → Some x ≡ Some y → x ≡ y
    same x y e = cc
symbol_is (Mark m) a e = cc

mark_is : (m : ℕ) (t : Token) → is_mark m t ≡ true → t ≡ Mark m
mark_is m (Word w) e = absurd (true≢false (sym e))
mark_is m (Mark n) e = ap Mark (eqb-true n m e)

abbrev Reads : (List (List ℕ) → List Token → List Token) → List Token → Parted → Type 0
Reads write ts p = (ts ≡ write p.args p.behind) × AreSymbols p.args

reads_along : (write : List (List ℕ) → List Token → List Token) (ts : List Token) (p q : Parted) → p ≡ q → Reads write ts p → Reads write ts q
reads_along write ts p q e h = subst (λ r. Reads write ts r) e h

parted_same : (p q : Parted) → Some p ≡ Some q → p ≡ q
parted_same p q e = cc

more_sound : (ts : List Token) (p : Parted) → more_of ts ≡ Some p → Reads more_tokens ts p
more_sound [] p e = cc
more_sound (t ∷ []) p e = let g = guarded (is_mark 93 t) (Some (record { args = []; behind = [] })) p e in
    reads_along more_tokens (t ∷ []) (record { args = []; behind = [] }) p (parted_same _ p g.1) (ap (λ x. x ∷ []) (mark_is 93 t g.0), tt)
more_sound (t ∷ u ∷ ts) p e = by (λ q h. more_sound ts q h) (is_mark 93 t) refl e
  where
    one : ((q : Parted) → more_of ts ≡ Some q → Reads more_tokens ts q) → cond (is_mark 44 t) (option_and_then (λ a. option_map (with_arg a) (more_of ts)) (symbol_of u)) None ≡ Some p → Reads more_tokens (t ∷ u ∷ ts) p
    one rest e =
        let g = guarded (is_mark 44 t) (option_and_then (λ a. option_map (with_arg a) (more_of ts)) (symbol_of u)) p e in
        let s = chained (λ a. option_map (with_arg a) (more_of ts)) (symbol_of u) p g.1 in
        let m = mapped (with_arg s.0) (more_of ts) p s.2 in
        let w = symbol_is u s.0 s.1 in
        let r = rest m.0 m.1 in
        reads_along more_tokens (t ∷ u ∷ ts) (with_arg s.0 m.0) p m.2 ((λ i. mark_is 44 t g.0 i ∷ w.0 i ∷ r.0 i), (w.1, r.1))

    by : ((q : Parted) → more_of ts ≡ Some q → Reads more_tokens ts q) → (b : Bool) → is_mark 93 t ≡ b → cond b (Some (record { args = []; behind = u ∷ ts })) (cond (is_mark 44 t) (option_and_then (λ a. option_map (with_arg a) (more_of ts)) (symbol_of u)) None) ≡ Some p → Reads more_tokens (t ∷ u ∷ ts) p
    by rest true m e = reads_along more_tokens (t ∷ u ∷ ts) (record { args = []; behind = u ∷ ts }) p (parted_same _ p e) (ap (λ x. x ∷ u ∷ ts) (mark_is 93 t m), tt)
    by rest false m e = one rest e

args_sound : (ts : List Token) (p : Parted) → args_of ts ≡ Some p → Reads args_tokens ts p
args_sound [] p e = reads_along args_tokens [] (record { args = []; behind = [] }) p (parted_same _ p e) (refl, tt)
args_sound (t ∷ []) p e = reads_along args_tokens (t ∷ []) (record { args = []; behind = t ∷ [] }) p (parted_same _ p e) (refl, tt)
args_sound (t ∷ u ∷ ts) p e = by (is_mark 91 t) refl e
  where
    by : (b : Bool) → is_mark 91 t ≡ b → cond b (option_and_then (λ a. option_map (with_arg a) (more_of ts)) (symbol_of u)) (Some (record { args = []; behind = t ∷ u ∷ ts })) ≡ Some p → Reads args_tokens (t ∷ u ∷ ts) p
    by false m e = reads_along args_tokens (t ∷ u ∷ ts) (record { args = []; behind = t ∷ u ∷ ts }) p (parted_same _ p e) (refl, tt)
    by true k e =
        let s = chained (λ a. option_map (with_arg a) (more_of ts)) (symbol_of u) p e in
        let m = mapped (with_arg s.0) (more_of ts) p s.2 in
        let w = symbol_is u s.0 s.1 in
        let r = more_sound ts m.0 m.1 in
        reads_along args_tokens (t ∷ u ∷ ts) (with_arg s.0 m.0) p m.2 ((λ i. mark_is 91 t k i ∷ w.0 i ∷ r.0 i), (w.1, r.1))

abbrev ReadsChange : List Token → Option Change → Type 0
ReadsChange ts c = (ts ≡ change_tokens c) × IsChange c

change_same : (p q : Option Change) → Some p ≡ Some q → p ≡ q
change_same p q e = cc

pair_sound : (o n : Option (List ℕ)) (c : Option Change) → pair_of o n ≡ Some c → (x : Change) × (o ≡ Some x.0) × (n ≡ Some x.1) × (Some x ≡ c)
pair_sound (Some o) (Some n) c e = ((o, n), refl, refl, change_same (Some (o, n)) c e)
pair_sound (Some o) None c e = cc
pair_sound None n c e = cc

change_sound : (ts : List Token) (c : Option Change) → change_of ts ≡ Some c → ReadsChange ts c
change_sound [] c e = subst (λ x. ReadsChange [] x) (change_same None c e) (refl, tt)
change_sound (a ∷ []) c e = cc
change_sound (a ∷ b ∷ []) c e = cc
change_sound (a ∷ b ∷ o ∷ []) c e = cc
change_sound (a ∷ b ∷ o ∷ k ∷ []) c e = cc
change_sound (a ∷ b ∷ o ∷ k ∷ n ∷ []) c e = cc
change_sound (a ∷ b ∷ o ∷ k ∷ n ∷ d ∷ []) c e =
    let g = guarded (is_mark 58 a && is_mark 40 b && is_mark 44 k && is_mark 41 d) (pair_of (symbol_of o) (symbol_of n)) c e in
    let l = and_parts (is_mark 58 a && is_mark 40 b && is_mark 44 k) (is_mark 41 d) g.0 in
    let m = and_parts (is_mark 58 a && is_mark 40 b) (is_mark 44 k) l.0 in
    let f = and_parts (is_mark 58 a) (is_mark 40 b) m.0 in
    let p = pair_sound (symbol_of o) (symbol_of n) c g.1 in
    let x = symbol_is o p.0.0 p.1 in
    let y = symbol_is n p.0.1 p.2 in
    subst (λ z. ReadsChange (a ∷ b ∷ o ∷ k ∷ n ∷ d ∷ []) z) p.3
    ((λ i. mark_is 58 a f.0 i ∷ mark_is 40 b f.1 i ∷ x.0 i ∷ mark_is 44 k m.1 i ∷ y.0 i ∷ mark_is 41 d l.1 i ∷ []), (x.1, y.1))
change_sound (a ∷ b ∷ o ∷ k ∷ n ∷ d ∷ f ∷ ts) c e = cc

number_sound : (t : Token) (ts : List Token) (n : ℕ) → number_in t ts ≡ Some n → (w : List ℕ) × (t ∷ ts ≡ Word w ∷ []) × (log_number_of w ≡ Some n)
number_sound (Word w) [] n e = (w, refl, e)
number_sound (Word w) (t ∷ ts) n e = cc
number_sound (Mark m) ts n e = cc

event_sound : (a : List ℕ) (t : Token) (ts : List Token) (item : Item) → event_of a t ts ≡ Some item → (e : Event) × IsEvent (Word a ∷ t ∷ ts) e × (Happens e ≡ item)
event_sound a t ts item h =
    let d = chained (λ date. option_and_then (λ name. option_and_then (event_with date name) (args_of ts)) (symbol_of t)) (log_number_of a) item h in
    let s = chained (λ name. option_and_then (event_with d.0 name) (args_of ts)) (symbol_of t) item d.2 in
    let p = chained (event_with d.0 s.0) (args_of ts) item s.2 in
    let m = mapped (λ c. Happens (record { date = d.0; name = s.0; args = p.0.args; change = c })) (change_of p.0.behind) item p.2 in
    let w = symbol_is t s.0 s.1 in
    let r = args_sound ts p.0 p.1 in
    let k = change_sound p.0.behind m.0 m.1 in (
      record { date = d.0; name = s.0; args = p.0.args; change = m.0 },
      record { date = a; dated = d.1; written = λ i. Word a ∷ w.0 i ∷ (r.0 ∙ ap (args_tokens p.0.args) k.0) i; name = w.1; args = r.1; change = k.1 },
      m.2,
    )

statement_sound : (ts : List Token) (item : Item) → statement_of ts ≡ Some item → IsStatement ts item
statement_sound [] item e = cc
statement_sound (Mark m ∷ ts) item e = cc
statement_sound (Word a ∷ []) item e = let g = guarded (bytes_eq a (codes "end")) (Some Finish) item e in
    subst (λ x. IsStatement (Word a ∷ []) x) (same Finish item g.1) (ap (λ w. Word w ∷ []) (bytes_same a (codes "end") g.0))
  where
    same : (x y : Item) → Some x ≡ Some y → x ≡ y
    same x y e = cc
statement_sound (Word a ∷ t ∷ ts) item e = by (bytes_eq a (codes "delay")) (bytes_eq a (codes "clock")) refl refl e
  where
    by : (d k : Bool) → bytes_eq a (codes "delay") ≡ d → bytes_eq a (codes "clock") ≡ k
        → cond d (option_map Delay (number_in t ts)) (cond k (option_map Clock (number_in t ts)) (event_of a t ts)) ≡ Some item → IsStatement (Word a ∷ t ∷ ts) item
    by true k is _ e = let m = mapped Delay (number_in t ts) item e in let n = number_sound t ts m.0 m.1 in
        subst (λ x. IsStatement (Word a ∷ t ∷ ts) x) m.2 (n.0, (λ i. Word (bytes_same a (codes "delay") is i) ∷ n.1 i), n.2)
    by false true _ is e = let m = mapped Clock (number_in t ts) item e in let n = number_sound t ts m.0 m.1 in
        subst (λ x. IsStatement (Word a ∷ t ∷ ts) x) m.2 (n.0, (λ i. Word (bytes_same a (codes "clock") is i) ∷ n.1 i), n.2)
    by false false _ _ e = let v = event_sound a t ts item e in subst (λ x. IsStatement (Word a ∷ t ∷ ts) x) v.2 v.1

pub item_sound : (line : List ℕ) (item : Item) → item_of line ≡ Some item → IsItem line item
item_sound line item e = let c = chained statement_of (tokens_of is_log_mark line) item e in (c.0, c.1, statement_sound c.0 item c.2)

more_again : (args : List (List ℕ)) (behind : List Token) → AreSymbols args → more_of (more_tokens args behind) ≡ Some (record { args = args; behind = behind })
more_again [] [] h = refl
more_again [] (t ∷ ts) h = refl
more_again (a ∷ rest) behind h =
    (λ i. option_and_then (λ x. option_map (with_arg x) (more_of (more_tokens rest behind))) (cond (h.0 i) (Some a) None))
    ∙ ap (option_map (with_arg a)) (more_again rest behind h.1)

args_again : (args : List (List ℕ)) (change : Option Change) → AreSymbols args → args_of (args_tokens args (change_tokens change)) ≡ Some (record { args = args; behind = change_tokens change })
args_again [] None h = refl
args_again [] (Some c) h = refl
args_again (a ∷ rest) change h =
    (λ i. option_and_then (λ x. option_map (with_arg x) (more_of (more_tokens rest (change_tokens change)))) (cond (h.0 i) (Some a) None))
    ∙ ap (option_map (with_arg a)) (more_again rest (change_tokens change) h.1)

change_again : (change : Option Change) → IsChange change → change_of (change_tokens change) ≡ Some change
change_again None h = refl
change_again (Some c) h = λ i. pair_of (cond (h.0 i) (Some c.0) None) (cond (h.1 i) (Some c.1) None)

no_word : (d word : List ℕ) (n : ℕ) → log_number_of word ≡ None → log_number_of d ≡ Some n → (b : Bool) → bytes_eq d word ≡ b → b ≡ false
no_word d word n none some false e = refl
no_word d word n none some true e = let h : log_number_of d ≡ None = ap log_number_of (bytes_same d word e) ∙ none in absurd (never n (sym h ∙ some))
  where
    never : (n : ℕ) → None ≡ Some n → ⊥
    never n e = cc

event_again : (ts : List Token) (e : Event) → IsEvent ts e → statement_of ts ≡ Some (Happens e)
event_again ts e h =
    let delay : bytes_eq h.date (codes "delay") ≡ false = no_word h.date (codes "delay") e.date refl h.dated (bytes_eq h.date (codes "delay")) refl in
    let clock : bytes_eq h.date (codes "clock") ≡ false = no_word h.date (codes "clock") e.date refl h.dated (bytes_eq h.date (codes "clock")) refl in
    let rest : List Token = args_tokens e.args (change_tokens e.change) in
    ap statement_of h.written
    ∙ (λ i. cond (delay i) (option_map Delay (number_in (Word e.name) rest)) (cond (clock i) (option_map Clock (number_in (Word e.name) rest)) (event_of h.date (Word e.name) rest)))
    ∙ ap (λ o. option_and_then (λ date. option_and_then (λ name. option_and_then (event_with date name) (args_of rest)) (symbol_of (Word e.name))) o) h.dated
    ∙ (λ i. option_and_then (λ name. option_and_then (event_with e.date name) (args_of rest)) (cond (h.name i) (Some e.name) None))
    ∙ ap (λ o. option_and_then (event_with e.date e.name) o) (args_again e.args e.change h.args)
    ∙ ap (option_map (λ c. Happens (record { date = e.date; name = e.name; args = e.args; change = c }))) (change_again e.change h.change)

statement_again : (ts : List Token) (item : Item) → IsStatement ts item → statement_of ts ≡ Some item
statement_again ts (Delay n) h = ap statement_of h.1 ∙ ap (option_map Delay) h.2
statement_again ts (Clock n) h = ap statement_of h.1 ∙ ap (option_map Clock) h.2
statement_again ts Finish h = ap statement_of h
statement_again ts (Happens e) h = event_again ts e h

pub item_again : (line : List ℕ) (item : Item) → IsItem line item → item_of line ≡ Some item
item_again line item h = ap (option_and_then statement_of) h.1 ∙ statement_again h.0 item h.2
