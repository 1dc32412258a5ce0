-- A reading without fault is good.
use Rattle.std.proofs.Common.{◌≡◌, ℕ, ◌+◌, Bool, true, false, nat_le, List, [], ◌∷◌, ◌++◌, map, length, Option, Some, None, Ok, is_some, refl, sym, ap, subst, ◌∙◌, append_assoc}
use Rattle.std.specs.Prelude.{IfSome}
use Rattle.std.specs.List.{AllByRecursion}
use Rattle.std.proofs.lemmas.List.{map-append, append-nil, length-map}
use Rattle.crs_base.specs.Lines.{Line}
use Rattle.crs_base.proofs.Alls.{all_put, all_each}
use Rattle.crs_parse.specs.Faults.{Kind, OfMessage, OfAttribute, OfDerived, Name, Written, Reading, is_of, passes_symbols, message_named, attribute_named, derived_named, opened, nameless, begun, with_statement, after, after_line, after_lines, nothing_read}
use Rattle.crs_grammar.specs.Statements.{Statement, Message, Attribute, Derived, Begin, Happens, Point, Between, Among, Differ, Over, Emits, Close, is_inside}
use Rattle.crs_parse.proofs.Faultless.{IsFaultless}
use Rattle.crs_parse.proofs.HeldReading.{Within, next_of, last_of, texts_within, by_line, symbols_known}
use Rattle.crs_print.proofs.Good.{IsFit, IsGood, IsDone, good_named, done_named}
use Rattle.crs_print.proofs.GoodNext.{good_next, good_begun, name_stays}
use Rattle.crs_print.proofs.Written.{writable_of}

abbrev pub said_kind : List ℕ → ℕ → Kind → Statement
said_kind name arity OfMessage = Message name arity
said_kind name arity (OfAttribute values) = Attribute name arity values
said_kind name arity OfDerived = Derived name arity

-- the declaration of a name
abbrev pub said : Name → Statement
said n = said_kind n.name n.arity n.kind

-- each name is declared behind these without fault
abbrev pub AreDeclared : List (List ℕ) → List Name → List Name → Type 0
AreDeclared texts before [] = Unit {0}
AreDeclared texts before (n ∷ ns) = IsFit texts (said n) × IsFaultless false before [] (begun nameless) (said n) × AreDeclared texts (before ++ n ∷ []) ns

-- each chronicle begins behind those of these names without fault
abbrev pub AreBegun : List (List ℕ) → List (List ℕ) → Type 0
AreBegun before [] = Unit {0}
AreBegun before (t ∷ ts) = (is_of before t ≡ false) × (nat_le 64 (length before) ≡ false) × AreBegun (before ++ t ∷ []) ts

abbrev pub called : List (ℕ × Written) → List (List ℕ)
called done = map (λ d. d.1.name) done

pub record IsOpen (texts : List (List ℕ)) (names : List Name) (done : List (ℕ × Written)) (c : Written) : Type 0 where
  pub good : IsGood texts names c
  pub new : is_of (called done) c.name ≡ false
  pub room : nat_le 64 (length done) ≡ false

pub record IsGoodReading (texts : List (List ℕ)) (r : Reading) : Type 0 where
  pub names : AreDeclared texts [] r.names
  pub done : AllByRecursion (λ d. IsDone texts r.names d.1) r.done
  pub begins : AreBegun [] (called r.done)
  pub current : IfSome r.current (IsOpen texts r.names r.done)

declared_put : (texts : List (List ℕ)) (before ns : List Name) (n : Name) → AreDeclared texts before ns → IsFit texts (said n) → IsFaultless false (before ++ ns) [] (begun nameless) (said n) → AreDeclared texts before (ns ++ n ∷ [])
declared_put texts before [] n h k f = (k, subst (λ l. IsFaultless false l [] (begun nameless) (said n)) (append-nil before) f, tt)
declared_put texts before (m ∷ ns) n h k f =
    (h.0, h.1, declared_put texts (before ++ m ∷ []) ns n h.2 k (subst (λ l. IsFaultless false l [] (begun nameless) (said n)) (sym (append_assoc before (m ∷ []) ns)) f))

begun_put : (before ts : List (List ℕ)) (t : List ℕ) → AreBegun before ts → is_of (before ++ ts) t ≡ false → nat_le 64 (length (before ++ ts)) ≡ false → AreBegun before (ts ++ t ∷ [])
begun_put before [] t h n f = (ap (λ l. is_of l t) (sym (append-nil before)) ∙ n, ap (λ l. nat_le 64 (length l)) (sym (append-nil before)) ∙ f, tt)
begun_put before (u ∷ ts) t h n f =
    let moved : (before ++ u ∷ []) ++ ts ≡ before ++ u ∷ ts = append_assoc before (u ∷ []) ts in
    (h.0, h.1, begun_put (before ++ u ∷ []) ts t h.2 (ap (λ l. is_of l t) moved ∙ n) (ap (λ l. nat_le 64 (length l)) moved ∙ f))

open_named : (texts : List (List ℕ)) (names more : List Name) (done : List (ℕ × Written)) (o : Option Written) → IfSome o (IsOpen texts names done) → IfSome o (IsOpen texts (names ++ more) done)
open_named texts names more done None h = tt
open_named texts names more done (Some c) h = record { good = good_named texts names more c h.good; new = h.new; room = h.room }

opened_good : (texts : List (List ℕ)) (names : List Name) (done : List (ℕ × Written)) (o : Option Written) → true ≡ is_some o → IfSome o (IsOpen texts names done) → IsOpen texts names done (opened o)
opened_good texts names done None e h = cc
opened_good texts names done (Some c) e h = h

module _ (texts : List (List ℕ)) (full : Bool) (line : ℕ) (r : Reading) (k : IsGoodReading texts r) where
  named : (n : Name) → IsFit texts (said n) → IsFaultless false r.names [] (begun nameless) (said n) → IsGoodReading texts (record { names = r.names ++ n ∷ []; done = r.done; current = r.current; texts = [] })
  named n fit f = record {
    names = declared_put texts [] r.names n k.names fit f;
    done = all_each r.done (λ d h. done_named texts r.names (n ∷ []) d.1 h) k.done;
    begins = k.begins;
    current = open_named texts r.names (n ∷ []) r.done r.current k.current;
  }

  grown : (s : Statement) → IsFaultless full r.names r.done (opened r.current) s → IsFit texts s → true ≡ is_some r.current → IsOpen texts r.names r.done (with_statement (opened r.current) s)
  grown s f fit p =
      let o = opened_good texts r.names r.done r.current p k.current in
      record { good = good_next texts full r.names r.done (opened r.current) s f fit o.good; new = ap (is_of (called r.done)) (name_stays (opened r.current) s) ∙ o.new; room = o.room }

  next_good : (s : Statement) → IsFaultless full r.names r.done (opened r.current) s → is_inside s ≡ is_some r.current → IsFit texts s → IsGoodReading texts (after line r s)
  next_good (Message name arity) f p fit =
      let d = named (message_named name arity) fit (record { twice = f.twice; name = refl; arity = refl; value = refl; variable = refl; point = refl; bound = refl; window = refl; count = f.count; room = refl; unlooped = refl; events = refl; unbound = refl }) in
      record { names = d.names; done = d.done; begins = d.begins; current = d.current }
  next_good (Attribute name arity values) f p fit =
      let d = named (attribute_named name arity values) fit (record { twice = f.twice; name = refl; arity = refl; value = refl; variable = refl; point = refl; bound = refl; window = refl; count = f.count; room = refl; unlooped = refl; events = refl; unbound = refl }) in
      record { names = d.names; done = d.done; begins = d.begins; current = d.current }
  next_good (Derived name arity) f p fit =
      let d = named (derived_named name arity) fit (record { twice = f.twice; name = refl; arity = refl; value = refl; variable = refl; point = refl; bound = refl; window = refl; count = f.count; room = refl; unlooped = refl; events = refl; unbound = refl }) in
      record { names = d.names; done = d.done; begins = d.begins; current = d.current }
  next_good (Begin heading) f p fit = record { names = k.names; done = k.done; begins = k.begins; current = record { good = good_begun texts r.names heading fit; new = f.twice; room = f.count } }
  next_good (Happens e) f p fit = record { names = k.names; done = k.done; begins = k.begins; current = grown (Happens e) f fit p }
  next_good (Point t) f p fit = record { names = k.names; done = k.done; begins = k.begins; current = grown (Point t) f fit p }
  next_good (Between d) f p fit = record { names = k.names; done = k.done; begins = k.begins; current = grown (Between d) f fit p }
  next_good (Among x values) f p fit = record { names = k.names; done = k.done; begins = k.begins; current = grown (Among x values) f fit p }
  next_good (Differ x y) f p fit = record { names = k.names; done = k.done; begins = k.begins; current = grown (Differ x y) f fit p }
  next_good (Over w) f p fit = record { names = k.names; done = k.done; begins = k.begins; current = grown (Over w) f fit p }
  next_good (Emits e) f p fit = record { names = k.names; done = k.done; begins = k.begins; current = grown (Emits e) f fit p }
  next_good Close f p fit =
      let o = opened_good texts r.names r.done r.current p k.current in
      record {
        names = k.names;
        done = all_put (λ d. IsDone texts r.names d.1) r.done (line, opened r.current) k.done (record { good = o.good; some = f.events; bound = f.unbound });
        begins = subst (AreBegun []) (sym (map-append (λ (d : ℕ × Written). d.1.name) r.done ((line, opened r.current) ∷ [])))
            (begun_put [] (called r.done) (opened r.current).name k.begins o.new (ap (nat_le 64) (length-map r.done (λ d. d.1.name)) ∙ o.room));
        current = tt;
      }

line_good : (limit : ℕ) (texts : List (List ℕ)) (line : ℕ) (r next : Reading) (l : Line) → after_line limit line r l ≡ Ok next → Within next.texts texts → IsGoodReading texts r → IsGoodReading texts next
line_good limit texts line r next l e = by_line limit (λ line r next. Within next.texts texts → IsGoodReading texts r → IsGoodReading texts next) (λ line r w k. k)
    (λ line r next s h w k.
    let known = symbols_known texts line r s (subst (λ x. Within x.texts texts) (sym h.is) w) in
    subst (IsGoodReading texts) h.is (next_good texts (passes_symbols limit r.texts s) line r k s h.faultless h.place (record { writable = writable_of s h.written; known = known }))) line r next l e

lines_good : (limit line : ℕ) (r all : Reading) (ls : List Line) → after_lines limit line r ls ≡ Ok all → IsGoodReading all.texts r → IsGoodReading all.texts all
lines_good limit line r all [] e h = subst (IsGoodReading all.texts) (last_of (is_some r.current) line r all e).same h
lines_good limit line r all (l ∷ ls) e h =
    let n = next_of (after_line limit line r l) (λ next. after_lines limit (line + 1) next ls) all e in
    lines_good limit (line + 1) n.0 all ls n.2 (line_good limit all.texts line r n.0 l n.1 (texts_within limit (line + 1) n.0 all ls n.2) h)

-- a reading of all lines
pub read_good : (limit line : ℕ) (texts : List (List ℕ)) (all : Reading) (ls : List Line) → after_lines limit line (nothing_read texts) ls ≡ Ok all → IsGoodReading all.texts all
read_good limit line texts all ls e = lines_good limit line (nothing_read texts) all ls e (record { names = tt; done = tt; begins = tt; current = tt })
