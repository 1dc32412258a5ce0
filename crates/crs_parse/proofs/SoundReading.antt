-- What holds of a reading of all lines to which no word applied.
use Rattle.std.proofs.Common.{◌≡◌, ℕ, ◌+◌, ◌≤◌, ◌<◌, Bool, true, false, ◌||◌, nat_le, nat_lt, List, [], ◌∷◌, ◌++◌, length, Option, Some, None, Ok, is_some, subst, arith, length-append}
use Rattle.std.specs.Prelude.{IfSome, option_map}
use Rattle.std.specs.List.{AllByRecursion}
use Rattle.std.proofs.lemmas.Bool.{or_parts}
use Rattle.crs_base.specs.Lines.{Line}
use Rattle.crs_base.proofs.Alls.{all_put, all_each}
use Rattle.crs_grammar.specs.Statements.{Statement, Message, Attribute, Derived, Begin, Happens, Point, Between, Among, Differ, Over, Emits, Close, is_inside}
use Rattle.crs_parse.specs.Faults.{Name, Written, Reading, opened, message_named, attribute_named, derived_named, with_statement, after, after_line, after_lines, nothing_read, is_above}
use Rattle.crs_parse.proofs.Faultless.{IsFaultless, not_le}
use Rattle.crs_parse.proofs.HeldReading.{by_line, next_of, last_of}
use Rattle.crs_parse.proofs.Sound.{IsSound, IsWhole, sound_next, closed_whole, begun_sound, more_sound, more_whole}

-- the open chronicle, where there is one, and room for it
abbrev pub SoundOr : List Name → List (ℕ × Written) → Option Written → Type 0
SoundOr names done o = IfSome o (λ c. IsSound names c × (length done < 64))

pub record IsSoundSoFar (r : Reading) : Type 0 where
  pub names_few : length r.names ≤ 256
  pub done_few : length r.done ≤ 64
  pub done : AllByRecursion (λ d. IsWhole r.names d.1) r.done
  pub current : SoundOr r.names r.done r.current

opened_sound : (names : List Name) (done : List (ℕ × Written)) (o : Option Written) → true ≡ is_some o → SoundOr names done o → IsSound names (opened o) × (length done < 64)
opened_sound names done None e h = cc
opened_sound names done (Some c) e h = h

or_more : (names more : List Name) (done : List (ℕ × Written)) (o : Option Written) → SoundOr names done o → SoundOr (names ++ more) done o
or_more names more done None h = tt
or_more names more done (Some c) h = (more_sound names more c h.0, h.1)

one_more_name : (names : List Name) (n : Name) → nat_le 256 (length names) ≡ false → length (names ++ n ∷ []) ≤ 256
one_more_name names n h = let few = not_le 256 (length names) h in let more : length (names ++ n ∷ []) ≡ length names + 1 = length-append names (n ∷ []) in omega (arith, few, more)

module _ (line : ℕ) (r : Reading) (full : Bool) (k : IsSoundSoFar r) where
  declared : (n : Name) → nat_le 256 (length r.names) ≡ false → IsSoundSoFar (record { names = r.names ++ n ∷ []; done = r.done; current = r.current; texts = [] })
  declared n h = record {
    names_few = one_more_name r.names n h;
    done_few = k.done_few;
    done = all_each r.done (λ d w. more_whole r.names (n ∷ []) d.1 w) k.done;
    current = or_more r.names (n ∷ []) r.done r.current k.current;
  }

  grown : (s : Statement) → IsFaultless full r.names r.done (opened r.current) s → true ≡ is_some r.current → IsSound r.names (with_statement (opened r.current) s) × (length r.done < 64)
  grown s f p = let o = opened_sound r.names r.done r.current p k.current in (sound_next full r.names r.done (opened r.current) s f o.0, o.1)

  next_sound : (s : Statement) → IsFaultless full r.names r.done (opened r.current) s → is_inside s ≡ is_some r.current → IsSoundSoFar (after line r s)
  next_sound (Message name arity) f p =
      let d = declared (message_named name arity) (or_parts (nat_le 256 (length r.names)) (nat_lt 8 arity) f.count).0 in
      record { names_few = d.names_few; done_few = d.done_few; done = d.done; current = d.current }
  next_sound (Attribute name arity values) f p =
      let a = or_parts (nat_le 256 (length r.names) || nat_lt 8 arity) (is_above 64 (option_map length values)) f.count in
      let d = declared (attribute_named name arity values) (or_parts (nat_le 256 (length r.names)) (nat_lt 8 arity) a.0).0 in
      record { names_few = d.names_few; done_few = d.done_few; done = d.done; current = d.current }
  next_sound (Derived name arity) f p =
      let d = declared (derived_named name arity) (or_parts (nat_le 256 (length r.names)) (nat_lt 8 arity) f.count).0 in
      record { names_few = d.names_few; done_few = d.done_few; done = d.done; current = d.current }
  next_sound (Begin heading) f p = record { names_few = k.names_few; done_few = k.done_few; done = k.done; current = (begun_sound r.names heading, not_le 64 (length r.done) f.count) }
  next_sound (Happens e) f p = record { names_few = k.names_few; done_few = k.done_few; done = k.done; current = grown (Happens e) f p }
  next_sound (Point name) f p = record { names_few = k.names_few; done_few = k.done_few; done = k.done; current = grown (Point name) f p }
  next_sound (Between d) f p = record { names_few = k.names_few; done_few = k.done_few; done = k.done; current = grown (Between d) f p }
  next_sound (Among x values) f p = record { names_few = k.names_few; done_few = k.done_few; done = k.done; current = grown (Among x values) f p }
  next_sound (Differ x y) f p = record { names_few = k.names_few; done_few = k.done_few; done = k.done; current = grown (Differ x y) f p }
  next_sound (Over w) f p = record { names_few = k.names_few; done_few = k.done_few; done = k.done; current = grown (Over w) f p }
  next_sound (Emits e) f p = record { names_few = k.names_few; done_few = k.done_few; done = k.done; current = grown (Emits e) f p }
  next_sound Close f p =
      let o = opened_sound r.names r.done r.current p k.current in
      let few = o.1 in
      let more : length (r.done ++ (line, opened r.current) ∷ []) ≡ length r.done + 1 = length-append r.done ((line, opened r.current) ∷ []) in
      record {
        names_few = k.names_few;
        done_few = omega (arith, few, more);
        done = all_put (λ d. IsWhole r.names d.1) r.done (line, opened r.current) k.done (closed_whole full r.names r.done (opened r.current) f o.0);
        current = tt;
      }

line_sound : (limit line : ℕ) (r next : Reading) (l : Line) → after_line limit line r l ≡ Ok next → IsSoundSoFar r → IsSoundSoFar next
line_sound limit line r next l e = by_line limit (λ line r next. IsSoundSoFar r → IsSoundSoFar next) (λ line r k. k) (λ line r next s h k. subst IsSoundSoFar h.is (next_sound line r _ k s h.faultless h.place)) line r next l e

lines_sound : (limit line : ℕ) (r all : Reading) (ls : List Line) → after_lines limit line r ls ≡ Ok all → IsSoundSoFar r → IsSoundSoFar all
lines_sound limit line r all [] e k = subst IsSoundSoFar (last_of (is_some r.current) line r all e).same k
lines_sound limit line r all (l ∷ ls) e k =
    let n = next_of (after_line limit line r l) (λ next. after_lines limit (line + 1) next ls) all e in
    lines_sound limit (line + 1) n.0 all ls n.2 (line_sound limit line r n.0 l n.1 k)

pub read_sound : (limit line : ℕ) (texts : List (List ℕ)) (all : Reading) (ls : List Line) → after_lines limit line (nothing_read texts) ls ≡ Ok all → IsSoundSoFar all
read_sound limit line texts all ls e = lines_sound limit line (nothing_read texts) all ls e (record { names_few = omega arith; done_few = omega arith; done = tt; current = tt })
