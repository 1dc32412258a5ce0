-- One step of forgetting, with all that is said of it.
use Rattle.std.proofs.Common.{◌≡◌, ℕ, ◌<◌, ◌+◌, ◌-◌, ◌*◌, List, [], ◌∷◌, ◌++◌, length, sym, ap, subst, ◌∙◌, arith}
use Rattle.std.proofs.lemmas.List.{length-append}
use Rattle.crs_base.specs.declared.symbols.Sym.{Sym}
use Rattle.crs_base.specs.Words.{IsIn}
use Rattle.crs_base.specs.Entry.{Entry}
use Rattle.crs_history.specs.Histories.{attribute_of}
use Rattle.crs_history.specs.Dropping.{Drops}
use Rattle.crs_history.specs.Keyed.{KeyedState, AreKeyed}
use Rattle.crs_history.specs.Older.{older_of}
use Rattle.crs_history.specs.Tracks.{TracksState, track_of, AreOwned, TakesFirst, BeginsSince}
use Rattle.crs_history.specs.Holdings.{HoldingsState, held_of, IsChanging, AreBefore, AreCounted, AreHoldings, IsPast, weight}
use Rattle.crs_history.proofs.HeldSteps.{plain_held, plain_past, plain_shrinks, aged_held, aged_before, aged_past, aged_shrinks, y_older, left_held, left_before, left_past, left_shrinks}
use Rattle.crs_history.proofs.Older.{older_is, ordered_front, without}

pub record Stepped (s : HoldingsState) (date count : ℕ) (older ring : List (Entry Sym)) (keyed : KeyedState) (tracks : TracksState) : Type 0 where
  pub held : AreHoldings older ring keyed tracks
  pub counted : AreCounted count older ring
  pub before : AreBefore date s.older → AreBefore date older
  pub past : Drops (IsPast (held_of s) date) (held_of s) (older ++ ring)
  pub shrinks : length older + 2 * length ring < weight s

-- the older ones are those that the tracks tell
told : (s : HoldingsState) (date count : ℕ) (older ring : List (Entry Sym)) (keyed : KeyedState) (tracks : TracksState) → Stepped s date count older ring keyed tracks → Stepped s date count (older_of tracks.lanes ring) ring keyed tracks
told s date count older ring keyed tracks h = subst (λ (w : List (Entry Sym)). Stepped s date count w ring keyed tracks) (sym (older_is older ring keyed tracks h.held)) h

module _ (s : HoldingsState) (count : ℕ) (older ring rest : List (Entry Sym)) (x : Entry Sym) (keyed : KeyedState) (tracks : TracksState)
    (view : record { older = older; ring = ring } ≡ s) (first_held : AreHoldings older ring keyed tracks) (first_counted : AreCounted count older ring) (is : ring ≡ x ∷ rest) (date : ℕ) (early : x.date < date) where
  held : AreHoldings older (x ∷ rest) keyed tracks
  held = subst (λ (w : List (Entry Sym)). AreHoldings older w keyed tracks) is first_held

  counted : AreCounted count older (x ∷ rest)
  counted = subst (AreCounted count older) is first_counted

  seen : (let w : HoldingsState = record { older = older; ring = x ∷ rest } in w) ≡ s
  seen = ap (λ (w : List (Entry Sym)). let h : HoldingsState = record { older = older; ring = w } in h) (sym is) ∙ view

  -- an entry that isn't a change leaves
  pub plain_step : (ring2 : List (Entry Sym)) (more : KeyedState) → ring2 ≡ rest → (AreKeyed (x ∷ rest) keyed → AreKeyed rest more) → (IsChanging x → ⊥)
      → Stepped s date count (older_of tracks.lanes ring2) ring2 more tracks
  plain_step ring2 more e put plain = told s date count older ring2 more tracks
      (subst (λ (w : HoldingsState). Stepped w date count older ring2 more tracks) seen
      (subst (λ (w : List (Entry Sym)). Stepped (record { older = older; ring = x ∷ rest }) date count older w more tracks) (sym e) (record {
        held = plain_held older rest x keyed more tracks held date early put plain;
        counted = record { older_ones = counted.older_ones; small = (let l = counted.small in omega arith) };
        before = λ b. b;
        past = plain_past older rest x keyed more tracks held date early put plain;
        shrinks = plain_shrinks older rest x keyed more tracks held date early;
      })))

  -- a change becomes an older one
  module _ (changing : IsChanging x) (begins : BeginsSince x.date (track_of tracks (attribute_of x))) where
    pub aged_step : (ring2 : List (Entry Sym)) (more : KeyedState) → ring2 ≡ rest → (AreKeyed (x ∷ rest) keyed → AreKeyed rest more)
        → Stepped s date (count + 1) (older_of tracks.lanes ring2) ring2 more tracks
    aged_step ring2 more e put = told s date (count + 1) (older ++ x ∷ []) ring2 more tracks
        (subst (λ (w : HoldingsState). Stepped w date (count + 1) (older ++ x ∷ []) ring2 more tracks) seen
        (subst (λ (w : List (Entry Sym)). Stepped (record { older = older; ring = x ∷ rest }) date (count + 1) (older ++ x ∷ []) w more tracks) (sym e) (record {
          held = aged_held older rest x keyed more tracks held date early changing begins put;
          counted = record { older_ones = (let n = counted.older_ones in omega (arith, length-append older (x ∷ []))); small = (let l = counted.small in omega arith) };
          before = aged_before older rest x keyed more tracks held date early changing begins;
          past = aged_past older rest x keyed more tracks held date early changing begins;
          shrinks = aged_shrinks older rest x keyed more tracks held date early changing begins;
        })))

  -- an older one is overtaken
  module _ (changing : IsChanging x) (y : Entry Sym) (new : TracksState) (takes : TakesFirst tracks (attribute_of x) y new) (overtaken : y.date < x.date) where
    is_older : IsIn y older
    is_older = y_older older rest x keyed keyed tracks held date early changing y new takes overtaken

    pub some_older : 0 < count
    some_older = let p = without older y (ordered_front older (x ∷ rest) held.in_order) is_older in let l = p.3 in let n = counted.older_ones in omega arith

    pub left_step : AreOwned new → Stepped s date (count - 1) (older_of new.lanes ring) ring keyed new
    left_step owned =
        let p = without older y (ordered_front older (x ∷ rest) held.in_order) is_older in
        told s date (count - 1) p.0 ring keyed new
        (subst (λ (w : HoldingsState). Stepped w date (count - 1) p.0 ring keyed new) seen
        (subst (λ (w : List (Entry Sym)). Stepped (record { older = older; ring = x ∷ rest }) date (count - 1) p.0 w keyed new) (sym is) (record {
          held = left_held older rest x keyed keyed tracks held date early changing y new takes overtaken p.0 p.1 p.2 owned;
          counted = record { older_ones = (let l = p.3 in let n = counted.older_ones in omega arith); small = (let l = counted.small in omega arith) };
          before = left_before older rest x keyed keyed tracks held date early changing y new takes overtaken p.0 p.1 p.2;
          past = left_past older rest x keyed keyed tracks held date early changing y new takes overtaken p.0 p.1 p.2;
          shrinks = left_shrinks older rest x keyed keyed tracks held date early changing y new takes overtaken p.0 p.1 p.2;
        })))
