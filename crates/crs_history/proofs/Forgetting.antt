-- What is held once the ring has none before a date: what is kept of all from that date on.
use Rattle.std.proofs.Common.{ℕ, ◌≤◌, ◌<◌, List, refl, ◌∙◌, inl, inr, arith}
use Rattle.std.specs.Prelude.{ℤ, pos, ◌≤ℤ◌, ◌<ℤ◌, ◌-ℤ◌}
use Rattle.std.specs.List.{AllByRecursion}
use Rattle.std.proofs.lemmas.Int.{ints}
use Rattle.crs_base.specs.declared.symbols.Sym.{Sym}
use Rattle.crs_base.specs.Words.{IsIn}
use Rattle.crs_base.specs.Sifted.{Sifts}
use Rattle.crs_base.specs.Entry.{Entry}
use Rattle.crs_base.specs.Values.{IsChange, IsLastChange}
use Rattle.crs_base.proofs.Words.{in_append, in_append_left, in_from_each}
use Rattle.crs_history.specs.Dates.{nat_of}
use Rattle.crs_history.specs.Dropping.{Drops}
use Rattle.crs_history.specs.Histories.{attribute_of, IsKept}
use Rattle.crs_history.specs.Holdings.{HoldingsState, held_of, AreLatest, AreBefore, IsPast, IsSplitAt}
use Rattle.crs_history.proofs.Dates.{nat_before, before_nat, nat_since}
use Rattle.crs_history.proofs.LastChanges.{last_told}
use Rattle.crs_history.proofs.Left.{drops_in, drops_left, drops_sifts, drops_on, drops_weaker}

-- what is past of what is left is past of all
pub past_on : (all a b : List (Entry Sym)) (limit : ℕ) → Drops (IsPast all limit) all a → Drops (IsPast a limit) a b → Drops (IsPast all limit) all b
past_on all a b limit h k = drops_on (IsPast all limit) all a b h (drops_weaker (IsPast a limit) (IsPast all limit) a b widen k)
  where
    widen : (x : Entry Sym) → IsPast a limit x → IsPast all limit x
    widen x p = record {
      before = p.before;
      past = elim p.past [ inl f ↦ inl f | inr q ↦ inr (q.0, drops_in (IsPast all limit) all a q.0 h q.1, q.2, q.3, q.4) ];
    }

up_to_one : (d : ℕ) (t : ℤ) → pos d ≤ℤ (t -ℤ pos 1) → pos d <ℤ t
up_to_one d t h = omega (arith, ints)

one_less : (d : ℕ) (t : ℤ) → pos d <ℤ t → pos d ≤ℤ (t -ℤ pos 1)
one_less d t h = omega (arith, ints)

not_late : (d : ℕ) (t : ℤ) → pos d <ℤ t → t ≤ℤ pos d → ⊥
not_late d t h k = omega (arith, ints)

pub all_before : (floor date : ℤ) (es : List (Entry Sym)) → floor <ℤ date → ((e : Entry Sym) → IsIn e es → pos e.date <ℤ floor) → AreBefore (nat_of date) es
all_before floor date es lt h e i = before_nat e.date date (let k = h e i in omega (arith, ints))

module _ (all : List (Entry Sym)) (h : HoldingsState) (date : ℤ) (latest : AreLatest h.older) (before : AreBefore (nat_of date) h.older) (done : AllByRecursion (λ e. nat_of date ≤ e.date) h.ring) where
  older_early : (e : Entry Sym) → IsIn e h.older → pos e.date <ℤ date
  older_early e i = nat_before e.date date (before e i)

  ring_late : (e : Entry Sym) → IsIn e h.ring → date ≤ℤ pos e.date
  ring_late e i = nat_since e.date date (in_from_each (λ e. nat_of date ≤ e.date) h.ring done e i)

  pub now_split : IsSplitAt date h
  now_split = record { before = older_early; since = ring_late }

  own : (a e : Entry Sym) → IsChange (attribute_of a) e → IsLastChange (attribute_of a) all (date -ℤ pos 1) e → IsLastChange (attribute_of e) all (date -ℤ pos 1) e
  own a e c l = record {
    given = l.given;
    change = record { named = refl; of = refl; change = c.change };
    by_then = l.by_then;
    greatest = λ d j k m. l.greatest d j (record { named = k.named ∙ c.named; of = k.of ∙ c.of; change = k.change }) m;
  }

  module _ (past : Drops (IsPast all (nat_of date)) all (held_of h)) where
    -- what was dropped isn't kept
    not_kept : (x : Entry Sym) → IsIn x all → IsPast all (nat_of date) x → IsKept all date x → ⊥
    not_kept x i p (inl k) = not_late x.date date (nat_before x.date date p.before) k
    not_kept x i p (inr l) = elim p.past [
      | inl f ↦ f l.change.change
      | inr q ↦ (let le : q.0.date ≤ x.date = l.greatest q.0 q.1 q.2 (one_less q.0.date date (nat_before q.0.date date q.4)) in let lt : x.date < q.0.date = q.3 in absurd (omega arith))
    ]

    -- the last change before the date is an older one
    last_older : (x l : Entry Sym) → IsLastChange (attribute_of x) all (date -ℤ pos 1) l → IsIn l h.older
    last_older x l m = elim (drops_left (IsPast all (nat_of date)) all (held_of h) l past m.given) [
      | inl i ↦ elim (in_append h.older h.ring l i) [
        | inl j ↦ j
        | inr k ↦ absurd (not_late l.date date (up_to_one l.date date m.by_then) (ring_late l k))
      ]
      | inr p ↦ absurd (not_kept l m.given p (inr (own x l m.change m)))
    ]

    older_kept : (y : Entry Sym) → IsIn y h.older → IsKept all date y
    older_kept y i = inr (record {
      given = drops_in (IsPast all (nat_of date)) all (held_of h) y past (in_append_left h.older h.ring y i);
      change = record { named = refl; of = refl; change = latest.changes y i };
      by_then = one_less y.date date (older_early y i);
      greatest = λ d j c k. elim (last_told (attribute_of y) all (date -ℤ pos 1)) [
        | inl p ↦ (
            let up : d.date ≤ p.0.date = p.1.greatest d j c k in
            let le : p.0.date ≤ y.date = latest.latest y p.0 i (last_older y p.0 p.1) p.1.change in
            omega arith)
        | inr f ↦ absurd (f d j c k)
      ];
    })

    held_kept : (y : Entry Sym) → IsIn y (held_of h) → IsKept all date y
    held_kept y i = elim (in_append h.older h.ring y i) [ inl j ↦ older_kept y j | inr k ↦ inl (ring_late y k) ]

    pub forgotten : Sifts (IsKept all date) all (held_of h)
    forgotten = drops_sifts (IsPast all (nat_of date)) (IsKept all date) all (held_of h) not_kept held_kept past
