-- Which of the held entries are candidates, where some symbols are known.
use Rattle.std.proofs.Common.{ℕ, ◌≤◌, List, inl, inr}
use Rattle.std.specs.Prelude.{ℤ, pos, ◌≤ℤ◌, ◌<ℤ◌, ◌↔◌, Option, IfSome}
use Rattle.std.specs.Int.{int_max}
use Rattle.crs_base.specs.declared.symbols.Sym.{Sym}
use Rattle.crs_base.specs.Entry.{Entry, IsInKeyOrder}
use Rattle.crs_base.specs.Words.{IsIn}
use Rattle.crs_base.proofs.Sifted.{sifts_iff, in_sifted, sifted_in}
use Rattle.crs_model.specs.declared.date_window.DateWindow.{DateWindow}
use Rattle.crs_history.specs.Histories.{EndsWith}
use Rattle.crs_history.specs.Keyed.{HaveKnown, IsLike}
use Rattle.crs_history.specs.Looking.{IsBetween, Finds}
use Rattle.crs_history.proofs.Left.{drops_in, drops_left}
use Rattle.crs_focus.specs.Candidacy.{IsTimely, AreCandidates, IsHeldFor}
use Rattle.crs_focus.proofs.Choosing.{max_over, max_first, max_second, up_to_last}
use Rattle.crs_focus.proofs.UpTo.{by_date}

module _ (name : Sym) (known : List (Option Sym)) (window : DateWindow) (floor : ℤ) where
  -- what is found in the window
  pub candidates_found : (last : ℕ) (from to : ℤ) → ((d : ℕ) → from ≤ℤ pos d ↔ IfSome window.least (λ least. least ≤ℤ pos d))
      → ((d : ℕ) → pos d <ℤ to ↔ ((d ≤ last) × IfSome window.most (λ most. pos d ≤ℤ most))) → (held ys : List (Entry Sym))
      → Finds (IsLike name known) (int_max floor from) to held ys → AreCandidates floor name known window last held ys
  candidates_found last from to since before held ys f = (
    f.0,
    sifts_iff (IsBetween (int_max floor from) to) (IsTimely floor window last) held f.0
        (λ e i n. record {
          kept = max_first floor from (pos e.date) n.since;
          not_soon = (since e.date).0 (max_second floor from (pos e.date) n.since);
          not_late = ((before e.date).0 n.before).1;
          by = ((before e.date).0 n.before).0;
        })
        (λ e i k. record { since = max_over floor from (pos e.date) k.kept ((since e.date).1 k.not_soon); before = (before e.date).1 (k.by, k.not_late) })
        f.1,
    f.2,
  )

  module _ (until : Entry Sym) (held ys : List (Entry Sym)) (are : AreCandidates floor name known window until.date held ys) (e : Entry Sym) where
    pub enough_found : IsInKeyOrder held → EndsWith until held → IsIn e held → IsHeldFor floor name window e → HaveKnown known e.args → IsIn e ys
    enough_found order ends i is has =
        let timely : IsTimely floor window until.date e = record { kept = is.kept; not_soon = is.not_soon; not_late = is.not_late; by = by_date e until (up_to_last held until e order ends i) } in
        elim (drops_left (λ e. IsLike name known e → ⊥) are.0 ys e are.2 (in_sifted (IsTimely floor window until.date) held are.0 e are.1 i timely)) [
          | inl j ↦ j
          | inr f ↦ absurd (f (record { named = is.named; has = has }))
        ]

    -- each of them is held, and dated so
    pub candidate_held : IsIn e ys → IsIn e held × IsTimely floor window until.date e
    candidate_held i = sifted_in (IsTimely floor window until.date) held are.0 e are.1 (drops_in (λ e. IsLike name known e → ⊥) are.0 ys e are.2 i)
