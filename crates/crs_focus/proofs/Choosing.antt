-- Which of the held entries are candidates.
use Rattle.std.proofs.Common.{◌≡◌, ℕ, ◌≤◌, List, [], ◌∷◌, ◌++◌, refl, sym, subst, inl, inr, filter, arith, Less}
use Rattle.std.specs.Prelude.{ℤ, pos, ◌≤ℤ◌, ◌<ℤ◌, ◌↔◌, ◌≢◌, IfSome}
use Rattle.std.specs.Int.{int_max}
use Rattle.std.specs.declared.cmp.Ordering.{Ordering}
use Rattle.std.specs.Ordering.{ordering_reverse}
use Rattle.std.specs.declared.cmp.Ordering.TheVariants.{Equal, Greater}
use Rattle.std.proofs.lemmas.Int.{ints, int_max_is}
use Rattle.crs_base.specs.declared.symbols.Sym.{Sym}
use Rattle.crs_base.specs.Entry.{Entry, entry_cmp, IsInKeyOrder}
use Rattle.crs_base.specs.Words.{IsIn}
use Rattle.crs_base.proofs.KeyOrder.{entry_total}
use Rattle.crs_base.proofs.Words.{in_append, in_append_right, in_from_each}
use Rattle.crs_base.specs.Sifted.{Sifts}
use Rattle.crs_base.proofs.Sifted.{sifts_twice, in_sifted}
use Rattle.crs_model.specs.declared.date_window.DateWindow.{DateWindow}
use Rattle.crs_history.specs.Histories.{EndsWith, HistoryState, IsKept, StandsFor}
use Rattle.crs_history.specs.Looking.{IsNamedIn}
use Rattle.crs_focus.specs.Candidacy.{IsCandidate, IsHeldFor, is_up_to}
use Rattle.crs_focus.proofs.UpTo.{sifts_up_to, by_date}

pub max_over : (a b t : ℤ) → a ≤ℤ t → b ≤ℤ t → int_max a b ≤ℤ t
max_over a b t h k = omega (arith, ints, int_max_is a b)

pub max_first : (a b t : ℤ) → int_max a b ≤ℤ t → a ≤ℤ t
max_first a b t h = omega (arith, ints, int_max_is a b)

pub max_second : (a b t : ℤ) → int_max a b ≤ℤ t → b ≤ℤ t
max_second a b t h = omega (arith, ints, int_max_is a b)

module _ (name : Sym) (window : DateWindow) (until : Entry Sym) (floor from to : ℤ)
    (since : (d : ℕ) → from ≤ℤ pos d ↔ IfSome window.least (λ least. least ≤ℤ pos d))
    (before : (d : ℕ) → pos d <ℤ to ↔ ((d ≤ until.date) × IfSome window.most (λ most. pos d ≤ℤ most))) where
  -- those of the range up to the key of until
  pub candidates_held : (held range : List (Entry Sym)) → Sifts (IsNamedIn name (int_max floor from) to) held range → Sifts (IsCandidate floor name window until) held (filter (is_up_to until) range)
  candidates_held held range h =
      sifts_twice (IsNamedIn name (int_max floor from) to) (λ e. entry_cmp e until ≢ Greater) (IsCandidate floor name window until) held range (filter (is_up_to until) range)
      (λ e i n u. record {
        named = n.named;
        kept = max_first floor from (pos e.date) n.since;
        not_soon = (since e.date).0 (max_second floor from (pos e.date) n.since);
        not_late = ((before e.date).0 n.before).1;
        up_to = u;
      })
      (λ e i k. (
        record { named = k.named; since = max_over floor from (pos e.date) k.kept ((since e.date).1 k.not_soon); before = (before e.date).1 (by_date e until k.up_to, k.not_late) },
        k.up_to,
      ))
      h (sifts_up_to until range)

-- the candidates of what a history stands for are held
pub candidates_stand : (name : Sym) (window : DateWindow) (until : Entry Sym) (h : HistoryState) (given : List (Entry Sym)) → Sifts (IsCandidate h.floor name window until) h.entries given
    → (settled : List (Entry Sym)) → StandsFor settled h → Sifts (IsCandidate h.floor name window until) settled given
candidates_stand name window until h given s settled stands =
    sifts_twice (IsKept settled h.floor) (IsCandidate h.floor name window until) (IsCandidate h.floor name window until) settled h.entries given
    (λ e i p q. q) (λ e i q. (inl q.kept, q)) stands s

-- in key order, the last is after none
pub up_to_last : (es : List (Entry Sym)) (until e : Entry Sym) → IsInKeyOrder es → EndsWith until es → IsIn e es → entry_cmp e until ≢ Greater
up_to_last es until e order ends i = elim (in_append ends.0 (until ∷ []) e (subst (λ (t : List (Entry Sym)). IsIn e t) ends.1 i)) [
  | inl k ↦ less (entry_cmp e until) (behind ends.0 (subst IsInKeyOrder ends.1 order) k)
  | inr k ↦ elim k [ inl s ↦ subst (λ (t : Entry Sym). entry_cmp t until ≢ Greater) (sym s) (same (entry_cmp until until) (entry_total.antisymm until until)) | inr none ↦ absurd none ]
]
  where
    less : (o : Ordering) → o ≡ Less → o ≢ Greater
    less o l g = cc

    same : (o : Ordering) → o ≡ ordering_reverse o → o ≢ Greater
    same Less l g = absurd cc
    same Equal l g = absurd cc
    same Greater l g = absurd cc

    behind : (front : List (Entry Sym)) → IsInKeyOrder (front ++ until ∷ []) → IsIn e front → entry_cmp e until ≡ Less
    behind [] o k = absurd k
    behind (d ∷ front) o (inl s) = subst (λ (t : Entry Sym). entry_cmp t until ≡ Less) (sym s) (in_from_each (λ t. entry_cmp d t ≡ Less) (front ++ until ∷ []) o.0 until (in_append_right front (until ∷ []) until (inl refl)))
    behind (d ∷ front) o (inr k) = behind front o.1 k

pub enough_held : (name : Sym) (window : DateWindow) (until : Entry Sym) (h : HistoryState) (given : List (Entry Sym)) → Sifts (IsCandidate h.floor name window until) h.entries given → IsInKeyOrder h.entries
    → EndsWith until h.entries → (e : Entry Sym) → IsIn e h.entries → IsHeldFor h.floor name window e → IsIn e given
enough_held name window until h given s order ends e i held =
    in_sifted (IsCandidate h.floor name window until) h.entries given e s i
    (record { named = held.named; kept = held.kept; not_soon = held.not_soon; not_late = held.not_late; up_to = up_to_last h.entries until e order ends i })
