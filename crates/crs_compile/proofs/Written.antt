-- The text of plans, part by part.
use Rattle.std.proofs.Common.{◌≡◌, refl, ap, sym, subst, ◌∙◌, ℕ, suc, ◌+◌, List, [], ◌∷◌, ◌++◌, length, map, append_assoc}
use Rattle.std.specs.Prelude.{ℤ, pos, slice_index_or}
use Rattle.crs_base.specs.declared.symbols.Sym.{Sym}
use Rattle.crs_stn.specs.Network.{IsMinimal, IsEarliest}
use Rattle.crs_stn.specs.Table.{most_of, IsEarliestByBounds}
use Rattle.crs_model.specs.declared.chronicle.EventDef.{EventDef as CodeEvent}
use Rattle.crs_model.specs.declared.plan.Plan.{Plan}
use Rattle.crs_model.specs.Plans.{chronicle, IsProper}
use Rattle.crs_model.specs.SeenModels.{event_of}
use Rattle.crs_compile.specs.Minimal.{head_text, pair_lines, earliest_text, plan_text, points_of, point_count, IsChronicleText, Appends}

counted : (events : List CodeEvent) → length (map event_of events) ≡ length events
counted [] = refl
counted (v ∷ vs) = ap suc (counted vs)

three : (old a b c x y new : List ℕ) → x ≡ old ++ a → y ≡ x ++ b → new ≡ y ++ c → new ≡ old ++ (a ++ b ++ c)
three old a b c x y new h k l = l ∙ ap (λ xs. xs ++ c) (k ∙ ap (λ xs. xs ++ b) h ∙ append_assoc old a b) ∙ append_assoc old (a ++ b) c

count_is : (p : Plan) → IsProper p → point_count (chronicle p) ≡ p.network.points
count_is p h = ap (λ n. n + length p.chronicle.free) (counted p.chronicle.events) ∙ sym h.points

-- the three parts of a plan's text, each behind the one before
pub plan_step : (f : Sym → List ℕ) (p : Plan) (points : List Sym) (dates : List ℤ) (old head pairs new : List ℕ) → IsProper p
    → points ≡ points_of (chronicle p) → length dates ≡ p.network.points → IsEarliestByBounds p.network (λ q. slice_index_or dates q (pos 0))
    → head ≡ old ++ head_text (f p.chronicle.name) p.reach → pairs ≡ head ++ pair_lines (most_of p.network) 0 (map f points) → new ≡ pairs ++ earliest_text (map f points) dates
    → Appends (IsChronicleText f (chronicle p)) old new
plan_step f p points dates old head pairs new h e l earliest a b c = record {
  text = plan_text (f p.chronicle.name) p.reach (map f (points_of (chronicle p))) (most_of p.network) dates;
  made = record {
    most = most_of p.network;
    reach = p.reach;
    dates = dates;
    minimal = subst (λ n. IsMinimal p.chronicle.bounds n (most_of p.network)) (sym (count_is p h)) h.minimal;
    longest = h.reach;
    each = l ∙ sym (count_is p h);
    earliest = subst (λ n. IsEarliest p.chronicle.bounds n (λ q. slice_index_or dates q (pos 0))) (sym (count_is p h))
        (earliest p.chronicle.bounds h.within h.consistent h.minimal);
    is = refl;
  };
  is = subst (λ ps. new ≡ old ++ plan_text (f p.chronicle.name) p.reach (map f ps) (most_of p.network) dates) e
      (three old (head_text (f p.chronicle.name) p.reach) (pair_lines (most_of p.network) 0 (map f points)) (earliest_text (map f points) dates) head pairs new a b c);
}
