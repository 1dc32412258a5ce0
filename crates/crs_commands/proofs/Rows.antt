-- A log worked by hand, down to its settled entries, its recognitions and its text.
use Rattle.std.proofs.lemmas.Int.{ints}
use Rattle.std.proofs.Common.{lit<, false, get_or, ◌≡◌, ◌∙◌, ap, refl, inl, inr, ℕ, ℤ, pos, negsuc, zero, suc, ◌+ℤ◌, ◌≤ℤ◌, List, [], ◌∷◌, ◌++◌, length, None, Some, arith}
use Rattle.std.specs.Prelude.{codes, slice_get}
use Rattle.std.specs.Fmt.{digits}
use Rattle.std.specs.List.{AllByRecursion, AllZip}
use Rattle.crs_base.specs.Lines.{lines_of}
use Rattle.crs_base.specs.Words.{IsIn}
use Rattle.crs_stn.specs.Bound.{Keeps, Meets, Agrees}
use Rattle.std.proofs.lemmas.List.Elements.{All-from_recursion}
use Rattle.crs_model.specs.declared.recognition.Mark.TheVariants.{Clock}
use Rattle.crs_model.specs.Models.{EventDef, Chronicle, Message}
use Rattle.crs_model.specs.Matching.{Binding, Assignment, PatternIs}
use Rattle.crs_model.specs.Open.{IsRecognised, whole}
use Rattle.crs_model.specs.Partial.{dates_of}
use Rattle.crs_log.specs.Reading.{numbered}
use Rattle.crs_log.specs.Run as run
use Rattle.crs_log.specs.Run.{Outcome, Accepted, Marked, after_lines, settled}
use Rattle.crs_log.specs.Trace.{Answer, answer_of}
use Rattle.crs_model.specs.Scopes.{ListsNew, scope_of}
use Rattle.crs_layers.specs.Runs.{State, Effect, views_of}
use Rattle.crs_layers.specs.Strata.{Placed, Stratum}
use Rattle.crs_frames.specs.Frames.{LogEntry, Frame, log_setting}
use Rattle.crs_session.specs.Texts.{setting_of, start_of, IsLogText}

abbrev plain : List ℕ → List ℕ → EventDef (List ℕ)
plain name point = record { pattern = record { name = name; terms = []; change = None }; point = point; level = 0 }

-- b comes 1 to 5 ticks after a
abbrev model : Chronicle (List ℕ)
model = record {
  name = codes "c";
  prompt = false;
  line = 7;
  events = plain (codes "a") (codes "t1") ∷ plain (codes "b") (codes "t2") ∷ [];
  free = [];
  bounds = record { from = 0; to = 1; most = Some (pos 5) } ∷ record { from = 1; to = 0; most = Some (negsuc 0) } ∷ [];
  variables = [];
  sets = [];
  differs = [];
  windows = [];
  emits = [];
}

-- of the lowest stratum, and it gives nothing
abbrev alone : Placed (List ℕ)
alone = record { chronicle = model; stratum = 0; lag = Some (pos 0) }

abbrev frame : Frame
frame = record {
  models = record { names = record { name = codes "a"; arity = 0; kind = Message } ∷ record { name = codes "b"; arity = 0; kind = Message } ∷ []; derived = []; chronicles = model ∷ [] };
  texts = codes "a" ∷ codes "b" ∷ codes "c" ∷ codes "t1" ∷ codes "t2" ∷ [];
  placed = alone ∷ [];
  symbols = 100;
  entries = 100;
  cite = false;
}

abbrev lf : List ℕ
lf = 10 ∷ []

abbrev log : List ℕ
log = codes "10 a" ++ lf ++ codes "12 b" ++ lf ++ codes "clock 13" ++ lf

abbrev after : List ℕ → run.State
after bytes = after_lines (log_setting frame) (run.at_start frame.texts) (numbered (lines_of bytes))

abbrev entry : ℕ → ℕ → List ℕ → LogEntry
entry arrival date name = record { arrival = arrival; date = date; name = name; args = []; change = None; text = name }

abbrev first : LogEntry
first = entry 0 10 (codes "a")

abbrev second : LogEntry
second = entry 1 12 (codes "b")

-- what is dated before the horizon is settled
settled_before : settled (after log) ≡ first ∷ second ∷ []
settled_before = refl

-- what is dated at the horizon isn't
not_at_the_horizon : settled (after (codes "10 a" ++ lf ++ codes "13 b" ++ lf ++ codes "clock 13")) ≡ first ∷ []
not_at_the_horizon = refl

-- settled entries stand in the order of their dates, and of one date in that of their texts
in_key_order : settled (after (codes "delay 5" ++ lf ++ codes "12 b" ++ lf ++ codes "10 b" ++ lf ++ codes "10 a" ++ lf ++ codes "clock 20")) ≡ entry 2 10 (codes "a") ∷ entry 1 10 (codes "b") ∷ entry 0 12 (codes "b") ∷ []
in_key_order = refl

abbrev both : List LogEntry
both = first ∷ second ∷ []

abbrev assignment : Assignment (List ℕ)
assignment = record { entries = both; values = [] }

abbrev dates : ℕ → ℤ
dates zero = pos 10
dates (suc p) = pos 12

agree : Agrees (dates_of (whole assignment)) dates
agree zero = refl
agree (suc zero) = refl
agree (suc (suc p)) = tt

meet : Meets model.bounds dates
meet = All-from_recursion (Keeps dates) model.bounds (omega (arith, ints), (omega (arith, ints), tt))

recognised : IsRecognised model both both 13 assignment
recognised = record {
  assignment = record {
    given = (inl refl, (inr (inl refl), tt));
    distinct = (((λ (e : 0 ≡ 1). omega arith), tt), (tt, tt));
    bound = refl;
    equal = (record { name = refl; terms = tt; change = tt }, (record { name = refl; terms = tt; change = tt }, tt));
    allowed = record { sets = tt; differs = tt };
  };
  bounds = (dates, agree, meet);
  windows = λ w i. absurd i;
}

-- the other way round the bound isn't met
not_recognised : (values : List (List ℕ)) → IsRecognised model both both 13 (record { entries = entry 0 12 (codes "a") ∷ entry 1 10 (codes "b") ∷ []; values = values }) → ⊥
not_recognised values r =
    let before : r.bounds.0 1 ≡ pos 10 = r.bounds.1 1 in
    let after : r.bounds.0 0 ≡ pos 12 = r.bounds.1 0 in
    let least : r.bounds.0 0 ≤ℤ (r.bounds.0 1 +ℤ negsuc 0) = r.bounds.2 1 (record { from = 0; to = 0; most = None }) (lit< tt) in
    absurd (omega (arith, ints))

-- an entry of the name a is the first, and one of the name b the second
is_first : (x : LogEntry) → codes "a" ≡ x.name → IsIn x both → x ≡ first
is_first x e (inl h) = h
is_first x e (inr (inl h)) = let n : 97 ≡ 98 = ap (λ (t : List ℕ). get_or t 0 0) (e ∙ ap (λ (y : LogEntry). y.name) h) in absurd (omega (arith, n))
is_first x e (inr (inr h)) = absurd h

is_second : (x : LogEntry) → codes "b" ≡ x.name → IsIn x both → x ≡ second
is_second x e (inl h) = let n : 98 ≡ 97 = ap (λ (t : List ℕ). get_or t 0 0) (e ∙ ap (λ (y : LogEntry). y.name) h) in absurd (omega (arith, n))
is_second x e (inr (inl h)) = h
is_second x e (inr (inr h)) = absurd h

are_both : (x y : LogEntry) → x ≡ first → y ≡ second → (x ∷ y ∷ []) ≡ both
are_both x y e f = cc

no_values : (vs : List (List ℕ)) → length vs ≡ 0 → vs ≡ []
no_values [] e = refl
no_values (v ∷ vs) e = absurd (omega (arith, e))

-- no other assignment is recognised
only : (look : Binding (List ℕ)) (es : List LogEntry) → AllZip (λ v e. PatternIs look v.pattern e) model.events es → AllByRecursion (λ e. IsIn e both) es → es ≡ both
only look [] h g = absurd h
only look (x ∷ []) h g = absurd h.1
only look (x ∷ (y ∷ [])) h g = are_both x y (is_first x h.0.name g.0) (is_second y h.1.0.name g.1.0)
only look (x ∷ (y ∷ (z ∷ zs))) h g = absurd h.1.1

same : (es : List LogEntry) (vs : List (List ℕ)) (fs : List LogEntry) (ws : List (List ℕ)) → es ≡ fs → vs ≡ ws → ◌≡◌ {A = Assignment (List ℕ)} (record { entries = es; values = vs }) (record { entries = fs; values = ws })
same es vs fs ws e f = cc

new : ListsNew model (scope_of model [] [] 0) (scope_of model both both 13) (assignment ∷ [])
new = record {
  ascending = (tt, tt);
  each = ((recognised, λ r. r.assignment.given.0), tt);
  all = λ a h. inl (same a.entries a.values both [] (only (slice_get a.values) a.entries h.0.assignment.equal h.0.assignment.given) (no_values a.values h.0.assignment.bound));
}

abbrev answer : Answer
answer = answer_of 0 model assignment

abbrev stratum : List LogEntry → ℕ → List (Stratum (List ℕ))
stratum accepted marked = record { accepted = accepted; marked = marked } ∷ []

abbrev begun : State
begun = start_of frame

abbrev one_line : State
one_line = record { log = after (codes "10 a" ++ lf); strata = stratum (first ∷ []) 0 }

abbrev two_lines : State
two_lines = record { log = after (codes "10 a" ++ lf ++ codes "12 b" ++ lf); strata = stratum both 0 }

abbrev three_lines : State
three_lines = record { log = after log; strata = stratum both 2 }

abbrev effect : ℕ → Outcome → List (List LogEntry) → State → State → List Answer → Effect
effect n outcome given was now answers =
    record { number = n; outcome = outcome; given = given; flood = false; was = views_of (setting_of frame) was; now = views_of (setting_of frame) now; answers = answers }

text_of_a_log : IsLogText frame log (codes "c at 13 t1=10 t2=12" ++ lf)
unfolding digits
text_of_a_log = (
  effect 1 (Accepted first) [] begun one_line [] ∷ effect 2 (Accepted second) [] one_line two_lines [] ∷ effect 3 (Marked (Clock 13)) ([] ∷ []) two_lines three_lines (answer ∷ []) ∷ [],
  three_lines,
  (
    one_line,
    record { number = refl; log = refl; strata = (refl, refl); flood = refl; was = refl; now = refl; answers = refl },
    (
      two_lines,
      record { number = refl; log = refl; strata = (refl, refl); flood = refl; was = refl; now = refl; answers = refl },
      (
        three_lines,
        record {
          number = refl;
          log = refl;
          strata = ([], [], [], refl, refl, (assignment ∷ [], [], new, refl, refl), (refl, refl));
          flood = refl;
          was = refl;
          now = refl;
          answers = (assignment ∷ [], [], new, refl, refl);
        },
        refl,
      ),
    ),
  ),
  refl,
)
