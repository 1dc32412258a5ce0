-- At the limits of the program no line of a made log is refused.
use Rattle.std.proofs.Common.{◌≡◌, ◌∙◌, ap, sym, refl, subst, ℕ, zero, suc, ◌+◌, ◌-◌, ◌*◌, ◌%◌, ◌<◌, ◌≤◌, ◌^◌, ◌==◌, ◌||◌, Bool, true, false}
use Rattle.std.proofs.Common.{cond, List, [], ◌∷◌, ◌++◌, length, Some, None, Ok, Err, Result, arith, append_assoc, length-append, lt-ltb}
use Rattle.std.specs.Prelude.{codes, decimal, map, replicate}
use Rattle.std.specs.Fmt.{digits}
use Rattle.std.specs.List.{AllByRecursion, list_any}
use Rattle.std.proofs.lemmas.List.{nil_from_length}
use Rattle.std.specs.Option.{option_and_then}
use Rattle.std.proofs.lemmas.Bool.{le-leb, le-ltb}
use Rattle.std.proofs.Math.Nat.{max-le}
use Rattle.crs_base.specs.Lines.{lines_of, line_limit}
use Rattle.crs_base.specs.Symbols.{is_known, with_texts}
use Rattle.crs_base.specs.Tokens.{Token, Word, Mark}
use Rattle.crs_base.proofs.LineSteps.{whole}
use Rattle.crs_drill.specs.Drill as drill
use Rattle.crs_drill.specs.Drill.{grown, kind_of, dated, drawn, date_of, unit_of, line_of, behind_line, clock_text, lines_behind, first_state, drill_text}
use Rattle.crs_drill.specs.DrillModels.{drill_models_text}
use Rattle.crs_drill.proofs.Drawn.{AreStages, stages_none, kind_below, kind_stages, kind_base}
use Rattle.crs_drill.proofs.MadeLines.{IsNumeral, numeral, lettered, IsWritten, plain_whole, split_line, entry_line, entry_ended, entry_written, clock_line, clock_written}
use Rattle.crs_grammar.specs.TokenReading.{term_at, terms_on, values_on, arguments_at, pair_at, change_at, pattern_at, shift_at, anchor_at, span_of, level_of, event_of, noevent_of, most_at, occurs_of, hold_of, end_at, distance_of, values_of, differ_of, of_variable, variable_of, called_of, point_of, worded_of, inside_of, attribute_of, named_of, outside_of}
use Rattle.crs_log.proofs.ItemLaw.{item_again}
use Rattle.crs_log.specs.ItemOf.{Empty, what_is}
use Rattle.crs_log.specs.Items.{Event, Item, Clock, Finish, Happens, IsStatement, log_number_of, in_dates}
use Rattle.crs_log.specs.Reading.{Plain, Long, given_line, given_lines, numbered}
use Rattle.crs_log.specs.Known.{Named, known_of, new_texts, entry_of_event}
use Rattle.crs_log.specs.Run.{Setting, State, Outcome, Accepted, Marked, Refused, Order, Back, Late, Full, Values, at_start, with_entry, after_line, after_item, after_what, after_ordered, after_verdict, horizon_at, outcomes}
use Rattle.crs_model.specs.declared.recognition.Mark.TheVariants.{Clock as AtClock}
use Rattle.crs_layers.specs.Laws.{flat}
use Rattle.crs_log.proofs.Traces.{trace_outcomes}
use Rattle.crs_model.specs.Models.{Models, Chronicle, Name, Message}
use Rattle.crs_parse.specs.Faults.{Fault}
use Rattle.crs_parse.specs.Meant.{models_read}
use Rattle.crs_session.proofs.Lone.{traces_without_emits_are_lone}
use Rattle.crs_commands.proofs.Accepted.{are_placed}
use Rattle.crs_outcomes.specs.ModelTexts.{IsAccepted}
use Rattle.crs_frames.specs.Frames.{Frame, log_setting, is_refused}
use Rattle.crs_session.specs.Texts.{SomeRefused}

-- ---- the models

abbrev message : List ℕ → Name (List ℕ)
message name = record { name = name; arity = 1; kind = Message }

abbrev drill_names : List (Name (List ℕ))
drill_names =
    message (codes "m0") ∷ message (codes "m1") ∷ message (codes "m2") ∷ message (codes "m3") ∷ message (codes "m4") ∷ message (codes "m5")
    ∷ message (codes "m6") ∷ message (codes "m7") ∷ []

abbrev Read : Type 0
Read = Result (Models (List ℕ) × List (List ℕ)) Fault

abbrev names_in : Read → List (Name (List ℕ))
names_in (Ok p) = p.0.names
names_in (Err e) = []

abbrev texts_in : Read → ℕ
texts_in (Ok p) = length p.1
texts_in (Err e) = 0

names_read : names_in (models_read 1048576 [] drill_models_text) ≡ drill_names
unfolding term_at terms_on values_on arguments_at pair_at change_at pattern_at shift_at anchor_at span_of level_of event_of noevent_of most_at occurs_of hold_of end_at distance_of values_of differ_of of_variable variable_of called_of point_of worded_of inside_of attribute_of named_of outside_of
names_read = refl

texts_read : texts_in (models_read 1048576 [] drill_models_text) ≡ 19
unfolding term_at terms_on values_on arguments_at pair_at change_at pattern_at shift_at anchor_at span_of level_of event_of noevent_of most_at occurs_of hold_of end_at distance_of values_of differ_of of_variable variable_of called_of point_of worded_of inside_of attribute_of named_of outside_of
texts_read = refl

-- each kind of line is declared
known_kind : (date kind : ℕ) (arg : List ℕ) → kind < 8
    → known_of drill_names (record { date = date; name = 109 ∷ decimal kind; args = arg ∷ []; change = None }) ≡ Named kind
unfolding digits
known_kind date zero arg h = refl
known_kind date (suc zero) arg h = refl
known_kind date (suc (suc zero)) arg h = refl
known_kind date (suc (suc (suc zero))) arg h = refl
known_kind date (suc (suc (suc (suc zero)))) arg h = refl
known_kind date (suc (suc (suc (suc (suc zero))))) arg h = refl
known_kind date (suc (suc (suc (suc (suc (suc zero)))))) arg h = refl
known_kind date (suc (suc (suc (suc (suc (suc (suc zero))))))) arg h = refl
known_kind date (suc (suc (suc (suc (suc (suc (suc (suc n)))))))) arg h = absurd (omega arith)

-- ---- lines that are items

-- the words and marks of the line are the item's
record IsRead (w : List ℕ) (item : Item) : Type 0 where
  tokens : List Token
  written : IsWritten w tokens
  means : IsStatement tokens item

read_line : (c : Setting) (s : State) (n : ℕ) (w : List ℕ) (item : Item) → IsRead w item
    → after_line c s (given_line line_limit n (whole w)) ≡ after_item c s item
read_line c s n w item h =
    (λ i. after_line c s (cond (le-ltb 4096 (length w) h.written.short i) (Long n) (Plain n (plain_whole w h.written.plain i))))
    ∙ ap (after_what c s) (λ i. cond (h.written.kept i) Empty (what_is (item_again w item (h.tokens, h.written.tokens, h.means) i)))

-- a date is less than 2^40
date_is : (n : ℕ) (w : List ℕ) → IsNumeral n w → n < 1099511627776 → log_number_of w ≡ Some n
date_is n w h below = ap (option_and_then in_dates) h.is ∙ (λ i. cond (lt-ltb n 1099511627776 below i) (Some n) None)

-- the event of an entry's line
abbrev made_event : (date kind unit : ℕ) → Event
made_event date kind unit = record { date = date; name = 109 ∷ decimal kind; args = (117 ∷ decimal unit) ∷ []; change = None }

entry_read : (date kind unit : ℕ) → date < 1099511627776 → kind < 8 → unit < 64
    → IsRead (entry_line (decimal date) (decimal kind) (decimal unit)) (Happens (made_event date kind unit))
entry_read date kind unit h k j =
    let a = numeral date (omega arith) in
    let b = numeral kind (omega arith) in
    let u = numeral unit (omega arith) in
    record {
      tokens = Word (decimal date) ∷ Word (109 ∷ decimal kind) ∷ Mark 91 ∷ Word (117 ∷ decimal unit) ∷ Mark 93 ∷ [];
      written = entry_written date kind unit (decimal date) (decimal kind) (decimal unit) a b u;
      means = record {
        date = decimal date;
        dated = date_is date (decimal date) a h;
        written = refl;
        name = lettered 109 kind (decimal kind) refl b;
        args = (lettered 117 unit (decimal unit) refl u, tt);
        change = tt;
      };
    }

clock_read : (date : ℕ) → date < 1099511627776 → IsRead (clock_line (decimal date)) (Clock date)
clock_read date h =
    let a = numeral date (omega arith) in
    record {
      tokens = Word (codes "clock") ∷ Word (decimal date) ∷ [];
      written = clock_written date (decimal date) a;
      means = (decimal date, refl, date_is date (decimal date) a h);
    }

-- ---- lines that go on

-- so much of the log is left room for
record IsRoomy (c : Setting) : Type 0 where
  names : c.names ≡ drill_names
  symbols : 1000200 ≤ c.symbols
  entries : 1000001 ≤ c.entries

-- what holds behind k lines, at this base date
record IsOn (k base : ℕ) (s : State) : Type 0 where
  open_still : s.ended ≡ false
  delay : s.delay ≡ 8
  last : s.last ≤ base
  horizon : s.horizon ≤ base - 8
  accepted : length s.accepted ≤ k
  texts : length s.texts ≤ k + 100

-- a line isn't refused
record Goes (k base : ℕ) (after : State × Outcome) : Type 0 where
  fine : is_refused after.1 ≡ false
  on : IsOn k base after.0

later : (k base now : ℕ) (s : State) → base ≤ now → IsOn k base s → IsOn k now s
later k base now s h o = record {
  open_still = o.open_still;
  delay = o.delay;
  last = omega (arith, o.last);
  horizon = omega (arith, o.horizon);
  accepted = o.accepted;
  texts = o.texts;
}

one_new : (texts : List (List ℕ)) (t : List ℕ) → length (new_texts texts (t ∷ [])) ≤ 1
one_new texts t = by (is_known texts t)
  where
    by : (b : Bool) → length (cond b [] (t ∷ [])) ≤ 1
    by true = omega arith
    by false = omega arith

one_more : (texts : List (List ℕ)) (t : List ℕ) → length (with_texts texts (t ∷ [])) ≤ length texts + 1
one_more texts t = by (is_known texts t)
  where
    by : (b : Bool) → length (cond b texts (texts ++ t ∷ [])) ≤ length texts + 1
    by true = omega arith
    by false = omega (arith, length-append texts (t ∷ []))

module _ (c : Setting) (room : IsRoomy c) where
  module _ (k base : ℕ) (s : State) (o : IsOn k base s) (few : k < 1000001) where
    entry_goes : (date kind unit : ℕ) → base - 8 ≤ date → kind < 8 → Goes (k + 1) base (after_item c s (Happens (made_event date kind unit)))
    entry_goes date kind unit due low =
        let e = made_event date kind unit in
        let unit_text = 117 ∷ decimal unit in
        let entry = entry_of_event (length s.accepted) e in
        let known : known_of c.names e ≡ Named kind = ap (λ ns. known_of ns e) room.names ∙ known_kind date kind unit_text low in
        let new = one_new s.texts unit_text in
        let late : s.horizon ≤ date = omega (arith, o.horizon, due) in
        let full : length s.accepted < c.entries = omega (arith, o.accepted, room.entries, few) in
        let fits : length s.texts + length (new_texts s.texts (unit_text ∷ [])) ≤ c.symbols = omega (arith, new, o.texts, room.symbols, few) in
        let all : after_item c s (Happens e) ≡ (with_entry s entry e, Accepted entry) =
        (λ i. cond (o.open_still i) (s, Refused Order) (after_ordered c s (Happens e)))
        ∙ (λ i. cond (le-ltb date s.horizon late i) (s, Refused (Late date s.horizon)) (after_verdict c s e (known i)))
        ∙ (λ i. cond (lt-ltb (length s.accepted) c.entries full i)
        (cond (le-leb (length s.texts + length (new_texts s.texts (unit_text ∷ []))) c.symbols fits i) (with_entry s entry e, Accepted entry) (s, Refused (Values c.symbols)))
        (s, Refused (Full c.entries))) in
        subst (Goes (k + 1) base) (sym all) (record {
          fine = refl;
          on = record {
            open_still = o.open_still;
            delay = o.delay;
            last = o.last;
            horizon = o.horizon;
            accepted = omega (arith, length-append s.accepted (entry ∷ []), o.accepted);
            texts = omega (arith, one_more s.texts unit_text, o.texts);
          };
        })

    clock_goes : Goes k base (after_item c s (Clock base))
    clock_goes =
        let now : State = record s { last = base; horizon = horizon_at s.delay s.horizon base; marked = length s.accepted } in
        let all : after_item c s (Clock base) ≡ (now, Marked (AtClock base)) =
        (λ i. cond (o.open_still i) (s, Refused Order) (after_ordered c s (Clock base)))
        ∙ (λ i. cond (le-ltb base s.last o.last i) (s, Refused (Back base s.last)) (now, Marked (AtClock base))) in
        subst (Goes k base) (sym all) (record {
          fine = refl;
          on = record {
            open_still = o.open_still;
            delay = o.delay;
            last = omega arith;
            horizon = max-le o.horizon (let low : base - s.delay ≤ base - 8 = omega (arith, o.delay) in low);
            accepted = o.accepted;
            texts = o.texts;
          };
        })

  -- none of the lines of this text is refused
  abbrev AreFine : State → List ℕ → Type 0
  AreFine s text = (m : ℕ) → list_any is_refused (outcomes c s (given_lines line_limit m (lines_of text))) ≡ false

  line_fine : (s : State) (w more : List ℕ) (item : Item) (k base : ℕ) → (r : IsRead w item) → Goes k base (after_item c s item)
      → ((t : State) → IsOn k base t → AreFine t more) → AreFine s ((w ++ 10 ∷ []) ++ more)
  line_fine s w more item k base r g rest m =
      let now : after_line c s (given_line line_limit (m + 1) (whole w)) ≡ after_item c s item = read_line c s (m + 1) w item r in
      ap (λ ls. list_any is_refused (outcomes c s (given_lines line_limit m ls))) (split_line w more r.written.some r.written.plain)
      ∙ (λ i. is_refused (now i).1 || list_any is_refused (outcomes c (now i).0 (given_lines line_limit (m + 1) (lines_of more))))
      ∙ (λ i. g.fine i || rest (after_item c s item).0 g.on (m + 1) i)

  clock_fine : (b : Bool) (s : State) (base : ℕ) (more : List ℕ) (k : ℕ) → IsOn k base s → k < 1000001 → base < 1099511627776
      → ((t : State) → IsOn k base t → AreFine t more)
      → AreFine s (cond b (codes "clock " ++ decimal base ++ codes "\n") [] ++ more)
  clock_fine false s base more k o few below rest = rest s o
  clock_fine true s base more k o few below rest =
      line_fine s (clock_line (decimal base)) more (Clock base) k base (clock_read base below) (clock_goes k base s o few) rest

  end_fine : (s : State) (k base : ℕ) → IsOn k base s → AreFine s (codes "end\n")
  end_fine s k base o m =
      ap (λ b. list_any is_refused ((cond b (s, Refused Order) (after_ordered c s Finish)).1 ∷ [])) o.open_still

-- ---- the made log

module _ (c : Setting) (room : IsRoomy c) where
  made_fine : (n k : ℕ) (d : drill.State) (s : State) → AreStages d.stages → IsOn k d.base s → k + n ≤ 1000000 → d.base ≤ 2 * k
      → AreFine c room s (lines_behind k n d)
  unfolding lines_behind
  made_fine zero k d s h o few low m = end_fine c room s k d.base o m
  made_fine (suc n) k d s h o few low m =
      let g = grown d in
      let unit = unit_of g in
      let at = drawn (dated g) in
      let kind = kind_of unit at in
      let behind = behind_line g in
      let low_kind : kind < 8 = kind_below unit at h in
      let low_unit : unit < 64 = omega arith in
      let step : g.base ≤ d.base + 2 = omega arith in
      let up : d.base ≤ g.base = omega arith in
      let due : g.base - 8 ≤ date_of g = omega arith in
      let below : date_of g < 1099511627776 = omega arith in
      let same : behind.base ≡ g.base = kind_base unit at in
      let clock = clock_text (k + 1) behind in
      let more = lines_behind (k + 1) n behind in
      let goes = entry_goes c room k g.base s (later k d.base g.base s up o) (omega arith) (date_of g) kind unit due low_kind in
      ap (λ text. list_any is_refused (outcomes c s (given_lines line_limit m (lines_of text)))) (append_assoc (line_of g) clock more)
      ∙ ap (λ line. list_any is_refused (outcomes c s (given_lines line_limit m (lines_of (line ++ (clock ++ more)))))) (entry_ended (date_of g) kind unit)
      ∙ line_fine c room s (entry_line (decimal (date_of g)) (decimal kind) (decimal unit)) (clock ++ more) (Happens (made_event (date_of g) kind unit)) (k + 1) g.base
      (entry_read (date_of g) kind unit below low_kind low_unit) goes
      (λ t on. clock_fine c room ((k + 1) % 16 == 0) t behind.base more (k + 1) (subst (λ b. IsOn (k + 1) b t) (sym same) on) (omega arith) (omega (arith, same))
      (λ u on. made_fine n (k + 1) behind u (kind_stages unit at h) on (omega arith) (omega (arith, same)))) m

abbrev emits_in : Read → List ℕ
emits_in (Ok p) = map (λ c. length c.emits) p.0.chronicles
emits_in (Err e) = []

emits_read : emits_in (models_read 1048576 [] drill_models_text) ≡ replicate 2 0
unfolding term_at terms_on values_on arguments_at pair_at change_at pattern_at shift_at anchor_at span_of level_of event_of noevent_of most_at occurs_of hold_of end_at distance_of values_of differ_of of_variable variable_of called_of point_of worded_of inside_of attribute_of named_of outside_of
emits_read = refl

none_emit : (cs : List (Chronicle (List ℕ))) (n : ℕ) → map (λ c. length c.emits) cs ≡ replicate n 0 → AllByRecursion (λ c. c.emits ≡ []) cs
none_emit [] n e = tt
none_emit (c ∷ cs) zero e = absurd cc
none_emit (c ∷ cs) (suc n) e =
    let first : length c.emits ≡ 0 = cc in
    let rest : map (λ d. length d.emits) cs ≡ replicate n 0 = cc in
    (nil_from_length c.emits first, none_emit cs n rest)

-- at the limits of the program the log of any seed is read without a refusal
pub none_refused : (f : Frame) (seed lines : ℕ) → lines ≤ 1000000 → IsAccepted false (2 ^ 20) (2 ^ 32 - 1) drill_models_text f
    → (b : Bool) → SomeRefused f (drill_text seed lines) b → b ≡ false
none_refused f seed lines few a b h =
    let names : f.models.names ≡ drill_names = sym (ap names_in a.read) ∙ names_read in
    let texts : length f.texts ≡ 19 = sym (ap texts_in a.read) ∙ texts_read in
    let silent : map (λ c. length c.emits) f.models.chronicles ≡ replicate 2 0 = sym (ap emits_in a.read) ∙ emits_read in
    let symbols = a.symbols_are in
    let entries = a.entries_are in
    let room : IsRoomy (log_setting f) = record { names = names; symbols = omega (arith, symbols); entries = omega (arith, entries) } in
    let lone = traces_without_emits_are_lone f (lines_of (drill_text seed lines)) h.0 h.1 (are_placed false (2 ^ 20) (2 ^ 32 - 1) drill_models_text f a) (none_emit f.models.chronicles 2 silent) h.2 in
    h.3 ∙ lone.refused_is
    ∙ sym (ap (list_any is_refused) (trace_outcomes (log_setting f) f.models.chronicles (at_start f.texts) (numbered (lines_of (drill_text seed lines))) (map flat h.0) h.1.log lone.trace_is))
    ∙ made_fine (log_setting f) room lines 0 (first_state seed) (record (at_start f.texts) { delay = 8 }) (stages_none 64)
    (record { open_still = refl; delay = refl; last = omega arith; horizon = omega arith; accepted = omega arith; texts = omega (arith, texts) })
    (omega (arith, few)) (omega arith) 1
