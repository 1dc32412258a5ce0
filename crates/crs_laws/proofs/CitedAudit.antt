-- The text of a log whose recognitions cite their entries has no audit fault.
use Rattle.std.proofs.lemmas.List.{length-map}
use Rattle.std.proofs.Common.{◌≡◌, ◌≢◌, ◌⊎◌, ◌∙◌, ap, sym, refl, subst, ℕ, suc, ◌+◌, ◌<◌, ◌^◌, ◌==◌, Bool, true, false, cond, List, [], ◌∷◌, ◌++◌, length, map, Option, Some, None, Ok, inl, inr, arith, append_assoc, length-append, Less, Equal, nat_lt, eq-eqb}
use Rattle.std.specs.Prelude.{flat_map, if◌then◌else◌}
use Rattle.std.specs.List.{AllByRecursion, AllZip}
use Rattle.std.specs.Option.{option_or}
use Rattle.std.specs.Ordering.{ordering_then}
use Rattle.crs_base.specs.Entry.{Entry, key_of as entry_key}
use Rattle.crs_base.specs.Lines.{Line, lines_of, bytes_of}
use Rattle.crs_base.specs.Words.{IsIn, Ordered}
use Rattle.crs_base.proofs.Alls.{all_append, all_each, all_both}
use Rattle.crs_base.proofs.KeyOrder.{entry_total}
use Rattle.crs_base.proofs.LineSteps.{whole}
use Rattle.crs_base.proofs.Words.{in_filter_back, in_from_each, in_map_back, in_append, ordered_append, ordered_map}
use Rattle.crs_drill.proofs.MadeLines.{split_line, plain_whole}
use Rattle.crs_model.specs.declared.recognition.Mark.{Mark}
use Rattle.crs_model.specs.Models.{Chronicle}
use Rattle.crs_model.specs.Matching.{Assignment, AreDistinct}
use Rattle.crs_model.specs.Order.{arrived, assignment_cmp, entries_cmp}
use Rattle.crs_model.specs.Scopes.{IsNewIn}
use Rattle.crs_model.proofs.Marks.{same_values}
use Rattle.crs_model.proofs.Settled.{of_settled}
use Rattle.crs_model.proofs.Ties.{key_itself, ordered_members}
use Rattle.crs_model.proofs.TwinPools.{one_arrival}
use Rattle.crs_log.specs.Reading.{Given, numbered}
use Rattle.crs_log.specs.Recognitions.{View, view_of, scope_in, IsRecognisedIn, Stays}
use Rattle.crs_log.specs.Run.{Setting, State, Outcome, Passed, Refused, Accepted, Marked, at_start, after_line, settled, marked_entries}
use Rattle.crs_log.specs.Trace.{Answer, answer_of, AreNew, AreAnswers, Effect, IsTrace, answers_in}
use Rattle.crs_log.proofs.ReadEntries.{IsRead}
use Rattle.crs_log.proofs.Staying.{IsSound, Leads, by_line, all_stay, begins_sound}
use Rattle.crs_audit.specs.Audits as audit
use Rattle.crs_audit.specs.Audits.{Ground, Earlier, AreCited, Unless, IsVerdict, IsLineAudit, IsAuditFrom, view_at}
use Rattle.crs_audit.specs.Claims.{Said}
use Rattle.crs_audit.specs.Notes.{Note, note_of, notes_of, number_of, last_view}
use Rattle.crs_commands.specs.AuditOutcomes.{ground_of}
use Rattle.crs_laws.specs.CitedTexts.{CitedTextsHaveNoFault}
use Rattle.crs_layers.specs.Laws.{flat}
use Rattle.crs_session.proofs.Lone.{traces_without_emits_are_lone}
use Rattle.crs_session.specs.Laws.{lone_text}
use Rattle.crs_session.specs.Tallies as session
use Rattle.crs_frames.specs.Frames.{Frame, log_setting, fault_of, answer_line}
use Rattle.crs_session.specs.Texts.{line_text}
use Rattle.crs_commands.proofs.Accepted.{are_placed}
use Rattle.crs_laws.proofs.CitedLines.{arrivals, cited_line, line_is, of_read, HasLine, has_line, line_said, line_plain, line_some}
use Rattle.crs_laws.proofs.CitedMarks.{IsSmallEntry, AreSmallEntries, Leaves, leaves}
use Rattle.crs_laws.proofs.CitedModels.{IsCitable, HaveOwnNames, models_citable, found_by_name, one_of_a_name}
use Rattle.crs_laws.proofs.CitedRefusals.{refusal_body, refusal_is, refusal_plain, refusal_said}
use Rattle.crs_laws.proofs.CitedWords.{IsEarly}

-- ---- what stays

stays_itself : (v : View) → Stays v v
stays_itself v = record { settled = λ e i. i; recognised = λ c b r. r }

stays_on : (u v w : View) → Stays u v → Stays v w → Stays u w
stays_on u v w a b = record { settled = λ e i. b.settled e (a.settled e i); recognised = λ c x r. b.recognised c x (a.recognised c x r) }

-- ---- entries and their numbers

same_entries : (es : List (Entry (List ℕ))) → entries_cmp es es ≡ Equal
same_entries [] = refl
same_entries (e ∷ es) = λ i. ordering_then (key_itself (entry_key e) i) (same_entries es i)

arrivals_tell : (all : List (Entry (List ℕ))) → AreDistinct all → (xs ys : List (Entry (List ℕ))) → AllByRecursion (λ e. IsIn e all) xs → AllByRecursion (λ e. IsIn e all) ys
    → arrivals xs ≡ arrivals ys → xs ≡ ys
arrivals_tell all apart [] [] h k e = refl
arrivals_tell all apart [] (y ∷ ys) h k e = absurd cc
arrivals_tell all apart (x ∷ xs) [] h k e = absurd cc
arrivals_tell all apart (x ∷ xs) (y ∷ ys) h k e =
    let first : x.arrival ≡ y.arrival = cc in
    let rest : arrivals xs ≡ arrivals ys = cc in
    let one : x ≡ y = one_arrival all apart x y h.0 k.0 first in
    let more : xs ≡ ys = arrivals_tell all apart xs ys h.1 k.1 rest in
    λ i. one i ∷ more i

-- what recognition reads was accepted
pool_accepted : (c : Chronicle (List ℕ)) (s : State) (e : Entry (List ℕ)) → IsIn e (scope_in c (view_of s)).pool → IsIn e s.accepted
pool_accepted c s e = by c.prompt
  where
    by : (b : Bool) → IsIn e (cond b (marked_entries s) (settled s)) → IsIn e s.accepted
    by true i = (in_filter_back (λ x. nat_lt x.arrival s.marked) s.accepted e ((ordered_members (arrived s.marked s.accepted)).there e i)).0
    by false i = (of_settled entry_total s.horizon s.accepted e i).0

-- ---- marks

last_on : (xs ys : List Note) (n : ℕ) → last_view (xs ++ ys) n ≡ option_or (last_view ys n) (last_view xs n)
last_on [] ys n = none (last_view ys n)
  where
    none : (o : Option View) → o ≡ option_or o None
    none None = refl
    none (Some v) = refl
last_on (x ∷ xs) ys n =
    ap (λ (o : Option View). option_or o (if x.0 == n then Some x.1 else None)) (last_on xs ys n)
    ∙ regrouped (last_view ys n) (last_view xs n) (if x.0 == n then Some x.1 else None)
  where
    regrouped : (a b c : Option View) → option_or (option_or a b) c ≡ option_or a (option_or b c)
    regrouped None b c = refl
    regrouped (Some v) b c = refl

-- the view behind a later mark
module _ (c : Setting) where
  later_view : (s : State) → IsSound s → (gs : List Given) (n : ℕ) (v : View) → last_view (notes_of c s gs) n ≡ Some v → Stays (view_of s) v
  later_view s sound [] n v e = absurd cc
  later_view s sound (g ∷ gs) n v e =
      let one = by_line c s sound g in
      let next : State = (after_line c s g).0 in
      by (after_line c s g).1 next one.0 (all_stay s next sound one.0 one.1) (later_view next one.0 gs n v) e
    where
      marked : (next : State) → Stays (view_of s) (view_of next) → (o : Option View) → (o ≡ Some v → Stays (view_of next) v) → (b : Bool) → option_or o (if b then Some (view_of next) else None) ≡ Some v → Stays (view_of s) v
      marked next on (Some w) rest b e = stays_on (view_of s) (view_of next) v on (rest e)
      marked next on None rest true e = subst (Stays (view_of s)) (same e) on
        where
          same : Some (view_of next) ≡ Some v → view_of next ≡ v
          same q = cc
      marked next on None rest false e = absurd cc

      by : (o : Outcome) (next : State) → IsSound next → Stays (view_of s) (view_of next) → (last_view (notes_of c next gs) n ≡ Some v → Stays (view_of next) v)
          → last_view (note_of next o ++ notes_of c next gs) n ≡ Some v → Stays (view_of s) v
      by Passed next k on rest e = stays_on (view_of s) (view_of next) v on (rest e)
      by (Refused fault) next k on rest e = stays_on (view_of s) (view_of next) v on (rest e)
      by (Accepted entry) next k on rest e = stays_on (view_of s) (view_of next) v on (rest e)
      by (Marked m) next k on rest e = marked next on (last_view (notes_of c next gs) n) rest (number_of m == n) e

  -- at a mark, the last mark of its number has a view in which all stays
  mark_view : (before : List Note) (m : Mark) (next : State) → IsSound next → (gs : List Given)
      → (v : View) × (last_view (before ++ (number_of m, view_of next) ∷ notes_of c next gs) (number_of m) ≡ Some v) × Stays (view_of next) v
  mark_view before m next sound gs =
      by (last_view (notes_of c next gs) (number_of m)) (λ v e. later_view next sound gs (number_of m) v e)
      (last_on before ((number_of m, view_of next) ∷ notes_of c next gs) (number_of m))
    where
      by : (o : Option View) → ((v : View) → o ≡ Some v → Stays (view_of next) v)
          → last_view (before ++ (number_of m, view_of next) ∷ notes_of c next gs) (number_of m)
          ≡ option_or (option_or o (if number_of m == number_of m then Some (view_of next) else None)) (last_view before (number_of m))
          → (v : View) × (last_view (before ++ (number_of m, view_of next) ∷ notes_of c next gs) (number_of m) ≡ Some v) × Stays (view_of next) v
      by (Some v) rest e = (v, e, rest v refl)
      by None rest e = (
        view_of next,
        e ∙ (λ i. option_or (option_or None (if eq-eqb (number_of m) (number_of m) refl i then Some (view_of next) else None)) (last_view before (number_of m))),
        stays_itself (view_of next),
      )

-- ---- answers

-- what an audit keeps of the claim of an answer
abbrev pub key_of : Answer → Earlier
key_of a = (a.chronicle.name, arrivals a.assignment.entries)

same_name : (x y : Earlier) → x ≡ y → x.0 ≡ y.0
same_name x y e = ap (λ (k : Earlier). k.0) e

same_numbers : (x y : Earlier) → x ≡ y → x.1 ≡ y.1
same_numbers x y e = ap (λ (k : Earlier). k.1) e

-- the claims so far, and those of further answers
abbrev pub with_keys : List Earlier → List Answer → List Earlier
with_keys earlier [] = earlier
with_keys earlier (a ∷ news) = with_keys (key_of a ∷ earlier) news

keys_many : (earlier : List Earlier) (news : List Answer) → length (with_keys earlier news) ≡ length earlier + length news
keys_many earlier [] = omega arith
keys_many earlier (a ∷ news) = keys_many (key_of a ∷ earlier) news ∙ omega arith

in_keys : (earlier : List Earlier) (news : List Answer) (k : Earlier) → IsIn k (with_keys earlier news) → IsIn k earlier ⊎ ((a : Answer) × IsIn a news × (k ≡ key_of a))
in_keys earlier [] k i = inl i
in_keys earlier (a ∷ news) k i = elim (in_keys (key_of a ∷ earlier) news k i) [
  | inl j ↦ (elim j [ inl e ↦ inr (a, inl refl, e) | inr old ↦ inl old ])
  | inr j ↦ inr (j.0, inr j.1, j.2)
]

module _ (cs : List (Chronicle (List ℕ))) (own : HaveOwnNames cs) (citable : AllByRecursion IsCitable cs) (limit : ℕ) (small : limit < 2 ^ 32) where
  -- an assignment of one of the chronicles that is new at a mark
  pub record IsFresh (was now : View) (a : Answer) : Type 0 where
    pub among : IsIn a.chronicle cs
    pub new : IsNewIn a.chronicle (scope_in a.chronicle was) (scope_in a.chronicle now) a.assignment

  -- a claim of a recognised assignment
  abbrev pub IsRecorded : View → Earlier → Type 0
  IsRecorded v k = (c : Chronicle (List ℕ)) × (b : Assignment (List ℕ)) × IsIn c cs × IsRecognisedIn c v b × (k ≡ (c.name, arrivals b.entries))

  abbrev pub AreRecorded : View → List Earlier → Type 0
  AreRecorded v earlier = (k : Earlier) → IsIn k earlier → IsRecorded v k

  recorded_on : (u v : View) (earlier : List Earlier) → Stays u v → AreRecorded u earlier → AreRecorded v earlier
  recorded_on u v earlier on h k i = let r = h k i in (r.0, r.1, r.2, on.recognised r.0 r.1 r.3, r.4)

  fresh_answers : (was now : View) (k : ℕ) (ds : List (Chronicle (List ℕ))) → ((d : Chronicle (List ℕ)) → IsIn d ds → IsIn d cs) → (news : List Answer) → AreNew k ds was now news → AllByRecursion (IsFresh was now) news
  fresh_answers was now k [] within news h = subst (AllByRecursion (IsFresh was now)) (sym h) tt
  fresh_answers was now k (d ∷ ds) within news h =
      subst (AllByRecursion (IsFresh was now)) (sym h.4)
      (all_append (IsFresh was now) (map (answer_of k d) h.0) h.1 (each h.0 h.2.each) (fresh_answers was now (suc k) ds (λ e i. within e (inr i)) h.1 h.3))
    where
      each : (bs : List (Assignment (List ℕ))) → AllByRecursion (IsNewIn d (scope_in d was) (scope_in d now)) bs → AllByRecursion (IsFresh was now) (map (answer_of k d) bs)
      each [] n = tt
      each (b ∷ bs) n = (record { among = within d (inl refl); new = n.0 }, each bs n.1)

  module _ (next : State) (sound : IsSound next) where
    abbrev now : View
    now = view_of next

    -- recognised assignments with the same entries' numbers have the same entries
    entries_told : (c d : Chronicle (List ℕ)) (a b : Assignment (List ℕ)) → IsRecognisedIn c now a → IsRecognisedIn d now b → arrivals a.entries ≡ arrivals b.entries → a.entries ≡ b.entries
    entries_told c d a b r q e =
        arrivals_tell next.accepted sound.accepted.distinct a.entries b.entries
        (all_each a.entries (λ x i. pool_accepted c next x i) r.assignment.given) (all_each b.entries (λ x i. pool_accepted d next x i) q.assignment.given) e

    -- so they are one, where they are of one chronicle
    one_of_numbers : (c : Chronicle (List ℕ)) → IsCitable c → (a b : Assignment (List ℕ)) → IsRecognisedIn c now a → IsRecognisedIn c now b → arrivals a.entries ≡ arrivals b.entries → a ≡ b
    one_of_numbers c k a b r q e =
        same_values c k.named (scope_in c now).pool (scope_in c now).pool a b r.assignment q.assignment (entries_told c c a b r q e)

    -- new assignments of a chronicle, in key order, have keys of their own
    keys_apart : (was : View) (k : ℕ) (d : Chronicle (List ℕ)) (bs : List (Assignment (List ℕ))) → AllByRecursion (IsNewIn d (scope_in d was) (scope_in d now)) bs → Ordered (λ a b. assignment_cmp a b ≡ Less) bs
        → Ordered (λ a b. key_of a ≢ key_of b) (map (answer_of k d) bs)
    keys_apart was k d [] h o = tt
    keys_apart was k d (b ∷ bs) h o = (each bs h.1 o.0, keys_apart was k d bs h.1 o.1)
      where
        each : (news : List (Assignment (List ℕ))) → AllByRecursion (IsNewIn d (scope_in d was) (scope_in d now)) news → AllByRecursion (λ a. assignment_cmp b a ≡ Less) news
            → AllByRecursion (λ a. key_of (answer_of k d b) ≢ key_of a) (map (answer_of k d) news)
        each [] h l = tt
        each (a ∷ news) n l = (
          λ e.
              let same : b.entries ≡ a.entries = entries_told d d b a h.0.0 n.0.0 (same_numbers (key_of (answer_of k d b)) (key_of (answer_of k d a)) e) in
              let equal : assignment_cmp b a ≡ Equal = ap (λ (es : List (Entry (List ℕ))). entries_cmp es a.entries) same ∙ same_entries a.entries in
              let never : Less ≡ Equal = sym l.0 ∙ equal in
              cc,
          each news n.1 l.1,
        )

    answers_apart : (was : View) (k : ℕ) (ds : List (Chronicle (List ℕ))) → HaveOwnNames ds → (news : List Answer) → AreNew k ds was now news → Ordered (λ a b. key_of a ≢ key_of b) news
    answers_apart was k [] own news h = subst (Ordered (λ a b. key_of a ≢ key_of b)) (sym h) tt
    answers_apart was k (d ∷ ds) own news h =
        subst (Ordered (λ a b. key_of a ≢ key_of b)) (sym h.4)
        (ordered_append (λ a b. key_of a ≢ key_of b) (map (answer_of k d) h.0) h.1 (keys_apart was k d h.0 h.2.each h.2.ascending) (answers_apart was (suc k) ds own.1 h.1 h.3)
        (λ a b i j e.
        let x = in_map_back (answer_of k d) h.0 a i in
        let of_d : a.chronicle ≡ d = ap (λ (y : Answer). y.chronicle) x.2 in
        let other : IsIn b.chronicle ds = named (suc k) ds h.1 h.3 b j in
        in_from_each (λ c. d.name ≢ c.name) ds own.0 b.chronicle other (ap (λ (c : Chronicle (List ℕ)). c.name) (sym of_d) ∙ same_name (key_of a) (key_of b) e)))
      where
        -- an answer is of one of the chronicles
        named : (k : ℕ) (ds : List (Chronicle (List ℕ))) (news : List Answer) → AreNew k ds was now news → (b : Answer) → IsIn b news → IsIn b.chronicle ds
        named k [] news h b i = absurd (subst (IsIn b) h i)
        named k (d ∷ ds) news h b i = elim (in_append (map (answer_of k d) h.0) h.1 b (subst (IsIn b) h.4 i)) [
          | inl j ↦ (let x = in_map_back (answer_of k d) h.0 b j in inl (ap (λ (y : Answer). y.chronicle) x.2))
          | inr j ↦ inr (named (suc k) ds h.1 h.3 b j)
        ]

    module _ (read : AreSmallEntries limit next.accepted) (g : Ground) (chronicles : g.chronicles ≡ cs) (m : Mark) (early : IsEarly m)
        (v : View) (seen : view_at g m ≡ Some v) (on : Stays now v) where
      module _ (was : View) (a : Answer) (fresh : IsFresh was now a) where
        citable_here : IsCitable a.chronicle
        citable_here = in_from_each IsCitable cs citable a.chronicle fresh.among

        then_recognised : IsRecognisedIn a.chronicle v a.assignment
        then_recognised = on.recognised a.chronicle a.assignment fresh.new.0

        accepted : AllByRecursion (λ e. IsIn e next.accepted) a.assignment.entries
        accepted = all_each a.assignment.entries (λ e i. pool_accepted a.chronicle next e i) fresh.new.0.assignment.given

        line : HasLine a.chronicle a.assignment
        line = has_line a.chronicle citable_here limit small (scope_in a.chronicle now).pool a.assignment fresh.new.0.assignment
            (all_each a.assignment.entries (λ e i. of_read e (in_from_each IsRead next.accepted sound.accepted.read e i)) accepted)
            (all_each a.assignment.entries (λ e i. (in_from_each (IsSmallEntry limit) next.accepted read e i).date) accepted)
            (all_each a.assignment.entries (λ e i. (in_from_each (IsSmallEntry limit) next.accepted read e i).number) accepted)

        numbers_apart : (es : List (Entry (List ℕ))) → AreDistinct es → Ordered (λ p q. p ≢ q) (arrivals es)
        numbers_apart es d = ordered_map (λ x y. x.arrival ≢ y.arrival) (λ p q. p ≢ q) (λ (e : Entry (List ℕ)). e.arrival) es (λ x y n. n) d

        each_given : (pool es : List (Entry (List ℕ))) → AllByRecursion (λ e. IsIn e pool) es → AllZip (λ n e. (e.arrival ≡ n) × IsIn e pool) (arrivals es) es
        each_given pool [] h = tt
        each_given pool (e ∷ es) h = ((refl, h.0), each_given pool es h.1)

        cited : AreCited a.chronicle (scope_in a.chronicle v).pool (arrivals a.assignment.entries) a.assignment.entries
        cited = record {
          each = length-map a.assignment.entries (λ (e : Entry (List ℕ)). e.arrival) ∙ line.many;
          distinct = numbers_apart a.assignment.entries fresh.new.0.assignment.distinct;
          given = each_given (scope_in a.chronicle v).pool a.assignment.entries then_recognised.assignment.given;
        }

        -- the claim of the answer has no fault, where no earlier claim cites the same
        pub no_fault : (earlier : List Earlier) → (IsIn (key_of a) earlier → ⊥)
            → IsVerdict g earlier (bytes_of (whole (cited_line a.chronicle m a.assignment))) (record { name = a.chronicle.name; mark = m; numbers = arrivals a.assignment.entries }) None
        no_fault earlier unheard = inr (
          (a.chronicle, ap (λ (ds : List (Chronicle (List ℕ))). audit.chronicle_named ds a.chronicle.name) chronicles ∙ found_by_name cs own a.chronicle fresh.among),
          inr (
            (v, seen),
            inr (
              (a.assignment.entries, cited),
              inr (
                (a.assignment.values, then_recognised.assignment),
                inr (
                  then_recognised.bounds,
                  inr (
                    then_recognised.windows,
                    inr (
                      ap (λ (w : List ℕ). w ++ 10 ∷ []) (plain_whole (cited_line a.chronicle m a.assignment) (line_plain a.chronicle citable_here m early a.assignment line))
                          ∙ sym (line_is a.chronicle m a.assignment),
                      inr (unheard, refl),
                    ),
                  ),
                ),
              ),
            ),
          ),
        )

        -- so a line more passes
        pub passes : (n : ℕ) (earlier : List Earlier) → (IsIn (key_of a) earlier → ⊥) → (rest : List ℕ) (answer : audit.Answer)
            → IsAuditFrom g (n + 1) (key_of a ∷ earlier) (lines_of rest) answer → IsAuditFrom g n earlier (lines_of (answer_line true m a ++ rest)) answer
        passes n earlier unheard rest answer more =
            let l : Line = whole (cited_line a.chronicle m a.assignment) in
            let first : lines_of (answer_line true m a ++ rest) ≡ l ∷ lines_of rest =
            ap (λ (t : List ℕ). lines_of (t ++ rest)) (line_is a.chronicle m a.assignment)
            ∙ split_line (cited_line a.chronicle m a.assignment) rest (line_some a.chronicle citable_here m early a.assignment line) (line_plain a.chronicle citable_here m early a.assignment line) in
            subst (λ (ls : List Line). IsAuditFrom g n earlier ls answer) (sym first)
            (subst (λ (x : Said). IsLineAudit g n earlier (bytes_of l) x answer (λ claims. IsAuditFrom g (n + 1) claims (lines_of rest) answer))
            (sym (line_said a.chronicle citable_here m early a.assignment line)) (inr (no_fault earlier unheard, more)))

      -- and so do all lines of the mark
      pub all_pass : (was : View) (news : List Answer) → AllByRecursion (IsFresh was now) news → Ordered (λ a b. key_of a ≢ key_of b) news → (n : ℕ) (earlier : List Earlier)
          → AllByRecursion (λ a. IsIn (key_of a) earlier → ⊥) news → (rest : List ℕ) (answer : audit.Answer)
          → ((k : ℕ) → IsAuditFrom g k (with_keys earlier news) (lines_of rest) answer)
          → IsAuditFrom g n earlier (lines_of (flat_map (answer_line true m) news ++ rest)) answer
      all_pass was [] fresh apart n earlier unheard rest answer more = more n
      all_pass was (a ∷ news) fresh apart n earlier unheard rest answer more =
          subst (λ (t : List ℕ). IsAuditFrom g n earlier (lines_of t) answer) (sym (append_assoc (answer_line true m a) (flat_map (answer_line true m) news) rest))
          (passes was a fresh.0 n earlier unheard.0 (flat_map (answer_line true m) news ++ rest) answer
          (all_pass was news fresh.1 apart.1 (n + 1) (key_of a ∷ earlier)
          (all_each news (λ b u i. elim i [ inl e ↦ u.0 (sym e) | inr old ↦ u.1 old ]) (all_both (λ b. key_of a ≢ key_of b) (λ b. IsIn (key_of b) earlier → ⊥) news apart.0 unheard.1))
          rest answer more))

    -- no claim before the mark cites what is new at it
    unheard : (s : State) → Stays (view_of s) now → (earlier : List Earlier) → AreRecorded (view_of s) earlier → (a : Answer) → IsFresh (view_of s) now a → IsIn (key_of a) earlier → ⊥
    unheard s on earlier recorded a fresh i =
        let r = recorded (key_of a) i in
        let same : a.chronicle ≡ r.0 = one_of_a_name cs own a.chronicle r.0 fresh.among r.2 (same_name (key_of a) (r.0.name, arrivals r.1.entries) r.4) in
        let then_so : IsRecognisedIn a.chronicle (view_of s) r.1 = subst (λ (c : Chronicle (List ℕ)). IsRecognisedIn c (view_of s) r.1) (sym same) r.3 in
        let one : r.1 ≡ a.assignment =
        one_of_numbers a.chronicle (in_from_each IsCitable cs citable a.chronicle fresh.among) r.1 a.assignment (on.recognised a.chronicle r.1 then_so) fresh.new.0
        (sym (same_numbers (key_of a) (r.0.name, arrivals r.1.entries) r.4)) in
        fresh.new.1 (subst (λ (b : Assignment (List ℕ)). IsRecognisedIn a.chronicle (view_of s) b) one then_so)

    -- the claims behind the mark
    recorded_then : (was : View) (earlier : List Earlier) → AreRecorded now earlier → (news : List Answer) → AllByRecursion (IsFresh was now) news → AreRecorded now (with_keys earlier news)
    recorded_then was earlier recorded news fresh k i = elim (in_keys earlier news k i) [
      | inl old ↦ recorded k old
      | inr new ↦ (
          let f = in_from_each (IsFresh was now) news fresh new.0 new.1 in
          (new.0.chronicle, new.0.assignment, f.among, f.new.0, new.2)
          )
    ]

-- ---- the text

module _ (f : Frame) (log : List ℕ) (own : HaveOwnNames f.models.chronicles) (citable : AllByRecursion IsCitable f.models.chronicles) (small : f.entries < 2 ^ 32) where
  abbrev cs : List (Chronicle (List ℕ))
  cs = f.models.chronicles

  abbrev all_notes : List Note
  all_notes = notes_of (log_setting f) (at_start f.texts) (numbered (lines_of log))

  -- the audit of what further lines bring
  abbrev Passes : State → List Given → List Effect → State → Type 0
  Passes s gs es last = (n : ℕ) (earlier : List Earlier) → AreRecorded cs own citable f.entries small (view_of s) earlier
      → IsAuditFrom (ground_of f log) n earlier (lines_of (lone_text true es)) (Ok (length earlier + length (answers_in es)))

  -- so it passes behind whatever marks
  abbrev Further : State → List Given → List Effect → State → Type 0
  Further s gs es last = (marks : List Note) → all_notes ≡ marks ++ notes_of (log_setting f) s gs → Passes s gs es last

  refusal_passes : (number : ℕ) (fault : _) (n : ℕ) (earlier : List Earlier) (rest : List ℕ) (answer : audit.Answer)
      → IsAuditFrom (ground_of f log) (n + 1) earlier (lines_of rest) answer
      → IsAuditFrom (ground_of f log) n earlier (lines_of (line_text true number (Refused fault) [] ++ rest)) answer
  refusal_passes number fault n earlier rest answer more =
      let body = refusal_body number (fault_of fault) in
      let first : lines_of (line_text true number (Refused fault) [] ++ rest) ≡ whole body ∷ lines_of rest =
      ap (λ (t : List ℕ). lines_of (t ++ rest)) (refusal_is number (fault_of fault)) ∙ split_line body rest (omega arith) (refusal_plain number (fault_of fault)) in
      subst (λ (ls : List Line). IsAuditFrom (ground_of f log) n earlier ls answer) (sym first)
      (subst (λ (x : Said). IsLineAudit (ground_of f log) n earlier (bytes_of (whole body)) x answer (λ claims. IsAuditFrom (ground_of f log) (n + 1) claims (lines_of rest) answer))
      (sym (refusal_said number (fault_of fault))) more)

  passes_from : (s : State) → IsSound s → AreSmallEntries f.entries s.accepted → (before : List Note) (gs : List Given) → all_notes ≡ before ++ notes_of (log_setting f) s gs
      → (es : List Effect) (last : State) → IsTrace (log_setting f) cs s gs es last → Passes s gs es last
  passes_from s sound read before [] notes [] last trace n earlier recorded = ap Ok (omega arith)
  passes_from s sound read before [] notes (e ∷ es) last trace n earlier recorded = absurd trace
  passes_from s sound read before (g ∷ gs) notes [] last trace n earlier recorded = absurd trace
  passes_from s sound read before (g ∷ gs) notes (e ∷ es) last (next, step, rest) n earlier recorded =
      by (λ b k. passes_from next leads.0 read_next b gs k es last rest) e.outcome e.answers (ap (λ (r : State × Outcome). r.1) step.becomes) (subst (λ (v : View). AreAnswers cs v (view_of next) e.outcome e.answers) step.was (subst (λ (v : View). AreAnswers cs e.was v e.outcome e.answers) step.now step.answers))
    where
      leads : Leads s next
      leads = subst (Leads s) (ap (λ (r : State × Outcome). r.0) step.becomes) (by_line (log_setting f) s sound g)

      left : Leaves f.entries s (after_line (log_setting f) s g)
      left = leaves (log_setting f) s g

      read_next : AreSmallEntries f.entries next.accepted
      read_next = subst (AreSmallEntries f.entries) (ap (λ (r : State × Outcome). r.0.accepted) step.becomes) (left.small read)

      on : Stays (view_of s) (view_of next)
      on = all_stay s next sound leads.0 leads.1

      recorded_next : AreRecorded cs own citable f.entries small (view_of next) earlier
      recorded_next = recorded_on cs own citable f.entries small (view_of s) (view_of next) earlier on recorded

      -- the notes behind this line
      noted : (o : Outcome) → (after_line (log_setting f) s g).1 ≡ o → all_notes ≡ before ++ (note_of next o ++ notes_of (log_setting f) next gs)
      noted o becomes = notes ∙ (λ i. before ++ (note_of (ap (λ (r : State × Outcome). r.0) step.becomes i) (becomes i) ++ notes_of (log_setting f) (ap (λ (r : State × Outcome). r.0) step.becomes i) gs))

      on_with : Further next gs es last → (o : Outcome) → (after_line (log_setting f) s g).1 ≡ o → Passes next gs es last
      on_with further o becomes = further (before ++ note_of next o) (noted o becomes ∙ sym (append_assoc before (note_of next o) (notes_of (log_setting f) next gs)))

      by : Further next gs es last → (o : Outcome) (news : List Answer) → (after_line (log_setting f) s g).1 ≡ o → AreAnswers cs (view_of s) (view_of next) o news
          → IsAuditFrom (ground_of f log) n earlier (lines_of (line_text true e.number o news ++ lone_text true es)) (Ok (length earlier + length (news ++ answers_in es)))
      by further Passed news becomes h =
          subst (λ (xs : List Answer). IsAuditFrom (ground_of f log) n earlier (lines_of (line_text true e.number Passed xs ++ lone_text true es)) (Ok (length earlier + length (xs ++ answers_in es)))) (sym h)
          (on_with further Passed becomes n earlier recorded_next)
      by further (Refused fault) news becomes h =
          subst (λ (xs : List Answer). IsAuditFrom (ground_of f log) n earlier (lines_of (line_text true e.number (Refused fault) xs ++ lone_text true es)) (Ok (length earlier + length (xs ++ answers_in es)))) (sym h)
          (refusal_passes e.number fault n earlier (lone_text true es) (Ok (length earlier + length (answers_in es))) (on_with further (Refused fault) becomes (n + 1) earlier recorded_next))
      by further (Accepted entry) news becomes h =
          subst (λ (xs : List Answer). IsAuditFrom (ground_of f log) n earlier (lines_of (line_text true e.number (Accepted entry) xs ++ lone_text true es)) (Ok (length earlier + length (xs ++ answers_in es)))) (sym h)
          (on_with further (Accepted entry) becomes n earlier recorded_next)
      by further (Marked m) news becomes h =
          let view = mark_view (log_setting f) before m next leads.0 gs in
          let seen : view_at (ground_of f log) m ≡ Some view.0 = ap (λ (ns : List Note). last_view ns (number_of m)) (noted (Marked m) becomes) ∙ view.1 in
          let fresh = fresh_answers cs own citable f.entries small (view_of s) (view_of next) 0 cs (λ d i. i) news h in
          let apart = answers_apart cs own citable f.entries small next leads.0 (view_of s) 0 cs own news h in
          let early = left.early m becomes in
          let many : length (with_keys earlier news) ≡ length earlier + length news = keys_many earlier news in
          let both : length (news ++ answers_in es) ≡ length news + length (answers_in es) = length-append news (answers_in es) in
          let sum : length (with_keys earlier news) + length (answers_in es) ≡ length earlier + length (news ++ answers_in es) = omega (arith, many, both) in
          all_pass cs own citable f.entries small next leads.0 read_next (ground_of f log) refl m early view.0 seen view.2 (view_of s) news fresh apart n earlier
          (all_each news (λ a fr. unheard cs own citable f.entries small next leads.0 s on earlier recorded a fr) fresh)
          (lone_text true es) (Ok (length earlier + length (news ++ answers_in es)))
          (λ k. subst (λ (x : ℕ). IsAuditFrom (ground_of f log) k (with_keys earlier news) (lines_of (lone_text true es)) (Ok x)) sum
          (on_with further (Marked m) becomes k (with_keys earlier news) (recorded_then cs own citable f.entries small next leads.0 (view_of s) earlier recorded_next news fresh)))

pub cited_texts_have_no_fault : CitedTextsHaveNoFault
cited_texts_have_no_fault symbols entries models log f effects last few reads trace =
    let a = reads in
    let m = models_citable symbols models f.models f.texts a.read in
    let limit : f.entries ≡ entries = a.entries_are in
    let lone = traces_without_emits_are_lone f (lines_of log) effects last (are_placed true symbols entries models f a) (reads.cited_alone refl) trace in
    let answers : List Answer = answers_in (map flat effects) in
    let none : 0 + length answers ≡ length (session.answers_in effects) = omega (arith, ap length lone.answers_are) in
    subst (λ (text : List ℕ). IsAuditFrom (ground_of f log) 1 [] (lines_of text) (Ok (length (session.answers_in effects)))) (sym (lone.text_is true))
    (subst (λ (n : ℕ). IsAuditFrom (ground_of f log) 1 [] (lines_of (lone_text true (map flat effects))) (Ok n)) none
    (passes_from f log m.1 m.0 (omega (arith, limit)) (at_start f.texts) (begins_sound f.texts) tt [] (numbered (lines_of log)) refl (map flat effects) last.log lone.trace_is 1 [] (λ k i. absurd i)))
