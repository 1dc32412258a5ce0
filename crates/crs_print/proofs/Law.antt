-- The canonical text of accepted models is read as the same models.
use Rattle.std.proofs.Common.{◌≡◌, ℕ, ◌≤◌, Bool, true, false, cond, nat_lt, List, [], ◌∷◌, ◌++◌, map, length, Result, Ok, Err, refl, sym, ap, subst, ◌∙◌, arith}
use Rattle.std.specs.List.{AllByRecursion, flat_map}
use Rattle.std.proofs.lemmas.Bool.{le-ltb}
use Rattle.crs_base.specs.Lines.{lines_of, is_long}
use Rattle.crs_base.proofs.Alls.{all_append}
use Rattle.crs_model.specs.Models.{Chronicle, Models}
use Rattle.crs_model.specs.declared.models.ModelWord.TheVariants.{Size as SizeWord}
use Rattle.crs_grammar.specs.Canon.{statements_text}
use Rattle.crs_parse.specs.Faults.{Name, Written, Reading, Fault, after_lines, nothing_read, reading_of}
use Rattle.crs_parse.specs.Meant.{chronicle_of, name_of, models_in, read_of, models_read}
use Rattle.crs_print.specs.CanonicalText.{name_from, derived_from, chronicle_from, statements_from, models_text}
use Rattle.crs_grammar.specs.Statements.{Statement, Close}
use Rattle.crs_parse.specs.ModelSteps.{reading_out}
use Rattle.crs_parse.proofs.Apart.{IsApart, AreApart, read_apart}
use Rattle.crs_parse.proofs.Numbered.{each_made, each_back}
use Rattle.crs_parse.proofs.SoundReading.{read_sound}
use Rattle.crs_base.proofs.DistinctTexts.{distinct_by}
use Rattle.crs_print.specs.CanonicalLaws.{IsReadable, without_line, without_lines, IsTableWithin, CanonicalModelsAreRead, TablesAreWithin, LinesAreNotWritten}
use Rattle.crs_print.proofs.Again.{AreShort, statements_of, all_go}
use Rattle.crs_print.proofs.Distinct.{IsTable}
use Rattle.crs_print.proofs.Good.{IsDone}
use Rattle.crs_print.proofs.GoodReading.{IsGoodReading, said, AreDeclared, AreBegun, called, read_good}
use Rattle.crs_print.proofs.Lines.{Writable, line_of, text_lines}
use Rattle.crs_print.proofs.Normal.{normal, done_normal, all_apart_normal, chronicle_meant}
use Rattle.crs_print.proofs.Reordered.{sorted, sorted_that, name_sorted, declared_distinct, declared_sorted, done_same}
use Rattle.crs_print.proofs.Says.{statements_again}
use Rattle.crs_print.proofs.Steps.{body_of, Steps, good_leads}
use Rattle.crs_print.proofs.Tables.{read_few, read_tables}

-- All can be written.

steps_writable : (texts : List (List ℕ)) (names : List Name) (done : List (ℕ × Written)) (ss : List Statement) (c : Written) → Steps texts names done c ss → AllByRecursion Writable ss
steps_writable texts names done [] c h = tt
steps_writable texts names done (s ∷ ss) c h = (h.0.writable, steps_writable texts names done ss _ h.3)

names_writable : (texts : List (List ℕ)) (ns before : List Name) → AreDeclared texts before ns → AllByRecursion Writable (map said ns)
names_writable texts [] before h = tt
names_writable texts (n ∷ ns) before h = (h.0.writable, names_writable texts ns (before ++ n ∷ []) h.2)

chronicle_writable : (texts : List (List ℕ)) (names : List Name) (c : Written) → IsDone texts names c → IsApart c c → AllByRecursion Writable (statements_of c)
chronicle_writable texts names c h own = let l = good_leads texts names [] c h.good own tt in (h.good.begins.writable, all_append Writable (body_of c) (Close ∷ []) (steps_writable texts names [] (body_of c) _ l.steps) ((tt, tt), tt))

chronicles_writable : (texts : List (List ℕ)) (names : List Name) (cs : List Written) → AllByRecursion (IsDone texts names) cs → AreApart cs → AllByRecursion Writable (flat_map statements_of cs)
chronicles_writable texts names [] h apart = tt
chronicles_writable texts names (c ∷ cs) h apart = all_append Writable (statements_of c) (flat_map statements_of cs) (chronicle_writable texts names c h.0 apart.0.0) (chronicles_writable texts names cs h.1 apart.1)

-- The chronicles mean the same, apart from their lines.

abbrev unlined : Written → Chronicle (List ℕ)
unlined c = chronicle_of (0, c)

without_each : (all : List (ℕ × Written)) → map without_line (map chronicle_of all) ≡ map unlined (map (λ d. d.1) all)
without_each [] = refl
without_each (d ∷ all) = ap (λ l. unlined d.1 ∷ l) (without_each all)

normal_each : (done : List (ℕ × Written)) → map unlined (map (λ d. normal d.1) done) ≡ map without_line (map chronicle_of done)
normal_each [] = refl
normal_each (d ∷ done) = λ i. chronicle_meant 0 d.1 i ∷ normal_each done i

same_called : (done : List (ℕ × Written)) → map (λ c. c.name) (map (λ d. normal d.1) done) ≡ called done
same_called [] = refl
same_called (d ∷ done) = ap (λ l. d.1.name ∷ l) (same_called done)

-- what the canonical text of a reading's models comes to
record IsAgain (limit : ℕ) (table : List (List ℕ)) (m : Models (List ℕ)) : Type 0 where
  models : Models (List ℕ)
  more : List (List ℕ)
  is : models_read limit table (models_text m) ≡ Ok (models, more)
  same : without_lines models ≡ without_lines m

module _ (limit : ℕ) (r : Reading) (good : IsGoodReading r.texts r) (apart : AreApart (map (λ d. d.1) r.done)) (few : length r.texts ≤ limit)
    (whole : statements_from (models_in r) ≡ map said (sorted r.names) ++ flat_map statements_of (map (λ d. normal d.1) r.done))
    (readable : IsReadable (models_text (models_in r))) (table : List (List ℕ)) (within : IsTable r.texts table) where
  abbrev cs : List Written
  cs = map (λ d. normal d.1) r.done

  abbrev ss : List Statement
  ss = map said (sorted r.names) ++ flat_map statements_of cs

  declared : AreDeclared r.texts [] (sorted r.names)
  declared = declared_sorted r.texts r.names good.names

  all_done : AllByRecursion (IsDone r.texts (sorted r.names)) cs
  all_done = each_made _ _ (λ d. normal d.1) r.done
      (λ d h. done_same r.names (sorted r.names) (name_sorted r.names (declared_distinct r.texts r.names good.names)) r.texts (normal d.1) (done_normal r.texts r.names d.1 h)) good.done

  all_apart : AreApart cs
  all_apart = all_apart_normal r.done apart

  writable : AllByRecursion Writable ss
  writable = all_append Writable (map said (sorted r.names)) (flat_map statements_of cs) (names_writable r.texts (sorted r.names) [] declared) (chronicles_writable r.texts (sorted r.names) cs all_done all_apart)

  text_is : models_text (models_in r) ≡ statements_text ss
  text_is = ap statements_text whole

  lines_are : lines_of (models_text (models_in r)) ≡ map line_of ss
  lines_are = ap lines_of text_is ∙ text_lines ss writable

  short : AreShort ss
  short = each_back _ _ line_of ss (λ s h. h) (subst (AllByRecursion (λ l. is_long l ≡ false)) lines_are readable.lines)

  begins : AreBegun [] (map (λ c. c.name) cs)
  begins = subst (AreBegun []) (sym (same_called r.done)) good.begins

  again : IsAgain limit table (models_in r)
  again =
      let a = all_go r.texts limit few (sorted r.names) cs table declared all_done all_apart begins short within in
      let small = le-ltb 1048576 (length (models_text (models_in r))) readable.size in
      record {
        models = models_in (reading_out (sorted r.names) a.0 a.1);
        more = a.1;
        is = (λ i. read_of (cond (small i) (Err (0, SizeWord)) (after_lines limit 1 (nothing_read table) (lines_are i)))) ∙ ap read_of a.3;
        same = λ i. record {
          names = map name_of (sorted_that false r.names i);
          derived = map name_of (sorted_that true r.names i);
          chronicles = (without_each a.0 ∙ ap (map unlined) a.2 ∙ normal_each r.done) i;
        };
      }

abbrev first_of : Models (List ℕ) → Result (Models (List ℕ) × List (List ℕ)) Fault → Models (List ℕ)
first_of m (Ok p) = p.0
first_of m (Err f) = m

abbrev second_of : List (List ℕ) → Result (Models (List ℕ) × List (List ℕ)) Fault → List (List ℕ)
second_of texts (Ok p) = p.1
second_of texts (Err f) = texts

pub by_reading : (o : Result Reading Fault) (m : Models (List ℕ)) (texts : List (List ℕ)) → read_of o ≡ Ok (m, texts) → (r : Reading) × (o ≡ Ok r) × (models_in r ≡ m) × (r.texts ≡ texts)
by_reading (Err f) m texts h = cc
by_reading (Ok r) m texts h = (r, refl, ap (first_of m) h, ap (second_of texts) h)

pub sized : (b : Bool) (x : Result Reading Fault) (r : Reading) → cond b (Err (0, SizeWord)) x ≡ Ok r → x ≡ Ok r
sized true x r h = cc
sized false x r h = h

pub canonical_is_read : CanonicalModelsAreRead
canonical_is_read limit was texts text m few accepted readable table within =
    let b = by_reading (reading_of was limit text) m texts accepted in
    let r : Reading = b.0 in
    let e = sized (nat_lt 1048576 (length text)) (after_lines limit 1 (nothing_read was) (lines_of text)) r b.1 in
    let good = read_good limit 1 was r (lines_of text) e in
    let sound = read_sound limit 1 was r (lines_of text) e in
    let apart = read_apart limit 1 was r (lines_of text) e in
    let size = read_few limit 1 was r (lines_of text) few e in
    let inside : IsTable r.texts table = subst (λ l. IsTable l table) (sym b.3) (record { distinct = distinct_by table within.distinct; within = within.within }) in
    let a = subst (IsAgain limit table) b.2 (again limit r good apart size (statements_again r sound.done) (subst (λ x. IsReadable (models_text x)) (sym b.2) readable) table inside) in
    (a.models, a.more, a.is, a.same)

pub tables_are_within : TablesAreWithin
tables_are_within limit was texts text m distinct accepted =
    let b = by_reading (reading_of was limit text) m texts accepted in
    let e = sized (nat_lt 1048576 (length text)) (after_lines limit 1 (nothing_read was) (lines_of text)) b.0 b.1 in
    let t = read_tables limit 1 was b.0 (lines_of text) distinct e in
    (subst (λ l. IsTableWithin l was) b.3 t.0, subst (λ l. IsTableWithin l l) b.3 t.1, record { distinct = λ i j l k e. absurd (omega arith); within = tt })

-- The text says nothing of closing lines.

unwritten : (cs : List (Chronicle (List ℕ))) → flat_map chronicle_from (map without_line cs) ≡ flat_map chronicle_from cs
unwritten [] = refl
unwritten (c ∷ cs) = ap (λ l. chronicle_from c ++ l) (unwritten cs)

without_text : (m : Models (List ℕ)) → models_text (without_lines m) ≡ models_text m
without_text m = ap (λ l. statements_text (map name_from m.names ++ map derived_from m.derived ++ l)) (unwritten m.chronicles)

pub lines_are_not_written : LinesAreNotWritten
lines_are_not_written n m e = sym (without_text n) ∙ ap models_text e ∙ without_text m
