-- What accepted models give to a cited line: symbols, few of each kind, and names that no two chronicles share.
use Rattle.std.proofs.Common.{◌≡◌, ◌≢◌, ◌∙◌, ap, sym, refl, subst, ℕ, ◌<◌, ◌≤◌, Bool, true, false, true≢false, nat_lt, List, [], ◌∷◌, ◌++◌, length, map, Some, Ok, inl, inr}
use Rattle.std.specs.Prelude.{if◌then◌else◌}
use Rattle.std.specs.List.{AllByRecursion}
use Rattle.std.specs.Str.{bytes_eq}
use Rattle.std.proofs.lemmas.Bool.{or_parts}
use Rattle.std.proofs.lemmas.List.Folds.{list_any-append}
use Rattle.crs_base.specs.Lines.{lines_of}
use Rattle.crs_base.specs.Symbols.{is_symbol}
use Rattle.crs_base.specs.Words.{IsIn, Ordered}
use Rattle.crs_base.proofs.Alls.{all_both, all_each}
use Rattle.crs_base.proofs.Texts.{bytes_same, same_bytes}
use Rattle.crs_base.proofs.Words.{in_from_each}
use Rattle.crs_model.specs.Models.{Chronicle, Models}
use Rattle.crs_model.specs.Proper.{IsNamed}
use Rattle.crs_parse.specs.Faults.{Name, Written, Reading, is_of, after_lines, nothing_read, reading_of}
use Rattle.crs_parse.specs.HeldStatements.{IsHeldChronicle}
use Rattle.crs_parse.specs.Meant.{event_of, chronicle_of, models_read}
use Rattle.crs_parse.proofs.HeldReading.{lines_read}
use Rattle.crs_parse.proofs.Numbered.{each_made}
use Rattle.crs_parse.proofs.Properly.{chronicle_proper}
use Rattle.crs_parse.proofs.Sound.{IsWhole}
use Rattle.crs_parse.proofs.SoundReading.{read_sound}
use Rattle.crs_print.proofs.GoodReading.{AreBegun, called, read_good}
use Rattle.crs_print.proofs.Law.{by_reading, sized}
use Rattle.crs_audit.specs.Audits.{chronicle_named}

pub record IsCitable (c : Chronicle (List ℕ)) : Type 0 where
  pub symbol : is_symbol c.name ≡ true
  pub some : 0 < length c.events
  pub events_few : length c.events ≤ 16
  pub points : AllByRecursion (λ v. is_symbol v.point ≡ true) c.events
  pub variables_few : length c.variables ≤ 16
  pub variables : AllByRecursion (λ t. is_symbol t ≡ true) c.variables
  pub named : IsNamed c

abbrev pub HaveOwnNames : List (Chronicle (List ℕ)) → Type 0
HaveOwnNames cs = Ordered (λ c d. c.name ≢ d.name) cs

citable : (texts : List (List ℕ)) (names : List Name) (d : ℕ × Written) → IsHeldChronicle texts d.1 → IsWhole names d.1 → IsCitable (chronicle_of d)
citable texts names d h w =
    let p = chronicle_proper texts names d h w in
    record {
      symbol = h.name.symbol;
      some = p.events_some;
      events_few = p.events_few;
      points = each_made _ _ (event_of d.1.variables) d.1.events (λ e q. q.point.symbol) h.events;
      variables_few = p.variables_few;
      variables = all_each d.1.variables (λ t q. q.symbol) h.variables;
      named = p.named;
    }

-- names that begin one after the other differ
begun_apart : (before ts : List (List ℕ)) → AreBegun before ts → AllByRecursion (λ t. is_of before t ≡ false) ts × Ordered (λ t u. t ≢ u) ts
begun_apart before [] h = (tt, tt)
begun_apart before (t ∷ ts) h =
    let rest = begun_apart (before ++ t ∷ []) ts h.2 in
    let parts : (u : List ℕ) → is_of (before ++ t ∷ []) u ≡ false → (is_of before u ≡ false) × (is_of (t ∷ []) u ≡ false) =
    (λ u e. or_parts (is_of before u) (is_of (t ∷ []) u) (sym (list_any-append (bytes_eq u) before (t ∷ [])) ∙ e)) in (
      (h.0, all_each ts (λ u e. (parts u e).0) rest.0),
      (
        all_each ts
            (λ u e same.
            let own : bytes_eq u t ≡ true = ap (bytes_eq u) same ∙ same_bytes u in
            let none = or_parts (bytes_eq u t) false (parts u e).1 in
            true≢false (sym own ∙ none.0))
            rest.0,
        rest.1,
      ),
    )

names_apart : (ds : List (ℕ × Written)) → Ordered (λ t u. t ≢ u) (called ds) → HaveOwnNames (map chronicle_of ds)
names_apart [] h = tt
names_apart (d ∷ ds) h = (each ds h.0, names_apart ds h.1)
  where
    each : (es : List (ℕ × Written)) → AllByRecursion (λ u. d.1.name ≢ u) (called es) → AllByRecursion (λ c. d.1.name ≢ c.name) (map chronicle_of es)
    each [] k = tt
    each (e ∷ es) k = (k.0, each es k.1)

pub models_citable : (symbols : ℕ) (text : List ℕ) (m : Models (List ℕ)) (texts : List (List ℕ)) → models_read symbols [] text ≡ Ok (m, texts)
    → AllByRecursion IsCitable m.chronicles × HaveOwnNames m.chronicles
models_citable symbols text m texts read =
    let b = by_reading (reading_of [] symbols text) m texts read in
    let r : Reading = b.0 in
    let e = sized (nat_lt 1048576 (length text)) (after_lines symbols 1 (nothing_read []) (lines_of text)) r b.1 in
    let held = lines_read symbols 1 [] r (lines_of text) e in
    let sound = read_sound symbols 1 [] r (lines_of text) e in
    let good = read_good symbols 1 [] r (lines_of text) e in
    subst (λ (n : Models (List ℕ)). AllByRecursion IsCitable n.chronicles × HaveOwnNames n.chronicles) b.2 (
      each_made _ _ chronicle_of r.done (λ d q. citable r.texts r.names d q.0 q.1)
          (all_both (λ d. IsHeldChronicle r.texts d.1) (λ d. IsWhole r.names d.1) r.done held.done sound.done),
      names_apart r.done (begun_apart [] (called r.done) good.begins).1,
    )

-- a chronicle is the first of its name
pub found_by_name : (cs : List (Chronicle (List ℕ))) → HaveOwnNames cs → (c : Chronicle (List ℕ)) → IsIn c cs → chronicle_named cs c.name ≡ Some c
found_by_name [] own c i = absurd i
found_by_name (d ∷ ds) own c (inl q) =
    (λ i. if (ap (λ x. bytes_eq d.name x.name) q ∙ same_bytes d.name) i then Some d else chronicle_named ds c.name) ∙ ap Some (sym q)
found_by_name (d ∷ ds) own c (inr i) =
    (λ j. if other (bytes_eq d.name c.name) refl j then Some d else chronicle_named ds c.name) ∙ found_by_name ds own.1 c i
  where
    other : (b : Bool) → bytes_eq d.name c.name ≡ b → bytes_eq d.name c.name ≡ false
    other true e = absurd (in_from_each (λ x. d.name ≢ x.name) ds own.0 c i (bytes_same d.name c.name e))
    other false e = e

-- chronicles of one name are one
pub one_of_a_name : (cs : List (Chronicle (List ℕ))) → HaveOwnNames cs → (c d : Chronicle (List ℕ)) → IsIn c cs → IsIn d cs → c.name ≡ d.name → c ≡ d
one_of_a_name cs own c d i j e = unwrapped c d (sym (found_by_name cs own c i) ∙ ap (chronicle_named cs) e ∙ found_by_name cs own d j)
  where
    unwrapped : (x y : Chronicle (List ℕ)) → Some x ≡ Some y → x ≡ y
    unwrapped x y h = cc
