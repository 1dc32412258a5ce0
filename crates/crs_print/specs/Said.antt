-- What the program's models say, as statements with the texts of a table.
use Rattle.std.specs.Prelude.{ℕ, ◌<◌, List, map, length, Option, option_map}
use Rattle.std.specs.List.{AllByRecursion, flat_map}
use Rattle.crs_base.specs.Symbols.{text_at}
use Rattle.crs_base.specs.declared.symbols.Sym.{Sym}
use Rattle.crs_stn.specs.declared.bound.Bound.{Bound}
use Rattle.crs_model.specs.declared.pattern.Term.{Term as CodeTerm}
use Rattle.crs_model.specs.declared.pattern.Pattern.{Pattern as CodePattern}
use Rattle.crs_model.specs.declared.chronicle.EventDef.{EventDef as CodeEvent}
use Rattle.crs_model.specs.declared.chronicle.VarSet.{VarSet as CodeSet}
use Rattle.crs_model.specs.declared.chronicle.Anchor.{Anchor as CodeAnchor}
use Rattle.crs_model.specs.declared.chronicle.Body.{Body as CodeBody}
use Rattle.crs_model.specs.declared.chronicle.Window.{Window as CodeWindow}
use Rattle.crs_model.specs.declared.chronicle.Emit.{Emit as CodeEmit}
use Rattle.crs_model.specs.declared.chronicle.Chronicle.{Chronicle as CodeChronicle}
use Rattle.crs_model.specs.declared.models.Name.{Name as CodeName}
use Rattle.crs_model.specs.SeenModels as view
use Rattle.crs_model.specs.Renaming.{text_in, renamed_term, renamed_pattern, renamed_event, renamed_set, renamed_body, renamed_window, renamed_emit, renamed_chronicle, renamed_name, IsTermOf, IsPatternOf}
use Rattle.crs_grammar.specs.Statements.{Term, Pattern, Event, Anchor, Body, Window, Distance, Statement, Happens, Point, Between, Among, Differ, Over, Emits}
use Rattle.crs_grammar.specs.Canon.{part_text}
use Rattle.crs_grammar.specs.Forms.{Part}
use Rattle.crs_print.specs.CanonicalText as from

abbrev pub text_of : List Part → List ℕ
text_of ps = flat_map part_text ps

-- the number of a symbol that the table has
abbrev pub Has : List (List ℕ) → Sym → Type 0
Has texts s = s.0 < length texts

abbrev pub texts_of : List (List ℕ) → List Sym → List (List ℕ)
texts_of texts ss = map (text_in texts) ss

module _ (texts : List (List ℕ)) where
  abbrev pub HasTerm : CodeTerm → Type 0
  HasTerm t = IsTermOf (Has texts) (view.term_of t)

  abbrev pub HaveTerms : List CodeTerm → Type 0
  HaveTerms ts = AllByRecursion (IsTermOf (Has texts)) (map view.term_of ts)

  abbrev pub HasPattern : CodePattern → Type 0
  HasPattern p = IsPatternOf (Has texts) (view.pattern_of p)

  module _ (variables : List Sym) where
    abbrev pub term : CodeTerm → Term
    term t = from.term_from (texts_of texts variables) (renamed_term (text_in texts) (view.term_of t))

    abbrev pub terms : List CodeTerm → List Term
    terms ts = map (from.term_from (texts_of texts variables)) (map (renamed_term (text_in texts)) (map view.term_of ts))

    abbrev pub change : Option (CodeTerm × CodeTerm) → Option (Term × Term)
    change c = option_map (λ p. (term p.0, term p.1)) c

    abbrev pub pattern : CodePattern → Pattern
    pattern p = from.pattern_from (texts_of texts variables) (renamed_pattern (text_in texts) (view.pattern_of p))

    abbrev pub event : CodeEvent → Event
    event e = from.event_from (texts_of texts variables) (renamed_event (text_in texts) (view.event_of e))

    abbrev pub body : CodeBody → Body
    body b = from.body_from (texts_of texts variables) (renamed_body (text_in texts) (view.body_of b))

    abbrev pub window : List Sym → CodeWindow → Window
    window points w = from.window_from (texts_of texts variables) (texts_of texts points) (renamed_window (text_in texts) (view.window_of w))

  abbrev pub anchor : List Sym → CodeAnchor → Anchor
  anchor points a = from.anchor_from (texts_of texts points) (view.anchor_of a)

  abbrev pub distance : List Sym → Bound → Bound → Distance
  distance points high low = from.distance_from (texts_of texts points) high low

  -- the statements of the parts of a chronicle, as those of the models with texts
  abbrev pub events : List Sym → List CodeEvent → List Statement
  events variables es = map (λ e. Happens (from.event_from (texts_of texts variables) e)) (map (renamed_event (text_in texts)) (map view.event_of es))

  abbrev pub free : List Sym → List Statement
  free ps = map Point (texts_of texts ps)

  abbrev pub distances : List Sym → List Bound → List Statement
  distances points bs = map Between (from.distances_from (texts_of texts points) bs)

  abbrev pub sets : List Sym → List CodeSet → List Statement
  sets variables ss = map (λ s. Among (text_at (texts_of texts variables) s.variable) s.values) (map (renamed_set (text_in texts)) (map view.set_of ss))

  abbrev pub differs : List Sym → List (ℕ × ℕ) → List Statement
  differs variables ds = map (λ d. Differ (text_at (texts_of texts variables) d.0) (text_at (texts_of texts variables) d.1)) ds

  abbrev pub windows : List Sym → List Sym → List CodeWindow → List Statement
  windows variables points ws = map (λ v. Over (from.window_from (texts_of texts variables) (texts_of texts points) v)) (map (renamed_window (text_in texts)) (map view.window_of ws))

  abbrev pub emit : List Sym → List Sym → CodeEmit → Statement
  emit variables points e = Emits (from.emit_from (texts_of texts variables) (texts_of texts points) (renamed_emit (text_in texts) (view.emit_of e)))

  abbrev pub emits : List Sym → List Sym → List CodeEmit → List Statement
  emits variables points es = map (λ e. Emits (from.emit_from (texts_of texts variables) (texts_of texts points) e)) (map (renamed_emit (text_in texts)) (map view.emit_of es))

  abbrev pub derived : CodeName → Statement
  derived n = from.derived_from (renamed_name (text_in texts) (view.name_of n))

  abbrev pub all_derived : List CodeName → List Statement
  all_derived ns = map from.derived_from (map (renamed_name (text_in texts)) (map view.name_of ns))

  abbrev pub name : CodeName → Statement
  name n = from.name_from (renamed_name (text_in texts) (view.name_of n))

  abbrev pub names : List CodeName → List Statement
  names ns = map from.name_from (map (renamed_name (text_in texts)) (map view.name_of ns))

  abbrev pub chronicle : CodeChronicle → List Statement
  chronicle c = from.chronicle_from (renamed_chronicle (text_in texts) (view.chronicle_of c))

  abbrev pub chronicles : List CodeChronicle → List Statement
  chronicles cs = flat_map from.chronicle_from (map (renamed_chronicle (text_in texts)) (map view.chronicle_of cs))
