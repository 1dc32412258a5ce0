use Rattle.std.proofs.Common.{◌≡◌, ◌∙◌, ◌++◌, map, List, ℕ, subst, sym}
use Rattle.std.specs.List.{flat_map, AllByRecursion}
use Rattle.crs_model.specs.Renaming as renamed
use Rattle.crs_model.specs.SeenModels as view
use Rattle.crs_grammar.specs.Canon.{statement_line}
use Rattle.crs_print.specs.CanonicalText as from
use Rattle.crs_print.specs.Said as said
use Rattle.crs_grammar.specs.Statements.{Begin, Close, Between, Over, Emits}
use Rattle.crs_print.proofs.Grown.{joined, points_are, points_known}
use Rattle.crs_print.proofs.printing.put_chronicle.Goals as goal

pub put_distances-requires : goal.put_distances-requires
put_distances-requires c =
    subst (AllByRecursion (said.Has c.args.symbols.now.texts)) (sym c.deref.ensures.value)
    (points_known (said.Has c.args.symbols.now.texts) c.args.c.now.events c.args.c.now.free c.in_ok-points.points.items
    (c.in_ok-points.ensures ∙ (λ i. map (λ e. e.point) (c.as_slice-events.ensures i) ++ c.as_slice-free.ensures i)) c.requires.points c.requires.free)

pub put_windows-requires-clause-points : goal.put_windows-requires-clause-points
put_windows-requires-clause-points c =
    subst (AllByRecursion (said.Has c.args.symbols.now.texts)) (sym c.deref-2.ensures.value)
    (points_known (said.Has c.args.symbols.now.texts) c.args.c.now.events c.args.c.now.free c.in_ok-points.points.items
    (c.in_ok-points.ensures ∙ (λ i. map (λ e. e.point) (c.as_slice-events.ensures i) ++ c.as_slice-free.ensures i)) c.requires.points c.requires.free)

pub put_emits-requires-clause-points : goal.put_emits-requires-clause-points
put_emits-requires-clause-points c =
    subst (AllByRecursion (said.Has c.args.symbols.now.texts)) (sym c.deref-3.ensures.value)
    (points_known (said.Has c.args.symbols.now.texts) c.args.c.now.events c.args.c.now.free c.in_ok-points.points.items
    (c.in_ok-points.ensures ∙ (λ i. map (λ e. e.point) (c.as_slice-events.ensures i) ++ c.as_slice-free.ensures i)) c.requires.points c.requires.free)

pub returns : goal.returns
returns c =
    let T : List (List ℕ) = c.args.symbols.now.texts in
    let made : c.in_ok-points.points.items ≡ map (λ e. e.point) c.args.c.now.events ++ c.args.c.now.free = c.in_ok-points.ensures ∙ (λ i. map (λ e. e.point) (c.as_slice-events.ensures i) ++ c.as_slice-free.ensures i) in
    let ps : map (renamed.text_in T) c.in_ok-points.points.items ≡ from.points_in (renamed.renamed_chronicle (renamed.text_in T) (view.chronicle_of c.args.c.now)) = points_are T c.args.c.now.events c.args.c.now.free c.in_ok-points.points.items made in
    joined (Begin (record { prompt = c.args.c.now.prompt; name = renamed.text_in T c.args.c.now.name })) Close
    (said.events T c.args.c.now.variables c.args.c.now.events) (said.free T c.args.c.now.free)
    (map Between (from.distances_from (from.points_in (renamed.renamed_chronicle (renamed.text_in T) (view.chronicle_of c.args.c.now))) c.args.c.now.bounds))
    (said.sets T c.args.c.now.variables c.args.c.now.sets) (said.differs T c.args.c.now.variables c.args.c.now.differs)
    (map (λ v. Over (from.window_from (said.texts_of T c.args.c.now.variables) (from.points_in (renamed.renamed_chronicle (renamed.text_in T) (view.chronicle_of c.args.c.now))) v)) (map (renamed.renamed_window (renamed.text_in T)) (map view.window_of c.args.c.now.windows)))
    (map (λ e. Emits (from.emit_from (said.texts_of T c.args.c.now.variables) (from.points_in (renamed.renamed_chronicle (renamed.text_in T) (view.chronicle_of c.args.c.now))) e)) (map (renamed.renamed_emit (renamed.text_in T)) (map view.emit_of c.args.c.now.emits)))
    c.args.out.now.items c.put_begin.new.out.items c.put_events.new.out.items c.put_free.new.out.items c.put_distances.new.out.items c.put_sets.new.out.items c.put_differs.new.out.items c.put_windows.new.out.items c.put_emits.new.out.items c.push_bytes.new.out.items
    c.in_ok-put_begin.ensures
    (c.in_ok-put_events.ensures ∙ (λ i. c.put_begin.new.out.items ++ flat_map statement_line (said.events T (c.as_slice-variables.ensures i) (c.as_slice-events.ensures i))))
    (c.in_ok-put_free.ensures ∙ (λ i. c.put_events.new.out.items ++ flat_map statement_line (said.free T (c.as_slice-free.ensures i))))
    (c.in_ok-put_distances.ensures ∙ (λ i. c.put_free.new.out.items ++ flat_map statement_line (map Between (from.distances_from (map (renamed.text_in T) (c.deref.ensures.value i)) (c.as_slice.ensures i))))
    ∙ (λ i. c.put_free.new.out.items ++ flat_map statement_line (map Between (from.distances_from (ps i) c.args.c.now.bounds))))
    (c.in_ok-put_sets.ensures ∙ (λ i. c.put_distances.new.out.items ++ flat_map statement_line (said.sets T (c.as_slice-variables.ensures i) (c.as_slice-2.ensures i))))
    (c.in_ok-put_differs.ensures ∙ (λ i. c.put_sets.new.out.items ++ flat_map statement_line (said.differs T (c.as_slice-variables.ensures i) (c.as_slice-3.ensures i))))
    (c.in_ok-put_windows.ensures ∙ (λ i. c.put_differs.new.out.items ++ flat_map statement_line (map (λ v. Over (from.window_from (said.texts_of T (c.as_slice-variables.ensures i)) (map (renamed.text_in T) (c.deref-2.ensures.value i)) v)) (map (renamed.renamed_window (renamed.text_in T)) (map view.window_of (c.as_slice-4.ensures i)))))
    ∙ (λ i. c.put_differs.new.out.items ++ flat_map statement_line (map (λ v. Over (from.window_from (said.texts_of T c.args.c.now.variables) (ps i) v)) (map (renamed.renamed_window (renamed.text_in T)) (map view.window_of c.args.c.now.windows)))))
    (c.in_ok-put_emits.ensures ∙ (λ i. c.put_windows.new.out.items ++ flat_map statement_line (map (λ e. Emits (from.emit_from (said.texts_of T (c.as_slice-variables.ensures i)) (map (renamed.text_in T) (c.deref-3.ensures.value i)) e)) (map (renamed.renamed_emit (renamed.text_in T)) (map view.emit_of (c.as_slice-5.ensures i)))))
    ∙ (λ i. c.put_windows.new.out.items ++ flat_map statement_line (map (λ e. Emits (from.emit_from (said.texts_of T c.args.c.now.variables) (ps i) e)) (map (renamed.renamed_emit (renamed.text_in T)) (map view.emit_of c.args.c.now.emits)))))
    c.in_ok-push_bytes.ensures
