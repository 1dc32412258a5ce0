-- Canonical lines that are read and written again, computed.
use Rattle.std.proofs.Common.{◌≡◌, true, false, Some, option_map, refl}
use Rattle.std.specs.Prelude.{codes}
use Rattle.crs_base.specs.Tokens.{tokens_of, is_model_mark}
use Rattle.crs_grammar.specs.TokenReading.{◌>>=◌, statement_of, term_at, terms_on, values_on, arguments_at, pair_at, change_at, pattern_at, shift_at, anchor_at, span_of, level_of, event_of, emit_of, noevent_of, most_at, occurs_of, hold_of, end_at, distance_of, values_of, differ_of, of_variable, variable_of, called_of, point_of, worded_of, inside_of, attribute_of, prompt_of, named_of, outside_of}
use Rattle.std.specs.Fmt.{digits}
use Rattle.crs_grammar.specs.Canon.{statement_text}

line_1 : option_map statement_text (tokens_of is_model_mark (codes "attribute v 1 in (open, closed)") >>= statement_of false) ≡ Some (codes "attribute v 1 in (open, closed)")
unfolding digits term_at terms_on values_on arguments_at pair_at change_at pattern_at shift_at anchor_at span_of level_of event_of emit_of noevent_of most_at occurs_of hold_of end_at distance_of values_of differ_of of_variable variable_of called_of point_of worded_of inside_of attribute_of prompt_of named_of outside_of
line_1 = refl

line_2 : option_map statement_text (tokens_of is_model_mark (codes "message a 0") >>= statement_of false) ≡ Some (codes "message a 0")
unfolding digits term_at terms_on values_on arguments_at pair_at change_at pattern_at shift_at anchor_at span_of level_of event_of emit_of noevent_of most_at occurs_of hold_of end_at distance_of values_of differ_of of_variable variable_of called_of point_of worded_of inside_of attribute_of prompt_of named_of outside_of
line_2 = refl

line_3 : option_map statement_text (tokens_of is_model_mark (codes "chronicle c {") >>= statement_of false) ≡ Some (codes "chronicle c {")
unfolding digits term_at terms_on values_on arguments_at pair_at change_at pattern_at shift_at anchor_at span_of level_of event_of emit_of noevent_of most_at occurs_of hold_of end_at distance_of values_of differ_of of_variable variable_of called_of point_of worded_of inside_of attribute_of prompt_of named_of outside_of
line_3 = refl

line_4 : option_map statement_text (tokens_of is_model_mark (codes "event(v[?s]: (open, *), t2) level 2") >>= statement_of true) ≡ Some (codes "event(v[?s]: (open, *), t2) level 2")
unfolding digits term_at terms_on values_on arguments_at pair_at change_at pattern_at shift_at anchor_at span_of level_of event_of emit_of noevent_of most_at occurs_of hold_of end_at distance_of values_of differ_of of_variable variable_of called_of point_of worded_of inside_of attribute_of prompt_of named_of outside_of
line_4 = refl

line_5 : option_map statement_text (tokens_of is_model_mark (codes "event(a, t1)") >>= statement_of true) ≡ Some (codes "event(a, t1)")
unfolding digits term_at terms_on values_on arguments_at pair_at change_at pattern_at shift_at anchor_at span_of level_of event_of emit_of noevent_of most_at occurs_of hold_of end_at distance_of values_of differ_of of_variable variable_of called_of point_of worded_of inside_of attribute_of prompt_of named_of outside_of
line_5 = refl

line_6 : option_map statement_text (tokens_of is_model_mark (codes "point z") >>= statement_of true) ≡ Some (codes "point z")
unfolding digits term_at terms_on values_on arguments_at pair_at change_at pattern_at shift_at anchor_at span_of level_of event_of emit_of noevent_of most_at occurs_of hold_of end_at distance_of values_of differ_of of_variable variable_of called_of point_of worded_of inside_of attribute_of prompt_of named_of outside_of
line_6 = refl

line_7 : option_map statement_text (tokens_of is_model_mark (codes "t2 - t1 in [-inf, 5]") >>= statement_of true) ≡ Some (codes "t2 - t1 in [-inf, 5]")
unfolding digits term_at terms_on values_on arguments_at pair_at change_at pattern_at shift_at anchor_at span_of level_of event_of emit_of noevent_of most_at occurs_of hold_of end_at distance_of values_of differ_of of_variable variable_of called_of point_of worded_of inside_of attribute_of prompt_of named_of outside_of
line_7 = refl

line_8 : option_map statement_text (tokens_of is_model_mark (codes "t2 - t1 in [1, 5]") >>= statement_of true) ≡ Some (codes "t2 - t1 in [1, 5]")
unfolding digits term_at terms_on values_on arguments_at pair_at change_at pattern_at shift_at anchor_at span_of level_of event_of emit_of noevent_of most_at occurs_of hold_of end_at distance_of values_of differ_of of_variable variable_of called_of point_of worded_of inside_of attribute_of prompt_of named_of outside_of
line_8 = refl

line_9 : option_map statement_text (tokens_of is_model_mark (codes "t2 - t1 in [-7, inf]") >>= statement_of true) ≡ Some (codes "t2 - t1 in [-7, inf]")
unfolding digits term_at terms_on values_on arguments_at pair_at change_at pattern_at shift_at anchor_at span_of level_of event_of emit_of noevent_of most_at occurs_of hold_of end_at distance_of values_of differ_of of_variable variable_of called_of point_of worded_of inside_of attribute_of prompt_of named_of outside_of
line_9 = refl

line_10 : option_map statement_text (tokens_of is_model_mark (codes "?x in (p, q)") >>= statement_of true) ≡ Some (codes "?x in (p, q)")
unfolding digits term_at terms_on values_on arguments_at pair_at change_at pattern_at shift_at anchor_at span_of level_of event_of emit_of noevent_of most_at occurs_of hold_of end_at distance_of values_of differ_of of_variable variable_of called_of point_of worded_of inside_of attribute_of prompt_of named_of outside_of
line_10 = refl

line_11 : option_map statement_text (tokens_of is_model_mark (codes "?x != ?y") >>= statement_of true) ≡ Some (codes "?x != ?y")
unfolding digits term_at terms_on values_on arguments_at pair_at change_at pattern_at shift_at anchor_at span_of level_of event_of emit_of noevent_of most_at occurs_of hold_of end_at distance_of values_of differ_of of_variable variable_of called_of point_of worded_of inside_of attribute_of prompt_of named_of outside_of
line_11 = refl

line_12 : option_map statement_text (tokens_of is_model_mark (codes "noevent(a[?x, *], (t1 + 1, t1 + 10))") >>= statement_of true) ≡ Some (codes "noevent(a[?x, *], (t1 + 1, t1 + 10))")
unfolding digits term_at terms_on values_on arguments_at pair_at change_at pattern_at shift_at anchor_at span_of level_of event_of emit_of noevent_of most_at occurs_of hold_of end_at distance_of values_of differ_of of_variable variable_of called_of point_of worded_of inside_of attribute_of prompt_of named_of outside_of
line_12 = refl

line_13 : option_map statement_text (tokens_of is_model_mark (codes "occurs((1, inf), b, (t1, t2))") >>= statement_of true) ≡ Some (codes "occurs((1, inf), b, (t1, t2))")
unfolding digits term_at terms_on values_on arguments_at pair_at change_at pattern_at shift_at anchor_at span_of level_of event_of emit_of noevent_of most_at occurs_of hold_of end_at distance_of values_of differ_of of_variable variable_of called_of point_of worded_of inside_of attribute_of prompt_of named_of outside_of
line_13 = refl

line_14 : option_map statement_text (tokens_of is_model_mark (codes "hold(v[?s]: open, (t1, t2 - 3))") >>= statement_of true) ≡ Some (codes "hold(v[?s]: open, (t1, t2 - 3))")
unfolding digits term_at terms_on values_on arguments_at pair_at change_at pattern_at shift_at anchor_at span_of level_of event_of emit_of noevent_of most_at occurs_of hold_of end_at distance_of values_of differ_of of_variable variable_of called_of point_of worded_of inside_of attribute_of prompt_of named_of outside_of
line_14 = refl

line_15 : option_map statement_text (tokens_of is_model_mark (codes "}") >>= statement_of true) ≡ Some (codes "}")
unfolding digits term_at terms_on values_on arguments_at pair_at change_at pattern_at shift_at anchor_at span_of level_of event_of emit_of noevent_of most_at occurs_of hold_of end_at distance_of values_of differ_of of_variable variable_of called_of point_of worded_of inside_of attribute_of prompt_of named_of outside_of
line_15 = refl

line_16 : option_map statement_text (tokens_of is_model_mark (codes "prompt chronicle c {") >>= statement_of false) ≡ Some (codes "prompt chronicle c {")
unfolding digits term_at terms_on values_on arguments_at pair_at change_at pattern_at shift_at anchor_at span_of level_of event_of emit_of noevent_of most_at occurs_of hold_of end_at distance_of values_of differ_of of_variable variable_of called_of point_of worded_of inside_of attribute_of prompt_of named_of outside_of
line_16 = refl

line_17 : option_map statement_text (tokens_of is_model_mark (codes "derived pair 2") >>= statement_of false) ≡ Some (codes "derived pair 2")
unfolding digits term_at terms_on values_on arguments_at pair_at change_at pattern_at shift_at anchor_at span_of level_of event_of emit_of noevent_of most_at occurs_of hold_of end_at distance_of values_of differ_of of_variable variable_of called_of point_of worded_of inside_of attribute_of named_of outside_of
line_17 = refl

line_18 : option_map statement_text (tokens_of is_model_mark (codes "emit(pair[?x, a], t1)") >>= statement_of true) ≡ Some (codes "emit(pair[?x, a], t1)")
unfolding digits term_at terms_on values_on arguments_at pair_at change_at pattern_at shift_at anchor_at span_of level_of event_of emit_of noevent_of most_at occurs_of hold_of end_at distance_of values_of differ_of of_variable variable_of called_of point_of worded_of inside_of attribute_of named_of outside_of
line_18 = refl
