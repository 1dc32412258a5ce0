-- The rows of the table of words, computed.
use Rattle.std.proofs.Common.{◌≡◌, [], ◌∷◌, ◌++◌, Err, refl}
use Rattle.std.specs.Prelude.{codes}
use Rattle.crs_grammar.specs.TokenReading.{term_at, terms_on, values_on, arguments_at, pair_at, change_at, pattern_at, shift_at, anchor_at, span_of, level_of, event_of, noevent_of, most_at, occurs_of, hold_of, end_at, distance_of, values_of, differ_of, of_variable, variable_of, called_of, point_of, worded_of, inside_of, attribute_of, named_of, outside_of}
use Rattle.crs_parse.specs.Faults.{reading_of}
use Rattle.crs_model.specs.declared.models.ModelWord.TheVariants.{Form as FormWord, Twice, Name as NameWord, Arity as ArityWord, Value as ValueWord, Variable as VariableWord, Point as PointWord, Bound as BoundWord, Window as WindowWord, Limit as LimitWord, Events as EventsWord, Unbound as UnboundWord}

row_1 : reading_of [] 1000 (codes "message a 9") ≡ Err (1, LimitWord)
unfolding term_at terms_on values_on arguments_at pair_at change_at pattern_at shift_at anchor_at span_of level_of event_of noevent_of most_at occurs_of hold_of end_at distance_of values_of differ_of of_variable variable_of called_of point_of worded_of inside_of attribute_of named_of outside_of
row_1 = refl

row_2 : reading_of [] 1000 (codes "message a 0" ++ 10 ∷ codes "message a 1") ≡ Err (2, Twice)
unfolding term_at terms_on values_on arguments_at pair_at change_at pattern_at shift_at anchor_at span_of level_of event_of noevent_of most_at occurs_of hold_of end_at distance_of values_of differ_of of_variable variable_of called_of point_of worded_of inside_of attribute_of named_of outside_of
row_2 = refl

row_3 : reading_of [] 1000 (codes "chronicle c {" ++ 10 ∷ codes "event(a, t1)") ≡ Err (2, NameWord)
unfolding term_at terms_on values_on arguments_at pair_at change_at pattern_at shift_at anchor_at span_of level_of event_of noevent_of most_at occurs_of hold_of end_at distance_of values_of differ_of of_variable variable_of called_of point_of worded_of inside_of attribute_of named_of outside_of
row_3 = refl

row_4 : reading_of [] 1000 (codes "message a 1" ++ 10 ∷ codes "chronicle c {" ++ 10 ∷ codes "event(a, t1)") ≡ Err (3, ArityWord)
unfolding term_at terms_on values_on arguments_at pair_at change_at pattern_at shift_at anchor_at span_of level_of event_of noevent_of most_at occurs_of hold_of end_at distance_of values_of differ_of of_variable variable_of called_of point_of worded_of inside_of attribute_of named_of outside_of
row_4 = refl

row_5 : reading_of [] 1000 (codes "attribute v 0 in (on, off)" ++ 10 ∷ codes "chronicle c {" ++ 10 ∷ codes "event(v: (on, up), t1)") ≡ Err (3, ValueWord)
unfolding term_at terms_on values_on arguments_at pair_at change_at pattern_at shift_at anchor_at span_of level_of event_of noevent_of most_at occurs_of hold_of end_at distance_of values_of differ_of of_variable variable_of called_of point_of worded_of inside_of attribute_of named_of outside_of
row_5 = refl

row_6 : reading_of [] 1000 (codes "message a 0" ++ 10 ∷ codes "chronicle c {" ++ 10 ∷ codes "event(a, t1)" ++ 10 ∷ codes "?x in (p, q)") ≡ Err (4, VariableWord)
unfolding term_at terms_on values_on arguments_at pair_at change_at pattern_at shift_at anchor_at span_of level_of event_of noevent_of most_at occurs_of hold_of end_at distance_of values_of differ_of of_variable variable_of called_of point_of worded_of inside_of attribute_of named_of outside_of
row_6 = refl

row_7 : reading_of [] 1000 (codes "message a 0" ++ 10 ∷ codes "chronicle c {" ++ 10 ∷ codes "event(a, t1)" ++ 10 ∷ codes "t2 - t1 in [0, 5]") ≡ Err (4, PointWord)
unfolding term_at terms_on values_on arguments_at pair_at change_at pattern_at shift_at anchor_at span_of level_of event_of noevent_of most_at occurs_of hold_of end_at distance_of values_of differ_of of_variable variable_of called_of point_of worded_of inside_of attribute_of named_of outside_of
row_7 = refl

row_8 : reading_of [] 1000 (codes "message a 0" ++ 10 ∷ codes "chronicle c {" ++ 10 ∷ codes "event(a, t1)" ++ 10 ∷ codes "t1 - t1 in [5, 2]") ≡ Err (4, BoundWord)
unfolding term_at terms_on values_on arguments_at pair_at change_at pattern_at shift_at anchor_at span_of level_of event_of noevent_of most_at occurs_of hold_of end_at distance_of values_of differ_of of_variable variable_of called_of point_of worded_of inside_of attribute_of named_of outside_of
row_8 = refl

row_9 : reading_of [] 1000 (codes "attribute v 1" ++ 10 ∷ codes "chronicle c {" ++ 10 ∷ codes "event(v[?x]: (*, on), t1)" ++ 10 ∷ codes "hold(v[*]: on, (t1, t1 + 5))") ≡ Err (4, WindowWord)
unfolding term_at terms_on values_on arguments_at pair_at change_at pattern_at shift_at anchor_at span_of level_of event_of noevent_of most_at occurs_of hold_of end_at distance_of values_of differ_of of_variable variable_of called_of point_of worded_of inside_of attribute_of named_of outside_of
row_9 = refl

row_10 : reading_of [] 1000 (codes "chronicle c {" ++ 10 ∷ codes "}") ≡ Err (2, EventsWord)
unfolding term_at terms_on values_on arguments_at pair_at change_at pattern_at shift_at anchor_at span_of level_of event_of noevent_of most_at occurs_of hold_of end_at distance_of values_of differ_of of_variable variable_of called_of point_of worded_of inside_of attribute_of named_of outside_of
row_10 = refl

row_11 : reading_of [] 1000 (codes "message a 1" ++ 10 ∷ codes "message b 0" ++ 10 ∷ codes "chronicle c {" ++ 10 ∷ codes "event(b, t1)" ++ 10 ∷ codes "noevent(a[?x], (t1, t1 + 5))" ++ 10 ∷ codes "}") ≡ Err (6, UnboundWord)
unfolding term_at terms_on values_on arguments_at pair_at change_at pattern_at shift_at anchor_at span_of level_of event_of noevent_of most_at occurs_of hold_of end_at distance_of values_of differ_of of_variable variable_of called_of point_of worded_of inside_of attribute_of named_of outside_of
row_11 = refl

row_12 : reading_of [] 1000 (codes "message a 0" ++ 10 ∷ codes "chronicle c {" ++ 10 ∷ codes "event(a, t1)") ≡ Err (4, FormWord)
unfolding term_at terms_on values_on arguments_at pair_at change_at pattern_at shift_at anchor_at span_of level_of event_of noevent_of most_at occurs_of hold_of end_at distance_of values_of differ_of of_variable variable_of called_of point_of worded_of inside_of attribute_of named_of outside_of
row_12 = refl
