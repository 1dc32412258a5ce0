-- The dates of a point as two numbers, of which those far outside all dates stand for none.
use Rattle.std.specs.Prelude.{ℤ, pos, neg_ℤ, int_lt, ◌^◌, List, map, cond, Option, Some, None}
use Rattle.crs_model.specs.declared.date_window.DateWindow.{DateWindow}
use Rattle.crs_instance.specs.declared.span.Span.{Span}

-- the greatest date that a number stands for, and none from 2^50 on
abbrev pub end_of : ℤ → Option ℤ
end_of n = cond (int_lt n (pos (2 ^ 50))) (Some n) None

-- the least date that a number stands for, and none from -2^50 down
abbrev pub start_of : ℤ → Option ℤ
start_of n = cond (int_lt (neg_ℤ (pos (2 ^ 50))) n) (Some n) None

-- the window that a span stands for
abbrev pub window_of : Span → DateWindow
window_of s = record { least = start_of s.least; most = end_of s.most }

-- the windows that spans stand for
abbrev pub windows_of : List Span → List DateWindow
windows_of ss = map window_of ss

-- neither end
abbrev pub no_span : Span
no_span = record { least = neg_ℤ (pos (2 ^ 50)); most = pos (2 ^ 50) }
