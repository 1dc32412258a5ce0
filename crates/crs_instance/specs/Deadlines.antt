-- The greatest dates of unbound events, whose bits are unset.
use Rattle.std.specs.Prelude.{Bool, ℤ, Option, None, cond}
use Rattle.crs_model.specs.declared.date_window.DateWindow.{DateWindow}

-- the greatest date of an event that counts and is unbound
abbrev pub end_if : Bool → Bool → DateWindow → Option ℤ
end_if counts bound w = cond bound None (cond counts w.most None)
