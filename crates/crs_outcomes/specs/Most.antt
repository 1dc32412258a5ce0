-- How much a call takes in.
use Rattle.std.specs.Prelude.{ℕ, ◌-◌, ◌^◌}
use Rattle.crs_outcomes.specs.declared.limits.Limits.{Limits}

-- how much a call takes in: the distinct symbols, the accepted entries, the bytes of a log
pub record Most : Type 0 where
  pub symbols : ℕ
  pub entries : ℕ
  pub bytes : ℕ

abbrev pub most_of : Limits → Most
most_of limits = record { symbols = limits.symbols; entries = limits.entries; bytes = limits.bytes }

-- the limits of the program
abbrev pub standard : Most
standard = record { symbols = 2 ^ 20; entries = 2 ^ 32 - 1; bytes = 2 ^ 40 }
