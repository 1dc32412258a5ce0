-- The summary line of a run.
use Rattle.std.specs.Prelude.{ℕ, List, [], ◌∷◌, ◌++◌, codes, decimal}
use Rattle.crs_report.specs.declared.summary.Summary.{Summary}

-- what became of the log's lines
abbrev pub lines_text : Summary → List ℕ
lines_text s = codes " entries " ++ decimal s.entries ++ codes " refused " ++ decimal s.refused ++ codes " recognitions " ++ decimal s.recognitions

-- how many partial assignments were held, at the end and at most
abbrev pub held_text : Summary → List ℕ
held_text s = codes " kept " ++ decimal s.kept ++ codes " peak " ++ decimal s.peak

abbrev pub summary_line : Summary → List ℕ
summary_line s = codes "summary" ++ lines_text s ++ held_text s ++ 10 ∷ []
