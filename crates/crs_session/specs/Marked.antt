-- What is written and counted of a mark.
use Rattle.std.specs.Prelude.{ℕ, length, flat_map}
use Rattle.crs_layers.specs.LayerStates.{kept_in}
use Rattle.crs_layers.specs.declared.marked.Marked.{Marked}
use Rattle.crs_session.specs.declared.session.Session.{Session}
use Rattle.crs_session.specs.declared.session.Counts.{Counts}
use Rattle.crs_frames.specs.TableTexts.{line_in}
use Rattle.crs_session.specs.Tallies.{with_mark, with_flood}
use Rattle.crs_session.specs.Texts.{flood_text}
use Rattle.crs_session.specs.Written.{Written, with_text, with_answer}

-- behind what was written, the lines of the recognitions, and that some stratum had no room for what it was given
abbrev pub with_marked : Session → ℕ → Marked → Written → Written
with_marked x n m out =
    with_text (with_answer out (flat_map (line_in x.cite x.layers.plans x.symbols.texts) m.list) m.list) (flood_text x.entries n m.flood)

-- the counts behind it
abbrev pub counts_behind : Session → Marked → Counts
counts_behind x m = with_flood m.flood (with_mark x.counts (length m.list) (kept_in x.layers))
