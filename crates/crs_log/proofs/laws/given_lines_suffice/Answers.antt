use Rattle.crs_log.proofs.GivenLaw.{given_line_law}
use Rattle.crs_log.proofs.laws.given_lines_suffice.Goals as goal

pub returns : goal.returns
returns c = λ setting state n line. given_line_law setting state n line
