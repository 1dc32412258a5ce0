-- What was read behind some lines of a log stays so behind further ones, as each chronicle of an accepted text has its place.
use Rattle.crs_layers.proofs.StayingOn.{what_is_read_stays}
use Rattle.crs_session.specs.Texts.{setting_of}
use Rattle.crs_commands.proofs.Accepted.{each_placed}
use Rattle.crs_laws.specs.Staying.{RecognitionsStay}

pub recognitions_stay : RecognitionsStay
recognitions_stay cite symbols entries models f lines further effects later s t a =
    what_is_read_stays (setting_of f) f.texts lines effects s further later t (each_placed cite symbols entries models f a)
