-- What a calm desk stands for.
use Rattle.std.specs.Prelude.{◌≡◌, ℕ, Option, map, drop, length}
use Rattle.std.proofs.lemmas.List.{length-map}
use Rattle.crs_desk.specs.Desk.{Told, Stream}
use Rattle.crs_desk.specs.File.{pair_of}
use Rattle.crs_desk.specs.Memory.{items_of}
use Rattle.crs_desk.specs.declared.calm.CalmDesk.{CalmDesk}
use Rattle.crs_desk.specs.declared.calm.Source.{Source}

abbrev pub stream_of : Source → Stream
stream_of s = record { taken = s.at; rest = drop s.at s.bytes.items }

abbrev pub calm_told : CalmDesk → Told
calm_told d = record {
  files = map pair_of d.files.items;
  opened = map items_of d.opened.items;
  left = map stream_of d.sources.items;
  written = d.written.items;
  turns = d.turns.items;
}

-- the most bytes that a call moves, where that is bounded
abbrev pub calm_piece : CalmDesk → Option ℕ
calm_piece d = d.piece

-- how many inputs it has opened
abbrev pub calm_inputs : CalmDesk → ℕ
calm_inputs d = length d.sources.items

pub sources_counted : (d : CalmDesk) → length (calm_told d).left ≡ calm_inputs d
sources_counted d = length-map d.sources.items stream_of

-- each of its two counts of faults
abbrev pub calm_faults : CalmDesk → ℕ
calm_faults d = 0
