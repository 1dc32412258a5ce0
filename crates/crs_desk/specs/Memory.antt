-- What a desk in memory stands for.
use Rattle.std.specs.Prelude.{◌≡◌, ℕ, List, map, drop, length, Vec}
use Rattle.std.proofs.lemmas.List.{length-map}
use Rattle.std.specs.declared.alloc.Global.{Global}
use Rattle.crs_desk.specs.Desk.{Told, Stream}
use Rattle.crs_desk.specs.File.{pair_of}
use Rattle.crs_desk.specs.FailingRead.{call_of}
use Rattle.crs_desk.specs.FailingCalls.{Schedule}
use Rattle.crs_desk.specs.declared.memory.MemoryDesk.{MemoryDesk}
use Rattle.crs_desk.specs.declared.memory.Input.{Input}

abbrev pub stream_of : Input → Stream
stream_of i = record { taken = i.at; rest = drop i.at i.bytes.items }

abbrev pub reads_so_far : Input → List ℕ × ℕ
reads_so_far i = (i.name.items, i.reads)

abbrev pub items_of : Vec ℕ Global → List ℕ
items_of v = v.items

abbrev pub memory_told : MemoryDesk → Told
memory_told d = record {
  files = map pair_of d.files.items;
  opened = map items_of d.opened.items;
  left = map stream_of d.inputs.items;
  written = d.written.items;
  turns = d.turns.items;
}

abbrev pub memory_schedule : MemoryDesk → Schedule
memory_schedule d = record {
  piece = d.piece;
  opens = d.opens;
  reads = map reads_so_far d.inputs.items;
  writes = d.writes;
  failing_opens = d.failing_opens.items;
  failing_reads = map call_of d.failing_reads.items;
  failing_writes = d.failing_writes.items;
}

pub inputs_counted : (d : MemoryDesk) → length (memory_told d).left ≡ length d.inputs.items
inputs_counted d = length-map d.inputs.items stream_of

-- how many inputs it has opened
abbrev pub memory_inputs : MemoryDesk → ℕ
memory_inputs d = length d.inputs.items

-- its two counts of faults
abbrev pub memory_in_faults : MemoryDesk → ℕ
memory_in_faults d = d.in_faults

abbrev pub memory_out_faults : MemoryDesk → ℕ
memory_out_faults d = d.out_faults

-- Nothing changed but the schedule.
pub record IsScheduled (old new : MemoryDesk) (schedule : Schedule) : Type 0 where
  pub told : memory_told new ≡ memory_told old
  pub inputs : memory_inputs new ≡ memory_inputs old
  pub in_faults : memory_in_faults new ≡ memory_in_faults old
  pub out_faults : memory_out_faults new ≡ memory_out_faults old
