use Rattle.std.proofs.Common.{◌≡◌, ◌-◌, ◌≤◌, map}
use Rattle.std.specs.List.{range_with_len}
use Rattle.domain_memory.specs.fileset_model.Filesets.{FilesetMap}
use Rattle.domain_memory.specs.fileset_values.Orders.{Path}
use Rattle.domain_memory.specs.fileset_model.Pages.{byte_at}
use Rattle.domain_memory.specs.fileset_model.declared.fileset.FilesetSlot.{FilesetSlot}
use Rattle.domain_memory.specs.fileset_table.declared.slot.FilesetEntry.{FilesetEntry}
use Rattle.file_changes.specs.Reading.{pages_at}
use Rattle.file_changes.specs.Stages.{HasFile}
use Rattle.file_changes.proofs.reading.read_all.Given as goal

abbrev pub invariant-loop-x : goal.invariant-loop-x
invariant-loop-x l = record {
  bytes : (path : Path) (all : FilesetMap) (entry : FilesetEntry) (fileset : FilesetSlot) → HasFile l.memory l.number l.tag path all entry fileset
      → l.bytes.items ≡ map (byte_at (pages_at fileset.tree path)) (range_with_len l.offset (l.x - l.offset));
  above : l.offset ≤ l.x;
  within : l.x ≤ l.end;
}

abbrev pub decreases-loop-x : goal.decreases-loop-x
decreases-loop-x l = l.end - l.x
