use Rattle.std.proofs.Common.{◌≡◌, ◌-◌, ◌<◌, ◌≤◌, ℕ, true, false, count_by, not}
use Rattle.std.specs.FinMap.{contains_key}
use Rattle.std.specs.List.{range_with_len}
use Rattle.domain_memory.specs.fileset_model.Filesets.{FilesetMap}
use Rattle.domain_memory.specs.fileset_values.Orders.{Path}
use Rattle.domain_memory.specs.fileset_model.declared.fileset.FilesetSlot.{FilesetSlot}
use Rattle.domain_memory.specs.fileset_table.declared.slot.FilesetEntry.{FilesetEntry}
use Rattle.file_changes.specs.Reading.{IsOpen, pages_at}
use Rattle.file_changes.specs.Stages.{HasFile}
use Rattle.file_changes.proofs.writing.absent_pages.Given as goal

abbrev pub invariant-loop-page : goal.invariant-loop-page
invariant-loop-page l = record {
  counted : (path : Path) (all : FilesetMap) (entry : FilesetEntry) (fileset : FilesetSlot) → HasFile l.memory l.number l.tag path all entry fileset
      → l.absent ≡ count_by (λ q. not (contains_key (pages_at fileset.tree path) q)) (range_with_len l.first (l.page - l.first));
  few : l.absent ≤ l.page - l.first;
  opened : l.are_open ≡ true → (q : ℕ) → l.first ≤ q → q < l.page → IsOpen l.memory l.number l.tag q;
  wanting : l.are_open ≡ false → 1 ≤ l.absent;
  closed : l.are_open ≡ false → ((q : ℕ) → l.first ≤ q → q < l.page → IsOpen l.memory l.number l.tag q) → ⊥;
}
