use Rattle.std.proofs.Common.{◌↔◌, Contains}
use Rattle.cell_faults.specs.page_ways.Frame.{frame_in}
use Rattle.tag_faults.specs.Entries.{IsEntryIn}
use Rattle.tag_faults.specs.declared.named.NamedCell.{NamedCell}
use Rattle.tag_faults.proofs.Counted.{IsBelow}
use Rattle.tag_faults.proofs.named.read_entries.Given as goal

abbrev pub invariant-loop-number : goal.invariant-loop-number
invariant-loop-number g l = (one : NamedCell) → Contains l.entries.items one ↔ IsBelow (IsEntryIn (g.M.MetaPages.pages l.pages) (frame_in l.frame) l.table one) l.number
