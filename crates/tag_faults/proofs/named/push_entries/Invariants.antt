use Rattle.std.proofs.Common.{◌↔◌, ◌⊎◌, Contains}
use Rattle.tag_faults.specs.Entries.{IsEntryAt}
use Rattle.tag_faults.specs.declared.named.NamedCell.{NamedCell}
use Rattle.tag_faults.proofs.Counted.{IsBelow}
use Rattle.tag_faults.proofs.named.push_entries.Given as goal

abbrev pub invariant-loop-entry : goal.invariant-loop-entry
invariant-loop-entry l = (one : NamedCell) → Contains l.entries.items one ↔ (Contains l.initial.entries.items one ⊎ IsBelow (IsEntryAt l.page l.number l.home one) l.entry)
