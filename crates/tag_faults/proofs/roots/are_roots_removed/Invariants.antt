use Rattle.std.proofs.Common.{◌≡◌, ◌<◌, ℕ, get_or}
use Rattle.cell_faults.specs.page_ways.Frame.{frame_in}
use Rattle.tag_faults.specs.Entries.{address_of}
use Rattle.tag_faults.specs.Roots.{IsRemovedAt, IsRootOf}
use Rattle.tag_faults.specs.declared.named.NamedCell.{NamedCell}
use Rattle.tag_faults.proofs.roots.are_roots_removed.Given as goal

abbrev pub invariant-loop-entry : goal.invariant-loop-entry
invariant-loop-entry g l = (one : NamedCell) → ((k : ℕ) × (k < l.entry-index) × (get_or l.entries k one ≡ one)) → IsRootOf l.number one → IsRemovedAt (g.M.MetaPages.pages l.pages) (frame_in l.frame) (address_of one)
