use Rattle.std.proofs.Common.{◌↔◌, ◌⊎◌, ℕ}
use Rattle.cell_faults.specs.domain_base.declared.place.Home.{Home}
use Rattle.cell_faults.specs.sorted_sets.Members.{IsIn}
use Rattle.cell_faults.specs.sorted_sets.SpanMembers.{HasNumber}
use Rattle.tag_faults.specs.Directories.{HasIndexBefore}
use Rattle.tag_faults.proofs.Counted.{IsBelow}
use Rattle.tag_faults.proofs.SlotPages.{IsWrongAt}
use Rattle.tag_faults.proofs.indexes.insert_wrong_pages.Given as goal

abbrev pub invariant-loop-place : goal.invariant-loop-place
invariant-loop-place g l = record {
  seen : (n : ℕ) → HasNumber l.seen n ↔ HasIndexBefore (g.M.MetaPages.pages l.pages) l.homes l.place n;
  found : (home : Home) → IsIn l.found home ↔ (IsIn l.initial.found home ⊎ IsBelow (λ place. IsWrongAt (g.M.MetaPages.pages l.pages) l.homes home place) l.place);
}
