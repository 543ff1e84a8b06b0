use Rattle.std.proofs.Common.{◌≡◌, ◌↔◌, ◌⊎◌}
use Rattle.tag_faults.specs.domain_base.declared.place.Home.{Home}
use Rattle.tag_faults.specs.metadata_cells.CellPage.{home_of}
use Rattle.tag_faults.specs.sorted_sets.Members.{IsIn}
use Rattle.tag_faults.specs.sorted_sets.SpanMembers.{HasNumber}
use Rattle.tag_faults.proofs.OfSortedSets.Below.{IsBelow}
use Rattle.tag_faults.specs.cell_chains.declared.run.FileRun.{FileRun}
use Rattle.page_faults.specs.Wrong.{IsMet}
use Rattle.page_faults.proofs.wrong.insert_all_met.Given as goal

abbrev pub invariant-loop-run : goal.invariant-loop-run
invariant-loop-run l = (home : Home) → IsIn l.found home ↔ (IsIn l.initial.found home ⊎ IsBelow {X = FileRun} l.runs (λ run. (home_of run.at ≡ home) × IsMet l.vol (HasNumber l.shared) run) l.run-index)
