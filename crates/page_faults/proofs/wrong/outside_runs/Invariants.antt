use Rattle.std.proofs.Common.{◌≡◌, ◌↔◌}
use Rattle.tag_faults.specs.domain_base.declared.place.Home.{Home}
use Rattle.tag_faults.specs.metadata_cells.CellPage.{home_of}
use Rattle.tag_faults.specs.page_ways.Frame.{frame_in}
use Rattle.tag_faults.specs.sorted_sets.Members.{IsIn}
use Rattle.tag_faults.proofs.OfSortedSets.Below.{IsBelow}
use Rattle.tag_faults.specs.cell_chains.declared.run.FileRun.{FileRun}
use Rattle.page_faults.specs.Wrong.{IsOutside}
use Rattle.page_faults.proofs.wrong.outside_runs.Given as goal

abbrev pub invariant-loop-run : goal.invariant-loop-run
invariant-loop-run l = (home : Home) → IsIn l.found home ↔ IsBelow {X = FileRun} l.runs (λ run. (home_of run.at ≡ home) × IsOutside (frame_in l.frame) run) l.run-index
