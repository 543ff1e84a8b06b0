use Rattle.std.proofs.Common.{◌↔◌, ◌⊎◌}
use Rattle.tag_faults.specs.domain_base.declared.place.Home.{Home}
use Rattle.tag_faults.specs.page_ways.Frame.{frame_in}
use Rattle.tag_faults.specs.sorted_sets.Members.{IsIn}
use Rattle.tag_faults.specs.cell_chains.Runs.{AreApart}
use Rattle.page_faults.specs.Wrong.{HasRun, IsOutside}
use Rattle.page_faults.proofs.RunsOutside.{HasBelow}
use Rattle.page_faults.proofs.wrong.wrong_runs.Given as goal

abbrev pub invariant-loop-number : goal.invariant-loop-number
invariant-loop-number l = AreApart l.runs → (home : Home) → IsIn l.found home ↔ (HasRun l.runs (IsOutside (frame_in l.frame)) home ⊎ HasBelow (frame_in l.frame) l.homes l.runs home l.number)
