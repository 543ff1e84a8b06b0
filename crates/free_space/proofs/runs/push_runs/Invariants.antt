use Rattle.free_space.proofs.RunsFound.{AreFoundBehind}
use Rattle.free_space.proofs.runs.push_runs.Given as goal

abbrev pub invariant-loop-page : goal.invariant-loop-page
invariant-loop-page l = AreFoundBehind l.vol l.map l.page l.count l.initial.runs.items l.runs.items
