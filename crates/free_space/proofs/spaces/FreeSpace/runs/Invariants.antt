use Rattle.free_space.specs.Runs.{AreRuns}
use Rattle.free_space.proofs.RunsFound.{IsRunBelow}
use Rattle.free_space.proofs.spaces.FreeSpace.runs.Given as goal

abbrev pub invariant-loop-index : goal.invariant-loop-index
invariant-loop-index l = AreRuns (IsRunBelow l.self l.index) l.runs.items
