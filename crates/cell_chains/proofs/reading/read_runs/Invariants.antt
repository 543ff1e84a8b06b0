use Rattle.std.proofs.Common.{Contains}
use Rattle.cell_chains.specs.Links.{cells_of}
use Rattle.cell_chains.proofs.Each.{AreFound}
use Rattle.cell_chains.specs.Reading.{HaveOneMap, IsRunAt}
use Rattle.cell_chains.specs.Runs.{AreApart}
use Rattle.cell_chains.specs.declared.run.FileRun.{FileRun}
use Rattle.cell_chains.proofs.reading.read_runs.Given as goal

abbrev pub invariant-loop-at : goal.invariant-loop-at
invariant-loop-at g l = record {
  each : AreFound (cells_of l.links) {X = FileRun} (λ run at link. IsRunAt (g.M.MetaPages.pages l.pages) run at) (Contains l.runs.items) l.at-index;
  apart : HaveOneMap (g.M.MetaPages.pages l.pages) l.links → AreApart l.runs.items;
}
