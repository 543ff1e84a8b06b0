use Rattle.std.proofs.Common.{List}
use Rattle.fileset_files.specs.metadata_cells.Chain.{PlacedCell}
use Rattle.fileset_files.specs.file_chains.Files.{IsFile}
use Rattle.file_release.proofs.Found.{IsOnWay}
use Rattle.file_release.proofs.stale.find_stale.Given as goal

abbrev pub invariant-loop : goal.invariant-loop
invariant-loop g l = (chain : List PlacedCell) → IsFile (g.M.MetaPages.pages l.pages) l.fn.start chain → IsOnWay (g.M.MetaPages.pages l.pages) l.from l.counter l.fn.cursor l.before l.next chain
