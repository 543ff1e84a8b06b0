use Rattle.std.proofs.Common.{None}
use Rattle.file_tables.specs.Chains.{HasChain}
use Rattle.file_tables.proofs.chain.use_cells.Given as goal

abbrev pub invariant-loop : goal.invariant-loop
invariant-loop l = HasChain l.world None
