use Rattle.file_tables.specs.Chains.{HasChain}
use Rattle.file_tables.proofs.quotas.answer_all.Given as goal

abbrev pub invariant-loop-line : goal.invariant-loop-line
invariant-loop-line l = HasChain l.scene.world l.scene.first
