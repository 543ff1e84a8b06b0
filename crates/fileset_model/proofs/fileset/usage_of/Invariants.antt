use Rattle.std.proofs.Common.{◌≡◌, filter, length, sum_by, take}
use Rattle.fileset_model.specs.Usage.{blocks_of, counts_for}
use Rattle.fileset_model.proofs.fileset.usage_of.Given as goal

abbrev pub invariant-loop-number : goal.invariant-loop-number
invariant-loop-number l = record {
  files : l.usage.files ≡ length (filter (counts_for l.who l.root) (take l.number-index l.nodes));
  blocks : l.usage.blocks ≡ sum_by (λ e. blocks_of e.1) (filter (counts_for l.who l.root) (take l.number-index l.nodes));
}
