use Rattle.fileset_shapes.specs.domain_base.declared.place.Tag.{Tag}
use Rattle.directory_faults.specs.Parents.{HasTag}
use Rattle.directory_faults.proofs.Items.{AreSo}
use Rattle.directory_faults.proofs.walk.has_all.Given as goal

abbrev pub invariant-loop-tag : goal.invariant-loop-tag
invariant-loop-tag l = AreSo {X = Tag} (HasTag l.set) l.tag-items l.tag-index
