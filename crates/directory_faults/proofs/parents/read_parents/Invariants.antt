use Rattle.fileset_shapes.specs.domain_base.declared.place.Tag.{Tag}
use Rattle.directory_faults.specs.Parents.{HasPair, SaysParent}
use Rattle.directory_faults.specs.declared.there.FileThere.{FileThere}
use Rattle.directory_faults.proofs.Inserted.{AreIn}
use Rattle.directory_faults.proofs.parents.read_parents.Given as goal

abbrev pub invariant-loop-file : goal.invariant-loop-file
invariant-loop-file l = AreIn {X = FileThere} {K = Tag × Tag} l.files (λ file q. SaysParent file q.0 q.1) (λ q. ⊥) (λ q. HasPair l.parents q.0 q.1) l.file-index
