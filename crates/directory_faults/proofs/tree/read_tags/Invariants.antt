use Rattle.std.proofs.Common.{◌≡◌}
use Rattle.fileset_shapes.specs.domain_base.declared.place.Tag.{Tag}
use Rattle.directory_faults.specs.Parents.{HasTag}
use Rattle.directory_faults.specs.declared.there.FileThere.{FileThere}
use Rattle.directory_faults.proofs.Inserted.{AreIn}
use Rattle.directory_faults.proofs.tree.read_tags.Given as goal

abbrev pub invariant-loop-file : goal.invariant-loop-file
invariant-loop-file l = AreIn {X = FileThere} {K = Tag} l.files (λ f q. f.tag ≡ q) (λ q. ⊥) (HasTag l.tags) l.file-index
