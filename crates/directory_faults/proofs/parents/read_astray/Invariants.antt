use Rattle.fileset_shapes.specs.domain_base.declared.place.Tag.{Tag}
use Rattle.directory_faults.specs.Parents.{HasTag, LeadsAstray}
use Rattle.directory_faults.specs.declared.rows.RowThere.{RowThere}
use Rattle.directory_faults.proofs.Inserted.{AreIn}
use Rattle.directory_faults.proofs.parents.read_astray.Given as goal

abbrev pub invariant-loop-row : goal.invariant-loop-row
invariant-loop-row l = AreIn {X = RowThere} {K = Tag} l.rows (LeadsAstray l.parents) (λ q. ⊥) (HasTag l.astray) l.row-index
