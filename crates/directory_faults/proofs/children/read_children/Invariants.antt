use Rattle.fileset_shapes.specs.domain_base.declared.place.Tag.{Tag}
use Rattle.directory_faults.specs.declared.rows.RowThere.{RowThere}
use Rattle.directory_faults.proofs.Inserted.{AreIn}
use Rattle.directory_faults.specs.Children.{HasChild, LeadsOn}
use Rattle.directory_faults.proofs.children.read_children.Given as goal

abbrev pub invariant-loop-row : goal.invariant-loop-row
invariant-loop-row l = AreIn {X = RowThere} {K = Tag × Tag} l.rows (λ r q. LeadsOn r q.0 q.1) (λ q. ⊥) (λ q. HasChild l.children q.0 q.1) l.row-index
