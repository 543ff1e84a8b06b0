use Rattle.std.proofs.Common.{◌≡◌, take}
use Rattle.std.specs.List.{count_by}
use Rattle.fileset_shapes.specs.domain_base.declared.place.Kind.{Kind}
use Rattle.fileset_shapes.specs.domain_base.declared.place.Tag.{Tag}
use Rattle.directory_faults.specs.Counts.{count_in, leads_so}
use Rattle.directory_faults.proofs.counts.count_rows.Given as goal

abbrev pub invariant-loop-row : goal.invariant-loop-row
invariant-loop-row l = (tag : Tag) (of : Kind) → count_in l.counts tag of ≡ count_by (leads_so tag of) (take l.row-index l.rows)
