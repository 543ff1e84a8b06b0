use Rattle.std.proofs.Common.{drop}
use Rattle.filesets_reading.specs.quota_book.QuotaCells.{said_by}
use Rattle.fileset_shapes.specs.Limits.{HasSaid, KeepsFiles}
use Rattle.fileset_shapes.proofs.limits.take_all.Given as goal

abbrev pub invariant-loop-i : goal.invariant-loop-i
invariant-loop-i l = record { said : HasSaid (said_by (drop l.i l.records)) l.tree; kept : KeepsFiles l.fn.tree l.tree }
