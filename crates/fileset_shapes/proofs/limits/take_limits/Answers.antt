use Rattle.std.proofs.Common.{ap}
use Rattle.filesets_reading.proofs.OfQuotaBook.Cells.{takes_set}
use Rattle.fileset_shapes.specs.Limits.{book_of}
use Rattle.fileset_shapes.proofs.Answered.{on_ok}
use Rattle.fileset_shapes.proofs.limits.take_limits.Goals as goal

pub returns-clause-takes : goal.returns-clause-takes
returns-clause-takes c =
    takes_set (book_of c.args.tree.now) (book_of c.limit.new.self) c.args.who (record { files = c.args.files; blocks = c.args.blocks }) c.limit.result
    (on_ok c.limit.result _ _ (λ is. ap book_of is) c.limit.ensures.ok)
