use Rattle.no_faults.proofs.OfQuotaBook.Cells.{takes_set}
use Rattle.attached_domain.proofs.limits.take_limits.Goals as goal

pub returns : goal.returns
returns c = takes_set c.args.book.now.book c.set_limits.new.self.book c.args.who (record { files = c.args.files; blocks = c.args.blocks }) c.set_limits.result c.set_limits.ensures.ok
