use Rattle.std.proofs.Common.{sym}
use Rattle.attached_domain.proofs.Charged.{counted_all, counted_on, none_counted}
use Rattle.attached_domain.proofs.charges.charge_files.Goals as goal

pub loop-file-init : goal.loop-file-init
loop-file-init c = none_counted c.args.book.now.book

pub loop-file-preserved : goal.loop-file-preserved
loop-file-preserved c =
    counted_on c.args.files.now c.loop-file.file-index c.file-item.result c.args.book.now.book c.loop-file.book.book c.charge_file.new.book.book c.loop-file-test.true (sym c.file-item.is) c.loop-file.invariant
    c.in_ok-charge_file.ensures

pub returns : goal.returns
returns c = counted_all c.args.files.now c.loop-file.file-index c.args.book.now.book c.loop-file.book.book c.loop-file-test.false c.loop-file.invariant
