use Rattle.std.proofs.Common.{arith}
use Rattle.disk_label.proofs.Bodies.{IsLabelOf-label_bytes}
use Rattle.disk_label.proofs.label.label_reads_back.Goals as goal

pub returns : goal.returns
returns c = λ most vol label low high small few. IsLabelOf-label_bytes most vol label (omega arith) small few
