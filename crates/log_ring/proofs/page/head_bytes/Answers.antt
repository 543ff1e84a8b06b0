use Rattle.std.proofs.Common.{rules}
use Rattle.disk_label.specs.domain_base.Page.{zero_bytes}
use Rattle.log_ring.proofs.page.head_bytes.Goals as goal

pub returns : goal.returns
unfolding zero_bytes
returns c = search rules
