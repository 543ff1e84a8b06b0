use Rattle.std.proofs.Common.{rules}
use Rattle.disk_label.specs.domain_base.Page.{zero_bytes}
use Rattle.log_ring.proofs.page.no_body.Goals as goal

pub returns-clause-value : goal.returns-clause-value
unfolding zero_bytes
returns-clause-value c = search rules
