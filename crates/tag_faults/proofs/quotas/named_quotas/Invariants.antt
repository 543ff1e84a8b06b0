use Rattle.std.proofs.Common.{◌↔◌}
use Rattle.cell_faults.specs.domain_base.declared.place.CellAt.{CellAt}
use Rattle.cell_faults.specs.cell_chains.Members.{IsIn}
use Rattle.tag_faults.specs.Quotas.{NamesQuota}
use Rattle.tag_faults.proofs.Counted.{IsBelow}
use Rattle.tag_faults.proofs.quotas.named_quotas.Given as goal

abbrev pub invariant-loop-number : goal.invariant-loop-number
invariant-loop-number l = (at : CellAt) → IsIn l.named at ↔ IsBelow (λ number. NamesQuota l.table number at) l.number
