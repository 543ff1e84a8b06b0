-- The chains of a domain that was read of pages without a fault stand.
use Rattle.std.proofs.Common.{inl}
use Rattle.domain_memory.specs.domain_base.declared.place.Home.{Home}
use Rattle.domain_memory.specs.domain_standing.Chains.{StandChains}
use Rattle.domain_memory.specs.domain_standing.Domain.{DomainNow}
use Rattle.no_faults.specs.Attached.{IsReadFrom}
use Rattle.no_faults.proofs.Domain.{files}
use Rattle.no_faults.proofs.InUse.{used}
use Rattle.no_faults.proofs.Indexed.{indexed, indexes}
use Rattle.no_faults.proofs.Listed.{listed, not_in, on_list, to_do}
use Rattle.no_faults.proofs.Named.{somebodys}
use Rattle.no_faults.proofs.ListPages.{together}
use Rattle.no_faults.proofs.Quotas.{slot_quotas}
use Rattle.no_faults.proofs.Tagged.{in_slot}

pub chains_stand : (d : DomainNow) (is : IsReadFrom d) → StandChains d (files d is) (indexes d is)
chains_stand d is = record {
  well = record { together = together d is; listed = listed d is };
  slots = in_slot d is;
  quotas = slot_quotas d is;
  indexed = indexed d is;
  used = used d is;
  named = somebodys d is;
  to_do = on_list d is;
  listed = λ at on. inl (to_do d is at on);
  tag_pages = λ (home : Home) among. not_in d.list.tag_pages home is.list.no_tags among;
}
