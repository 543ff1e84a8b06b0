-- A domain stands on where an owner's limits are set.
use Rattle.std.proofs.Common.{◌≡◌, ℕ, Some}
use Rattle.std.specs.FinMap.{get, insert}
use Rattle.domain_standing.specs.fileset_model.Filesets.{FilesetMap}
use Rattle.domain_standing.specs.fileset_model.declared.fileset.FilesetSlot.{FilesetSlot}
use Rattle.domain_standing.specs.release_list.Standing.{Files}
use Rattle.domain_standing.specs.domain_layout.Agreeing.{AgreeOn}
use Rattle.domain_standing.specs.Domain.{DomainNow}
use Rattle.domain_standing.specs.Standing.{StandsDomain}
use Rattle.standing_laws.specs.Leads.{StandsBelow}
use Rattle.standing_laws.specs.SetsQuota.{SetsQuota, fileset_limited}
use Rattle.standing_laws.proofs.QuotaChains.{chains_stand}
use Rattle.standing_laws.proofs.QuotaFilesets.{slots_limited}
use Rattle.standing_laws.proofs.QuotaHeld.{owned_still}
use Rattle.standing_laws.proofs.QuotaRest.{rest_stands}
use Rattle.standing_laws.proofs.QuotaTables.{tables_stand}

module _ (number : ℕ) (d now : DomainNow) (files_now : Files) (all : FilesetMap) (stands : StandsDomain d all) (s : SetsQuota number d now stands.files files_now) (agree : AgreeOn d.contents now.contents stands.slots.shapes)
    (fileset : FilesetSlot) (there : get all s.entry.name ≡ Some fileset)
  where
    below : StandsBelow d stands.files stands.indexes
    below = record { tables = stands.tables; chains = stands.chains; owned = stands.owned; rest = stands.rest }

    pub domain_limited : StandsDomain now (insert all s.entry.name (fileset_limited s.who s.limits fileset))
    domain_limited = record {
      tables = tables_stand number d now stands.files files_now stands.indexes below s;
      files = files_now;
      indexes = stands.indexes;
      chains = chains_stand number d now stands.files files_now stands.indexes below s;
      owned = owned_still number d now stands.files files_now stands.indexes below s;
      rest = rest_stands number d now stands.files files_now stands.indexes below s;
      slots = slots_limited number d now stands.files files_now stands.indexes below s all stands.slots agree fileset there;
    }
