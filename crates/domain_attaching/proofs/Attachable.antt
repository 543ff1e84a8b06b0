-- What a domain that was closed, or was just made, leaves on its volumes is attachable.
use Rattle.std.proofs.Common.{refl, sym, subst}
use Rattle.std.specs.FinMap.{empty}
use Rattle.attached_domain.specs.volume_disk.Disk.{Disk, MayLeave}
use Rattle.attached_domain.specs.volume_disk.Image.{Image}
use Rattle.attached_domain.specs.disk_label.declared.anchor.Anchor.{Anchor}
use Rattle.attached_domain.specs.log_ring.Groups.{pages_in}
use Rattle.attached_domain.specs.fileset_model.Filesets.{FilesetMap}
use Rattle.attached_domain.proofs.NewFits.{new_fits}
use Rattle.attached_domain.proofs.NoCause.{ReadsFit}
use Rattle.attached_domain.specs.domain_standing.Domain.{DomainNow}
use Rattle.attached_domain.specs.domain_standing.Standing.{StandsDomain}
use Rattle.attached_domain.proofs.OfNoFaults.NoTable.{table_is}
use Rattle.attached_domain.specs.domain_memory.Memory.{StandsFor, kept_in}
use Rattle.attached_domain.specs.domain_memory.declared.memory.DomainMemory.{DomainMemory}
use Rattle.attached_domain.specs.domain_making.Making.{IsEmptyDomain, IsMade}
use Rattle.domain_attaching.specs.Attaching.{IsAttachable}
use Rattle.domain_attaching.specs.Closing.{IsClosed}
use Rattle.domain_attaching.proofs.AtClose.{image_agrees, means_kept}
use Rattle.domain_attaching.proofs.DomainFits.{domain_fits}
use Rattle.domain_attaching.proofs.NoUnfit.{FitsSo, attachable}

-- nothing is in memory that stands for filesets for which its domain is not attached
memory_fits : (memory : DomainMemory) (all : FilesetMap) → StandsFor memory all → FitsSo (kept_in memory).pages (kept_in memory).frame
memory_fits memory all stands table says =
    let d : DomainNow = kept_in memory in
    let is = stands.sound in
    let whole : StandsDomain d all = stands.stands in
    let so : StandsDomain d all = record whole { files = is.files; indexes = is.indexes; tables = is.below.tables; chains = is.below.chains; owned = is.below.owned; rest = is.below.rest } in
    subst (ReadsFit d.pages d.frame) (sym (table_is d so.tables table says)) (domain_fits d all so is.sound stands.alone)

pub closed_attachable : (disk : Disk) (memory : DomainMemory) (all : FilesetMap) → IsClosed disk memory → StandsFor memory all → (image : Image) → MayLeave disk.now image → IsAttachable disk.sizes image memory.frame.anchor all
closed_attachable disk memory all is stands image left =
    attachable disk.sizes image memory.frame.anchor memory.frame.version stands.stands.tables.laid.version (is.none.good image left) (is.none.stands image left) all (means_kept disk memory is all stands image left)
    (kept_in memory).pages (image_agrees disk memory is all stands image left) (memory_fits memory all stands)

pub made_attachable : (disk : Disk) (anchor : Anchor) → IsMade disk anchor → (image : Image) → MayLeave disk.now image → IsAttachable disk.sizes image anchor empty
made_attachable disk anchor made image left =
    let is : IsEmptyDomain disk.sizes anchor image = made.images image left in
    attachable disk.sizes image anchor is.version is.is_version is.good is.log empty is.means (pages_in image) (λ home looks. refl) (new_fits (pages_in image) (record { anchor = anchor; version = is.version }) is.fresh)
