-- Images of volumes whose pages have faults.
use Rattle.std.specs.Prelude.{◌≡◌, ℕ, List, []}
use Rattle.domain_layout.specs.domain_base.Version.{number_of}
use Rattle.domain_layout.specs.domain_base.declared.version.Version.{Version}
use Rattle.domain_layout.specs.volume_disk.Image.{Image}
use Rattle.domain_layout.specs.disk_label.declared.anchor.Anchor.{Anchor}
use Rattle.domain_layout.specs.log_ring.Groups.{Group, HasLog, redone}
use Rattle.domain_layout.specs.log_recovery.Outcome.{IsFirstFault}
use Rattle.domain_layout.specs.Faults.{AreFaults, FaultRow}
use Rattle.filesets_reading.specs.Good.{frame_at}

-- an image of a rack with volumes of these sizes has a domain, and the pages of that have these
-- faults once its log is redone, one at least
pub record HasFaults (sizes : List ℕ) (image : Image) (rows : List FaultRow) : Type 0 where
  pub anchor : Anchor
  pub groups : List Group
  pub version : Version
  pub log : HasLog sizes anchor groups image
  pub is_version : anchor.version ≡ number_of version
  pub no_first : (vol at : ℕ) → ¬ IsFirstFault sizes image vol at
  pub faults : AreFaults (redone groups image) (frame_at anchor version) rows
  pub some : ¬ rows ≡ []
