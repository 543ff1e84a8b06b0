-- The filesets that an image of a domain's volumes has.
use Rattle.std.specs.Prelude.{◌≡◌, ℕ, List, [], Some, unwrap_or}
use Rattle.file_release.specs.domain_base.Version.{number_of}
use Rattle.file_release.specs.domain_base.declared.place.Home.{Home}
use Rattle.file_release.specs.domain_base.declared.version.Version.{Version}
use Rattle.file_release.specs.page_store.Pages.{Pages}
use Rattle.log_recovery.specs.volume_disk.Image.{Image}
use Rattle.log_recovery.specs.disk_label.declared.anchor.Anchor.{Anchor}
use Rattle.log_recovery.specs.log_ring.Groups.{Group, HasLog, redone}
use Rattle.log_recovery.specs.Outcome.{IsFirstFault}
use Rattle.name_space.specs.fileset_model.Filesets.{FilesetMap}
use Rattle.domain_layout.specs.Shape.{HaveShapes, Shapes}
use Rattle.domain_layout.specs.Faults.{HasNoFault}
use Rattle.domain_layout.specs.Filled.{AreFilled, Contents}

-- the bytes of pages by their homes
abbrev pub contents_of : Pages → Contents
contents_of pages home = unwrap_or (pages home) []

-- pages with the table at this home have these filesets
pub record ReadsFrom (pages : Pages) (home : Home) (all : FilesetMap) : Type 0 where
  pub shapes : Shapes
  pub shaped : HaveShapes pages home shapes
  pub filled : AreFilled (contents_of pages) shapes all

-- an image of a rack with volumes of these sizes has these filesets: those of its pages once the
-- groups of its log are redone
pub record Reads (sizes : List ℕ) (image : Image) (all : FilesetMap) : Type 0 where
  pub anchor : Anchor
  pub groups : List Group
  pub log : HasLog sizes anchor groups image
  pub home : Home
  pub table : anchor.table ≡ Some home
  pub reads : ReadsFrom (redone groups image) home all

-- an image of a rack with volumes of these sizes means these filesets: it has no fault, and they
-- are what it has
pub record Means (sizes : List ℕ) (image : Image) (all : FilesetMap) : Type 0 where
  pub anchor : Anchor
  pub groups : List Group
  pub version : Version
  pub log : HasLog sizes anchor groups image
  pub is_version : anchor.version ≡ number_of version
  pub no_first : (vol at : ℕ) → ¬ IsFirstFault sizes image vol at
  pub no_fault : HasNoFault (redone groups image)
      (record { anchor = anchor; version = version })
  pub reads : Reads sizes image all
