-- The state in which a history begins: what the pages of a domain mean at its opening.
use Rattle.std.specs.Prelude.{◌≡◌, ◌⊎◌, ◌↔◌, ℕ, true, List, Some, Contains, length, slice_get}
use Rattle.std.specs.FinMap.{get}
use Rattle.std.specs.FinSet as set
use Rattle.no_faults.specs.domain_base.Version.{number_of}
use Rattle.no_faults.specs.domain_base.declared.place.Home.{Home}
use Rattle.no_faults.specs.domain_base.declared.place.Kind.TheVariants.{File}
use Rattle.no_faults.specs.domain_base.declared.place.Tag.{Tag}
use Rattle.no_faults.specs.page_store.Pages.{Pages}
use Rattle.no_faults.specs.metadata_cells.Chain.{PlacedCell}
use Rattle.no_faults.specs.volume_disk.Image.{Image}
use Rattle.no_faults.specs.log_ring.Homes.{IsMember, member_of}
use Rattle.no_faults.specs.disk_label.declared.anchor.Anchor.{Anchor}
use Rattle.no_faults.specs.fileset_table.Table.{Table}
use Rattle.no_faults.specs.legal_histories.State.{Member, State, rack_of}
use Rattle.no_faults.specs.domain_standing.Space.{IsOpen}
use Rattle.no_faults.specs.domain_layout.DirectoryRules.{Has}
use Rattle.no_faults.specs.domain_layout.Layout.{IsLayout, Layout}
use Rattle.no_faults.specs.domain_layout.Owners.{BelongsTo, IsOwned, frame_of}
use Rattle.no_faults.specs.domain_layout.Owners.Owner.{of_log, of_table, of_volume}
use Rattle.no_faults.specs.domain_layout.Read.{Means, ReadsFrom}
use Rattle.no_faults.specs.domain_layout.Reached.{Frame}
use Rattle.no_faults.specs.domain_layout.Seen.{SeenFile}

-- ** Old pages

-- the page at a home is one of a volume's first ones, of the log or of the fileset table
abbrev pub IsFixed : Pages → Layout → Home → Type 0
IsFixed pages layout home = BelongsTo pages layout of_volume home
    ⊎ BelongsTo pages layout of_log home ⊎ BelongsTo pages layout of_table home

-- no file of a fileset has it
abbrev pub IsNoFiles : Pages → Table → Home → Type 0
IsNoFiles pages table home = (number : ℕ) (tag : Tag) (cells : List PlacedCell) (seen : SeenFile)
    → Has pages table number tag cells seen → seen.is.kind ≡ File
    → (page : ℕ) → ¬ seen.homes page ≡ Some home

-- a page that belongs to somebody, and is neither fixed nor a file's of a fileset: one of cells, of
-- a tag directory, of a directory or its index, or of a file that is left for removal. Who has it
-- is not asked, only that it is not the case that nobody has it: that is decided home by home
pub record IsOldPage (pages : Pages) (layout : Layout) (home : Home) : Type 0 where
  pub owned : ¬ ¬ IsOwned pages layout home
  pub beside : ¬ IsFixed pages layout home
  pub no_files : IsNoFiles pages layout.table home

-- there are `count` such pages
pub record CountsOld (pages : Pages) (frame : Frame) (count : ℕ) : Type 0 where
  pub layout : Layout
  pub same : frame_of layout ≡ frame
  pub laid : IsLayout pages layout
  pub homes : List Home
  pub each : (home : Home) → Contains homes home ↔ IsOldPage pages layout home
  pub once : (j k : ℕ) (home : Home) → slice_get homes j ≡ Some home
      → slice_get homes k ≡ Some home → j ≡ k
  pub counted : length homes ≡ count

-- ** The state

-- a volume that the domain uses, as the anchor has it
pub record IsMemberAs (anchor : Anchor) (vol : ℕ) (member : Member) : Type 0 where
  pub there : IsMember anchor vol
  pub pages : member.pages ≡ (member_of anchor vol).pages
  pub opened : (member.is_open ≡ true) ↔ IsOpen anchor vol

-- the members of a state, the volume of its log and its version are those of an anchor
pub record HasVolumesOf (anchor : Anchor) (s : State) : Type 0 where
  pub members : (vol : ℕ) (member : Member) → (get s.members vol ≡ Some member)
      ↔ IsMemberAs anchor vol member
  pub log_volume : s.log_volume ≡ anchor.log_vol
  pub version : anchor.version ≡ number_of s.version

-- an image of a rack with volumes of these sizes means a state: it has no fault, and the filesets,
-- the members, the volume of the log and the version are what it has
pub record MeansState (sizes : List ℕ) (image : Image) (s : State) : Type 0 where
  pub means : Means sizes image s.filesets
  pub volumes : HasVolumesOf means.anchor s

-- a state that pages with this anchor mean, on a rack with volumes of these sizes
pub record IsStartOf (pages : Pages) (frame : Frame) (sizes : List ℕ) (start : State) : Type 0 where
  pub filesets : (home : Home) → frame.anchor.table ≡ Some home
      → ReadsFrom pages home start.filesets
  pub rack : start.rack ≡ rack_of sizes
  pub volumes : HasVolumesOf frame.anchor start
  pub version : start.version ≡ frame.version
  pub striped : start.striped ≡ set.empty
  pub old_pages : CountsOld pages frame start.old_pages
