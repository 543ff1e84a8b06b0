-- Pages that are written in place.
use Rattle.std.specs.Prelude.{◌≡◌, ◌<◌, ℕ}
use Rattle.domain_standing.specs.domain_base.declared.place.CellAt.{CellAt}
use Rattle.domain_standing.specs.domain_base.declared.place.Home.{Home}
use Rattle.domain_standing.specs.log_ring.Homes.{IsMember}
use Rattle.domain_standing.specs.release_list.Standing.{Files}
use Rattle.domain_standing.specs.domain_layout.Reached.{first_cells}
use Rattle.domain_standing.specs.Chains.{IndexesAt}
use Rattle.domain_standing.specs.Domain.{DomainNow}
use Rattle.domain_standing.specs.Holders.{Holder, Holds}

-- all is as it was but pages of metadata and the bytes of pages
abbrev pub KeepsPlaces : DomainNow → DomainNow → Type 0
KeepsPlaces d now = now ≡ record d { pages = now.pages; contents = now.contents }

-- each page that is held for something is as it was, but for the first pages of volumes, as their
-- bitmaps, and for the log
abbrev pub KeepsPages : DomainNow → DomainNow → Files → IndexesAt → Type 0
KeepsPages d now files indexes = (home : Home) (holder : Holder)
    → Holds d files indexes holder home → ¬ holder ≡ Holder.of_volume → ¬ holder ≡ Holder.of_log
    → now.pages home ≡ d.pages home

-- and so are its bytes
abbrev pub KeepsBytes : DomainNow → DomainNow → Files → IndexesAt → Type 0
KeepsBytes d now files indexes = (home : Home) (holder : Holder)
    → Holds d files indexes holder home → ¬ holder ≡ Holder.of_volume → ¬ holder ≡ Holder.of_log
    → now.contents home ≡ d.contents home

-- each page is as it was that says where all else stands: of the fileset table, of tables of cells,
-- of tag directories and of indexes; those of files may be others
abbrev pub KeepsWhere : DomainNow → DomainNow → Files → IndexesAt → Type 0
KeepsWhere d now files indexes = (home : Home) (holder : Holder)
    → Holds d files indexes holder home → ¬ holder ≡ Holder.of_volume → ¬ holder ≡ Holder.of_log
    → ((at : CellAt) (page : ℕ) → ¬ holder ≡ Holder.of_file at page)
    → now.pages home ≡ d.pages home

-- the first pages of each volume are, up to its first page of cells: label, anchors and bitmap
abbrev pub KeepsVolumes : DomainNow → DomainNow → Type 0
KeepsVolumes d now = (home : Home) → IsMember d.frame.anchor home.vol
    → home.page < first_cells d.frame home.vol → now.pages home ≡ d.pages home
