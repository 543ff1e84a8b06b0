-- For what each used page of a domain is held: for one thing alone, or it waits until it is free.
use Rattle.std.specs.Prelude.{◌≡◌, ◌<◌, ◌≤◌, ◌↔◌, ℕ, true, false, Option, Some, None, Contains, slice_get}
use Rattle.std.specs.FinSet.{contains}
use Rattle.fileset_shapes.specs.domain_base.declared.place.CellAt.{CellAt}
use Rattle.fileset_shapes.specs.domain_base.declared.place.Home.{Home}
use Rattle.fileset_shapes.specs.log_ring.Homes.{IsLogPage, IsMember, member_of}
use Rattle.fileset_shapes.specs.tag_dirs.Directory.{has_home}
use Rattle.fileset_shapes.specs.extent_maps.declared.run.PagePlace.TheVariants.{At}
use Rattle.fileset_shapes.specs.free_cells.Cells.{table_of}
use Rattle.fileset_shapes.specs.free_space.Spaces.{volume_of}
use Rattle.fileset_shapes.specs.free_space.VolumeSpace.{VolumeSpace, is_waiting}
use Rattle.release_steps.specs.release_list.Standing.{Files, place_in}
use Rattle.domain_standing.specs.Space.{IsOpen}
use Rattle.fileset_shapes.specs.domain_layout.Reached.{first_cells}
use Rattle.domain_standing.specs.Chains.{IndexesAt}
use Rattle.domain_standing.specs.Domain.{DomainNow}

-- the first pages of a volume; the log; the fileset table; a table of cells; the tag directory of a
-- slot; the index, or the page of the file, that begins at a cell. A page of a file is told by the
-- file's first cell: its record may move to another cell of the chain
pub data Holder : Type 0 where
  of_volume : Holder
  of_log : Holder
  of_table : Holder
  of_cells : Holder
  of_tags : ℕ → Holder
  of_index : CellAt → ℕ → Holder
  of_file : CellAt → ℕ → Holder

-- the page at a home is held for this
abbrev pub Holds : DomainNow → Files → IndexesAt → Holder → Home → Type 0
Holds d files indexes Holder.of_volume home =
    IsMember d.frame.anchor home.vol × (home.page < first_cells d.frame home.vol)
Holds d files indexes Holder.of_log home = IsLogPage d.frame.anchor home
Holds d files indexes Holder.of_table home = d.frame.anchor.table ≡ Some home
Holds d files indexes Holder.of_cells home =
    IsMember d.frame.anchor home.vol × Contains (table_of d.cells home.vol) home.page
Holds d files indexes (Holder.of_tags number) home = has_home (d.tags number) home ≡ true
Holds d files indexes (Holder.of_index at place) home = slice_get (indexes at) place ≡ Some home
Holds d files indexes (Holder.of_file at page) home = place_in files at page ≡ At home

-- for nothing
abbrev pub IsUnheld : DomainNow → Files → IndexesAt → Home → Type 0
IsUnheld d files indexes home = (holder : Holder) → ¬ Holds d files indexes holder home

-- of a volume's pages those are free that are held for nothing and do not wait; and those that wait
-- are held for nothing
pub record AreHeldOn (d : DomainNow) (files : Files) (indexes : IndexesAt) (vol : ℕ)
    (space : VolumeSpace) : Type 0 where
  pub count : space.pages ≡ (member_of d.frame.anchor vol).pages
  pub opened : (space.is_open ≡ true) ↔ IsOpen d.frame.anchor vol
  pub free : (page : ℕ) → page < space.pages → (contains space.used page ≡ false)
      ↔ (IsUnheld d files indexes (record { vol = vol; page = page })
      × (is_waiting space page ≡ false))
  pub waits : (page : ℕ) → is_waiting space page ≡ true
      → IsUnheld d files indexes (record { vol = vol; page = page })

-- the free space of a volume, which is there where it is a member
abbrev pub AreHeldAt : DomainNow → Files → IndexesAt → ℕ → Option VolumeSpace → Type 0
AreHeldAt d files indexes vol None = ¬ IsMember d.frame.anchor vol
AreHeldAt d files indexes vol (Some space) =
    IsMember d.frame.anchor vol × AreHeldOn d files indexes vol space

-- no page is held for two things, and on each volume all but those that are held or wait are free
pub record HoldsOwned (d : DomainNow) (files : Files) (indexes : IndexesAt) : Type 0 where
  pub once : (home : Home) (one other : Holder) → Holds d files indexes one home
      → Holds d files indexes other home → one ≡ other
  pub spaces : (vol : ℕ) → 1 ≤ vol → AreHeldAt d files indexes vol (volume_of d.space vol)
