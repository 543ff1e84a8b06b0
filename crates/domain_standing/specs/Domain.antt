-- A domain's pages, and what is kept in memory beside them.
use Rattle.std.specs.Prelude.{ℕ, List, Option, slice_get}
use Rattle.std.specs.Option.{option_and_then}
use Rattle.fileset_shapes.specs.page_store.Pages.{Pages}
use Rattle.fileset_shapes.specs.tag_dirs.declared.dir.TagPlace.{TagPlace}
use Rattle.fileset_shapes.specs.free_cells.Cells.{Cells, table_of}
use Rattle.fileset_shapes.specs.free_space.Spaces.{Spaces}
use Rattle.fileset_shapes.specs.fileset_table.Table.{Table}
use Rattle.fileset_shapes.specs.fileset_table.declared.slot.SlotItem.{SlotItem}
use Rattle.release_steps.specs.release_list.Listing.{Listing}
use Rattle.release_steps.specs.release_list.Standing.{Files}
use Rattle.release_steps.specs.release_list.Steps.{Now, now_of}
use Rattle.fileset_shapes.specs.domain_layout.Filled.{Contents}
use Rattle.fileset_shapes.specs.domain_layout.Layout.{Layout}
use Rattle.fileset_shapes.specs.domain_layout.Reached.{Frame}

-- the anchor and its version; the fileset table; where the pages of each slot's tag directory
-- stand; the pages of metadata, and the bytes of all pages; the free space and the free cells; and
-- the list of what is to be let go of
pub record DomainNow : Type 0 where
  pub frame : Frame
  pub table : Table
  pub tags : ℕ → List TagPlace
  pub pages : Pages
  pub contents : Contents
  pub space : Spaces
  pub cells : Cells
  pub list : Listing

-- where its pages of metadata stand
abbrev pub layout_of : DomainNow → Layout
layout_of d = record {
  anchor = d.frame.anchor;
  version = d.frame.version;
  table = d.table;
  cells = table_of d.cells;
  tags = d.tags;
}

-- what a step of a release changes, with these files
abbrev pub all_of : DomainNow → Files → Now
all_of d files = now_of d.list files d.space d.cells d.pages

-- what is in a slot of its table
abbrev pub item_in : DomainNow → ℕ → Option SlotItem
item_in d number = slice_get d.table.slots number

-- where something stands that what is in a slot names
abbrev pub named_by : {X : Type 0} → (SlotItem → Option X) → DomainNow → ℕ → Option X
named_by what d number = option_and_then what (item_in d number)
