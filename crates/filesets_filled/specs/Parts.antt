-- Rows and nodes of the files that were read of a fileset.
use Rattle.std.specs.Prelude.{◌≡◌, ℕ, List, [], Option, Some, Contains, length, map, slice_get}
use Rattle.fileset_shapes.specs.domain_base.declared.place.Home.{Home}
use Rattle.fileset_shapes.specs.domain_base.declared.place.Kind.{Kind}
use Rattle.fileset_shapes.specs.domain_base.declared.place.Kind.TheVariants.{Directory, File}
use Rattle.fileset_shapes.specs.page_store.Pages.{Pages}
use Rattle.fileset_shapes.specs.directory_pages.declared.row.Row.{Row}
use Rattle.fileset_shapes.specs.domain_layout.Filled.{IsFilled}
use Rattle.fileset_shapes.specs.domain_layout.Read.{contents_of}
use Rattle.fileset_shapes.specs.domain_layout.Seen.{SeenFile}
use Rattle.fileset_shapes.specs.filesets_reading.Seen.{IsSeenAs}
use Rattle.fileset_shapes.specs.directory_rows.Stored.{AreRowPages, rows_of_homes}
use Rattle.fileset_shapes.specs.directory_rows.declared.led.DirectoryRows.{DirectoryRows}
use Rattle.fileset_shapes.specs.name_space.declared.parts.TaggedNode.{TaggedNode}
use Rattle.fileset_shapes.specs.name_space.declared.parts.FilesetParts.{FilesetParts}
use Rattle.fileset_shapes.specs.Found.{IsStored}
use Rattle.fileset_shapes.specs.declared.found.TaggedFile.{TaggedFile}

-- the rows on the pages of a directory; a file has none
abbrev pub rows_if : Pages → List (Option Home) → Kind → List Row
rows_if pages homes Directory = rows_of_homes pages homes
rows_if pages homes File = []

-- the rows of a file that was read, none of a file that is no directory
abbrev pub rows_seen : Pages → TaggedFile → List Row
rows_seen pages file = rows_if pages file.seen.homes.items file.seen.is.kind

abbrev pub directory_seen : Pages → TaggedFile → DirectoryRows
directory_seen pages file = record { dir = file.tag; rows = rows_seen pages file }

-- each page of a directory is one of rows
abbrev pub HasRowPages : Pages → TaggedFile → Type 0
HasRowPages pages file = file.seen.is.kind ≡ Directory → AreRowPages pages file.seen.homes.items

-- the node of a file, with the bytes of its pages
pub record IsNodeSeen (pages : Pages) (file : TaggedFile) (one : TaggedNode) : Type 0 where
  pub tag : one.tag ≡ file.tag
  pub links : one.links ≡ file.seen.is.links
  pub filled : (seen : SeenFile) → IsSeenAs seen file.seen
      → IsFilled (contents_of pages) seen one.node

-- the rows and the nodes of files
pub record ArePartsSeen (pages : Pages) (files : List TaggedFile) (parts : FilesetParts) : Type 0
  where
    pub rows : parts.directories.items ≡ map (directory_seen pages) files
    pub count : length parts.nodes.items ≡ length files
    pub nodes : (k : ℕ) (file : TaggedFile) (one : TaggedNode) → slice_get files k ≡ Some file
        → slice_get parts.nodes.items k ≡ Some one → IsNodeSeen pages file one

-- their pages may be read
pub record MayBeRead (pages : Pages) (files : List TaggedFile) : Type 0 where
  pub rows : (file : TaggedFile) → Contains files file → HasRowPages pages file
  pub stored : (file : TaggedFile) → Contains files file → IsStored pages file
