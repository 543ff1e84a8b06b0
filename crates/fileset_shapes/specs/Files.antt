-- The files of a fileset, tag by tag, as they are read.
use Rattle.std.specs.Prelude.{◌≡◌, ◌^◌, ◌≤◌, ℕ, List, Option, Some, IfSome, slice_get}
use Rattle.std.specs.Option.{option_and_then, option_map}
use Rattle.filesets_reading.specs.domain_base.declared.place.Tag.{Tag}
use Rattle.filesets_reading.specs.page_store.Pages.{Pages}
use Rattle.filesets_reading.specs.log_ring.Homes.{IsMember, member_of}
use Rattle.filesets_reading.specs.metadata_cells.Chain.{PlacedCell}
use Rattle.filesets_reading.specs.tag_dirs.Directory.{IsDirectoryAt}
use Rattle.filesets_reading.specs.fileset_files.Files.{AreFiles, Chains}
use Rattle.filesets_reading.specs.fileset_files.Shown.{ShowsAt}
use Rattle.filesets_reading.specs.fileset_table.Table.{entry_of}
use Rattle.filesets_reading.specs.fileset_table.declared.slot.FilesetEntry.{FilesetEntry}
use Rattle.filesets_reading.specs.fileset_table.declared.slot.SlotItem.{SlotItem}
use Rattle.filesets_reading.specs.fileset_table.declared.slot.SlotItem.TheVariants as slot
use Rattle.filesets_reading.specs.domain_layout.Faults.{HasNoFault}
use Rattle.filesets_reading.specs.domain_layout.Layout.{IsLayout, Layout}
use Rattle.filesets_reading.specs.domain_layout.Owners.{frame_of}
use Rattle.filesets_reading.specs.domain_layout.Seen.{IsOfClone, SeenFile, seen_in}
use Rattle.filesets_reading.specs.domain_layout.Shape.{ShowsSeenAt}
use Rattle.filesets_reading.specs.Seen.{IsSeenThere}
use Rattle.filesets_reading.specs.declared.seen.SeenPages.{SeenPages}
use Rattle.fileset_shapes.specs.Clones.{AreFilesOf}
use Rattle.fileset_shapes.specs.declared.files.FilesetFiles.{FilesetFiles}
use Rattle.fileset_shapes.specs.Found.{HasAllPages, IsStored, shown_by}
use Rattle.fileset_shapes.specs.declared.found.TaggedFile.{TaggedFile}

-- ** What stands on a domain's pages

-- pages are laid out as a domain's, break no rule, and all that a file has are there; no member has
-- more of them than a number of four bytes says
pub record IsWhole (pages : Pages) (layout : Layout) : Type 0 where
  pub laid : IsLayout pages layout
  pub no_fault : HasNoFault pages (frame_of layout)
  pub small : (vol : ℕ) → IsMember layout.anchor vol → (member_of layout.anchor vol).pages ≤ 2 ^ 32
  pub all : HasAllPages pages (frame_of layout)

-- the files of a fileset with this entry are there, by its tag directory
pub record AreFilesBy (pages : Pages) (entry : FilesetEntry) (files : FilesetFiles) : Type 0 where
  pub are : AreFilesOf pages files
  pub directory : IsDirectoryAt pages entry.first_tag files.tags

-- the files are those of an original of such a domain
pub record AreOriginals (pages : Pages) (files : FilesetFiles) : Type 0 where
  pub layout : Layout
  pub whole : IsWhole pages layout
  pub entry : FilesetEntry
  pub there : slice_get layout.table.slots files.files.fileset ≡ Some (slot.Original entry)
  pub by : AreFilesBy pages entry files

-- the files are those of the clone with this number, and those of its original
pub record AreClones (pages : Pages) (own behind : FilesetFiles) (number : ℕ) : Type 0 where
  pub layout : Layout
  pub whole : IsWhole pages layout
  pub entry : FilesetEntry
  pub original : FilesetEntry
  pub there : slice_get layout.table.slots own.files.fileset
      ≡ Some (slot.Clone behind.files.fileset number entry)
  pub item : SlotItem
  pub there_behind : slice_get layout.table.slots behind.files.fileset ≡ Some item
  pub original_is : entry_of item ≡ Some original
  pub own_files : AreFilesBy pages entry own
  pub behind_files : AreFilesBy pages original behind

-- ** What is read at a tag

-- what was seen of a file that was found
abbrev pub seen_of : Option TaggedFile → Option SeenPages
seen_of found = option_map (λ (file : TaggedFile). file.seen) found

-- a file that was read has its tag, and its pages stand at their homes
pub record IsFound (pages : Pages) (tag : Tag) (file : TaggedFile) : Type 0 where
  pub tag_is : file.tag ≡ tag
  pub stored : IsStored pages file

-- what an original has of a chain, as it is seen and as a set shows it
pub record ReadsOriginal (pages : Pages) (chain : Option (List PlacedCell))
    (found : Option TaggedFile) : Type 0 where
  pub seen : IsSeenThere (option_and_then seen_in chain) (seen_of found)
  pub shown : ShowsAt pages chain (option_map (shown_by pages) found)

-- what an original has at a tag
pub record ReadsOriginalAt (pages : Pages) (files : FilesetFiles) (tag : Tag)
    (found : Option TaggedFile) : Type 0 where
  pub is : IfSome found (IsFound pages tag)
  pub reads : (chains : Chains) → AreFiles files.files.fileset files.tags pages chains
      → ReadsOriginal pages (chains tag) found

-- what a clone has of its own chain, or of its original's
pub record ReadsClone (pages : Pages) (number : ℕ) (own behind : Option (List PlacedCell))
    (found : Option TaggedFile) : Type 0 where
  pub seen : Option SeenFile
  pub is : IsOfClone pages number own behind seen
  pub sees : IsSeenThere seen (seen_of found)
  pub shown : ShowsSeenAt pages seen (option_map (shown_by pages) found)

-- what a clone has at a tag
pub record ReadsCloneAt (pages : Pages) (own behind : FilesetFiles) (number : ℕ) (tag : Tag)
    (found : Option TaggedFile) : Type 0 where
  pub is : IfSome found (IsFound pages tag)
  pub reads : (chains chains_behind : Chains)
      → AreFiles own.files.fileset own.tags pages chains
      → AreFiles behind.files.fileset behind.tags pages chains_behind
      → ReadsClone pages number (chains tag) (chains_behind tag) found
