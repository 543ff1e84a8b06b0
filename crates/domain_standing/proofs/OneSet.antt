-- Where no rule is broken, the files of an original are a set of files and directories.
use Rattle.std.proofs.Common.{◌≡◌, ◌≤◌, ℕ, Some, refl, subst, arith, slice_get}
use Rattle.fileset_shapes.specs.domain_base.declared.place.Home.{Home}
use Rattle.fileset_shapes.specs.page_store.Pages.{Pages}
use Rattle.fileset_shapes.specs.log_ring.Homes.{IsMember, member_of}
use Rattle.fileset_shapes.specs.log_recovery.Range.{IsLogInside}
use Rattle.fileset_shapes.specs.free_cells.Cells.{Cells}
use Rattle.fileset_shapes.specs.free_space.Spaces.{Spaces}
use Rattle.fileset_shapes.proofs.OfTagDirs.Reading.{same_directory}
use Rattle.fileset_shapes.specs.fileset_files.Files.{AreFiles}
use Rattle.stored_set.specs.Sets.{StandsAsSet}
use Rattle.fileset_shapes.specs.fileset_table.declared.slot.FilesetEntry.{FilesetEntry}
use Rattle.fileset_shapes.specs.fileset_table.declared.slot.SlotItem.TheVariants as slot
use Rattle.fileset_shapes.specs.domain_layout.Layout.{Layout}
use Rattle.fileset_shapes.specs.domain_layout.Owners.{frame_of}
use Rattle.fileset_shapes.specs.domain_layout.Shape.{FilesetShape, IsOriginal}
use Rattle.fileset_shapes.specs.domain_layout.TagRules.{HasTags}
use Rattle.fileset_shapes.specs.Files.{IsWhole}
use Rattle.domain_standing.specs.Keeping.{KeepDirectories}
use Rattle.domain_standing.specs.Space.{AreCellsOf, AreFew, IsSpaceOf}
use Rattle.domain_standing.proofs.Showing.{at_most, indexes, on_volumes, standing}
use Rattle.domain_standing.proofs.Whole.{bare_files, whole_directories}

module _ (pages : Pages) (layout : Layout) (space : Spaces) (cells : Cells) (number : ℕ) (entry : FilesetEntry) (shape : FilesetShape) (whole : IsWhole pages layout)
    (log : IsLogInside layout.version layout.anchor) (few : AreFew layout) (is : IsSpaceOf pages layout space) (are : AreCellsOf pages layout cells)
    (there : slice_get layout.table.slots number ≡ Some (slot.Original entry)) (of : IsOriginal pages number entry shape) (keeps : KeepDirectories pages layout.table number) where
  small : (vol : ℕ) → IsMember layout.anchor vol → (member_of layout.anchor vol).pages ≤ 1048576
  small vol member = at_most layout.version _ (few vol member)

  tags : HasTags layout.table number entry.first_tag
  tags = record { item = slot.Original entry; there = there; has = refl }

  files : AreFiles number (layout.tags number) pages of.chains
  files = subst (λ places. AreFiles number places pages of.chains)
      (same_directory pages entry.first_tag of.has.places (layout.tags number) of.has.directory (whole.laid.tags number (slot.Original entry) there)) of.has.files

  pub a_set : StandsAsSet number (layout.tags number) space cells pages shape.shown
  a_set = record {
    chains = of.chains;
    indexes = indexes pages layout space cells whole.laid whole.no_fault log small is are number entry.first_tag tags of.chains files;
    stands = standing pages layout space cells whole.laid whole.no_fault log small is are number entry.first_tag tags of.chains files shape.shown of.shown;
    whole = whole_directories pages layout whole small number entry there shape of keeps;
    bare = bare_files pages layout whole small number entry there shape of;
    low = on_volumes pages layout space cells whole.laid whole.no_fault log small is are number entry.first_tag tags of.chains files;
  }
