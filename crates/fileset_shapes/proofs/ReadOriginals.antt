-- What is read at a tag of an original.
use Rattle.std.proofs.Common.{◌≡◌, ◌∙◌, List, [], ◌∷◌, Option, Some, None, IfSome, IsSomeAnd, refl, sym, subst}
use Rattle.std.specs.Option.{option_and_then}
use Rattle.filesets_reading.specs.domain_base.declared.place.CellAt.{CellAt}
use Rattle.filesets_reading.specs.domain_base.declared.place.Home.{Home}
use Rattle.filesets_reading.specs.domain_base.declared.place.Tag.{Tag}
use Rattle.filesets_reading.specs.page_store.Pages.{Pages}
use Rattle.filesets_reading.specs.metadata_cells.Chain.{PlacedCell}
use Rattle.filesets_reading.specs.tag_dirs.declared.dir.TagPlace.{TagPlace}
use Rattle.filesets_reading.specs.tag_dirs.Directory.{cell_of}
use Rattle.filesets_reading.specs.file_chains.Files.{HasFile, IsFile}
use Rattle.filesets_reading.specs.fileset_files.Files.{AreFiles, Chains, LeadsToFile}
use Rattle.filesets_reading.specs.fileset_files.Shown.{AreIndexPages, ShowsAt, index_of}
use Rattle.filesets_reading.specs.fileset_table.declared.slot.SlotItem.TheVariants as slot
use Rattle.filesets_reading.proofs.OfDomainLayout.NoTables.{none_of_tables}
use Rattle.filesets_reading.proofs.OfDomainLayout.There.{is_there}
use Rattle.filesets_reading.specs.domain_layout.DirectoryRules.{Has}
use Rattle.filesets_reading.specs.domain_layout.Seen.{SeenFile, seen_in}
use Rattle.filesets_reading.specs.domain_layout.Owners.{frame_of}
use Rattle.filesets_reading.specs.domain_layout.TagRules.{HasTags, IsFirstOf}
use Rattle.filesets_reading.proofs.OfDomainLayout.Named.{first_there}
use Rattle.filesets_reading.specs.Seen.{HasFewHomes, IsSeenAs, IsSeenThere}
use Rattle.filesets_reading.specs.declared.seen.SeenPages.{SeenPages}
use Rattle.fileset_shapes.specs.declared.files.FilesetFiles.{FilesetFiles}
use Rattle.fileset_shapes.proofs.OwnFiles.{chain_there}
use Rattle.fileset_shapes.specs.Files.{AreOriginals, ReadsOriginal, ReadsOriginalAt}
use Rattle.fileset_shapes.specs.Found.{index_shown, shown_by}
use Rattle.fileset_shapes.specs.Indexes.{IsReadIndex, IsWholeIndex}
use Rattle.fileset_shapes.specs.declared.found.TaggedFile.{TaggedFile}
use Rattle.fileset_shapes.proofs.OriginalFiles.{FileOf, file_of, none_shown, none_some, original_shown, original_stored, whole_index}

-- what is seen of nothing
none_seen : (o : Option SeenFile) → IsSeenThere o None → o ≡ None
none_seen None is = refl
none_seen (Some seen) is = absurd is

module _ (pages : Pages) (files : FilesetFiles) (are : AreOriginals pages files) (tag : Tag) where
  has_tags : HasTags are.layout.table files.files.fileset are.entry.first_tag
  has_tags = record { item = slot.Original are.entry; there = are.there; has = refl }

  -- the files by the other copy of their tag directory
  by_copy : (chains : Chains) → AreFiles files.files.fileset files.tags pages chains → AreFiles files.files.fileset files.files.tags pages chains
  by_copy chains fs = subst (λ (places : List TagPlace). AreFiles files.files.fileset places pages chains) (sym are.by.are.same) fs

  -- the file of a tag that was seen
  record SeenAt (chains : Chains) (found : SeenPages) : Type 0 where
    first : PlacedCell
    rest : List PlacedCell
    there : chains tag ≡ Some (first ∷ rest)
    of : FileOf pages are.layout are.whole.laid are.whole.no_fault files.files.fileset tag first rest
    seen : SeenFile
    is : seen_in (first ∷ rest) ≡ Some seen
    same : IsSeenAs seen found

  cells_there : (chains : Chains) → AreFiles files.files.fileset files.tags pages chains → (cells : List PlacedCell) → chains tag ≡ Some cells → LeadsToFile files.files.fileset files.tags pages tag cells
  cells_there chains fs cells there = subst (λ o. IfSome o (LeadsToFile files.files.fileset files.tags pages tag)) there (fs.some tag)

  seen_at : (chains : Chains) → AreFiles files.files.fileset files.tags pages chains → (found : SeenPages) → IsSeenThere (option_and_then seen_in (chains tag)) (Some found) → SeenAt chains found
  seen_at chains fs found sees = by_chain (chains tag) refl sees
    where
      by_seen : (first : PlacedCell) (rest : List PlacedCell) → chains tag ≡ Some (first ∷ rest) → (o : Option SeenFile) → seen_in (first ∷ rest) ≡ o → IsSeenThere o (Some found) → SeenAt chains found
      by_seen first rest there None is sees = none_some found (sym sees)
      by_seen first rest there (Some seen) is sees = record {
        first = first;
        rest = rest;
        there = there;
        of = file_of pages are.layout are.whole.laid are.whole.no_fault files.files.fileset are.entry.first_tag has_tags files.tags are.by.directory chains fs tag first rest there;
        seen = seen;
        is = is;
        same = sees;
      }

      by_chain : (o : Option (List PlacedCell)) → chains tag ≡ o → IsSeenThere (option_and_then seen_in o) (Some found) → SeenAt chains found
      by_chain None there sees = none_some found (sym sees)
      by_chain (Some []) there sees = absurd (cells_there chains fs [] there).is_of
      by_chain (Some (first ∷ rest)) there sees = by_seen first rest there (seen_in (first ∷ rest)) refl sees

  has_file : (chains : Chains) → AreFiles files.files.fileset files.tags pages chains → (found : SeenPages) (s : SeenAt chains found) → Has pages are.layout.table files.files.fileset tag (s.first ∷ s.rest) s.seen
  has_file chains fs found s = record {
    item = slot.Original are.entry;
    there = are.there;
    is = record {
      there = is_there pages files.files.fileset are.entry chains (record { places = files.tags; directory = are.by.directory; files = fs }) tag (s.first ∷ s.rest) s.there;
      is = s.is;
    };
  }

  -- a tag at which a file is seen leads to its cell
  pub leads_there : (found : SeenPages) → ((chains : Chains) → AreFiles files.files.fileset files.files.tags pages chains → IsSeenThere (option_and_then seen_in (chains tag)) (Some found)) → ¬ cell_of pages files.tags tag ≡ None
  leads_there found sees none =
      let chains = are.by.are.has.0 in
      let fs = are.by.are.has.1 in
      let s = seen_at chains fs found (sees chains (by_copy chains fs)) in
      subst (λ o. IsSomeAnd o (λ at. IsFile pages at (s.first ∷ s.rest))) none (cells_there chains fs (s.first ∷ s.rest) s.there).leads

  -- where it leads a file begins, with an index that is whole
  pub file_begins : (at : CellAt) → cell_of pages files.tags tag ≡ Some at → HasFile pages at
  file_begins at leads = by_chain (are.by.are.has.0 tag) refl
    where
      by_chain : (o : Option (List PlacedCell)) → are.by.are.has.0 tag ≡ o → HasFile pages at
      by_chain None there = none_some at (sym (are.by.are.has.1.none tag there) ∙ leads)
      by_chain (Some cells) there = (cells, chain_there pages files.files.fileset files.tags are.by.are.has.0 are.by.are.has.1 tag at cells leads there)

  pub index_whole : (at : CellAt) → cell_of pages files.tags tag ≡ Some at → (cells : List PlacedCell) → IsFile pages at cells → IfSome (index_of cells) (IsWholeIndex pages)
  index_whole at leads [] is = absurd is
  index_whole at leads (first ∷ rest) is =
      some_frame (index_of (first ∷ rest))
      (whole_index pages are.layout are.whole.laid are.whole.no_fault files.files.fileset tag first rest
      (record {
        named = subst (λ a. ¬ ¬ IsFirstOf pages (frame_of are.layout) files.files.fileset tag a) (sym is.0) (first_there pages are.layout are.whole.laid (none_of_tables pages (frame_of are.layout) are.whole.no_fault) files.files.fileset are.entry.first_tag has_tags files.tags are.by.directory tag at leads);
        file = is.1;
      }))
    where
      some_frame : (o : Option Home) → IfSome o (IsReadIndex pages (frame_of are.layout)) → IfSome o (IsWholeIndex pages)
      some_frame None index = tt
      some_frame (Some home) index = (frame_of are.layout, index)

  -- ---- what is read

  pub original_none : ((chains : Chains) → AreFiles files.files.fileset files.files.tags pages chains → IsSeenThere (option_and_then seen_in (chains tag)) None) → ReadsOriginalAt pages files tag None
  original_none sees = record {
    is = tt;
    reads = λ chains fs.
        let seen = sees chains (by_copy chains fs) in
        record { seen = seen; shown = none_shown (chains tag) (none_seen (option_and_then seen_in (chains tag)) seen) };
  }

  module _ (at : CellAt) (leads : cell_of pages files.tags tag ≡ Some at) (file : TaggedFile) (of_tag : file.tag ≡ tag) (few : HasFewHomes file.seen)
      (sees : (chains : Chains) → AreFiles files.files.fileset files.files.tags pages chains → IsSeenThere (option_and_then seen_in (chains tag)) (Some file.seen))
      (index : (cells : List PlacedCell) → IsFile pages at cells → AreIndexPages pages (index_of cells) (index_shown pages file.index.items)) where
    reads : (chains : Chains) → AreFiles files.files.fileset files.tags pages chains → ReadsOriginal pages (chains tag) (Some file)
    reads chains fs =
        let seen = sees chains (by_copy chains fs) in
        let s = seen_at chains fs file.seen seen in
        let begins = chain_there pages files.files.fileset files.tags chains fs tag at (s.first ∷ s.rest) leads s.there in
        record {
          seen = seen;
          shown = subst (λ o. ShowsAt pages o (Some (shown_by pages file))) (sym s.there)
              (original_shown pages are.layout are.whole.laid are.whole.no_fault files.files.fileset tag s.first s.rest s.of s.seen s.is are.whole.all (has_file chains fs file.seen s) file s.same (index (s.first ∷ s.rest) begins));
        }

    pub original_some : ReadsOriginalAt pages files tag (Some file)
    original_some =
        let chains = are.by.are.has.0 in
        let fs = are.by.are.has.1 in
        let s = seen_at chains fs file.seen (sees chains (by_copy chains fs)) in
        record {
          is = record {
            tag_is = of_tag;
            stored = record { few = few; stored = original_stored pages are.layout are.whole.laid are.whole.no_fault files.files.fileset tag s.first s.rest s.of s.seen s.is are.whole.all (has_file chains fs file.seen s) file s.same };
          };
          reads = reads;
        }
