-- What a fileset has where no tag of it is used.
use Rattle.std.proofs.Common.{◌≡◌, ◌⊎◌, inl, inr, ℕ, false, true, List, Option, Some, None, IfSome, IsSome, IsSomeAnd, refl, sym, subst, ⊎_elim}
use Rattle.std.specs.Option.{option_and_then}
use Rattle.filesets_reading.specs.domain_base.declared.place.CellAt.{CellAt}
use Rattle.filesets_reading.specs.domain_base.declared.place.Tag.{Tag}
use Rattle.filesets_reading.specs.page_store.Pages.{Pages}
use Rattle.filesets_reading.specs.metadata_cells.Chain.{PlacedCell}
use Rattle.filesets_reading.specs.tag_dirs.declared.dir.TagPlace.{TagPlace}
use Rattle.filesets_reading.specs.tag_dirs.Directory.{cell_of}
use Rattle.filesets_reading.specs.file_chains.Files.{IsFile}
use Rattle.filesets_reading.specs.fileset_files.Files.{AreFiles, Chains, LeadsToFile}
use Rattle.filesets_reading.specs.domain_layout.Seen.{seen_in}
use Rattle.filesets_reading.specs.Seen.{IsSeenThere}
use Rattle.fileset_shapes.specs.Clones.{ReadsOfClone}
use Rattle.fileset_shapes.specs.declared.files.FilesetFiles.{FilesetFiles}
use Rattle.fileset_shapes.specs.Files.{AreClones, AreOriginals, ReadsCloneAt, ReadsOriginalAt}
use Rattle.fileset_shapes.specs.Sources.{HasTag, IsSource, ReadsAt}
use Rattle.fileset_shapes.specs.declared.found.TaggedFile.{TaggedFile}
use Rattle.fileset_shapes.specs.declared.fileset_sources.FilesetSource.{FilesetSource}
use Rattle.fileset_shapes.specs.declared.fileset_sources.FilesetSource.TheVariants as source
use Rattle.fileset_shapes.proofs.ReadClones.{clone_none}
use Rattle.fileset_shapes.proofs.ReadOriginals.{original_none}

no_bool : false ≡ true → ⊥
no_bool is = cc

-- a tag that is not used has no chain
no_chain : (pages : Pages) (fileset : ℕ) (places : List TagPlace) (chains : Chains) → AreFiles fileset places pages chains → (tag : Tag) → cell_of pages places tag ≡ None → chains tag ≡ None
no_chain pages fileset places chains are tag none = by_chain (chains tag) (are.some tag)
  where
    by_chain : (o : Option (List PlacedCell)) → IfSome o (LeadsToFile fileset places pages tag) → o ≡ None
    by_chain None some = refl
    by_chain (Some cells) some = absurd (subst (λ o. IsSomeAnd o (λ at. IsFile pages at cells)) none some.leads)

unused_original : (pages : Pages) (files : FilesetFiles) → AreOriginals pages files → (tag : Tag) → cell_of pages files.tags tag ≡ None → ReadsOriginalAt pages files tag None
unused_original pages files are tag none =
    original_none pages files are tag
    (λ chains fs.
    let by_tags : AreFiles files.files.fileset files.tags pages chains = subst (λ (places : List TagPlace). AreFiles files.files.fileset places pages chains) are.by.are.same fs in
    subst (λ o. IsSeenThere (option_and_then seen_in o) None) (sym (no_chain pages files.files.fileset files.tags chains by_tags tag none)) refl)

unused_clone : (pages : Pages) (own behind : FilesetFiles) (number : ℕ) → AreClones pages own behind number → (tag : Tag) → cell_of pages own.tags tag ≡ None → cell_of pages behind.tags tag ≡ None
    → ReadsCloneAt pages own behind number tag None
unused_clone pages own behind number are tag none none_behind =
    clone_none pages own behind number are tag
    (λ chains chains_behind fs fs_behind.
    subst (λ o. ReadsOfClone pages number o (chains_behind tag) None) (sym (no_chain pages own.files.fileset own.tags chains fs tag none))
    (subst (λ o. ReadsOfClone pages number None o None) (sym (no_chain pages behind.files.fileset behind.tags chains_behind fs_behind tag none_behind)) (None, refl, refl)))

-- a tag is one of the fileset, or the fileset has nothing there
pub decided : (pages : Pages) (s : FilesetSource) → IsSource pages s → (tag : Tag) → HasTag pages s tag ⊎ (¬ HasTag pages s tag × ReadsAt pages s tag None)
decided pages (source.Original files) is tag = by_cell (cell_of pages files.tags tag) refl
  where
    by_cell : (o : Option CellAt) → cell_of pages files.tags tag ≡ o → IsSome (cell_of pages files.tags tag) ⊎ ((IsSome (cell_of pages files.tags tag) → ⊥) × ReadsOriginalAt pages files tag None)
    by_cell None none = inr ((λ some. no_bool (subst IsSome none some)), unused_original pages files is tag none)
    by_cell (Some at) there = inl (subst IsSome (sym there) refl)
decided pages (source.Clone own behind number) is tag = by_own (cell_of pages own.tags tag) refl
  where
    by_behind : cell_of pages own.tags tag ≡ None → (o : Option CellAt) → cell_of pages behind.tags tag ≡ o
        → HasTag pages (source.Clone own behind number) tag ⊎ (¬ HasTag pages (source.Clone own behind number) tag × ReadsCloneAt pages own behind number tag None)
    by_behind none (Some at) there = inl (inr (subst IsSome (sym there) refl))
    by_behind none None none_behind = inr (
      (λ has. ⊎_elim (λ some. no_bool (subst IsSome none some)) (λ some. no_bool (subst IsSome none_behind some)) has),
      unused_clone pages own behind number is tag none none_behind,
    )

    by_own : (o : Option CellAt) → cell_of pages own.tags tag ≡ o → HasTag pages (source.Clone own behind number) tag ⊎ (¬ HasTag pages (source.Clone own behind number) tag × ReadsCloneAt pages own behind number tag None)
    by_own (Some at) there = inl (inl (subst IsSome (sym there) refl))
    by_own None none = by_behind none (cell_of pages behind.tags tag) refl

-- a file that was read has its tag
pub tag_read : (pages : Pages) (s : FilesetSource) (tag : Tag) (file : TaggedFile) → ReadsAt pages s tag (Some file) → file.tag ≡ tag
tag_read pages (source.Original files) tag file reads = reads.is.tag_is
tag_read pages (source.Clone own behind number) tag file reads = reads.is.tag_is
