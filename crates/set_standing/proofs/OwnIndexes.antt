-- Pages of the indexes of a slot's files are well formed where the slot stands for a fileset.
use Rattle.std.proofs.Common.{◌≡◌, ◌∙◌, ℕ, Bool, true, false, cond, List, [], ◌∷◌, Option, Some, None, IfSome, IsSome, IsSomeAnd, Contains, length, refl, sym, ap, subst, arith, ⊎_elim, true≢false}
use Rattle.std.specs.List.{AllByRecursion}
use Rattle.std.specs.Option.{option_and_then, option_map_or}
use Rattle.standing_laws.specs.domain_base.declared.place.CellAt.{CellAt}
use Rattle.standing_laws.specs.domain_base.declared.place.Home.{Home}
use Rattle.standing_laws.specs.domain_base.declared.place.Kind.{Kind}
use Rattle.standing_laws.specs.domain_base.declared.place.Kind.TheVariants.{Directory, File}
use Rattle.standing_laws.specs.domain_base.declared.place.Tag.{Tag}
use Rattle.standing_laws.specs.page_store.Bitfiles.{Bitfile}
use Rattle.standing_laws.specs.page_store.Pages.{Pages}
use Rattle.standing_laws.specs.cell_records.Records.{kind_of}
use Rattle.standing_laws.specs.cell_records.declared.record.Record.{Record}
use Rattle.standing_laws.specs.cell_records.declared.record.Record.TheVariants as written
use Rattle.standing_laws.specs.metadata_cells.Cell.{record_of}
use Rattle.standing_laws.specs.metadata_cells.Chain.{PlacedCell}
use Rattle.standing_laws.specs.directory_pages.Index.{IsIndexPage}
use Rattle.standing_laws.specs.file_chains.Files.{IsFile}
use Rattle.standing_laws.proofs.OfFileChains.MapRecords.{kind_found}
use Rattle.standing_laws.specs.fileset_files.Files.{attributes_in, attributes_of, is_removed, of_live}
use Rattle.standing_laws.specs.fileset_files.Shown.{ShowsAt, ShowsFile, index_of}
use Rattle.standing_laws.proofs.OfFilesetFiles.Created.{one_chains}
use Rattle.standing_laws.proofs.OfFilesetFiles.Parts.{FileAt, file_at}
use Rattle.standing_laws.specs.index_pages.Homes.{AreIndexHomes, shown_at}
use Rattle.standing_laws.proofs.OfStoredSet.IndexPut.{index_is}
use Rattle.standing_laws.specs.fileset_model.declared.fileset.FilesetSlot.{FilesetSlot}
use Rattle.standing_laws.specs.fileset_table.declared.slot.FilesetEntry.{FilesetEntry}
use Rattle.standing_laws.proofs.OfReleaseList.Spread.{none_not}
use Rattle.standing_laws.specs.release_steps.Tags.{start_of}
use Rattle.standing_laws.specs.domain_layout.Shape.{FilesetShape}
use Rattle.standing_laws.specs.domain_standing.Domain.{DomainNow}
use Rattle.standing_laws.specs.Slots.{StandsSlot}
use Rattle.standing_laws.specs.Sound.{IsSound}
use Rattle.standing_laws.proofs.SoundParted.{sound_whole}
use Rattle.standing_laws.proofs.SoundShown.{good_shown}
use Rattle.set_standing.specs.Around.{IsNamedIn, StandsAround}

-- a file's first cell says what the file is
says_what : (o : Option Record) → IfSome o (λ r. kind_of r ≡ 1) → IsSome o → option_and_then attributes_in o ≡ None → ⊥
says_what None kind some none = absurd (true≢false (sym some))
says_what (Some (written.Attributes kind uid gid flags size keep links birth unsynced)) is some none = cc
says_what (Some r) is some none = absurd (omega (arith, is))

has_what : (at : CellAt) (cells : List PlacedCell) (pages : Pages) → IsFile pages at cells → attributes_of cells ≡ None → ⊥
has_what at [] pages file none = absurd file
has_what at (first ∷ rest) pages file none = says_what (record_of 1 first.cell.records) (by_record (record_of 1 first.cell.records) refl) file.1.attributes none
  where
    by_record : (o : Option Record) → record_of 1 first.cell.records ≡ o → IfSome o (λ r. kind_of r ≡ 1)
    by_record None is = tt
    by_record (Some r) is = kind_found 1 first.cell.records r is

module _ (number : ℕ) (d : DomainNow) (around : StandsAround number d) (entry : FilesetEntry) (shape : FilesetShape) (fileset : FilesetSlot) (own : StandsSlot d number entry shape fileset) where
  module _ (tag : Tag) (cells : List PlacedCell) (there : around.chains tag ≡ Some cells) (at : CellAt) (homes_are : AreIndexHomes d.pages (index_of cells) (around.indexes at)) where
    -- what the set shows of the tag's file
    shows : ShowsAt d.pages (Some cells) (shape.shown tag)
    shows = subst (λ o. ShowsAt d.pages o (shape.shown tag)) (one_chains d.pages number (d.tags number) own.set.chains around.chains own.set.stands.together.files around.well.together.files tag ∙ there) (own.set.stands.shows tag)

    live : is_removed cells ≡ false
    live = subst (λ o. IfSome o (λ cs. is_removed cs ≡ false)) there (around.well.among.live tag)

    well_formed : (file : Bitfile) → shape.shown tag ≡ Some file → AllByRecursion IsIndexPage file.index
    well_formed file is = by_kind file.kind refl
      where
        index_same : option_map_or (λ (f : Bitfile). f.index) (shape.shown tag) [] ≡ file.index
        index_same = ap (λ (o : Option Bitfile). option_map_or (λ f. f.index) o []) is

        none_in : (xs : List (List ℕ)) → length xs ≡ 0 → AllByRecursion IsIndexPage xs
        none_in [] none = tt
        none_in (x ∷ xs) none = absurd (omega (arith, none))

        by_kind : (kind : Kind) → file.kind ≡ kind → AllByRecursion IsIndexPage file.index
        by_kind File kind = none_in file.index (subst (λ (o : Option Bitfile). IfSome o (λ f. f.kind ≡ File → length f.index ≡ 0)) is (own.set.bare tag) kind)
        by_kind Directory kind =
            let directory = own.filled.names.directories tag (subst (λ (o : Option Bitfile). IsSomeAnd o (λ f. f.kind ≡ Directory)) (sym is) kind) in
            subst (AllByRecursion IsIndexPage) index_same
            (⊎_elim (λ none. subst (AllByRecursion IsIndexPage) (sym none) tt) (λ rows. rows.good.pages) directory.index)

    shown_good : (o : Option Bitfile) → shape.shown tag ≡ o → ShowsAt d.pages (Some cells) o → AllByRecursion IsIndexPage (shown_at d.pages (around.indexes at))
    shown_good None is none = absurd (nothing (file_at number (d.tags number) d.pages around.chains around.well.together.files tag cells there))
      where
        nothing : FileAt d.pages cells → ⊥
        nothing f = has_what f.at cells d.pages f.is_file (ap (λ (b : Bool). cond b None (attributes_of cells)) (sym live) ∙ none)
    shown_good (Some file) is shown =
        let of : ShowsFile d.pages cells file = subst (λ (b : Bool). IsSomeAnd (cond b None (Some cells)) (λ live. ShowsFile d.pages live file)) live shown in
        subst (AllByRecursion IsIndexPage) (index_is d.pages (index_of cells) (around.indexes at) file.index homes_are of.index) (well_formed file is)

    index_good : (home : Home) → Contains (around.indexes at) home → IsSomeAnd (d.pages home) IsIndexPage
    index_good = good_shown d.pages (index_of cells) (around.indexes at) homes_are (shown_good (shape.shown tag) refl shows)

  own_good : (at : CellAt) (home : Home) → IsNamedIn around.chains at → Contains (around.indexes at) home → IsSomeAnd (d.pages home) IsIndexPage
  own_good at home named inside = by_chain (around.chains named.0) refl named.1
    where
      begins_there : around.files at ≡ around.chains named.0
      begins_there = ap (option_and_then around.files) (sym named.1) ∙ around.well.among.same named.0

      by_chain : (o : Option (List PlacedCell)) → around.chains named.0 ≡ o → option_and_then start_of o ≡ Some at → IsSomeAnd (d.pages home) IsIndexPage
      by_chain None there begins = absurd (none_not at begins)
      by_chain (Some cells) there begins =
          index_good named.0 cells there at (subst (λ o. AreIndexHomes d.pages (option_and_then index_of o) (around.indexes at)) (begins_there ∙ there) (around.below.chains.indexed at)) home inside

  -- so nothing is left out
  pub around_sound : IsSound d
  around_sound = record {
    files = around.files;
    indexes = around.indexes;
    below = around.below;
    sound = sound_whole d around.files around.indexes (IsNamedIn around.chains) around.sound own_good;
  }
