-- A directory's first cell that tells where its index begins: all else that is shown stays.
use Rattle.std.proofs.Common.{◌≡◌, ◌∙◌, ℕ, Bool, true, false, Option, Some, None, IfSome, List, [], ◌∷◌, Contains, refl, sym, ap, arith}
use Rattle.std.specs.Option.{option_and_then, option_map, option_map_or}
use Rattle.index_pages.specs.domain_base.declared.place.CellAt.{CellAt}
use Rattle.index_pages.specs.domain_base.declared.place.Home.{Home}
use Rattle.index_pages.specs.domain_base.declared.place.Tag.{Tag}
use Rattle.index_pages.specs.page_store.Bitfiles.{same_tag}
use Rattle.index_pages.specs.page_store.Pages.{Pages}
use Rattle.index_pages.specs.cell_records.declared.record.Record.{Record}
use Rattle.index_pages.specs.metadata_cells.Chain.{PlacedCell}
use Rattle.index_pages.specs.tag_dirs.declared.dir.TagPlace.{TagPlace}
use Rattle.index_pages.specs.extent_maps.declared.run.PagePlace.TheVariants.{Absent}
use Rattle.index_pages.specs.extent_maps.Runs.{place_of}
use Rattle.index_pages.specs.free_cells.Cells.{Cells, table_of}
use Rattle.index_pages.specs.file_chains.FileChanges.{AreOnTables}
use Rattle.index_pages.specs.file_chains.Files.{IsFile, places_of}
use Rattle.index_pages.proofs.OfFileChains.Added.{off_table}
use Rattle.index_pages.specs.fileset_files.declared.indexing.IndexPlace.{IndexPlace}
use Rattle.index_pages.specs.fileset_files.Changes.{ChangesFirst, with_chain, with_first}
use Rattle.index_pages.specs.fileset_files.Files.{AreFiles, Chains, attributes_in, attributes_of, is_removed, place_at, says_remove}
use Rattle.index_pages.specs.fileset_files.Index.{index_record, says_index}
use Rattle.index_pages.specs.fileset_files.Shown.{index_in, index_of}
use Rattle.index_pages.proofs.OfFilesetFiles.FirstCell.{find_other, find_put}
use Rattle.index_pages.proofs.OfFilesetFiles.FirstTogether.{index_keeps, runs_kept}
use Rattle.index_pages.proofs.OfFilesetFiles.OneChain.{chain_other, chain_same}
use Rattle.index_pages.proofs.OfFilesetFiles.OneFile.{tags_same}
use Rattle.index_pages.proofs.OfFilesetFiles.Parts.{file_at}

-- a page off the tables does not change with a first cell
pub off_tables_still : (cells : Cells) (chain : Option (List PlacedCell)) (old new : Pages) → IfSome chain (AreOnTables cells) → ChangesFirst chain old new → (h : Home) → ¬ Contains (table_of cells h.vol) h.page → new h ≡ old h
off_tables_still cells None old new on changes h off = ap (λ (ps : Pages). ps h) changes
off_tables_still cells (Some []) old new on changes h off = ap (λ (ps : Pages). ps h) changes
off_tables_still cells (Some (first ∷ rest)) old new on changes h off = changes.1 h (off_table cells first.at h on.0 off)

-- what a first cell says that tells of an index
pub record TellsIndex (index : IndexPlace) (before after : List PlacedCell) : Type 0 where
  pub removed : is_removed after ≡ is_removed before
  pub attributes : attributes_of after ≡ attributes_of before
  pub begins : index_of after ≡ Some index.first
  pub places : (k : ℕ) → places_of after k ≡ places_of before k

tells : (index : IndexPlace) (pages : Pages) (cs : List PlacedCell) (at : CellAt) → IsFile pages at cs → TellsIndex index cs (with_first (says_index (Some index)) cs)
tells index pages [] at is = absurd is
tells index pages (first ∷ rest) at is =
    let value : Option Record = Some (index_record index) in
    record {
      removed = ap (λ o. option_map_or says_remove o false) (find_other 9 6 value first.cell.records (λ e. omega (arith, e)) refl);
      attributes = ap (option_and_then attributes_in) (find_other 9 1 value first.cell.records (λ e. omega (arith, e)) refl);
      begins = ap (option_and_then index_in) (find_put 9 value first.cell.records refl);
      places = λ k. ap (λ rs. place_of rs k) (runs_kept (says_index (Some index)) first rest (index_keeps pages first rest is.1 (Some index)));
    }

module _ (fileset : ℕ) (places : List TagPlace) (pages : Pages) (chains : Chains) (files : AreFiles fileset places pages chains) (tag : Tag) (index : IndexPlace) where
  abbrev change : List PlacedCell → List PlacedCell
  change = with_first (says_index (Some index))

  pub tells_at : (cs : List PlacedCell) → chains tag ≡ Some cs → TellsIndex index cs (change cs)
  tells_at cs is = let f = file_at fileset places pages chains files tag cs is in tells index pages cs f.at f.is_file

  pub place_told : (t : Tag) (k : ℕ) → place_at (with_chain tag change chains) t k ≡ place_at chains t k
  place_told t k = by_tag (same_tag t tag) refl
    where
      by_chain : (o : Option (List PlacedCell)) → chains tag ≡ o → option_map_or (λ cs. places_of cs k) (option_map change o) Absent ≡ option_map_or (λ cs. places_of cs k) o Absent
      by_chain None is = refl
      by_chain (Some cs) is = (tells_at cs is).places k

      by_tag : (b : Bool) → same_tag t tag ≡ b → place_at (with_chain tag change chains) t k ≡ place_at chains t k
      by_tag true same =
          ap (λ o. option_map_or (λ cs. places_of cs k) o Absent) (chain_same tag change chains t same) ∙ ap (λ (u : Tag). option_map_or (λ cs. places_of cs k) (option_map change (chains u)) Absent) (tags_same t tag same)
          ∙ by_chain (chains tag) refl ∙ ap (λ (u : Tag). place_at chains u k) (sym (tags_same t tag same))
      by_tag false other = ap (λ o. option_map_or (λ cs. places_of cs k) o Absent) (chain_other tag change chains t other)
