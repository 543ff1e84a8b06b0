-- All belongs together where a tag is taken out of use: its file is none of the files any more.
use Rattle.std.proofs.Common.{◌≡◌, ◌∙◌, ℕ, Bool, true, false, cond, List, Some, None, IfSome, refl, sym, ap, subst, ⊎_elim}
use Rattle.std.proofs.lemmas.Bool.{cases_Bool, false_from_ne_true}
use Rattle.std.specs.Option.{option_map_or}
use Rattle.file_chains.specs.domain_base.declared.place.Home.{Home}
use Rattle.file_chains.specs.domain_base.declared.place.Tag.{Tag}
use Rattle.file_chains.specs.page_store.Pages.{Pages}
use Rattle.file_chains.specs.page_store.Bitfiles.{same_tag}
use Rattle.file_chains.specs.cell_records.declared.record.Record.TheVariants as written
use Rattle.file_chains.specs.cell_records.declared.record.Leftover.TheVariants.{Remove}
use Rattle.file_chains.specs.metadata_cells.Chain.{PlacedCell}
use Rattle.tag_dirs.specs.declared.dir.TagPlace.{TagPlace}
use Rattle.tag_dirs.specs.Directory.{has_home}
use Rattle.file_chains.specs.extent_maps.declared.run.PagePlace.TheVariants.{Absent, At}
use Rattle.file_chains.specs.free_cells.Cells.{Cells}
use Rattle.file_chains.specs.free_space.Spaces.{Spaces}
use Rattle.file_chains.specs.Allocated.{AreAllocated}
use Rattle.file_chains.specs.FileChanges.{AreOnTables}
use Rattle.file_chains.specs.Files.{AreFile, map_records, places_of}
use Rattle.fileset_files.specs.Changes.{says_removed, without_chain}
use Rattle.fileset_files.specs.Files.{AreFiles, Chains, place_at}
use Rattle.fileset_files.specs.Together.{AreTogether}
use Rattle.fileset_files.proofs.Created.{allocated_beside}
use Rattle.fileset_files.proofs.FirstCell.{map_stays}
use Rattle.fileset_files.proofs.FirstTogether.{not_of, rows}

pub removed_keeps : (pages : Pages) (first : PlacedCell) (rest : List PlacedCell) → (file : AreFile pages first rest) → map_records (says_removed first.cell).records ≡ map_records first.cell.records
removed_keeps pages first rest file = map_stays 6 (Some (written.Pending Remove)) first.cell.records file.value file.map.only (not_of file.value 6 (rows pages first rest file) refl) refl ∙ sym file.map.only

module _ (old mid new : Pages) (fileset : ℕ) (places : List TagPlace) (tag : Tag) (chains : Chains) (space : Spaces) (cells : Cells) (are : AreTogether fileset places space cells old chains) (allocated : AreAllocated space cells mid) (files : AreFiles fileset places new (without_chain tag chains))
    (elsewhere : (h : Home) → has_home places h ≡ false → new h ≡ mid h) where
  abbrev now : Chains
  now = without_chain tag chains

  now_none : (t : Tag) → same_tag t tag ≡ true → now t ≡ None
  now_none t same = ap (λ (b : Bool). cond b None (chains t)) same

  now_other : (t : Tag) → same_tag t tag ≡ false → now t ≡ chains t
  now_other t other = ap (λ (b : Bool). cond b None (chains t)) other

  was_there : (t : Tag) (p : ℕ) (h : Home) → place_at now t p ≡ At h → place_at chains t p ≡ At h
  was_there t p h there = ⊎_elim
      (λ same. absurd (absent_at (sym (ap (λ o. option_map_or (λ cs. places_of cs p) o Absent) (now_none t same)) ∙ there)))
      (λ other. sym (ap (λ o. option_map_or (λ cs. places_of cs p) o Absent) (now_other t other)) ∙ there)
      (cases_Bool (same_tag t tag))
    where
      absent_at : Absent ≡ At h → ⊥
      absent_at e = cc

  pub together_without : AreTogether fileset places space cells new (without_chain tag chains)
  together_without = record {
    files = files;
    allocated = allocated_beside space cells mid new (λ h on. elsewhere h (false_from_ne_true (has_home places h) (λ has. (are.tag_pages h has).off_table on))) allocated;
    on_tables = λ t. ⊎_elim
        (λ same. subst (λ o. IfSome o (AreOnTables cells)) (sym (now_none t same)) tt)
        (λ other. subst (λ o. IfSome o (AreOnTables cells)) (sym (now_other t other)) (are.on_tables t))
        (cases_Bool (same_tag t tag));
    tag_pages = are.tag_pages;
    file_pages = λ t p h there. are.file_pages t p h (was_there t p h there);
    once = λ s t p q h a b. are.once s t p q h (was_there s p h a) (was_there t q h b);
  }
