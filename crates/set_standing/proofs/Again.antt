-- A domain stands around a slot where it stands but for its filesets, and the slot's files belong together.
use Rattle.std.proofs.Common.{◌≡◌, ◌∙◌, ℕ, List, [], ◌∷◌, Option, Some, None, IfSome, IsSomeAnd, slice_get, sym, ap, subst, ⊎_elim}
use Rattle.std.specs.Option.{option_and_then}
use Rattle.standing_laws.specs.domain_base.declared.place.CellAt.{CellAt}
use Rattle.standing_laws.specs.domain_base.declared.place.Tag.{Tag}
use Rattle.standing_laws.specs.page_store.Pages.{Pages}
use Rattle.standing_laws.specs.metadata_cells.Cell.{Cell, record_of}
use Rattle.standing_laws.specs.metadata_cells.Chain.{PlacedCell}
use Rattle.standing_laws.specs.tag_dirs.Directory.{cell_of}
use Rattle.standing_laws.specs.file_chains.Files.{IsFile}
use Rattle.standing_laws.specs.fileset_files.Changes.{with_first}
use Rattle.standing_laws.specs.fileset_files.Files.{Chains, IsOf, LeadsToFile, first_record}
use Rattle.standing_laws.specs.fileset_files.Together.{AreTogether}
use Rattle.standing_laws.proofs.OfFilesetFiles.Created.{one_chains}
use Rattle.standing_laws.specs.fileset_table.declared.slot.FilesetEntry.{FilesetEntry}
use Rattle.standing_laws.specs.fileset_table.declared.slot.SlotItem.TheVariants as slot
use Rattle.standing_laws.specs.release_list.Standing.{Files, source_at, source_in, source_of, with_file}
use Rattle.standing_laws.proofs.OfReleaseList.Standings.{file_other, file_there, same_or_not}
use Rattle.standing_laws.specs.release_steps.Tags.{AreAmong, start_of}
use Rattle.standing_laws.proofs.OfReleaseSteps.Tags.{has_attributes}
use Rattle.standing_laws.specs.domain_layout.Layout.{first_tag_of}
use Rattle.standing_laws.specs.domain_standing.Chains.{HasFilesAmong, IndexesAt, IsOfFileset, IsRemoved, StandsInSlot}
use Rattle.standing_laws.specs.domain_standing.Domain.{DomainNow, all_of}
use Rattle.standing_laws.specs.IndexCalls.{NamesFile}
use Rattle.standing_laws.specs.Leads.{StandsBelow}
use Rattle.standing_laws.proofs.IndexWas.{there_was}
use Rattle.standing_laws.specs.Sound.{StandsSoundBut}
use Rattle.set_standing.specs.Around.{IsNamedIn, StandsAround, StandsAtSlot}

pub its_number : (number : ℕ) (tag : Tag) (cs : List PlacedCell) → IsOf number tag cs → IsOfFileset number cs
its_number number tag [] of = of
its_number number tag (first ∷ rest) of = of.2

pub says_some : (pages : Pages) (o : Option CellAt) (cs : List PlacedCell) → IsSomeAnd o (λ at. IsFile pages at cs) → ¬ first_record 1 cs ≡ None
says_some pages None cs leads = absurd leads
says_some pages (Some at) cs leads = has_attributes pages at cs leads

module _ (number : ℕ) (d : DomainNow) (entry : FilesetEntry) (original : slice_get d.table.slots number ≡ Some (slot.Original entry)) (files : Files) (indexes : IndexesAt) (below : StandsBelow d files indexes) (chains : Chains) (together : AreTogether number (d.tags number) d.space d.cells d.pages chains) where
  has : HasFilesAmong d files number
  has = ⊎_elim
      (λ among. among)
      (λ empty. absurd (subst IsRemoved original empty.removed))
      (subst (λ o. StandsInSlot d files number (option_and_then first_tag_of o)) original (below.chains.slots number))

  among : AreAmong (all_of d files) (d.tags number) chains
  among = subst (AreAmong (all_of d files) (d.tags number)) (λ k t. one_chains d.pages number (d.tags number) has.chains chains has.are together.files t k) has.among

  pub around_of : ((at : CellAt) → source_at files at ≡ None) → StandsSoundBut (IsNamedIn chains) d files indexes → StandsAround number d
  around_of alone sound = record {
    entry = entry;
    original = original;
    files = files;
    indexes = indexes;
    below = below;
    chains = chains;
    well = record { well = below.chains.well; together = together; among = among };
    alone = alone;
    sound = sound;
  }

-- an original's slot is one of these
abbrev pub at_slot : (number : ℕ) (d : DomainNow) → StandsAround number d → StandsAtSlot number d
at_slot number d around = record {
  files = around.files;
  indexes = around.indexes;
  below = around.below;
  chains = around.chains;
  well = around.well;
  alone = around.alone;
  sound = around.sound;
}

-- the file that a tag of the slot names
module _ (number : ℕ) (tag : Tag) (d : DomainNow) (around : StandsAtSlot number d) (first : PlacedCell) (rest : List PlacedCell) (is : around.chains tag ≡ Some (first ∷ rest)) where
  pub there_first : around.files first.at ≡ Some (first ∷ rest)
  there_first = there_was d around.files around.indexes around.below number tag around.chains around.well first rest is

  pub number_first : IsOfFileset number (first ∷ rest)
  number_first = its_number number tag (first ∷ rest) (subst (λ o. IfSome o (LeadsToFile number (d.tags number) d.pages tag)) is (around.well.together.files.some tag)).is_of

  -- its first cell has attributes
  pub says_first : ¬ first_record 1 (first ∷ rest) ≡ None
  says_first = says_some d.pages (cell_of d.pages (d.tags number) tag) (first ∷ rest) (subst (λ o. IfSome o (LeadsToFile number (d.tags number) d.pages tag)) is (around.well.together.files.some tag)).leads

  -- it is read through none, whatever its first cell says beside
  pub alone_said : (says : Cell → Cell) → record_of 2 (says first.cell).records ≡ record_of 2 first.cell.records → (at : CellAt) → source_at (with_file first.at (Some (with_first says (first ∷ rest))) around.files) at ≡ None
  alone_said says same at = ⊎_elim
      (λ here.
      ap (option_and_then source_of) (ap (with_file first.at (Some (with_first says (first ∷ rest))) around.files) here ∙ file_there first.at (Some (with_first says (first ∷ rest))) around.files)
      ∙ ap (option_and_then source_in) same
      ∙ sym (ap (option_and_then source_of) there_first)
      ∙ around.alone first.at)
      (λ apart. ap (option_and_then source_of) (file_other first.at (Some (with_first says (first ∷ rest))) around.files at apart) ∙ around.alone at)
      (same_or_not at first.at)

-- and that of an original
pub names_first : (number : ℕ) (tag : Tag) (d : DomainNow) (around : StandsAround number d) (first : PlacedCell) (rest : List PlacedCell) → around.chains tag ≡ Some (first ∷ rest) → NamesFile number tag first.at d around.chains around.files
names_first number tag d around first rest is = record { entry = around.entry; original = around.original; well = around.well; begins = ap (option_and_then start_of) is }
