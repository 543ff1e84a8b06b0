-- A domain that was read of pages without a fault stands for the filesets that the pages have.
use Rattle.std.proofs.Common.{◌≡◌, ℕ, false, Some, IsSomeAnd, subst}
use Rattle.domain_memory.specs.fileset_model.Filesets.{FilesetMap}
use Rattle.domain_memory.specs.fileset_table.declared.slot.FilesetEntry.{FilesetEntry}
use Rattle.domain_memory.specs.fileset_table.declared.slot.SlotItem.TheVariants as slot
use Rattle.domain_memory.proofs.OfDomainStanding.OneSet.{a_set}
use Rattle.domain_memory.specs.domain_standing.Keeping.{KeepDirectories}
use Rattle.domain_memory.specs.domain_layout.CellRules.{of_clone}
use Rattle.domain_memory.specs.domain_layout.Filled.{AreFilled}
use Rattle.domain_memory.specs.domain_layout.Shape.{AreShapesOf, FilesetShape, IsOriginal, Shapes}
use Rattle.domain_memory.specs.fileset_shapes.Files.{IsWhole}
use Rattle.domain_memory.specs.domain_standing.Domain.{DomainNow, item_in, layout_of}
use Rattle.domain_memory.specs.domain_standing.Standing.{StandsDomain}
use Rattle.no_faults.specs.Attached.{IsReadFrom}
use Rattle.no_faults.proofs.Domain.{files}
use Rattle.no_faults.proofs.Held.{holds_owned}
use Rattle.no_faults.proofs.Indexed.{indexes}
use Rattle.no_faults.proofs.ReadChains.{chains_stand}
use Rattle.no_faults.proofs.Rest.{says_the_rest}

module _ (d : DomainNow) (shapes : Shapes) (all : FilesetMap) (is : IsReadFrom d) (whole : IsWhole d.pages (layout_of d)) (are : AreShapesOf d.pages d.table shapes)
    (filled : AreFilled d.contents shapes all) (keep : (number : ℕ) → KeepDirectories d.pages d.table number) (no_clone : (number : ℕ) → of_clone (item_in d number) ≡ false) where
  original : (number : ℕ) (entry : FilesetEntry) (shape : FilesetShape) → item_in d number ≡ Some (slot.Original entry) → shapes entry.name ≡ Some shape → IsOriginal d.pages number entry shape
  original number entry shape there shaped = subst (λ o. IsSomeAnd o (IsOriginal d.pages number entry)) shaped (are.each number (slot.Original entry) there)

  pub stands : StandsDomain d all
  stands = record {
    tables = is.tables;
    files = files d is;
    indexes = indexes d is;
    chains = chains_stand d is;
    owned = holds_owned d is;
    rest = says_the_rest d is;
    slots = record {
      shapes = shapes;
      are = are;
      filled = filled;
      sets = λ number entry shape there shaped.
          a_set d.pages (layout_of d) d.space d.cells number entry shape whole is.tables.log is.tables.few is.space is.tables.cells there (original number entry shape there shaped) (keep number);
      no_clone = no_clone;
    };
  }
