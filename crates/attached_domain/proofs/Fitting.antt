-- What is looked for, and the layout in which it is found.
use Rattle.std.proofs.Common.{◌≡◌, ◌<◌, ℕ, Bool, true, false, Option, Some, None, slice_get, refl, sym, subst, arith}
use mathlib.Core.Bool.{false≢true}
use Rattle.no_faults.specs.page_store.Pages.{Pages}
use Rattle.no_faults.specs.cell_chains.declared.links.CellLinks.{CellLinks}
use Rattle.no_faults.specs.cell_faults.Links.{AreLinks}
use Rattle.no_faults.specs.fileset_table.Table.{IsTable, Table}
use Rattle.no_faults.specs.fileset_table.declared.slot.SlotItem.{SlotItem}
use Rattle.no_faults.proofs.OfDomainLayout.NoTables.{none_of_tables}
use Rattle.no_faults.specs.domain_layout.CellRules.{of_clone}
use Rattle.no_faults.specs.domain_layout.Faults.{HasNoFault, HasNoTablesFault}
use Rattle.no_faults.specs.domain_layout.Layout.{Layout}
use Rattle.no_faults.specs.domain_layout.Owners.{frame_of}
use Rattle.no_faults.specs.domain_layout.Reached.{Frame}
use Rattle.no_faults.specs.filesets_reading.declared.tables.DomainTables.{DomainTables}
use Rattle.no_faults.proofs.OfFilesetsReading.Ways.{within_of}
use Rattle.no_faults.specs.fileset_shapes.Shapes.{IsDomain}
use Rattle.attached_domain.specs.Causes.{HasCause, HasClone, HasSign, IsCause}
use Rattle.attached_domain.specs.Signs.{ItemSays, SlotSays}
use Rattle.attached_domain.specs.declared.signs.Sign.{Sign}
use Rattle.attached_domain.specs.declared.unfit.Unfit.{Unfit}

-- the first slots are all of them
clone_below : (table : Table) → IsTable table → (number : ℕ) → of_clone (slice_get table.slots number) ≡ true → number < 32
clone_below table good number is = by_item (slice_get table.slots number) refl is
  where
    by_item : (o : Option SlotItem) → slice_get table.slots number ≡ o → of_clone o ≡ true → number < 32
    by_item None there is = absurd (false≢true is)
    by_item (Some item) there is = let below = within_of table.slots number item there in let whole = good.whole in omega (arith, below, whole)

pub no_clone_by : (table : Table) → IsTable table → ((number : ℕ) × (number < 32) × (of_clone (slice_get table.slots number) ≡ true) → ⊥)
    → (number : ℕ) → of_clone (slice_get table.slots number) ≡ false
no_clone_by table good none number = by_test (of_clone (slice_get table.slots number)) refl
  where
    by_test : (b : Bool) → of_clone (slice_get table.slots number) ≡ b → b ≡ false
    by_test true is = absurd (none (number, clone_below table good number is, is))
    by_test false is = refl

module _ (pages : Pages) (frame : Frame) (tables : DomainTables) (domain : IsDomain pages frame tables) where
  abbrev pub layout_read : Layout
  layout_read = domain.tables_are.layout

  pub cause_at : (unfit : Unfit) → IsCause pages layout_read unfit → HasCause pages frame unfit
  cause_at unfit is = record { layout = layout_read; framed = domain.tables_are.is; laid = domain.tables_are.laid; cause = is }

  pub no_tables_fault : (layout : Layout) → frame_of layout ≡ frame → HasNoTablesFault pages (frame_of layout)
  no_tables_fault layout framed = none_of_tables pages (frame_of layout) (subst (HasNoFault pages) (sym framed) domain.no_fault)

  pub linked_at : (layout : Layout) → frame_of layout ≡ frame → (links : CellLinks) → AreLinks pages frame links → AreLinks pages (frame_of layout) links
  linked_at layout framed links are = subst (λ f. AreLinks pages f links) (sym framed) are

  pub clone_read : (number : ℕ) → of_clone (slice_get tables.filesets.slots number) ≡ true → HasClone layout_read
  clone_read number is = (number, subst (λ (t : Table). of_clone (slice_get t.slots number) ≡ true) (sym domain.tables_are.table) is)

  pub sign_read : (sign : Sign) → SlotSays pages sign tables → HasSign pages sign layout_read
  sign_read sign (number, below, is) = record {
    number = number;
    item = is.item;
    there = subst (λ (t : Table). slice_get t.slots number ≡ Some is.item) (sym domain.tables_are.table) is.is;
    says = subst (ItemSays pages sign is.item) (sym (domain.tables_are.tags number is.places is.there)) is.says;
  }
