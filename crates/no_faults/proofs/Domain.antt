-- The chains of a domain that was read of pages without a fault.
use Rattle.std.proofs.Common.{◌≡◌, ◌⊎◌, inl, inr, ℕ, ◌≤◌, List, Option, Some, None, slice_get, refl, sym, subst}
use Rattle.std.specs.Option.{option_and_then}
use Rattle.domain_memory.specs.domain_base.declared.place.CellAt.{CellAt}
use Rattle.domain_memory.specs.log_ring.Homes.{IsMember, member_of}
use Rattle.domain_memory.specs.metadata_cells.Chain.{PlacedCell}
use Rattle.domain_memory.specs.fileset_table.Table.{entry_of}
use Rattle.domain_memory.specs.fileset_table.declared.slot.FilesetEntry.{FilesetEntry}
use Rattle.domain_memory.specs.fileset_table.declared.slot.SlotItem.{SlotItem}
use Rattle.domain_memory.specs.fileset_table.declared.slot.SlotItem.TheVariants as slot
use Rattle.domain_memory.specs.release_list.Standing.{Files}
use Rattle.domain_memory.specs.domain_layout.CellRules.{LeadsTo}
use Rattle.domain_memory.specs.domain_layout.Faults.{HasNoExtentFault, HasNoTablesFault}
use Rattle.domain_memory.specs.domain_layout.Owners.{frame_of}
use Rattle.domain_memory.specs.domain_layout.TagRules.{IsQuotaOf, quota_of}
use Rattle.domain_memory.proofs.OfDomainLayout.NoTables.{none_of_extents}
use Rattle.domain_memory.proofs.OfDomainLayout.OwnedOnce.{no_tags, table_at}
use Rattle.domain_memory.proofs.OfDomainStanding.Showing.{at_most}
use Rattle.domain_memory.specs.domain_standing.Chains.{IsRemoved}
use Rattle.domain_memory.specs.domain_standing.Domain.{DomainNow, layout_of}
use Rattle.no_faults.specs.Attached.{IsFirstQuota, IsReadFrom}
use Rattle.no_faults.proofs.Begun as begun
use Rattle.no_faults.proofs.Begun.{Begins, ChainAt, nowhere, quota_in}

module _ (d : DomainNow) (is : IsReadFrom d) where
  pub fault : HasNoExtentFault d.pages (frame_of (layout_of d))
  fault = none_of_extents d.pages (frame_of (layout_of d)) is.no_fault

  abbrev pub tables : HasNoTablesFault d.pages (frame_of (layout_of d))
  tables = fault.tables

  pub small : (vol : ℕ) → IsMember (layout_of d).anchor vol → (member_of (layout_of d).anchor vol).pages ≤ 1048576
  small vol member = at_most d.frame.version _ (is.tables.few vol member)

  -- ---- quota cells of slots

  no_wrong : (number : ℕ) (item : SlotItem) → slice_get d.table.slots number ≡ Some item → (entry : FilesetEntry) → entry_of item ≡ Some entry → (at : CellAt) → entry.quota ≡ Some at
      → ¬ (¬ IsQuotaOf d.pages (frame_of (layout_of d)) number at ⊎ ((other : CellAt) × LeadsTo d.pages (frame_of (layout_of d)) other at))
  no_wrong number item there entry of at named wrong =
      let home = table_at d.pages (layout_of d) is.tables.laid tables in
      no_tags d.pages (layout_of d) is.tables.laid tables home.0 (inr (inr (inr (inr (inr (inr (
        home.1,
        record {
          number = number;
          item = item;
          there = there;
          wrong = inr (record { entry = entry; is = of; at = at; named = named; wrong = wrong });
        },
      )))))))

  of_fileset : (number : ℕ) (item : SlotItem) → slice_get d.table.slots number ≡ Some item → (entry : FilesetEntry) → entry_of item ≡ Some entry → (at : CellAt) → entry.quota ≡ Some at
      → ¬ ¬ IsFirstQuota d.pages (frame_of (layout_of d)) number at
  of_fileset number item there entry of at named away =
      let right = no_wrong number item there entry of at named in
      right (inl (λ quota. away (record { is = quota; first = λ other leads. right (inr (other, leads)) })))

  pub quotas : (number : ℕ) (at : CellAt) → quota_in (layout_of d) number ≡ Some at → ¬ ¬ IsFirstQuota d.pages (frame_of (layout_of d)) number at
  quotas number at named = by_item (slice_get d.table.slots number) refl named
    where
      by_item : (o : Option SlotItem) → slice_get d.table.slots number ≡ o → option_and_then quota_of o ≡ Some at → ¬ ¬ IsFirstQuota d.pages (frame_of (layout_of d)) number at
      by_item None there named_at = nowhere at named_at
      by_item (Some slot.Free) there named_at = nowhere at named_at
      by_item (Some (slot.Original entry)) there named_at = of_fileset number (slot.Original entry) there entry refl at named_at
      by_item (Some (slot.Clone of clone entry)) there named_at = of_fileset number (slot.Clone of clone entry) there entry refl at named_at
      by_item (Some (slot.Removed first quota)) there named_at = λ away. away (is.quotas number at (subst IsRemoved (sym there) tt) named)

  -- ---- the chains

  abbrev pub files : Files
  files = begun.files d.pages (layout_of d) is.tables.laid tables small quotas

  abbrev pub BeginsAt : CellAt → Type 0
  BeginsAt at = Begins d.pages (layout_of d) is.tables.laid tables small at

  abbrev pub Chain : CellAt → List PlacedCell → Type 0
  Chain at chain = ChainAt d.pages (layout_of d) is.tables.laid tables small quotas at chain

  pub chain_at : (at : CellAt) (chain : List PlacedCell) → files at ≡ Some chain → Chain at chain
  chain_at = begun.chain_at d.pages (layout_of d) is.tables.laid tables small quotas

  pub chain_there : (at : CellAt) → BeginsAt at → (chain : List PlacedCell) × (files at ≡ Some chain)
  chain_there = begun.chain_there d.pages (layout_of d) is.tables.laid tables small quotas
