-- Owners of a slot keep their limits where its quota cells stay.
use Rattle.std.proofs.Common.{◌≡◌, ◌∙◌, ℕ, List, Option, Some, None, IsSomeAnd, refl, ap}
use Rattle.std.specs.Option.{option_and_then}
use Rattle.standing_laws.specs.domain_base.declared.place.CellAt.{CellAt}
use Rattle.standing_laws.specs.cell_records.declared.record.Record.{Record}
use Rattle.standing_laws.specs.metadata_cells.Chain.{LinksFrom, PlacedCell, records_of}
use Rattle.standing_laws.specs.fileset_values.declared.command.Owner.{Owner}
use Rattle.standing_laws.specs.fileset_model.declared.fileset.Limits.{Limits}
use Rattle.standing_laws.specs.fileset_table.declared.slot.FilesetEntry.{FilesetEntry}
use Rattle.standing_laws.specs.fileset_table.declared.slot.SlotItem.TheVariants as slot
use Rattle.standing_laws.specs.release_list.Standing.{Files}
use Rattle.standing_laws.proofs.OfDomainLayout.OneShape.{links_same}
use Rattle.standing_laws.specs.domain_layout.Shape.{AreLimits, AreQuotas}
use Rattle.standing_laws.specs.domain_layout.TagRules.{quota_of}
use Rattle.standing_laws.specs.domain_standing.Chains.{AreQuotasOf, IsQuotaOf}
use Rattle.standing_laws.specs.domain_standing.Domain.{DomainNow, item_in}
use Rattle.standing_laws.proofs.OtherSlots.{links_of}

module _ (n : ℕ) (d now : DomainNow) (files : Files) (named : (at : CellAt) → IsQuotaOf d n at → IsSomeAnd (files at) (AreQuotasOf d n at)) (links : (at : CellAt) (cs : List PlacedCell) → files at ≡ Some cs → AreQuotasOf d n at cs → LinksFrom now.pages at cs)
    (entry : FilesetEntry) (there : item_in d n ≡ Some (slot.Original entry))
  where
    quotas_still : (o : Option CellAt) → entry.quota ≡ o → (records : List Record) → AreQuotas d.pages o records → AreQuotas now.pages o records
    quotas_still None none records are = are
    quotas_still (Some at) quota records are = by_chain (files at) refl (named at (ap (option_and_then quota_of) there ∙ quota))
      where
        by_chain : (o : Option (List PlacedCell)) → files at ≡ o → IsSomeAnd o (AreQuotasOf d n at) → AreQuotas now.pages (Some at) records
        by_chain None none quotas = absurd quotas
        by_chain (Some cs) some quotas = (
          cs,
          links at cs some quotas,
          are.2 ∙ ap records_of (links_same d.pages at are.0 cs are.1 (links_of d.pages at cs quotas.quotas)),
        )

    pub limits_still : (limits : Owner → Limits) → AreLimits d.pages entry limits → AreLimits now.pages entry limits
    limits_still limits are = record { records = are.records; quotas = quotas_still entry.quota refl are.records are.quotas; each = are.each }
