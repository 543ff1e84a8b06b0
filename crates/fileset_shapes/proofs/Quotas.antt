-- The chain of quota cells that a slot names.
use Rattle.std.proofs.Common.{◌≡◌, inl, inr, List, Option, Some, None, IsSomeAnd, refl, sym, subst}
use Rattle.filesets_reading.specs.domain_base.declared.place.CellAt.{CellAt}
use Rattle.filesets_reading.specs.domain_base.declared.place.Home.{Home}
use Rattle.filesets_reading.specs.page_store.Pages.{Pages}
use Rattle.filesets_reading.specs.cell_records.declared.record.Record.{Record}
use Rattle.filesets_reading.specs.metadata_cells.Chain.{IsBroken}
use Rattle.filesets_reading.specs.metadata_cells.Reading.{ReadsChain}
use Rattle.filesets_reading.specs.metadata_cells.declared.head.CellKind.TheVariants.{Quota}
use Rattle.filesets_reading.proofs.OfMetadataCells.Linked.{linked}
use Rattle.filesets_reading.specs.fileset_table.Page.{IsTablePage}
use Rattle.filesets_reading.specs.fileset_table.declared.slot.FilesetEntry.{FilesetEntry}
use Rattle.filesets_reading.specs.fileset_table.declared.slot.SlotItem.TheVariants as slot
use Rattle.filesets_reading.specs.domain_layout.CellRules.{IsChainHead, Link, next_in}
use Rattle.filesets_reading.specs.domain_layout.Owners.{frame_of}
use Rattle.filesets_reading.specs.domain_layout.Shape.{AreQuotas}
use Rattle.filesets_reading.specs.domain_layout.TagRules.{IsWrongSlot}
use Rattle.filesets_reading.proofs.OfDomainLayout.OwnedOnce.{no_tags}
use Rattle.filesets_reading.proofs.Unbroken.{head_unbroken}
use Rattle.fileset_shapes.specs.Limits.{IsInSlot}

module _ (pages : Pages) (entry : FilesetEntry) (is : IsInSlot pages entry) where
  no_wrong_slot : ¬ IsWrongSlot pages (frame_of is.layout) is.layout.table
  no_wrong_slot wrong = by_home is.layout.anchor.table refl is.laid.table
    where
      by_home : (o : Option Home) → is.layout.anchor.table ≡ o → IsSomeAnd o (λ home. IsSomeAnd (pages home) (λ page. IsTablePage page is.layout.table)) → ⊥
      by_home None at there = absurd there
      by_home (Some home) at there = no_tags pages is.layout is.laid is.no_fault home (inr (inr (inr (inr (inr (inr (at, wrong)))))))

  begins : (at : CellAt) → entry.quota ≡ Some at → ¬ ¬ ((link : Link) × IsChainHead pages (frame_of is.layout) at link)
  begins at quota away =
      no_wrong_slot (record {
        number = is.number;
        item = is.item;
        there = is.there;
        wrong = inr (record {
          entry = entry;
          is = is.is;
          at = at;
          named = quota;
          wrong = inl (λ first. away (
            record { kind = Quota; next = next_in first.bytes },
            (
              record { place = first.place; bytes = first.bytes; there = first.there; kind = first.kind; next = refl },
              inr (
                refl,
                λ other leads. no_wrong_slot (record {
                  number = is.number;
                  item = is.item;
                  there = is.there;
                  wrong = inr (record { entry = entry; is = is.is; at = at; named = quota; wrong = inr (other, leads) });
                }),
              ),
            ),
          ));
        });
      })

  pub quotas_unbroken : (at : CellAt) → entry.quota ≡ Some at → (broken : CellAt) → ¬ IsBroken pages at broken
  quotas_unbroken at quota = head_unbroken pages is.layout is.laid is.no_fault at (begins at quota)

pub quotas_read : (pages : Pages) (quota : Option CellAt) (at : CellAt) (records : List Record) → quota ≡ Some at → ReadsChain pages at records → AreQuotas pages quota records
quotas_read pages quota at records same read = subst (λ o. AreQuotas pages o records) (sym same) (read.0, linked pages at read.0 read.1, read.2)
