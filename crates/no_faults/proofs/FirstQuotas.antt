-- What is read of quota cells of what is being removed tells whether they are first ones of its own.
use Rattle.std.proofs.Common.{◌≡◌, ◌∙◌, ◌↔◌, ℕ, ◌<◌, true, false, IsTrue, IsSomeAnd, Option, Some, None, slice_get, refl, sym, ap, subst}
use Rattle.std.proofs.lemmas.Bool.{true≢false}
use Rattle.std.specs.Option.{option_and_then}
use Rattle.domain_memory.specs.domain_base.declared.place.CellAt.{CellAt}
use Rattle.domain_memory.specs.page_store.Pages.{Pages}
use Rattle.domain_memory.specs.cell_records.Fields.{number_at}
use Rattle.domain_memory.specs.metadata_cells.Cell.{IsFileset, kind_number}
use Rattle.domain_memory.specs.metadata_cells.declared.head.CellKind.TheVariants.{Quota}
use Rattle.cell_faults.specs.cell_chains.declared.links.CellLinks.{CellLinks}
use Rattle.cell_faults.specs.Links.{AreLinks, link_in}
use Rattle.cell_faults.specs.cell_chains.Heads.{IsLedTo}
use Rattle.domain_memory.specs.fileset_table.Page.{IsTablePage}
use Rattle.domain_memory.specs.fileset_table.Table.{Table}
use Rattle.domain_memory.specs.fileset_table.declared.slot.SlotItem.{SlotItem}
use Rattle.domain_memory.specs.domain_layout.CellRules.{LeadsTo, Link, next_in}
use Rattle.domain_memory.specs.domain_layout.Faults.{HasNoTablesFault, SaysTable}
use Rattle.domain_memory.specs.domain_layout.Layout.{IsLayout, Layout}
use Rattle.domain_memory.specs.domain_layout.Owners.{frame_of}
use Rattle.domain_memory.specs.domain_layout.TagRules.{quota_of}
use Rattle.domain_memory.proofs.OfDomainLayout.OnePage.{one_of, some_same}
use Rattle.domain_memory.proofs.OfFilesetsReading.Layouts.{few_slots}
use Rattle.no_faults.specs.Attached.{HaveQuotasToGo, IsFirstQuota}
use Rattle.no_faults.specs.Going.{IsFirstRead, NamesFirst}
use Rattle.no_faults.proofs.Begun.{nowhere}
use Rattle.no_faults.proofs.OnTables.{LinkOf, link_there, link_used}
use Rattle.no_faults.proofs.Quotas.{fileset_is}

module _ (pages : Pages) (layout : Layout) (laid : IsLayout pages layout) (none : HasNoTablesFault pages (frame_of layout)) (links : CellLinks) (are : AreLinks pages (frame_of layout) links) where
  led_by : (other onto : CellAt) → LeadsTo pages (frame_of layout) other onto → IsLedTo links onto
  led_by other onto (link, is, kind, next) =
      (other, record { kind = link.kind; next = link.next }, (are other (record { kind = link.kind; next = link.next })).1 is, (kind, next))

  leads_by : (onto : CellAt) → IsLedTo links onto → (other : CellAt) × LeadsTo pages (frame_of layout) other onto
  leads_by onto (other, link, has, leads) = (other, (link_in link, (are other link).0 has, leads.0, leads.1))

  pub first_of : (number : ℕ) (at : CellAt) → IsFirstRead pages links number at → IsFirstQuota pages (frame_of layout) number at
  first_of number at read =
      let link = (are at read.used.0).0 read.used.1 in
      record {
        is = record {
          place = link.place;
          bytes = read.has.bytes;
          there = read.has.there;
          kind = read.has.is.kind ∙ ap kind_number read.kind;
          fileset = subst (IsFileset (number_at 1 14 read.has.bytes)) read.fileset read.has.is.fileset;
        };
        first = λ other leads. read.alone (led_by other at leads);
      }

  pub read_of : (number : ℕ) (at : CellAt) → IsFirstQuota pages (frame_of layout) number at → IsFirstRead pages links number at
  read_of number at first =
      let link : LinkOf pages layout laid none at (record { kind = Quota; next = next_in first.is.bytes }) =
      link_used pages layout laid none at (record { kind = Quota; next = next_in first.is.bytes })
      (record { place = first.is.place; bytes = first.is.bytes; there = first.is.there; kind = first.is.kind; next = refl }) in
      let stands = link.on.stands in
      let bytes : first.is.bytes ≡ stands.bytes = some_same first.is.bytes stands.bytes (sym first.is.there ∙ stands.there) in
      record {
        head = link.cell.head;
        has = record { bytes = stands.bytes; there = stands.there; size = _; is = stands.is.head };
        kind = ap (λ (l : Link). l.kind) link.same;
        fileset = fileset_is (number_at 1 14 stands.bytes) number link.cell.head.fileset stands.is.head.fileset (subst (λ b. IsFileset (number_at 1 14 b) (Some number)) bytes first.is.fileset);
        used = (
          record { kind = link.cell.head.kind; next = link.cell.head.next },
          (are at (record { kind = link.cell.head.kind; next = link.cell.head.next })).1 (link_there pages layout laid none at link.cell link.on),
        );
        alone = λ led. let leads = leads_by at led in first.first leads.0 leads.1;
      }

  says : SaysTable pages (frame_of layout) layout.table
  says =
      let home = one_of layout.anchor.table (λ home. IsSomeAnd (pages home) (λ page. IsTablePage page layout.table)) laid.table in
      record { home = home.value; at = home.there; there = home.is }

  few : (number : ℕ) (at : CellAt) → option_and_then quota_of (slice_get layout.table.slots number) ≡ Some at → number < 32
  few number at named = by_item (slice_get layout.table.slots number) refl named
    where
      by_item : (o : Option SlotItem) → slice_get layout.table.slots number ≡ o → option_and_then quota_of o ≡ Some at → number < 32
      by_item None there is = nowhere at is
      by_item (Some item) there is = few_slots pages (frame_of layout) layout.table says number item there

  all_named : ((number : ℕ) → number < 32 → NamesFirst pages links layout.table number) → HaveQuotasToGo pages (frame_of layout) layout.table
  all_named each number at removed named = first_of number at (each number (few number at named) at removed named)

  each_named : HaveQuotasToGo pages (frame_of layout) layout.table → (number : ℕ) → NamesFirst pages links layout.table number
  each_named all number at removed named = read_of number at (all number at removed named)

  module _ (table : Table) (same : layout.table ≡ table) where
    -- all slots do, or one does not
    pub all_do : ((number : ℕ) → number < 32 → NamesFirst pages links table number) → IsTrue true ↔ HaveQuotasToGo pages (frame_of layout) table
    all_do each = (
      (λ done. subst (HaveQuotasToGo pages (frame_of layout)) same (all_named (subst (λ t. (number : ℕ) → number < 32 → NamesFirst pages links t number) (sym same) each))),
      (λ all. refl),
    )

    pub one_does_not : (number : ℕ) → ¬ NamesFirst pages links table number → IsTrue false ↔ HaveQuotasToGo pages (frame_of layout) table
    one_does_not number other = (
      (λ wrong. absurd (true≢false (sym wrong))),
      (λ all. absurd (other (subst (λ t. NamesFirst pages links t number) same (each_named (subst (HaveQuotasToGo pages (frame_of layout)) (sym same) all) number)))),
    )
