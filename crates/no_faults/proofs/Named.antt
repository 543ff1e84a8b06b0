-- Each chain of a domain that was read is somebody's: of a tag's file, of one that is to be removed, or of a slot's quota cells.
use Rattle.std.proofs.Common.{◌≡◌, ◌∙◌, inl, inr, ℕ, true, false, List, Option, Some, None, refl, sym, ap, subst, arith, ⊎_elim}
use Rattle.std.proofs.lemmas.Bool.{cases_Bool, true≢false}
use Rattle.std.specs.Option.{option_and_then, option_map_or}
use Rattle.domain_memory.specs.domain_base.declared.place.CellAt.{CellAt}
use Rattle.domain_memory.specs.domain_base.declared.place.Home.{Home}
use Rattle.domain_memory.specs.domain_base.declared.place.Tag.{Tag}
use Rattle.domain_memory.specs.cell_records.Fields.{number_at}
use Rattle.domain_memory.specs.cell_records.declared.record.Leftover.TheVariants.{Remove, Trim}
use Rattle.domain_memory.specs.cell_records.declared.record.Record.{Record}
use Rattle.domain_memory.specs.cell_records.declared.record.Record.TheVariants as written
use Rattle.domain_memory.specs.metadata_cells.Cell.{Cell, IsFileset, kind_number, record_of}
use Rattle.domain_memory.specs.metadata_cells.CellPage.{home_of}
use Rattle.domain_memory.specs.metadata_cells.Chain.{PlacedCell}
use Rattle.domain_memory.specs.metadata_cells.declared.head.CellKind.TheVariants as kinds
use Rattle.domain_memory.proofs.OfMetadataCells.Unique.{one_stands}
use Rattle.domain_memory.specs.tag_dirs.Directory.{IsDirectoryAt, cell_of}
use Rattle.domain_memory.specs.fileset_files.Files.{first_record, is_removed, says_remove}
use Rattle.domain_memory.specs.release_list.Listed.{leftover_in}
use Rattle.domain_memory.specs.domain_layout.CellRules.{IsLink, IsUsed, say_removed}
use Rattle.domain_memory.specs.domain_layout.Layout.{AreTagPlaces}
use Rattle.domain_memory.specs.domain_layout.Owners.{IsOnTable, frame_of}
use Rattle.domain_memory.specs.domain_layout.TagRules.{HasEntry, IsFirstOf}
use Rattle.domain_memory.proofs.OfDomainLayout.Named.{link_to}
use Rattle.domain_memory.proofs.OfDomainLayout.OnePage.{some_same}
use Rattle.domain_memory.proofs.OfDomainLayout.OwnedOnce.{no_tags}
use Rattle.domain_memory.proofs.OfFilesetShapes.Roots.{entry_leads}
use Rattle.domain_memory.specs.domain_standing.Chains.{IsQuotaOf, IsSomebodys, IsTagged}
use Rattle.domain_memory.specs.domain_standing.Domain.{DomainNow, layout_of}
use Rattle.no_faults.specs.Attached.{IsReadFrom}
use Rattle.no_faults.proofs.Begun.{is_there_or_not}
use Rattle.no_faults.proofs.Domain.{Chain, chain_at, files, tables}
use Rattle.no_faults.proofs.Listed.{first_is}
use Rattle.no_faults.proofs.OnTables.{link_there}

-- what is left of a file that is to be removed
remove_left : (o : Option Record) → option_map_or says_remove o false ≡ true → option_and_then leftover_in o ≡ Some Remove
remove_left None says = absurd (true≢false (sym says))
remove_left (Some (written.Pending Remove)) says = refl
remove_left (Some (written.Pending Trim)) says = absurd (true≢false (sym says))
remove_left (Some r) says = absurd (true≢false (sym says))

same_fileset : (n a b : ℕ) → IsFileset n (Some a) → IsFileset n (Some b) → a ≡ b
same_fileset n a b one other = omega (arith, one.0, other.0)

no_fileset : (n number : ℕ) → IsFileset n None → ¬ IsFileset n (Some number)
no_fileset n number none some = omega (arith, none, some.0)

module _ (d : DomainNow) (is : IsReadFrom d) where
  -- an entry that leads to a cell is that of its tag
  entry_of : (number : ℕ) (tag : Tag) (at : CellAt) (home : Home) → HasEntry d.pages (frame_of (layout_of d)) d.table number tag at home → cell_of d.pages (d.tags number) tag ≡ Some at
  entry_of number tag at home has =
      let stands : IsDirectoryAt d.pages has.is.first (d.tags number) =
      subst (λ o. AreTagPlaces d.pages o (d.tags number)) has.is.has.has (is.tables.laid.tags number has.is.has.item has.is.has.there) in
      entry_leads d.pages (frame_of (layout_of d)) has.is.first (d.tags number) stands tag at home has.page has.is.read.passed has.is.read.reached has.is.read.there
      has.entry has.within has.slot has.used

  module _ (at : CellAt) (cell : Cell) (on : IsOnTable d.pages (layout_of d) at cell) (kind : cell.head.kind ≡ kinds.Primary) (stays : say_removed cell.records ≡ false) where
    link : IsLink d.pages (frame_of (layout_of d)) at (link_to cell)
    link = link_there d.pages (layout_of d) is.tables.laid (tables d is) at cell on

    used_stays : (other : Cell) → IsUsed d.pages (frame_of (layout_of d)) at other → say_removed other.records ≡ false
    used_stays other used = subst (λ (c : Cell). say_removed c.records ≡ false) (one_stands d.pages at cell other on.stands used.stands) stays

    -- some entry leads to it
    is_named : ¬ ((number : ℕ) (tag : Tag) (home : Home) → IsFirstOf d.pages (frame_of (layout_of d)) number tag at → ¬ HasEntry d.pages (frame_of (layout_of d)) d.table number tag at home)
    is_named unnamed =
        no_tags d.pages (layout_of d) is.tables.laid (tables d is) (home_of at) (inr (inr (inr (inr (inr (inl (
          at,
          refl,
          inl (record {
            place = link.place;
            bytes = link.bytes;
            there = link.there;
            kind = link.kind ∙ ap kind_number kind;
            stays = used_stays;
            unnamed = unnamed;
          }),
        )))))))

    bytes_are : (number : ℕ) (tag : Tag) (f : IsFirstOf d.pages (frame_of (layout_of d)) number tag at) → f.bytes ≡ on.stands.bytes
    bytes_are number tag f = some_same f.bytes on.stands.bytes (sym f.there ∙ on.stands.there)

    -- which tag's file it is
    own_tag : Tag
    own_tag = record { slot = cell.head.slot; seq = cell.head.seq }

    same_tag_as : (number : ℕ) (tag : Tag) → IsFirstOf d.pages (frame_of (layout_of d)) number tag at → tag ≡ own_tag
    unfolding own_tag
    same_tag_as number tag f =
        let bytes = bytes_are number tag f in
        let slot : tag.slot ≡ cell.head.slot = sym f.slot ∙ ap (number_at 4 8) bytes ∙ sym on.stands.is.head.slot in
        let seq : tag.seq ≡ cell.head.seq = sym f.seq ∙ ap (number_at 2 12) bytes ∙ sym on.stands.is.head.seq in
        (λ i. record { slot = slot i; seq = seq i })

    says_fileset : (number : ℕ) (tag : Tag) → IsFirstOf d.pages (frame_of (layout_of d)) number tag at → IsFileset (number_at 1 14 on.stands.bytes) (Some number)
    says_fileset number tag f = subst (λ b. IsFileset (number_at 1 14 b) (Some number)) (bytes_are number tag f) f.fileset

    tagged_in : (number : ℕ) → cell.head.fileset ≡ Some number → IsTagged d at
    tagged_in number fileset =
        ⊎_elim (λ leads. (number, own_tag, leads))
        (λ apart. absurd (is_named (λ n tag home f has.
        let same : n ≡ number = same_fileset (number_at 1 14 on.stands.bytes) n number (says_fileset n tag f) (subst (IsFileset (number_at 1 14 on.stands.bytes)) fileset on.stands.is.head.fileset) in
        apart (subst (λ m. cell_of d.pages (d.tags m) own_tag ≡ Some at) same (subst (λ t. cell_of d.pages (d.tags n) t ≡ Some at) (same_tag_as n tag f) (entry_of n tag at home has))))))
        (is_there_or_not (cell_of d.pages (d.tags number) own_tag) at)

    tagged : IsTagged d at
    tagged = by_fileset cell.head.fileset refl
      where
        by_fileset : (o : Option ℕ) → cell.head.fileset ≡ o → IsTagged d at
        by_fileset None none = absurd (is_named (λ n tag home f has.
            no_fileset (number_at 1 14 on.stands.bytes) n (subst (IsFileset (number_at 1 14 on.stands.bytes)) none on.stands.is.head.fileset) (says_fileset n tag f)))
        by_fileset (Some number) some = tagged_in number some

  pub somebodys : (at : CellAt) (chain : List PlacedCell) → files d is at ≡ Some chain → IsSomebodys d at chain
  somebodys at chain there = ⊎_elim of_file (λ quota. inr (inr (subst (λ a. (number : ℕ) × IsQuotaOf d number a) c.at_is quota.1))) c.begun.kind
    where
      c : Chain d is at chain
      c = chain_at d is at chain there

      on : IsOnTable d.pages (layout_of d) at c.begun.cell
      on = subst (λ a. IsOnTable d.pages (layout_of d) a c.begun.cell) c.at_is c.begun.on

      says : (k : ℕ) → first_record k chain ≡ record_of k c.begun.cell.records
      says k = first_is d is at chain there c.begun.cell on k

      of_file : c.begun.cell.head.kind ≡ kinds.Primary → IsSomebodys d at chain
      of_file primary =
          ⊎_elim (λ removed. inr (inl (remove_left (first_record 6 chain) removed)))
          (λ stays. inl (tagged at c.begun.cell on primary (sym (ap (λ o. option_map_or says_remove o false) (says 6)) ∙ stays)))
          (cases_Bool (is_removed chain))
