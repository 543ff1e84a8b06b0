-- The rules read nothing of a domain that was just made for which it is not attached.
use Rattle.std.proofs.Common.{◌≡◌, ◌∙◌, ℕ, false, Option, Some, None, IsSomeAnd, slice_get, refl, sym, ap, subst}
use Rattle.std.specs.Option.{option_and_then}
use Rattle.no_faults.specs.domain_base.declared.place.CellAt.{CellAt}
use Rattle.no_faults.specs.domain_base.declared.place.Home.{Home}
use Rattle.no_faults.specs.domain_base.declared.place.Tag.{Tag}
use Rattle.no_faults.specs.page_store.Pages.{Pages}
use Rattle.no_faults.specs.metadata_cells.Cell.{Cell}
use Rattle.no_faults.specs.metadata_cells.declared.head.CellKind.TheVariants.{Primary, Volume}
use Rattle.no_faults.specs.fileset_table.Page.{IsTablePage}
use Rattle.no_faults.specs.fileset_table.Table.{IsNewTable, Table}
use Rattle.no_faults.specs.fileset_table.declared.slot.SlotItem.{SlotItem}
use Rattle.no_faults.specs.fileset_table.declared.slot.SlotItem.TheVariants as slot
use Rattle.no_faults.proofs.OfFilesetTable.Unique.{table_unique}
use Rattle.no_faults.specs.domain_layout.CellRules.{IsUsed, of_clone}
use Rattle.no_faults.specs.domain_layout.Faults.{SaysTable}
use Rattle.no_faults.specs.domain_layout.Layout.{first_tag_of}
use Rattle.no_faults.specs.domain_layout.Reached.{Frame}
use Rattle.no_faults.specs.domain_layout.TagRules.{HasEntry, quota_of}
use Rattle.no_faults.specs.domain_layout.NewDomain.{IsNew, IsNewCells, IsNewTablePage, firsts, on_first}
use Rattle.no_faults.proofs.OfDomainLayout.NewCells.{used_is}
use Rattle.no_faults.proofs.OfDomainLayout.NewDomain.{cells}
use Rattle.no_faults.proofs.OfDomainLayout.NewTags.{all_free}
use Rattle.no_faults.proofs.OfDomainLayout.OnePage.{HasOne, one_of, some_same}
use Rattle.attached_domain.proofs.NoCause.{ReadsFit}

none_some : {P X : Type 0} (x : X) → None ≡ Some x → P
none_some x is = absurd (let e : None ≡ Some x = is in cc)

module _ (pages : Pages) (frame : Frame) (new : IsNew pages frame) (table : Table) (says : SaysTable pages frame table) where
  first : HasOne (pages (on_first (firsts frame).cells)) (IsNewCells frame)
  first = cells pages frame new

  is_volume : (at : CellAt) (cell : Cell) → IsUsed pages frame at cell → cell.head.kind ≡ Volume
  is_volume at cell used = ap (λ (c : Cell). c.head.kind) (used_is pages frame new.anchor first.value first.there first.is at cell used) ∙ first.is.says.kind

  no_primary : (at : CellAt) (cell : Cell) → IsUsed pages frame at cell → ¬ cell.head.kind ≡ Primary
  no_primary at cell used primary = let e : Volume ≡ Primary = sym (is_volume at cell used) ∙ primary in absurd (cc)

  -- the table is a new one
  fresh : IsNewTable table
  fresh =
      let said : HasOne (pages (on_first (firsts frame).table)) IsNewTablePage = one_of (pages (on_first (firsts frame).table)) IsNewTablePage new.table in
      let same : says.home ≡ on_first (firsts frame).table = some_same says.home (on_first (firsts frame).table) (sym says.at ∙ new.anchor.table) in
      let there : IsTablePage said.value table = subst (λ o. IsSomeAnd o (λ page. IsTablePage page table)) (ap pages same ∙ said.there) says.there in
      subst IsNewTable (sym (table_unique said.value table said.is.table there said.is.says)) said.is.fresh

  is_free : (number : ℕ) (item : SlotItem) → slice_get table.slots number ≡ Some item → item ≡ slot.Free
  is_free = all_free table fresh

  no_clone : (number : ℕ) → of_clone (slice_get table.slots number) ≡ false
  no_clone number = by_item (slice_get table.slots number) refl
    where
      by_item : (o : Option SlotItem) → slice_get table.slots number ≡ o → of_clone o ≡ false
      by_item None there = refl
      by_item (Some item) there = ap (λ i. of_clone (Some i)) (is_free number item there)

  no_quota : (number : ℕ) (at : CellAt) → ¬ option_and_then quota_of (slice_get table.slots number) ≡ Some at
  no_quota number at = by_item (slice_get table.slots number) refl
    where
      by_item : (o : Option SlotItem) → slice_get table.slots number ≡ o → ¬ option_and_then quota_of o ≡ Some at
      by_item None there named = none_some at named
      by_item (Some item) there named = none_some at (sym (ap quota_of (is_free number item there)) ∙ named)

  no_entry : {P : Type 0} (number : ℕ) (tag : Tag) (at : CellAt) (home : Home) → HasEntry pages frame table number tag at home → P
  no_entry number tag at home has = let tags = has.is.has in none_some has.is.first (sym (ap first_tag_of (is_free number tags.item tags.there)) ∙ tags.has)

  pub new_fits : ReadsFit pages frame table
  new_fits = record {
    no_clone = no_clone;
    sources = λ at cell used primary says. no_primary at cell used primary;
    quotas = λ number at removed named. absurd (no_quota number at named);
    stay = λ number tag at home has cell used. no_entry number tag at home has;
    keep = λ number entry there tag at home has cell used. no_entry number tag at home has;
  }
