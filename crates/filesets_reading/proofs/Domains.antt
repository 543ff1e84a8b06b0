-- What is in each slot of a domain's table may have its files.
use Rattle.std.proofs.Common.{◌≡◌, ℕ, ◌^◌, ◌<◌, ◌≤◌, List, Option, Some, None, IsSomeAnd, length, slice_get, sym, ap, subst, arith}
use Rattle.std.proofs.lemmas.Option.{slice_get_within}
use Rattle.domain_layout.specs.domain_base.declared.place.Home.{Home}
use Rattle.domain_layout.specs.log_ring.Homes.{IsMember, member_of}
use Rattle.domain_layout.specs.page_store.Pages.{Pages}
use Rattle.domain_layout.specs.tag_dirs.declared.dir.TagPlace.{TagPlace}
use Rattle.domain_layout.specs.tag_dirs.Directory.{IsDirectoryAt}
use Rattle.domain_layout.specs.fileset_table.Page.{IsTablePage}
use Rattle.domain_layout.specs.fileset_table.Table.{Table}
use Rattle.domain_layout.specs.fileset_table.declared.slot.SlotItem.{SlotItem}
use Rattle.domain_layout.specs.Faults.{HasNoExtentFault}
use Rattle.domain_layout.specs.Layout.{AreTagPlaces, first_tag_of}
use Rattle.domain_layout.specs.Reached.{Frame}
use Rattle.filesets_reading.specs.Chains.{MayHaveFiles}
use Rattle.filesets_reading.specs.Tables.{AreTablesOf}
use Rattle.filesets_reading.specs.declared.tables.DomainTables.{DomainTables}

pub may_have : (pages : Pages) (frame : Frame) (tables : DomainTables) → AreTablesOf pages frame tables → HasNoExtentFault pages frame
    → (number : ℕ) (item : SlotItem) (first : Home) (places : List TagPlace) → slice_get tables.filesets.slots number ≡ Some item → first_tag_of item ≡ Some first
    → slice_get tables.tags.items number ≡ Some places → MayHaveFiles pages number places
may_have pages frame tables are none number item first places there has at = record {
  layout = are.layout;
  laid = are.laid;
  no_fault = subst (HasNoExtentFault pages) (sym are.is) none;
  small = λ vol member. subst (λ (f : Frame). IsMember f.anchor vol → (member_of f.anchor vol).pages ≤ 2 ^ 32) (sym are.is) (are.small vol) member;
  first = first;
  has = record { item = item; there = slot; has = has };
  directory = subst (IsDirectoryAt pages first) (are.tags number places at) (subst (λ o. AreTagPlaces pages o (are.layout.tags number)) has (are.laid.tags number item slot));
}
  where
    slot : slice_get are.layout.table.slots number ≡ Some item
    slot = subst (λ (t : Table). slice_get t.slots number ≡ Some item) (sym are.table) there

-- a table has 32 slots
pub few_of : (pages : Pages) (frame : Frame) (tables : DomainTables) → AreTablesOf pages frame tables → (number : ℕ) (item : SlotItem) → slice_get tables.filesets.slots number ≡ Some item → number < 32
few_of pages frame tables are number item there = by_home are.layout.anchor.table are.laid.table
  where
    whole : (page : List ℕ) → IsTablePage page are.layout.table → number < 32
    whole page is =
        omega (arith, slice_get_within tables.filesets.slots number item there, is.slots.whole, ap (λ (t : Table). length t.slots) are.table)

    by_page : (o : Option (List ℕ)) → IsSomeAnd o (λ page. IsTablePage page are.layout.table) → number < 32
    by_page None is = absurd is
    by_page (Some page) is = whole page is

    by_home : (o : Option Home) → IsSomeAnd o (λ home. IsSomeAnd (pages home) (λ page. IsTablePage page are.layout.table)) → number < 32
    by_home None is = absurd is
    by_home (Some home) is = by_page (pages home) is
