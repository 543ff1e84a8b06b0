-- Where the tables of a domain stand, its fileset table stands where it may, and is one; and all pages that say one say it.
use Rattle.std.proofs.Common.{◌≡◌, ◌∙◌, Some, IsSomeAnd, sym, subst, ⊎_elim}
use Rattle.domain_memory.specs.domain_base.declared.place.Home.{Home}
use Rattle.domain_memory.specs.fileset_table.Page.{IsTablePage}
use Rattle.domain_memory.specs.fileset_table.Table.{Table}
use Rattle.domain_memory.proofs.OfFilesetTable.Unique.{table_unique}
use Rattle.domain_memory.specs.domain_layout.Faults.{IsTableFault, SaysTable}
use Rattle.domain_memory.proofs.OfDomainLayout.OnePage.{HasOne, one_of, some_same}
use Rattle.domain_memory.specs.domain_standing.Domain.{DomainNow}
use Rattle.domain_memory.specs.domain_standing.Tables.{StandTables}

table_at : (d : DomainNow) → StandTables d → HasOne d.frame.anchor.table (λ home. IsSomeAnd (d.pages home) (λ page. IsTablePage page d.table))
table_at d stands = one_of d.frame.anchor.table (λ home. IsSomeAnd (d.pages home) (λ page. IsTablePage page d.table)) stands.laid.table

-- the page at that home says the table
says_there : (d : DomainNow) (home : Home) → StandTables d → d.frame.anchor.table ≡ Some home → IsSomeAnd (d.pages home) (λ page. IsTablePage page d.table)
says_there d home stands at =
    let one = table_at d stands in
    subst (λ h. IsSomeAnd (d.pages h) (λ page. IsTablePage page d.table)) (some_same one.value home (sym one.there ∙ at)) one.is

pub no_table : (d : DomainNow) (home : Home) → StandTables d → ¬ IsTableFault d.pages d.frame home
no_table d home stands fault =
    ⊎_elim (λ reserved. (stands.may home fault.at).1 reserved) (λ none. none d.table (says_there d home stands fault.at)) fault.wrong

-- a table that is said is the domain's
pub table_is : (d : DomainNow) → StandTables d → (table : Table) → SaysTable d.pages d.frame table → table ≡ d.table
table_is d stands table says =
    let one = one_of (d.pages says.home) (λ page. IsTablePage page d.table) (says_there d says.home stands says.at) in
    table_unique one.value table d.table (subst (λ o. IsSomeAnd o (λ page. IsTablePage page table)) one.there says.there) one.is
