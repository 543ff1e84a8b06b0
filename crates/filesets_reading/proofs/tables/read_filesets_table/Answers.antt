use Rattle.std.proofs.Common.{◌≡◌, ◌∙◌, Err, None, Some, IsSomeAnd, sym, ap, subst}
use Rattle.std.specs.Option.{option_copied}
use Rattle.domain_layout.specs.fileset_table.Page.{IsTablePage}
use Rattle.domain_layout.specs.fileset_table.Reading.{Reads}
use Rattle.domain_layout.specs.fileset_table.Table.{Table}
use Rattle.filesets_reading.proofs.Layouts.{no_table_page}
use Rattle.filesets_reading.proofs.tables.read_filesets_table.Goals as goal

pub unreachable-requires-in_default-get : goal.unreachable-requires-in_default-get
unreachable-requires-in_default-get g c =
    let pages = g.M.MetaPages.pages c.args.pages.now in
    let gone : pages c.in-Some.home ≡ None = sym c.get.ensures ∙ ap option_copied c.in_default-get.is in
    no_table_page pages c.args.anchor.now c.args.version c.in-Some.home c.in-Some.is c.requires.no_fault
    (λ (table : Table) (there : IsSomeAnd (pages c.in-Some.home) (λ page. IsTablePage page table)). subst (λ o. IsSomeAnd o (λ page. IsTablePage page table)) gone there)

pub unreachable-requires-in-Err-Bad : goal.unreachable-requires-in-Err-Bad
unreachable-requires-in-Err-Bad g c =
    let pages = g.M.MetaPages.pages c.args.pages.now in
    let there : pages c.in-Some.home ≡ Some c.in-Some-get.page.now = sym c.get.ensures ∙ ap option_copied c.in-Some-get.is in
    let none = subst (Reads (IsTablePage c.in-Some-get.page.now)) (c.in-Err-Bad.is ∙ ap Err c.in-Err-Bad.field-0-is) c.read.ensures in
    no_table_page pages c.args.anchor.now c.args.version c.in-Some.home c.in-Some.is c.requires.no_fault
    (λ (table : Table) (said : IsSomeAnd (pages c.in-Some.home) (λ page. IsTablePage page table)). none table (subst (λ o. IsSomeAnd o (λ page. IsTablePage page table)) there said))
