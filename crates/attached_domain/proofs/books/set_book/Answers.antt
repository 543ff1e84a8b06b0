use Rattle.std.proofs.Common.{◌≡◌, ◌∙◌, Option, Some, slice_get, ap, sym, subst}
use Rattle.no_faults.specs.fileset_table.declared.slot.SlotItem.TheVariants as slot
use Rattle.no_faults.specs.domain_memory.declared.slots.SlotFiles.{SlotFiles}
use Rattle.attached_domain.specs.Parts.{GetsItsBook}
use Rattle.attached_domain.proofs.TheirBooks.{gets}
use Rattle.attached_domain.proofs.books.set_book.Goals as goal

pub returns-in-Some : goal.returns-in-Some
returns-in-Some g c =
    let pages = g.M.MetaPages.pages c.args.pages.now in
    let table = c.args.tables.now.filesets in
    let files = c.in-Some.files in
    let book = c.in_ok-book.book in
    let there : slice_get table.slots c.args.number ≡ Some (slot.Original c.in-Original.entry) = c.slot.ensures.value ∙ ap Some c.in-Original.is in
    subst (λ (o : Option SlotFiles). GetsItsBook pages table c.args.number o (Some (record { files = files.files; book = book; tag_pages = files.tag_pages }))) (sym c.in-Some.is)
    (gets pages table c.args.number c.in-Original.entry there files book c.in_ok-book.ensures.kept c.in_ok-book.ensures.book)
