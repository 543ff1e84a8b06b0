use Rattle.std.proofs.Common.{◌∙◌, List, OnOk, IfSome, ap, subst, sym}
use Rattle.fileset_files.specs.metadata_cells.Chain.{PlacedCell}
use Rattle.fileset_files.specs.file_chains.FileChanges.{AreOnTables}
use Rattle.fileset_files.specs.file_chains.Files.{places_of}
use Rattle.file_release.specs.Steps.{HandsOver}
use Rattle.fileset_files.proofs.Given.{one_file}
use Rattle.file_release.proofs.Passed.{on_three, reader_is}
use Rattle.file_release.proofs.releasing.hand_over.Goals as goal

pub put_page-requires-clause-tables : goal.put_page-requires-clause-tables
put_page-requires-clause-tables g c = λ chain is.
    let pages = g.M.MetaPages.pages c.args.pages.now in
    let own = c.requires.may.0 in
    let may = c.requires.may.1 in
    subst (AreOnTables c.args.cells.now) (one_file pages c.in-Some.reader.at own chain (reader_is pages c.args.reader.now c.in-Some.reader c.args.page c.args.cells.now own c.in-Some.is may) is) may.on_tables

pub put_page-requires-clause-absent : goal.put_page-requires-clause-absent
put_page-requires-clause-absent g c = λ chain is.
    let pages = g.M.MetaPages.pages c.args.pages.now in
    let own = c.requires.may.0 in
    let may = c.requires.may.1 in
    ap (λ (cs : List PlacedCell). places_of cs c.args.page) (one_file pages c.in-Some.reader.at chain own is (reader_is pages c.args.reader.now c.in-Some.reader c.args.page c.args.cells.now own c.in-Some.is may)) ∙ may.absent

pub returns-in-Some-clause-ok : goal.returns-in-Some-clause-ok
returns-in-Some-clause-ok g c = λ own may.
    let old = g.M.MetaPages.pages c.args.pages.now in
    let new = g.M.MetaPages.pages c.put_page.new.pages in
    let is = reader_is old c.args.reader.now c.in-Some.reader c.args.page c.args.cells.now own c.in-Some.is may in
    subst
    (λ o. OnOk c.put_page.result (IfSome o (λ r. HandsOver c.args.page c.args.home r.at own c.args.version c.args.space.now c.put_page.new.space c.args.cells.now c.put_page.new.cells old new)))
    (sym c.in-Some.is)
    (on_three c.put_page.result (λ changes taken few. record { changes = changes; taken = taken; others = c.put_page.ensures.others own is; elsewhere = c.put_page.ensures.elsewhere; few = few }) (c.put_page.ensures.ok own is) (c.put_page.ensures.taken own is) c.put_page.ensures.few)

pub returns-in-Some-clause-others : goal.returns-in-Some-clause-others
returns-in-Some-clause-others g c = λ own may.
    c.put_page.ensures.others own (reader_is (g.M.MetaPages.pages c.args.pages.now) c.args.reader.now c.in-Some.reader c.args.page c.args.cells.now own c.in-Some.is may)
