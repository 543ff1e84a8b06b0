use Rattle.std.proofs.Common.{IsSomeAnd, refl, subst, sym}
use Rattle.domain_memory.specs.page_store.Pages.{Pages}
use Rattle.domain_memory.specs.fileset_files.Pages.{GetsNone}
use Rattle.domain_memory.specs.fileset_files.Together.{AreTogether}
use Rattle.domain_memory.specs.stored_set.Sets.{GetsPage}
use Rattle.domain_memory.proofs.OfStoredSet.Lengthened.{gets_page}
use Rattle.file_changes.proofs.Calls.{err_and, grown}
use Rattle.file_changes.proofs.giving.give_in.Goals as goal

pub returns-in_err-reserve-clause-none : goal.returns-in_err-reserve-clause-none
returns-in_err-reserve-clause-none g c = λ chains together.
    err_and
    (λ fault is.
    grown chains c.args.tag c.args.page (c.requires.grows chains together) (λ chain. GetsNone c.args.page chain c.args.space.now c.args.space.now c.args.cells.now fault)
    (λ chain. subst (GetsNone c.args.page chain c.args.space.now c.args.space.now c.args.cells.now) (sym is) refl))
    c.from_residual.result c.from_residual.ensures.1

pub returns-clause-ok : goal.returns-clause-ok
returns-clause-ok g c = λ chains together.
    let fileset = c.args.files.now.fileset in
    let places = c.args.files.now.tags in
    let space = c.args.space.now in
    let cells = c.args.cells.now in
    let mid = g.M.MetaPages.pages c.reserve.new.self in
    let new = g.M.MetaPages.pages c.put.new.self in
    let again = subst (λ (ps : Pages). AreTogether fileset places space cells ps chains) (sym c.reserve.ensures.same) together in
    subst (λ (ps : Pages). IsSomeAnd (chains c.args.tag) (GetsPage fileset places c.args.tag c.args.page c.args.bytes c.args.prefer c.args.version chains space c.give_page.new.space cells c.give_page.new.cells ps new)) c.reserve.ensures.same
    (gets_page fileset places c.args.tag c.args.page c.args.bytes c.args.prefer c.args.version chains space c.give_page.new.space cells c.give_page.new.cells mid (g.M.MetaPages.pages c.give_page.new.pages) new c.in_ok-home.home
    (chains c.args.tag) (c.in_ok-home.ensures.ok chains again) (c.in_ok-home.ensures.taken chains again) (c.give_page.ensures.others chains again) c.give_page.ensures.elsewhere c.put.ensures.value)
