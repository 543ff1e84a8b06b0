use Rattle.std.proofs.Common.{subst, ⊎_elim}
use Rattle.file_changes.specs.Looking.{IsAtPage}
use Rattle.file_changes.specs.declared.looking.FilePage.TheVariants.{Closed, Lacking, NoFile}
use Rattle.file_changes.proofs.Asks.{some_files}
use Rattle.file_changes.proofs.Opened.{open_not_closed}
use Rattle.file_changes.proofs.Wanted.{wants_at}
use Rattle.file_changes.proofs.writing.place_page.Goals as goal

pub unreachable-requires : goal.unreachable-requires
unreachable-requires c =
    let memory = c.args.memory.now in
    let f = some_files memory c.args.number c.requires.stands c.requires.back c.requires.original in
    ⊎_elim
    (λ closed. let is : IsAtPage memory c.args.number c.args.tag c.args.page Closed = subst (IsAtPage memory c.args.number c.args.tag c.args.page) closed c.look_at_page.ensures in open_not_closed c.args.tag c.args.page f.0 (c.requires.writable f.0 f.1) (is.1 f.0 f.1))
    (λ none. let is : IsAtPage memory c.args.number c.args.tag c.args.page NoFile = subst (IsAtPage memory c.args.number c.args.tag c.args.page) none c.look_at_page.ensures in is f.0 f.1 (c.requires.file f.0 f.1))
    c.in-Closed.is

pub returns-in-Lacking-clause-cause : goal.returns-in-Lacking-clause-cause
returns-in-Lacking-clause-cause c =
    let memory = c.args.memory.now in
    let is : IsAtPage memory c.args.number c.args.tag c.args.page Lacking = subst (IsAtPage memory c.args.number c.args.tag c.args.page) c.in-Lacking.is c.look_at_page.ensures in
    wants_at memory c.args.number c.args.tag c.args.page is.1 c.give_page.result c.give_page.ensures.cause
