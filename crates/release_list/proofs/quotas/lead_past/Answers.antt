use Rattle.std.proofs.Common.{◌<◌, IfSome, subst, sym}
use Rattle.file_release.specs.domain_base.declared.place.CellAt.{CellAt}
use Rattle.file_release.proofs.Stepped.{writable}
use Rattle.file_release.proofs.Used.{some_used}
use Rattle.release_list.proofs.quotas.lead_past.Goals as goal

pub unwrap-used-requires : goal.unwrap-used-requires
unwrap-used-requires g c = some_used (g.M.MetaPages.pages c.args.pages.now) c.args.at.now c.in_ok-read_used.field-0 c.in_ok-read_used.ensures.none c.requires.first.0 c.requires.first.1

pub write_cell-requires-clause-next : goal.write_cell-requires-clause-next
write_cell-requires-clause-next g c =
    let gone = c.requires.next in
    subst (λ o. IfSome o (λ (at : CellAt). at.cell < 28)) (sym (c.next_cell.ensures.next gone.0 gone.1)) (writable (g.M.MetaPages.pages c.args.pages.now) c.args.next.now gone.0 gone.1).next
