use Rattle.release_list.proofs.QuotaCells.{of_quotas}
use Rattle.release_list.proofs.entries.release_entry.Goals as goal

pub release_quotas-requires : goal.release_quotas-requires
release_quotas-requires g c =
    let pages = g.M.MetaPages.pages c.args.pages.now in
    let w = c.requires.well in
    record {
      well = (w.0, w.1, w.2, c.args.space.now, of_quotas w.0 w.1 w.2 c.args.entry.now c.args.space.now c.args.cells.now pages w.3 (λ chain stands. c.is_of_quotas.ensures.quotas chain stands c.if-is_of_quotas.true));
    }

pub returns-then-is_of_quotas-clause-ok : goal.returns-then-is_of_quotas-clause-ok
returns-then-is_of_quotas-clause-ok g c = λ list front files has.
    let pages = g.M.MetaPages.pages c.args.pages.now in
    c.in_ok-went.ensures.ok c.args.group c.args.version list front files c.args.space.now
    (of_quotas list front files c.args.entry.now c.args.space.now c.args.cells.now pages has (λ chain stands. c.is_of_quotas.ensures.quotas chain stands c.if-is_of_quotas.true))
