use Rattle.std.proofs.Common.{◌∙◌, Option, ap, subst, sym, unwrap_or}
use Rattle.fileset_files.specs.domain_base.declared.place.CellAt.{CellAt}
use Rattle.fileset_files.specs.metadata_cells.Chain.{StandsAt}
use Rattle.file_release.proofs.stale.cell_behind.Goals as goal

pub returns-in-Some-clause-next : goal.returns-in-Some-clause-next
returns-in-Some-clause-next g c = λ at cell is stands.
    c.next_cell.ensures.next cell
    (subst (λ (a : CellAt). StandsAt (g.M.MetaPages.pages c.args.pages.now) a cell) (ap (λ (o : Option CellAt). unwrap_or o at) (sym is ∙ c.in-Some.is)) stands)
