use Rattle.std.proofs.Common.{◌≤◌, ◌∙◌, sym, subst}
use Rattle.metadata_cells.specs.Cell.{spellings}
use Rattle.metadata_cells.proofs.Written.{behind_zeros, cell_written}
use Rattle.metadata_cells.proofs.writing.put_cell.Goals as goal

pub returns-clause-cell : goal.returns-clause-cell
returns-clause-cell c =
    cell_written c.put_head.new.out c.args.head.now c.args.records.now c.put_records-size.result c.put_records-size.ensures.size (subst (λ n. n ≤ 272) (sym c.put_records-size.ensures.size) c.requires.fits)
    c.put_head.ensures.head c.requires.good
    (c.put_head.ensures.others ∙ behind_zeros c.args.out.now c.put_records-size.new.out (spellings c.args.records.now) c.put_records-size.result c.requires.zeros c.put_records-size.ensures.written)
