use Rattle.std.proofs.Common.{ap, length}
use Rattle.free_cells.specs.metadata_cells.declared.head.CellHead.{CellHead}
use Rattle.free_cells.specs.metadata_cells.Cell.{spellings}
use Rattle.free_cells.proofs.OfMetadataCells.Unique.{one_head_stands}
use Rattle.file_chains.proofs.walking.next_cell.Goals as goal

pub returns-in_err-read_head-clause-next : goal.returns-in_err-read_head-clause-next
returns-in_err-read_head-clause-next g c = λ cell stands.
    absurd (c.in_err-read_head.ensures.none cell.head (record { bytes = stands.bytes; there = stands.there; size = length (spellings cell.records); is = stands.is.head }))

pub returns-clause-next : goal.returns-clause-next
returns-clause-next g c = λ cell stands.
    ap (λ (head : CellHead). head.next) (one_head_stands (g.M.MetaPages.pages c.args.pages.now) c.args.at.now c.in_ok-read_head.field-0 cell c.in_ok-read_head.ensures.some stands)
