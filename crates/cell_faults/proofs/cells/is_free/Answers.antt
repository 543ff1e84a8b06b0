use Rattle.std.proofs.Common.{◌≡◌, ◌∙◌, length, nat_eq, ap, sym}
use Rattle.std.specs.List.{list_all}
use Rattle.page_ways.specs.metadata_cells.CellPage.{cell_of}
use Rattle.cell_faults.proofs.NoCell.{zeros_are_free}
use Rattle.cell_faults.proofs.cells.is_free.Goals as goal

pub returns : goal.returns
returns c =
    let bytes = cell_of c.args.page.now c.args.cell in
    let len : length bytes ≡ 292 = ap length (sym c.bytes_of.ensures.value) ∙ c.bytes_of.ensures.len in
    zeros_are_free bytes c.are_zeros.result len (c.are_zeros.ensures ∙ ap (list_all (λ b. nat_eq b 0)) c.bytes_of.ensures.value)
