use Rattle.std.proofs.Common.{◌≡◌, ◌∙◌, ◌+◌, ◌-◌, ◌*◌, ℕ, List, take, drop, length, length-drop, length-take, arith, ap}
use Rattle.page_ways.specs.metadata_cells.CellPage.{cell_of}
use Rattle.cell_faults.proofs.cells.bytes_of.Goals as goal

-- the bytes of a cell, as code takes them
taken : (page : List ℕ) (cell : ℕ) → take (16 + 292 * cell + 292 - (16 + 292 * cell)) (drop (16 + 292 * cell) page) ≡ cell_of page cell
taken page cell = let e : 16 + 292 * cell + 292 - (16 + 292 * cell) ≡ 292 = omega arith in ap (λ n. take n (drop (16 + 292 * cell) page)) e

pub returns-clause-value : goal.returns-clause-value
returns-clause-value c =
    let page = c.args.page.now in
    taken c.bytes.result.now c.from.result ∙ ap (λ (l : List ℕ). cell_of l c.from.result) c.bytes.ensures.value ∙ ap (cell_of page) c.from.ensures

pub returns-clause-len : goal.returns-clause-len
returns-clause-len c =
    let page = c.bytes.result.now in
    let start = 16 + 292 * c.from.result in
    ap length (taken page c.from.result) ∙ omega (arith, length-take 292 (drop start page), length-drop start page, c.bytes.ensures.len, c.from.ensures, c.requires)
