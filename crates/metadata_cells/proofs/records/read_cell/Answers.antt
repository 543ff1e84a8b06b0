use Rattle.std.proofs.Common.{◌≡◌, ◌+◌, ◌-◌, ℕ, List, take, drop, nat_eq, sym, ◌∙◌, subst, ap, arith}
use Rattle.std.proofs.lemmas.Bool.{both_ways}
use Rattle.std.specs.List.{list_all}
use Rattle.metadata_cells.specs.Reading.{ReadsRecords}
use Rattle.metadata_cells.proofs.OneByOne.{zeros_behind, records_there, cell_is, tail_is}
use Rattle.metadata_cells.proofs.records.read_cell.Goals as goal
use Rattle.metadata_cells.proofs.records.read_cell.Goals.{then-whole, else-whole}

-- the bytes of the records, as code takes them
middle : (cell : List ℕ) (size : ℕ) → take (20 + size - 20) (drop 20 cell) ≡ take size (drop 20 cell)
middle cell size = let e : 20 + size - 20 ≡ size = omega arith in ap (λ n. take n (drop 20 cell)) e

pub returns-then-not-are_zeros : goal.returns-then-not-are_zeros
returns-then-not-are_zeros c = λ content is.
    let zeros = zeros_behind c.args.cell.now c.in-Some.head c.in-Some.size c.in-Some.ensures.some content is in
    let tested = c.are_zeros.ensures ∙ ap (list_all (λ b. nat_eq b 0)) (tail_is c.args.cell.now (20 + c.in-Some.size)) ∙ zeros in
    both_ways c.are_zeros.result c.if-not-are_zeros.true tested

pub returns : goal.returns
returns c = elim c.if-whole.branch [
  | then-whole w ↦
      let read = subst (ReadsRecords _ c.args.found.now.items c.read_records.new.found.items) w.if-whole.true c.in_ok-whole.ensures in
      let zeros = ap (list_all (λ b. nat_eq b 0)) (sym (tail_is c.args.cell.now (20 + c.in-Some.size))) ∙ sym c.are_zeros.ensures ∙ c.if-not-are_zeros.false in
      rw w.result-is (read.0, read.1, cell_is c.args.cell.now c.in-Some.head c.in-Some.size c.in-Some.ensures.some read.0 c.requires (sym (middle c.args.cell.now c.in-Some.size) ∙ read.2) read.3 zeros)
  | else-whole w ↦
      let read = subst (ReadsRecords _ c.args.found.now.items c.read_records.new.found.items) w.if-whole.false c.in_ok-whole.ensures in
      rw w.result-is (λ content is. read content.records is.well_formed (middle c.args.cell.now c.in-Some.size ∙ records_there c.args.cell.now c.in-Some.head c.in-Some.size c.in-Some.ensures.some content is))
]
