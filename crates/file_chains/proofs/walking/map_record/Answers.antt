use Rattle.std.proofs.Common.{◌≡◌, ◌∙◌, get_or, arith, ⊎_elim, ap, sym}
use Rattle.std.proofs.lemmas.Bool.{cases_lt}
use Rattle.free_cells.specs.metadata_cells.Cell.{record_of}
use Rattle.file_chains.proofs.MapRecords.{found_there, map_kinds, none_is, none_there}
use Rattle.file_chains.proofs.walking.map_record.Goals as goal

pub loop-kind-init : goal.loop-kind-init
loop-kind-init g c = λ cell stands k below. absurd (omega (arith, below))

pub returns-then-is_some : goal.returns-then-is_some
returns-then-is_some g c = λ cell value stands has.
    found_there c.loop-kind.kind-index cell value c.find_record-found.result c.loop-kind-test.true (c.find_record-found.ensures cell stands) (sym c.is_some.ensures ∙ c.if-is_some.true) has

pub loop-kind-preserved : goal.loop-kind-preserved
loop-kind-preserved g c = λ cell stands k below.
    ⊎_elim (λ before. c.loop-kind.invariant cell stands k before)
    (λ not_before. let e : k ≡ c.loop-kind.kind-index = omega (arith, below, not_before) in
    ap (λ i. record_of (get_or map_kinds i 0) cell.records) e ∙ sym (c.find_record-found.ensures cell stands) ∙ none_is c.find_record-found.result (sym c.is_some.ensures ∙ c.if-is_some.false))
    (cases_lt k c.loop-kind.kind-index)

pub returns : goal.returns
returns g c = λ cell value stands has. absurd (none_there cell value has (λ k below. c.loop-kind.invariant cell stands k (omega (arith, below, c.loop-kind-test.false))))
