use Rattle.std.proofs.Common.{sym, subst}
use Rattle.extent_maps.specs.declared.run.Run.{Run}
use Rattle.std.specs.Prelude.{List, ◌≤◌, length}
use Rattle.cell_records.specs.Records.{kind_of}
use Rattle.extent_records.specs.Listing.{HoldsRuns}
use Rattle.extent_records.specs.Writing.{AllSuit, IsLeastRecord, dense_kind, most_rows, places_in}
use Rattle.extent_records.proofs.DenseLemmas.{dense_fits, dense_least, dense_suits}
use Rattle.extent_records.proofs.dense.as_dense.Goals as goal

pub holding-requires-clause-suits : goal.holding-requires-clause-suits
holding-requires-clause-suits c =
    let suits = dense_suits c.args.value.now c.in_ok-map.map c.requires c.runs.ensures.longest c.in_ok-map.ensures in
    subst (λ k. AllSuit k c.runs.result.now) (sym c.empty_for.ensures.kind) (subst (AllSuit (dense_kind (kind_of c.args.value.now))) (sym c.runs.ensures.runs) suits)

pub holding-requires-clause-few : goal.holding-requires-clause-few
holding-requires-clause-few c =
    let few = dense_fits c.args.value.now c.in_ok-map.map c.requires c.runs.ensures.longest c.in_ok-map.ensures in
    subst (λ k. length c.runs.result.now ≤ most_rows k) (sym c.empty_for.ensures.kind) (subst (λ (l : List Run). length l ≤ most_rows (dense_kind (kind_of c.args.value.now))) (sym c.runs.ensures.runs) few)

pub returns : goal.returns
returns c =
    let value = c.args.value.now in
    let map = c.in_ok-map.map in
    let empty = c.empty_for.result in
    let suits = subst (λ k. AllSuit k map) (sym c.empty_for.ensures.kind) (dense_suits value map c.requires c.runs.ensures.longest c.in_ok-map.ensures) in
    let holds = subst (λ (l : List Run). HoldsRuns (kind_of empty) l c.holding.result) c.runs.ensures.runs c.holding.ensures in
    subst (λ k. IsLeastRecord k (places_in value) c.holding.result) c.empty_for.ensures.kind
    (dense_least value empty c.holding.result map c.requires c.empty_for.ensures.is_map c.runs.ensures.longest c.in_ok-map.ensures suits holds)
