use Rattle.std.proofs.Common.{◌<◌, length, sym, subst}
use Rattle.cell_records.specs.Records.{kind_of}
use Rattle.extent_records.specs.Writing.{AllSuit, HasRows, most_rows, rows_for}
use Rattle.extent_records.proofs.RecordLemmas.{written, refused, suits_runs}
use Rattle.extent_records.proofs.changes.write_map.Goals as goal

pub with_runs-requires-clause-suits : goal.with_runs-requires-clause-suits
with_runs-requires-clause-suits c =
    let kind = kind_of c.args.value.now in
    subst (AllSuit kind) (sym c.runs.ensures.runs) (suits_runs kind c.args.map.now c.runs.ensures.longest c.requires.suits)

pub returns-in-Some-clause-written : goal.returns-in-Some-clause-written
returns-in-Some-clause-written c =
    let kind = kind_of c.args.value.now in
    let suits = suits_runs kind c.args.map.now c.runs.ensures.longest c.requires.suits in
    written c.args.map.now c.args.value.now c.in-Some.new c.runs.ensures.longest suits c.requires.is_map (subst (λ l. HasRows kind (rows_for kind l) c.in-Some.new) c.runs.ensures.runs c.in-Some.ensures)

pub returns-in-None-clause-written : goal.returns-in-None-clause-written
returns-in-None-clause-written c =
    let kind = kind_of c.args.value.now in
    refused c.args.map.now c.args.value.now c.runs.ensures.longest c.requires.is_map (subst (λ l. most_rows kind < length (rows_for kind l)) c.runs.ensures.runs c.in-None.ensures)
