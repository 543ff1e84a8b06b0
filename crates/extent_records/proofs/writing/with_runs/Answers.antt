use Rattle.std.proofs.Common.{sym, subst}
use Rattle.cell_records.specs.Records.{kind_of}
use Rattle.extent_records.specs.Writing.{AreRowsFrom}
use Rattle.extent_records.proofs.WritingLemmas.{rows_of_runs}
use Rattle.extent_records.proofs.writing.with_runs.Goals as goal

pub with_rows-requires-clause-rows : goal.with_rows-requires-clause-rows
with_rows-requires-clause-rows c =
    let kind = kind_of c.args.value.now in
    subst (AreRowsFrom kind 0) (sym c.in-Some.ensures.some) (rows_of_runs kind c.args.runs.now c.requires.runs c.requires.suits)

pub with_rows-requires-in-None-clause-rows : goal.with_rows-requires-in-None-clause-rows
with_rows-requires-in-None-clause-rows c =
    let kind = kind_of c.args.value.now in
    subst (AreRowsFrom kind 0) c.in-None.ensures.none (rows_of_runs kind c.args.runs.now c.requires.runs c.requires.suits)
