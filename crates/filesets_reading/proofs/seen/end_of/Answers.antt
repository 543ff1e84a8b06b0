use Rattle.std.proofs.Common.{◌≡◌, ◌-◌, Some, length, slice_get, sym, arith}
use Rattle.filesets_reading.proofs.Originals.{behind_last, run_at}
use Rattle.filesets_reading.proofs.Ways.{within_of}
use Rattle.filesets_reading.proofs.seen.end_of.Goals as goal

pub overflow_add-result : goal.overflow_add-result
overflow_add-result c = omega (arith, run_at c.args.runs.now (length c.args.runs.now - 1) c.in-Some.run'.now c.requires (sym c.in-Some.ensures.value))

pub returns-in-Some-clause-behind : goal.returns-in-Some-clause-behind
returns-in-Some-clause-behind c =
    let at : slice_get c.args.runs.now (length c.args.runs.now - 1) ≡ Some c.in-Some.run'.now = sym c.in-Some.ensures.value in
    let within = within_of c.args.runs.now (length c.args.runs.now - 1) c.in-Some.run'.now at in
    behind_last c.args.runs.now c.in-Some.run'.now (length c.args.runs.now - 1) c.requires at (omega (arith, within))

pub returns-in-Some-clause-few : goal.returns-in-Some-clause-few
returns-in-Some-clause-few c = omega (arith, run_at c.args.runs.now (length c.args.runs.now - 1) c.in-Some.run'.now c.requires (sym c.in-Some.ensures.value))
