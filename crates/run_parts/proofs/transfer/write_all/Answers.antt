use Rattle.std.proofs.Common.{take, drop, arith, sym, take-append-drop}
use Rattle.std.proofs.KnownBytes.{Appends-kept}
use Rattle.std.proofs.lemmas.Result.{err_from_is_err_and}
use Rattle.std.proofs.lemmas.List.{take_rest}
use Rattle.std.proofs.lemmas.Grind.{common_steps}
use Rattle.run_parts.proofs.Pieces.{Appends-front}
use Rattle.run_parts.proofs.transfer.write_all.Goals as goal

pub loop-written-preserved : goal.loop-written-preserved
loop-written-preserved g c = record {
  within = grind (arith, common_steps);
  front = Appends-front _ _ _ _ _ _ c.loop-written.invariant.front (rw take_rest at c.in_ok-written.ensures.bytes);
  count = grind (arith, common_steps);
}

pub returns-in_err-written-clause-err : goal.returns-in_err-written-clause-err
returns-in_err-written-clause-err g c =
    let failed = err_from_is_err_and c.from_residual.result c.from_residual.ensures.1 in
    rw (failed.1) (record {
      front = take c.loop-written.written c.args.text.now;
      rest = drop c.loop-written.written c.args.text.now;
      whole = sym (take-append-drop c.loop-written.written c.args.text.now);
      grown = Appends-kept _ _ _ _ c.loop-written.invariant.front c.in_err-written.ensures.bytes;
    })
