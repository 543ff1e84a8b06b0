use Rattle.std.proofs.Common.{◌∙◌, Err, Option, List, ℕ, arith, length, ◌≤◌, ap, subst, sym}
use Rattle.std.proofs.lemmas.Grind.{common_steps}
use Rattle.std.proofs.lemmas.List.{take_all}
use Rattle.std.proofs.lemmas.Result.{err_from_is_err_and}
use Rattle.run_parts.specs.Transfer.{AppendsPart}
use Rattle.script_text.specs.History.{history_text}
use Rattle.run_parts.proofs.Printed.{AppendsFront-line, AppendsFront-waiting, AppendsPart-line, HandsOn-line}
use Rattle.run_parts.proofs.print.print_history.Goals as goal

pub returns-in_err-push_line-clause-err : goal.returns-in_err-push_line-clause-err
returns-in_err-push_line-clause-err g c =
    let failed = err_from_is_err_and c.from_residual.result c.from_residual.ensures.1 in
    rw (failed.1) (AppendsFront-line _ _ _ _ _ _ _ (omega arith) c.entry-item.is c.loop-entry.invariant.handed c.in_err-push_line.ensures.err)

pub loop-entry-preserved : goal.loop-entry-preserved
loop-entry-preserved g c = record {
  handed = HandsOn-line _ _ _ _ _ _ _ _ (omega arith) c.entry-item.is c.loop-entry.invariant.handed c.in_ok-push_line.ensures.ok;
  count = grind (arith, common_steps);
}

pub returns-in_err-flush-clause-err : goal.returns-in_err-flush-clause-err
returns-in_err-flush-clause-err g c =
    let failed = err_from_is_err_and c.from_residual-in_err-flush.result c.from_residual-in_err-flush.ensures.1 in
    let every : length c.args.history.now ≤ c.loop-entry.entry-index = omega arith in
    let handed = rw (take_all) at c.loop-entry.invariant.handed in
    rw (failed.1) (AppendsFront-waiting _ _ _ _ _ handed c.in_err-flush.ensures.err)

pub returns-in_err-push_line-clause-out_of_memory : goal.returns-in_err-push_line-clause-out_of_memory
returns-in_err-push_line-clause-out_of_memory g c = λ is.
    let failed = err_from_is_err_and c.from_residual.result c.from_residual.ensures.1 in
    let so_far = c.loop-entry.invariant.handed in
    let same = c.in_err-push_line.ensures.out_of_memory (ap Err (sym failed.2) ∙ sym failed.1 ∙ is) in
    subst (λ (held : Option (List ℕ)). AppendsPart (g.K.Sink.held c.args.sink.now) held (history_text c.args.history.now)) (sym same) (AppendsPart-line _ _ c.args.history.now _ _ _ (omega arith) c.entry-item.is so_far)
