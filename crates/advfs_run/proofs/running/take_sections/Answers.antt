use Rattle.std.proofs.Common.{List, All, subst}
use Rattle.std.proofs.lemmas.Result.{err_from_is_err_and}
use Rattle.run_parts.specs.script_text.declared.script.Section.{Section}
use Rattle.client_commands.specs.name_commands.Ending.{IsServed}
use Rattle.advfs_run.proofs.Scripts.{script_served}
use Rattle.run_parts.specs.Answering.{SameByNumber}
use Rattle.run_parts.proofs.Reading.{IsNoLonger-from_short}
use Rattle.run_parts.proofs.Shuffled.{all_of_same}
use Rattle.advfs_run.proofs.running.take_sections.Goals as goal

pub returns-in_err-sections-clause-taken : goal.returns-in_err-sections-clause-taken
returns-in_err-sections-clause-taken g c =
    let stopped = err_from_is_err_and c.from_residual-in_err-sections.result c.from_residual-in_err-sections.ensures.1 in
    let r = c.in_ok-script.ensures.taken in
    (r.0, r.1, rw (stopped.1, stopped.2) (IsNoLonger-from_short _ r.2.short))

pub returns-clause-served : goal.returns-clause-served
returns-clause-served g c =
    let same = subst (λ (before : List Section). SameByNumber before c.in_ok-sections.sections.items) c.into_vec.ensures c.in_ok-sections.ensures in
    all_of_same (λ (section : Section). All IsServed section.commands) _ _ same (script_served _ c.in_ok-script.script c.in_ok-script.ensures.taken.2.says)
