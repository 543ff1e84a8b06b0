use Rattle.std.proofs.Common.{◌≡◌, List, ℕ, Ok, subst, ◌∙◌}
use Rattle.std.proofs.lemmas.Result.{err_from_is_err_and}
use Rattle.script_text.specs.Script.{Reports, script_of}
use Rattle.run_parts.proofs.Reading.{GetsNoScript-from_fault, GetsNoScript-from_read, IsShort-from_bound}
use Rattle.run_parts.proofs.scripts.take_script.Goals as goal

pub returns-in_err-text-clause-taken : goal.returns-in_err-text-clause-taken
returns-in_err-text-clause-taken g c =
    let stopped = err_from_is_err_and c.from_residual.result c.from_residual.ensures.1 in
    let r = c.in_err-text.ensures.taken in
    (r.0, r.1, rw (stopped.1, stopped.2) (GetsNoScript-from_read _ _ c.in_err-text.field-0.0 r.2))

pub returns-in_err-script-clause-taken : goal.returns-in_err-script-clause-taken
returns-in_err-script-clause-taken g c =
    let stopped = err_from_is_err_and c.from_residual-in_err-script.result c.from_residual-in_err-script.ensures.1 in
    let r = c.in_ok-text.ensures.taken in
    let reports = subst (λ (bytes : List ℕ). Reports c.in_err-script.field-0.0 (script_of bytes)) (c.as_slice.ensures.value ∙ r.2.0) c.in_err-script.ensures.fault in
    (r.0, r.1, rw (stopped.1, stopped.2) (GetsNoScript-from_fault _ _ c.in_err-script.field-0.0 (IsShort-from_bound _ r.2.1) c.in_ok-text.ensures.ended reports))

pub returns-clause-taken : goal.returns-clause-taken
returns-clause-taken g c =
    let r = c.in_ok-text.ensures.taken in (
      r.0,
      r.1,
      record {
        short = IsShort-from_bound _ r.2.1;
        ended = c.in_ok-text.ensures.ended;
        says = subst (λ (bytes : List ℕ). script_of bytes ≡ Ok c.in_ok-script.script) (c.as_slice.ensures.value ∙ r.2.0) c.in_ok-script.ensures.read;
      },
    )
