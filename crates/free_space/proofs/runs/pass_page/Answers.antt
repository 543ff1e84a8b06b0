use Rattle.std.proofs.Common.{◌∙◌, refl, sym}
use mathlib.Core.Bool.{false≢true}
use Rattle.free_space.proofs.runs.pass_page.Goals as goal

pub returns-in_ok-push_run-clause-used : goal.returns-in_ok-push_run-clause-used
returns-in_ok-push_run-clause-used c = λ used. (refl, c.in_ok-push_run.ensures)

pub returns-in_ok-push_run-clause-free : goal.returns-in_ok-push_run-clause-free
returns-in_ok-push_run-clause-free c = λ free. absurd (false≢true (sym free ∙ sym c.is_used.ensures ∙ c.if-is_used.true))

pub returns-else-is_used-clause-used : goal.returns-else-is_used-clause-used
returns-else-is_used-clause-used c = λ used. absurd (false≢true (sym c.if-is_used.false ∙ c.is_used.ensures ∙ used))

pub returns-else-is_used-clause-free : goal.returns-else-is_used-clause-free
returns-else-is_used-clause-free c = λ free. (refl, refl)
