use Rattle.std.proofs.Common.{ap}
use Rattle.client_commands.proofs.Laid.{released}
use Rattle.client_commands.proofs.wanting.answer_found.Goals as goal

pub returns-clause-adds : goal.returns-clause-adds
returns-clause-adds g c =
    released c.args.client c.args.command c.args.domain.memory c.answer-domain.result.memory c.release_unless.result.memory c.args.domain.history.entries.items c.answer-domain.result.history.entries.items c.release_unless.result.history.entries.items
    c.release_unless.ensures.stands (ap (λ h. h.entries.items) c.release_unless.ensures.history) c.answer-domain.ensures.adds
