use Rattle.std.proofs.Common.{◌∙◌, ap, inl, inr}
use Rattle.client_commands.proofs.Laid.{adds_answer, adds_one}
use Rattle.client_commands.proofs.Served.{served_client}
use Rattle.client_commands.proofs.commands.command.Goals as goal

pub returns-then-shows_volumes-clause-adds : goal.returns-then-shows_volumes-clause-adds
returns-then-shows_volumes-clause-adds g c = inr c.tell.ensures.adds

pub returns-then-wants_page-clause-adds : goal.returns-then-wants_page-clause-adds
returns-then-wants_page-clause-adds g c =
    inl (adds_one c.args.client c.args.command c.args.domain.memory c.take_back.result.memory c.answer_drained.result.memory c.args.domain.history.entries.items c.take_back.result.history.entries.items c.answer_drained.result.history.entries.items
    (λ all stands. c.take_back.ensures.none.stands all (c.lay-domain.ensures.stands all stands)) (c.take_back.ensures.none.same ∙ ap (λ h. h.entries.items) c.lay-domain.ensures.history) c.answer_drained.ensures.adds)

pub answer_found-requires-clause-clients : goal.answer_found-requires-clause-clients
answer_found-requires-clause-clients g c = served_client c.args.command (c.shows_volumes.ensures.lays c.if-shows_volumes.false c.requires.served)

pub returns-else-wants_page-clause-adds : goal.returns-else-wants_page-clause-adds
returns-else-wants_page-clause-adds g c =
    inl (inl (adds_answer c.args.client c.args.command c.args.domain.memory c.lay-domain.result.0.memory c.answer_found.result.memory c.args.domain.history.entries.items c.lay-domain.result.0.history.entries.items c.answer_found.result.history.entries.items
    c.lay-domain.ensures.stands (ap (λ h. h.entries.items) c.lay-domain.ensures.history) c.answer_found.ensures.adds))
