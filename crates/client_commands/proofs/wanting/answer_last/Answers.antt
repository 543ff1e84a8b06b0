use Rattle.std.proofs.Common.{◌∙◌, ap, inl}
use Rattle.file_commands.specs.name_commands.Ending.{LacksPage}
use Rattle.client_commands.proofs.Laid.{adds_answer, adds_one}
use Rattle.client_commands.proofs.Served.{served_client}
use Rattle.client_commands.proofs.Wanted.{allowed, takes_space, taking, wanted}
use Rattle.client_commands.proofs.wanting.answer_last.Goals as goal

pub refuse_for_want-requires-clause-clients : goal.refuse_for_want-requires-clause-clients
refuse_for_want-requires-clause-clients g c = served_client c.args.command c.requires.served

pub refuse_for_want-requires-clause-takes : goal.refuse_for_want-requires-clause-takes
refuse_for_want-requires-clause-takes g c = λ may all stands.
    let lacks = wanted c.lay-domain.result.1 (c.wants_page.ensures.wants c.if-wants_page.true) (LacksPage c.args.command c.args.domain.memory) c.lay-domain.ensures.cause in
    takes_space c.args.domain.memory c.args.command (taking c.args.command may) lacks all (c.lay-domain.ensures.stood all (c.take_back.ensures.was all stands))

pub refuse_for_want-requires-clause-allowed : goal.refuse_for_want-requires-clause-allowed
refuse_for_want-requires-clause-allowed g c = λ all stands.
    allowed c.lay-domain.result.1 (c.wants_page.ensures.wants c.if-wants_page.true) c.lay-domain.result.0.memory all c.args.command (c.lay-domain.ensures.ends all (c.take_back.ensures.was all stands))

pub returns-then-wants_page-clause-adds : goal.returns-then-wants_page-clause-adds
returns-then-wants_page-clause-adds g c =
    adds_one c.args.client c.args.command c.args.domain.memory c.take_back.result.memory c.refuse_for_want.result.memory c.args.domain.history.entries.items c.take_back.result.history.entries.items c.refuse_for_want.result.history.entries.items
    (λ all stands. c.take_back.ensures.none.stands all (c.lay-domain.ensures.stands all stands)) (c.take_back.ensures.none.same ∙ ap (λ h. h.entries.items) c.lay-domain.ensures.history) c.refuse_for_want.ensures.adds

pub answer_found-requires-clause-clients : goal.answer_found-requires-clause-clients
answer_found-requires-clause-clients g c = served_client c.args.command c.requires.served

pub returns-else-wants_page-clause-adds : goal.returns-else-wants_page-clause-adds
returns-else-wants_page-clause-adds g c =
    inl (adds_answer c.args.client c.args.command c.args.domain.memory c.lay-domain.result.0.memory c.answer_found.result.memory c.args.domain.history.entries.items c.lay-domain.result.0.history.entries.items c.answer_found.result.history.entries.items
    c.lay-domain.ensures.stands (ap (λ h. h.entries.items) c.lay-domain.ensures.history) c.answer_found.ensures.adds)
