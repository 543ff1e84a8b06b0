use Rattle.std.proofs.Common.{ap, inl, inr, refl}
use Rattle.client_commands.proofs.Laid.{adds_answer, adds_one}
use Rattle.client_commands.proofs.Served.{served_client}
use Rattle.client_commands.proofs.wanting.answer_drained.Goals as goal

pub add_refusal-requires-clause-clients : goal.add_refusal-requires-clause-clients
add_refusal-requires-clause-clients g c = served_client c.args.command c.requires.served

pub add_refusal-requires-clause-refused : goal.add_refusal-requires-clause-refused
add_refusal-requires-clause-refused g c = λ all stands. inr refl

pub returns-then-is_err-clause-adds : goal.returns-then-is_err-clause-adds
returns-then-is_err-clause-adds g c =
    inl (adds_answer c.args.client c.args.command c.args.domain.memory c.drain-domain.result.0.memory c.add_refusal.result.memory c.args.domain.history.entries.items c.drain-domain.result.0.history.entries.items c.add_refusal.result.history.entries.items
    c.drain-domain.ensures.stands (ap (λ h. h.entries.items) c.drain-domain.ensures.history) c.add_refusal.ensures.adds)

pub returns-else-is_err-clause-adds : goal.returns-else-is_err-clause-adds
returns-else-is_err-clause-adds g c =
    adds_one c.args.client c.args.command c.args.domain.memory c.drain-domain.result.0.memory c.answer_last.result.memory c.args.domain.history.entries.items c.drain-domain.result.0.history.entries.items c.answer_last.result.history.entries.items
    c.drain-domain.ensures.stands (ap (λ h. h.entries.items) c.drain-domain.ensures.history) c.answer_last.ensures.adds
