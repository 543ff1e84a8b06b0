use Rattle.std.proofs.Common.{inl, inr, refl}
use Rattle.client_commands.proofs.wanting.refuse_for_want.Goals as goal

pub returns-in-None-clause-adds : goal.returns-in-None-clause-adds
returns-in-None-clause-adds g c = inl c.add_refusal.ensures.adds

pub add_refusal-requires-clause-refused : goal.add_refusal-requires-clause-refused
add_refusal-requires-clause-refused g c = λ all stands. inr refl
