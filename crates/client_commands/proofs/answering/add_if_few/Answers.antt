use Rattle.std.proofs.Common.{inr, refl, subst, sym}
use Rattle.file_commands.specs.domain_memory.declared.memory.DomainMemory.{DomainMemory}
use Rattle.file_commands.specs.domain_state.History.{StandsForSome}
use Rattle.file_commands.specs.domain_state.Room.{HoldsFew}
use Rattle.client_commands.proofs.answering.add_if_few.Goals as goal

pub holds_few-is_few-requires : goal.holds_few-is_few-requires
holds_few-is_few-requires g c = subst (λ (m : DomainMemory). ∥ StandsForSome m ∥₁) (sym c.memory.ensures.memory) c.memory.ensures.stands

pub add_answer-requires-clause-few : goal.add_answer-requires-clause-few
add_answer-requires-clause-few g c = subst HoldsFew c.memory.ensures.memory (c.holds_few-is_few.ensures c.if-is_few.true)

pub add_refusal-requires-clause-refused : goal.add_refusal-requires-clause-refused
add_refusal-requires-clause-refused g c = λ all stands. inr refl
