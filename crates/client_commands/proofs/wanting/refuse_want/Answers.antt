use Rattle.std.proofs.Common.{inl, inr, refl, subst, sym}
use Rattle.file_commands.specs.domain_memory.Staged.{IsSettled, MayGoBack}
use Rattle.file_commands.specs.domain_memory.declared.memory.DomainMemory.{DomainMemory}
use Rattle.file_commands.specs.domain_memory.Going.{NoneWaits, NothingGoes}
use Rattle.file_commands.specs.domain_state.History.{StandsForSome}
use Rattle.client_commands.proofs.wanting.refuse_want.Goals as goal

pub returns-then-is_refused-clause-adds : goal.returns-then-is_refused-clause-adds
returns-then-is_refused-clause-adds g c = inr c.add_no_space.ensures.adds

pub returns-else-is_refused-clause-adds : goal.returns-else-is_refused-clause-adds
returns-else-is_refused-clause-adds g c = inl c.add_refusal.ensures.adds

pub add_refusal-requires-clause-refused : goal.add_refusal-requires-clause-refused
add_refusal-requires-clause-refused g c = λ all stands. inr refl

pub may_refuse-is_refused-requires-clause-settled : goal.may_refuse-is_refused-requires-clause-settled
may_refuse-is_refused-requires-clause-settled g c = subst IsSettled (sym c.memory.ensures.memory) c.requires.settled

pub may_refuse-is_refused-requires-clause-stands : goal.may_refuse-is_refused-requires-clause-stands
may_refuse-is_refused-requires-clause-stands g c = subst (λ (m : DomainMemory). ∥ StandsForSome m ∥₁) (sym c.memory.ensures.memory) c.memory.ensures.stands

pub may_refuse-is_refused-requires-clause-back : goal.may_refuse-is_refused-requires-clause-back
may_refuse-is_refused-requires-clause-back g c = subst (λ (m : DomainMemory). ∥ MayGoBack m ∥₁) (sym c.memory.ensures.memory) c.args.domain.back

pub add_no_space-requires-clause-waits : goal.add_no_space-requires-clause-waits
add_no_space-requires-clause-waits g c = subst (λ (m : DomainMemory). NoneWaits m.space) c.memory.ensures.memory (c.may_refuse-is_refused.ensures.waits c.if-is_refused.true)

pub add_no_space-requires-clause-goes : goal.add_no_space-requires-clause-goes
add_no_space-requires-clause-goes g c = subst NothingGoes c.memory.ensures.memory (c.may_refuse-is_refused.ensures.goes c.if-is_refused.true)

pub add_no_space-requires-clause-takes : goal.add_no_space-requires-clause-takes
add_no_space-requires-clause-takes g c = c.requires.takes (c.may_refuse-is_refused.ensures.takes c.if-is_refused.true)
