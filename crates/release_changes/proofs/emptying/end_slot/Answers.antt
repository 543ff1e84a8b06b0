use Rattle.std.proofs.Common.{inl, inr, subst, sym}
use Rattle.domain_changes.specs.domain_memory.Memory.{StandsFor}
use Rattle.domain_changes.specs.domain_memory.Staged.{IsSettled}
use Rattle.domain_changes.specs.domain_memory.declared.memory.DomainMemory.{DomainMemory}
use Rattle.release_changes.proofs.QuotaBegins.{on_err}
use Rattle.domain_changes.proofs.SlotPut.{on_ok}
use Rattle.release_changes.proofs.ToEmpty.{bare_left}
use Rattle.release_changes.proofs.emptying.end_slot.Goals as goal

pub free_slot-requires-clause-quota : goal.free_slot-requires-clause-quota
free_slot-requires-clause-quota c = bare_left c.args.memory.now c.args.number (c.names_quota_cells.ensures.none c.if-names_quota_cells.false) c.requires.may c.requires.unused

pub returns-clause-stands : goal.returns-clause-stands
returns-clause-stands c = λ all stood. on_err c.free_slot.result (λ same. subst (λ (m : DomainMemory). StandsFor m all) (sym same) stood) c.free_slot.ensures.err

pub returns-clause-settled : goal.returns-clause-settled
returns-clause-settled c = on_err c.free_slot.result (λ same. subst IsSettled (sym same) c.requires.settled) c.free_slot.ensures.err

pub returns-clause-goes : goal.returns-clause-goes
returns-clause-goes c = on_ok c.free_slot.result (λ free. inr free) c.free_slot.ensures.free

pub returns-then-names_quota_cells-clause-goes : goal.returns-then-names_quota_cells-clause-goes
returns-then-names_quota_cells-clause-goes c = on_ok c.lose_or_take_back.result (λ loses. inl loses) c.lose_or_take_back.ensures.goes
