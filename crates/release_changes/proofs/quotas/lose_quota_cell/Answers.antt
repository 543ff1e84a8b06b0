use Rattle.std.proofs.Common.{None, ap, inl, inr, refl}
use Rattle.std.proofs.Math.Logic.{∥∥₁_map}
use Rattle.domain_changes.proofs.OfFilesetTable.Leaving.{leaves}
use Rattle.domain_changes.specs.fileset_table.declared.slot.SlotItem.TheVariants as slot
use Rattle.domain_changes.specs.domain_memory.declared.memory.DomainMemory.{DomainMemory}
use Rattle.release_changes.proofs.QuotaBegins.{asks_quotas, back_lost, begins_so, has_those, last_kept, on_ok_for, second_kept}
use Rattle.release_changes.specs.QuotaCells.{BeginsQuotas, LosesLast, LosesSecond}
use Rattle.domain_changes.proofs.SlotPut.{asks_no_clone, asks_page, on_ok}
use Rattle.release_changes.proofs.quotas.lose_quota_cell.Goals as goal

pub lose_second-requires-clause-quotas : goal.lose_second-requires-clause-quotas
lose_second-requires-clause-quotas c =
    let memory = c.args.memory.now in
    let q = c.requires.quota in
    asks_quotas memory c.requires.ready c.args.number c.in-Some.at (has_those memory c.args.number q.0 q.1 c.slot.result.now c.in-Removed.first_tag c.in-Removed.quota c.in-Some.at c.slot.ensures.value c.in-Removed.is c.in-Some.is)

pub lose_last-requires-clause-quotas : goal.lose_last-requires-clause-quotas
lose_last-requires-clause-quotas c =
    let memory = c.args.memory.now in
    let q = c.requires.quota in
    asks_quotas memory c.requires.ready c.args.number c.in-Some.at (has_those memory c.args.number q.0 q.1 c.slot.result.now c.in-Removed.first_tag c.in-Removed.quota c.in-Some.at c.slot.ensures.value c.in-Removed.is c.in-Some.is)

pub lose_last-requires-clause-table : goal.lose_last-requires-clause-table
lose_last-requires-clause-table c =
    let memory = c.args.memory.now in
    leaves memory.table c.args.number (slot.Removed c.in-Removed.first_tag None) c.slot.ensures.good (asks_no_clone memory (∥∥₁_map c.requires.ready (λ r. (r.0, r.1.staged))) c.args.number) refl tt

pub lose_last-requires-clause-there : goal.lose_last-requires-clause-there
lose_last-requires-clause-there c = asks_page c.args.memory.now (∥∥₁_map c.requires.ready (λ r. (r.0, r.1.staged)))

pub returns-in-Some-next_cell-clause-ok : goal.returns-in-Some-next_cell-clause-ok
returns-in-Some-next_cell-clause-ok c = λ all ready.
    let memory = c.args.memory.now in
    let q = c.requires.quota in
    let cells = has_those memory c.args.number q.0 q.1 c.slot.result.now c.in-Removed.first_tag c.in-Removed.quota c.in-Some.at c.slot.ensures.value c.in-Removed.is c.in-Some.is in
    on_ok c.lose_second.result (λ loses. second_kept memory c.lose_second.new.memory c.args.number c.in-Some.at cells c.lose_second.ensures.same all ready (λ has. loses))
    (c.lose_second.ensures.ok c.args.number ready.staged.sound.files (begins_so memory all ready.staged c.args.number c.in-Some.at cells))

pub returns-in-Some-next_cell-clause-back : goal.returns-in-Some-next_cell-clause-back
returns-in-Some-next_cell-clause-back c =
    back_lost c.args.memory.now c.lose_second.new.memory (ap (λ (m : DomainMemory). m.slots) c.lose_second.ensures.same) c.lose_second.ensures.kept c.requires.back

pub returns-in-None-clause-ok : goal.returns-in-None-clause-ok
returns-in-None-clause-ok c = λ all ready.
    let memory = c.args.memory.now in
    let q = c.requires.quota in
    let cells = has_those memory c.args.number q.0 q.1 c.slot.result.now c.in-Removed.first_tag c.in-Removed.quota c.in-Some.at c.slot.ensures.value c.in-Removed.is c.in-Some.is in
    on_ok c.lose_last.result (λ loses. last_kept memory c.lose_last.new.memory c.args.number c.in-Some.at cells c.lose_last.ensures.same all ready (λ has. loses))
    (c.lose_last.ensures.ok ready.staged.sound.files (begins_so memory all ready.staged c.args.number c.in-Some.at cells))

pub returns-in-None-clause-back : goal.returns-in-None-clause-back
returns-in-None-clause-back c =
    back_lost c.args.memory.now c.lose_last.new.memory (ap (λ (m : DomainMemory). m.slots) c.lose_last.ensures.same) c.lose_last.ensures.kept c.requires.back

pub returns-in-Some-next_cell-clause-goes : goal.returns-in-Some-next_cell-clause-goes
returns-in-Some-next_cell-clause-goes c =
    let memory = c.args.memory.now in
    let q = c.requires.quota in
    let cells = has_those memory c.args.number q.0 q.1 c.slot.result.now c.in-Removed.first_tag c.in-Removed.quota c.in-Some.at c.slot.ensures.value c.in-Removed.is c.in-Some.is in
    on_ok c.lose_second.result (λ loses. (c.in-Some.at, cells, λ files begins. inl (loses files begins)))
    (on_ok_for (BeginsQuotas memory c.in-Some.at) (λ files. LosesSecond c.args.number c.in-Some.at files memory c.lose_second.new.memory) c.lose_second.result (c.lose_second.ensures.ok c.args.number))

pub returns-in-None-clause-goes : goal.returns-in-None-clause-goes
returns-in-None-clause-goes c =
    let memory = c.args.memory.now in
    let q = c.requires.quota in
    let cells = has_those memory c.args.number q.0 q.1 c.slot.result.now c.in-Removed.first_tag c.in-Removed.quota c.in-Some.at c.slot.ensures.value c.in-Removed.is c.in-Some.is in
    on_ok c.lose_last.result (λ loses. (c.in-Some.at, cells, λ files begins. inr (loses files begins)))
    (on_ok_for (BeginsQuotas memory c.in-Some.at) (λ files. LosesLast c.args.number c.in-Some.at files memory c.lose_last.new.memory) c.lose_last.result (c.lose_last.ensures.ok))
