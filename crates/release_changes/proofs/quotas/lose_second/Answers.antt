use Rattle.std.proofs.Common.{refl}
use Rattle.domain_changes.specs.staged_pages.Store.{pages_of}
use Rattle.domain_changes.specs.domain_memory.declared.memory.DomainMemory.{DomainMemory}
use Rattle.release_changes.proofs.QuotaTaken.{belong_then, first_in_use, next_in_use, next_on, second_lost, used_then}
use Rattle.release_changes.proofs.quotas.lose_second.Goals as goal

pub lead_past-requires-clause-first : goal.lead_past-requires-clause-first
lead_past-requires-clause-first c = let w = c.requires.quotas in first_in_use c.args.memory.now c.args.at.now c.args.next.now w.0 w.1 c.requires.next

pub lead_past-requires-clause-next : goal.lead_past-requires-clause-next
lead_past-requires-clause-next c = let w = c.requires.quotas in next_in_use c.args.memory.now c.args.at.now c.args.next.now w.0 w.1 c.requires.next

pub free_cell-requires-clause-belong : goal.free_cell-requires-clause-belong
free_cell-requires-clause-belong c =
    let w = c.requires.quotas in
    let e = c.in_ok-lead_past.ensures in
    belong_then c.args.memory.now c.args.at.now c.args.next.now w.0 w.1 c.requires.next (pages_of c.lead_past.new.pages) e.others e.well_formed e.headers

pub free_cell-requires-clause-used : goal.free_cell-requires-clause-used
free_cell-requires-clause-used c =
    let w = c.requires.quotas in
    let e = c.in_ok-lead_past.ensures in
    used_then c.args.memory.now c.args.at.now c.args.next.now w.0 w.1 c.requires.next (pages_of c.lead_past.new.pages) e.others e.well_formed e.headers

pub free_cell-requires-clause-table : goal.free_cell-requires-clause-table
free_cell-requires-clause-table c = let w = c.requires.quotas in next_on c.args.memory.now c.args.at.now c.args.next.now w.0 w.1 c.requires.next

pub returns-clause-ok : goal.returns-clause-ok
returns-clause-ok c = λ number files has.
    let memory = c.args.memory.now in
    let now : DomainMemory = record memory { pages = c.free_cell.new.pages; cells = c.free_cell.new.self } in
    let e = c.in_ok-lead_past.ensures in
    let f = c.free_cell.ensures in
    second_lost memory c.args.at.now c.args.next.now files has c.requires.next now refl (pages_of c.lead_past.new.pages) e.others e.well_formed e.headers e.ok e.elsewhere f.value f.others f.belong f.well_formed f.headers f.elsewhere number
