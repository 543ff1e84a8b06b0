use Rattle.attached_domain.specs.domain_standing.Domain.{layout_of}
use Rattle.attached_domain.specs.domain_memory.Staged.{staged_in}
use Rattle.domain_attaching.proofs.TablesMarked.{three_marked}
use Rattle.domain_attaching.proofs.tables.mark_tables.Goals as goal

pub returns : goal.returns
returns c =
    three_marked (layout_of (staged_in c.args.memory.now)) c.args.vol c.args.marks.now c.mark_cells.new.marks c.mark_slots.new.marks c.mark_table.new.marks c.mark_cells.ensures c.mark_slots.ensures c.mark_table.ensures
