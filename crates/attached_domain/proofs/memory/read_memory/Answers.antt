use Rattle.std.proofs.Common.{None, refl}
use Rattle.no_faults.specs.domain_memory.declared.memory.DomainMemory.{DomainMemory}
use Rattle.attached_domain.proofs.AsRead.{as_read}
use Rattle.attached_domain.proofs.memory.read_memory.Goals as goal

pub returns-clause-read : goal.returns-clause-read
returns-clause-read c layout read =
    let m : DomainMemory = record {
      frame = c.args.frame;
      pages = c.args.pages;
      space = c.keep.new.self;
      cells = c.keep-2.new.self;
      table = c.args.table;
      list = c.in_ok-list.list;
      slots = c.args.slots;
      was = None;
      listed = c.new.result;
    } in
    as_read m c.args.links.now c.requires.settled c.requires.table c.in_ok-space.space c.in_ok-space.ensures c.keep.ensures
    c.in_ok-cells.cells c.in_ok-cells.ensures _ c.keep-2.ensures.same c.keep-2.ensures.settled c.in_ok-list.ensures refl c.new.ensures.items layout read
