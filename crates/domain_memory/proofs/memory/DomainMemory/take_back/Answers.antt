use Rattle.std.proofs.Common.{refl}
use Rattle.domain_memory.proofs.TakingBack.{asks_slots, asks_table, back_kept, back_settled}
use Rattle.domain_memory.proofs.GoingBack.{back_goes_back}
use Rattle.domain_memory.proofs.memory.DomainMemory.take_back.Goals as goal

pub returns-clause-kept : goal.returns-clause-kept
returns-clause-kept c =
    back_kept c.args.self.now (record {
      frame = c.args.self.now.frame;
      pages = c.take_back.new.self;
      space = c.take_back-2.new.self;
      cells = c.take_back-3.new.self;
      table = c.put_slot_back.new.table;
      list = c.args.self.now.list;
      slots = c.take_back_slots.new.slots;
      was = c.put_slot_back.new.was;
      listed = c.clear.new.self;
    }) refl c.take_back.ensures.pages c.take_back.ensures.before c.take_back-2.ensures c.take_back-3.ensures.value c.take_back-3.ensures.settled c.take_back_slots.ensures refl
    c.put_slot_back.ensures.table c.put_slot_back.ensures.none c.clear.ensures.items

pub returns-clause-settled : goal.returns-clause-settled
returns-clause-settled c =
    back_settled c.args.self.now (record {
      frame = c.args.self.now.frame;
      pages = c.take_back.new.self;
      space = c.take_back-2.new.self;
      cells = c.take_back-3.new.self;
      table = c.put_slot_back.new.table;
      list = c.args.self.now.list;
      slots = c.take_back_slots.new.slots;
      was = c.put_slot_back.new.was;
      listed = c.clear.new.self;
    }) refl c.take_back.ensures.pages c.take_back.ensures.before c.take_back-2.ensures c.take_back-3.ensures.value c.take_back-3.ensures.settled c.take_back_slots.ensures refl
    c.put_slot_back.ensures.table c.put_slot_back.ensures.none c.clear.ensures.items

pub take_back_slots-requires : goal.take_back_slots-requires
take_back_slots-requires c = asks_slots c.args.self.now c.requires

pub put_slot_back-requires : goal.put_slot_back-requires
put_slot_back-requires c = asks_table c.args.self.now c.requires

pub returns-clause-back : goal.returns-clause-back
returns-clause-back c = back_goes_back c.args.self.now _ c.requires c.put_slot_back.ensures.table c.put_slot_back.ensures.none c.take_back_slots.ensures
