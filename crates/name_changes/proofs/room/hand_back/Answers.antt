use Rattle.name_changes.proofs.Roomy.{hands_back}
use Rattle.name_changes.proofs.room.hand_back.Goals as goal

pub returns-clause-back : goal.returns-clause-back
returns-clause-back c = hands_back c.args.chosen c.back-memory.result c.make_room-room.new.memory c.back-memory.ensures c.make_room-room.ensures.same c.make_room-room.ensures.list c.make_room-room.ensures.more
