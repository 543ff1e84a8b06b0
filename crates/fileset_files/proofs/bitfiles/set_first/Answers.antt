use Rattle.fileset_files.proofs.FirstRoom.{first_room}
use Rattle.fileset_files.proofs.bitfiles.set_first.Goals as goal

pub set_record-requires-clause-room : goal.set_record-requires-clause-room
set_record-requires-clause-room g c =
    first_room (g.M.MetaPages.pages c.args.pages.now) c.args.at.now c.requires.room.cell c.args.value.now c.requires.room.stands c.requires.room.kinds c.requires.kind c.requires.allowed
