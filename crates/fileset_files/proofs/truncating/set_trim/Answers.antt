use Rattle.std.proofs.Common.{ap}
use Rattle.fileset_files.specs.Files.{is_first_kind}
use Rattle.fileset_files.proofs.Truncated.{room_for_trim, trim_allowed}
use Rattle.fileset_files.proofs.truncating.set_trim.Goals as goal

pub set_two_records-requires-clause-room : goal.set_two_records-requires-clause-room
set_two_records-requires-clause-room g c =
    room_for_trim (g.M.MetaPages.pages c.args.pages.now) c.args.at.now c.requires.room.cell c.args.value.now c.requires.room.stands c.requires.room.kinds (ap is_first_kind c.requires.kind) c.requires.allowed

pub set_two_records-requires-clause-other : goal.set_two_records-requires-clause-other
set_two_records-requires-clause-other g c = trim_allowed
