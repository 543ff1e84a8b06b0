-- Commands that may want pages.
use Rattle.file_commands.specs.fileset_values.declared.command.Command.{Command}
use Rattle.file_commands.specs.fileset_values.declared.command.Command.TheVariants.{Create, Link, Mkdir, Mkfset, Rename, Setquota, Write}

-- those of the commands answered here that may be answered no-space
abbrev pub MayTake : Command → Type 0
MayTake (Mkfset fileset) = Unit {0}
MayTake (Setquota fileset who files blocks) = Unit {0}
MayTake (Create place uid gid) = Unit {0}
MayTake (Mkdir place uid gid) = Unit {0}
MayTake (Write place offset bytes) = Unit {0}
MayTake (Rename place to) = Unit {0}
MayTake (Link place to) = Unit {0}
MayTake command = ⊥
