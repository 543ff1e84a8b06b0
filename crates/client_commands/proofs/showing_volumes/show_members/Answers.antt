use Rattle.std.proofs.Common.{ap}
use Rattle.file_commands.specs.fileset_values.declared.reply.Reply.TheVariants.{Volumes}
use Rattle.client_commands.proofs.HeldWithin.{some_fits}
use Rattle.client_commands.proofs.showing_volumes.show_members.Goals as goal

pub lines_of-requires : goal.lines_of-requires
lines_of-requires c = record { fits = some_fits c.args.memory.now c.requires.settled c.requires.stands c.misses.ensures.sound }

pub returns : goal.returns
returns c = λ all. (c.in_ok-lines.lines.items, ap Volumes c.from_vec.ensures, record { shown = c.in_ok-lines.ensures.shown; held = c.in_ok-lines.ensures.held })
