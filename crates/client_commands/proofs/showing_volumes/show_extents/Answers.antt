use Rattle.std.proofs.Common.{ap, subst, sym}
use Rattle.file_commands.specs.fileset_values.declared.command.Command.TheVariants.{Showfile}
use Rattle.file_commands.specs.fileset_values.declared.reply.Reply.{Reply}
use Rattle.file_commands.specs.fileset_values.declared.reply.Reply.TheVariants.{Extents}
use Rattle.client_commands.specs.Shown.{IsShown}
use Rattle.client_commands.proofs.FileShown.{directory_shown, file_shown}
use Rattle.file_commands.proofs.OfNameCommands.PlacedThere.{file_of, placed_as}
use Rattle.client_commands.proofs.showing_volumes.show_extents.Goals as goal

pub returns-in-Directory : goal.returns-in-Directory
returns-in-Directory c = λ all place p.
    let memory = c.args.memory.now in
    directory_shown memory all place c.args.at.number c.args.at.tag (placed_as memory all place c.args.at.number c.args.at.tag c.args.at.kind _ c.in-Directory.is p)

pub returns-in_ok-extents-in-File : goal.returns-in_ok-extents-in-File
returns-in_ok-extents-in-File c = λ all place p.
    let memory = c.args.memory.now in
    let q = placed_as memory all place c.args.at.number c.args.at.tag c.args.at.kind _ c.in-File.is p in
    let extents = c.in_ok-extents-in-File.extents.items in
    subst (λ (reply : Reply). IsShown memory all (Showfile place) reply) (sym (ap Extents c.from_vec.ensures))
    (file_shown memory all place c.args.at.number c.args.at.tag q extents
    (λ members within. c.in_ok-extents-in-File.ensures.shown place.path all q.entry q.fileset members (file_of memory all place c.args.at.number c.args.at.tag _ q) within)
    c.in_ok-extents-in-File.ensures.there)
