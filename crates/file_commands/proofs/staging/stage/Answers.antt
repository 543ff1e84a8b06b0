use Rattle.std.proofs.Common.{◌≡◌, IfErr, refl, subst, sym}
use Rattle.name_commands.specs.fileset_values.declared.command.Command.{Command}
use Rattle.name_commands.specs.Ending.{LacksPage}
use Rattle.name_commands.specs.declared.stop.Stop.TheVariants.{NoPage}
use Rattle.file_commands.proofs.Stops.{ends_same}
use Rattle.file_commands.proofs.staging.stage.Goals as goal
use Rattle.file_commands.proofs.staging.stage.Goals.{in-Mkfset, in-Rmfset, in-Setquota}

pub returns-clause-ends : goal.returns-clause-ends
returns-clause-ends c = λ all stands. elim c.match-command.branch [
  | in-Mkfset w ↦ ends_same c.match-command.memory _ all c.args.command.now _ c.match-command.answer _ w.memory-is w.in-Mkfset.is w.answer-is (w.stage_fileset-answer.ensures.ends all stands)
  | in-Rmfset w ↦ ends_same c.match-command.memory _ all c.args.command.now _ c.match-command.answer _ w.memory-is w.in-Rmfset.is w.answer-is (w.stage_removal-answer.ensures.ends all stands)
  | in-Setquota w ↦ ends_same c.match-command.memory _ all c.args.command.now _ c.match-command.answer _ w.memory-is w.in-Setquota.is w.answer-is (w.stage_limits-answer.ensures.ends all stands)
]

pub returns-in-Create-clause-ends : goal.returns-in-Create-clause-ends
returns-in-Create-clause-ends c = λ all stands. ends_same c.stage_making.result.0 _ all c.args.command.now _ c.stage_making.result.1 _ refl c.in-Create.is refl (c.stage_making.ensures.ends all stands)

pub returns-in-Mkdir-clause-ends : goal.returns-in-Mkdir-clause-ends
returns-in-Mkdir-clause-ends c = λ all stands. ends_same c.stage_making-in-Mkdir.result.0 _ all c.args.command.now _ c.stage_making-in-Mkdir.result.1 _ refl c.in-Mkdir.is refl (c.stage_making-in-Mkdir.ensures.ends all stands)

pub returns-in-Link-clause-ends : goal.returns-in-Link-clause-ends
returns-in-Link-clause-ends c = λ all stands. ends_same c.stage_linking.result.0 _ all c.args.command.now _ c.stage_linking.result.1 _ refl c.in-Link.is refl (c.stage_linking.ensures.ends all stands)

pub returns-in-Unlink-clause-ends : goal.returns-in-Unlink-clause-ends
returns-in-Unlink-clause-ends c = λ all stands. ends_same c.stage_leaving.result.0 _ all c.args.command.now _ c.stage_leaving.result.1 _ refl c.in-Unlink.is refl (c.stage_leaving.ensures.ends all stands)

pub returns-in-Rmdir-clause-ends : goal.returns-in-Rmdir-clause-ends
returns-in-Rmdir-clause-ends c = λ all stands. ends_same c.stage_leaving-in-Rmdir.result.0 _ all c.args.command.now _ c.stage_leaving-in-Rmdir.result.1 _ refl c.in-Rmdir.is refl (c.stage_leaving-in-Rmdir.ensures.ends all stands)

pub returns-in-Rename-clause-ends : goal.returns-in-Rename-clause-ends
returns-in-Rename-clause-ends c = λ all stands. ends_same c.stage_moving.result.0 _ all c.args.command.now _ c.stage_moving.result.1 _ refl c.in-Rename.is refl (c.stage_moving.ensures.ends all stands)

pub returns-in-Read-clause-ends : goal.returns-in-Read-clause-ends
returns-in-Read-clause-ends c = λ all stands. ends_same c.stage_read.result.0 _ all c.args.command.now _ c.stage_read.result.1 _ refl c.in-Read.is refl (c.stage_read.ensures.ends all stands)

pub returns-in-Links-clause-ends : goal.returns-in-Links-clause-ends
returns-in-Links-clause-ends c = λ all stands. ends_same c.stage_links.result.0 _ all c.args.command.now _ c.stage_links.result.1 _ refl c.in-Links.is refl (c.stage_links.ensures.ends all stands)

pub returns-in-List-clause-ends : goal.returns-in-List-clause-ends
returns-in-List-clause-ends c = λ all stands. ends_same c.stage_list.result.0 _ all c.args.command.now _ c.stage_list.result.1 _ refl c.in-List.is refl (c.stage_list.ensures.ends all stands)

pub returns-in-Stat-clause-ends : goal.returns-in-Stat-clause-ends
returns-in-Stat-clause-ends c = λ all stands. ends_same c.stage_stat.result.0 _ all c.args.command.now _ c.stage_stat.result.1 _ refl c.in-Stat.is refl (c.stage_stat.ensures.ends all stands)

pub returns-in-Showfsets-clause-ends : goal.returns-in-Showfsets-clause-ends
returns-in-Showfsets-clause-ends c = λ all stands. ends_same c.stage_showfsets.result.0 _ all c.args.command.now _ c.stage_showfsets.result.1 _ refl c.in-Showfsets.is refl (c.stage_showfsets.ensures.ends all stands)

pub returns-in-Showquota-clause-ends : goal.returns-in-Showquota-clause-ends
returns-in-Showquota-clause-ends c = λ all stands. ends_same c.stage_showquota.result.0 _ all c.args.command.now _ c.stage_showquota.result.1 _ refl c.in-Showquota.is refl (c.stage_showquota.ensures.ends all stands)

pub returns-in-Fsync-clause-ends : goal.returns-in-Fsync-clause-ends
returns-in-Fsync-clause-ends c = λ all stands. ends_same c.stage_fsync.result.0 _ all c.args.command.now _ c.stage_fsync.result.1 _ refl c.in-Fsync.is refl (c.stage_fsync.ensures.ends all stands)

pub returns-in-Sync-clause-ends : goal.returns-in-Sync-clause-ends
returns-in-Sync-clause-ends c = λ all stands. ends_same c.stage_nothing.result.0 _ all c.args.command.now _ c.stage_nothing.result.1 _ refl c.in-Sync.is refl (c.stage_nothing.ensures.sync all stands)

pub returns-in-Cancel-clause-ends : goal.returns-in-Cancel-clause-ends
returns-in-Cancel-clause-ends c = λ all stands. ends_same c.stage_nothing-in-Cancel.result.0 _ all c.args.command.now _ c.stage_nothing-in-Cancel.result.1 _ refl c.in-Cancel.is refl (c.stage_nothing-in-Cancel.ensures.cancel all stands)

pub returns-in-Write-clause-ends : goal.returns-in-Write-clause-ends
returns-in-Write-clause-ends c = λ all stands. ends_same c.stage_write.result.0 _ all c.args.command.now _ c.stage_write.result.1 _ refl c.in-Write.is refl (c.stage_write.ensures.ends all stands)

pub returns-in-Truncate-clause-ends : goal.returns-in-Truncate-clause-ends
returns-in-Truncate-clause-ends c = λ all stands. ends_same c.stage_truncate.result.0 _ all c.args.command.now _ c.stage_truncate.result.1 _ refl c.in-Truncate.is refl (c.stage_truncate.ensures.ends all stands)

pub returns-in-Chfile-clause-ends : goal.returns-in-Chfile-clause-ends
returns-in-Chfile-clause-ends c = λ all stands. ends_same c.stage_chfile.result.0 _ all c.args.command.now _ c.stage_chfile.result.1 _ refl c.in-Chfile.is refl (c.stage_chfile.ensures.ends all stands)

pub returns-in-Write-clause-cause : goal.returns-in-Write-clause-cause
returns-in-Write-clause-cause c = subst (λ (x : Command). IfErr c.stage_write.result.1 (λ stop. stop ≡ NoPage → LacksPage x c.args.memory)) (sym c.in-Write.is) c.stage_write.ensures.cause
