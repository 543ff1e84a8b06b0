use Rattle.std.proofs.Common.{inl, subst, sym}
use Rattle.advfs_run.specs.run_parts.declared.status.Status.TheVariants.{OutOfMemory}
use Rattle.advfs_program.specs.Exits.{IsExit}
use Rattle.advfs_program.proofs.Exits.{is_exit}
use Rattle.advfs_program.proofs.command_line.perform.Goals as goal

pub returns-in_default : goal.returns-in_default
returns-in_default g c = inl (OutOfMemory, c.exit_number.ensures)

pub returns : goal.returns
returns g c = subst IsExit (sym c.number_of.ensures) (is_exit c.start-done.result)
