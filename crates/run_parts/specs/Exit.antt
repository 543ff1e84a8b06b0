-- The numbers with which the program ends, and the statuses of errors.
use Rattle.std.specs.Prelude.{ℕ}
use Rattle.script_text.specs.declared.script.ScriptFault.{ScriptFault}
use Rattle.script_text.specs.declared.script.ScriptFault.TheVariants as fault
use Rattle.run_parts.specs.declared.print.PrintError.{PrintError}
use Rattle.run_parts.specs.declared.print.PrintError.TheVariants as print
use Rattle.run_parts.specs.declared.status.Status.{Status}
use Rattle.run_parts.specs.declared.status.Status.TheVariants as status
use Rattle.run_parts.specs.declared.transfer.ReadError.{ReadError}
use Rattle.run_parts.specs.declared.transfer.ReadError.TheVariants as read

-- the number with which a command ends, by its status
abbrev pub exit_number : Status → ℕ
exit_number status.Ok = 0
exit_number (status.Usage word) = 2
exit_number status.SourceFault = 3
exit_number status.TooLong = 4
exit_number (status.BadScript line kind) = 5
exit_number (status.NotADomain vol at) = 6
exit_number (status.VolumeFault vol) = 7
exit_number status.SinkFault = 8
exit_number (status.Found faults) = 9
exit_number status.OutOfMemory = 10
exit_number (status.VolumeSmall pages) = 11
exit_number (status.Occupied page) = 13
exit_number (status.Unfit why) = 15

-- the status of a script that could not be read
abbrev pub status_of_read : ReadError → Status
status_of_read read.SourceFault = status.SourceFault
status_of_read read.TooLong = status.TooLong
status_of_read read.OutOfMemory = status.OutOfMemory

-- the status of a script with a bad line
abbrev pub status_of_fault : ScriptFault → Status
status_of_fault (fault.Bad line kind) = status.BadScript line kind
status_of_fault fault.OutOfMemory = status.OutOfMemory

-- the status of a run whose history could not be printed
abbrev pub status_of_print : PrintError → Status
status_of_print print.SinkFault = status.SinkFault
status_of_print print.OutOfMemory = status.OutOfMemory
