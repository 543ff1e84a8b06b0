-- With which numbers the program ends.
use Rattle.std.specs.Prelude.{◌≡◌, ◌⊎◌, ℕ, Result, Ok, Err}
use Rattle.advfs_run.specs.run_parts.Exit.{exit_number}
use Rattle.advfs_run.specs.run_parts.declared.status.Status.{Status}
use Rattle.advfs_program.specs.declared.opening.Refused.{Refused}
use Rattle.advfs_program.specs.declared.opening.Refused.TheVariants.{Answer, Ended, Image, Script}

-- the number for what was done, or for why nothing was: that of its status; 12 if a script or an
-- image was not taken; or 14 if a command was refused of a script that the program made
abbrev pub number_of : Result Status Refused → ℕ
number_of (Ok status) = exit_number status
number_of (Err (Ended status)) = exit_number status
number_of (Err (Script word error)) = 12
number_of (Err (Image word fault)) = 12
number_of (Err (Answer line)) = 14

-- it is one of these
abbrev pub IsExit : ℕ → Type 0
IsExit number = ((status : Status) × (number ≡ exit_number status))
    ⊎ (number ≡ 12) ⊎ (number ≡ 14)
