-- The numbers with which the program ends.
use Rattle.std.proofs.Common.{Result, Ok, Err, inl, inr, refl}
use Rattle.advfs_run.specs.run_parts.declared.status.Status.{Status}
use Rattle.advfs_program.specs.Exits.{IsExit, number_of}
use Rattle.advfs_program.specs.declared.opening.Refused.{Refused}
use Rattle.advfs_program.specs.declared.opening.Refused.TheVariants.{Answer, Ended, Image, Script}

pub is_exit : (done : Result Status Refused) → IsExit (number_of done)
is_exit (Ok status) = inl (status, refl)
is_exit (Err (Ended status)) = inl (status, refl)
is_exit (Err (Script word error)) = inr (inl refl)
is_exit (Err (Image word fault)) = inr (inl refl)
is_exit (Err (Answer line)) = inr (inr refl)
