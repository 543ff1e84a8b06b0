-- What stops some checks stops more checks after them.
use Rattle.std.proofs.Common.{◌≡◌, List, [], ◌∷◌, ◌++◌, Option, Some, None}
use Rattle.legal_histories.specs.fileset_model.Paths.{first_refusal}
use Rattle.legal_histories.specs.fileset_values.declared.reply.Refusal.{Refusal}
use Rattle.plain_program.specs.Stops.{StopsFor}
use Rattle.plain_program.specs.declared.stop.Stop.{Stop}
use Rattle.plain_program.specs.declared.stop.Stop.TheVariants.{Refused, OutOfMemory}

first_of : (checks more : List (Option Refusal)) (refusal : Refusal) → first_refusal checks ≡ Some refusal → first_refusal (checks ++ more) ≡ Some refusal
first_of [] more refusal is = absurd (cc)
first_of (None ∷ checks) more refusal is = first_of checks more refusal is
first_of (Some first ∷ checks) more refusal is = is

pub stops_in_front : (checks more : List (Option Refusal)) (stop : Stop) → StopsFor (first_refusal checks) stop → StopsFor (first_refusal (checks ++ more)) stop
stops_in_front checks more (Refused why) is = first_of checks more why is
stops_in_front checks more OutOfMemory is = tt
