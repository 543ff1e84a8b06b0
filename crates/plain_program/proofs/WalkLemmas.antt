-- The walk along a path, directory by directory.
use Rattle.std.proofs.Common.{◌≡◌, ℕ, suc, ◌+◌, ◌-◌, ◌<◌, ◌∷◌, List, Option, length, map, take, ap, subst, sym, ◌∙◌, arith}
use Rattle.std.specs.List.{range_with_len}
use Rattle.legal_histories.specs.fileset_values.Orders.{Path}
use Rattle.legal_histories.specs.fileset_model.Paths.{directory_refusal, first_refusal, walk_refusal}
use Rattle.legal_histories.specs.fileset_values.declared.reply.Refusal.{Refusal}
use Rattle.legal_histories.specs.fileset_model.declared.fileset.FilesetSlot.{FilesetSlot}
use Rattle.plain_program.specs.Stops.{StopsFor}
use Rattle.plain_program.specs.declared.stop.Stop.{Stop}
use Rattle.plain_program.specs.declared.stop.Stop.TheVariants.{Refused, OutOfMemory}

-- what is left of the walk from the directory of `count` names on
abbrev pub rest_of_walk : FilesetSlot → Path → ℕ → Option Refusal
rest_of_walk slot path count = first_refusal (map (directory_refusal slot) (map (λ k. take k path) (range_with_len count (length path - count))))

-- it begins with that directory
pub walk-step : (slot : FilesetSlot) (path : Path) (count : ℕ) → count < length path
    → rest_of_walk slot path count ≡ first_refusal (directory_refusal slot (take count path) ∷ map (directory_refusal slot) (map (λ k. take k path) (range_with_len (count + 1) (length path - (count + 1)))))
walk-step slot path count h =
    let one_more : length path - count ≡ suc (length path - (count + 1)) = omega arith in
    ap (λ n. first_refusal (map (directory_refusal slot) (map (λ k. take k path) (range_with_len count n)))) one_more

-- what stops the first of some checks stops them all
stops_at_first : (refusal : Option Refusal) (more : List (Option Refusal)) (stop : Stop) → StopsFor refusal stop → StopsFor (first_refusal (refusal ∷ more)) stop
stops_at_first refusal more (Refused why) is = ap (λ o. first_refusal (o ∷ more)) is
stops_at_first refusal more OutOfMemory is = tt

-- what stops at a directory on the way stops the walk, if the directories before it are passed
pub stops_on_walk : (slot : FilesetSlot) (path : Path) (count : ℕ) (stop : Stop) → count < length path → rest_of_walk slot path count ≡ walk_refusal slot path
    → StopsFor (directory_refusal slot (take count path)) stop → StopsFor (walk_refusal slot path) stop
stops_on_walk slot path count stop within passed here =
    let more = map (directory_refusal slot) (map (λ k. take k path) (range_with_len (count + 1) (length path - (count + 1)))) in
    subst (λ refusal. StopsFor refusal stop) (sym (walk-step slot path count within) ∙ passed)
    (stops_at_first (directory_refusal slot (take count path)) more stop here)
