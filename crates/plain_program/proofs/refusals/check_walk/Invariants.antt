use Rattle.std.proofs.Common.{◌≡◌, ◌-◌, length, map, take}
use Rattle.std.specs.List.{range_with_len}
use Rattle.legal_histories.specs.fileset_model.Paths.{directory_refusal, first_refusal, walk_refusal}
use Rattle.plain_program.proofs.refusals.check_walk.Given as goal

abbrev pub invariant-loop-count : goal.invariant-loop-count
invariant-loop-count l =
    first_refusal (map (directory_refusal l.slot) (map (λ count. take count l.path) (range_with_len l.count (length l.path - l.count)))) ≡ walk_refusal l.slot l.path
