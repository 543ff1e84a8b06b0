use Rattle.std.proofs.Common.{◌∙◌, sym}
use Rattle.std.specs.Option.{option_and_then}
use Rattle.fileset_files.specs.State.{state_of}
use Rattle.fileset_files.proofs.Created.{one_chains}
use Rattle.fileset_files.proofs.map_laws.files_are_one_map.Goals as goal

pub returns : goal.returns
returns c = λ fileset places space other_space cells other_cells pages states others one other.
    sym one.are ∙ (λ i tag. option_and_then state_of (one_chains pages fileset places one.chains other.chains one.together.files other.together.files tag i)) ∙ other.are
