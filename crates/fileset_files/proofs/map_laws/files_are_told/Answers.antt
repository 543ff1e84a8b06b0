use Rattle.std.proofs.Common.{◌∙◌, ap}
use Rattle.std.specs.Option.{option_and_then, option_map}
use Rattle.fileset_files.specs.State.{FileState, States}
use Rattle.fileset_files.proofs.Told.{told_attributes, told_index, told_keep, told_place}
use Rattle.fileset_files.specs.States.{live_at, place_in}
use Rattle.fileset_files.proofs.map_laws.files_are_told.Goals as goal

pub returns-clause-attributes : goal.returns-clause-attributes
returns-clause-attributes c = λ fileset places space cells pages tag states told was is.
    is was.chains was.together.files ∙ told_attributes fileset places pages was.chains was.together.files tag ∙ ap (λ (s : States). option_map (λ (state : FileState). state.attributes) (live_at s tag)) was.are

pub returns-clause-keep : goal.returns-clause-keep
returns-clause-keep c = λ fileset places space cells pages tag states told was is.
    is was.chains was.together.files ∙ told_keep fileset places pages was.chains was.together.files tag ∙ ap (λ (s : States). option_map (λ (state : FileState). state.keep) (live_at s tag)) was.are

pub returns-clause-index : goal.returns-clause-index
returns-clause-index c = λ fileset places space cells pages tag states told was is.
    is was.chains was.together.files ∙ told_index fileset places pages was.chains was.together.files tag ∙ ap (λ (s : States). option_and_then (λ (state : FileState). state.index) (live_at s tag)) was.are

pub returns-clause-home : goal.returns-clause-home
returns-clause-home c = λ fileset places space cells pages tag page states told was is.
    is was.chains was.together.files ∙ told_place fileset places pages was.chains was.together.files tag page ∙ ap (λ (s : States). place_in s tag page) was.are
