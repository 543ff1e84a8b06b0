use Rattle.std.proofs.Common.{◌∙◌, ap, sym}
use Rattle.file_chains.specs.extent_maps.Runs.{home_at}
use Rattle.file_chains.specs.Files.{places_of}
use Rattle.fileset_files.proofs.Moved.{home_is, no_home}
use Rattle.fileset_files.proofs.moving.switch_at.Goals as goal

pub returns-in_default-clause-err : goal.returns-in_default-clause-err
returns-in_default-clause-err g c = λ chain is.
    absurd (no_home (places_of chain c.args.page) (c.requires.there chain is) (sym c.in_default.is ∙ c.home.ensures ∙ ap home_at (c.find_place.ensures chain is)))

pub returns-in-Ok-clause-was : goal.returns-in-Ok-clause-was
returns-in-Ok-clause-was g c = λ chain is.
    home_is (places_of chain c.args.page) c.in-Some.was (sym c.in-Some.is ∙ c.home.ensures ∙ ap home_at (c.find_place.ensures chain is))

pub returns-in-Err-clause-err : goal.returns-in-Err-clause-err
returns-in-Err-clause-err g c = λ chain is. record { none = c.in-Err.ensures.err; full = c.in-Err.ensures.full chain is }
