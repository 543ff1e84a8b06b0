use Rattle.standing_laws.specs.domain_standing.Domain.{all_of}
use Rattle.release_laws.proofs.Entries.{gives_none}
use Rattle.release_laws.proofs.SpacesOver.{space_over}
use Rattle.release_laws.proofs.bits.kept_space_stays_over_steps.Goals as goal

pub returns : goal.returns
returns c group count d now files files_now indexes below alone r = space_over group d.frame.version (all_of d files) count (all_of now files_now) below.chains.well r.steps (gives_none d files indexes below alone)
