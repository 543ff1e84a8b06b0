use Rattle.std.proofs.Common.{ℕ}
use Rattle.fileset_shapes.specs.log_ring.Homes.{IsMember}
use Rattle.domain_standing.proofs.Showing.{at_most, indexes, standing}
use Rattle.domain_standing.proofs.standing.files_stand_shown.Goals as goal

pub returns : goal.returns
returns c pages layout space cells number first chains set laid none log few is are has files shows =
    let small = (λ (vol : ℕ) (member : IsMember layout.anchor vol). at_most layout.version _ (few vol member)) in
    (indexes pages layout space cells laid none log small is are number first has chains files, standing pages layout space cells laid none log small is are number first has chains files set shows)
