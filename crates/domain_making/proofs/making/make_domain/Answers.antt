use Rattle.domain_making.specs.Making.{pages_in_use}
use Rattle.domain_making.proofs.First.{not_begun}
use Rattle.domain_making.proofs.making.make_domain.Goals as goal

-- nothing was written
pub returns-in_err-new-clause-over : goal.returns-in_err-new-clause-over
returns-in_err-new-clause-over g c = λ told.
    let disk = g.R.Rack.disk c.args.rack.now in
    not_begun c.args.version (pages_in_use c.args.version disk.sizes) disk
