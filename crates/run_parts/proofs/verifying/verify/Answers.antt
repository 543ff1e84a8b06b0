use Rattle.run_parts.proofs.Faults.{faults_listed, filesets_counted, verified}
use Rattle.run_parts.proofs.verifying.verify.Goals as goal

pub returns-in-Ok-clause-ends : goal.returns-in-Ok-clause-ends
returns-in-Ok-clause-ends g c =
    let old = g.R.Rack.disk c.args.rack.now in
    let new = g.R.Rack.disk c.read_image.new.rack in
    verified old new _ c.print_faults.result _ _ (faults_listed old c.in-Ok.meaning c.in-Ok.ensures.meaning) c.print_faults.ensures.ends

pub returns-in-Ok-clause-counted : goal.returns-in-Ok-clause-counted
returns-in-Ok-clause-counted g c =
    filesets_counted (g.R.Rack.disk c.args.rack.now) c.in-Ok.meaning c.counts_of.result c.in-Ok.ensures.meaning c.counts_of.ensures
