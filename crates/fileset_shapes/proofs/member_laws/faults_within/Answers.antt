use Rattle.fileset_shapes.proofs.FaultsWithin.{faults_within}
use Rattle.fileset_shapes.proofs.member_laws.faults_within.Goals as goal

pub returns : goal.returns
returns c = faults_within
