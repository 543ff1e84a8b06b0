use Rattle.domain_standing.proofs.OneMeaning.{reads_so}
use Rattle.domain_standing.proofs.meaning.a_domain_reads_so.Goals as goal

pub returns : goal.returns
returns c = reads_so
