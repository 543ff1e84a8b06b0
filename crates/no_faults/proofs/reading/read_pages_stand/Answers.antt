use Rattle.no_faults.proofs.Domain.{files}
use Rattle.no_faults.proofs.Held.{holds_owned}
use Rattle.no_faults.proofs.Indexed.{indexes}
use Rattle.no_faults.proofs.ReadChains.{chains_stand}
use Rattle.no_faults.proofs.Rest.{says_the_rest}
use Rattle.no_faults.proofs.reading.read_pages_stand.Goals as goal

pub returns : goal.returns
returns c d is = (files d is, indexes d is, chains_stand d is, holds_owned d is, says_the_rest d is)
