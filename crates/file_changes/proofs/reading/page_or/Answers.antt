use Rattle.std.proofs.Common.{ℕ, List, Option, ap, unwrap_or}
use Rattle.file_changes.proofs.reading.page_or.Goals as goal

pub returns-in-Some : goal.returns-in-Some
returns-in-Some c = λ path all entry fileset has. ap (λ (o : Option (List ℕ)). unwrap_or o c.args.zeros.now) (c.in-Some.ensures.is path all entry fileset has)

pub returns-in-None : goal.returns-in-None
returns-in-None c = λ path all entry fileset has. ap (λ (o : Option (List ℕ)). unwrap_or o c.args.zeros.now) (c.in-None.ensures.is path all entry fileset has)
