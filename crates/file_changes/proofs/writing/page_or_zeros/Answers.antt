use Rattle.std.proofs.Common.{◌≡◌, ℕ, IfOk, List, Option, subst, unwrap_or}
use Rattle.domain_memory.specs.domain_base.Page.{zero_bytes}
use Rattle.file_changes.proofs.writing.page_or_zeros.Goals as goal

pub returns-in-Some : goal.returns-in-Some
returns-in-Some c = λ path all entry fileset has.
    subst (λ (o : Option (List ℕ)). IfOk c.copy.result (λ copy. copy ≡ unwrap_or o (zero_bytes 8192))) (c.in-Some.ensures.is path all entry fileset has) c.copy.ensures.value

pub returns-in-None : goal.returns-in-None
returns-in-None c = λ path all entry fileset has.
    subst (λ (o : Option (List ℕ)). IfOk c.zeros.result (λ copy. copy ≡ unwrap_or o (zero_bytes 8192))) (c.in-None.ensures.is path all entry fileset has) c.zeros.ensures.value
