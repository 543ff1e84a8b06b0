use Rattle.std.proofs.Common.{◌∙◌, ap}
use Rattle.no_faults.specs.page_ways.Frame.{frame_in}
use Rattle.no_faults.proofs.OfDomainMemory.KeptStands.{stands_so}
use Rattle.domain_state.proofs.StaysWithin.{within_kept}
use Rattle.domain_state.proofs.laws.a_history_goes_on_over_changes.Goals as goal

pub returns : goal.returns
returns c = λ pages frame sizes old new entries job kept goes. record {
  same = ap frame_in kept.frame ∙ goes.same;
  all = goes.all;
  stands = stands_so old new kept goes.all goes.stands;
  leads = goes.leads;
  within = within_kept pages frame sizes old new entries kept goes.within;
}
