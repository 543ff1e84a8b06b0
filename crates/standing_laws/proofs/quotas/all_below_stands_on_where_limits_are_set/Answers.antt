use Rattle.standing_laws.proofs.QuotaChains.{chains_stand}
use Rattle.standing_laws.proofs.QuotaHeld.{owned_still}
use Rattle.standing_laws.proofs.QuotaRest.{rest_stands}
use Rattle.standing_laws.proofs.QuotaTables.{tables_stand}
use Rattle.standing_laws.proofs.quotas.all_below_stands_on_where_limits_are_set.Goals as goal

pub returns : goal.returns
returns c = λ number d now files files_now indexes below s. record {
  tables = tables_stand number d now files files_now indexes below s;
  chains = chains_stand number d now files files_now indexes below s;
  owned = owned_still number d now files files_now indexes below s;
  rest = rest_stands number d now files files_now indexes below s;
}
