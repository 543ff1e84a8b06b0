use Rattle.legal_histories.proofs.SyncedLemmas.{outlasts}
use Rattle.legal_histories.proofs.legal.a_synced_file_outlasts_a_stop.Goals as goal

pub returns : goal.returns
returns c = outlasts
