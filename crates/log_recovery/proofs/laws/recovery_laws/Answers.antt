use Rattle.log_recovery.proofs.GoodAnchors.{keeps_good_anchor, keeps_good_beside, leaves_readable, restarts_good}
use Rattle.log_recovery.proofs.OneOutcome.{has_no_fault, has_one_fault, has_one_log}
use Rattle.log_recovery.proofs.Readied.{readies_to_settle, stays_recovered}
use Rattle.log_recovery.proofs.SettledAnchors.{may_settle_synced, settles_as_moves}
use Rattle.log_recovery.proofs.laws.recovery_laws.Goals as goal

pub returns : goal.returns
returns c = record {
  synced = may_settle_synced;
  readied = readies_to_settle;
  readying = stays_recovered;
  settles = settles_as_moves;
  sound = has_no_fault;
  one = has_one_fault;
  one_log = has_one_log;
  keeps = keeps_good_anchor;
  beside = keeps_good_beside;
  restarts = restarts_good;
  readable = leaves_readable;
}
