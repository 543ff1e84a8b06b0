-- What stands in a `MetaLog`.
use Rattle.std.specs.Prelude.{◌≡◌, ◌≤◌, drop, take, vec_len}
use Rattle.log_ring.specs.domain_base.Limits.{log_pages}
use Rattle.meta_log.specs.Log.{IsLog, Log}
use Rattle.meta_log.specs.declared.log.MetaLog.TheInside.{Inside}

-- the log that it is
abbrev pub log_of : Inside → Log
log_of log = record {
  anchor = log.anchor;
  groups = log.groups;
  logged = take log.logged log.slots.items;
  pending = drop log.logged (take log.end log.slots.items);
}

-- it has a slot for each place of the ring
pub record IsSound (log : Inside) : Type 0 where
  pub is : IsLog (log_of log)
  pub order : log.logged ≤ log.end
  pub within : log.end ≤ vec_len log.slots
  pub slots : vec_len log.slots ≡ log_pages
