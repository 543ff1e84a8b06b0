use Rattle.std.proofs.lemmas.Result.{on_ok_weaker, on_err_weaker}
use Rattle.memory_disk.specs.Memory.{memory_disk}
use Rattle.log_tables.proofs.UntoldCalls.{Makes-untold, SyncDone-untold, has_volume}
use Rattle.log_tables.proofs.counting.CountRackRack.sync.Goals as goal

pub returns-clause-done : goal.returns-clause-done
returns-clause-done c = on_ok_weaker c.sync.result (SyncDone-untold c.args.self.now.fold (memory_disk c.args.self.now.rack) (memory_disk c.sync.new.self) c.args.vol) c.sync.ensures.done

pub returns-clause-failed : goal.returns-clause-failed
returns-clause-failed c = on_err_weaker c.sync.result (Makes-untold c.args.self.now.fold (memory_disk c.args.self.now.rack) (memory_disk c.sync.new.self) _ _ _ _) c.sync.ensures.failed
