use Rattle.std.proofs.Common.{◌*◌, length}
use Rattle.std.proofs.lemmas.Result.{on_ok_weaker, on_err_weaker}
use Rattle.memory_disk.specs.Memory.{memory_disk}
use Rattle.log_tables.proofs.UntoldCalls.{Makes-untold, ReadDone-untold}
use Rattle.log_tables.proofs.counting.CountRackRack.read.Goals as goal

pub returns-clause-done : goal.returns-clause-done
returns-clause-done c =
    on_ok_weaker c.read.result (ReadDone-untold c.args.self.now.fold (memory_disk c.args.self.now.rack) (memory_disk c.read.new.self) c.args.vol _ _ (512 * c.args.block) (length c.args.out.now) _ _) c.read.ensures.done

pub returns-clause-failed : goal.returns-clause-failed
returns-clause-failed c = on_err_weaker c.read.result (Makes-untold c.args.self.now.fold (memory_disk c.args.self.now.rack) (memory_disk c.read.new.self) _ _ _ _) c.read.ensures.failed
