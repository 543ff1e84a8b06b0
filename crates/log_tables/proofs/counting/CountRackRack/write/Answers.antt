use Rattle.std.proofs.Common.{◌*◌, length}
use Rattle.std.proofs.lemmas.Result.{on_ok_weaker, on_err_weaker}
use Rattle.memory_disk.specs.Memory.{memory_disk}
use Rattle.log_tables.proofs.UntoldCalls.{WriteDone-untold, WriteFailed-untold}
use Rattle.log_tables.proofs.counting.CountRackRack.write.Goals as goal

pub returns-clause-done : goal.returns-clause-done
returns-clause-done c =
    on_ok_weaker c.write.result (WriteDone-untold c.args.self.now.fold (memory_disk c.args.self.now.rack) (memory_disk c.write.new.self) c.args.vol _ (512 * c.args.block) _ c.args.bytes.now) c.write.ensures.done

pub returns-clause-failed : goal.returns-clause-failed
returns-clause-failed c =
    on_err_weaker c.write.result (WriteFailed-untold c.args.self.now.fold (memory_disk c.args.self.now.rack) (memory_disk c.write.new.self) c.args.vol _ _ (512 * c.args.block) (length c.args.bytes.now)) c.write.ensures.failed
