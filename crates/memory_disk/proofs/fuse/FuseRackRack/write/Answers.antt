use Rattle.std.proofs.Common.{◌<◌, ◌*◌, length, arith}
use Rattle.std.proofs.lemmas.Result.{on_ok_weaker, on_err_weaker}
use Rattle.memory_disk.specs.Memory.{memory_disk}
use Rattle.memory_disk.proofs.Fused.{WriteDone-fused, WriteFailed-fused}
use Rattle.memory_disk.proofs.fuse.FuseRackRack.write.Goals as goal

pub returns-then-calls-self-clause-failed : goal.returns-then-calls-self-clause-failed
returns-then-calls-self-clause-failed c = WriteFailed-fused (memory_disk c.args.self.now.rack) (memory_disk c.fail_write.new.self) c.args.self.now.last c.args.vol (512 * c.args.block) (length c.args.bytes.now) c.fail_write.ensures.failed

pub returns-clause-done : goal.returns-clause-done
returns-clause-done c =
    let before : (memory_disk c.args.self.now.rack).calls < c.args.self.now.last = omega arith in
    on_ok_weaker c.write.result (WriteDone-fused (memory_disk c.args.self.now.rack) (memory_disk c.write.new.self) c.args.self.now.last c.args.vol (512 * c.args.block) c.args.bytes.now before) c.write.ensures.done

pub returns-clause-failed : goal.returns-clause-failed
returns-clause-failed c = on_err_weaker c.write.result (WriteFailed-fused (memory_disk c.args.self.now.rack) (memory_disk c.write.new.self) c.args.self.now.last c.args.vol (512 * c.args.block) (length c.args.bytes.now)) c.write.ensures.failed
