use Rattle.std.proofs.Common.{◌<◌, ◌*◌, length, arith}
use Rattle.std.proofs.lemmas.Result.{on_ok_weaker, on_err_weaker}
use Rattle.memory_disk.specs.Memory.{memory_disk}
use Rattle.memory_disk.proofs.Fused.{ReadDone-fused, Makes-fused}
use Rattle.memory_disk.proofs.fuse.FuseRackRack.read.Goals as goal

pub returns-then-calls-self-clause-failed : goal.returns-then-calls-self-clause-failed
returns-then-calls-self-clause-failed c = Makes-fused (memory_disk c.args.self.now.rack) (memory_disk c.fail_read.new.self) c.args.self.now.last _ _ _ c.fail_read.ensures

pub returns-clause-done : goal.returns-clause-done
returns-clause-done c =
    let before : (memory_disk c.args.self.now.rack).calls < c.args.self.now.last = omega arith in
    on_ok_weaker c.read.result (ReadDone-fused (memory_disk c.args.self.now.rack) (memory_disk c.read.new.self) c.args.self.now.last c.args.vol (512 * c.args.block) (length c.args.out.now) c.read.new.out before) c.read.ensures.done

pub returns-clause-failed : goal.returns-clause-failed
returns-clause-failed c = on_err_weaker c.read.result (Makes-fused (memory_disk c.args.self.now.rack) (memory_disk c.read.new.self) c.args.self.now.last _ _ _) c.read.ensures.failed
