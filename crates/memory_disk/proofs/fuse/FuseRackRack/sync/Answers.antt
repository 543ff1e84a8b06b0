use Rattle.std.proofs.Common.{◌<◌, arith}
use Rattle.std.proofs.lemmas.Result.{on_ok_weaker, on_err_weaker}
use Rattle.memory_disk.specs.Memory.{memory_disk}
use Rattle.memory_disk.proofs.Fused.{SyncDone-fused, Makes-fused}
use Rattle.memory_disk.proofs.fuse.FuseRackRack.sync.Goals as goal

pub returns-then-calls-self-clause-failed : goal.returns-then-calls-self-clause-failed
returns-then-calls-self-clause-failed c = Makes-fused (memory_disk c.args.self.now.rack) (memory_disk c.fail_untorn.new.self) c.args.self.now.last _ _ _ c.fail_untorn.ensures

pub returns-clause-done : goal.returns-clause-done
returns-clause-done c =
    let before : (memory_disk c.args.self.now.rack).calls < c.args.self.now.last = omega arith in
    on_ok_weaker c.sync.result (SyncDone-fused (memory_disk c.args.self.now.rack) (memory_disk c.sync.new.self) c.args.self.now.last c.args.vol before) c.sync.ensures.done

pub returns-clause-failed : goal.returns-clause-failed
returns-clause-failed c = on_err_weaker c.sync.result (Makes-fused (memory_disk c.args.self.now.rack) (memory_disk c.sync.new.self) c.args.self.now.last _ _ _) c.sync.ensures.failed
