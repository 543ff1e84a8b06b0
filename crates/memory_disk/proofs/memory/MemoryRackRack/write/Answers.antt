use Rattle.std.proofs.Common.{◌≡◌, ◌*◌, length, sym, ◌∙◌, ap, subst}
use Rattle.volume_disk.specs.Disk.{Moment, Writes}
use Rattle.memory_disk.specs.Memory.{memory_disk, past_of}
use Rattle.memory_disk.specs.Moment.{written}
use Rattle.memory_disk.specs.Volume.{moment_of, settled_of}
use Rattle.memory_disk.proofs.OneMore.{SyncFailed-past, WriteFailed-untorn, kept_added, makes_added}
use Rattle.memory_disk.proofs.Moments.{Writes-written}
use Rattle.memory_disk.proofs.Replays.{from_err, from_ok}
use Rattle.memory_disk.proofs.memory.MemoryRackRack.write.Goals as goal

pub returns-then-is_err-clause-failed : goal.returns-then-is_err-clause-failed
returns-then-is_err-clause-failed c =
    let rack = c.args.self.now in
    let old = memory_disk rack in
    let new = memory_disk c.fail_untorn.new.self in
    let same : c.keep_write.new.kept.items ≡ rack.kept.items = from_err c.keep_write.result (sym c.is_err.ensures.value ∙ c.if-is_err.true) c.keep_write.ensures.err in
    WriteFailed-untorn old new c.args.vol (512 * c.args.block) (length c.args.bytes.now)
    (SyncFailed-past old new c.args.vol (past_of rack.keeps rack.calls (settled_of rack.first.items.items) c.keep_write.new.kept.items) (ap (past_of rack.keeps rack.calls (settled_of rack.first.items.items)) same) c.fail_untorn.ensures)

pub invariant_of-self-2 : goal.invariant_of-self-2
invariant_of-self-2 c =
    let bytes = c.args.bytes.now in
    let effect : Moment → Moment = λ moment. written moment c.args.vol (512 * c.args.block) bytes in
    let adds = from_ok c.keep_write.result (sym c.is_err.ensures.value ∙ c.if-is_err.false) c.keep_write.ensures.ok in
    let added =
    kept_added c.args.self.now c.keep_write.new.kept.items c.args.vol c.args.block (length bytes) effect adds c.put.new.self.items.items c.put.ensures.counts.sizes
    c.put.ensures.moment c.requires.in_rack.1 c.requires.whole c.requires.within in
    record { numbered = added.numbered; fit = added.fit; same_sizes = added.same_sizes; replays = added.replays }

pub returns-clause-done : goal.returns-clause-done
returns-clause-done c =
    let rack = c.args.self.now in
    let at = 512 * c.args.block in
    let bytes = c.args.bytes.now in
    let now = moment_of rack.volumes.items.items in
    let effect : Moment → Moment = λ moment. written moment c.args.vol at bytes in
    let adds = from_ok c.keep_write.result (sym c.is_err.ensures.value ∙ c.if-is_err.false) c.keep_write.ensures.ok in
    let counts = c.put.ensures.counts in
    let passed = c.must_fail.ensures.passes c.if-must_fail.false in
    record {
      makes = makes_added rack c.keep_write.new.kept.items c.args.vol c.args.block (length bytes) effect adds c.put.new.self.items.items counts.sizes _ _ passed.0 counts.read_faults counts.write_faults;
      writes = λ told. subst (Writes c.args.vol at bytes now) (sym c.put.ensures.moment) (Writes-written now c.args.vol at bytes);
      passed = passed;
    }
