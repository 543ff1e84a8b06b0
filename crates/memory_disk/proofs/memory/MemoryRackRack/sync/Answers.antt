use Rattle.std.proofs.Common.{◌≡◌, ◌≤◌, ◌+◌, ◌*◌, refl, sym, ◌∙◌, ap, subst, arith}
use Rattle.volume_disk.specs.Disk.{Moment, Syncs, volume_pages}
use Rattle.memory_disk.specs.Memory.{memory_disk, past_of}
use Rattle.memory_disk.specs.Moment.{synced}
use Rattle.memory_disk.specs.Volume.{moment_of, settled_of, sizes_of}
use Rattle.memory_disk.proofs.OneMore.{SyncFailed-past, kept_added, makes_added}
use Rattle.memory_disk.proofs.Moments.{Syncs-synced}
use Rattle.memory_disk.proofs.Replays.{from_err, from_ok}
use Rattle.memory_disk.proofs.memory.MemoryRackRack.sync.Goals as goal

pub returns-then-is_err-clause-failed : goal.returns-then-is_err-clause-failed
returns-then-is_err-clause-failed c =
    let rack = c.args.self.now in
    let same : c.keep.new.kept.items ≡ rack.kept.items = from_err c.keep.result (sym c.is_err.ensures.value ∙ c.if-is_err.true) c.keep.ensures.err in
    SyncFailed-past (memory_disk rack) (memory_disk c.fail_untorn-then-is_err.new.self) c.args.vol (past_of rack.keeps rack.calls (settled_of rack.first.items.items) c.keep.new.kept.items) (ap (past_of rack.keeps rack.calls (settled_of rack.first.items.items)) same) c.fail_untorn-then-is_err.ensures

pub invariant_of-self-2 : goal.invariant_of-self-2
invariant_of-self-2 c =
    let rack = c.args.self.now in
    let effect : Moment → Moment = λ moment. synced moment c.args.vol in
    let adds = from_ok c.keep.result (sym c.is_err.ensures.value ∙ c.if-is_err.false) c.keep.ensures.ok in
    let within : 512 * 0 + 0 ≤ 8192 * volume_pages (sizes_of rack.volumes.items.items) c.args.vol = omega arith in
    let added = kept_added rack c.keep.new.kept.items c.args.vol 0 0 effect adds c.sync.new.self.items.items c.sync.ensures.counts.sizes c.sync.ensures.moment c.requires.1 refl within in
    record { numbered = added.numbered; fit = added.fit; same_sizes = added.same_sizes; replays = added.replays }

pub returns-clause-done : goal.returns-clause-done
returns-clause-done c =
    let rack = c.args.self.now in
    let now = moment_of rack.volumes.items.items in
    let effect : Moment → Moment = λ moment. synced moment c.args.vol in
    let adds = from_ok c.keep.result (sym c.is_err.ensures.value ∙ c.if-is_err.false) c.keep.ensures.ok in
    let counts = c.sync.ensures.counts in
    let passed = c.must_fail.ensures.passes c.if-must_fail.false in
    record {
      makes = makes_added rack c.keep.new.kept.items c.args.vol 0 0 effect adds c.sync.new.self.items.items counts.sizes _ _ passed.0 counts.read_faults counts.write_faults;
      syncs = λ told. subst (Syncs c.args.vol now) (sym c.sync.ensures.moment) (Syncs-synced now c.args.vol);
      passed = passed;
    }
