use Rattle.std.proofs.Common.{◌≡◌, ℕ, ◌*◌, length, sym, ◌∙◌, ap, subst, arith}
use Rattle.std.proofs.lemmas.Bool.{both_ways}
use Rattle.volume_disk.specs.Disk.{Moment, MayTear, raised_at}
use Rattle.memory_disk.specs.Memory.{memory_disk, past_of}
use Rattle.memory_disk.specs.Moment.{IsPending, torn}
use Rattle.memory_disk.specs.Volume.{moment_of, settled_of}
use Rattle.memory_disk.proofs.OneMore.{SyncFailed-past, WriteFailed-untorn, kept_added, makes_added}
use Rattle.memory_disk.proofs.Moments.{MayTear-torn, torn-pending}
use Rattle.memory_disk.proofs.Replays.{from_err, from_ok}
use Rattle.memory_disk.proofs.memory.MemoryRack.fail_write.Goals as goal

pub returns-then-self-clause-failed : goal.returns-then-self-clause-failed
returns-then-self-clause-failed c = WriteFailed-untorn (memory_disk c.args.self.now) (memory_disk c.fail_untorn.new.self) c.args.vol (512 * c.args.block) (length c.args.bytes.now) c.fail_untorn.ensures

pub returns-then-is_err-clause-failed : goal.returns-then-is_err-clause-failed
returns-then-is_err-clause-failed c =
    let rack = c.args.self.now in
    let old = memory_disk rack in
    let new = memory_disk c.fail_untorn-then-is_err.new.self in
    let same : c.keep_failed_write.new.kept.items ≡ rack.kept.items = from_err c.keep_failed_write.result (sym c.is_err.ensures.value ∙ c.if-is_err.true) c.keep_failed_write.ensures.err in
    WriteFailed-untorn old new c.args.vol (512 * c.args.block) (length c.args.bytes.now)
    (SyncFailed-past old new c.args.vol (past_of rack.keeps rack.calls (settled_of rack.first.items.items) c.keep_failed_write.new.kept.items) (ap (past_of rack.keeps rack.calls (settled_of rack.first.items.items)) same) c.fail_untorn-then-is_err.ensures)

pub invariant_of-self-2 : goal.invariant_of-self-2
invariant_of-self-2 c =
    let rack = c.args.self.now in
    let effect : Moment → Moment = λ moment. torn moment c.args.vol (512 * c.args.block) (length c.args.bytes.now) in
    let adds = from_ok c.keep_failed_write.result (sym c.is_err.ensures.value ∙ c.if-is_err.false) c.keep_failed_write.ensures.ok in
    let counted = c.count_write_fault.ensures in
    let added =
    kept_added rack c.keep_failed_write.new.kept.items c.args.vol c.args.block (length c.args.bytes.now) effect adds c.count_write_fault.new.self.items.items (counted.sizes ∙ c.tear.ensures.counts.sizes)
    (counted.moment ∙ c.tear.ensures.moment) c.requires.in_rack.1 c.requires.whole c.requires.within in
    record { numbered = added.numbered; fit = added.fit; same_sizes = added.same_sizes; replays = added.replays }

pub returns-clause-failed : goal.returns-clause-failed
returns-clause-failed c =
    let rack = c.args.self.now in
    let at = 512 * c.args.block in
    let now = moment_of rack.volumes.items.items in
    let effect : Moment → Moment = λ moment. torn moment c.args.vol at (length c.args.bytes.now) in
    let adds = from_ok c.keep_failed_write.result (sym c.is_err.ensures.value ∙ c.if-is_err.false) c.keep_failed_write.ensures.ok in
    let torn_counts = c.tear.ensures.counts in
    let counted = c.count_write_fault.ensures in
    record {
      makes = makes_added rack c.keep_failed_write.new.kept.items c.args.vol c.args.block (length c.args.bytes.now) effect adds c.count_write_fault.new.self.items.items (counted.sizes ∙ torn_counts.sizes) _ _ (omega arith)
          (counted.read_faults ∙ torn_counts.read_faults)
          (counted.write_faults ∙ ap (λ (faults : ℕ → ℕ). raised_at faults c.args.vol) torn_counts.write_faults);
      tears = λ told. subst (MayTear c.args.vol at (length c.args.bytes.now) now) (sym (counted.moment ∙ c.tear.ensures.moment)) (MayTear-torn now c.args.vol at (length c.args.bytes.now));
    }

pub returns-then-is_err-clause-tears : goal.returns-then-is_err-clause-tears
returns-then-is_err-clause-tears c unkept range =
    absurd (both_ways c.args.self.now.keeps unkept (from_err c.keep_failed_write.result (sym c.is_err.ensures.value ∙ c.if-is_err.true) c.keep_failed_write.ensures.short))

pub returns-clause-tears : goal.returns-clause-tears
returns-clause-tears c unkept range =
    let now = moment_of c.args.self.now.volumes.items.items in
    subst (λ (moment : Moment). IsPending moment c.args.vol (512 * c.args.block) (length c.args.bytes.now)) (sym (c.count_write_fault.ensures.moment ∙ c.tear.ensures.moment))
    (torn-pending now c.args.vol (512 * c.args.block) (length c.args.bytes.now))
