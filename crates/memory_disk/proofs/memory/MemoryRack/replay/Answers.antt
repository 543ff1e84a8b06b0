use Rattle.std.proofs.Common.{◌≡◌, ◌<◌, ◌+◌, List, length, get_or, drop, sym, ◌∙◌, ap, arith}
use Rattle.volume_disk.specs.Disk.{Moment}
use Rattle.memory_disk.specs.Kept.{replayed}
use Rattle.memory_disk.specs.Volume.{moment_of, sizes_of}
use Rattle.memory_disk.proofs.Replays.{replayed-made, replayed-passed}
use Rattle.memory_disk.specs.declared.kept.KeptCall.{KeptCall}
use Rattle.memory_disk.proofs.memory.MemoryRack.replay.Goals.{then-kept-call, else-kept-call}
use Rattle.memory_disk.proofs.memory.MemoryRack.replay.Goals as goal

pub loop-kept-init : goal.loop-kept-init
loop-kept-init c =
    let rack = c.args.self.now in
    let made = c.in_ok-now.ensures in
    record {
      moment = ap (λ (m : Moment). replayed m rack.kept.items c.args.call) made.moment;
      sizes = made.sizes ∙ rack.same_sizes c.requires;
    }

pub loop-kept-preserved : goal.loop-kept-preserved
loop-kept-preserved c =
    let rack = c.args.self.now in
    let so_far = c.loop-kept.invariant in
    let i = c.loop-kept.kept-index in
    let kept = c.kept-item.result in
    let lt : i < length rack.kept.items = omega arith in
    let read : kept ≡ get_or rack.kept.items i kept = c.kept-item.is ∙ ap (λ (l : List KeptCall). get_or l i kept) c.deref-kept-items.ensures.value in
    elim c.if-kept-call.branch [
      | then-kept-call w ↦
          let made = w.make.ensures in
          let now : moment_of c.if-kept-call.now.items.items ≡ moment_of w.make.new.self.items.items = λ j. moment_of (w.now-is j).items.items in
          let sizes : sizes_of c.if-kept-call.now.items.items ≡ sizes_of w.make.new.self.items.items = λ j. sizes_of (w.now-is j).items.items in
          record {
            moment = ap (λ (m : Moment). replayed m (drop (i + 1) rack.kept.items) c.args.call) (now ∙ made.moment) ∙ sym (replayed-made (moment_of c.loop-kept.now.items.items) rack.kept.items i kept c.args.call lt read w.if-kept-call.true) ∙ so_far.moment;
            sizes = sizes ∙ made.sizes ∙ so_far.sizes;
          }
      | else-kept-call w ↦
          let now : moment_of c.if-kept-call.now.items.items ≡ moment_of c.loop-kept.now.items.items = λ j. moment_of (w.now-is j).items.items in
          let sizes : sizes_of c.if-kept-call.now.items.items ≡ sizes_of c.loop-kept.now.items.items = λ j. sizes_of (w.now-is j).items.items in
          record {
            moment = ap (λ (m : Moment). replayed m (drop (i + 1) rack.kept.items) c.args.call) now ∙ sym (replayed-passed (moment_of c.loop-kept.now.items.items) rack.kept.items i kept c.args.call lt read w.if-kept-call.false) ∙ so_far.moment;
            sizes = sizes ∙ so_far.sizes;
          }
    ]
