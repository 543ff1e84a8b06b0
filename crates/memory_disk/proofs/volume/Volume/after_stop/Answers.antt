use Rattle.std.proofs.Common.{◌≡◌, ◌≢◌, ℕ, ◌/◌, true, sym, ◌∙◌, ap}
use Rattle.std.proofs.lemmas.Bool.{both_ways}
use Rattle.memory_disk.specs.Marks.{is_marked}
use Rattle.memory_disk.specs.Volume.{byte_of, mark_of}
use Rattle.memory_disk.proofs.volume.Volume.after_stop.Goals.{then-is_set, else-is_set}
use Rattle.memory_disk.proofs.volume.Volume.after_stop.Goals as goal

pub loop-block-init : goal.loop-block-init
loop-block-init c =
    let made = c.in_ok-left.ensures in
    record {
      left = λ k synced. ap (λ (each : ℕ → ℕ). each k) made.bytes;
      marks = made.marks;
      pages = made.pages;
      read_faults = made.read_faults;
      write_faults = made.write_faults;
    }

pub loop-block-preserved : goal.loop-block-preserved
loop-block-preserved c =
    let so_far = c.loop-block.invariant in
    elim c.if-is_set.branch [
      | then-is_set w ↦
          let made = w.take_block.ensures in
          let marked : is_marked c.args.self.now.unsynced.words.items c.loop-block.block ≡ true = sym c.is_set.ensures ∙ w.if-is_set.true in
          record {
            left = λ k synced.
                let other : k / 512 ≢ c.loop-block.block = λ is. both_ways (is_marked c.args.self.now.unsynced.words.items c.loop-block.block) (ap (is_marked c.args.self.now.unsynced.words.items) (sym is) ∙ synced) marked in
                (λ i. byte_of (w.left-is i) k) ∙ made.others k other ∙ so_far.left k synced;
            marks = (λ i. mark_of (w.left-is i)) ∙ (λ i k. is_marked (made.unsynced i).words.items (k / 512)) ∙ so_far.marks;
            pages = (λ i. (w.left-is i).pages) ∙ made.pages ∙ so_far.pages;
            read_faults = (λ i. (w.left-is i).read_faults) ∙ made.read_faults ∙ so_far.read_faults;
            write_faults = (λ i. (w.left-is i).write_faults) ∙ made.write_faults ∙ so_far.write_faults;
          }
      | else-is_set w ↦
          record {
            left = λ k synced. (λ i. byte_of (w.left-is i) k) ∙ so_far.left k synced;
            marks = (λ i. mark_of (w.left-is i)) ∙ so_far.marks;
            pages = (λ i. (w.left-is i).pages) ∙ so_far.pages;
            read_faults = (λ i. (w.left-is i).read_faults) ∙ so_far.read_faults;
            write_faults = (λ i. (w.left-is i).write_faults) ∙ so_far.write_faults;
          }
    ]
