use Rattle.std.proofs.Common.{◌≡◌, false, refl, sym, ◌∙◌, subst}
use Rattle.volume_disk.specs.Disk.{Moment, MayLeave}
use Rattle.volume_disk.specs.Image.{Image}
use Rattle.memory_disk.specs.Bytes.{are_bytes}
use Rattle.memory_disk.specs.Kept.{replayed}
use Rattle.memory_disk.specs.Volume.{moment_of, settled_of}
use Rattle.memory_disk.proofs.memory.MemoryRack.left.Goals as goal

pub returns-then-pick-eq0-clause-left : goal.returns-then-pick-eq0-clause-left
returns-then-pick-eq0-clause-left c =
    let now = c.in_ok-now.now.items.items in
    let written = c.in_ok-written.written.items.items in
    let was = replayed (settled_of c.args.self.now.first.items.items) c.args.self.now.kept.items c.args.call in
    let same : moment_of now ≡ was = c.in_ok-now.ensures.moment in
    let made = c.in_ok-written.ensures in
    let contents : (settled_of written).contents ≡ (moment_of now).contents = λ i. (made.moment i).contents in
    let held : MayLeave (moment_of now) (moment_of now).contents = record { synced = λ v k synced. refl; bytes = are_bytes now } in
    record {
      left = subst (λ (image : Image). MayLeave was image) (sym contents) (subst (λ (m : Moment). MayLeave m (moment_of now).contents) same held);
      all_written = λ zero. contents ∙ (λ i. (same i).contents);
      settled = made.moment ∙ (λ i. record { contents = sym contents i; unsynced = λ _ _. false });
      read_faults = made.read_faults;
      write_faults = made.write_faults;
    }
