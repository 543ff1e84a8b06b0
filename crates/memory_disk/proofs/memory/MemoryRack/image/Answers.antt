use Rattle.std.proofs.Common.{◌≡◌, ◌==◌, Bool, true, false, [], sym, ◌∙◌, ap, subst}
use Rattle.std.specs.List.{list_any}
use Rattle.volume_disk.specs.Disk.{Moment, MayLeave, moment_at}
use Rattle.memory_disk.specs.Kept.{replayed}
use Rattle.memory_disk.specs.Memory.{memory_disk, past_of}
use Rattle.memory_disk.specs.Volume.{settled_of, sizes_of}
use Rattle.memory_disk.proofs.Replays.{AreUpTo-none, AreFit-none, past_of-none, moment_at-replayed}
use Rattle.memory_disk.proofs.memory.MemoryRack.image.Goals as goal

pub invariant_of-result : goal.invariant_of-result
invariant_of-result c =
    let none : c.new-2.result.items ≡ [] = c.new-2.ensures.items in
    let volumes = c.in_ok-volumes.volumes.items.items in
    let first = c.in_ok-first.ensures in
    record {
      numbered = AreUpTo-none 0 c.new-2.result.items none;
      fit = AreFit-none (sizes_of volumes) c.new-2.result.items none;
      same_sizes = λ keeps. first.sizes;
      replays = λ keeps. rw none ((λ i. record { contents = (first.moment i).contents; unsynced = λ _ _. false }) ∙ sym c.in_ok-volumes.ensures.left.settled);
    }

pub returns : goal.returns
returns c =
    let rack = c.args.self.now in
    let first = settled_of rack.first.items.items in
    let volumes = c.in_ok-volumes.volumes.items.items in
    let left = c.in_ok-volumes.ensures.left in
    let keeps = c.requires.kept in
    let past : past_of rack.keeps rack.calls first rack.kept.items ≡ past_of true rack.calls first rack.kept.items = ap (λ (b : Bool). past_of b rack.calls first rack.kept.items) keeps in
    let same : moment_at (memory_disk rack) c.args.call ≡ replayed first rack.kept.items c.args.call = moment_at-replayed (memory_disk rack) first rack.kept.items c.args.call past (rack.replays keeps) c.requires.made in
    let none : c.new.result.items ≡ [] = c.new.ensures.items in
    record {
      image = (settled_of volumes).contents;
      left = subst (λ (m : Moment). MayLeave m (settled_of volumes).contents) (sym same) left.left;
      all_written = λ zero. left.all_written zero ∙ (λ i. (sym same i).contents);
      is = λ i. record {
        calls = 0;
        sizes = c.in_ok-volumes.ensures.sizes i;
        read_faults = left.read_faults i;
        write_faults = left.write_faults i;
        fails = λ n. list_any (λ call. call == n) (none i);
        told = true;
        now = left.settled i;
        kept = true;
        past = past_of-none true (settled_of c.in_ok-first.first.items.items) c.new-2.result.items i;
      };
    }
