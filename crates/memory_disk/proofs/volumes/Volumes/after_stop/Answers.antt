use Rattle.std.proofs.Common.{◌≡◌, ◌<◌, ◌∷◌, ◌++◌, [], false, length, get_or, sym, ◌∙◌, arith}
use Rattle.std.proofs.lemmas.List.{take_more}
use Rattle.memory_disk.specs.Volume.{byte_of, mark_of, field_of, sizes_of}
use Rattle.memory_disk.proofs.VolumeFields.{field_of-push, sizes_of-push, length-sizes_of, pages_at}
use Rattle.memory_disk.proofs.Stopped.{KeepsSynced-more, length-more, MayLeave-all}
use Rattle.memory_disk.proofs.volumes.Volumes.after_stop.Goals as goal

pub loop-i-preserved : goal.loop-i-preserved
loop-i-preserved c =
    let old = c.args.self.now.items.items in
    let items = c.loop-i.items.items in
    let later = c.push.new.self.items in
    let new = c.in_ok-after_stop.field-0 in
    let v = c.index-volume.result.now in
    let i = c.loop-i.i in
    let so_far = c.loop-i.invariant in
    let made = c.in_ok-after_stop.ensures in
    let pushed : later ≡ items ++ new ∷ [] = c.in_ok-push.ensures.items in
    let lt : i < length old = omega arith in
    let size : i < length (sizes_of old) = omega (arith, length-sizes_of old) in
    let pages : new.pages ≡ get_or (sizes_of old) i 0 = made.pages ∙ sym (pages_at old i v lt ∙ (λ j. (sym c.index-volume.ensures j).pages)) in
    record {
      count = length-more old items later new v i pushed so_far.count lt c.index-volume.ensures;
      left = KeepsSynced-more old items later new v i pushed so_far.count lt c.index-volume.ensures so_far.left made.left;
      marks = rw pushed (field_of-push mark_of (λ _. false) items new so_far.marks made.marks);
      sizes = rw (pushed, sizes_of-push, so_far.sizes, pages) (sym (take_more (sizes_of old) i 0 size));
      read_faults = rw pushed (field_of-push (λ v. v.read_faults) 0 items new so_far.read_faults made.read_faults);
      write_faults = rw pushed (field_of-push (λ v. v.write_faults) 0 items new so_far.write_faults made.write_faults);
    }

pub returns-clause-left : goal.returns-clause-left
returns-clause-left c = MayLeave-all c.args.self.now.items.items c.loop-i.items.items c.loop-i.i c.loop-i.invariant.count (omega arith) c.loop-i.invariant.left

pub returns-clause-settled : goal.returns-clause-settled
returns-clause-settled c = λ i. record { contents = field_of byte_of (λ _. 0) c.loop-i.items.items; unsynced = c.loop-i.invariant.marks i }
