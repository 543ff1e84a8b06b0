use Rattle.std.proofs.Common.{◌≡◌, ◌<◌, ◌∷◌, ◌++◌, List, [], false, length, get_or, sym, ◌∙◌, ap, arith}
use Rattle.std.proofs.lemmas.List.{take_more}
use Rattle.memory_disk.specs.Volume.{mark_of, sizes_of}
use Rattle.memory_disk.proofs.VolumeFields.{field_of-push, sizes_of-push, length-sizes_of, pages_at}
use Rattle.memory_disk.proofs.Stopped.{KeepsAll-more, length-more, contents-all}
use Rattle.memory_disk.specs.declared.volume.Volume.{Volume}
use Rattle.memory_disk.proofs.volumes.Volumes.copy.Goals as goal

pub loop-volume-preserved : goal.loop-volume-preserved
loop-volume-preserved c =
    let old = c.args.self.now.items.items in
    let items = c.loop-volume.items.items in
    let later = c.push.new.self.items in
    let new = c.in_ok-copy.field-0 in
    let v = c.volume-item.result in
    let i = c.loop-volume.volume-index in
    let so_far = c.loop-volume.invariant in
    let made = c.in_ok-copy.ensures in
    let pushed : later ≡ items ++ new ∷ [] = c.in_ok-push.ensures.items in
    let lt : i < length old = omega arith in
    let read : v ≡ get_or old i v = c.volume-item.is ∙ ap (λ (l : List Volume). get_or l i v) c.deref-volume-items.ensures.value in
    let size : i < length (sizes_of old) = omega (arith, length-sizes_of old) in
    let pages : new.pages ≡ get_or (sizes_of old) i 0 = made.pages ∙ sym (pages_at old i v lt ∙ (λ j. (sym read j).pages)) in
    record {
      count = length-more old items later new v i pushed so_far.count lt read;
      same = KeepsAll-more old items later new v i pushed so_far.count lt read so_far.same made.bytes;
      marks = rw pushed (field_of-push mark_of (λ _. false) items new so_far.marks made.marks);
      sizes = rw (pushed, sizes_of-push, so_far.sizes, pages) (sym (take_more (sizes_of old) i 0 size));
      read_faults = rw pushed (field_of-push (λ v. v.read_faults) 0 items new so_far.read_faults made.read_faults);
      write_faults = rw pushed (field_of-push (λ v. v.write_faults) 0 items new so_far.write_faults made.write_faults);
    }

pub returns-clause-moment : goal.returns-clause-moment
returns-clause-moment c = λ i. record {
  contents = contents-all c.args.self.now.items.items c.loop-volume.items.items c.loop-volume.volume-index c.loop-volume.invariant.count (omega arith) c.loop-volume.invariant.same i;
  unsynced = c.loop-volume.invariant.marks i;
}
