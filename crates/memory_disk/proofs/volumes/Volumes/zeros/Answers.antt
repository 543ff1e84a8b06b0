use Rattle.std.proofs.Common.{sym}
use Rattle.std.proofs.lemmas.List.{take_more}
use Rattle.memory_disk.proofs.VolumeFields.{moment_of-push, sizes_of-push, field_of-push}
use Rattle.memory_disk.proofs.volumes.Volumes.zeros.Goals as goal

pub loop-pages-preserved : goal.loop-pages-preserved
loop-pages-preserved c =
    let pushed = c.in_ok-push.ensures.items in
    let so_far = c.loop-pages.invariant in
    let volume = c.in_ok-zeros.field-0 in
    let made = c.in_ok-zeros.ensures in
    record {
      moment = rw pushed (moment_of-push c.loop-pages.items.items volume so_far.moment made.bytes made.marks);
      sizes = rw (pushed, sizes_of-push, so_far.sizes, made.pages) (sym (take_more c.args.sizes.now c.loop-pages.pages-index 0 c.loop-pages-test.true));
      read_faults = rw pushed (field_of-push (λ v. v.read_faults) 0 c.loop-pages.items.items volume so_far.read_faults made.read_faults);
      write_faults = rw pushed (field_of-push (λ v. v.write_faults) 0 c.loop-pages.items.items volume so_far.write_faults made.write_faults);
    }
