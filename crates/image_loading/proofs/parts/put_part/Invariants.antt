use Rattle.std.proofs.Common.{◌≡◌, ◌*◌}
use Rattle.slot_files.specs.volume_disk.Disk.{Disk, Tells}
use Rattle.slot_files.specs.volume_disk.Image.{bytes_at}
use Rattle.image_loading.specs.Loading.{Brings}
use Rattle.image_loading.specs.Rows.{AreThereFrom}
use Rattle.image_loading.proofs.parts.put_part.Given as goal

abbrev pub invariant-loop-number : goal.invariant-loop-number
invariant-loop-number g l =
    let pages = g.M.MetaPages.pages in
    record {
      brings : (disk : Disk) → (Tells disk → l.bytes ≡ bytes_at disk.now.contents l.vol (512 * (16 * l.first)) (8192 * l.count)) → Brings disk disk (pages l.fn.pages) (pages l.pages);
      before : g.M.MetaPages.before l.pages ≡ g.M.MetaPages.before l.fn.pages;
      there : AreThereFrom l.vol l.first l.number (pages l.pages);
    }
