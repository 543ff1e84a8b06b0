-- A rack that was left alone.
use Rattle.std.proofs.Common.{inl, ℕ}
use Rattle.no_faults.specs.domain_base.declared.version.Version.{Version}
use Rattle.no_faults.specs.volume_disk.Disk.{Disk}
use Rattle.no_faults.specs.volume_disk.Run.{LeavesOnly}
use Rattle.no_faults.proofs.OfVolumeDisk.Laws.{started, untorn}
use Rattle.no_faults.specs.disk_label.Slot.{IsGate}
use Rattle.no_faults.specs.domain_making.Making.{AreSlotsReady, IsNoneOrEmpty}

-- each image that a stop may leave has no anchor that counts, as slots that are ready say
pub none_yet : (version : Version) (pages : ℕ) (disk : Disk) → AreSlotsReady disk → LeavesOnly disk disk (IsNoneOrEmpty disk.sizes version pages)
none_yet version pages disk ready = started disk (IsNoneOrEmpty disk.sizes version pages) (λ image may. inl (ready.0 image (untorn (IsGate 1 0) disk.now image may)))
