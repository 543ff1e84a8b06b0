use Rattle.std.proofs.Common.{◌≡◌, ◌-◌, ◌*◌, ◌<◌, length}
use Rattle.attached_domain.specs.log_ring.Homes.{member_of}
use Rattle.attached_domain.specs.volume_disk.Disk.{Tells}
use Rattle.attached_domain.specs.volume_disk.Run.{Touches}
use Rattle.attached_domain.specs.staged_pages.Store.{pages_of}
use Rattle.domain_attaching.specs.Closing.{AreTheseHome, IsChosen, IsOnThese, StayHome}
use Rattle.domain_attaching.proofs.homeward.bring_home_on.Given as goal

abbrev pub invariant-loop-page : goal.invariant-loop-page
invariant-loop-page g l =
    let disk = g.R.Rack.disk in
    let anchor = l.memory.frame.anchor in
    record {
      touches : Touches (disk l.fn.rack) (disk l.rack) (IsOnThese (IsChosen anchor l.tables l.of_tables));
      buffer : length l.found ≡ 8192 * 64;
      passed : (disk l.rack).write_faults ≡ (disk l.fn.rack).write_faults;
      stays : StayHome (pages_of l.memory.pages) anchor (disk l.fn.rack) (disk l.rack);
      there : Tells (disk l.fn.rack) → AreTheseHome (λ home. (home.vol ≡ l.vol) × (home.page < l.page) × IsChosen anchor l.tables l.of_tables home) (pages_of l.memory.pages) anchor (disk l.rack).now.contents;
    }

abbrev pub decreases-loop-page : goal.decreases-loop-page
decreases-loop-page g l = (member_of l.memory.frame.anchor l.vol).pages - l.page
