use Rattle.std.proofs.Common.{◌-◌, ◌≡◌, ◌+◌, ◌*◌, ◌<◌, ◌≤◌, ℕ, length}
use Rattle.attached_domain.specs.staged_pages.Store.{pages_of}
use Rattle.attached_domain.specs.volume_disk.Disk.{Tells}
use Rattle.attached_domain.specs.volume_disk.Image.{page_at}
use Rattle.attached_domain.specs.volume_disk.Run.{Touches}
use Rattle.domain_attaching.specs.Closing.{IsOnRow, StandsHome, page_in}
use Rattle.domain_attaching.proofs.row.write_changed.Given as goal

abbrev pub invariant-loop-at : goal.invariant-loop-at
invariant-loop-at g l =
    let disk = g.R.Rack.disk in
    record {
      touches : Touches (disk l.fn.rack) (disk l.rack) (IsOnRow l.vol l.first l.count);
      passed : (disk l.rack).write_faults ≡ (disk l.fn.rack).write_faults;
      size : length l.found ≡ 8192 * l.count;
      home : Tells (disk l.fn.rack) → (k : ℕ) → k < l.at → k < l.count → StandsHome (pages_of l.pages) (disk l.rack).now.contents (record { vol = l.vol; page = l.first + k });
      read : Tells (disk l.fn.rack) → (k : ℕ) → l.at ≤ k → k < l.count → page_in l.found k ≡ page_at (disk l.rack).now.contents l.vol (l.first + k);
    }

abbrev pub decreases-loop-at : goal.decreases-loop-at
decreases-loop-at g l = l.count - l.at
