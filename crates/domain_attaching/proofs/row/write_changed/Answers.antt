use borrow.Rule.Slice.PartMut.{mid_len}
use Rattle.std.proofs.Common.{◌≡◌, ◌∙◌, ◌⊎◌, ℕ, ◌+◌, ◌-◌, ◌*◌, ◌<◌, ◌≤◌, List, length, slice_range, refl, arith}
use Rattle.attached_domain.specs.volume_disk.Disk.{Tells}
use Rattle.attached_domain.specs.volume_disk.Image.{IsIn}
use Rattle.attached_domain.proofs.OfVolumeDisk.Laws.{touches-none, touches-then, touches-wider}
use Rattle.attached_domain.specs.staged_pages.Store.{pages_of}
use Rattle.domain_bringing.proofs.InARow.{written_in}
use Rattle.domain_bringing.proofs.OfImageLoading.PagesRead.{read_in}
use Rattle.domain_attaching.specs.Closing.{IsOnRow}
use Rattle.domain_attaching.proofs.Rows.{all_of_row, home_more, part_of_row, passed_over, read_more}
use Rattle.domain_attaching.proofs.row.write_changed.Goals as goal
use Rattle.domain_attaching.proofs.row.write_changed.Goals.{else-at-end, then-at-end+in_ok-write_blocks}

pub loop-at-init : goal.loop-at-init
loop-at-init g c =
    let old = g.R.Rack.disk c.args.rack.now in
    record {
      touches = touches-none old (IsOnRow c.args.vol c.args.first c.args.count);
      passed = refl;
      size = c.requires.buffer;
      home = λ told k less. absurd (omega (arith, less));
      read = λ told k low inside. read_in old.now.contents c.args.vol c.args.first c.args.count k (8192 * k) (8192 * k + 8192) c.args.found.now (c.requires.read told) inside refl refl;
    }

pub loop-at-preserved : goal.loop-at-preserved
loop-at-preserved g c =
    let vol = c.args.vol in
    let first = c.args.first in
    let count = c.args.count in
    let at = c.loop-at.at in
    let end = c.lay_changed-end.result in
    let found = c.loop-at.found in
    let laid = c.lay_changed-end.new.found in
    let is = c.lay_changed-end.ensures in
    let so = c.loop-at.invariant in
    let pages = pages_of c.args.pages.now in
    let old = g.R.Rack.disk c.args.rack.now in
    let mid = g.R.Rack.disk c.loop-at.rack in
    let size : length laid ≡ 8192 * count = is.buffer ∙ so.size in
    elim c.if-at-end.branch [
      | then-at-end+in_ok-write_blocks w ↦
          let new = g.R.Rack.disk w.write_blocks.new.rack in
          let bytes : List ℕ = slice_range laid (at * 8192) (end * 8192) in
          let fits : end * 8192 ≤ length laid = omega (arith, size, is.most) in
          let long : length bytes ≡ 8192 * end - 8192 * at = mid_len (at * 8192) (end * 8192) laid fits ∙ omega arith in
          let touched = w.write_blocks.ensures.writes.touches in
          let outside = λ (told : Tells (g.R.Rack.disk c.loop-at.rack)) (k : ℕ) (inside : k < count) (apart : (k < at) ⊎ (end ≤ k)). passed_over mid.now.contents new.now.contents vol first at end (length bytes) (touched.contents told) long is.from k apart in
          rw (w.rack-is)
          (record {
            touches = touches-then old mid new (IsOnRow vol first count) so.touches (touches-wider mid new (IsIn vol (512 * (16 * (first + at))) (length bytes)) (IsOnRow vol first count) (part_of_row vol first count at end (length bytes) long is.from is.most) touched);
            passed = w.in_ok-write_blocks.ensures.fault ∙ so.passed;
            size = size;
            home = λ told.
                let told_mid = so.touches.told ∙ told in
                home_more pages vol first count at end found laid mid.now.contents new.now.contents is.from size is.most is.laid is.rest (so.home told) (so.read told)
                (outside told_mid)
                (λ k low less. written_in new.now.contents vol first at end k (8192 * k) (8192 * k + 8192) (at * 8192) (end * 8192) laid bytes refl refl refl fits (w.in_ok-write_blocks.ensures.written told_mid).written low less refl refl);
            read = λ told.
                let told_mid = so.touches.told ∙ told in
                read_more pages vol first count at end found laid mid.now.contents new.now.contents is.rest (so.read told) is.from (outside told_mid);
          })
      | else-at-end w ↦
          rw (w.rack-is)
          (record {
            touches = so.touches;
            passed = so.passed;
            size = size;
            home = λ told.
                home_more pages vol first count at end found laid mid.now.contents mid.now.contents is.from size is.most is.laid is.rest (so.home told) (so.read told)
                (λ k inside apart. refl) (λ k low less. absurd (omega (arith, low, less, w.if-at-end.false)));
            read = λ told. read_more pages vol first count at end found laid mid.now.contents mid.now.contents is.rest (so.read told) is.from (λ k inside apart. refl);
          })
    ]

pub returns-in_err-write_blocks-clause-touches : goal.returns-in_err-write_blocks-clause-touches
returns-in_err-write_blocks-clause-touches g c =
    let vol = c.args.vol in
    let first = c.args.first in
    let count = c.args.count in
    let at = c.loop-at.at in
    let end = c.lay_changed-end.result in
    let laid = c.lay_changed-end.new.found in
    let is = c.lay_changed-end.ensures in
    let so = c.loop-at.invariant in
    let old = g.R.Rack.disk c.args.rack.now in
    let mid = g.R.Rack.disk c.loop-at.rack in
    let new = g.R.Rack.disk c.write_blocks.new.rack in
    let bytes : List ℕ = slice_range laid (at * 8192) (end * 8192) in
    let fits : end * 8192 ≤ length laid = omega (arith, is.buffer, so.size, is.most) in
    let long : length bytes ≡ 8192 * end - 8192 * at = mid_len (at * 8192) (end * 8192) laid fits ∙ omega arith in
    touches-then old mid new (IsOnRow vol first count) so.touches (touches-wider mid new (IsIn vol (512 * (16 * (first + at))) (length bytes)) (IsOnRow vol first count) (part_of_row vol first count at end (length bytes) long is.from is.most) c.write_blocks.ensures.writes.touches)

pub returns-clause-there : goal.returns-clause-there
returns-clause-there g c = λ told.
    all_of_row (pages_of c.args.pages.now) (g.R.Rack.disk c.loop-at.rack).now.contents c.args.vol c.args.first c.args.count c.loop-at.at (omega (arith, c.loop-at-test.false)) (c.loop-at.invariant.home told)
