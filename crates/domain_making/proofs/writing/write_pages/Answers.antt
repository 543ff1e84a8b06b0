use Rattle.std.proofs.Common.{◌∙◌, ℕ, length, ap, sym, subst, arith}
use Rattle.std.proofs.lemmas.Result.{on_ok_weaker}
use Rattle.domain_layout.specs.volume_disk.Disk.{Syncs}
use Rattle.domain_layout.specs.volume_disk.Run.{OnlyWrites}
use Rattle.domain_layout.proofs.OfVolumeDisk.Laws.{only_writes-synced, only_writes-then}
use Rattle.domain_layout.specs.disk_label.FirstPages.{first_pages}
use Rattle.domain_layout.specs.disk_label.declared.first_pages.FirstPages.{FirstPages}
use Rattle.domain_making.specs.Written.{IsOnPages}
use Rattle.domain_making.proofs.NewBits.{bits_length}
use Rattle.domain_making.proofs.Regions.{new_pages_there, written_as}
use Rattle.domain_making.proofs.writing.write_pages.Goals as goal

pub returns-in_err-write_page-2-clause-writes : goal.returns-in_err-write_page-2-clause-writes
returns-in_err-write_page-2-clause-writes g c =
    let d0 = g.R.Rack.disk c.args.rack.now in
    let d1 = g.R.Rack.disk c.write_page.new.rack in
    let d2 = g.R.Rack.disk c.write_page-2.new.rack in
    subst (λ (f : FirstPages). OnlyWrites d0 d2 (IsOnPages f)) c.of-firsts.ensures
    (only_writes-then d0 d1 d2 (IsOnPages c.of-firsts.result) c.write_page.ensures.writes c.write_page-2.ensures.writes)

pub returns-in_err-write_page-3-clause-writes : goal.returns-in_err-write_page-3-clause-writes
returns-in_err-write_page-3-clause-writes g c =
    let d0 = g.R.Rack.disk c.args.rack.now in
    let d1 = g.R.Rack.disk c.write_page.new.rack in
    let d2 = g.R.Rack.disk c.write_page-2.new.rack in
    let d3 = g.R.Rack.disk c.write_page-3.new.rack in
    subst (λ (f : FirstPages). OnlyWrites d0 d3 (IsOnPages f)) c.of-firsts.ensures
    (only_writes-then d0 d2 d3 (IsOnPages c.of-firsts.result) (only_writes-then d0 d1 d2 (IsOnPages c.of-firsts.result) c.write_page.ensures.writes c.write_page-2.ensures.writes) c.write_page-3.ensures.writes)

pub returns-in_err-write_page-4-clause-writes : goal.returns-in_err-write_page-4-clause-writes
returns-in_err-write_page-4-clause-writes g c =
    let d0 = g.R.Rack.disk c.args.rack.now in
    let d1 = g.R.Rack.disk c.write_page.new.rack in
    let d2 = g.R.Rack.disk c.write_page-2.new.rack in
    let d3 = g.R.Rack.disk c.write_page-3.new.rack in
    let d4 = g.R.Rack.disk c.write_page-4.new.rack in
    subst (λ (f : FirstPages). OnlyWrites d0 d4 (IsOnPages f)) c.of-firsts.ensures
    (only_writes-then d0 d3 d4 (IsOnPages c.of-firsts.result)
    (only_writes-then d0 d2 d3 (IsOnPages c.of-firsts.result) (only_writes-then d0 d1 d2 (IsOnPages c.of-firsts.result) c.write_page.ensures.writes c.write_page-2.ensures.writes) c.write_page-3.ensures.writes)
    c.write_page-4.ensures.writes)

pub returns-clause-writes : goal.returns-clause-writes
returns-clause-writes g c =
    let d0 = g.R.Rack.disk c.args.rack.now in
    let d1 = g.R.Rack.disk c.write_page.new.rack in
    let d2 = g.R.Rack.disk c.write_page-2.new.rack in
    let d3 = g.R.Rack.disk c.write_page-3.new.rack in
    let d4 = g.R.Rack.disk c.write_page-4.new.rack in
    let d5 = g.R.Rack.disk c.sync_volume.new.rack in
    subst (λ (f : FirstPages). OnlyWrites d0 d5 (IsOnPages f)) c.of-firsts.ensures
    (only_writes-synced d0 d4 d5 (IsOnPages c.of-firsts.result)
    (only_writes-then d0 d3 d4 (IsOnPages c.of-firsts.result)
    (only_writes-then d0 d2 d3 (IsOnPages c.of-firsts.result) (only_writes-then d0 d1 d2 (IsOnPages c.of-firsts.result) c.write_page.ensures.writes c.write_page-2.ensures.writes) c.write_page-3.ensures.writes)
    c.write_page-4.ensures.writes) c.sync_volume.ensures.writes)

pub returns-clause-written : goal.returns-clause-written
returns-clause-written g c = on_ok_weaker c.sync_volume.result (λ syncs told.
    let d0 = g.R.Rack.disk c.args.rack.now in
    let d1 = g.R.Rack.disk c.write_page.new.rack in
    let d2 = g.R.Rack.disk c.write_page-2.new.rack in
    let d3 = g.R.Rack.disk c.write_page-3.new.rack in
    let d4 = g.R.Rack.disk c.write_page-4.new.rack in
    let d5 = g.R.Rack.disk c.sync_volume.new.rack in
    let firsts = first_pages c.args.version c.args.pages in
    let new = c.args.new.now in
    let told_1 = c.write_page.ensures.writes.touches.told ∙ told in
    let told_2 = c.write_page-2.ensures.writes.touches.told ∙ told_1 in
    let told_3 = c.write_page-3.ensures.writes.touches.told ∙ told_2 in
    let told_4 = c.write_page-4.ensures.writes.touches.told ∙ told_3 in
    let size = bits_length c.args.version c.args.pages firsts.table new.bitmap c.bytes.result.now c.requires.new.bitmap c.bytes.ensures (omega (arith, c.requires.room)) c.requires.most in
    new_pages_there firsts new c.bytes.result.now c.bytes.ensures d0.now d1.now d2.now d3.now d4.now d5.now
    (written_as c.of-firsts.result firsts (λ f. f.bitmap) c.of-firsts.ensures c.bytes.result.now c.bytes.result.now (λ i. c.bytes.result.now) d0.now d1.now (c.in_ok-write_page.ensures.written told))
    (written_as c.of-firsts.result firsts (λ f. f.cells) c.of-firsts.ensures c.bytes-2.result.now new.cells c.bytes-2.ensures.value d1.now d2.now (c.in_ok-write_page-2.ensures.written told_1))
    (written_as c.of-firsts.result firsts (λ f. f.log) c.of-firsts.ensures c.closed_block.result _ c.closed_block.ensures.value d2.now d3.now (c.in_ok-write_page-3.ensures.written told_2))
    (written_as c.of-firsts.result firsts (λ f. f.table) c.of-firsts.ensures c.bytes-3.result.now new.table c.bytes-3.ensures.value d3.now d4.now (c.in_ok-write_page-4.ensures.written told_3))
    (subst (λ (v : ℕ). Syncs v d4.now d5.now) c.first_volume.ensures (syncs told_4))
    (ap length (sym c.bytes-2.ensures.value) ∙ c.bytes-2.ensures.len) (ap length (sym c.bytes-3.ensures.value) ∙ c.bytes-3.ensures.len) (ap length (sym c.closed_block.ensures.value) ∙ c.closed_block.ensures.len)
    (omega (arith, size)) (omega arith) (omega arith) (omega arith)) c.sync_volume.ensures.synced
