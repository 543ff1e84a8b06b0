use Rattle.std.proofs.Common.{sym, ◌∙◌}
use Rattle.std.proofs.lemmas.Result.{on_ok_weaker}
use Rattle.disk_label.specs.volume_disk.Disk.{Tells}
use Rattle.disk_label.proofs.OfVolumeDisk.Laws.{only_writes-synced}
use Rattle.log_ring.specs.Settling.{IsAtHomes}
use Rattle.log_ring.proofs.Homeward.{anchor_stays, anchor_written, brought_home, home_after_syncs, homes_written}
use Rattle.log_ring.proofs.settling.bring_home.Goals as goal

pub returns-in_err-write_images-clause-brings : goal.returns-in_err-write_images-clause-brings
returns-in_err-write_images-clause-brings g c = homes_written c.args.images.now c.args.next.now (g.R.Rack.disk c.args.rack.now) (g.R.Rack.disk c.write_images.new.rack) c.requires.homes c.write_images.ensures.writes

pub returns-in_err-sync_homes-clause-brings : goal.returns-in_err-sync_homes-clause-brings
returns-in_err-sync_homes-clause-brings g c =
    let d0 = g.R.Rack.disk c.args.rack.now in
    let d1 = g.R.Rack.disk c.write_images.new.rack in
    let d2 = g.R.Rack.disk c.sync_homes.new.rack in
    homes_written c.args.images.now c.args.next.now d0 d2 c.requires.homes (only_writes-synced d0 d1 d2 (IsAtHomes c.args.images.now) c.write_images.ensures.writes c.sync_homes.ensures.writes)

pub write_anchor-requires-clause-next : goal.write_anchor-requires-clause-next
write_anchor-requires-clause-next g c = λ told.
    let d0 = g.R.Rack.disk c.args.rack.now in
    let d1 = g.R.Rack.disk c.write_images.new.rack in
    let d2 = g.R.Rack.disk c.sync_homes.new.rack in
    let writes = only_writes-synced d0 d1 d2 (IsAtHomes c.args.images.now) c.write_images.ensures.writes c.sync_homes.ensures.writes in
    let told-0 : Tells d0 = sym writes.touches.told ∙ told in
    let found = c.requires.next told-0 in
    (found.0, anchor_stays c.args.images.now d0 d2 c.requires.homes writes told-0 found.0 found.1, found.2)

pub returns-clause-brings : goal.returns-clause-brings
returns-clause-brings g c =
    let d0 = g.R.Rack.disk c.args.rack.now in
    let d1 = g.R.Rack.disk c.write_images.new.rack in
    let d2 = g.R.Rack.disk c.sync_homes.new.rack in
    let d3 = g.R.Rack.disk c.write_anchor.new.rack in
    let images = c.args.images.now in
    anchor_written images c.args.next.now d0 d2 d3 c.requires.homes c.requires.outside c.requires.ring.behind c.requires.whole.slot
    (only_writes-synced d0 d1 d2 (IsAtHomes images) c.write_images.ensures.writes c.sync_homes.ensures.writes)
    (λ told. home_after_syncs images d1 d2 c.sync_homes.ensures.writes (c.write_images.ensures.writes.touches.told ∙ told) (c.in_ok-write_images.ensures.home told))
    (λ told. c.in_ok-sync_homes.ensures.synced (c.write_images.ensures.writes.touches.told ∙ told))
    c.write_anchor.ensures.writes

pub returns-clause-done : goal.returns-clause-done
returns-clause-done g c =
    let d0 = g.R.Rack.disk c.args.rack.now in
    let d1 = g.R.Rack.disk c.write_images.new.rack in
    let d2 = g.R.Rack.disk c.sync_homes.new.rack in
    let d3 = g.R.Rack.disk c.write_anchor.new.rack in
    let images = c.args.images.now in
    on_ok_weaker c.write_anchor.result (λ done.
    brought_home images c.args.next.now d0 d2 d3 c.requires.homes c.requires.outside c.requires.ring.behind c.requires.whole.slot
    (only_writes-synced d0 d1 d2 (IsAtHomes images) c.write_images.ensures.writes c.sync_homes.ensures.writes)
    (λ told. home_after_syncs images d1 d2 c.sync_homes.ensures.writes (c.write_images.ensures.writes.touches.told ∙ told) (c.in_ok-write_images.ensures.home told))
    (λ told. c.in_ok-sync_homes.ensures.synced (c.write_images.ensures.writes.touches.told ∙ told))
    c.write_anchor.ensures.writes done) c.write_anchor.ensures.done
