use Rattle.std.proofs.Common.{◌≤◌, ap, subst, arith}
use Rattle.log_ring.specs.volume_disk.Disk.{volume_pages}
use Rattle.log_ring.specs.Homes.{member_of}
use Rattle.log_ring.specs.disk_label.declared.anchor.Member.{Member}
use Rattle.log_ring.specs.disk_label.Label.{IsLabel, IsLabelOf, label_block}
use Rattle.log_ring.specs.disk_label.declared.label.Label.{Label}
use Rattle.log_recovery.specs.Members.{IsThere, label_wanted}
use Rattle.log_recovery.proofs.Labels.{in_either, volume_there}
use Rattle.log_recovery.proofs.members.label_of.Goals as goal

pub returns-in-Ok-Some-clause-there : goal.returns-in-Ok-Some-clause-there
returns-in-Ok-Some-clause-there g c =
    let sizes = (g.R.Rack.disk c.args.rack.now).sizes in
    let some : 1 ≤ volume_pages sizes c.args.vol = omega (arith, c.pages.ensures, c.max.ensures, c.if-pages-max.false) in
    let pages : (member_of c.args.anchor.now c.args.vol).pages ≤ volume_pages sizes c.args.vol =
    omega (arith, c.pages.ensures, c.max.ensures, c.if-pages-max.false, ap (λ (m : Member). m.pages) c.member_of-pages.ensures) in
    in_either c.version_under.result (IsThere sizes c.args.anchor.now c.args.vol) (record { volume = volume_there sizes c.args.vol some; pages = pages })

pub returns-in-Ok-None-clause-label : goal.returns-in-Ok-None-clause-label
returns-in-Ok-None-clause-label g c told labelled =
    let old = g.R.Rack.disk c.args.rack.now in
    let most = volume_pages old.sizes c.args.vol in
    let none : (label : Label) → ¬ IsLabel most c.args.vol label (label_block old.now.contents c.args.vol) =
    subst (IsLabelOf most c.args.vol (label_block old.now.contents c.args.vol)) c.in-Ok-None.field-0-is (c.in-Ok-None.ensures.label told labelled.there) in
    none (label_wanted old.now.contents c.args.anchor.now c.args.vol) labelled.label
