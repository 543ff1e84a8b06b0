use Rattle.std.proofs.Common.{◌≡◌, ◌+◌, ◌++◌, ◌∷◌, [], ℕ, List, refl, sym, subst}
use Rattle.log_ring.specs.volume_disk.Disk.{Tells}
use Rattle.log_ring.specs.volume_disk.Image.{Image}
use Rattle.log_ring.proofs.OfVolumeDisk.Laws.{only_reads-then}
use Rattle.log_ring.specs.Header.{IsRead}
use Rattle.log_ring.specs.declared.header.HeaderRead.TheVariants.{Group as AGroup}
use Rattle.log_ring.specs.Ring.{place_at, ring_page}
use Rattle.log_recovery.specs.Fault.{IfNotADomain}
use Rattle.log_recovery.specs.Groups.{HasScanned, IsNoGroup, MayBeNext}
use Rattle.log_recovery.specs.declared.fault.RecoverFault.{RecoverFault}
use Rattle.log_recovery.proofs.Reading.{held_before, held_now, not_a_domain, told_on}
use Rattle.log_recovery.proofs.Scanning.{loggable_images, loggable_more, no_header, no_next, one_group, seen_closed}
use Rattle.log_recovery.proofs.scan.read_group.Goals as goal

pub returns-in-Ok-Closed-clause-more : goal.returns-in-Ok-Closed-clause-more
returns-in-Ok-Closed-clause-more g c told groups scanned =
    let image = (g.R.Rack.disk c.args.rack.now).now.contents in
    let anchor = c.args.anchor.now in
    let place = anchor.start + c.args.scan.now.used in (scanned, seen_closed image anchor place (subst (IsRead (place_at image anchor place)) c.in-Ok-Closed.field-0-is (c.in-Ok-Closed.ensures.header told)))

pub returns-in-Ok-Bad-clause-wrong : goal.returns-in-Ok-Bad-clause-wrong
returns-in-Ok-Bad-clause-wrong g c =
    let old = g.R.Rack.disk c.args.rack.now in
    let anchor = c.args.anchor.now in
    let scan = c.args.scan.now in
    let place = anchor.start + scan.used in
    subst (λ (fault : RecoverFault). IfNotADomain fault (λ vol at. (vol ≡ anchor.log_vol) × (at ≡ ring_page anchor place) × (Tells old → IsNoGroup old.now.contents anchor scan.used scan.next))) (sym c.no_group.ensures) (
      refl,
      refl,
      λ told. no_header old.now.contents anchor scan.used scan.next (subst (IsRead (place_at old.now.contents anchor place)) c.in-Ok-Bad.field-0-is (c.in-Ok-Bad.ensures.header told)),
    )

pub returns-in-Ok-clause-reads : goal.returns-in-Ok-clause-reads
returns-in-Ok-clause-reads g c = only_reads-then (g.R.Rack.disk c.args.rack.now) (g.R.Rack.disk c.read_next.new.rack) (g.R.Rack.disk c.next_group.new.rack) c.read_next.ensures.reads c.next_group.ensures.reads

pub returns-in-Ok-Group-clause-reads : goal.returns-in-Ok-Group-clause-reads
returns-in-Ok-Group-clause-reads g c = only_reads-then (g.R.Rack.disk c.args.rack.now) (g.R.Rack.disk c.read_next.new.rack) (g.R.Rack.disk c.next_group.new.rack) c.read_next.ensures.reads c.next_group.ensures.reads

pub returns-in-Ok-clause-loggable : goal.returns-in-Ok-clause-loggable
returns-in-Ok-clause-loggable g c old =
    let anchor = c.args.anchor.now in
    let taken = c.in-Ok.ensures.taken.images in
    loggable_more anchor c.args.scan.now.images.items taken.added c.next_group.new.scan.images.items taken.is old (loggable_images anchor taken.added c.in-Ok-Group.header.homes taken.at c.in-Ok.ensures.next.loggable)

pub returns-in-Ok-clause-more : goal.returns-in-Ok-clause-more
returns-in-Ok-clause-more g c told groups scanned =
    let old = g.R.Rack.disk c.args.rack.now in
    let mid = g.R.Rack.disk c.read_next.new.rack in
    let anchor = c.args.anchor.now in
    let place = anchor.start + c.args.scan.now.used in
    let reads = c.read_next.ensures.reads in
    let read : IsRead (place_at old.now.contents anchor place) (AGroup c.in-Ok-Group.header) = subst (IsRead (place_at old.now.contents anchor place)) c.in-Ok-Group.field-0-is (c.in-Ok-Group.ensures.header told) in
    let one =
    one_group mid anchor groups c.in-Ok-Group.header c.args.scan.now c.next_group.new.scan (told_on old mid reads told)
    (held_now (λ (sizes : List ℕ) (image : Image). IsRead (place_at image anchor place) (AGroup c.in-Ok-Group.header)) old mid reads told read) c.in-Ok.ensures.next c.in-Ok.ensures.taken
    (held_now (λ (sizes : List ℕ) (image : Image). HasScanned image anchor groups c.args.scan.now) old mid reads told scanned) in
    (one.0, held_before (λ (sizes : List ℕ) (image : Image). HasScanned image anchor (groups ++ one.0 ∷ []) c.next_group.new.scan) old mid reads told one.1)

pub returns-in-Ok-Group-clause-wrong : goal.returns-in-Ok-Group-clause-wrong
returns-in-Ok-Group-clause-wrong g c =
    let old = g.R.Rack.disk c.args.rack.now in
    let anchor = c.args.anchor.now in
    let scan = c.args.scan.now in
    let place = anchor.start + scan.used in
    not_a_domain c.in-Err-next_group.fault
    (λ vol at. (vol ≡ anchor.log_vol) × (at ≡ ring_page anchor place) × (¬ MayBeNext anchor scan.used scan.next c.in-Ok-Group.header))
    (λ vol at. (vol ≡ anchor.log_vol) × (at ≡ ring_page anchor place) × (Tells old → IsNoGroup old.now.contents anchor scan.used scan.next))
    (λ vol at wrong. (
      wrong.0,
      wrong.1,
      λ told. no_next old.now.contents anchor scan.used scan.next c.in-Ok-Group.header (subst (IsRead (place_at old.now.contents anchor place)) c.in-Ok-Group.field-0-is (c.in-Ok-Group.ensures.header told)) wrong.2,
    ))
    c.in-Err-next_group.ensures.wrong
