use Rattle.std.proofs.Common.{◌≡◌, ℕ, ◌+◌, ◌<◌, List, [], ◌∷◌, ◌++◌, length, take, sym, ◌∙◌, ap, subst, arith}
use Rattle.std.proofs.lemmas.List.{length-take-le, take_more}
use Rattle.log_ring.specs.volume_disk.Image.{IsIn}
use Rattle.log_ring.specs.volume_disk.Run.{OnlyWrites}
use Rattle.log_ring.proofs.OfVolumeDisk.Laws.{only_writes-then, only_writes-wider}
use Rattle.log_ring.specs.declared.image.PageImage.{PageImage}
use Rattle.log_ring.specs.Groups.{AreImagesAt}
use Rattle.log_ring.specs.Ring.{IsOnPlaces, place_at, ring_byte}
use Rattle.log_ring.proofs.RingPlaces.{one_place}
use Rattle.meta_log.proofs.Bodies.{one_image_more}
use Rattle.meta_log.proofs.group.write_images.Goals as goal

pub returns-in_err-write_image-clause-writes : goal.returns-in_err-write_image-clause-writes
returns-in_err-write_image-clause-writes g c =
    let old = g.R.Rack.disk c.args.rack.now in
    let mid = g.R.Rack.disk c.loop-i.rack in
    let new = g.R.Rack.disk c.write_image.new.rack in
    let anchor = c.args.anchor.now in
    let place = c.args.place in
    let n = length c.args.images.now in
    let i = c.loop-i.i in
    only_writes-then old mid new (IsOnPlaces anchor place n) c.loop-i.invariant.writes
    (only_writes-wider mid new (IsIn anchor.log_vol (ring_byte anchor (place + i)) 8192) (IsOnPlaces anchor place n) (λ v k is. one_place anchor place i n v k c.loop-i-test.true is) c.write_image.ensures.writes)

pub loop-i-preserved : goal.loop-i-preserved
loop-i-preserved g c =
    let old = g.R.Rack.disk c.args.rack.now in
    let mid = g.R.Rack.disk c.loop-i.rack in
    let new = g.R.Rack.disk c.write_image.new.rack in
    let anchor = c.args.anchor.now in
    let place = c.args.place in
    let images = c.args.images.now in
    let n = length images in
    let i = c.loop-i.i in
    let image : PageImage = c.index-images-i.result in
    let so_far = c.loop-i.invariant in
    let lt : i < n = c.loop-i-test.true in
    let size : length (take i images) ≡ i = length-take-le i images (omega arith) in
    let few = c.requires.few in
    let more : take (i + 1) images ≡ take i images ++ image ∷ [] = take_more images i image lt ∙ ap (λ (x : PageImage). take i images ++ x ∷ []) (sym c.index-images-i.is) in
    record {
      writes =
          only_writes-then old mid new (IsOnPlaces anchor place n) so_far.writes
          (only_writes-wider mid new (IsIn anchor.log_vol (ring_byte anchor (place + i)) 8192) (IsOnPlaces anchor place n) (λ v k is. one_place anchor place i n v k lt is) c.write_image.ensures.writes);
      passed = c.in_ok-write_image.ensures.fault ∙ so_far.passed;
      few = omega (arith, so_far.few, c.write_image.ensures.few);
      written = λ told.
          let mid_told = so_far.writes.touches.told ∙ told in
          subst (λ (l : List PageImage). AreImagesAt new.now.contents anchor place l) (sym more)
          (one_image_more anchor place (take i images) image mid new mid_told (omega arith)
          (subst (λ (k : ℕ). OnlyWrites mid new (IsIn anchor.log_vol (ring_byte anchor (place + k)) 8192)) (sym size) c.write_image.ensures.writes)
          (so_far.written told)
          (subst (λ (k : ℕ). place_at new.now.contents anchor (place + k) ≡ image.page) (sym size) (c.in_ok-write_image.ensures.written mid_told)));
    }
