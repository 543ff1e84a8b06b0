use Rattle.std.proofs.Common.{◌≡◌, ◌<◌, ◌≤◌, length, get_or, sym, ap, ◌∙◌, arith}
use Rattle.std.proofs.lemmas.List.{get_or-map, length-map}
use Rattle.log_ring.specs.Header.{begun, header_for}
use Rattle.log_ring.specs.Images.{homes_of}
use Rattle.log_ring.specs.declared.image.PageImage.{PageImage}
use Rattle.log_ring.proofs.HeaderPages.{all_put, header_written, length-begun, one_more_place, one_more_put, overwritten-nothing}
use Rattle.log_ring.proofs.page.write_header_of.Goals as goal

pub loop-i-init : goal.loop-i-init
loop-i-init c = record {
  bytes = c.begin.ensures.bytes ∙ ap (begun c.args.page.now c.args.number) (sym (length-map c.args.images.now (λ (image : PageImage). image.home))) ∙ sym (overwritten-nothing (begun c.args.page.now c.args.number (length (homes_of c.args.images.now))) 528);
  places = λ i d lt. absurd (omega (arith, lt));
}

pub loop-i-preserved : goal.loop-i-preserved
loop-i-preserved c =
    let images = c.args.images.now in
    let homes = homes_of images in
    let lt : c.loop-i.i < length homes = omega (arith, length-map images (λ (image : PageImage). image.home), c.loop-i-test.true) in
    let is : c.index-images-i.result.home ≡ get_or homes c.loop-i.i c.index-images-i.result.home =
    ap (λ (image : PageImage). image.home) c.index-images-i.is ∙ sym (get_or-map (λ (image : PageImage). image.home) images c.loop-i.i c.index-images-i.result c.index-images-i.result.home c.loop-i-test.true) in
    record {
      bytes = one_more_put (begun c.args.page.now c.args.number (length homes)) c.loop-i.page c.put_home.new.page homes c.loop-i.i c.index-images-i.result.home (length-begun c.args.page.now c.args.number (length homes) c.begin.ensures.len)
          lt c.requires.most is c.loop-i.invariant.bytes c.put_home.ensures.bytes;
      places = one_more_place homes c.loop-i.i c.index-images-i.result.home lt is c.put_home.ensures.place c.loop-i.invariant.places;
    }

pub returns-clause-bytes : goal.returns-clause-bytes
returns-clause-bytes c =
    let images = c.args.images.now in
    let all : length (homes_of images) ≤ c.loop-i.i = omega (arith, length-map images (λ (image : PageImage). image.home), c.loop-i-test.false) in
    all_put c.args.page.now c.loop-i.page c.args.number c.loop-i.i (homes_of images) c.begin.ensures.len c.requires.most all c.loop-i.invariant.bytes

pub returns-clause-header : goal.returns-clause-header
returns-clause-header c =
    let images = c.args.images.now in
    header_written c.args.page.now c.loop-i.page (header_for c.args.number images) c.begin.ensures.len (returns-clause-bytes c) c.requires
    (λ i d lt. c.loop-i.invariant.places i d (omega (arith, lt, length-map images (λ (image : PageImage). image.home), c.loop-i-test.false)))
