use Rattle.std.proofs.Common.{◌∙◌, ◌+◌, ◌<◌, refl, sym, arith, subst}
use Rattle.domain_layout.specs.page_store.Pages.{Pages}
use Rattle.domain_making.specs.Making.{new_frame}
use Rattle.domain_making.specs.Pages.{HasNewBitmaps}
use Rattle.domain_making.proofs.Brought.{bitmaps_next, new_bitmap_page}
use Rattle.domain_making.proofs.bringing.put_bitmap.Goals as goal

pub loop-number-init : goal.loop-number-init
loop-number-init g c = record {
  there = λ number within. absurd (omega (arith, within));
  before = refl;
}

pub loop-number-preserved : goal.loop-number-preserved
loop-number-preserved g c =
    let pages = g.M.MetaPages.pages in
    let frame = new_frame c.args.version c.args.pages in
    let number = c.loop-number.number in
    let within = subst (λ n. number < n) c.bitmap_pages-number-end.ensures c.loop-number-test.true in
    let is = new_bitmap_page c.args.version c.args.pages number c.args.bitmap.now c.bytes.result.now c.in_ok-page.page c.requires.some c.requires.most c.requires.used c.bytes.ensures within c.in_ok-page.ensures in
    record {
      there = subst (λ (p : Pages). HasNewBitmaps p frame (number + 1)) (sym c.in_ok-put_on_first.ensures.put)
          (bitmaps_next frame (pages c.loop-number.store) number c.in_ok-page.page c.loop-number.invariant.there is);
      before = c.put_on_first.ensures.before ∙ c.loop-number.invariant.before;
    }
