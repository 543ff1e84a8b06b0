use Rattle.std.proofs.Common.{◌≡◌, ◌∙◌, List, refl, subst, sym}
use Rattle.slot_files.proofs.OfVolumeDisk.Laws.{only_reads-then}
use Rattle.domain_faults.specs.Pages.{IsOnRack, PutsPage}
use Rattle.domain_faults.proofs.ReadPages.{puts_before, read_more, read_still}
use Rattle.domain_faults.proofs.members.read_volume.Goals as goal

pub put_page-requires : goal.put_page-requires
put_page-requires g c =
    subst (λ sizes. IsOnRack sizes (record { vol = c.args.vol; page = c.loop-page.page })) (sym c.loop-page.invariant.reads.touches.sizes)
    (c.requires (record { vol = c.args.vol; page = c.loop-page.page }) refl c.loop-page-test.true)

pub returns-in-Err-clause-reads : goal.returns-in-Err-clause-reads
returns-in-Err-clause-reads g c = only_reads-then (g.R.Rack.disk c.args.rack.now) (g.R.Rack.disk c.loop-page.rack) (g.R.Rack.disk c.put_page.new.rack) c.loop-page.invariant.reads c.put_page.ensures.reads

pub loop-page-preserved : goal.loop-page-preserved
loop-page-preserved g c =
    let old = g.R.Rack.disk c.args.rack.now in
    let mid = g.R.Rack.disk c.loop-page.rack in
    let so_far = c.loop-page.invariant in
    let images = c.args.redone.now.images in
    let before = g.M.MetaPages.pages c.loop-page.pages in
    let after = g.M.MetaPages.pages c.put_page.new.pages in
    let puts : PutsPage old images (record { vol = c.args.vol; page = c.loop-page.page }) before after = puts_before old mid so_far.reads images (record { vol = c.args.vol; page = c.loop-page.page }) before after c.in-Ok.ensures.put in
    record {
      reads = only_reads-then old mid (g.R.Rack.disk c.put_page.new.rack) so_far.reads c.put_page.ensures.reads;
      passed = c.in-Ok.ensures.passed ∙ so_far.passed;
      pages = read_more old images c.args.vol c.loop-page.page before after puts so_far.pages;
      kept = λ home was. read_still old images (record { vol = c.args.vol; page = c.loop-page.page }) before after puts home (so_far.kept home was);
    }
