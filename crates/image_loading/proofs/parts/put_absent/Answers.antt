use Rattle.std.proofs.Common.{◌∙◌, Some, ap}
use Rattle.slot_files.specs.page_store.Pages.{with_page}
use Rattle.slot_files.proofs.OfVolumeDisk.Laws.{only_reads-none}
use Rattle.image_loading.proofs.Brought.{brings_one}
use Rattle.image_loading.proofs.PagesRead.{kept_beside}
use Rattle.image_loading.proofs.parts.put_absent.Goals as goal

pub returns-clause-brings : goal.returns-clause-brings
returns-clause-brings g c disk is =
    let pages = g.M.MetaPages.pages in
    brings_one disk disk (pages c.args.pages.now) (pages c.put.new.self) c.args.home.now c.in_ok-page.page (only_reads-none disk)
    (c.put.ensures.value ∙ ap (with_page c.args.home.now c.in_ok-page.page) c.reserve.ensures.same) c.requires.none (λ told. ap Some c.in_ok-page.ensures ∙ is told)

pub returns-clause-kept : goal.returns-clause-kept
returns-clause-kept g c other some =
    let pages = g.M.MetaPages.pages in
    kept_beside (pages c.args.pages.now) (pages c.put.new.self) c.args.home.now other c.in_ok-page.page
    (c.put.ensures.value ∙ ap (with_page c.args.home.now c.in_ok-page.page) c.reserve.ensures.same) c.requires.none some
