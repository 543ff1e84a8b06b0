use Rattle.std.proofs.Common.{◌↔◌, List, subst}
use Rattle.tag_faults.specs.domain_base.declared.place.Home.{Home}
use Rattle.tag_faults.specs.sorted_sets.Members.{IsIn}
use Rattle.tag_faults.specs.page_ways.Frame.{frame_in}
use Rattle.tag_faults.specs.cell_chains.declared.run.FileRun.{FileRun}
use Rattle.page_faults.specs.Wrong.{IsWrongBitmap}
use Rattle.page_faults.proofs.FilesFound.{bits_all}
use Rattle.page_faults.proofs.all.bitmap_faults.Goals as goal

pub returns : goal.returns
returns g c good home =
    let pages = g.M.MetaPages.pages c.args.pages.now in
    let frame = frame_in c.args.frame.now in
    let owners = c.in_ok-owners.owners in
    let all = bits_all pages frame c.args.table.now owners.homes.items owners.runs.items c.in_ok-owners.ensures.tables (c.in_ok-owners.ensures.files good) home in
    let found = subst (λ (r : List FileRun). IsIn c.in_ok-found.found home ↔ IsWrongBitmap pages frame owners.homes.items r home) c.deref-2.ensures.value
    (subst (λ (h : List Home). IsIn c.in_ok-found.found home ↔ IsWrongBitmap pages frame h c.deref-2.result.now home) c.deref.ensures.value (c.in_ok-found.ensures home)) in
    ((λ is. all.0 (found.0 is)), (λ wrong. found.1 (all.1 wrong)))
