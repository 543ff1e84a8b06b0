use Rattle.std.proofs.Common.{◌↔◌, List, subst}
use Rattle.tag_faults.specs.domain_base.declared.place.Home.{Home}
use Rattle.tag_faults.specs.sorted_sets.Members.{IsIn}
use Rattle.tag_faults.specs.page_ways.Frame.{frame_in}
use Rattle.tag_faults.specs.cell_chains.Runs.{AreApart}
use Rattle.tag_faults.specs.cell_chains.declared.run.FileRun.{FileRun}
use Rattle.page_faults.specs.Wrong.{HasRun, IsWrongRun}
use Rattle.page_faults.proofs.FilesFound.{pages_all}
use Rattle.page_faults.proofs.all.extent_faults.Goals as goal

pub returns : goal.returns
returns g c good home =
    let pages = g.M.MetaPages.pages c.args.pages.now in
    let frame = frame_in c.args.frame.now in
    let owners = c.in_ok-owners.owners in
    let all = pages_all pages frame c.args.table.now owners.homes.items owners.runs.items c.in_ok-owners.ensures.tables (c.in_ok-owners.ensures.files good) home in
    let found_by = subst (λ (r : List FileRun). AreApart r → (h : Home) → IsIn c.in_ok-found.found h ↔ HasRun r (IsWrongRun frame owners.homes.items r) h) c.deref-2.ensures.value
    (subst (λ (l : List Home). AreApart c.deref-2.result.now → (h : Home) → IsIn c.in_ok-found.found h ↔ HasRun c.deref-2.result.now (IsWrongRun frame l c.deref-2.result.now) h) c.deref.ensures.value c.in_ok-found.ensures) in
    let found = found_by (c.in_ok-owners.ensures.apart good) home in
    ((λ is. all.0 (found.0 is)), (λ wrong. found.1 (all.1 wrong)))
