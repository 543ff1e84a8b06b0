use Rattle.std.proofs.Common.{◌≡◌, ◌∙◌, Contains, List, get_or, refl, sym, ap, subst}
use Rattle.metadata_cells.specs.domain_base.declared.place.CellAt.{CellAt}
use Rattle.cell_chains.specs.Links.{IsInUse}
use Rattle.cell_chains.proofs.Each.{Entry, all_found, found_more}
use Rattle.metadata_cells.proofs.OfSortedSets.Items.{item_of}
use Rattle.cell_chains.specs.Reading.{AreElsewhere, IsRunAt}
use Rattle.cell_chains.specs.declared.run.FileRun.{FileRun}
use Rattle.cell_chains.proofs.ReadRuns.{other_cells, records_at, used_at}
use Rattle.cell_chains.proofs.SaidPlaces.{said_at}
use Rattle.cell_chains.proofs.reading.read_runs.Goals as goal

pub loop-at-preserved : goal.loop-at-preserved
loop-at-preserved g c =
    let pages = g.M.MetaPages.pages c.args.pages.now in
    let links = c.args.links.now in
    let lent = c.as_slice-at-items.result.now in
    let number = c.loop-at.at-index in
    let entry = c.loop-at-item.result in
    let put = c.in_ok-push_cell.ensures in
    let at_place = item_of {X = Entry} lent lent number entry refl c.loop-at-test.true c.loop-at-item.is in
    let used = used_at lent c.as_slice-at-items.ensures.rising c.as_slice-at-items.ensures.numbered links c.as_slice-at-items.ensures.value number entry c.loop-at-test.true at_place in
    let elsewhere : AreElsewhere entry.1.0 c.loop-at.runs.items =
    λ run among same.
    let (one, (k, below, is), (cell, stands, in_cell)) = (c.loop-at.invariant.each run).0 among in
    let here = subst (λ (l : List Entry). get_or l k one ≡ one) (sym c.as_slice-at-items.ensures.value) is in
    other_cells lent c.as_slice-at-items.ensures.rising c.as_slice-at-items.ensures.numbered k number one entry below c.loop-at-test.true here at_place
    (sym (records_at one.1.0 cell.records run in_cell) ∙ same) in
    record {
      each = found_more {X = FileRun} links lent c.as_slice-at-items.ensures.value (λ run at link. IsRunAt pages run at) (Contains c.loop-at.runs.items) number c.loop-at.invariant.each
          (Contains c.push_cell.new.runs.items) entry c.loop-at-test.true c.loop-at-item.is put.each;
      apart = λ one. put.apart (one entry.1.0 used) elsewhere (c.loop-at.invariant.apart one);
    }

pub returns-clause-each : goal.returns-clause-each
returns-clause-each g c run =
    let pages = g.M.MetaPages.pages c.args.pages.now in
    let found = all_found {X = FileRun} c.args.links.now c.as_slice-at-items.result.now c.as_slice-at-items.ensures.value (λ run at link. IsRunAt pages run at) (Contains c.loop-at.runs.items) c.loop-at.at-index c.loop-at.invariant.each
    c.as_slice-at-items.ensures.rising c.as_slice-at-items.ensures.numbered c.loop-at-test.false c.loop-at.auto.at-index-end run in (
      λ among.
          let (at, link, has, (cell, stands, in_cell)) = found.0 among in
          let same = records_at at cell.records run in_cell in
          subst (λ (a : CellAt). IsInUse c.args.links.now a × IsRunAt pages run a) (sym same) ((link, has), (cell, stands, in_cell)),
      λ ((link, has), is). found.1 (run.at, link, has, is),
    )

pub returns-clause-said : goal.returns-clause-said
returns-clause-said g c one at page home =
    let pages = g.M.MetaPages.pages c.args.pages.now in
    let links = c.args.links.now in
    let each = returns-clause-each g c in (
      λ (run, among, has).
          let (used, there) = (each run).0 among in
          let in_use : IsInUse links at = subst (IsInUse links) has.0 used in
          (in_use, (said_at pages at (one at in_use) page home).0 (run, subst (IsRunAt pages run) has.0 there, has)),
      λ (used, says).
          let (run, there, has) = (said_at pages at (one at used) page home).1 says in
          (run, (each run).1 (subst (λ (a : CellAt). IsInUse links a × IsRunAt pages run a) (sym has.0) (used, there)), has),
    )
