use Rattle.std.proofs.Common.{inl, inr, refl, ⊎_elim}
use Rattle.tag_faults.specs.domain_base.declared.place.Home.{Home}
use Rattle.tag_faults.specs.page_ways.Frame.{frame_in}
use Rattle.tag_faults.proofs.OfSortedSets.Items.{item_of}
use Rattle.tag_faults.specs.cell_chains.Links.{cells_of}
use Rattle.tag_faults.proofs.OfCellFaults.Walks.{is_link}
use Rattle.tag_faults.proofs.OfCellChains.Each.{Entry, SomeBelow, all_found, below_more}
use Rattle.tag_faults.proofs.OfCellChains.ReadRuns.{used_at}
use Rattle.tag_faults.proofs.UsedCells.{used_link}
use Rattle.page_faults.specs.Owned.{IsIndexOf}
use Rattle.page_faults.proofs.homes.push_indexes.Goals as goal

pub push_index-requires : goal.push_index-requires
push_index-requires g c =
    let lent = c.as_slice-at-items.result.now in
    let number = c.loop-at.at-index in
    let entry = c.loop-at-item.result in
    let (link, has) = used_at lent c.as_slice-at-items.ensures.rising c.as_slice-at-items.ensures.numbered c.args.links.now c.as_slice-at-items.ensures.value number entry c.loop-at-test.true
    (item_of {X = Entry} lent lent number entry refl c.loop-at-test.true c.loop-at-item.is) in
    (is_link (g.M.MetaPages.pages c.args.pages.now) (frame_in c.args.frame.now) c.args.links.now c.requires entry.1.0 link has).place

pub loop-at-preserved : goal.loop-at-preserved
loop-at-preserved g c home =
    let pages = g.M.MetaPages.pages c.args.pages.now in
    let frame = frame_in c.args.frame.now in
    let lent = c.as_slice-at-items.result.now in
    let number = c.loop-at.at-index in
    let entry = c.loop-at-item.result in
    let more = below_more (cells_of c.args.links.now) (λ at link. IsIndexOf pages frame at home) number entry (item_of {X = Entry} (cells_of c.args.links.now) lent number entry c.as_slice-at-items.ensures.value c.loop-at-test.true c.loop-at-item.is) in
    let put = c.in_ok-push_index.ensures home in
    let before = c.loop-at.invariant home in (
      λ is. ⊎_elim (λ was. ⊎_elim (λ first. inl first) (λ low. inr (more.0 (inl low))) (before.0 was)) (λ here. inr (more.0 (inr here))) (put.0 is),
      λ which. put.1 (⊎_elim (λ first. inl (before.1 (inl first))) (λ below. ⊎_elim (λ low. inl (before.1 (inr low))) (λ here. inr here) (more.1 below)) which),
    )

pub returns : goal.returns
returns g c home =
    let pages = g.M.MetaPages.pages c.args.pages.now in
    let frame = frame_in c.args.frame.now in
    let links = c.args.links.now in
    let all = all_found {X = Home} links c.as_slice-at-items.result.now c.as_slice-at-items.ensures.value (λ h at link. IsIndexOf pages frame at h) (λ h. SomeBelow (cells_of links) (λ at link. IsIndexOf pages frame at h) c.loop-at.at-index) c.loop-at.at-index
    (λ h. ((λ is. is), (λ is. is))) c.as_slice-at-items.ensures.rising c.as_slice-at-items.ensures.numbered c.loop-at-test.false c.loop-at.auto.at-index-end home in
    let are = c.loop-at.invariant home in (
      λ is. ⊎_elim (λ first. inl first) (λ below. let (at, link, has, of) = all.0 below in inr (at, of)) (are.0 is),
      λ which. are.1 (⊎_elim (λ first. inl first) (λ (at, of).
          let (link, has) = used_link pages frame links c.requires at of.1.cell of.1.is in inr (all.1 (at, link, has, of))) which),
    )
