use Rattle.std.proofs.Common.{Contains, refl}
use Rattle.tag_faults.specs.page_ways.Frame.{frame_in}
use Rattle.tag_faults.proofs.OfSortedSets.Items.{item_of}
use Rattle.tag_faults.proofs.OfCellFaults.Walks.{is_link}
use Rattle.tag_faults.proofs.OfCellChains.Each.{Entry, all_found, found_more}
use Rattle.tag_faults.proofs.OfCellChains.ReadRuns.{used_at}
use Rattle.page_faults.specs.declared.indexes.IndexAt.{IndexAt}
use Rattle.page_faults.proofs.IndexesRead.{IsOf, all_named, found_elsewhere, once_more, put_index}
use Rattle.page_faults.proofs.indexes.read_indexes.Goals as goal

pub push_index-requires : goal.push_index-requires
push_index-requires g c =
    let lent = c.as_slice-at-items.result.now in
    let number = c.loop-at.at-index in
    let entry = c.loop-at-item.result in
    let (link, has) = used_at lent c.as_slice-at-items.ensures.rising c.as_slice-at-items.ensures.numbered c.args.links.now c.as_slice-at-items.ensures.value number entry c.loop-at-test.true
    (item_of {X = Entry} lent lent number entry refl c.loop-at-test.true c.loop-at-item.is) in
    (is_link (g.M.MetaPages.pages c.args.pages.now) (frame_in c.args.frame.now) c.args.links.now c.requires entry.1.0 link has).place

pub loop-at-preserved : goal.loop-at-preserved
loop-at-preserved g c =
    let pages = g.M.MetaPages.pages c.args.pages.now in
    let frame = frame_in c.args.frame.now in
    let links = c.args.links.now in
    let lent = c.as_slice-at-items.result.now in
    let number = c.loop-at.at-index in
    let entry = c.loop-at-item.result in
    let old = c.loop-at.indexes.items in
    let new = c.push_index.new.indexes.items in
    record {
      found = found_more {X = IndexAt} links lent c.as_slice-at-items.ensures.value (IsOf pages frame) (Contains old) number c.loop-at.invariant.found
          (Contains new) entry c.loop-at-test.true c.loop-at-item.is (put_index pages frame entry.1.0 entry.1.1 old new c.in_ok-push_index.ensures);
      once = once_more pages frame entry.1.0 old new c.in_ok-push_index.ensures
          (found_elsewhere pages frame lent c.as_slice-at-items.ensures.rising c.as_slice-at-items.ensures.numbered links c.as_slice-at-items.ensures.value old number entry c.loop-at-test.true
          (item_of {X = Entry} lent lent number entry refl c.loop-at-test.true c.loop-at-item.is) c.loop-at.invariant.found)
          c.loop-at.invariant.once;
    }

pub returns : goal.returns
returns g c =
    let pages = g.M.MetaPages.pages c.args.pages.now in
    let frame = frame_in c.args.frame.now in
    let indexes = c.loop-at.indexes.items in
    all_named pages frame c.args.links.now c.requires indexes
    (all_found {X = IndexAt} c.args.links.now c.as_slice-at-items.result.now c.as_slice-at-items.ensures.value (IsOf pages frame) (Contains indexes) c.loop-at.at-index c.loop-at.invariant.found
    c.as_slice-at-items.ensures.rising c.as_slice-at-items.ensures.numbered c.loop-at-test.false c.loop-at.auto.at-index-end)
    c.loop-at.invariant.once
